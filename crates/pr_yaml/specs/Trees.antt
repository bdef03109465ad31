-- The tree of tokens, and up to where they can go on, as functions of them.
use Rattle.std.specs.Prelude.{◌≡◌, ℕ, Option, None, Bool, nat_le, List, length, option_map}
use Rattle.pr_words.specs.pr_forms.Form.{rule}
use Rattle.pr_words.specs.pr_forms.Reading.{reading, bad_place}
use Rattle.pr_yaml.specs.declared.whole.TreeFault.{TreeFault}
use Rattle.pr_yaml.specs.declared.whole.TreeFault.TheVariants.{Bad, Memory}
use Rattle.pr_yaml.specs.Tree.{Tree}
use Rattle.pr_yaml.specs.Grammar.{Letter, or_absent, Whole, production}
use Rattle.pr_yaml.specs.GrammarTable.{table, steps}

-- How many maps and lists may stand in one another.
abbrev pub levels : ℕ
levels = 64

-- The place of the first token up to which the tokens cannot go on; their number, where all can.
-- Keys of a map are distinct or not, and there is room for so many maps and lists in one another.
unfoldable pub stop : Bool → ℕ → List Letter → ℕ
stop distinct room ts = bad_place (production distinct) (table distinct) steps (rule (Whole room)) ts

-- whether all tokens can go on
abbrev pub goes_on : Bool → ℕ → List Letter → Bool
goes_on distinct room ts = nat_le (length ts) (stop distinct room ts)

-- The tree of all tokens, where they have one. No tokens are an absent node on the first line.
unfoldable pub tree_in : Bool → ℕ → List Letter → Option Tree
tree_in distinct room ts =
    option_map (or_absent 1) (reading (production distinct) (table distinct) steps (rule (Whole room)) ts)

-- Why tokens have no tree: they stop at a place; or want of memory, of which nothing is said.
abbrev pub IsNoTree : Bool → ℕ → List Letter → TreeFault → Type 0
IsNoTree distinct room ts (Bad place) = (stop distinct room ts ≡ place) × (tree_in distinct room ts ≡ None)
IsNoTree distinct room ts Memory = Unit {0}
