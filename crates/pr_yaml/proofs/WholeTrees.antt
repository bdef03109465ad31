-- From the run of the reader over all tokens to their tree, or to the place where they stop.
use Rattle.std.proofs.Common.{◌≡◌, ℕ, ◌-◌, ◌≤◌, List, [], length, Bool, false, Option, Some, None, refl, ap}
use Rattle.std.specs.Prelude.{◌==◌, option_map}
use Rattle.pr_words.specs.pr_forms.Form.{rule, Reads, IsFirstBad}
use Rattle.pr_words.specs.pr_forms.Run.{good, bad, run_rule, ReaderOutcome}
use Rattle.pr_words.specs.pr_forms.Reading.{reading}
use Rattle.pr_words.proofs.FormsEnding.{given_reads, reads_given, given_place}
use Rattle.pr_words.proofs.FormsPlaces.{one_place}
use Rattle.pr_words.proofs.FormsPublic.{read_whole, not_whole, no_reading, rest_place, bad_place as bad_run_place, end_place, left_short}
use Rattle.pr_yaml.specs.declared.yaml_scan.token.Token.{Token}
use Rattle.pr_yaml.specs.Tree.{Tree}
use Rattle.pr_yaml.specs.Grammar.{Letter, letter_of, letters, YamlValue, or_absent, Whole, production}
use Rattle.pr_yaml.specs.GrammarTable.{table, rank, steps}
use Rattle.pr_yaml.specs.Trees.{stop, tree_in}
use Rattle.pr_yaml.specs.private.Reader.{maybe_node}
use Rattle.pr_yaml.proofs.TreeTable.{known}
use Rattle.pr_yaml.proofs.TreesEnd.{ends}
use Rattle.pr_yaml.proofs.Ways.{R}

-- the place where tokens stop is the first bad one
pub stop_place : (d : Bool) (room : ℕ) (ts : List Letter) → IsFirstBad (production d) (rule (Whole room)) ts (stop d room ts)
unfolding stop
stop_place d room ts = given_place (production d) (table d) (known d) rank steps (ends d) (Whole room) ts

pub stop_is : (d : Bool) (room : ℕ) (ts : List Letter) (place : ℕ) → IsFirstBad (production d) (rule (Whole room)) ts place → stop d room ts ≡ place
stop_is d room ts place p = one_place (production d) (rule (Whole room)) ts (stop d room ts) place (stop_place d room ts) p

-- what is read is the tree
pub tree_is : (d : Bool) (room : ℕ) (ts : List Letter) (v : YamlValue) → Reads (production d) (rule (Whole room)) ts v [] → tree_in d room ts ≡ Some (or_absent 1 v)
unfolding tree_in
tree_is d room ts v r = ap (option_map (or_absent 1)) (reads_given (production d) (table d) (known d) rank steps (ends d) (Whole room) ts v r)

no_value : (o : Option YamlValue) → ((v : YamlValue) → o ≡ Some v → ⊥) → option_map (or_absent 1) o ≡ None
no_value None h = refl
no_value (Some v) h = absurd (h v refl)

pub no_tree : (d : Bool) (room : ℕ) (ts : List Letter) → ((v : YamlValue) → Reads (production d) (rule (Whole room)) ts v [] → ⊥) → tree_in d room ts ≡ None
unfolding tree_in
no_tree d room ts h = no_value _ (λ v e. h v (given_reads (production d) (table d) (known d) rank steps (ends d) (Whole room) ts v e))

some_value : (o : Option YamlValue) (t : Tree) → option_map (or_absent 1) o ≡ Some t → (v : YamlValue) × ((o ≡ Some v) × (or_absent 1 v ≡ t))
some_value None t e = absurd cc
some_value (Some v) t e = (v, (refl, cc))

-- and the tree is read
pub tree_read : (d : Bool) (room : ℕ) (ts : List Letter) (t : Tree) → tree_in d room ts ≡ Some t → (v : YamlValue) × (Reads (production d) (rule (Whole room)) ts v [] × (or_absent 1 v ≡ t))
unfolding tree_in
tree_read d room ts t e =
    let x = some_value (reading (production d) (table d) steps (rule (Whole room)) ts) t e in
    (x.0, (given_reads (production d) (table d) (known d) rank steps (ends d) (Whole room) ts x.0 x.1.0, x.1.1))

module _ (d : Bool) (room : ℕ) (ts rest : List Token) where
  whole : (o : ReaderOutcome Letter YamlValue) → R d (maybe_node 0 room) (letters ts) o → R d (rule (Whole room)) (letters ts) o
  whole o h = run_rule h

  pub all_read : (v : YamlValue) → R d (maybe_node 0 room) (letters ts) (good v (letters rest)) → length rest ≡ 0 → (stop d room (letters ts) ≡ length ts) × (tree_in d room (letters ts) ≡ Some (or_absent 1 v))
  all_read v h e =
      let run = whole (good v (letters rest)) h in (
        stop_is d room (letters ts) (length ts) (end_place letter_of (production d) (table d) (known d) (Whole room) ts rest v run e),
        tree_is d room (letters ts) v (read_whole letter_of (production d) (table d) (known d) (Whole room) ts rest v run e),
      )

  pub some_left : (v : YamlValue) (b : Bool) → R d (maybe_node 0 room) (letters ts) (good v (letters rest)) → b ≡ (length rest == 0) → b ≡ false →
      (stop d room (letters ts) ≡ length ts - length rest) × (tree_in d room (letters ts) ≡ None)
  some_left v b h e f =
      let run = whole (good v (letters rest)) h in (
        stop_is d room (letters ts) (length ts - length rest) (rest_place letter_of (production d) (table d) (known d) (Whole room) ts rest v run),
        no_tree d room (letters ts) (λ w r. not_whole letter_of (production d) (table d) (known d) (Whole room) ts rest v w b run e f r),
      )

  pub none_read : R d (maybe_node 0 room) (letters ts) (bad (letters rest)) → (stop d room (letters ts) ≡ length ts - length rest) × (tree_in d room (letters ts) ≡ None)
  none_read h =
      let run = whole (bad (letters rest)) h in (
        stop_is d room (letters ts) (length ts - length rest) (bad_run_place letter_of (production d) (table d) (known d) (Whole room) ts rest run),
        no_tree d room (letters ts) (λ w r. no_reading letter_of (production d) (table d) (known d) (Whole room) ts rest w run r),
      )

  pub none_short : R d (maybe_node 0 room) (letters ts) (bad (letters rest)) → length rest ≤ length ts
  none_short h = left_short letter_of (production d) (table d) (known d) (Whole room) ts rest (bad (letters rest)) h refl
