-- What the functions of the reader say of themselves: no rule of the format.
use Rattle.std.specs.Prelude.{◌≡◌, ℕ, ◌≤◌, ◌++◌, length, Bool, false, Option, Some, None, List, ◌∷◌, map}
use Rattle.pr_words.specs.pr_forms.Form.{Form, nothing, either, rule}
use Rattle.pr_words.specs.pr_forms.Run.{good}
use Rattle.pr_words.specs.pr_forms.Carries.{ChoosesNone}
use Rattle.pr_words.specs.pr_forms.Language.{Gives, Carries}
use Rattle.pr_yaml.specs.declared.yaml_scan.token.Token.{Token}
use Rattle.pr_yaml.specs.declared.node.Node.{Node}
use Rattle.pr_yaml.specs.declared.node.MapEntry.{MapEntry}
use Rattle.pr_yaml.specs.declared.tokens.Start.{Start}
use Rattle.pr_yaml.specs.declared.tokens.Start.TheVariants.{Text, Map, List as ListStart, FlowList, FlowMap}
use Rattle.pr_yaml.specs.Tree.{EntryTree, tree_of, entry_tree_of}
use Rattle.pr_yaml.specs.Grammar.{Letter, letters, key_at, YamlValue, absent, or_absent, Rule, Leaf, Node as NodeRule, Map as MapRule, Items, FlowList as FlowListRule, FlowMap as FlowMapRule, is_taken, entry_from, pair_from}
use Rattle.pr_yaml.specs.GrammarTable.{yaml}

-- the rule that a node's first token chooses, with the room inside it
abbrev pub rule_of : ℕ → Start → Rule
rule_of inner Text = Leaf
rule_of inner (Map line column) = MapRule line column inner
rule_of inner (ListStart line column) = Items line column inner
rule_of inner FlowList = FlowListRule inner
rule_of inner FlowMap = FlowMapRule inner

-- the keys of entries
abbrev pub keys_of : List EntryTree → List (List ℕ)
keys_of = map (λ e. e.key)

abbrev pub keys_in : List MapEntry → List (List ℕ)
keys_in es = keys_of (map entry_tree_of es)

-- the token, where it is a key
abbrev pub key_among : Letter → Option Letter
key_among (key_at line column key) = Some (key_at line column key)
key_among _ = None

-- A key that its map may take comes next, at a column or anywhere, and that none does.
pub record IsEntry (distinct : Bool) (column : ℕ) (keys : List (List ℕ)) (line : ℕ) (key : List ℕ) (ts rest : List Letter) : Type 0 where
  pub is : ts ≡ key_at line column key ∷ rest
  pub fresh : is_taken distinct key keys ≡ false

abbrev pub NoEntry : Bool → ℕ → List (List ℕ) → List Letter → Type 0
NoEntry distinct column keys ts = (room : ℕ) → ChoosesNone (entry_from distinct column room keys) ts

pub record IsPair (distinct : Bool) (keys : List (List ℕ)) (line : ℕ) (key : List ℕ) (ts rest : List Letter) : Type 0 where
  pub column : ℕ
  pub is : ts ≡ key_at line column key ∷ rest
  pub fresh : is_taken distinct key keys ≡ false

abbrev pub NoPair : Bool → List (List ℕ) → List Letter → Type 0
NoPair distinct keys ts = (room : ℕ) → ChoosesNone (pair_from distinct room keys) ts

-- a node at a column or further on, or none: what may stand after a dash, and what a whole text is
abbrev pub maybe_node : ℕ → ℕ → Form Letter Rule YamlValue
maybe_node column room = either (rule (NodeRule column room)) (nothing absent)

-- The form reads a value, which is the node, or none, and then the node is the absent one of the
-- line.
abbrev pub GivesValue : Bool → Form Letter Rule YamlValue → ℕ → List Token → Node → List Token → Type 0
GivesValue distinct f line ts node rest =
    (v : YamlValue) × (Gives (yaml distinct) f ts (good v (letters rest)) × (or_absent line v ≡ tree_of node))

-- A loop over a list has read some parts of it: what the form reads at the tokens is decided by
-- what the second form reads at the rest.
pub record HasRead {A : Type 0} (distinct : Bool) (f : Form Letter Rule YamlValue) (tokens : List Token) (made : List A → YamlValue) (done : List A) (g : Form Letter Rule YamlValue) (rest : List Token) : Type 0 where
  pub carries : Carries (yaml distinct) f tokens (λ xs. made (done ++ xs)) g rest made
  pub shorter : length rest ≤ length tokens
