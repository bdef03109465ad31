-- The tree of a text and its first fault, as relations: by the productions, and by the first place
-- up to which the tokens cannot go on.
use Rattle.std.specs.Prelude.{◌≡◌, ℕ, true, Option, Some, None, List, [], slice_get}
use Rattle.pr_words.specs.pr_forms.Form.{rule, Reads, IsFirstBad}
use Rattle.pr_yaml.specs.Tokens.{HasPlaces}
use Rattle.pr_yaml.specs.declared.yaml_scan.token.Token.{Token}
use Rattle.pr_yaml.specs.declared.yaml_scan.fault.YamlKind.{YamlKind}
use Rattle.pr_yaml.specs.declared.yaml_scan.fault.YamlKind.TheVariants.{Flow}
use Rattle.pr_yaml.specs.declared.yaml_scan.fault.BadPlace.{BadPlace}
use Rattle.pr_yaml.specs.declared.fault.YamlError.{YamlError}
use Rattle.pr_yaml.specs.declared.fault.YamlError.TheVariants.{Fault, Memory}
use Rattle.pr_yaml.specs.Tree.{Tree}
use Rattle.pr_yaml.specs.Grammar.{letters, YamlValue, or_absent, Whole, production}
use Rattle.pr_yaml.specs.Trees.{levels}
use Rattle.pr_yaml.specs.Faults.{token_kind, scan_kind, end_line_of}

-- The tokens have this value, where keys are distinct and there is room for so many levels.
abbrev pub HasValue : List Token → YamlValue → Type 0
HasValue tokens v = Reads (production true) (rule (Whole levels)) (letters tokens) v []

-- The text has no fault, and its tokens have this tree.
pub record IsTree (text : List ℕ) (tree : Tree) : Type 0 where
  pub tokens : List Token
  pub scan : HasPlaces text tokens None
  pub value : YamlValue
  pub whole : HasValue tokens value
  pub is : or_absent 1 value ≡ tree

-- The fault after all tokens: that of the bytes there; or a flow that the end of the text leaves
-- open.
abbrev pub IsEndFault : List ℕ → List Token → Option BadPlace → ℕ → YamlKind → Type 0
IsEndFault text tokens (Some bad) line kind = (line ≡ bad.fault.line) × (kind ≡ scan_kind tokens bad)
IsEndFault text tokens None line kind =
    ((v : YamlValue) → HasValue tokens v → ⊥) × ((line ≡ end_line_of text) × (kind ≡ Flow))

-- the fault at a token, and that after all of them
abbrev pub IsFaultAt : List ℕ → List Token → Option BadPlace → ℕ → Option Token → ℕ → YamlKind → Type 0
IsFaultAt text tokens bad place (Some t) line kind = (line ≡ t.line) × (kind ≡ token_kind text tokens place t)
IsFaultAt text tokens bad place None line kind = IsEndFault text tokens bad line kind

-- The text has a fault on this line, of this kind: at the first token up to which its tokens cannot
-- go on, or after all of them.
pub record HasFault (text : List ℕ) (line : ℕ) (kind : YamlKind) : Type 0 where
  pub tokens : List Token
  pub bad : Option BadPlace
  pub scan : HasPlaces text tokens bad
  pub place : ℕ
  pub first : IsFirstBad (production true) (rule (Whole levels)) (letters tokens) place
  pub fault : IsFaultAt text tokens bad place (slice_get tokens place) line kind

-- Why a text has no tree.
abbrev pub Refuses : List ℕ → YamlError → Type 0
Refuses text (Fault line kind) = HasFault text line kind
Refuses text Memory = Unit {0}

-- Only want of memory keeps a tree from being answered.
abbrev pub Misses : YamlError → Type 0
Misses (Fault line kind) = ⊥
Misses Memory = Unit {0}
