-- What a YAML text is read as, as a function of it: its tree, or the line and the kind of its first
-- fault.
use Rattle.std.specs.Prelude.{◌≡◌, ℕ, true, Option, Some, None, List, slice_get}
use Rattle.pr_yaml.specs.declared.yaml_scan.token.Token.{Token}
use Rattle.pr_yaml.specs.declared.yaml_scan.fault.YamlKind.{YamlKind}
use Rattle.pr_yaml.specs.declared.yaml_scan.fault.YamlKind.TheVariants.{Flow}
use Rattle.pr_yaml.specs.declared.yaml_scan.fault.BadPlace.{BadPlace}
use Rattle.pr_yaml.specs.Scan.{scanned_places}
use Rattle.pr_yaml.specs.declared.fault.YamlError.{YamlError}
use Rattle.pr_yaml.specs.declared.fault.YamlError.TheVariants.{Fault, Memory}
use Rattle.pr_yaml.specs.Tree.{Tree}
use Rattle.pr_yaml.specs.Grammar.{letters}
use Rattle.pr_yaml.specs.Trees.{levels, stop, tree_in}
use Rattle.pr_yaml.specs.Faults.{token_kind, scan_kind, end_line_of}

pub data Reading : Type 0 where
  gives_tree : Tree → Reading
  -- the line and the kind of the first fault
  gives_fault : ℕ → YamlKind → Reading

-- Where all tokens can go on, the fault is that of the bytes after them. Without one they have a
-- tree, or a flow is still open at the end.
abbrev pub at_end : List ℕ → List Token → Option BadPlace → Option Tree → Reading
at_end text tokens (Some bad) found = gives_fault bad.fault.line (scan_kind tokens bad)
at_end text tokens None (Some tree) = gives_tree tree
at_end text tokens None None = gives_fault (end_line_of text) Flow

-- Else it is that of the first token up to which they cannot.
abbrev pub at_stop : List ℕ → List Token → Option BadPlace → ℕ → Option Token → Reading
at_stop text tokens bad place (Some t) = gives_fault t.line (token_kind text tokens place t)
at_stop text tokens bad place None = at_end text tokens bad (tree_in true levels (letters tokens))

unfoldable pub read_tokens : List ℕ → List Token → Option BadPlace → Reading
read_tokens text tokens bad =
    at_stop text tokens bad (stop true levels (letters tokens)) (slice_get tokens (stop true levels (letters tokens)))

unfoldable pub read_of : List ℕ → Reading
read_of text = read_tokens text (scanned_places text).0 (scanned_places text).1

-- The fault is the one that the text gives. Nothing is said where memory runs out.
abbrev pub IsFaultOf : Reading → YamlError → Type 0
IsFaultOf r (Fault line kind) = r ≡ gives_fault line kind
IsFaultOf r Memory = Unit {0}
