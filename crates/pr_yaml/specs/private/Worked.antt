-- Short words for worked texts and laws.
use Rattle.std.specs.Prelude.{ℕ, zero, suc, List, false, true, replicate}
use Prim.Native.Char.{code}
use Rattle.pr_yaml.specs.private.YamlScanWorked.{tokens_of}
use Rattle.pr_yaml.specs.Tree.{Tree, text_node, list_node, no_trees, tree_then}
use Rattle.pr_yaml.specs.Read.{Reading, read_tokens}

-- what an ASCII text without a byte order mark is read as
abbrev pub reading_of : List ℕ → Reading
reading_of text = read_tokens text (tokens_of text).0 (tokens_of text).1

-- a plain text and a quoted one on a line
abbrev pub plain : ℕ → List ℕ → Tree
plain line text = text_node line text false

abbrev pub quoted : ℕ → List ℕ → Tree
quoted line text = text_node line text true

-- so many signs that open lists, and that close them
abbrev pub list_signs : ℕ → List ℕ
list_signs n = replicate n (code "[")

abbrev pub list_ends : ℕ → List ℕ
list_ends n = replicate n (code "]")

-- an empty list on the first line, inside so many others, each of which has but one item
abbrev pub list_inside : ℕ → Tree
list_inside zero = list_node 1 no_trees
list_inside (suc n) = list_node 1 (tree_then (list_inside n) no_trees)
