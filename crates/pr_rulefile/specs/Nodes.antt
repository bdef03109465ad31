-- What a node of a YAML tree is, and the fields of a map.
use Rattle.std.specs.Prelude.{ℕ, Bool, true, false, not, ◌&&◌, ◌||◌, List, [], Option, Some, None, find, unwrap_or}
use Rattle.std.specs.Option.{option_map}
use Rattle.std.specs.Str.{bytes_eq}
use Rattle.pr_yaml.specs.Tree.{Tree, text_node, list_node, map_node, EntryTree, trees_in, entries_in, is_absent}

abbrev pub line_of : Tree → ℕ
line_of (text_node line text quoted) = line
line_of (list_node line ts) = line
line_of (map_node line es) = line

-- the text of a scalar, the items of a list, the fields of a map
abbrev pub text_of : Tree → Option (List ℕ)
text_of (text_node line text quoted) = Some text
text_of _ = None

abbrev pub items_of : Tree → Option (List Tree)
items_of (list_node line ts) = Some (trees_in ts)
items_of _ = None

abbrev pub fields_of : Tree → Option (List EntryTree)
fields_of (map_node line es) = Some (entries_in es)
fields_of _ = None

-- the items of a list, and the fields of a map; no others have any
abbrev pub items_in : Tree → List Tree
items_in t = unwrap_or (items_of t) []

abbrev pub fields_in : Tree → List EntryTree
fields_in t = unwrap_or (fields_of t) []

-- A field is there where its value is not absent.
abbrev pub is_field : List ℕ → EntryTree → Bool
is_field key e = bytes_eq e.key key && not (is_absent e.value)

abbrev pub value_of : EntryTree → Tree
value_of e = e.value

unfoldable pub field : List ℕ → List EntryTree → Option Tree
field key es = option_map value_of (find (is_field key) es)

-- An empty text says as little as an absent value, where a name or an expression is wanted.
abbrev pub is_empty_text : Option (List ℕ) → Bool
is_empty_text (Some []) = true
is_empty_text _ = false

abbrev pub says_nothing : Tree → Bool
says_nothing t = is_absent t || is_empty_text (text_of t)

abbrev pub is_written : List ℕ → EntryTree → Bool
is_written key e = bytes_eq e.key key && not (says_nothing e.value)

unfoldable pub written : List ℕ → List EntryTree → Option Tree
written key es = option_map value_of (find (is_written key) es)

-- the text of a value, empty where there is none
abbrev pub text_or_empty : Option Tree → List ℕ
text_or_empty None = []
text_or_empty (Some t) = unwrap_or (text_of t) []

-- the items of a value, none where there is none
abbrev pub items_under : Option Tree → List Tree
items_under None = []
items_under (Some t) = items_in t

-- the fields of a value
abbrev pub fields_under : Option Tree → List EntryTree
fields_under None = []
fields_under (Some t) = fields_in t
