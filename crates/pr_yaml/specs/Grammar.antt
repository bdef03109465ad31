-- The trees of YAML texts over their tokens, by columns.
use Rattle.std.specs.Prelude.{ℕ, ◌+◌, ◌-◌, Option, Some, None, Bool, true, false, ◌||◌, ◌&&◌, not, if◌then◌else◌, nat_eq, nat_le, nat_lt, is_some, List, [], ◌∷◌, ◌++◌, map}
use Rattle.pr_words.specs.Names.{is_among}
use Rattle.pr_words.specs.pr_forms.Form.{Form, token, nothing, pair, either, rule, chosen}
use Rattle.pr_yaml.specs.declared.yaml_scan.token.Token.{Token}
use Rattle.pr_yaml.specs.declared.yaml_scan.token.TokenKind.{TokenKind}
use Rattle.pr_yaml.specs.declared.yaml_scan.token.TokenKind.TheVariants.{Dash, Key, Text, ListOpen, ListClose, MapOpen, MapClose, Comma}
use Rattle.pr_yaml.specs.Tree.{Tree, text_node, list_node, map_node, EntryTree, trees_from, entries_from, absent_node}

-- A token as the grammar sees it, with its line and its column.
pub data Letter : Type 0 where
  text_at : ℕ → ℕ → List ℕ → Bool → Letter
  key_at : ℕ → ℕ → List ℕ → Letter
  dash_at : ℕ → ℕ → Letter
  list_open : ℕ → ℕ → Letter
  list_close : ℕ → ℕ → Letter
  map_open : ℕ → ℕ → Letter
  map_close : ℕ → ℕ → Letter
  comma_at : ℕ → ℕ → Letter

abbrev pub letter_by : TokenKind → ℕ → ℕ → Letter
letter_by Dash line column = dash_at line column
letter_by (Key text) line column = key_at line column text
letter_by (Text text quoted) line column = text_at line column text quoted
letter_by ListOpen line column = list_open line column
letter_by ListClose line column = list_close line column
letter_by MapOpen line column = map_open line column
letter_by MapClose line column = map_close line column
letter_by Comma line column = comma_at line column

abbrev pub letter_of : Token → Letter
letter_of t = letter_by t.kind t.line t.column

abbrev pub letters : List Token → List Letter
letters = map letter_of

abbrev pub column_of : Letter → ℕ
column_of (text_at line column text quoted) = column
column_of (key_at line column text) = column
column_of (dash_at line column) = column
column_of (list_open line column) = column
column_of (list_close line column) = column
column_of (map_open line column) = column
column_of (map_close line column) = column
column_of (comma_at line column) = column

-- What stands for a part of a text.
pub data YamlValue : Type 0 where
  tree : Tree → YamlValue
  -- a sign or a key on a line
  at : ℕ → YamlValue
  -- an entry; the items of a list, and the entries of a map
  entry : EntryTree → YamlValue
  items : List Tree → YamlValue
  entries : List EntryTree → YamlValue
  -- no value, and one that says nothing
  absent : YamlValue
  mark : YamlValue

-- The rules. In their names: `line` is the line of the token that a map or a list begins with;
-- `column` is where the tokens of a rule stand, but for `Node`, which stands at it or further on;
-- `room` is how many maps and lists may still stand in one another there, the node of the rule with
-- them; `keys` are the keys of the map so far, and `key` is the one that comes next.
pub data Rule : Type 0 where
  Whole : ℕ → Rule
  Node : ℕ → ℕ → Rule
  Leaf : Rule
  Map : ℕ → ℕ → ℕ → Rule
  Entries : ℕ → ℕ → List (List ℕ) → Rule
  Entry : ℕ → ℕ → List (List ℕ) → List ℕ → Rule
  MoreEntries : ℕ → ℕ → List (List ℕ) → Rule
  Under : ℕ → ℕ → Rule
  Items : ℕ → ℕ → ℕ → Rule
  Dashes : ℕ → ℕ → Rule
  MoreDashes : ℕ → ℕ → Rule
  FlowList : ℕ → Rule
  Values : ℕ → Rule
  AfterValue : ℕ → Rule
  FlowMap : ℕ → Rule
  Pairs : ℕ → List (List ℕ) → Rule
  Pair : ℕ → List (List ℕ) → List ℕ → Rule
  PairValue : ℕ → Rule
  AfterPair : ℕ → List (List ℕ) → Rule

-- A node stands only where there is room for it.
abbrev pub is_allowed : ℕ → Bool
is_allowed room = nat_lt 0 room

-- The rule of a node that begins with a token, outside flows and in them, with the room inside it.
abbrev pub node_of : ℕ → Letter → Option Rule
node_of inner (text_at line column text quoted) = Some Leaf
node_of inner (key_at line column text) = Some (Map line column inner)
node_of inner (dash_at line column) = Some (Items line column inner)
node_of inner (list_open line column) = Some (FlowList inner)
node_of inner (map_open line column) = Some (FlowMap inner)
node_of inner _ = None

abbrev pub node_from : ℕ → ℕ → Letter → Option Rule
node_from column room t = if is_allowed room && nat_le column (column_of t) then node_of (room - 1) t else None

abbrev pub flow_node_of : ℕ → Letter → Option Rule
flow_node_of inner (text_at line column text quoted) = Some Leaf
flow_node_of inner (list_open line column) = Some (FlowList inner)
flow_node_of inner (map_open line column) = Some (FlowMap inner)
flow_node_of inner _ = None

abbrev pub value_from : ℕ → Letter → Option Rule
value_from room t = if is_allowed room then flow_node_of (room - 1) t else None

-- a list under a key, at the key's column
abbrev pub list_from : ℕ → ℕ → Letter → Option Rule
list_from column room (dash_at line c) =
    if is_allowed room && nat_eq column c then Some (Items line column (room - 1)) else None
list_from column room _ = None

-- Where keys are distinct, a key that stands among others is no key of their map.
abbrev pub is_taken : Bool → List ℕ → List (List ℕ) → Bool
is_taken distinct key keys = distinct && is_among key keys

abbrev pub entry_from : Bool → ℕ → ℕ → List (List ℕ) → Letter → Option Rule
entry_from distinct column room keys (key_at line c key) =
    if nat_eq column c && not (is_taken distinct key keys) then Some (Entry column room keys key) else None
entry_from distinct column room keys _ = None

abbrev pub pair_from : Bool → ℕ → List (List ℕ) → Letter → Option Rule
pair_from distinct room keys (key_at line c key) =
    if not (is_taken distinct key keys) then Some (Pair room keys key) else None
pair_from distinct room keys _ = None

abbrev pub leaf_in : Letter → Option YamlValue
leaf_in (text_at line column text quoted) = Some (tree (text_node line text quoted))
leaf_in _ = None

abbrev pub key_in : ℕ → Letter → Option YamlValue
key_in column (key_at line c key) = if nat_eq column c then Some (at line) else None
key_in column _ = None

abbrev pub any_key_in : Letter → Option YamlValue
any_key_in (key_at line column key) = Some (at line)
any_key_in _ = None

abbrev pub dash_in : ℕ → Letter → Option YamlValue
dash_in column (dash_at line c) = if nat_eq column c then Some (at line) else None
dash_in column _ = None

abbrev pub list_open_in : Letter → Option YamlValue
list_open_in (list_open line column) = Some (at line)
list_open_in _ = None

abbrev pub list_close_in : Letter → Option YamlValue
list_close_in (list_close line column) = Some mark
list_close_in _ = None

abbrev pub map_open_in : Letter → Option YamlValue
map_open_in (map_open line column) = Some (at line)
map_open_in _ = None

abbrev pub map_close_in : Letter → Option YamlValue
map_close_in (map_close line column) = Some mark
map_close_in _ = None

abbrev pub comma_in : Letter → Option YamlValue
comma_in (comma_at line column) = Some mark
comma_in _ = None

-- How the values of parts are joined.
abbrev pub first_of : YamlValue → YamlValue → YamlValue
first_of v w = v

abbrev pub second_of : YamlValue → YamlValue → YamlValue
second_of v w = w

-- the value of a key or a dash on a line, which may be absent
abbrev pub or_absent : ℕ → YamlValue → Tree
or_absent line (tree t) = t
or_absent line _ = absent_node line

abbrev pub entry_of : List ℕ → YamlValue → YamlValue → YamlValue
entry_of key (at line) v = entry (record { key = key; line = line; value = or_absent line v })
entry_of key _ v = mark

abbrev pub entry_before : YamlValue → YamlValue → YamlValue
entry_before (entry e) (entries es) = entries (e ∷ es)
entry_before _ _ = mark

abbrev pub item_of : YamlValue → YamlValue → YamlValue
item_of (at line) v = tree (or_absent line v)
item_of _ v = mark

abbrev pub item_before : YamlValue → YamlValue → YamlValue
item_before (tree t) (items ts) = items (t ∷ ts)
item_before _ _ = mark

abbrev pub map_on : ℕ → YamlValue → YamlValue → YamlValue
map_on line v (entries es) = tree (map_node line (entries_from es))
map_on line v _ = mark

abbrev pub list_on : ℕ → YamlValue → YamlValue → YamlValue
list_on line v (items ts) = tree (list_node line (trees_from ts))
list_on line v _ = mark

abbrev pub flow_map_of : YamlValue → YamlValue → YamlValue
flow_map_of (at line) v = map_on line mark v
flow_map_of _ v = mark

abbrev pub flow_list_of : YamlValue → YamlValue → YamlValue
flow_list_of (at line) v = list_on line mark v
flow_list_of _ v = mark

-- What may go on after a part that stands at a column or further on; after the items of a list
-- under a key; inside flows.
abbrev pub is_within : ℕ → Letter → Bool
is_within column t = nat_le column (column_of t)

abbrev pub is_item_more : ℕ → Letter → Bool
is_item_more column t = nat_le (column + 1) (column_of t) || is_some (dash_in column t)

abbrev pub no_more : Letter → Bool
no_more t = false

abbrev pub is_in_map : Letter → Bool
is_in_map (map_close line column) = false
is_in_map t = true

-- The productions, where a node has room for itself, and the column of a map or a list is that of
-- its first token:
--   whole   = [ node(0) ]
--   node(c) = text | flow | map(k) | list(k)          at a column k of at least c
--   map(k)  = entry { entry }                         no key of it twice
--   entry   = key at k [ node(k + 1) | list(k) ]
--   list(k) = item { item }
--   item    = dash at k [ node(k + 1) ]
--   flow    = "[" [ value { "," value } [","] ] "]" | "{" [ pair { "," pair } [","] ] "}"
--   value   = text | flow
--   pair    = key [ value ]                           no key of its map twice
abbrev pub production : Bool → Rule → Form Letter Rule YamlValue
production distinct (Whole room) = either (rule (Node 0 room)) (nothing absent)
production distinct (Node column room) = chosen (node_from column room) (is_within column)
production distinct Leaf = token leaf_in
production distinct (Map line column room) = pair (map_on line) (nothing mark) (rule (Entries column room []))
production distinct (Entries column room keys) = chosen (entry_from distinct column room keys) (is_within column)
production distinct (Entry column room keys key) =
    pair entry_before (pair (entry_of key) (token (key_in column)) (rule (Under column room)))
    (rule (MoreEntries column room (keys ++ key ∷ [])))
production distinct (MoreEntries column room keys) = either (rule (Entries column room keys)) (nothing (entries []))
production distinct (Under column room) =
    either (rule (Node (column + 1) room))
    (either (chosen (list_from column room) (is_item_more column)) (nothing absent))
production distinct (Items line column room) = pair (list_on line) (nothing mark) (rule (Dashes column room))
production distinct (Dashes column room) =
    pair item_before (pair item_of (token (dash_in column)) (either (rule (Node (column + 1) room)) (nothing absent)))
    (rule (MoreDashes column room))
production distinct (MoreDashes column room) = either (rule (Dashes column room)) (nothing (items []))
production distinct (FlowList room) =
    pair flow_list_of (token list_open_in) (pair first_of (rule (Values room)) (token list_close_in))
production distinct (Values room) =
    either (pair item_before (chosen (value_from room) no_more) (rule (AfterValue room))) (nothing (items []))
production distinct (AfterValue room) =
    either (pair second_of (token comma_in) (rule (Values room))) (nothing (items []))
production distinct (FlowMap room) =
    pair flow_map_of (token map_open_in) (pair first_of (rule (Pairs room [])) (token map_close_in))
production distinct (Pairs room keys) = either (chosen (pair_from distinct room keys) is_in_map) (nothing (entries []))
production distinct (Pair room keys key) =
    pair entry_before (pair (entry_of key) (token any_key_in) (rule (PairValue room)))
    (rule (AfterPair room (keys ++ key ∷ [])))
production distinct (PairValue room) = either (chosen (value_from room) no_more) (nothing absent)
production distinct (AfterPair room keys) =
    either (pair second_of (token comma_in) (rule (Pairs room keys))) (nothing (entries []))
