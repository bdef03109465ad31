-- What one token ahead tells of the rules of trees: no part of what a text means.
use Rattle.std.specs.Prelude.{ℕ, ◌+◌, Bool, true, false, ◌||◌, is_some, []}
use Rattle.pr_words.specs.pr_forms.Table.{Table}
use Rattle.pr_words.specs.pr_forms.Language.{Language}
use Rattle.pr_yaml.specs.declared.yaml_scan.token.Token.{Token}
use Rattle.pr_yaml.specs.Grammar.{Letter, letter_of, YamlValue, Rule, Whole, Node, Leaf, Map, Entries, Entry, MoreEntries, Under, Items, Dashes, MoreDashes, FlowList, Values, AfterValue, FlowMap, Pairs, Pair, PairValue, AfterPair, production, node_from, value_from, list_from, entry_from, pair_from, leaf_in, key_in, any_key_in, dash_in, list_open_in, map_open_in, comma_in, is_within, is_item_more, is_in_map}

abbrev pub empty_rule : Rule → Bool
empty_rule (Whole room) = true
empty_rule (MoreEntries column room keys) = true
empty_rule (Under column room) = true
empty_rule (MoreDashes column room) = true
empty_rule (Values room) = true
empty_rule (AfterValue room) = true
empty_rule (Pairs room keys) = true
empty_rule (PairValue room) = true
empty_rule (AfterPair room keys) = true
empty_rule _ = false

abbrev pub starts_rule : Bool → Rule → Letter → Bool
starts_rule distinct (Whole room) t = is_some (node_from 0 room t)
starts_rule distinct (Node column room) t = is_some (node_from column room t)
starts_rule distinct Leaf t = is_some (leaf_in t)
starts_rule distinct (Map line column room) t = is_some (entry_from distinct column room [] t)
starts_rule distinct (Entries column room keys) t = is_some (entry_from distinct column room keys t)
starts_rule distinct (Entry column room keys key) t = is_some (key_in column t)
starts_rule distinct (MoreEntries column room keys) t = is_some (entry_from distinct column room keys t)
starts_rule distinct (Under column room) t =
    is_some (node_from (column + 1) room t) || is_some (list_from column room t)
starts_rule distinct (Items line column room) t = is_some (dash_in column t)
starts_rule distinct (Dashes column room) t = is_some (dash_in column t)
starts_rule distinct (MoreDashes column room) t = is_some (dash_in column t)
starts_rule distinct (FlowList room) t = is_some (list_open_in t)
starts_rule distinct (Values room) t = is_some (value_from room t)
starts_rule distinct (AfterValue room) t = is_some (comma_in t)
starts_rule distinct (FlowMap room) t = is_some (map_open_in t)
starts_rule distinct (Pairs room keys) t = is_some (pair_from distinct room keys t)
starts_rule distinct (Pair room keys key) t = is_some (any_key_in t)
starts_rule distinct (PairValue room) t = is_some (value_from room t)
starts_rule distinct (AfterPair room keys) t = is_some (comma_in t)

abbrev pub more_rule : Rule → Letter → Bool
more_rule (Whole room) t = true
more_rule (Node column room) t = is_within column t
more_rule (Map line column room) t = is_within column t
more_rule (Entries column room keys) t = is_within column t
more_rule (Entry column room keys key) t = is_within column t
more_rule (MoreEntries column room keys) t = is_within column t
more_rule (Under column room) t = is_item_more column t
more_rule (Items line column room) t = is_item_more column t
more_rule (Dashes column room) t = is_item_more column t
more_rule (MoreDashes column room) t = is_item_more column t
more_rule (Values room) t = is_some (comma_in t) || is_some (value_from room t)
more_rule (AfterValue room) t = is_some (comma_in t) || is_some (value_from room t)
more_rule (Pairs room keys) t = is_in_map t
more_rule (Pair room keys key) t = is_in_map t
more_rule (PairValue room) t = is_some (value_from room t)
more_rule (AfterPair room keys) t = is_in_map t
more_rule _ t = false

abbrev pub table : Bool → Table Letter Rule
table distinct = record { empty = empty_rule; starts = starts_rule distinct; more = more_rule }

-- the language of trees
abbrev pub yaml : Bool → Language Token Letter Rule YamlValue
yaml distinct = record { production = production distinct; table = table distinct; see = letter_of }

-- how many steps a rule makes at most before it comes to a token, and a bound on that
abbrev pub rank : Rule → ℕ
rank (Whole room) = 9
rank (Node column room) = 7
rank Leaf = 1
rank (Map line column room) = 6
rank (Entries column room keys) = 4
rank (Entry column room keys key) = 3
rank (MoreEntries column room keys) = 6
rank (Under column room) = 9
rank (Items line column room) = 5
rank (Dashes column room) = 3
rank (MoreDashes column room) = 5
rank (FlowList room) = 2
rank (Values room) = 5
rank (AfterValue room) = 3
rank (FlowMap room) = 2
rank (Pairs room keys) = 5
rank (Pair room keys key) = 3
rank (PairValue room) = 4
rank (AfterPair room keys) = 3

abbrev pub steps : ℕ
steps = 12
