use Rattle.std.proofs.Common.{[], length, map, ◌+◌, ◌*◌}
use Rattle.pr_words.specs.pr_forms.Form.{rule}
use Rattle.pr_yaml.specs.Tree.{tree_of, entry_tree_of}
use Rattle.pr_yaml.specs.Grammar.{items, entries, MoreEntries, MoreDashes, Values, Pairs}
use Rattle.pr_yaml.specs.private.Reader.{HasRead, keys_in}
use Rattle.pr_yaml.proofs.trees.+trees.Given as goal

abbrev pub decreases-flow_list_at : goal.decreases-flow_list_at
decreases-flow_list_at l = 4 * length l.tokens.now

abbrev pub decreases-flow_map_at : goal.decreases-flow_map_at
decreases-flow_map_at l = 4 * length l.tokens.now

abbrev pub decreases-list_at : goal.decreases-list_at
decreases-list_at l = 4 * length l.tokens.now

abbrev pub decreases-map_at : goal.decreases-map_at
decreases-map_at l = 4 * length l.tokens.now

abbrev pub decreases-node_at : goal.decreases-node_at
decreases-node_at l = 4 * length l.tokens.now + 2

abbrev pub decreases-pair_value_at : goal.decreases-pair_value_at
decreases-pair_value_at l = 4 * length l.tokens.now + 2

abbrev pub decreases-pairs_at : goal.decreases-pairs_at
decreases-pairs_at l = 4 * length l.tokens.now + 3

abbrev pub decreases-started_at : goal.decreases-started_at
decreases-started_at l = 4 * length l.tokens.now + 1

abbrev pub decreases-under_at : goal.decreases-under_at
decreases-under_at l = 4 * length l.tokens.now + 2

abbrev pub decreases-values_at : goal.decreases-values_at
decreases-values_at l = 4 * length l.tokens.now + 3

abbrev pub invariant-list_at-dashes : goal.invariant-list_at-dashes
invariant-list_at-dashes l = HasRead l.distinct (rule (MoreDashes l.column l.room)) l.tokens items (map tree_of l.list.items) (rule (MoreDashes l.column l.room)) l.rest

abbrev pub decreases-list_at-dashes : goal.decreases-list_at-dashes
decreases-list_at-dashes l = length l.rest

abbrev pub invariant-map_at-entries : goal.invariant-map_at-entries
invariant-map_at-entries l = HasRead l.distinct (rule (MoreEntries l.column l.room [])) l.tokens entries (map entry_tree_of l.found.entries.items) (rule (MoreEntries l.column l.room (keys_in l.found.entries.items))) l.rest

abbrev pub decreases-map_at-entries : goal.decreases-map_at-entries
decreases-map_at-entries l = length l.rest

abbrev pub invariant-pairs_at-pairs : goal.invariant-pairs_at-pairs
invariant-pairs_at-pairs l = HasRead l.distinct (rule (Pairs l.room [])) l.tokens entries (map entry_tree_of l.found.entries.items) (rule (Pairs l.room (keys_in l.found.entries.items))) l.rest

abbrev pub decreases-pairs_at-pairs : goal.decreases-pairs_at-pairs
decreases-pairs_at-pairs l = length l.rest

abbrev pub invariant-values_at-values : goal.invariant-values_at-values
invariant-values_at-values l = HasRead l.distinct (rule (Values l.room)) l.tokens items (map tree_of l.list.items) (rule (Values l.room)) l.rest

abbrev pub decreases-values_at-values : goal.decreases-values_at-values
decreases-values_at-values l = length l.rest
