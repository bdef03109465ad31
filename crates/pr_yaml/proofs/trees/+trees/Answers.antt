use Rattle.std.proofs.Common.{sym, ap, refl, ◌+◌, ◌-◌, []}
use Rattle.pr_words.specs.pr_forms.Form.{rule}
use Rattle.pr_words.specs.pr_forms.Run.{run_pair, run_first, run_second}
use Rattle.pr_words.proofs.FormsWays.{exit}
use Rattle.pr_yaml.specs.Grammar.{letters, production, absent, Map, Items, Under, Values, Pairs, PairValue, FlowList, FlowMap}
use Rattle.pr_yaml.specs.GrammarTable.{table}
use Rattle.pr_yaml.specs.private.Reader.{keys_in, maybe_node, rule_of}
use Rattle.pr_yaml.proofs.Ways.{fewer_left, no_map, map_bad, map_good, entry_fails, no_block_list, block_list_good, block_list_bad, dash_fails, value_fails, pair_fails, node_good, node_bad, node_none, under_good, under_bad, list_good, list_bad, under_none, pair_value_good, pair_value_bad, pair_value_none}
use Rattle.pr_yaml.proofs.Loops.{started_value, equal_tree, map_more, map_over, list_more, list_over, values_more, values_last, values_end, pairs_more, pairs_last, pairs_end}
use Rattle.pr_yaml.proofs.trees.+trees.Goals as goal

pub flow_list_at-returns-in_default-clause-read : goal.flow_list_at-returns-in_default-clause-read
flow_list_at-returns-in_default-clause-read t c = run_first (c.in_default.ensures.read c.args.distinct).gives

pub flow_list_at-returns-in_err-list-clause-read : goal.flow_list_at-returns-in_err-list-clause-read
flow_list_at-returns-in_err-list-clause-read t c =
    exit letters (production c.args.distinct) (table c.args.distinct) _ (rule (Values c.args.room)) (production c.args.distinct (FlowList c.args.room)) (letters c.in-Some.following.now) _ _ c.in_err-list.field-0.0 c.from_residual.ensures.1
    (λ r h. run_second (c.in-Some.ensures.read c.args.distinct).gives (run_first h)) c.in_err-list.ensures.read

pub flow_list_at-returns-in_default-list_close_in-clause-read : goal.flow_list_at-returns-in_default-list_close_in-clause-read
flow_list_at-returns-in_default-list_close_in-clause-read t c =
    run_second (c.in-Some.ensures.read c.args.distinct).gives (run_second c.in_ok-list.ensures.read (c.in_default-list_close_in.ensures.read c.args.distinct).gives)

pub flow_list_at-returns-clause-read : goal.flow_list_at-returns-clause-read
flow_list_at-returns-clause-read t c =
    equal_tree c.args.distinct (production c.args.distinct (FlowList c.args.room)) (letters c.args.tokens.now) (letters c.in-Some-list_close_in.rest.now) _ _ c.list_made.ensures
    (run_pair (c.in-Some.ensures.read c.args.distinct).gives (run_pair c.in_ok-list.ensures.read (c.in-Some-list_close_in.ensures.read c.args.distinct).gives))

pub flow_map_at-returns-in_default-clause-read : goal.flow_map_at-returns-in_default-clause-read
flow_map_at-returns-in_default-clause-read t c = run_first (c.in_default.ensures.read c.args.distinct).gives

pub flow_map_at-returns-in_err-pairs-clause-read : goal.flow_map_at-returns-in_err-pairs-clause-read
flow_map_at-returns-in_err-pairs-clause-read t c =
    exit letters (production c.args.distinct) (table c.args.distinct) _ (rule (Pairs c.args.room [])) (production c.args.distinct (FlowMap c.args.room)) (letters c.in-Some.following.now) _ _ c.in_err-pairs.field-0.0 c.from_residual.ensures.1
    (λ r h. run_second (c.in-Some.ensures.read c.args.distinct).gives (run_first h)) c.in_err-pairs.ensures.read

pub flow_map_at-returns-in_default-map_close_in-clause-read : goal.flow_map_at-returns-in_default-map_close_in-clause-read
flow_map_at-returns-in_default-map_close_in-clause-read t c =
    run_second (c.in-Some.ensures.read c.args.distinct).gives (run_second c.in_ok-pairs.ensures.read (c.in_default-map_close_in.ensures.read c.args.distinct).gives)

pub flow_map_at-returns-clause-read : goal.flow_map_at-returns-clause-read
flow_map_at-returns-clause-read t c =
    equal_tree c.args.distinct (production c.args.distinct (FlowMap c.args.room)) (letters c.args.tokens.now) (letters c.in-Some-map_close_in.rest.now) _ _ c.map_made.ensures
    (run_pair (c.in-Some.ensures.read c.args.distinct).gives (run_pair c.in_ok-pairs.ensures.read (c.in-Some-map_close_in.ensures.read c.args.distinct).gives))

pub list_at-returns-in_default-clause-read : goal.list_at-returns-in_default-clause-read
list_at-returns-in_default-clause-read t c = no_block_list c.args.distinct c.args.column c.args.room (c.in_default.ensures.read c.args.distinct)

pub list_at-returns-in_err-item-clause-read : goal.list_at-returns-in_err-item-clause-read
list_at-returns-in_err-item-clause-read t c =
    exit letters (production c.args.distinct) (table c.args.distinct) _ (maybe_node (c.args.column + 1) c.args.room) (production c.args.distinct (Items c.args.line c.args.column c.args.room)) (letters c.in-Some-dash_in.following.now) _ _ c.in_err-item.field-0.0 c.from_residual.ensures.1
    (λ r h. block_list_bad c.args.distinct c.args.column c.args.room (c.in-Some.ensures.read c.args.distinct) (c.dashes.invariant.carries.fails r (dash_fails c.args.distinct c.args.column c.args.room (c.in-Some-dash_in.ensures.read c.args.distinct) h))) (rw c.from.ensures at c.in_err-item.ensures.read)

pub list_at-dashes-preserved : goal.list_at-dashes-preserved
list_at-dashes-preserved t c =
    list_more c.args.distinct c.args.column c.args.room c.args.tokens.now c.dashes.rest.now c.in-Some-dash_in.following.now c.in_ok-item.after.now c.dashes.list.items c.push.new.self.items c.in-Some-dash_in.dash c.in_ok-item.item
    c.dashes.invariant (c.in-Some-dash_in.ensures.read c.args.distinct) (rw c.from.ensures at c.in_ok-item.ensures.read) c.in_ok-push.ensures.items c.in-Some-dash_in.ensures.shorter c.in_ok-item.ensures.shorter

pub list_at-returns-clause-read : goal.list_at-returns-clause-read
list_at-returns-clause-read t c =
    equal_tree c.args.distinct (production c.args.distinct (Items c.args.line c.args.column c.args.room)) (letters c.args.tokens.now) (letters c.dashes.rest.now) _ _ c.list_made.ensures
    (block_list_good c.args.distinct c.args.column c.args.room (c.in-Some.ensures.read c.args.distinct) (list_over c.args.distinct c.args.column c.args.room c.args.tokens.now c.dashes.rest.now c.dashes.list.items c.dashes.invariant (c.in_default-dash_in.ensures.read c.args.distinct)))

pub list_at-returns-clause-shorter : goal.list_at-returns-clause-shorter
list_at-returns-clause-shorter t c =
    fewer_left c.args.distinct (Items c.args.line c.args.column c.args.room) c.args.tokens.now c.dashes.rest.now _ refl
    (block_list_good c.args.distinct c.args.column c.args.room (c.in-Some.ensures.read c.args.distinct) (list_over c.args.distinct c.args.column c.args.room c.args.tokens.now c.dashes.rest.now c.dashes.list.items c.dashes.invariant (c.in_default-dash_in.ensures.read c.args.distinct)))

pub map_at-returns-in_default-clause-read : goal.map_at-returns-in_default-clause-read
map_at-returns-in_default-clause-read t c = no_map c.args.distinct c.args.line c.args.column c.args.room (keys_in c.empty-found.result.entries.items) (letters c.args.tokens.now) (ap keys_in c.empty-found.ensures) c.in_default.ensures.read

pub map_at-returns-in_err-value-clause-read : goal.map_at-returns-in_err-value-clause-read
map_at-returns-in_err-value-clause-read t c =
    exit letters (production c.args.distinct) (table c.args.distinct) _ (rule (Under c.args.column c.args.room)) (production c.args.distinct (Map c.args.line c.args.column c.args.room)) (letters c.in-Some-key_in.following.now) _ _ c.in_err-value.field-0.0 c.from_residual.ensures.1
    (λ r h. map_bad c.args.distinct c.args.column c.args.room (ap keys_in c.empty-found.ensures) c.in-Some.ensures.read (c.entries.invariant.carries.fails r (entry_fails c.args.distinct c.args.column c.args.room c.in-Some-key_in.ensures.read h))) c.in_err-value.ensures.read

pub map_at-entries-preserved : goal.map_at-entries-preserved
map_at-entries-preserved t c =
    map_more c.args.distinct c.args.column c.args.room c.args.tokens.now c.entries.rest.now c.in-Some-key_in.following.now c.in_ok-value.after.now c.entries.found.entries.items c.in_ok-found.found.entries.items
    c.in-Some-key_in.key_line c.in-Some-key_in.key.now c.in_ok-value.value c.entries.invariant c.in-Some-key_in.ensures.read c.in_ok-value.ensures.read c.in_ok-found.ensures c.in-Some-key_in.ensures.shorter c.in_ok-value.ensures.shorter

pub map_at-returns-clause-read : goal.map_at-returns-clause-read
map_at-returns-clause-read t c =
    equal_tree c.args.distinct (production c.args.distinct (Map c.args.line c.args.column c.args.room)) (letters c.args.tokens.now) (letters c.entries.rest.now) _ _ c.map_made.ensures
    (map_good c.args.distinct c.args.column c.args.room (ap keys_in c.empty-found.ensures) c.in-Some.ensures.read (map_over c.args.distinct c.args.column c.args.room c.args.tokens.now c.entries.rest.now c.entries.found.entries.items c.entries.invariant c.in_default-key_in.ensures.read))

pub map_at-returns-clause-shorter : goal.map_at-returns-clause-shorter
map_at-returns-clause-shorter t c =
    fewer_left c.args.distinct (Map c.args.line c.args.column c.args.room) c.args.tokens.now c.entries.rest.now _ refl
    (map_good c.args.distinct c.args.column c.args.room (ap keys_in c.empty-found.ensures) c.in-Some.ensures.read (map_over c.args.distinct c.args.column c.args.room c.args.tokens.now c.entries.rest.now c.entries.found.entries.items c.entries.invariant c.in_default-key_in.ensures.read))

pub node_at-returns-in-Some-clause-read : goal.node_at-returns-in-Some-clause-read
node_at-returns-in-Some-clause-read t c =
    let started = rw c.saturating_sub.ensures at c.started_at.ensures.read in
    started_value c.args.distinct (maybe_node c.args.column c.args.room) c.args.line c.args.tokens.now (rule_of (c.args.room - 1) c.in-Some.start) c.started_at.result started c.started_at.ensures.shorter
    (λ end v lt k. node_good c.args.distinct c.args.column c.args.room c.in-Some.ensures.read lt k) (λ end k. node_bad c.args.distinct c.args.column c.args.room c.in-Some.ensures.read k)

pub node_at-returns-in-None-clause-read : goal.node_at-returns-in-None-clause-read
node_at-returns-in-None-clause-read t c = (absent, (node_none c.args.distinct c.args.column c.args.room c.in-None.ensures.read, sym c.absent_made.ensures))

pub pair_value_at-returns-in-Some-clause-read : goal.pair_value_at-returns-in-Some-clause-read
pair_value_at-returns-in-Some-clause-read t c =
    let started = rw c.saturating_sub.ensures at c.started_at.ensures.read in
    started_value c.args.distinct (rule (PairValue c.args.room)) c.args.line c.args.tokens.now (rule_of (c.args.room - 1) c.in-Some.start) c.started_at.result started c.started_at.ensures.shorter
    (λ end v lt k. pair_value_good c.args.distinct c.args.room c.in-Some.ensures.read lt k) (λ end k. pair_value_bad c.args.distinct c.args.room c.in-Some.ensures.read k)

pub pair_value_at-returns-in-None-clause-read : goal.pair_value_at-returns-in-None-clause-read
pair_value_at-returns-in-None-clause-read t c = (absent, (pair_value_none c.args.distinct c.args.room c.in-None.ensures.read, sym c.absent_made.ensures))

pub pairs_at-returns-in_err-value-clause-read : goal.pairs_at-returns-in_err-value-clause-read
pairs_at-returns-in_err-value-clause-read t c =
    exit letters (production c.args.distinct) (table c.args.distinct) _ (rule (PairValue c.args.room)) (rule (Pairs c.args.room [])) (letters c.in-Some.following.now) _ _ c.in_err-value.field-0.0 c.from_residual.ensures.1
    (λ r h. c.pairs.invariant.carries.fails r (pair_fails c.args.distinct c.args.room c.in-Some.ensures.read h)) c.in_err-value.ensures.read

pub pairs_at-returns-in_default-comma_in-clause-read : goal.pairs_at-returns-in_default-comma_in-clause-read
pairs_at-returns-in_default-comma_in-clause-read t c =
    pairs_last c.args.distinct c.args.room c.args.tokens.now c.pairs.rest.now c.in-Some.following.now c.in_ok-value.after.now c.pairs.found.entries.items c.in_ok-found.found.entries.items c.in-Some.line c.in-Some.key.now c.in_ok-value.value
    c.pairs.invariant c.in-Some.ensures.read c.in_ok-value.ensures.read c.in_ok-found.ensures (c.in_default-comma_in.ensures.read c.args.distinct)

pub pairs_at-pairs-preserved : goal.pairs_at-pairs-preserved
pairs_at-pairs-preserved t c =
    pairs_more c.args.distinct c.args.room c.args.tokens.now c.pairs.rest.now c.in-Some.following.now c.in_ok-value.after.now c.pairs.found.entries.items c.in_ok-found.found.entries.items c.in-Some.line c.in-Some.key.now c.in_ok-value.value
    c.pairs.invariant c.in-Some.ensures.read c.in_ok-value.ensures.read c.in_ok-found.ensures c.in-Some-comma_in.next.now (c.in-Some-comma_in.ensures.read c.args.distinct) c.in-Some.ensures.shorter c.in_ok-value.ensures.shorter c.in-Some-comma_in.ensures.shorter

pub pairs_at-returns-clause-read : goal.pairs_at-returns-clause-read
pairs_at-returns-clause-read t c =
    pairs_end c.args.distinct c.args.room c.args.tokens.now c.pairs.rest.now c.pairs.found.entries.items c.pairs.invariant c.in_default.ensures.read

pub started_at-returns-in-Text-clause-read : goal.started_at-returns-in-Text-clause-read
started_at-returns-in-Text-clause-read t c = rw c.in-Text.is (c.leaf_at.ensures.read c.args.distinct)

pub started_at-returns-in-Map-clause-read : goal.started_at-returns-in-Map-clause-read
started_at-returns-in-Map-clause-read t c = rw c.in-Map.is c.map_at.ensures.read

pub started_at-returns-in-List-clause-read : goal.started_at-returns-in-List-clause-read
started_at-returns-in-List-clause-read t c = rw c.in-List.is c.list_at.ensures.read

pub started_at-returns-in-FlowList-clause-read : goal.started_at-returns-in-FlowList-clause-read
started_at-returns-in-FlowList-clause-read t c = rw c.in-FlowList.is c.flow_list_at.ensures.read

pub started_at-returns-in-FlowMap-clause-read : goal.started_at-returns-in-FlowMap-clause-read
started_at-returns-in-FlowMap-clause-read t c = rw c.in-FlowMap.is c.flow_map_at.ensures.read

pub under_at-returns-in-Some-clause-read : goal.under_at-returns-in-Some-clause-read
under_at-returns-in-Some-clause-read t c =
    let started = rw c.saturating_sub.ensures at c.started_at.ensures.read in
    let begun = rw c.from.ensures at c.in-Some.ensures.read in
    started_value c.args.distinct (rule (Under c.args.column c.args.room)) c.args.line c.args.tokens.now (rule_of (c.args.room - 1) c.in-Some.start) c.started_at.result started c.started_at.ensures.shorter
    (λ end v lt k. under_good c.args.distinct c.args.column c.args.room begun lt k) (λ end k. under_bad c.args.distinct c.args.column c.args.room begun k)

pub under_at-returns-in-Some-list_start-clause-read : goal.under_at-returns-in-Some-list_start-clause-read
under_at-returns-in-Some-list_start-clause-read t c =
    let started = rw c.saturating_sub-in-Some-list_start.ensures at c.started_at-in-Some-list_start.ensures.read in
    let none = rw c.from.ensures at c.in_default.ensures.read in
    started_value c.args.distinct (rule (Under c.args.column c.args.room)) c.args.line c.args.tokens.now (rule_of (c.args.room - 1) c.in-Some-list_start.start) c.started_at-in-Some-list_start.result started c.started_at-in-Some-list_start.ensures.shorter
    (λ end v lt k. list_good c.args.distinct c.args.column c.args.room none c.in-Some-list_start.ensures.read lt k) (λ end k. list_bad c.args.distinct c.args.column c.args.room none c.in-Some-list_start.ensures.read k)

pub under_at-returns-in-None-clause-read : goal.under_at-returns-in-None-clause-read
under_at-returns-in-None-clause-read t c =
    let none = rw c.from.ensures at c.in_default.ensures.read in
    (absent, (under_none c.args.distinct c.args.column c.args.room none c.in-None.ensures.read, sym c.absent_made.ensures))

pub values_at-returns-in_err-item-clause-read : goal.values_at-returns-in_err-item-clause-read
values_at-returns-in_err-item-clause-read t c =
    let begun = rw c.saturating_sub.ensures at c.in_err-item.ensures.read in
    exit letters (production c.args.distinct) (table c.args.distinct) _ (production c.args.distinct (rule_of (c.args.room - 1) c.in-Some.start)) (rule (Values c.args.room)) (letters c.values.rest.now) _ _ c.in_err-item.field-0.0 c.from_residual.ensures.1
    (λ r h. c.values.invariant.carries.fails r (value_fails c.args.distinct c.args.room c.in-Some.ensures.read h)) begun

pub values_at-returns-in_default-comma_in-clause-read : goal.values_at-returns-in_default-comma_in-clause-read
values_at-returns-in_default-comma_in-clause-read t c =
    let begun = rw c.saturating_sub.ensures at c.in_ok-item.ensures.read in
    values_last c.args.distinct c.args.room (rule_of (c.args.room - 1) c.in-Some.start) c.args.tokens.now c.values.rest.now c.in_ok-item.after.now _ c.values.list.items c.push.new.self.items c.in_ok-item.item
    c.values.invariant c.in-Some.ensures.read begun c.in_ok-push.ensures.items c.in_ok-item.ensures.shorter (c.in_default-comma_in.ensures.read c.args.distinct)

pub values_at-values-preserved : goal.values_at-values-preserved
values_at-values-preserved t c =
    let begun = rw c.saturating_sub.ensures at c.in_ok-item.ensures.read in
    values_more c.args.distinct c.args.room (rule_of (c.args.room - 1) c.in-Some.start) c.args.tokens.now c.values.rest.now c.in_ok-item.after.now _ c.values.list.items c.push.new.self.items c.in_ok-item.item
    c.values.invariant c.in-Some.ensures.read begun c.in_ok-push.ensures.items c.in_ok-item.ensures.shorter c.in-Some-comma_in.following.now (c.in-Some-comma_in.ensures.read c.args.distinct) c.in-Some-comma_in.ensures.shorter

pub values_at-returns-clause-read : goal.values_at-returns-clause-read
values_at-returns-clause-read t c =
    values_end c.args.distinct c.args.room c.args.tokens.now c.values.rest.now c.values.list.items c.values.invariant c.in_default.ensures.read
