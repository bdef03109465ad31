use Rattle.std.proofs.Common.{◌≡◌, ◌+◌, ◌≤◌, length, ap, sym, subst, ◌∙◌, rules, arith, find, reverse}
use Rattle.std.specs.List.{position_or_len}
use Rattle.std.proofs.lemmas.List.Sorted.{IsPartitionPoint-from_clause}
use Rattle.spec_history.specs.Lookback.{is_after, is_until}
use Rattle.pr_head.specs.private.Stored.{Stored, held_before}
use Rattle.pr_head.proofs.Places.{until_parted, parted_place, last_passing}
use Rattle.pr_head.proofs.series.Series.until.Goals as goal

pub returns-clause-place : goal.returns-clause-place
returns-clause-place c =
    let held = c.self.inside.samples.items in
    let items : held ≡ c.args.self.now.held = ap (λ (s : Stored). s.held) c.self.view_is in
    let within : c.partition_point.result ≤ length held = omega arith in
    let parted = until_parted c.args.time held c.self.invariant.rising in
    let point = IsPartitionPoint-from_clause (λ x. is_until c.args.time x.time) _ _ c.partition_point.ensures.partitioned parted (λ a r q k. search rules) in
    let place = parted_place c.args.time held _ within point in
    ap (λ n. c.args.self.now.first + n) (sym place ∙ ap (position_or_len (λ x. is_after c.args.time x.time)) items)

pub returns-clause-newest : goal.returns-clause-newest
returns-clause-newest c =
    let held = c.self.inside.samples.items in
    let items : held ≡ c.args.self.now.held = ap (λ (s : Stored). s.held) c.self.view_is in
    let within : c.partition_point.result ≤ length held = omega arith in
    let parted = until_parted c.args.time held c.self.invariant.rising in
    let point = IsPartitionPoint-from_clause (λ x. is_until c.args.time x.time) _ _ c.partition_point.ensures.partitioned parted (λ a r q k. search rules) in
    subst (λ l. find (λ x. is_until c.args.time x.time) (reverse l) ≡ held_before l c.partition_point.result) items
    (last_passing (λ x. is_until c.args.time x.time) held c.partition_point.result within point)
