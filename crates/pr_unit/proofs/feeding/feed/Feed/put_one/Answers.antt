use Rattle.std.proofs.Common.{◌≡◌, ◌+◌, ◌<◌, List, length, map, slice_get, Some, refl, subst, sym, ap, ◌∙◌, arith}
use Rattle.std.specs.Option.{option_map}
use Rattle.std.proofs.lemmas.Option.{slice_get-map, slice_get_read}
use Rattle.pr_unit.specs.declared.feeding.feed.SeriesFeed.{SeriesFeed}
use Rattle.pr_unit.specs.declared.feeding.progress.Progress.{Progress}
use Rattle.pr_unit.specs.private.Feeding.{IsFeeding}
use Rattle.pr_unit.proofs.FeedingFeeding.{mapped_set, one_fed}
use Rattle.pr_unit.proofs.feeding.feed.Feed.put_one.Goals as goal

progress_of : SeriesFeed → Progress
progress_of s = s.progress

pub returns-clause-fed : goal.returns-clause-fed
unfolding progress_of
returns-clause-fed c = λ place h.
    let series = c.args.series.now in
    let n = c.args.number in
    let items : List SeriesFeed = c.self.inside.each.items in
    let each = map progress_of items in
    let fed : IsFeeding series place n each = subst (IsFeeding series place n) (sym c.self.view_is) h in
    let s = c.index-series-number.result in
    let one : SeriesFeed = c.index.result.now in
    let within : n < length items = omega (arith, c.len.ensures) in
    let there : slice_get series n ≡ Some s = slice_get_read series (length series) n s refl c.requires c.index-series-number.is in
    let here : slice_get each n ≡ Some one.progress = slice_get-map progress_of items n ∙ ap (option_map progress_of) (slice_get_read items (length items) n one refl within c.index.ensures) in
    subst (IsFeeding series place (n + 1)) (sym (mapped_set progress_of items n c.put_next.new.one))
    (one_fed series place n each s c.put_next.new.one.progress fed there (c.in_ok-put_next.ensures.at place (fed.rest n s one.progress (omega arith) there here)))
