use Rattle.pr_labels.specs.private.SeriesReader.{names_of}
use Rattle.pr_labels.proofs.SeriesReading.{opened, unopened}
use Rattle.pr_labels.proofs.series.series.braces_in.Goals as goal

pub returns-in-Some : goal.returns-in-Some
returns-in-Some c = λ f whole r. c.list_in.ensures f whole (opened f whole c.args.before.pairs.items (names_of c.args.before.pairs.items) _ c.in-Some.after.now r c.in-Some.ensures.read)

pub returns : goal.returns
returns c = λ f whole r. unopened f whole c.args.before.pairs.items (names_of c.args.before.pairs.items) _ r c.in-None.ensures.read
