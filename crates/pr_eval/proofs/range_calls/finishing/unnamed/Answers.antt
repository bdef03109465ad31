use Rattle.std.proofs.Common.{map}
use Rattle.pr_fn.specs.private.Rows.{without_metric}
use Rattle.pr_range.specs.spec_vectors.Functions.{told_apart}
use Rattle.pr_eval.proofs.range_calls.finishing.unnamed.Goals as goal

pub returns-clause-answer : goal.returns-clause-answer
returns-clause-answer c = c.made_at.ensures.answer (told_apart (map without_metric c.args.items.now)) c.without_metrics.ensures.told
