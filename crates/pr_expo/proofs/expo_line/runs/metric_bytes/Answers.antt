use Rattle.std.proofs.Common.{ap, ◌∙◌, length, unwrap_or, not}
use Rattle.pr_labels.specs.Names.{is_metric_byte}
use Rattle.pr_expo.proofs.RunSteps.{place_or_end}
use Rattle.pr_expo.proofs.expo_line.runs.metric_bytes.Goals as goal

pub returns : goal.returns
returns c =
    c.unwrap_or.ensures ∙ ap (λ o. unwrap_or o (length c.args.text.now)) c.after_metric.ensures
    ∙ place_or_end (λ b. not (is_metric_byte b)) c.args.text.now
