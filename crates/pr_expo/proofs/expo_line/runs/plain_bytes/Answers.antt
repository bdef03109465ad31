use Rattle.std.proofs.Common.{ap, ◌∙◌, length, unwrap_or}
use Rattle.pr_expo.specs.private.Runs.{ends_plain}
use Rattle.pr_expo.proofs.RunSteps.{place_or_end}
use Rattle.pr_expo.proofs.expo_line.runs.plain_bytes.Goals as goal

pub returns : goal.returns
returns c =
    c.unwrap_or.ensures ∙ ap (λ o. unwrap_or o (length c.args.text.now)) c.after_plain.ensures
    ∙ place_or_end ends_plain c.args.text.now
