use Rattle.std.proofs.Common.{ap, ◌∙◌, length, unwrap_or, not}
use Rattle.std.specs.Char.{is_ascii_digit}
use Rattle.pr_expo.proofs.RunSteps.{place_or_end}
use Rattle.pr_expo.proofs.expo_line.runs.digits.Goals as goal

pub returns : goal.returns
returns c =
    c.unwrap_or.ensures ∙ ap (λ o. unwrap_or o (length c.args.text.now)) c.after_digits.ensures
    ∙ place_or_end (λ b. not (is_ascii_digit b)) c.args.text.now
