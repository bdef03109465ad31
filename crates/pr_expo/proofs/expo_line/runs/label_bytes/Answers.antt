use Rattle.std.proofs.Common.{ap, ◌∙◌, length, unwrap_or, not}
use Rattle.pr_labels.specs.pr_words.Bytes.{is_label_byte}
use Rattle.pr_expo.proofs.RunSteps.{place_or_end}
use Rattle.pr_expo.proofs.expo_line.runs.label_bytes.Goals as goal

pub returns : goal.returns
returns c =
    c.unwrap_or.ensures ∙ ap (λ o. unwrap_or o (length c.args.text.now)) c.after_label.ensures
    ∙ place_or_end (λ b. not (is_label_byte b)) c.args.text.now
