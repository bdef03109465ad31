use Rattle.std.proofs.Common.{◌≡◌, ℕ, List, [], ◌∷◌, ◌++◌, ◌∙◌, Some, codes, true, refl, ap, lit<, decimal, arith}
use Rattle.std.proofs.lemmas.Fmt.{decimal_digit, decimal_step}
use Rattle.std.proofs.lemmas.Str.{is_utf8-from_IsUtf8}
use Rattle.std.specs.Str.{is_utf8}
use Rattle.pr_forms.specs.Reading.{reading}
use Rattle.pr_labels.proofs.Ascii.{metric_name_is_text}
use Rattle.pr_labels.specs.LabelSet.{named}
use Rattle.pr_labels.specs.SeriesText.{series_text}
use Rattle.pr_words.proofs.PlainTexts.{plain_text}
use Rattle.pr_match.specs.Matcher.{meets, meets_all}
use Rattle.pr_num.specs.Half.{half_abs}
use Rattle.pr_num.specs.Reads.{reads}
use Rattle.pr_num.specs.Shown.{shown}
use Rattle.pr_top.specs.pr_text.Orders.{orders_after}
use Rattle.pr_top.specs.pr_text.Reloads.{files_in}
use Rattle.pr_top.specs.pr_text.Script.{takes_body}
use Rattle.pr_labels.proofs.SeriesExamples.{metric}
use Rattle.pr_labels.specs.SeriesReading.{series_labels, series_pairs}
use Rattle.pr_top.specs.pr_text.Answers.{backwards_last}
use Rattle.pr_top.specs.pr_text.Printed.{shown_report}
use Rattle.spec_world.specs.Loading.{reload_asked}
use Rattle.spec_world.specs.pr_parse.Expressions.{expression_of}
use Rattle.spec_world.specs.Step.{next}
use Rattle.pr_top.specs.pr_run.Told.{told_of, turn}
use Rattle.pr_top.proofs.RunExpressionExamples.{name_alone}
use Rattle.laws_runs.proofs.runs.a_restart_tells_what_was_kept.Goals as goal

pub returns : goal.returns
unfolding half_abs reads shown series_text meets meets_all shown_report orders_after takes_body expression_of next told_of turn
returns c =
    let zero : decimal 0 ≡ 48 ∷ [] = decimal_digit 0 (lit< tt) in
    let one : decimal 1 ≡ 49 ∷ [] = decimal_digit 1 (lit< tt) in
    let text : is_utf8 (codes "m") ≡ true = is_utf8-from_IsUtf8 (codes "m") (metric_name_is_text (codes "m") refl) in
    rw (text, metric, name_alone, zero, one) refl
