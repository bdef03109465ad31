use Rattle.std.proofs.Common.{◌≡◌, [], ◌∷◌, codes, true, refl, lit<, decimal}
use Rattle.std.proofs.lemmas.Fmt.{decimal_digit}
use Rattle.std.proofs.lemmas.Str.{is_utf8-from_IsUtf8}
use Rattle.pr_ast.proofs.LabelsAscii.{metric_name_is_text}
use Rattle.std.specs.Str.{is_utf8}
use Rattle.pr_ast.specs.pr_num.Half.{half_abs}
use Rattle.pr_ast.specs.pr_num.Reads.{reads}
use Rattle.pr_ast.specs.pr_num.Shown.{shown}
use Rattle.pr_ast.specs.pr_labels.SeriesText.{series_text}
use Rattle.pr_text.specs.pr_match.Matcher.{meets, meets_all}
use Rattle.pr_ast.proofs.LabelsSeriesExamples.{metric}
use Rattle.pr_text.specs.Orders.{orders_after}
use Rattle.pr_text.specs.Printed.{shown_report}
use Rattle.pr_text.specs.Script.{takes_body}
use Rattle.pr_run.specs.Told.{told_of, turn}
use Rattle.pr_run.proofs.ExpressionExamples.{name_alone}
use Rattle.pr_text.specs.pr_parse.Expressions.{expression_of}
use Rattle.pr_text.specs.spec_world.Step.{next}
use Rattle.pr_run.proofs.examples.a_value_is_told_for_five_minutes.Goals as goal

pub returns : goal.returns
unfolding half_abs reads shown series_text meets meets_all shown_report orders_after takes_body expression_of next told_of turn
returns c =
    let zero : decimal 0 ≡ 48 ∷ [] = decimal_digit 0 (lit< tt) in
    let one : decimal 1 ≡ 49 ∷ [] = decimal_digit 1 (lit< tt) in
    let text : is_utf8 (codes "m") ≡ true = is_utf8-from_IsUtf8 (codes "m") (metric_name_is_text (codes "m") refl) in
    rw (text, metric, name_alone, zero, one) refl
