use Rattle.std.proofs.Common.{◌≡◌, ℕ, List, [], ◌∷◌, ◌++◌, ◌∙◌, Some, codes, true, refl, ap, lit<, decimal, arith}
use Rattle.std.proofs.lemmas.Fmt.{decimal_digit, decimal_step}
use Rattle.std.proofs.lemmas.Str.{is_utf8-from_IsUtf8}
use Rattle.std.specs.Str.{is_utf8}
use Rattle.pr_forms.specs.Reading.{reading}
use Rattle.pr_labels.proofs.Ascii.{metric_name_is_text}
use Rattle.pr_labels.specs.LabelSet.{named}
use Rattle.pr_labels.specs.SeriesText.{series_text}
use Rattle.pr_words.proofs.PlainTexts.{plain_text}
use Rattle.pr_match.specs.Matcher.{meets, meets_all}
use Rattle.pr_num.specs.Half.{half_abs}
use Rattle.pr_num.specs.Reads.{reads}
use Rattle.pr_num.specs.Shown.{shown}
use Rattle.pr_top.specs.pr_text.Orders.{orders_after}
use Rattle.pr_top.specs.pr_text.Reloads.{files_in}
use Rattle.pr_top.specs.pr_text.Script.{takes_body}
use Rattle.pr_labels.proofs.SeriesExamples.{metric}
use Rattle.pr_labels.specs.SeriesReading.{series_labels, series_pairs}
use Rattle.pr_top.specs.pr_text.Answers.{backwards_last}
use Rattle.pr_top.specs.pr_text.Printed.{shown_report}
use Rattle.spec_world.specs.Loading.{reload_asked}
use Rattle.spec_world.specs.pr_parse.Expressions.{expression_of}
use Rattle.spec_world.specs.Step.{next}
use Rattle.pr_top.specs.pr_run.Told.{told_of, turn}
use Rattle.laws_runs.proofs.runs.what_is_not_there_is_told.Goals as goal

pub returns : goal.returns
unfolding half_abs reads shown_report orders_after takes_body next told_of turn files_in reload_asked
returns c =
    let zero : decimal 0 ≡ 48 ∷ [] = decimal_digit 0 (lit< tt) in
    let one : decimal 1 ≡ 49 ∷ [] = decimal_digit 1 (lit< tt) in
    let file : is_utf8 (codes "none.yml") ≡ true = plain_text (codes "none.yml") refl in
    let rules : is_utf8 (codes "r.yml") ≡ true = plain_text (codes "r.yml") refl in
    let group : is_utf8 (codes "h") ≡ true = plain_text (codes "h") refl in
    record { file = rw (file, zero) refl; group = rw (rules, group, zero) refl; line = rw (zero, one) refl; refuses = refl }
