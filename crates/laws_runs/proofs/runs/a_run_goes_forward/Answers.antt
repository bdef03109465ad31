use Rattle.std.proofs.Common.{◌≡◌, ℕ, List, [], ◌∷◌, ◌++◌, ◌∙◌, Some, codes, true, refl, ap, lit<, decimal, arith}
use Rattle.std.proofs.lemmas.Fmt.{decimal_digit, decimal_step}
use Rattle.std.proofs.lemmas.Str.{is_utf8-from_IsUtf8}
use Rattle.std.specs.Str.{is_utf8}
use Rattle.pr_forms.specs.Reading.{reading}
use Rattle.pr_labels.proofs.Ascii.{metric_name_is_text}
use Rattle.pr_labels.specs.LabelSet.{named}
use Rattle.pr_labels.specs.SeriesText.{series_text}
use Rattle.pr_words.proofs.PlainTexts.{plain_text}
use Rattle.pr_match.specs.Matcher.{meets, meets_all}
use Rattle.pr_num.specs.Half.{half_abs}
use Rattle.pr_num.specs.Reads.{reads}
use Rattle.pr_num.specs.Shown.{shown}
use Rattle.pr_top.specs.pr_text.Orders.{orders_after}
use Rattle.pr_top.specs.pr_text.Reloads.{files_in}
use Rattle.pr_top.specs.pr_text.Script.{takes_body}
use Rattle.pr_labels.proofs.SeriesExamples.{metric}
use Rattle.pr_labels.specs.SeriesReading.{series_labels, series_pairs}
use Rattle.pr_top.specs.pr_text.Answers.{backwards_last}
use Rattle.pr_top.specs.pr_text.Printed.{shown_report}
use Rattle.spec_world.specs.Loading.{reload_asked}
use Rattle.spec_world.specs.pr_parse.Expressions.{expression_of}
use Rattle.spec_world.specs.Step.{next}
use Rattle.pr_top.specs.pr_run.Told.{told_of, turn}
use Rattle.laws_runs.proofs.runs.a_run_goes_forward.Goals as goal

other : series_labels (codes "n") ≡ Some (named (codes "n"))
unfolding series_labels series_pairs reading
other = refl

-- a number, and a digit more
five : decimal 5000 ≡ codes "5000"
five =
    decimal_step 5000 (omega arith) (omega arith)
    ∙ ap (λ (l : List ℕ). l ++ 48 ∷ []) (decimal_step 500 (omega arith) (omega arith) ∙ ap (λ (l : List ℕ). l ++ 48 ∷ []) (decimal_step 50 (omega arith) (omega arith)
    ∙ ap (λ (l : List ℕ). l ++ 48 ∷ []) (decimal_digit 5 (lit< tt))))

four : decimal 4000 ≡ codes "4000"
four =
    decimal_step 4000 (omega arith) (omega arith)
    ∙ ap (λ (l : List ℕ). l ++ 48 ∷ []) (decimal_step 400 (omega arith) (omega arith) ∙ ap (λ (l : List ℕ). l ++ 48 ∷ []) (decimal_step 40 (omega arith) (omega arith)
    ∙ ap (λ (l : List ℕ). l ++ 48 ∷ []) (decimal_digit 4 (lit< tt))))

pub returns : goal.returns
unfolding half_abs reads shown_report orders_after takes_body next told_of turn backwards_last
returns c =
    let zero : decimal 0 ≡ 48 ∷ [] = decimal_digit 0 (lit< tt) in
    let text : is_utf8 (codes "m") ≡ true = is_utf8-from_IsUtf8 (codes "m") (metric_name_is_text (codes "m") refl) in
    let name : is_utf8 (codes "n") ≡ true = is_utf8-from_IsUtf8 (codes "n") (metric_name_is_text (codes "n") refl) in
    record { told = rw (text, name, metric, other, zero, five, four) refl; refuses = rw (text, name, metric, other) refl }
