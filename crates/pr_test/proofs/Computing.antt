-- What computes the printed texts of files that are written out.
use Rattle.std.specs.Prelude.{⊤}
use Rattle.std.specs.Fmt.{digits}
use lib.Utf8.{encode}
use Rattle.pr_words.specs.pr_forms.Reading.{bad_place, reading}
use Rattle.pr_num.specs.Arithmetic.{sum_of, product_of}
use Rattle.pr_num.specs.Half.{half, half_abs}
use Rattle.pr_num.specs.Order.{compared}
use Rattle.pr_num.specs.Shown.{fraction_text, shown}
use Rattle.pr_words.specs.StringAnswer.{bad_string_place, string_of}
use Rattle.pr_checks.specs.pr_labels.SeriesText.{series_text}
use Rattle.pr_text.specs.pr_match.Matcher.{meets, meets_all}
use Rattle.pr_checks.specs.pr_tmpl.Expansion.{expansion, through}
use Rattle.pr_checks.specs.pr_tmpl.Pieces.{pieces}
use Rattle.pr_checks.specs.pr_tmpl.TemplateReading.{template_parts}
use Rattle.pr_testfile.specs.Points.{points_in, points}
use Rattle.pr_text.specs.spec_rules.Results.{rule_result}
use Rattle.pr_text.specs.spec_rules.Evaluations.{rule_outcome, rule_step, group_step}
use Rattle.pr_text.specs.spec_world.Step.{next}
use Rattle.pr_testfile.specs.Series.{point_at, entries_at, places, entries_of}
use Rattle.pr_unit.specs.spec_tests.Events.{events_of, world_at}
use Rattle.pr_unit.specs.spec_tests.Verdict.{test_verdict, verdict}
use Rattle.pr_checks.specs.RuleFiles.{failed_line, missing, too_large}
use Rattle.pr_test.specs.FailureText.{expected_word, got_word, failure_text}
use Rattle.pr_test.specs.TestsTold.{success_line, testing_text}

unfoldable pub computing : ⊤
unfolding digits encode bad_place reading sum_of product_of half half_abs compared fraction_text shown bad_string_place string_of series_text meets meets_all expansion through pieces template_parts points_in points rule_result rule_outcome rule_step group_step next point_at entries_at places entries_of events_of world_at test_verdict verdict failed_line missing too_large expected_word got_word failure_text success_line testing_text
computing = tt
