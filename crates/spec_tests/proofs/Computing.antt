-- What computes the verdict of files that are written out.
use Rattle.std.specs.Prelude.{⊤}
use lib.Utf8.{encode}
use Rattle.pr_ast.specs.pr_forms.Reading.{bad_place, reading}
use Rattle.pr_num.specs.Arithmetic.{sum_of, product_of}
use Rattle.pr_num.specs.Half.{half, half_abs}
use Rattle.pr_num.specs.Order.{compared}
use Rattle.pr_testfile.specs.pr_words.StringAnswer.{bad_string_place, string_of}
use Rattle.spec_world.specs.pr_match.Matcher.{meets, meets_all}
use Rattle.spec_world.specs.pr_tmpl.Expansion.{expansion, through}
use Rattle.spec_world.specs.pr_tmpl.Pieces.{pieces}
use Rattle.spec_world.specs.pr_tmpl.TemplateReading.{template_parts}
use Rattle.pr_testfile.specs.Points.{points_in, points}
use Rattle.spec_world.specs.spec_rules.Results.{rule_result}
use Rattle.spec_world.specs.spec_rules.Evaluations.{rule_outcome, rule_step, group_step}
use Rattle.spec_world.specs.Step.{next}
use Rattle.pr_testfile.specs.Series.{point_at, entries_at, places, entries_of}
use Rattle.spec_tests.specs.Events.{events_of, world_at}
use Rattle.spec_tests.specs.Verdict.{test_verdict, verdict}

unfoldable pub computing : ⊤
unfolding encode bad_place reading sum_of product_of half half_abs compared bad_string_place string_of meets meets_all expansion through pieces template_parts points_in points rule_result rule_outcome rule_step group_step next point_at entries_at places entries_of events_of world_at test_verdict verdict
computing = tt
