-- What computes the printed lines of values that are written out.
use Rattle.std.specs.Prelude.{⊤}
use Rattle.std.specs.Fmt.{digits}
use Rattle.spec_world.specs.pr_num.Shown.{fraction_text, shown}
use Rattle.spec_world.specs.pr_labels.SeriesText.{series_text}
use Rattle.spec_world.specs.pr_parse.QueryKinds.{lex_word, parse_word, type_word}
use Rattle.spec_world.specs.pr_expo.Words.{expo_word}
use Rattle.spec_world.specs.pr_rulefile.Printed.{own_word, problem_rest, yaml_word}
use Rattle.pr_text.specs.Answers.{dropped_conflict, dropped_out_of_order, backwards_last, scraped_added, bad_scrape_line, evaluated_rules, late_after, limit_exceeded, not_later_last, reloaded_groups, same_after_rule, send_firing, send_resolved, deliver_firing, deliver_resolved, too_many_receivers}
use Rattle.pr_text.specs.Faults.{fault_word}
use Rattle.pr_text.specs.Printed.{shown_report}

unfoldable pub computing : ⊤
unfolding digits fraction_text shown series_text dropped_conflict dropped_out_of_order backwards_last scraped_added bad_scrape_line evaluated_rules late_after limit_exceeded not_later_last reloaded_groups same_after_rule send_firing send_resolved deliver_firing deliver_resolved too_many_receivers own_word problem_rest yaml_word lex_word parse_word type_word expo_word fault_word shown_report
computing = tt
