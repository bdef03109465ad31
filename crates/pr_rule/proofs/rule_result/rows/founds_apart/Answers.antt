use Rattle.pr_rule.proofs.RowLemmas.{all_rise}
use Rattle.pr_rule.proofs.rule_result.rows.founds_apart.Goals as goal

pub returns-in_ok-all_found_in-in-None-clause-rising : goal.returns-in_ok-all_found_in-in-None-clause-rising
returns-in_ok-all_found_in-in-None-clause-rising c =
    all_rise c.in_ok-into_items-in-None.field-0.items c.in_ok-all_found_in-in-None.field-0.items c.in_ok-into_items-in-None.ensures.rising c.in_ok-all_found_in-in-None.ensures
