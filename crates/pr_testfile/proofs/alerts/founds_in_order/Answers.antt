use Rattle.std.proofs.Common.{rules, ◌∙◌, ap}
use Rattle.std.specs.Ordering.{is_lt}
use Rattle.std.proofs.lemmas.List.Sorted.{answers_always}
use Rattle.pr_rulefile.proofs.Placed.{only_ordered}
use Rattle.pr_testfile.specs.Alerts.{is_found_before}
use Rattle.pr_testfile.proofs.Weak.{founds_weak}
use Rattle.pr_testfile.proofs.alerts.founds_in_order.Goals as goal

pub returns : goal.returns
returns c =
    let keys = answers_always _ _ _ (λ f a r next called. ap is_lt (search rules)) in
    let sort = c.in_ok-sort_by.ensures in
    c.new.ensures
    ∙ only_ordered is_found_before founds_weak c.args.founds.items c.sort_by.new.self.items (sort.sorted is_found_before founds_weak keys) (sort.stable is_found_before founds_weak keys)
