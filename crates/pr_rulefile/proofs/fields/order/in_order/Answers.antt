use Rattle.std.proofs.Common.{rules, ◌∙◌}
use Rattle.std.proofs.lemmas.List.Sorted.{answers_always}
use Rattle.pr_rulefile.proofs.Orders.{place_of, sorted}
use Rattle.pr_rulefile.proofs.fields.order.in_order.Goals as goal

pub returns : goal.returns
returns c =
    let keys = answers_always _ _ _ (λ f a r next called. search rules) in
    let sort = c.in_ok-sort_by_key.ensures in
    c.new.ensures
    ∙ sorted c.args.problems.items c.sort_by_key.new.self.items (sort.sorted place_of keys) (sort.stable place_of keys)
