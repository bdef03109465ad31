use Rattle.pr_labels.proofs.Behind.{items_whole, rising_whole}
use Rattle.pr_labels.proofs.ordered.ordered.Ordered.into_items.Goals as goal

pub returns-clause-items : goal.returns-clause-items
returns-clause-items g c = items_whole c.with_placed.result (λ v. v.items) c.self.inside.rising.items c.self.inside.placed.entries c.args.self c.self.view_is c.with_placed.ensures

pub returns-clause-rising : goal.returns-clause-rising
returns-clause-rising g c = rising_whole c.with_placed.result (λ v. v.items) c.self.inside.rising.items c.self.inside.placed.entries c.args.self c.self.view_is c.self.invariant (returns-clause-items g c)
