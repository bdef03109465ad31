use Rattle.pr_labels.proofs.labels.keyed.KeyedPairs.order_key.Goals as goal

pub returns-in-Some : goal.returns-in-Some
returns-in-Some c = rw (c.as_str.ensures.value, c.as_ref.ensures, ← c.self.view_is) (c.self.invariant _ c.in-Some.is).whole
