use Rattle.std.proofs.Common.{◌≡◌, false, List, IfOk, sym, ap, ◌∙◌, subst}
use Rattle.std.specs.List.{list_any}
use Rattle.pr_labels.specs.declared.pair.Pair.{Pair}
use Rattle.pr_manager.specs.spec_world.Scrapes.{has}
use Rattle.pr_engine.proofs.Names.{none_renamed}
use Rattle.pr_engine.proofs.scrape.named.renamed.Goals as goal

pub returns-then-not-has_any : goal.returns-then-not-has_any
returns-then-not-has_any c =
    let target = c.args.target.now in
    let labels = c.args.labels.now in
    let none : list_any (λ p. has target p.name) labels ≡ false =
    ap (list_any (λ (p : Pair). has target p.name)) (sym c.pairs-pairs.ensures.all) ∙ sym c.has_any.ensures ∙ c.if-not-has_any.true in
    subst (λ (ls : List Pair). IfOk c.copy.result (λ l. l ≡ ls)) (sym (none_renamed target labels labels none)) c.copy.ensures
