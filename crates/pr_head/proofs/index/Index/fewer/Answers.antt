use Rattle.std.proofs.Common.{◌∙◌, ◌==◌, length, ap, sym, subst, unwrap_or, []}
use Rattle.pr_head.specs.private.Index.{IsEnough}
use Rattle.pr_head.proofs.Indexing.{enough_labelled, enough_of_two, some_text}
use Rattle.pr_head.proofs.index.Index.fewer.Goals as goal

pub returns-in-Some : goal.returns-in-Some
returns-in-Some c = λ equal k sets at indexed enough.
    enough_of_two equal k c.args.label.now c.args.self.now.all c.args.self.now.by_label sets c.in-Some.listing.now c.args.others.now c.fewer_of.result.now
    (ap (λ o. unwrap_or o []) c.in-Some.ensures) c.fewer_of.ensures at (some_text c.args.label.now.value c.is_empty.result (c.is_empty.ensures ∙ ap (λ t. length t == 0) c.as_str.ensures) c.if-is_empty.false) indexed enough

pub returns-in-None : goal.returns-in-None
returns-in-None c = λ equal k sets at indexed enough.
    subst (IsEnough equal sets) (sym (ap (λ o. unwrap_or o []) c.in-None.ensures))
    (enough_labelled equal k c.args.label.now c.args.self.now.all c.args.self.now.by_label sets at (some_text c.args.label.now.value c.is_empty.result (c.is_empty.ensures ∙ ap (λ t. length t == 0) c.as_str.ensures) c.if-is_empty.false) indexed)
