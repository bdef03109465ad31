use Rattle.std.proofs.Common.{◌++◌, [], ◌∷◌, ◌∙◌, take, sym, ap, arith}
use Rattle.std.specs.Option.{option_copied}
use Rattle.pr_queue.proofs.Lists.{none_past, take_next}
use Rattle.pr_queue.proofs.queue.first_copies.Goals as goal
use Rattle.pr_queue.proofs.queue.first_copies.Goals.{in-Some+in_ok-copy+in_ok-push, in_default}

pub loop-place-preserved : goal.loop-place-preserved
loop-place-preserved c = elim c.match-get.branch [
  | in-Some+in_ok-copy+in_ok-push w ↦
      rw w.copies-is
      (w.in_ok-push.ensures.items ∙ ap (λ l. l ++ w.in_ok-copy.field-0 ∷ []) c.loop-place.invariant
      ∙ ap (λ x. take c.loop-place.place c.args.ring.now.items ++ x ∷ []) w.in_ok-copy.ensures
      ∙ sym (take_next c.args.ring.now.items c.loop-place.place w.in-Some.notice.now (sym c.get.ensures ∙ ap option_copied w.in-Some.is)))
  | in_default w ↦ absurd (none_past c.args.ring.now.items c.loop-place.place (omega arith) (sym c.get.ensures ∙ ap option_copied w.in_default.is))
]
