use Rattle.std.proofs.Common.{◌≡◌, length, map, Result, Ok, Err, OnOk, sym, ap, ◌∙◌, subst}
use Rattle.std.proofs.lemmas.List.{length-map, with_items_is}
use Rattle.spec_alerts.specs.Receivers.{after_offer}
use Rattle.pr_queue.specs.private.Queues.{taken_in, waiting_in, with_coming}
use Rattle.pr_queue.specs.private.Standing.{StandsFor}
use Rattle.pr_queue.proofs.Stands.{stands_offered}
use Rattle.pr_queue.proofs.notifier.Notifier.offer.Goals as goal

on_ok : {T E : Type 0} (r : Result T E) {P Q : Type 0} → OnOk r P → (P → Q) → OnOk r Q
on_ok (Ok x) p f = f p
on_ok (Err e) p f = p

pub returns-clause-stands : goal.returns-clause-stands
returns-clause-stands c = on_ok c.offer_all.result c.offer_all.ensures.ok (λ ok rs s.
    let long : length c.offer_all.new.queues ≡ c.self.inside.queues.len =
    ap length ok ∙ length-map (map (with_coming c.deref.result.now) c.deref_mut.result.now) (taken_in (length c.args.notices.now))
    ∙ length-map c.deref_mut.result.now (with_coming c.deref.result.now) ∙ ap length c.deref_mut.ensures.value ∙ sym c.self.inside.queues.ok.0 in
    subst (λ qs. StandsFor (waiting_in qs) (after_offer c.args.notices.now rs)) (sym (with_items_is c.self.inside.queues c.offer_all.new.queues long))
    (stands_offered c.args.notices.now c.deref.result.now c.self.inside.queues.items (map (with_coming c.deref.result.now) c.deref_mut.result.now) c.offer_all.new.queues
    c.args.self.now rs c.self.view_is (c.deref.ensures.value ∙ c.in_ok-shared.ensures ∙ c.last_notices.ensures)
    (ap (map (with_coming c.deref.result.now)) c.deref_mut.ensures.value) ok s))
