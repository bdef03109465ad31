use Rattle.std.proofs.Common.{◌≡◌, ◌-◌, ◌++◌, ◌∷◌, [], length, length-append, nat_eq, None, ap, sym, subst, ◌∙◌, arith}
use Rattle.std.specs.Map.{lookup}
use Rattle.pr_slide.specs.private.Places.{AreApart, ArePlacesOf, AreStandingAt, IsAbsent, IsFoundIn, IsNodePlace, numbers_of}
use Rattle.pr_slide.specs.private.Windows.{found}
use Rattle.pr_slide.proofs.Nodes.{Row, found_pushed}
use Rattle.pr_slide.proofs.Placing.{all_found, apart_pushed, node_last, places_pushed}
use Rattle.pr_slide.proofs.sliding.SlidingRanges.place_by_number.Goals as goal

pub returns-in_ok-push-in-None-clause-place : goal.returns-in_ok-push-in-None-clause-place
returns-in_ok-push-in-None-clause-place c =
    let items : c.push.new.self.items ≡ c.args.self.now ++ (c.args.node, []) ∷ [] = c.in_ok-push-in-None.ensures.items ∙ (λ i. c.self.view_is i ++ c.new.ensures i ∷ []) in
    let size : length c.args.self.now ≡ c.len.result - 1 = omega (arith, c.len.ensures, ap length items, length-append {A = Row}) in
    let nodes : c.deref.result.now ≡ c.args.self.now = c.deref.ensures.value ∙ c.self.view_is in
    let none : lookup (nat_eq c.args.node) c.note_all.new.self.1 ≡ None = cc in
    let places : ArePlacesOf c.note_all.new.self (numbers_of c.args.self.now) = subst (λ l. ArePlacesOf c.note_all.new.self (numbers_of l)) nodes c.in_ok-note_all.ensures.places in
    let all : c.note_all.new.self.0 ≡ length c.args.self.now = c.in_ok-note_all.ensures.all ∙ ap length nodes in
    let absent : IsAbsent (numbers_of c.args.self.now) c.args.node = subst (IsFoundIn (numbers_of c.args.self.now) c.args.node) none (all_found c.note_all.new.self c.args.self.now c.args.node places all) in
    subst (IsNodePlace c.args.node (c.len.result - 1)) (sym items) (node_last c.args.self.now c.args.node (c.len.result - 1) [] absent size)

pub returns-in_ok-push-in-None-clause-same : goal.returns-in_ok-push-in-None-clause-same
returns-in_ok-push-in-None-clause-same c = λ k q.
    let items : c.push.new.self.items ≡ c.args.self.now ++ (c.args.node, []) ∷ [] = c.in_ok-push-in-None.ensures.items ∙ (λ i. c.self.view_is i ++ c.new.ensures i ∷ []) in
    ap (λ l. found l k q) items ∙ found_pushed c.args.node c.args.self.now k q

pub invariant_of-self-in-None : goal.invariant_of-self-in-None
invariant_of-self-in-None c =
    let items : c.push.new.self.items ≡ c.args.self.now ++ (c.args.node, []) ∷ [] = c.in_ok-push-in-None.ensures.items ∙ (λ i. c.self.view_is i ++ c.new.ensures i ∷ []) in
    let nodes : c.deref.result.now ≡ c.args.self.now = c.deref.ensures.value ∙ c.self.view_is in
    let none : lookup (nat_eq c.args.node) c.note_all.new.self.1 ≡ None = cc in
    let places : ArePlacesOf c.note_all.new.self (numbers_of c.args.self.now) = subst (λ l. ArePlacesOf c.note_all.new.self (numbers_of l)) nodes c.in_ok-note_all.ensures.places in
    let all : c.note_all.new.self.0 ≡ length c.args.self.now = c.in_ok-note_all.ensures.all ∙ ap length nodes in
    let absent : IsAbsent (numbers_of c.args.self.now) c.args.node = subst (IsFoundIn (numbers_of c.args.self.now) c.args.node) none (all_found c.note_all.new.self c.args.self.now c.args.node places all) in
    let apart : AreApart (numbers_of c.args.self.now) = subst (λ l. AreApart (numbers_of l)) c.self.view_is c.self.invariant.apart in
    subst (λ l. AreStandingAt c.note_all.new.self (numbers_of l)) (sym items) (record {
      known = places_pushed c.note_all.new.self c.args.self.now (c.args.node, []) places;
      apart = apart_pushed c.args.self.now (c.args.node, []) apart absent;
    })
