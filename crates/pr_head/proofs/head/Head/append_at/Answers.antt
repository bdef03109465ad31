use Rattle.std.proofs.Common.{◌≡◌, sym, subst, ◌∙◌, [], ◌∷◌, ◌++◌}
use Rattle.spec_history.specs.declared.append.Append.TheVariants.{Added}
use Rattle.spec_history.specs.Admission.{admit}
use Rattle.pr_head.specs.private.Stored.{timed_at}
use Rattle.pr_head.specs.private.Holds.{entry_of, Holds, IsWhole}
use Rattle.pr_head.proofs.Simulation.{entry_at, added_later, admitted_as, put_added, put_refused, holds_more, whole_more}
use Rattle.pr_head.proofs.head.Head.append_at.Goals as goal

pub push-requires-clause-later : goal.push-requires-clause-later
push-requires-clause-later c = λ e at. added_later e.1 (timed_at c.args.time c.args.point) (sym (c.admit.ensures e at) ∙ c.in-Added.is)

pub returns-in_ok-push-in-Added-clause-answer : goal.returns-in_ok-push-in-Added-clause-answer
returns-in_ok-push-in-Added-clause-answer c = λ history labels holds there.
    let found = entry_at c.args.self.now c.args.series labels there in
    sym c.in-Added.is ∙ c.admit.ensures (labels, found.0) found.1 ∙ admitted_as history labels found.0 (timed_at c.args.time c.args.point) (holds.each c.args.series (labels, found.0) found.1)

pub returns-in_ok-push-in-Added-clause-holds : goal.returns-in_ok-push-in-Added-clause-holds
returns-in_ok-push-in-Added-clause-holds c = λ history labels holds there.
    let found = entry_at c.args.self.now c.args.series labels there in
    let e = entry_of labels c.args.time c.args.point in
    let is : admit history labels c.args.time c.args.point ≡ Added =
    sym (admitted_as history labels found.0 (timed_at c.args.time c.args.point) (holds.each c.args.series (labels, found.0) found.1)) ∙ sym (c.admit.ensures (labels, found.0) found.1) ∙ c.in-Added.is in
    let new = c.in_ok-push-in-Added.ensures.ok (labels, found.0) found.1 in
    let after = holds_more c.args.self.now history e c.args.series found.0 holds found.1 in
    subst (λ h. Holds c.push.new.self h) (sym (put_added history e Added is (λ i. Added))) (subst (λ s. Holds s (history ++ e ∷ [])) (sym new) after)

pub returns-in_ok-push-in-Added-clause-whole : goal.returns-in_ok-push-in-Added-clause-whole
returns-in_ok-push-in-Added-clause-whole c = λ history labels x holds there whole.
    let found = entry_at c.args.self.now c.args.series labels there in
    let e = entry_of labels c.args.time c.args.point in
    let is : admit history labels c.args.time c.args.point ≡ Added =
    sym (admitted_as history labels found.0 (timed_at c.args.time c.args.point) (holds.each c.args.series (labels, found.0) found.1)) ∙ sym (c.admit.ensures (labels, found.0) found.1) ∙ c.in-Added.is in
    let new = c.in_ok-push-in-Added.ensures.ok (labels, found.0) found.1 in
    let after = whole_more c.args.self.now history e c.args.series found.0 x found.1 whole in
    subst (λ h. IsWhole c.push.new.self h x) (sym (put_added history e Added is (λ i. Added))) (subst (λ s. IsWhole s (history ++ e ∷ []) x) (sym new) after)

pub returns-in_default : goal.returns-in_default
returns-in_default c = record {
  answer = λ history labels holds there.
      let found = entry_at c.args.self.now c.args.series labels there in
      c.admit.ensures (labels, found.0) found.1 ∙ admitted_as history labels found.0 (timed_at c.args.time c.args.point) (holds.each c.args.series (labels, found.0) found.1);
  holds = λ history labels holds there.
      let found = entry_at c.args.self.now c.args.series labels there in
      let e = entry_of labels c.args.time c.args.point in
      let is : admit history labels c.args.time c.args.point ≡ c.admit.result =
      sym (admitted_as history labels found.0 (timed_at c.args.time c.args.point) (holds.each c.args.series (labels, found.0) found.1)) ∙ sym (c.admit.ensures (labels, found.0) found.1) in
      subst (λ h. Holds c.args.self.now h) (sym (put_refused history e c.admit.result is c.in_default.not-Added)) holds;
  whole = λ history labels x holds there whole.
      let found = entry_at c.args.self.now c.args.series labels there in
      let e = entry_of labels c.args.time c.args.point in
      let is : admit history labels c.args.time c.args.point ≡ c.admit.result =
      sym (admitted_as history labels found.0 (timed_at c.args.time c.args.point) (holds.each c.args.series (labels, found.0) found.1)) ∙ sym (c.admit.ensures (labels, found.0) found.1) in
      subst (λ h. IsWhole c.args.self.now h x) (sym (put_refused history e c.admit.result is c.in_default.not-Added)) whole;
  err = tt;
}
