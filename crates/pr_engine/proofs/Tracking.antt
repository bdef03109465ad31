-- Series that are tracked, where the same ones were kept in the same order.
use Rattle.std.proofs.Common.{◌≡◌, ℕ, Bool, true, false, not, cond, List, [], ◌∷◌, Option, Some, map, filter, fold, refl, sym, ap, ◌∙◌, subst}
use Rattle.std.proofs.lemmas.Bool.{or_left, or_right}
use Rattle.std.specs.Prelude.{Result, Ok, Err, OnOk, IfSome}
use Rattle.std.specs.Bool.{Decides}
use Rattle.std.specs.Cmp.Lexicographic.{pointwise, pointwise_decides}
use Rattle.pr_labels.specs.declared.pair.Pair.{Pair}
use Rattle.pr_labels.specs.Order.{labels_eq}
use Rattle.pr_labels.specs.Rising.{is_among, with_labels}
use Rattle.pr_labels.proofs.LabelOrder.{labels_decide}
use Rattle.pr_head.specs.spec_history.declared.entry.Entry.{Entry}
use Rattle.pr_head.specs.private.Holds.{Holds}
use Rattle.pr_manager.specs.spec_world.Scrapes.{marker, markers}
use Rattle.pr_head.specs.private.Intake.{Puts, Series}
use Rattle.pr_head.proofs.IntakeIntake.{puts_none}

sets_decide : (a b : List (List Pair)) → Decides (pointwise labels_eq a b) (a ≡ b)
sets_decide = pointwise_decides labels_decide

pub same_kept : (known : Option (List (List Pair))) (sets kept tracked : List (List Pair)) → known ≡ Some sets → IfSome known (λ s. tracked ≡ fold with_labels [] s)
    → pointwise labels_eq sets kept ≡ true → tracked ≡ fold with_labels [] kept
same_kept known sets kept tracked is h same =
    subst (λ (o : Option (List (List Pair))). IfSome o (λ s. tracked ≡ fold with_labels [] s)) is h ∙ ap (fold with_labels []) ((sets_decide sets kept).0 same)

dropped : (b : Bool) (l : List Pair) (rest : List (List Pair)) → b ≡ true → rest ≡ [] → cond (not b) (l ∷ rest) rest ≡ []
dropped true l rest h none = none
dropped false l rest h none = cc

none_gone : (old whole : List (List Pair)) → ((l : List Pair) → is_among l old ≡ true → is_among l whole ≡ true) → filter (λ l. not (is_among l whole)) old ≡ []
none_gone [] whole within = refl
none_gone (l ∷ old) whole within =
    dropped (is_among l whole) l (filter (λ k. not (is_among k whole)) old)
    (within l (or_left (labels_eq l l) (is_among l old) ((labels_decide l l).1 refl)))
    (none_gone old whole (λ k e. within k (or_right (labels_eq k l) (is_among k old) e)))

no_markers : (now : ℕ) (old new : List (List Pair)) → old ≡ new → markers now old new ≡ []
no_markers now old new same = ap (λ (sets : List (List Pair)). markers now old sets) (sym same) ∙ ap (map (marker now)) (none_gone old old (λ l e. e))

-- no marker is put for series that are still tracked
pub puts_no_markers : (a : Series) (rows history : List Entry) (now : ℕ) (old new : List (List Pair)) → Holds a history → old ≡ new → Puts a a rows rows history (markers now old new)
puts_no_markers a rows history now old new h same = subst (λ (es : List Entry). Puts a a rows rows history es) (sym (no_markers now old new same)) (puts_none a rows history h)

-- what holds at each end holds where a call answers Ok
pub on_ok : {T E : Type 0} (r : Result T E) (P : Type 0) → P → OnOk r P
on_ok (Ok v) P p = p
on_ok (Err e) P p = tt
