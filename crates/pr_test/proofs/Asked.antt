-- How many files were asked for, and how the asking ended.
use Rattle.std.proofs.Common.{◌≡◌, ℕ, suc, ◌<◌, Result, Ok, Err, IsErrAnd, false, refl, ap, sym, ◌∙◌, subst, arith}
use Rattle.pr_outside.specs.Courses.{GoesOn, course_after}
use Rattle.pr_outside.specs.Meant.{Folder}
use Rattle.pr_outside.specs.private.Schedule.{one_more}
use Rattle.pr_outside.specs.declared.course.Course.{Course}
use Rattle.pr_outside.specs.Asks.{Asks, AsksBy}
use Rattle.pr_outside.specs.Ends.{LoadEnds, no_row}
use Rattle.pr_outside.specs.Outside.{Outside}
use Rattle.pr_outside.specs.declared.status.status.Stop.{Stop}
use Rattle.pr_outside.specs.declared.status.status.Stop.TheVariants.{Read, Load, Store, BadRow, Write, Memory, TooLong}
use Rattle.pr_outside.proofs.Ended.{ends_on, in_time_same}

one_then : (a b c n : ℕ) → b ≡ one_more a → Asks b c n → Asks a c (suc n)
one_then a b c n e p = (omega (arith, e, p.0), omega (arith, e, p.0, p.1))

-- what stopped the loading is handed on
pub stop_asked : (T U : Type 0) (a b all : ℕ) (r : Result T Stop) (e : Stop) → IsErrAnd r (λ s. s ≡ e) → AsksBy {T = U} a b all (Err e) → AsksBy {T = T} a b all r
stop_asked T U a b all (Ok x) e h p = absurd h
stop_asked T U a b all (Err s) e h p = subst (λ (z : Stop). AsksBy {T = T} a b all (Err z)) (sym h) (by e p)
  where
    by : (e : Stop) → AsksBy {T = U} a b all (Err e) → AsksBy {T = T} a b all (Err e)
    by Read p = p
    by Load p = p
    by Store p = p
    by (BadRow index) p = p
    by Write p = p
    by Memory p = p
    by TooLong p = p

-- one file was asked for before
pub asked_after : (T : Type 0) (a b c n : ℕ) (r : Result T Stop) → b ≡ one_more a → AsksBy b c n r → AsksBy a c (suc n) r
asked_after T a b c n (Ok x) e p = one_then a b c n e p
asked_after T a b c n (Err Read) e p = absurd p
asked_after T a b c n (Err Load) e p = (suc p.0, one_then a b c p.0 e p.1, omega arith, omega (arith, p.3))
asked_after T a b c n (Err Store) e p = absurd p
asked_after T a b c n (Err (BadRow index)) e p = absurd p
asked_after T a b c n (Err Write) e p = one_then a b c n e p
asked_after T a b c n (Err Memory) e p = (suc p.0, one_then a b c p.0 e p.1, omega (arith, p.2))
asked_after T a b c n (Err TooLong) e p = absurd p

-- one more call of the files that was not refused
pub still_going : (a b c : Course) → GoesOn a b → c ≡ course_after b false → GoesOn a c
still_going a b c going next = λ e. next ∙ ap (λ (k : Course). course_after k false) (going e)

-- the files were asked before, and that was not refused
pub load_ends_on : (T : Type 0) (x y z : Folder) (r : Result T Stop) → y.faults ≡ x.faults → GoesOn x.course y.course → LoadEnds y z r → LoadEnds x z r
load_ends_on T x y z (Ok v) calm going p = λ others.
    let q = p others in
    record { cause = (q.cause.0, q.cause.1 ∙ calm, q.cause.2, q.cause.3); input = q.input; files = λ e. q.files (going e); out = q.out }
load_ends_on T x y z (Err s) calm going p = λ others.
    let a : Outside = record others { files = x } in
    let b : Outside = record others { files = y } in
    let c : Outside = record others { files = z } in
    ends_on T T no_row ⊥ a b c (Err s) s refl (refl, calm, refl, refl) (in_time_same others.input.course) going (λ e. e) (p others)

-- the end of a part is handed on
pub stop_ends : (T U : Type 0) (x y : Folder) (r : Result T Stop) (e : Stop) → IsErrAnd r (λ s. s ≡ e) → LoadEnds {T = U} x y (Err e) → LoadEnds x y r
stop_ends T U x y r e h last = λ others.
    let a : Outside = record others { files = x } in
    let b : Outside = record others { files = y } in
    ends_on T U no_row ⊥ a a b r e h (refl, refl, refl, refl) (in_time_same others.input.course) (λ k. k) (λ k. k) (last others)

pub done_ends : (T U : Type 0) (x y : Folder) (v : U) (w : T) → LoadEnds {T = U} x y (Ok v) → LoadEnds {T = T} x y (Ok w)
done_ends T U x y v w first = λ others. let p = first others in record { cause = p.cause; input = p.input; files = p.files; out = p.out }
