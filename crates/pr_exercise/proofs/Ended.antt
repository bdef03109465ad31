-- How a call ends that hands on an error of its last part, or has no memory after it.
use Rattle.std.proofs.Common.{◌≡◌, Result, Ok, Err, IsErrAnd, refl}
use Rattle.pr_outside.specs.Meant.{Store}
use Rattle.pr_outside.specs.Outside.{Outside}
use Rattle.pr_outside.specs.declared.status.status.Stop.{Stop}
use Rattle.pr_outside.specs.declared.status.status.Stop.TheVariants.{Memory}
use Rattle.pr_outside.proofs.Ended.{ends_memory, ends_on, in_time_same}
use Rattle.pr_outside.specs.Stores.{KeepEnds, IsBadIn}

-- the error of the last part, where the parts before it were refused nothing
pub keep_on : (T U : Type 0) (a b c : Store) (r : Result T Stop) (e : Stop) → IsErrAnd r (λ y. y ≡ e) → b.faults ≡ a.faults → KeepEnds {T = U} b c (Err e) → KeepEnds {T = T} a c r
keep_on T U a b c r e h calm p = λ others.
    ends_on T U (IsBadIn c) ⊥ (record others { store = a }) (record others { store = b }) (record others { store = c }) r e h (refl, refl, calm, refl)
    (in_time_same others.input.course) (λ going. going) (λ going. going) (p others)

-- want of memory, behind a part that was refused nothing
pub keep_memory : (T : Type 0) (a b : Store) (r : Result T Stop) → IsErrAnd r (λ y. y ≡ Memory) → b.faults ≡ a.faults → KeepEnds {T = T} a b r
keep_memory T a b r h calm = λ others.
    ends_on T T (IsBadIn b) ⊥ (record others { store = a }) (record others { store = b }) (record others { store = b }) r Memory h (refl, refl, calm, refl)
    (in_time_same others.input.course) (λ going. going) (λ going. going) (ends_memory T (IsBadIn b) ⊥ (record others { store = b }))

pub calm_keep : (T : Type 0) (a b : Store) (x : T) → KeepEnds {T = T} a b (Ok x) → (others : Outside) → b.faults ≡ a.faults
calm_keep T a b x e others = (e others).cause.2

pub keep_done : (T : Type 0) (a b : Store) (x : T) → b.faults ≡ a.faults → KeepEnds {T = T} a b (Ok x)
keep_done T a b x calm = λ others. record { cause = (refl, refl, calm, refl); input = in_time_same others.input.course; files = λ going. going; out = λ going. going }
