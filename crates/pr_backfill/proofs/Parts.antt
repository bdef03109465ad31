-- How parts of a filling end, one behind another.
use Rattle.std.proofs.Common.{◌≡◌, ◌≢◌, ℕ, ◌≤◌, Result, Ok, Err, IsErrAnd, IsSome, IsTrue, OnOk, refl, ◌∙◌, subst, arith}
use Rattle.pr_outside.specs.Causes.{HasKeepCause}
use Rattle.pr_outside.specs.Meant.{Output, Store}
use Rattle.pr_outside.specs.declared.keeping.KeepError.{KeepError}
use Rattle.pr_outside.specs.declared.keeping.KeepError.TheVariants as keeping
use Rattle.pr_outside.specs.Ends.{Ends, StopsBy, WriteEnds, no_row, stop_of_keeper}
use Rattle.pr_outside.specs.Outside.{Outside}
use Rattle.pr_outside.specs.declared.status.status.Stop.{Stop}
use Rattle.pr_outside.specs.declared.status.status.Stop.TheVariants.{BadRow, Memory}
use Rattle.pr_outside.proofs.Ended.{ends_memory, ends_on, in_time_same, quiet}
use Rattle.pr_outside.proofs.Endings.{ends_behind}
use Rattle.pr_outside.specs.Stores.{KeepsTelling}
use Rattle.pr_backfill.specs.private.Standing.{IsPartOfFilling}
use Rattle.pr_backfill.proofs.Telling.{keeps_any, keeps_error, keeps_none, keeps_on, untold}

-- nothing was done yet
pub part_none : {T : Type 0} (a : Store) (x : Output) (v : T) → IsPartOfFilling a x a x (Ok v)
part_none a x v = record {
  some = λ some. some;
  tells = keeps_none a v;
  more = omega arith;
  paths = refl;
  ends = λ others. record { cause = (refl, refl, refl, refl); input = in_time_same others.input.course; files = λ going. going; out = λ going. going };
}

-- one part behind another
pub part_on : {T U : Type 0} (a b c : Store) (x y z : Output) (v : T) (r : Result U Stop) → IsPartOfFilling a x b y (Ok v) → IsPartOfFilling b y c z r → IsPartOfFilling a x c z r
part_on a b c x y z v r p q = record {
  some = λ some. p.some (q.some some);
  tells = keeps_on a b c v r p.tells q.tells;
  more = omega (arith, p.more, q.more);
  paths = q.paths ∙ p.paths;
  ends = λ others.
      let e = p.ends others in
      ends_behind no_row ⊥ (record others { store = a; out = x }) (record others { store = b; out = y }) (record others { store = c; out = z }) r e.cause
      (in_time_same others.input.course) e.files e.out (q.ends others);
}

-- the error of a part, behind another
pub part_err : (T U V : Type 0) (a b c : Store) (x y z : Output) (v : V) (r : Result T Stop) (e : Stop) → IsErrAnd r (λ s. s ≡ e) → IsPartOfFilling a x b y (Ok v) → IsPartOfFilling {T = U} b y c z (Err e)
    → IsPartOfFilling a x c z r
part_err T U V a b c x y z v r e h p q = record {
  some = λ some. p.some (q.some some);
  tells = keeps_error T U a c r e h (keeps_on a b c v (Err e) p.tells q.tells);
  more = omega (arith, p.more, q.more);
  paths = q.paths ∙ p.paths;
  ends = λ others.
      let l = p.ends others in
      ends_on T U no_row ⊥ (record others { store = a; out = x }) (record others { store = b; out = y }) (record others { store = c; out = z }) r e h l.cause
      (in_time_same others.input.course) l.files l.out (q.ends others);
}

-- want of memory, behind a part
pub part_memory : (T V : Type 0) (a b : Store) (x y : Output) (v : V) (r : Result T Stop) → IsErrAnd r (λ s. s ≡ Memory) → IsPartOfFilling a x b y (Ok v) → IsPartOfFilling a x b y r
part_memory T V a b x y v r h p =
    part_err T T V a b b x y y v r Memory h p (record {
      some = λ some. some;
      tells = keeps_any b b v (Err Memory) (keeps_none b v);
      more = omega arith;
      paths = refl;
      ends = λ others. ends_memory T no_row ⊥ (record others { store = b; out = y });
    })

-- a write
pub part_write : {T : Type 0} (a : Store) (x y : Output) (r : Result T Stop) → WriteEnds x y r → IsPartOfFilling a x a y r
part_write a x y r w = record {
  some = λ some. some;
  tells = keeps_any {V = Unit} a a tt r (keeps_none a tt);
  more = omega arith;
  paths = refl;
  ends = λ others. w (record others { store = a });
}

-- rows that were kept, or were not
pub part_kept : {T : Type 0} (a b : Store) (x : Output) (v : T) → (IsSome b.rows → IsSome a.rows) → KeepsTelling a b (Ok v) → a.count ≤ b.count → b.paths ≡ a.paths → b.faults ≡ a.faults
    → IsPartOfFilling a x b x (Ok v)
part_kept a b x v some tells more unopened calm = record {
  some = some;
  tells = tells;
  more = more;
  paths = unopened;
  ends = λ others. record { cause = (refl, refl, calm, refl); input = in_time_same others.input.course; files = λ going. going; out = λ going. going };
}

keep_stop : (T U : Type 0) (a b : Store) (x : Output) (e : KeepError) → HasKeepCause {T = U} a.faults b.faults (Err e) → (others : Outside)
    → Ends {T = T} no_row ⊥ (record others { store = a; out = x }) (record others { store = b; out = x }) (Err (stop_of_keeper e))
keep_stop T U a b x keeping.Failed cause others = record {
  cause = (refl, refl, cause.0, refl);
  input = in_time_same others.input.course;
  files = in_time_same others.files.course;
  out = in_time_same x.course;
}
keep_stop T U a b x keeping.Memory cause others = record {
  cause = (refl, refl, cause, refl);
  input = in_time_same others.input.course;
  files = in_time_same others.files.course;
  out = in_time_same x.course;
}

pub part_unkept : (T U : Type 0) (a b : Store) (x : Output) (r : Result T Stop) (e : KeepError) → IsErrAnd r (λ s. s ≡ stop_of_keeper e) → (IsSome b.rows → IsSome a.rows) → (IsTrue b.sound → IsTrue a.sound)
    → b.count ≡ a.count → b.paths ≡ a.paths → HasKeepCause {T = U} a.faults b.faults (Err e) → IsPartOfFilling a x b x r
part_unkept T U a b x r e h some sound same unopened cause =
    part_err T T Unit a a b x x x tt r (stop_of_keeper e) h (part_none a x tt) (record {
      some = some;
      tells = record { sound = sound; told = λ so told. untold T (IsSome b.rows) e };
      more = omega (arith, same);
      paths = unopened;
      ends = keep_stop T U a b x e cause;
    })

-- no row stops a part
pub part_fine : (T : Type 0) (a b : Store) (x y : Output) (r : Result T Stop) (index : ℕ) → IsPartOfFilling a x b y r → r ≢ Err (BadRow index)
part_fine T a b x y r index p is =
    (subst (λ (z : Result T Stop). StopsBy no_row ⊥ (record quiet { store = a; out = x }) (record quiet { store = b; out = y }) z) is (p.ends quiet).cause).1

-- what holds anyway
pub on_ok : {T E : Type 0} (r : Result T E) (P : Type 0) → P → OnOk r P
on_ok (Ok x) P p = p
on_ok (Err e) P p = tt
