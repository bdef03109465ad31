-- Rows that are told stay told, from one call to the next.
use Rattle.std.proofs.Common.{◌≡◌, ℕ, Result, Ok, Err, IsErrAnd, OnOk, IsSome, sym, subst}
use Rattle.pr_outside.specs.Meant.{Store}
use Rattle.pr_outside.specs.Stores.{IfKept, KeepsTelling, StartsTelling}
use Rattle.pr_outside.specs.declared.status.status.Stop.{Stop}
use Rattle.pr_outside.specs.declared.status.status.Stop.TheVariants as stop

-- what holds after a call holds however it ended
if_kept : (T : Type 0) (r : Result T Stop) (P : Type 0) → P → IfKept r P
if_kept T (Ok x) P p = p
if_kept T (Err stop.Read) P p = p
if_kept T (Err stop.Load) P p = p
if_kept T (Err stop.Store) P p = tt
if_kept T (Err (stop.BadRow index)) P p = p
if_kept T (Err stop.Write) P p = p
if_kept T (Err stop.Memory) P p = tt
if_kept T (Err stop.TooLong) P p = p

-- the same stop of another call
same_stop : (T U : Type 0) (s : Stop) (P : Type 0) → IfKept {T = T} (Err s) P → IfKept {T = U} (Err s) P
same_stop T U stop.Read P p = p
same_stop T U stop.Load P p = p
same_stop T U stop.Store P p = tt
same_stop T U (stop.BadRow index) P p = p
same_stop T U stop.Write P p = p
same_stop T U stop.Memory P p = tt
same_stop T U stop.TooLong P p = p

kept_err : (T U : Type 0) (r : Result U Stop) (s : Stop) (P : Type 0) → IsErrAnd r (λ y. y ≡ s) → IfKept {T = T} (Err s) P → IfKept r P
kept_err T U (Ok x) s P h p = absurd h
kept_err T U (Err y) s P h p = subst (λ (z : Stop). IfKept {T = U} (Err z) P) (sym h) (same_stop T U s P p)

-- a bad row is no refused call
kept_row : (T U : Type 0) (r : Result U Stop) (s : Stop) (index : ℕ) (P : Type 0) → s ≡ stop.BadRow index → IfKept {T = T} (Err s) P → IfKept r P
kept_row T U r s index P is p = if_kept U r P (subst (λ (z : Stop). IfKept {T = T} (Err z) P) is p)

-- Another call of a store that was started.

-- the store was not called
pub keeps_same : (T : Type 0) (a : Store) (r : Result T Stop) → KeepsTelling a a r
keeps_same T a r = record { sound = λ sound. sound; told = λ sound some. if_kept T r (IsSome a.rows) some }

-- its last call was not stopped
pub keeps_as : (T U : Type 0) (a b : Store) (x : T) (r : Result U Stop) → KeepsTelling {T = T} a b (Ok x) → KeepsTelling {T = U} a b r
keeps_as T U a b x r k = record { sound = k.sound; told = λ sound some. if_kept U r (IsSome b.rows) (k.told sound some) }

pub keeps_on : (T U : Type 0) (a b c : Store) (x : T) (r : Result U Stop) → KeepsTelling {T = T} a b (Ok x) → KeepsTelling b c r → KeepsTelling a c r
keeps_on T U a b c x r k l = record { sound = λ sound. k.sound (l.sound sound); told = λ sound some. l.told sound (k.told (l.sound sound) some) }

-- its last call was stopped
pub keeps_err : (T U : Type 0) (a b : Store) (r : Result U Stop) (s : Stop) → IsErrAnd r (λ y. y ≡ s) → KeepsTelling {T = T} a b (Err s) → KeepsTelling a b r
keeps_err T U a b r s h k = record { sound = k.sound; told = λ sound some. kept_err T U r s (IsSome b.rows) h (k.told sound some) }

pub keeps_stop : (T U : Type 0) (a b : Store) (s : Stop) → KeepsTelling {T = T} a b (Err s) → KeepsTelling {T = U} a b (Err s)
keeps_stop T U a b s k = record { sound = k.sound; told = λ sound some. same_stop T U s (IsSome b.rows) (k.told sound some) }

-- it has a bad row
pub keeps_row : (T U : Type 0) (a b : Store) (r : Result U Stop) (s : Stop) (index : ℕ) → s ≡ stop.BadRow index → KeepsTelling {T = T} a b (Err s) → KeepsTelling a b r
keeps_row T U a b r s index is k = record { sound = k.sound; told = λ sound some. kept_row T U r s index (IsSome b.rows) is (k.told sound some) }

-- The start of a store, and the same ends of it.

pub starts_as : (T U : Type 0) (a b : Store) (x : T) (r : Result U Stop) → StartsTelling {T = T} a b (Ok x) → StartsTelling {T = U} a b r
starts_as T U a b x r k = record { sound = k.sound; told = λ sound. if_kept U r (IsSome b.rows) (k.told sound) }

pub starts_on : (T U : Type 0) (a b c : Store) (x : T) (r : Result U Stop) → StartsTelling {T = T} a b (Ok x) → KeepsTelling b c r → StartsTelling a c r
starts_on T U a b c x r k l = record { sound = λ sound. k.sound (l.sound sound); told = λ sound. l.told sound (k.told (l.sound sound)) }

pub starts_err : (T U : Type 0) (a b : Store) (r : Result U Stop) (s : Stop) → IsErrAnd r (λ y. y ≡ s) → StartsTelling {T = T} a b (Err s) → StartsTelling a b r
starts_err T U a b r s h k = record { sound = k.sound; told = λ sound. kept_err T U r s (IsSome b.rows) h (k.told sound) }

pub starts_stop : (T U : Type 0) (a b : Store) (s : Stop) → StartsTelling {T = T} a b (Err s) → StartsTelling {T = U} a b (Err s)
starts_stop T U a b s k = record { sound = k.sound; told = λ sound. same_stop T U s (IsSome b.rows) (k.told sound) }

pub starts_row : (T U : Type 0) (a b : Store) (r : Result U Stop) (s : Stop) (index : ℕ) → s ≡ stop.BadRow index → StartsTelling {T = T} a b (Err s) → StartsTelling a b r
starts_row T U a b r s index is k = record { sound = k.sound; told = λ sound. kept_row T U r s index (IsSome b.rows) is (k.told sound) }

pub on_ok : {T E : Type 0} (r : Result T E) (P : Type 0) → P → OnOk r P
on_ok (Ok x) P p = p
on_ok (Err e) P p = tt
