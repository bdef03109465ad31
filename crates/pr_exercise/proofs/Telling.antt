-- Whether the rows are told, over one call of the store and another.
use Rattle.std.proofs.Common.{◌≡◌, ◌≢◌, ℕ, Result, Ok, Err, IsErrAnd, IsSome, sym, subst}
use Rattle.pr_outside.specs.Meant.{Store}
use Rattle.pr_outside.specs.Stores.{IfKept, KeepsTelling, StartsTelling}
use Rattle.pr_outside.specs.declared.status.status.Stop.{Stop}
use Rattle.pr_outside.specs.declared.status.status.Stop.TheVariants as stop

-- what holds anyway
kept_any : (T P : Type 0) (r : Result T Stop) → P → IfKept r P
kept_any T P (Ok x) p = p
kept_any T P (Err stop.Read) p = p
kept_any T P (Err stop.Load) p = p
kept_any T P (Err stop.Store) p = tt
kept_any T P (Err (stop.BadRow index)) p = p
kept_any T P (Err stop.Write) p = p
kept_any T P (Err stop.Memory) p = tt
kept_any T P (Err stop.TooLong) p = p

-- the same stop, of another call
kept_same : (T U P : Type 0) (s : Stop) → IfKept {T = U} (Err s) P → IfKept {T = T} (Err s) P
kept_same T U P stop.Read p = p
kept_same T U P stop.Load p = p
kept_same T U P stop.Store p = tt
kept_same T U P (stop.BadRow index) p = p
kept_same T U P stop.Write p = p
kept_same T U P stop.Memory p = tt
kept_same T U P stop.TooLong p = p

-- by `?`
kept_error : (T U P : Type 0) (r : Result T Stop) (e : Stop) → IsErrAnd r (λ y. y ≡ e) → IfKept {T = U} (Err e) P → IfKept r P
kept_error T U P (Ok x) e h p = absurd h
kept_error T U P (Err s) e h p = subst (λ (z : Stop). IfKept {T = T} (Err z) P) (sym h) (kept_same T U P e p)

-- a bad row leaves them told, and another stop is handed on
kept_stop : (T U P : Type 0) (s e : Stop) → (((at : ℕ) → s ≢ stop.BadRow at) → e ≡ s) → IfKept {T = U} (Err s) P → IfKept {T = T} (Err e) P
kept_stop T U P stop.Read e other p = kept_any T P (Err e) p
kept_stop T U P stop.Load e other p = kept_any T P (Err e) p
kept_stop T U P stop.Store e other p = subst (λ (z : Stop). IfKept {T = T} (Err z) P) (sym (other (λ at is. absurd (cc)))) tt
kept_stop T U P (stop.BadRow index) e other p = kept_any T P (Err e) p
kept_stop T U P stop.Write e other p = kept_any T P (Err e) p
kept_stop T U P stop.Memory e other p = subst (λ (z : Stop). IfKept {T = T} (Err z) P) (sym (other (λ at is. absurd (cc)))) tt
kept_stop T U P stop.TooLong e other p = kept_any T P (Err e) p

-- no call
pub keeps_none : {T : Type 0} (a : Store) (x : T) → KeepsTelling a a (Ok x)
keeps_none a x = record { sound = λ sound. sound; told = λ sound some. some }

-- one call, and another behind it
pub keeps_on : {T V : Type 0} (a b c : Store) (x : V) (r : Result T Stop) → KeepsTelling a b (Ok x) → KeepsTelling b c r → KeepsTelling a c r
keeps_on a b c x r p q = record { sound = λ sound. p.sound (q.sound sound); told = λ sound some. q.told sound (p.told (q.sound sound) some) }

pub starts_on : {T V : Type 0} (a b c : Store) (x : V) (r : Result T Stop) → StartsTelling a b (Ok x) → KeepsTelling b c r → StartsTelling a c r
starts_on a b c x r p q = record { sound = λ sound. p.sound (q.sound sound); told = λ sound. q.told sound (p.told (q.sound sound)) }

-- what comes behind it calls the store no more
pub keeps_any : {T V : Type 0} (a b : Store) (x : V) (r : Result T Stop) → KeepsTelling a b (Ok x) → KeepsTelling a b r
keeps_any {T} a b x r p = record { sound = p.sound; told = λ sound some. kept_any T (IsSome b.rows) r (p.told sound some) }

pub starts_any : {T V : Type 0} (a b : Store) (x : V) (r : Result T Stop) → StartsTelling a b (Ok x) → StartsTelling a b r
starts_any {T} a b x r p = record { sound = p.sound; told = λ sound. kept_any T (IsSome b.rows) r (p.told sound) }

-- by `?`
pub keeps_error : (T U : Type 0) (a b : Store) (r : Result T Stop) (e : Stop) → IsErrAnd r (λ y. y ≡ e) → KeepsTelling {T = U} a b (Err e) → KeepsTelling a b r
keeps_error T U a b r e h p = record { sound = p.sound; told = λ sound some. kept_error T U (IsSome b.rows) r e h (p.told sound some) }

pub starts_error : (T U : Type 0) (a b : Store) (r : Result T Stop) (e : Stop) → IsErrAnd r (λ y. y ≡ e) → StartsTelling {T = U} a b (Err e) → StartsTelling a b r
starts_error T U a b r e h p = record { sound = p.sound; told = λ sound. kept_error T U (IsSome b.rows) r e h (p.told sound) }

-- behind a stop the line of a bad row may be written
pub keeps_stop : (T U : Type 0) (a b : Store) (s e : Stop) → (((at : ℕ) → s ≢ stop.BadRow at) → e ≡ s) → KeepsTelling {T = U} a b (Err s) → KeepsTelling {T = T} a b (Err e)
keeps_stop T U a b s e other p = record { sound = p.sound; told = λ sound some. kept_stop T U (IsSome b.rows) s e other (p.told sound some) }

pub starts_stop : (T U : Type 0) (a b : Store) (s e : Stop) → (((at : ℕ) → s ≢ stop.BadRow at) → e ≡ s) → StartsTelling {T = U} a b (Err s) → StartsTelling {T = T} a b (Err e)
starts_stop T U a b s e other p = record { sound = p.sound; told = λ sound. kept_stop T U (IsSome b.rows) s e other (p.told sound) }
