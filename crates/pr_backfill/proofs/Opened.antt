-- Which paths a backfill opened, by its parts.
use Rattle.std.proofs.Common.{◌≡◌, ◌≢◌, ◌∙◌, ℕ, ◌+◌, Bool, List, [], ◌∷◌, Result, Ok, Err, inl, inr, refl, sym, ap, subst, length, length-append, arith}
use Rattle.pr_outside.specs.Meant.{Output, Store}
use Rattle.pr_outside.specs.Paths.{Opens}
use Rattle.pr_outside.specs.declared.keeping.KeepError.{KeepError}
use Rattle.pr_outside.specs.declared.keeping.KeepError.TheVariants as keeping
use Rattle.pr_outside.specs.Asks.{AsksBy}
use Rattle.pr_outside.specs.Ends.{Ends, no_row, stop_of_keeper}
use Rattle.pr_outside.specs.Opening.{OpensBy}
use Rattle.pr_outside.specs.Outside.{Outside}
use Rattle.pr_outside.specs.declared.status.status.Stop.{Stop}
use Rattle.pr_outside.specs.declared.status.status.Stop.TheVariants.{Read, Load, BadRow, Write, Memory, TooLong}
use Rattle.pr_outside.specs.declared.status.status.Stop.TheVariants as stop
use Rattle.pr_outside.proofs.Ended.{quiet}
use Rattle.pr_backfill.specs.Means.{EndsRefused, FillOpens}
use Rattle.pr_backfill.proofs.Loaded.{none_rose}

-- a start that was refused
pub refused_opens : (T : Type 0) (path : List ℕ) (before now : List (List ℕ)) (e : KeepError) (s : Stop) → s ≡ stop_of_keeper e → now ≡ before → OpensBy {T = T} path before now (Err s)
refused_opens T path before now e s is same = subst (λ (z : Stop). OpensBy {T = T} path before now (Err z)) (sym is) (by e)
  where
    by : (e : KeepError) → OpensBy {T = T} path before now (Err (stop_of_keeper e))
    by keeping.Failed = inl same
    by keeping.Memory = inl same

-- one that was not is one path more
pub opens_more : (path : List ℕ) (before opened now : List (List ℕ)) → Opens path before opened → now ≡ opened → now ≢ before
opens_more path before opened now is same back =
    let more : length before ≡ length before + 1 = ap length (sym back ∙ same ∙ is) ∙ length-append before (path ∷ []) in
    omega (arith, more)

-- where the input and the files are as they were, no read and no load stopped it

quiet_read : (T : Type 0) (bad : ℕ → Type 0) (x y : Store) (p q : Output) (s : Stop)
    → Ends {T = T} bad ⊥ (record quiet { store = x; out = p }) (record quiet { store = y; out = q }) (Err s) → s ≢ Read
quiet_read T bad x y p q s e is =
    let read = subst (λ (z : Stop). Ends {T = T} bad ⊥ (record quiet { store = x; out = p }) (record quiet { store = y; out = q }) (Err z)) is e in
    none_rose read.cause.0

quiet_long : (T : Type 0) (bad : ℕ → Type 0) (x y : Store) (p q : Output) (s : Stop)
    → Ends {T = T} bad ⊥ (record quiet { store = x; out = p }) (record quiet { store = y; out = q }) (Err s) → s ≢ TooLong
quiet_long T bad x y p q s e is =
    let long = subst (λ (z : Stop). Ends {T = T} bad ⊥ (record quiet { store = x; out = p }) (record quiet { store = y; out = q }) (Err z)) is e in
    long.cause.1

pub quiet_load : (bad : ℕ → Type 0) (x y : Store) (p q : Output) (r : Result Bool Stop) → Ends bad ⊥ (record quiet { store = x; out = p }) (record quiet { store = y; out = q }) r
    → r ≢ Err Load
quiet_load bad x y p q r e is =
    let load = subst (λ (z : Result Bool Stop). Ends bad ⊥ (record quiet { store = x; out = p }) (record quiet { store = y; out = q }) z) is e in
    none_rose load.cause.1

-- a filling that was stopped
pub stopped_fill : (T U : Type 0) (bad : ℕ → Type 0) (x y : Store) (p q : Output) (path : List ℕ) (before now : List (List ℕ)) (s : Stop)
    → Ends {T = T} bad ⊥ (record quiet { store = x; out = p }) (record quiet { store = y; out = q }) (Err s) → OpensBy {T = U} path before now (Err s) → FillOpens path before now (Err s)
stopped_fill T U bad x y p q path before now Read e h = none_rose e.cause.0
stopped_fill T U bad x y p q path before now Load e h = absurd (none_rose e.cause.1)
stopped_fill T U bad x y p q path before now stop.Store e h = h
stopped_fill T U bad x y p q path before now (BadRow index) e h = h
stopped_fill T U bad x y p q path before now Write e h = inr h
stopped_fill T U bad x y p q path before now Memory e h = h
stopped_fill T U bad x y p q path before now TooLong e h = e.cause.1

-- a stop before it
pub unopened_fill : (path : List ℕ) (before now : List (List ℕ)) (s : Stop) → s ≢ Read → s ≢ TooLong → ((index : ℕ) → s ≢ BadRow index) → now ≡ before → FillOpens path before now (Err s)
unopened_fill path before now Read read long fine same = read refl
unopened_fill path before now Load read long fine same = same
unopened_fill path before now stop.Store read long fine same = inl same
unopened_fill path before now (BadRow index) read long fine same = absurd (fine index refl)
unopened_fill path before now Write read long fine same = inl same
unopened_fill path before now Memory read long fine same = inl same
unopened_fill path before now TooLong read long fine same = long refl

-- files that could not be loaded
pub asked_read : (T : Type 0) (a b all : ℕ) (s : Stop) → AsksBy {T = T} a b all (Err s) → s ≢ Read
asked_read T a b all s asked is = subst (λ (z : Stop). AsksBy {T = T} a b all (Err z)) is asked

pub asked_long : (T : Type 0) (a b all : ℕ) (s : Stop) → AsksBy {T = T} a b all (Err s) → s ≢ TooLong
asked_long T a b all s asked is = subst (λ (z : Stop). AsksBy {T = T} a b all (Err z)) is asked

-- files that were refused
pub refused_fill : (path lines : List ℕ) (a b : Outside) (x y : Store) (p q : Output) (paths : List (List ℕ)) (r : Result Bool Stop) → EndsRefused lines a b r
    → Ends no_row ⊥ (record quiet { store = x; out = p }) (record quiet { store = y; out = q }) r → FillOpens path paths paths r
refused_fill path lines a b x y p q paths (Ok refused) o e = subst (λ (z : Bool). FillOpens path paths paths (Ok z)) (sym o.whole.0) refl
refused_fill path lines a b x y p q paths (Err s) o e =
    unopened_fill path paths paths s (quiet_read Bool no_row x y p q s e) (quiet_long Bool no_row x y p q s e) (λ index row. o.fine index (ap (λ (z : Stop). Err z) row)) refl
