-- A call after one that opened a path.
use Rattle.std.proofs.Common.{◌≡◌, ◌∙◌, ℕ, List, Result, Ok, Err, IsErrAnd, inr, sym, subst}
use Rattle.pr_outside.specs.Paths.{Opens}
use Rattle.pr_outside.specs.Opening.{OpensBy}
use Rattle.pr_outside.specs.declared.status.status.Stop.{Stop}
use Rattle.pr_outside.specs.declared.status.status.Stop.TheVariants.{Read, Load, Store, BadRow, Write, Memory, TooLong}

-- however the call ends that opens no further one
pub opened_on : (T : Type 0) (path : List ℕ) (before opened now : List (List ℕ)) (r : Result T Stop) → Opens path before opened → now ≡ opened → OpensBy path before now r
opened_on T path before opened now (Ok done) is same = same ∙ is
opened_on T path before opened now (Err Read) is same = same ∙ is
opened_on T path before opened now (Err Load) is same = same ∙ is
opened_on T path before opened now (Err Store) is same = inr (same ∙ is)
opened_on T path before opened now (Err (BadRow index)) is same = same ∙ is
opened_on T path before opened now (Err Write) is same = same ∙ is
opened_on T path before opened now (Err Memory) is same = inr (same ∙ is)
opened_on T path before opened now (Err TooLong) is same = same ∙ is

-- a stop is handed on
pub stopped_opening : (T U : Type 0) (path : List ℕ) (before now : List (List ℕ)) (e : Stop) → OpensBy {T = T} path before now (Err e) → OpensBy {T = U} path before now (Err e)
stopped_opening T U path before now Read h = h
stopped_opening T U path before now Load h = h
stopped_opening T U path before now Store h = h
stopped_opening T U path before now (BadRow index) h = h
stopped_opening T U path before now Write h = h
stopped_opening T U path before now Memory h = h
stopped_opening T U path before now TooLong h = h

-- by `?`
pub opening_error : (T U : Type 0) (path : List ℕ) (before now : List (List ℕ)) (r : Result U Stop) (e : Stop) → IsErrAnd r (λ s. s ≡ e) → OpensBy {T = T} path before now (Err e) → OpensBy path before now r
opening_error T U path before now (Ok x) e h o = absurd h
opening_error T U path before now (Err s) e h o = subst (λ (z : Stop). OpensBy {T = U} path before now (Err z)) (sym h) (stopped_opening T U path before now e o)

-- a bad row is one of a store that was opened
pub row_opened : (T : Type 0) (path : List ℕ) (before now : List (List ℕ)) (s : Stop) (index : ℕ) → s ≡ BadRow index → OpensBy {T = T} path before now (Err s) → Opens path before now
row_opened T path before now s index is h = subst (λ (z : Stop). OpensBy {T = T} path before now (Err z)) is h
