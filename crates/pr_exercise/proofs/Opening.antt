-- What is written where a store cannot be opened, or has a bad row.
use Rattle.std.proofs.Common.{◌≡◌, ◌≢◌, ℕ, List, Option, Some, None, Result, Err, IfSome, OnErr, refl, sym, subst, take}
use Rattle.std.specs.Io.KnownBytes.{Appends}
use Rattle.pr_text.specs.spec_history.declared.entry.Entry.{Entry}
use Rattle.pr_outside.specs.spec_history.declared.row.Row.{Row}
use Rattle.pr_text.specs.spec_history.Histories.{history_of}
use Rattle.pr_outside.specs.declared.status.status.Stop.{Stop}
use Rattle.pr_outside.specs.declared.status.status.Stop.TheVariants.{Read, Load, Store, BadRow, Write, Memory, TooLong}
use Rattle.pr_outside.specs.Opening.{OpensBy}
use Rattle.pr_outside.proofs.Opening.{opened_on, stopped_opening}
use Rattle.pr_text.specs.BadRows.{bad_text}

abbrev pub IsUnopened : {T : Type 0} → Option (List Row) → Result T Stop → Option (List ℕ) → Option (List ℕ) → Type 0
IsUnopened rows r old new = IfSome rows (λ rs. OnErr r ((n : ℕ) × Appends old new (take n (bad_text (history_of rs)))))

-- by what a stop says of its row
pub stop_front : (T : Type 0) (old new : Option (List ℕ)) (rows : Option (List Row)) (s e : Stop) → ((at : ℕ) → s ≡ BadRow at → IfSome rows (λ rs. history_of rs ≡ Err at))
    → ((told : Result (List Entry) ℕ) → ((at : ℕ) → s ≡ BadRow at → told ≡ Err at) → (n : ℕ) × Appends old new (take n (bad_text told)))
    → IsUnopened {T = T} rows (Err e) old new
stop_front T old new None s e bad front = tt
stop_front T old new (Some rs) s e bad front = front (history_of rs) bad

-- which path was opened

same_opening : (T U : Type 0) (path : List ℕ) (before now : List (List ℕ)) (s e : Stop) → OpensBy {T = T} path before now (Err s) → e ≡ s → OpensBy {T = U} path before now (Err e)
same_opening T U path before now s e h is = subst (λ (z : Stop). OpensBy {T = U} path before now (Err z)) (sym is) (stopped_opening T U path before now s h)

-- a bad row is one of a store that was opened, and another stop is handed on
pub stop_opened : (T U : Type 0) (path : List ℕ) (before now : List (List ℕ)) (s e : Stop) → OpensBy {T = T} path before now (Err s)
    → (((at : ℕ) → s ≢ BadRow at) → e ≡ s) → OpensBy {T = U} path before now (Err e)
stop_opened T U path before now Read e h other = same_opening T U path before now Read e h (other (λ at is. absurd (cc)))
stop_opened T U path before now Load e h other = same_opening T U path before now Load e h (other (λ at is. absurd (cc)))
stop_opened T U path before now Store e h other = same_opening T U path before now Store e h (other (λ at is. absurd (cc)))
stop_opened T U path before now (BadRow index) e h other = opened_on U path before now now (Err e) h refl
stop_opened T U path before now Write e h other = same_opening T U path before now Write e h (other (λ at is. absurd (cc)))
stop_opened T U path before now Memory e h other = same_opening T U path before now Memory e h (other (λ at is. absurd (cc)))
stop_opened T U path before now TooLong e h other = same_opening T U path before now TooLong e h (other (λ at is. absurd (cc)))
