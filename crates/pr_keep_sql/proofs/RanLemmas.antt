-- What has run.
use Rattle.std.proofs.Common.{◌≡◌, ◌≢◌, ◌⊎◌, ℕ, pos, Bool, true, false, MatchBool, List, [], ◌∷◌, length, Option, None, Some, Result, Ok, Err, IfOk, OnOk, IfSome, IsSome, refl, subst, inl, inr}
use Rattle.sqlite.specs.declared.error.Error.{Error}
use Rattle.sqlite.specs.declared.types.Value.TheVariants.{Int}
use Rattle.sqlite.specs.Held.{Held, state}
use Rattle.sqlite.specs.Order.{Row as Cells}
use Rattle.sqlite.specs.State.{Commits, QueriesRow, Shown}
use Rattle.sqlite.specs.Store.{Ghosts}
use Rattle.pr_outside.specs.declared.keeping.KeepError.{KeepError}
use Rattle.pr_outside.specs.declared.keeping.KeepError.TheVariants.{Failed, Memory}
use Rattle.pr_outside.specs.spec_history.declared.row.Row.{Row as Line}
use Rattle.pr_outside.specs.private.Schedule.{one_more}
use Rattle.pr_keep_sql.specs.private.Counts.{CountsOnce}
use Rattle.pr_keep_sql.specs.private.Found.{AreFound}
use Rattle.pr_keep_sql.specs.private.Ran.{HasLoaded, HasRead, HasRun, IsCount, IsShownAs, numbers_in}
use Rattle.pr_keep_sql.specs.private.Refusals.{RanInTurn}
use Rattle.pr_keep_sql.specs.private.Texts.{Order, numbers_text, rows_text, select_text}

-- a refusal counts one
pub counts_once : (T : Type 0) (want : Bool) (answer : KeepError) (refused odd now : ℕ) → MatchBool want ((answer ≡ Memory) × (now ≡ refused)) ((answer ≡ Failed) × (now ≡ one_more refused))
    → CountsOnce {T = T} refused odd now odd (Err answer)
counts_once T true answer refused odd now h = rw h.0 (h.1, refl)
counts_once T false answer refused odd now h = rw h.0 (inl (h.1, refl))

pub on_ok : {X E P : Type 0} (r : Result X E) → P → OnOk r P
on_ok (Ok x) p = p
on_ok (Err e) p = tt

pub on_ok_more : {X E P Q : Type 0} (r : Result X E) → OnOk r P → (P → Q) → OnOk r Q
on_ok_more (Ok x) p more = more p
on_ok_more (Err e) p more = tt

pub neither : {A B : Type 0} → (A → ⊥) → (B → ⊥) → A ⊎ B → ⊥
neither f g (inl a) = f a
neither f g (inr b) = g b

pub count_is : (rows : List Cells) (o : Option ℕ) → IsCount rows o → IfSome o (λ n. AreFound 0 rows × (n ≡ length rows))
count_is rows (Some n) is = is
count_is rows None is = tt

pub some_count : (rows : List Cells) (o : Option ℕ) → IsCount rows o → AreFound 0 rows → IsSome o
some_count rows (Some n) is found = refl
some_count rows None is found = absurd (is found)

module _ {S : Type 0} (g : Ghosts S) where
  -- the commit was made
  pub has_run : (orders : List Order) (old begun last new : Held S) → begun ≡ record old { in_transaction = true } → RanInTurn g orders begun last → Commits (state g last) (state g new) → HasRun g orders old new
  has_run orders old begun last new is ran commits = record { last = last; ran = subst (λ (b : Held S). RanInTurn g orders b last) is ran; committed = commits }

  -- the number 1 was read, and then the rows
  pub rows_read : (r : Result (Option ℕ) Error) (old mid new : Held S) (numbers : List Cells) → Shown numbers_text [] (state g old) (state g mid) numbers → numbers_in numbers ≡ Int (pos 1) ∷ []
      → IfOk r (λ o. (rows : List Cells) × Shown rows_text [] (state g mid) (state g new) rows × IsCount rows o) → IfOk r (λ o. HasRead g o old new)
  rows_read (Ok o) old mid new numbers shown one rows = (mid, numbers, shown, inr (one, rows))
  rows_read (Err e) old mid new numbers shown one rows = tt

  -- another number was read
  pub other_read : (old new : Held S) (numbers : List Cells) → Shown numbers_text [] (state g old) (state g new) numbers → numbers_in numbers ≢ Int (pos 1) ∷ [] → HasRead g None old new
  other_read old new numbers shown other = (new, numbers, shown, inl (other, refl, refl))

  -- a row was queried, and read
  pub has_loaded : (seq : ℕ) (cells : Cells) (r : Result Line Error) (old new : Held S) → QueriesRow select_text (Int (pos seq) ∷ []) (state g old) (state g new) (Ok cells) → IfOk r (IsShownAs cells)
      → IfOk r (λ row. HasLoaded g seq row old new)
  has_loaded seq cells (Ok row) old new shows is = (cells, shows, is)
  has_loaded seq cells (Err e) old new shows is = tt
