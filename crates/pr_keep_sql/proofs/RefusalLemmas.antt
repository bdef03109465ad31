-- What was refused of a transaction.
use Rattle.std.proofs.Common.{◌≡◌, ◌≢◌, ◌⊎◌, ℕ, suc, ◌+◌, ◌<◌, ◌≤◌, pos, Bool, true, false, true≢false, IsTrue, IsUtf8, MatchBool, List, [], ◌∷◌, ◌++◌, length, take, drop, slice_index_or, Result, Ok, Err, IfErr, refl, sym, ap, subst, ◌∙◌, arith, inl, inr}
use Rattle.std.proofs.Math.Seq.{drop-cons, take-length, take-suc}
use Rattle.std.proofs.lemmas.List.{length-take-le, take-append-drop}
use Rattle.sqlite.specs.declared.error.Error.{Error}
use Rattle.sqlite.specs.declared.error.Error.TheVariants.{SqliteFailure}
use Rattle.sqlite.specs.declared.error.ErrorCode.TheVariants as code
use Rattle.sqlite.specs.declared.types.Value.TheVariants.{Int}
use Rattle.sqlite.specs.Held.{Held, state}
use Rattle.sqlite.specs.Order.{Row as Cells}
use Rattle.sqlite.specs.Effect.{Database}
use Rattle.sqlite.specs.State.{ExecutesInside, FailsToQuery, IsRolledBack, KeepsCommit, QueriesRow, Shown, State}
use Rattle.sqlite.specs.Steps.{FailsToCommit}
use Rattle.sqlite.specs.Store.{Ghosts}
use Rattle.pr_outside.specs.declared.keeping.KeepError.{KeepError}
use Rattle.pr_outside.specs.declared.keeping.KeepError.TheVariants.{Failed, Memory}
use Rattle.pr_outside.specs.spec_history.declared.row.Row.{Row as Line}
use Rattle.pr_outside.specs.private.Schedule.{one_more}
use Rattle.pr_keep_sql.specs.private.Counts.{is_want}
use Rattle.pr_keep_sql.specs.private.Refusals.{IsLoadRefused, IsReadingRefused, IsRefusal, IsStopped, IsTransactionRefused, RanInTurn}
use Rattle.pr_keep_sql.specs.private.Statements.{Adds, shown}
use Rattle.pr_keep_sql.specs.private.Texts.{Order, given_params, insert_text, inserts, kept_text, makings, number_text, numbers_text, rows_text, select_text, version_text}
use Rattle.pr_keep_sql.proofs.StateLemmas.{adds_then}

abbrev insert_of : ℕ → Line → Order
insert_of seq row = record { sql = insert_text; params = given_params seq row }

inserts_append : (seq : ℕ) (a b : List Line) → inserts seq (a ++ b) ≡ inserts seq a ++ inserts (seq + length a) b
inserts_append seq [] b = ap (λ (n : ℕ). inserts n b) (omega arith)
inserts_append seq (row ∷ a) b =
    let place : seq + 1 + length a ≡ seq + length (row ∷ a) = omega arith in
    ap (λ (rest : List Order). insert_of seq row ∷ rest) (inserts_append (seq + 1) a b ∙ ap (λ (n : ℕ). inserts (seq + 1) a ++ inserts n b) place)

-- the next row, of those up to a place
pub next_row : (i : ℕ) (rows : List Line) (row : Line) → i < length rows → row ≡ slice_index_or rows i row → take (i + 1) rows ≡ take i rows ++ row ∷ []
next_row i rows row low is =
    let step : suc i ≡ i + 1 = omega arith in
    ap (λ (k : ℕ). take k rows) (sym step) ∙ take-suc rows i row low ∙ ap (λ (x : Line). take i rows ++ x ∷ []) (sym is)

-- a row more in the tables
pub adds_next : (size i seq : ℕ) (rows : List Line) (row : Line) (a b c : Database) → i < length rows → row ≡ slice_index_or rows i row → seq ≡ size + i → Adds size (take i rows) a b → Adds seq (row ∷ []) b c → Adds size (take (i + 1) rows) a c
adds_next size i seq rows row a b c low is at first then =
    let count : length (take i rows) ≡ i = length-take-le i rows (omega (arith, low)) in
    subst (λ (xs : List Line). Adds size xs a c) (sym (next_row i rows row low is)) (adds_then a b c size seq (take i rows) row (omega (arith, at, count)) first then)

pub commits_on : (a b c : State) → KeepsCommit a b → KeepsCommit b c → KeepsCommit a c
commits_on a b c p q = record { was_open = λ up. p.was_open (q.was_open up); committed = λ up. q.committed up ∙ p.committed (q.was_open up) }

module _ {S : Type 0} (g : Ghosts S) where
  ran_more : (front : List Order) (one : Order) (a b c : Held S) (count : ℕ) → RanInTurn g front a b → ExecutesInside 0 one.sql one.params (state g b) (state g c) (Ok count) → RanInTurn g (front ++ one ∷ []) a c
  ran_more [] one a b c count is h = (c, count, subst (λ (x : Held S). ExecutesInside 0 one.sql one.params (state g x) (state g c) (Ok count)) is h, refl)
  ran_more (first ∷ rest) one a b c count h k = (h.0, h.1, h.2, ran_more rest one h.0 b c count h.3 k)

  -- a row more was added
  pub added_more : (size seq : ℕ) (front : List Line) (row : Line) (a b c : Held S) (count : ℕ) → seq ≡ size + length front → RanInTurn g (inserts size front) a b
      → ExecutesInside 0 insert_text (given_params seq row) (state g b) (state g c) (Ok count) → RanInTurn g (inserts size (front ++ row ∷ [])) a c
  added_more size seq front row a b c count is h k =
      subst (λ (orders : List Order). RanInTurn g orders a c) (sym (inserts_append size front (row ∷ [])))
      (ran_more (inserts size front) (insert_of (size + length front) row) a b c count h (subst (λ (n : ℕ). ExecutesInside 0 insert_text (given_params n row) (state g b) (state g c) (Ok count)) is k))

  -- the next row was added
  pub added_next : (size i seq : ℕ) (rows : List Line) (row : Line) (a b c : Held S) (count : ℕ) → i < length rows → row ≡ slice_index_or rows i row → seq ≡ size + i → RanInTurn g (inserts size (take i rows)) a b
      → ExecutesInside 0 insert_text (given_params seq row) (state g b) (state g c) (Ok count) → RanInTurn g (inserts size (take (i + 1) rows)) a c
  added_next size i seq rows row a b c count low is at ran h =
      let count_front : length (take i rows) ≡ i = length-take-le i rows (omega (arith, low)) in
      subst (λ (xs : List Line). RanInTurn g (inserts size xs) a c) (sym (next_row i rows row low is)) (added_more size seq (take i rows) row a b c count (omega (arith, at, count_front)) ran h)

  -- a row was refused
  pub adding_stopped : (size i seq : ℕ) (rows : List Line) (row : Line) (e : Error) (old mid last : Held S) → i < length rows → row ≡ slice_index_or rows i row → seq ≡ size + i
      → RanInTurn g (inserts size (take i rows)) old mid → ExecutesInside 0 insert_text (given_params seq row) (state g mid) (state g last) (Err e) → IsStopped g (inserts size rows) e old last
  adding_stopped size i seq rows row e old mid last low is at ran runs =
      let first : drop i rows ≡ row ∷ drop (suc i) rows = drop-cons rows i row low ∙ ap (λ (c : Line). c ∷ drop (suc i) rows) (sym is) in
      let all : rows ≡ take i rows ++ row ∷ drop (suc i) rows = sym (take-append-drop i rows) ∙ ap (λ (rest : List Line). take i rows ++ rest) first in
      let count : length (take i rows) ≡ i = length-take-le i rows (omega (arith, low)) in
      let here : size + length (take i rows) ≡ seq = omega (arith, count, at) in
      let orders : inserts size rows ≡ inserts size (take i rows) ++ inserts seq (row ∷ drop (suc i) rows) =
      ap (inserts size) all ∙ inserts_append size (take i rows) (row ∷ drop (suc i) rows) ∙ ap (λ (n : ℕ). inserts size (take i rows) ++ inserts n (row ∷ drop (suc i) rows)) here in
      record { front = inserts size (take i rows); one = insert_of seq row; rest = inserts (seq + 1) (drop (suc i) rows); split = orders; mid = mid; ran = ran; runs = runs }

  -- all rows were added
  pub added_all : (size i : ℕ) (rows : List Line) (old last : Held S) → length rows ≤ i → i ≤ length rows → RanInTurn g (inserts size (take i rows)) old last → RanInTurn g (inserts size rows) old last
  added_all size i rows old last low high ran =
      let end : i ≡ length rows = omega (arith, low, high) in
      let all : take i rows ≡ rows = ap (λ (k : ℕ). take k rows) end ∙ take-length rows in
      subst (λ (xs : List Line). RanInTurn g (inserts size xs) old last) all ran

  -- a refused statement rolled the transaction back
  pub stopped_back : (orders : List Order) (e : Error) (old begun last new : Held S) → begun ≡ record old { in_transaction = true } → IsStopped g orders e begun last
      → IsRolledBack (state g last) (state g new) → (state g last).faults ≤ (state g new).faults → IsTransactionRefused g orders e old new
  stopped_back orders e old begun last new is stopped back counts = record { last = last; refused = inl (subst (λ (b : Held S). IsStopped g orders e b last) is stopped, back, counts) }

  -- the commit was refused
  pub commit_stopped : (orders : List Order) (e : Error) (old begun last new : Held S) → begun ≡ record old { in_transaction = true } → RanInTurn g orders begun last
      → FailsToCommit (state g last) (state g new) e → IsTransactionRefused g orders e old new
  commit_stopped orders e old begun last new is ran fails = record { last = last; refused = inr (subst (λ (b : Held S). RanInTurn g orders b last) is ran, fails) }

  abbrev first : Order
  first = record { sql = kept_text; params = [] }

  abbrev second : Order
  second = record { sql = version_text; params = [] }

  abbrev third : Order
  third = record { sql = number_text; params = [] }

  -- the statements that make the tables ran, or were refused in turn
  pub made_in_turn : (a b c d : Held S) (i j k : ℕ) → ExecutesInside 0 kept_text [] (state g a) (state g b) (Ok i) → ExecutesInside 0 version_text [] (state g b) (state g c) (Ok j)
      → ExecutesInside 0 number_text [] (state g c) (state g d) (Ok k) → RanInTurn g makings a d
  made_in_turn a b c d i j k p q r = (b, i, p, (c, j, q, (d, k, r, refl)))

  pub first_stopped : (a b : Held S) (e : Error) → ExecutesInside 0 kept_text [] (state g a) (state g b) (Err e) → IsStopped g makings e a b
  first_stopped a b e p = record { front = []; one = first; rest = second ∷ third ∷ []; split = refl; mid = a; ran = refl; runs = p }

  pub second_stopped : (a b c : Held S) (i : ℕ) (e : Error) → ExecutesInside 0 kept_text [] (state g a) (state g b) (Ok i) → ExecutesInside 0 version_text [] (state g b) (state g c) (Err e) → IsStopped g makings e a c
  second_stopped a b c i e p q = record { front = first ∷ []; one = second; rest = third ∷ []; split = refl; mid = b; ran = (b, i, p, refl); runs = q }

  pub third_stopped : (a b c d : Held S) (i j : ℕ) (e : Error) → ExecutesInside 0 kept_text [] (state g a) (state g b) (Ok i) → ExecutesInside 0 version_text [] (state g b) (state g c) (Ok j)
      → ExecutesInside 0 number_text [] (state g c) (state g d) (Err e) → IsStopped g makings e a d
  third_stopped a b c d i j e p q r = record { front = first ∷ second ∷ []; one = third; rest = []; split = refl; mid = c; ran = (b, i, p, (c, j, q, refl)); runs = r }

  -- the query for the rows was refused
  pub rows_refused : {X : Type 0} (r : Result X Error) (old mid new : Held S) → ((rows : List Cells) × Shown numbers_text [] (state g old) (state g mid) rows)
      → IfErr r (FailsToQuery rows_text [] (state g mid) (state g new)) → IfErr r (λ e. IsReadingRefused g e old new)
  rows_refused (Ok x) old mid new shown fails = tt
  rows_refused (Err e) old mid new shown fails = inr (mid, shown.0, shown.1, fails)

-- what was readable was not read for want of memory alone
pub wanted : (e : Error) (P : Type 0) → (e ≢ SqliteFailure code.OutOfMemory → ¬ P) → P → IsTrue (is_want e)
wanted e P other can = by (is_want e) refl
  where
    by : (b : Bool) → is_want e ≡ b → IsTrue (is_want e)
    by true is = is
    by false is = absurd (other (λ same. true≢false (sym (ap is_want same) ∙ is)) can)

refusal_by : (P : Error → Type 0) (e : Error) (b : Bool) (answer : KeepError) (old new : ℕ) → is_want e ≡ b → MatchBool b ((answer ≡ Memory) × (new ≡ old)) ((answer ≡ Failed) × (new ≡ one_more old)) → (is_want e ≡ false → P e) → new ≢ old → IsRefusal P
refusal_by P e true answer old new want h p rose = absurd (rose h.1)
refusal_by P e false answer old new want h p rose = record { error = e; counted = want; refused = p want }

-- what was counted is a refusal
pub counted_refusal : (P : Error → Type 0) (e : Error) (answer : KeepError) (old new : ℕ) → MatchBool (is_want e) ((answer ≡ Memory) × (new ≡ old)) ((answer ≡ Failed) × (new ≡ one_more old)) → (is_want e ≡ false → P e) → new ≢ old → IsRefusal P
counted_refusal P e answer old new = refusal_by P e (is_want e) answer old new refl

pub refusal_left : (P Q : Error → Type 0) → IsRefusal P → IsRefusal (λ e. P e ⊎ Q e)
refusal_left P Q h = record { error = h.error; counted = h.counted; refused = inl h.refused }

pub refusal_right : (P Q : Error → Type 0) → IsRefusal Q → IsRefusal (λ e. P e ⊎ Q e)
refusal_right P Q h = record { error = h.error; counted = h.counted; refused = inr h.refused }

-- what was found is no row of the store, where it is not read as one
pub load_refused : {S : Type 0} (g : Ghosts S) (seq : ℕ) (cells : Cells) (r : Result Line Error) (old new : Held S) → QueriesRow select_text (Int (pos seq) ∷ []) (state g old) (state g new) (Ok cells)
    → ((row : Line) → cells ≡ shown row → IsUtf8 row.series → IsUtf8 row.point → IfErr r (λ e. IsTrue (is_want e))) → IfErr r (λ e. is_want e ≡ false → IsLoadRefused g seq e old new)
load_refused g seq cells (Ok row) old new shows only = tt
load_refused g seq cells (Err e) old new shows only = λ want. inr (cells, shows, λ row series point is. true≢false (sym (only row is series point) ∙ want))
