-- Rows that are read, one after another.
use Rattle.std.proofs.Common.{◌≡◌, ◌≢◌, ℤ, ℕ, suc, ◌+◌, ◌<◌, Bool, false, cond, List, [], ◌∷◌, ◌++◌, length, map, drop, Option, Some, None, Result, Ok, Err, OnOk, refl, sym, ap, ◌∙◌, subst, arith}
use Rattle.std.specs.Prelude.{IfSome, IsSome, slice_get}
use Rattle.std.proofs.Math.Seq.{drop-cons}
use Rattle.std.proofs.lemmas.List.{length-append}
use Rattle.std.proofs.lemmas.Option.{get_or_from_slice_get, slice_get_within}
use Rattle.pr_head.specs.private.Holds.{Holds, IsWhole}
use Rattle.pr_outside.specs.spec_history.private.Laws.{IsLawful}
use Rattle.pr_outside.specs.spec_history.Admission.{admit, put, put_by}
use Rattle.pr_head.proofs.HistoryLawful.{after_more}
use Rattle.pr_outside.specs.spec_history.declared.append.Append.{Append}
use Rattle.pr_outside.specs.spec_history.declared.append.Append.TheVariants.{Added, Same, OutOfOrder, Conflict}
use Rattle.pr_outside.specs.spec_history.declared.entry.Entry.{Entry}
use Rattle.pr_head.specs.private.Intake.{Series}
use Rattle.pr_outside.specs.private.Kept.{KeepsRows}
use Rattle.pr_outside.specs.Meant.{Store}
use Rattle.pr_outside.specs.spec_history.declared.row.Row.{Row}
use Rattle.pr_outside.specs.spec_history.Puts.{is_added}
use Rattle.pr_outside.specs.spec_history.Histories.{history_after, history_of, taken_by}
use Rattle.pr_outside.specs.spec_history.Rows.{decoded}
use Rattle.pr_outside.specs.declared.keeping.KeepError.{KeepError}
use Rattle.pr_outside.specs.declared.keeping.KeepError.TheVariants as keeping
use Rattle.pr_engine.specs.private.StartCauses.{HasStartCause, IfLoaded, start_error}
use Rattle.pr_engine.specs.private.Loading.{HoldsNext, IsLoaded, IsLoadedTo, OnBadRow, next_entry}
use Rattle.pr_engine.specs.private.Rows.{HoldsAll}
use Rattle.pr_engine.specs.declared.rows.fault.StartError.{StartError}
use Rattle.pr_engine.specs.declared.rows.fault.StartError.TheVariants as start
use Rattle.pr_engine.proofs.Told.{told_and, told_on}

-- the next row as a step
by_next : ℕ → List Entry → List (Option Entry) → Option Entry → Result (List Entry) ℕ
by_next index history rest None = Err index
by_next index history rest (Some e) = history_after (index + 1) (history ++ e ∷ []) rest

taken_next : (index : ℕ) (history : List Entry) (e : Entry) (rest : List (Option Entry)) (a : Append) (n : Option Entry) → cond (is_added a) (Some e) None ≡ n
    → taken_by a index (history_after (index + 1) (history ++ e ∷ []) rest) ≡ by_next index history rest n
unfolding by_next
taken_next index history e rest Added n is = ap (by_next index history rest) is
taken_next index history e rest Same n is = ap (by_next index history rest) is
taken_next index history e rest (OutOfOrder last) n is = ap (by_next index history rest) is
taken_next index history e rest (Conflict kept) n is = ap (by_next index history rest) is

next_step : (index : ℕ) (history : List Entry) (o : Option Entry) (rest : List (Option Entry)) (n : Option Entry) → next_entry history o ≡ n
    → history_after index history (o ∷ rest) ≡ by_next index history rest n
unfolding by_next
next_step index history None rest n is = ap (by_next index history rest) is
next_step index history (Some e) rest n is = taken_next index history e rest (admit history e.labels e.time e.point) n is

-- the row at an index, and those behind it
rows_from : (rows : List Row) (index : ℕ) (row : Row) → slice_get rows index ≡ Some row → drop index rows ≡ row ∷ drop (index + 1) rows
rows_from rows index row at =
    let within : index < length rows = slice_get_within rows index row at in
    let next : suc index ≡ index + 1 = omega arith in
    drop-cons rows index row within ∙ ap (λ (x : Row). x ∷ drop (suc index) rows) (get_or_from_slice_get rows index row row at)
    ∙ ap (λ n. row ∷ drop n rows) next

tells_next : (index : ℕ) (history : List Entry) (row : Row) (n : Option Entry) → next_entry history (decoded row) ≡ n → (rows : List Row)
    → history_of rows ≡ history_after index history (map decoded (drop index rows)) → slice_get rows index ≡ Some row
    → history_of rows ≡ by_next index history (map decoded (drop (index + 1) rows)) n
tells_next index history row n is rows told at =
    told ∙ ap (λ (l : List Row). history_after index history (map decoded l)) (rows_from rows index row at)
    ∙ next_step index history (decoded row) (map decoded (drop (index + 1) rows)) n is

told_next : (index : ℕ) (series : Series) (before now : Store) (row : Row) (l : IsLoadedTo index series before) → KeepsRows before.rows now.rows
    → IfSome now.rows (λ rows. slice_get rows index ≡ Some row) → (n : Option Entry) → next_entry l.history (decoded row) ≡ n
    → IfSome now.rows (λ rows. history_of rows ≡ by_next index l.history (map decoded (drop (index + 1) rows)) n)
told_next index series before now row l same at n is =
    told_and (λ rows. history_of rows ≡ history_after index l.history (map decoded (drop index rows))) (λ rows. slice_get rows index ≡ Some row)
    (λ rows. history_of rows ≡ by_next index l.history (map decoded (drop (index + 1) rows)) n) now.rows (tells_next index l.history row n is)
    (told_on (λ rows. history_of rows ≡ history_after index l.history (map decoded (drop index rows))) before.rows now.rows same l.rest) at

pub loaded_more : (index : ℕ) (old new : Series) (before now : Store) (row : Row) (l : IsLoadedTo index old before) → KeepsRows before.rows now.rows
    → IfSome now.rows (λ rows. slice_get rows index ≡ Some row) → HoldsNext l.history row new → IsLoadedTo (index + 1) new now
unfolding by_next
loaded_more index old new before now row l same at next = record {
  history = l.history ++ next.entry ∷ [];
  head = next.head;
  count = length-append l.history (next.entry ∷ []) ∙ ap (λ n. n + 1) l.count;
  rest = told_next index old before now row l same at (Some next.entry) next.follows;
}

pub loaded_bad : (index : ℕ) (series : Series) (before now : Store) (row : Row) (l : IsLoadedTo index series before) → KeepsRows before.rows now.rows
    → IfSome now.rows (λ rows. slice_get rows index ≡ Some row) → next_entry l.history (decoded row) ≡ None → IfSome now.rows (λ rows. history_of rows ≡ Err index)
unfolding by_next
loaded_bad index series before now row l same at none = told_next index series before now row l same at None none

pub none_loaded : (series : Series) (store : Store) → HoldsAll series [] → IsLoadedTo 0 series store
none_loaded series store head = record { history = []; head = head; count = refl; rest = by store.rows } where
  by : (o : Option (List Row)) → IfSome o (λ rows. history_of rows ≡ history_after 0 [] (map decoded (drop 0 rows)))
  by None = tt
  by (Some rows) = refl

past_end : (rows : List Row) (n : ℕ) → n ≡ length rows → drop n rows ≡ []
past_end rows n is = ap (λ m. drop m rows) is ∙ all rows where
  all : (rows : List Row) → drop (length rows) rows ≡ []
  all [] = refl
  all (r ∷ rows) = all rows

pub all_loaded : (index size : ℕ) (series : Series) (store : Store) → IsLoadedTo index series store → index ≡ size → store.count ≡ size
    → IfSome store.rows (λ rows. size ≡ length rows) → IsLoaded series store
all_loaded index size series store l end count sizes = record {
  history = l.history;
  head = l.head;
  tells = record {
    count = count ∙ sym end ∙ sym l.count;
    rows = told_and (λ rows. history_of rows ≡ history_after index l.history (map decoded (drop index rows))) (λ rows. size ≡ length rows) (λ rows. history_of rows ≡ Ok l.history)
        store.rows (λ rows told is. told ∙ ap (λ (x : List Row). history_after index l.history (map decoded x)) (past_end rows index (end ∙ is))) l.rest sizes;
  };
}

-- The same of what is answered.

-- an entry that was added is the next one
pub head_more : (new : Series) (history : List Entry) (e : Entry) (a : Append) → IsLawful history → a ≡ Added → a ≡ admit history e.labels e.time e.point → Holds new (put history e)
    → ((x : ℤ) → IsWhole new (put history e) x) → HoldsAll new (history ++ e ∷ [])
head_more new history e a lawful is answer holds whole =
    let added : admit history e.labels e.time e.point ≡ Added = sym answer ∙ is in
    let more : put history e ≡ history ++ e ∷ [] = ap (λ (b : Append). put_by b history e) added in
    record {
      holds = subst (λ (h : List Entry). Holds new h) more holds;
      whole = λ x. subst (λ (h : List Entry). IsWhole new h x) more (whole x);
      lawful = after_more [] history (e ∷ []) lawful (added, tt);
    }

pub not_added : (a b : Append) → a ≡ b → (a ≢ Added) → is_added b ≡ false
not_added Added b is other = absurd (other refl)
not_added Same b is other = ap is_added (sym is)
not_added (OutOfOrder last) b is other = ap is_added (sym is)
not_added (Conflict kept) b is other = ap is_added (sym is)

next_added : (history : List Entry) (row : Row) (e : Entry) → decoded row ≡ Some e → admit history e.labels e.time e.point ≡ Added → next_entry history (decoded row) ≡ Some e
next_added history row e is added = ap (next_entry history) is ∙ ap (λ (a : Append). cond (is_added a) (Some e) None) added

next_refused : (history : List Entry) (row : Row) (e : Entry) → decoded row ≡ Some e → is_added (admit history e.labels e.time e.point) ≡ false → next_entry history (decoded row) ≡ None
next_refused history row e is none = ap (next_entry history) is ∙ ap (λ (b : Bool). cond b (Some e) None) none

pub holds_next : (result : Result Unit StartError) (history : List Entry) (row : Row) (e : Entry) (series : Series) → decoded row ≡ Some e
    → OnOk result (admit history e.labels e.time e.point ≡ Added) → OnOk result (HoldsAll series (history ++ e ∷ [])) → OnOk result (HoldsNext history row series)
holds_next (Ok done) history row e series is added head = record { entry = e; follows = next_added history row e is added; head = head }
holds_next (Err error) history row e series is added head = tt

pub bad_next : (result : Result Unit StartError) (index : ℕ) (history : List Entry) (row : Row) (e : Entry) → decoded row ≡ Some e
    → OnBadRow index (is_added (admit history e.labels e.time e.point) ≡ false) result → OnBadRow index (next_entry history (decoded row) ≡ None) result
bad_next (Ok done) index history row e is bad = tt
bad_next (Err start.Memory) index history row e is bad = tt
bad_next (Err start.StoreFailed) index history row e is bad = tt
bad_next (Err (start.BadRow at)) index history row e is bad = (bad.0, next_refused history row e is bad.1)

pub none_next : (history : List Entry) (row : Row) → decoded row ≡ None → next_entry history (decoded row) ≡ None
none_next history row is = ap (next_entry history) is

pub row_loaded : (result : Result Unit StartError) (index : ℕ) (old new : Series) (before now : Store) (row : Row) → KeepsRows before.rows now.rows
    → IfSome now.rows (λ rows. slice_get rows index ≡ Some row) → ((history : List Entry) → HoldsAll old history → OnOk result (HoldsNext history row new))
    → IsLoadedTo index old before → OnOk result (IsLoadedTo (index + 1) new now)
row_loaded (Ok done) index old new before now row same at next l = loaded_more index old new before now row l same at (next l.history l.head)
row_loaded (Err error) index old new before now row same at next l = tt

pub row_refused : (result : Result Unit StartError) (index : ℕ) (series : Series) (before now : Store) (row : Row) → KeepsRows before.rows now.rows
    → IfSome now.rows (λ rows. slice_get rows index ≡ Some row) → ((history : List Entry) → HoldsAll series history → OnBadRow index (next_entry history (decoded row) ≡ None) result)
    → IsLoadedTo index series before → (at : ℕ) → result ≡ Err (start.BadRow at) → IfSome now.rows (λ rows. history_of rows ≡ Err at)
row_refused result index series before now row same there next l at is =
    let bad : (at ≡ index) × (next_entry l.history (decoded row) ≡ None) =
    subst (λ (r : Result Unit StartError). OnBadRow index (next_entry l.history (decoded row) ≡ None) r) is (next l.history l.head) in
    subst (λ (n : ℕ). IfSome now.rows (λ rows. history_of rows ≡ Err n)) (sym bad.0) (loaded_bad index series before now row l same there bad.1)

-- where no row is read, or none is told to be bad
pub no_bad_row : (result : Result Unit StartError) (before now : ℕ) → now ≡ before → result ≢ Err start.StoreFailed → HasStartCause before now result
no_bad_row (Ok done) before now is other = is
no_bad_row (Err start.Memory) before now is other = is
no_bad_row (Err start.StoreFailed) before now is other = absurd (other refl)
no_bad_row (Err (start.BadRow at)) before now is other = is

-- Rows that are told after a call

pub told_at_all : (T : Type 0) (result : Result T StartError) (now : Option (List Row)) → IsSome now → IfLoaded result (IsSome now)
told_at_all T (Ok x) now some = some
told_at_all T (Err start.Memory) now some = tt
told_at_all T (Err start.StoreFailed) now some = tt
told_at_all T (Err (start.BadRow at)) now some = some

pub none_told : (T : Type 0) (e : KeepError) (now : Option (List Row)) → IfLoaded {T = T} (Err (start_error e)) (IsSome now)
none_told T keeping.Failed now = tt
none_told T keeping.Memory now = tt

pub told_alike : (T U : Type 0) (e : StartError) (now : Option (List Row)) → IfLoaded {T = T} (Err e) (IsSome now) → IfLoaded {T = U} (Err e) (IsSome now)
told_alike T U start.Memory now told = tt
told_alike T U start.StoreFailed now told = tt
told_alike T U (start.BadRow at) now told = told
