-- Rows that tell a history are those of its entries; and the rows at the start of a run.
use Rattle.std.proofs.Common.{◌≡◌, ℕ, ◌+◌, List, [], ◌∷◌, ◌++◌, Option, Some, None, Result, Ok, IfSome, IsSome, refl, sym, ap, ◌∙◌, append_assoc, append-nil, length, length-append, map, take, subst, arith}
use Rattle.std.proofs.Math.Seq.{take-append_seam}
use Rattle.std.proofs.lemmas.List.{length-map, map-append}
use Rattle.spec_history.specs.Admission.{admit}
use Rattle.spec_history.specs.declared.append.Append.{Append}
use Rattle.spec_history.specs.declared.append.Append.TheVariants.{Added, Same, OutOfOrder, Conflict}
use Rattle.spec_history.specs.declared.entry.Entry.{Entry}
use Rattle.pr_outside.specs.private.Kept.{StartsRows}
use Rattle.pr_outside.specs.Meant.{Store}
use Rattle.spec_history.specs.declared.row.Row.{Row}
use Rattle.spec_history.specs.Histories.{history_after, history_of, taken_by}
use Rattle.spec_history.specs.Rows.{decoded, encoded}
use Rattle.pr_outside.specs.Stores.{TellsHistory, AreKept, OverRows}

-- what decodes is the row of its entry
abbrev pub IsDecoding : Type 0
IsDecoding = (row : Row) (e : Entry) → decoded row ≡ Some e → row ≡ encoded e

module _ (only : IsDecoding) where
  abbrev AreOf : List Entry → List Entry → List Row → Type 0
  AreOf history all rows = (more : List Entry) × (all ≡ history ++ more) × (rows ≡ map encoded more)

  entries_by : (rows : List Row) (index : ℕ) (history all : List Entry) → history_after index history (map decoded rows) ≡ Ok all → AreOf history all rows
  entries_by [] index history all h = let is : all ≡ history = cc in ([], is ∙ sym (append-nil history), refl)
  entries_by (row ∷ rows) index history all h =
      by (decoded row) refl h (λ e later. entries_by rows (index + 1) (history ++ e ∷ []) all later)
    where
      added : (a : Append) (later : Result (List Entry) ℕ) → taken_by a index later ≡ Ok all → later ≡ Ok all
      added Added later h = h
      added Same later h = absurd (cc)
      added (OutOfOrder last) later h = absurd (cc)
      added (Conflict kept) later h = absurd (cc)

      by : (o : Option Entry) → decoded row ≡ o → history_after index history (o ∷ map decoded rows) ≡ Ok all
          → ((e : Entry) → history_after (index + 1) (history ++ e ∷ []) (map decoded rows) ≡ Ok all → AreOf (history ++ e ∷ []) all rows) → AreOf history all (row ∷ rows)
      by None is h on = absurd (cc)
      by (Some e) is h on =
          let rest = on e (added (admit history e.labels e.time e.point) (history_after (index + 1) (history ++ e ∷ []) (map decoded rows)) h) in
          (e ∷ rest.0, rest.1 ∙ append_assoc history (e ∷ []) rest.0, ap (λ (r : Row). r ∷ rows) (only row e is) ∙ ap (λ (rs : List Row). encoded e ∷ rs) rest.2)

  pub rows_of : (rows : List Row) (history : List Entry) → history_of rows ≡ Ok history → rows ≡ map encoded history
  rows_of rows history h =
      let all = entries_by rows 0 [] history h in
      all.2 ∙ ap (map encoded) (sym all.1)

  pub kept_by : (store : Store) (history : List Entry) → TellsHistory store history → AreKept history store
  kept_by store history t = by store.rows t
    where
      by : (rows : Option (List Row)) → IfSome rows (λ rs. history_of rs ≡ Ok history) → IfSome rows (λ rs. rs ≡ map encoded history)
      by None t = tt
      by (Some rs) t = rows_of rs history t

  front_rows : (history more : List Entry) → take (length history) (map encoded (history ++ more)) ≡ map encoded history
  front_rows history more =
      ap (λ (rs : List Row). take (length history) rs) (map-append encoded history more)
      ∙ ap (λ (n : ℕ). take n (map encoded history ++ map encoded more)) (sym (length-map history encoded))
      ∙ take-append_seam (map encoded history) (map encoded more)

  -- What holds over rows that tell the history at the start holds over the rows at the start.
  pub over_history : (before opened : Option (List Row)) (all : List Row) (history more : List Entry) (P : List Row → Type 0) → StartsRows before opened → IsSome opened
      → IfSome opened (λ rows. history_of rows ≡ Ok history) → history_of all ≡ Ok (history ++ more) → ((rows : List Row) → history_of rows ≡ Ok history → P rows)
      → OverRows before all P
  over_history before None all history more P starts some tells grown holds = absurd (cc)
  over_history None (Some rows) all history more P starts some tells grown holds =
      let are : rows ≡ map encoded history = rows_of rows history tells in
      let now : all ≡ map encoded (history ++ more) = rows_of all (history ++ more) grown in
      let count : length rows ≡ length history = ap length are ∙ length-map history encoded in
      record {
        rows = rows;
        first = (
          omega (arith, count, ap length now, length-map (history ++ more) encoded, length-append history more),
          are ∙ sym (front_rows history more) ∙ ap (λ (n : ℕ). take n (map encoded (history ++ more))) (sym count) ∙ ap (take (length rows)) (sym now),
        );
        holds = holds rows tells;
      }
  over_history (Some given) (Some rows) all history more P starts some tells grown holds =
      record { rows = given; first = refl; holds = holds given (subst (λ (rs : List Row). history_of rs ≡ Ok history) starts tells) }
