-- What a store tells after a call.
use Rattle.std.proofs.Common.{◌≡◌, ◌≢◌, ℕ, true, false, List, Option, Some, None, Ok, Err, refl, sym, ◌∙◌, true≢false, ◌+◌, [], ◌∷◌, ◌++◌, length, map, ap, append_assoc, append-nil, arith}
use Rattle.std.specs.Prelude.{IsSome, IfSome}
use Rattle.pr_outside.specs.spec_history.declared.entry.Entry.{Entry}
use Rattle.pr_outside.specs.Causes.{HasKeepCause}
use Rattle.pr_outside.specs.private.Kept.{KeepsRows, AppendsRows}
use Rattle.pr_outside.specs.Meant.{Store}
use Rattle.pr_outside.specs.declared.keeping.KeepError.{KeepError}
use Rattle.pr_outside.specs.declared.keeping.KeepError.TheVariants as keeping
use Rattle.pr_outside.specs.spec_history.declared.row.Row.{Row}
use Rattle.pr_outside.specs.spec_history.Histories.{history_of, history_after, taken_by}
use Rattle.pr_engine.specs.private.StartCauses.{HasStartCause, start_error}
use Rattle.pr_engine.specs.private.Rows.{TellsOf, AreRead}
use Rattle.pr_engine.proofs.Told.{told_on}
use Rattle.std.proofs.lemmas.List.{length-append, map-append}
use Rattle.pr_outside.specs.spec_history.private.Laws.{IsLawful, IsLawfulAfter}
use Rattle.pr_outside.specs.spec_history.Admission.{admit}
use Rattle.pr_outside.specs.spec_history.declared.append.Append.{Append}
use Rattle.pr_outside.specs.spec_history.declared.append.Append.TheVariants.{Added, Same, OutOfOrder, Conflict}
use Rattle.pr_head.proofs.HistoryLawful.{after_parts}
use Rattle.pr_outside.specs.spec_history.Rows.{decoded, encoded}

pub keep_started : (T U : Type 0) (before now : ℕ) (e : KeepError) → HasKeepCause {T = T} before now (Err e) → HasStartCause {T = U} before now (Err (start_error e))
keep_started T U before now keeping.Failed h = h
keep_started T U before now keeping.Memory h = h

pub tells_still : (before now : Store) (history : List Entry) → KeepsRows before.rows now.rows → now.count ≡ before.count → TellsOf before history → TellsOf now history
tells_still before now history same count tells = record {
  count = count ∙ tells.count;
  rows = told_on (λ rows. history_of rows ≡ Ok history) before.rows now.rows same tells.rows;
}

pub some_before : (old now : Option (List Row)) → KeepsRows old now → IsSome now → IsSome old
some_before old None same some = absurd (true≢false (sym some))
some_before None (Some now) same some = absurd same
some_before (Some rows) (Some now) same some = refl

-- rows that tell a history, and then the rows of entries that are added to it
told_more : (index : ℕ) (before history : List Entry) (rows more : List (Option Entry)) → history_after index before rows ≡ Ok history
    → history_after index before (rows ++ more) ≡ history_after (index + length rows) history more
told_more index before history [] more told =
    let same : before ≡ history = cc in
    let none : index ≡ index + 0 = omega arith in
    ap (λ (h : List Entry). history_after index h more) same ∙ ap (λ n. history_after n history more) none
told_more index before history (None ∷ rows) more told = absurd cc
told_more index before history (Some e ∷ rows) more told =
    by (admit before e.labels e.time e.point) (λ t. told_more (index + 1) (before ++ e ∷ []) history rows more t) told where
      shifted : index + 1 + length rows ≡ index + length (Some e ∷ rows)
      shifted = omega arith

      by : (a : Append)
          → (history_after (index + 1) (before ++ e ∷ []) rows ≡ Ok history
          → history_after (index + 1) (before ++ e ∷ []) (rows ++ more) ≡ history_after (index + 1 + length rows) history more)
          → taken_by a index (history_after (index + 1) (before ++ e ∷ []) rows) ≡ Ok history
          → taken_by a index (history_after (index + 1) (before ++ e ∷ []) (rows ++ more)) ≡ history_after (index + length (Some e ∷ rows)) history more
      by Added later t = later t ∙ ap (λ n. history_after n history more) shifted
      by Same later t = absurd cc
      by (OutOfOrder last) later t = absurd cc
      by (Conflict kept) later t = absurd cc

pub entries_told : (index : ℕ) (before entries : List Entry) → IsLawfulAfter before entries → history_after index before (map Some entries) ≡ Ok (before ++ entries)
entries_told index before [] h = ap Ok (sym (append-nil before))
entries_told index before (e ∷ rest) h =
    ap (λ a. taken_by a index (history_after (index + 1) (before ++ e ∷ []) (map Some rest))) h.0
    ∙ entries_told (index + 1) (before ++ e ∷ []) rest h.1
    ∙ ap Ok (append_assoc before (e ∷ []) rest)

pub opened_more : (rows : List Row) (history added : List Entry) → history_of rows ≡ Ok history → AreRead added → IsLawful (history ++ added)
    → history_of (rows ++ map encoded added) ≡ Ok (history ++ added)
opened_more rows history added told are lawful =
    ap (λ (l : List (Option Entry)). history_after 0 [] l) (map-append decoded rows (map encoded added))
    ∙ told_more 0 [] history (map decoded rows) (map decoded (map encoded added)) told
    ∙ ap (history_after (0 + length (map decoded rows)) history) are
    ∙ entries_told (0 + length (map decoded rows)) history added (after_parts [] history added lawful).1

-- so a store tells one event more
pub tells_more : (before now : Store) (history added : List Entry) → TellsOf before history → AreRead added → IsLawful (history ++ added)
    → AppendsRows before.rows now.rows (map encoded added) → now.count ≡ before.count + length added → TellsOf now (history ++ added)
tells_more before now history added tells are lawful appends count = record {
  count = count ∙ ap (λ n. n + length added) tells.count ∙ sym (length-append history added);
  rows = by before.rows now.rows appends tells.rows;
} where
  by : (old new : Option (List Row)) → AppendsRows old new (map encoded added) → IfSome old (λ rows. history_of rows ≡ Ok history)
      → IfSome new (λ rows. history_of rows ≡ Ok (history ++ added))
  by old None a t = tt
  by None (Some rows) a t = absurd a
  by (Some old) (Some rows) a t = ap history_of a ∙ opened_more old history added t are lawful

pub told_before : (old now : Option (List Row)) (added : List Row) → AppendsRows old now added → IsSome now → IsSome old
told_before old None added a some = absurd (true≢false (sym some))
told_before None (Some now) added a some = absurd a
told_before (Some rows) (Some now) added a some = refl
