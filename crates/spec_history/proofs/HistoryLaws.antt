-- What kept rows tell, as further rows come behind them.
use Rattle.std.proofs.Common.{◌≡◌, ◌≢◌, ℕ, ◌+◌, ◌<◌, List, [], ◌∷◌, ◌++◌, length, map, Option, Some, None, Result, Ok, Err, refl, sym, ap, subst, ◌∙◌, append-nil, arith, lit<, decimal}
use Rattle.std.proofs.lemmas.Fmt.{decimal_digit}
use Rattle.std.proofs.lemmas.List.{append_assoc, map-append, length-map, length-append}
use Rattle.spec_history.specs.Admission.{admit}
use Rattle.spec_history.specs.private.Laws.{IsLawful, IsLawfulAfter, AreEntries}
use Rattle.spec_history.specs.declared.append.Append.{Append}
use Rattle.spec_history.specs.declared.append.Append.TheVariants.{Added, Same, OutOfOrder, Conflict}
use Rattle.spec_history.specs.declared.entry.Entry.{Entry}
use Rattle.spec_history.proofs.Lawful.{after_more}
use Rattle.spec_history.specs.declared.row.Row.{Row}
use Rattle.spec_history.specs.Rows.{encoded, decoded, IsEntry}
use Rattle.spec_history.specs.Histories.{taken_by, history_after, history_of}
use Rattle.spec_history.proofs.RowLaws.{entry_back}

-- a row that is taken is added, and what is told is what is told later
taken_ok : (a : Append) (index : ℕ) (later : Result (List Entry) ℕ) (out : List Entry) → taken_by a index later ≡ Ok out → (a ≡ Added) × (later ≡ Ok out)
taken_ok Added index later out h = (refl, h)
taken_ok Same index later out h = absurd cc
taken_ok (OutOfOrder last) index later out h = absurd cc
taken_ok (Conflict kept) index later out h = absurd cc

-- the entries of lawful ones are taken, one after another
entries_taken : (index : ℕ) (before rest : List Entry) → IsLawfulAfter before rest → history_after index before (map Some rest) ≡ Ok (before ++ rest)
entries_taken index before [] h = ap Ok (sym (append-nil before))
entries_taken index before (e ∷ rest) h =
    ap (λ a. taken_by a index (history_after (index + 1) (before ++ e ∷ []) (map Some rest))) h.0
    ∙ entries_taken (index + 1) (before ++ e ∷ []) rest h.1
    ∙ ap Ok (append_assoc before (e ∷ []) rest)

-- what is told of rows goes on with what is told of further ones
goes_on : (index : ℕ) (before out : List Entry) (rows more : List (Option Entry)) → history_after index before rows ≡ Ok out
    → history_after index before (rows ++ more) ≡ history_after (index + length rows) out more
goes_on index before out [] more h = let same : before ≡ out = cc in ap (λ (b : List Entry). history_after index b more) same ∙ ap (λ (i : ℕ). history_after i out more) (omega arith)
goes_on index before out (None ∷ rows) more h = absurd cc
goes_on index before out (Some e ∷ rows) more h =
    let parts = taken_ok (admit before e.labels e.time e.point) index (history_after (index + 1) (before ++ e ∷ []) rows) out h in
    ap (λ a. taken_by a index (history_after (index + 1) (before ++ e ∷ []) (rows ++ more))) parts.0
    ∙ goes_on (index + 1) (before ++ e ∷ []) out rows more parts.1
    ∙ ap (λ (i : ℕ). history_after i out more) (omega arith)

-- a bad row stays the first one
bad_by : (a : Append) (index at : ℕ) (later further : Result (List Entry) ℕ) → (later ≡ Err at → further ≡ Err at) → taken_by a index later ≡ Err at → taken_by a index further ≡ Err at
bad_by Added index at later further step h = step h
bad_by Same index at later further step h = h
bad_by (OutOfOrder last) index at later further step h = h
bad_by (Conflict kept) index at later further step h = h

stays_bad : (index at : ℕ) (before : List Entry) (rows more : List (Option Entry)) → history_after index before rows ≡ Err at → history_after index before (rows ++ more) ≡ Err at
stays_bad index at before [] more h = absurd cc
stays_bad index at before (None ∷ rows) more h = h
stays_bad index at before (Some e ∷ rows) more h =
    bad_by (admit before e.labels e.time e.point) index at _ _ (λ k. stays_bad (index + 1) at (before ++ e ∷ []) rows more k) h

-- the bad row is one of them
within_by : (a : Append) (index at count : ℕ) (later : Result (List Entry) ℕ) → (later ≡ Err at → at < index + 1 + count) → taken_by a index later ≡ Err at → at < index + (count + 1)
within_by Added index at count later step h = let k = step h in omega arith
within_by Same index at count later step h = let e : index ≡ at = cc in omega arith
within_by (OutOfOrder last) index at count later step h = let e : index ≡ at = cc in omega arith
within_by (Conflict kept) index at count later step h = let e : index ≡ at = cc in omega arith

within : (index at : ℕ) (before : List Entry) (rows : List (Option Entry)) → history_after index before rows ≡ Err at → at < index + length rows
within index at before [] h = absurd cc
within index at before (None ∷ rows) h = let e : index ≡ at = cc in omega arith
within index at before (Some e ∷ rows) h =
    let k = within_by (admit before e.labels e.time e.point) index at (length rows) _ (λ k. within (index + 1) at (before ++ e ∷ []) rows k) h in omega arith

-- what is told is lawful, and as long
told_lawful : (index : ℕ) (before out : List Entry) (rows : List (Option Entry)) → IsLawful before → history_after index before rows ≡ Ok out
    → IsLawful out × (length out ≡ length before + length rows)
told_lawful index before out [] lawful h = let same : before ≡ out = cc in (subst IsLawful same lawful, ap length (sym same) ∙ omega arith)
told_lawful index before out (None ∷ rows) lawful h = absurd cc
told_lawful index before out (Some e ∷ rows) lawful h =
    let parts = taken_ok (admit before e.labels e.time e.point) index (history_after (index + 1) (before ++ e ∷ []) rows) out h in
    let later = told_lawful (index + 1) (before ++ e ∷ []) out rows (after_more [] before (e ∷ []) lawful (parts.0, tt)) parts.1 in
    (later.0, omega (arith, later.1, length-append before (e ∷ [])))

-- the rows of entries decode as them
decoded_back : (entries : List Entry) → AreEntries entries → map decoded (map encoded entries) ≡ map Some entries
decoded_back [] s = refl
decoded_back (e ∷ rest) s = rw (entry_back e s.0) (rw (decoded_back rest s.1) refl)

after_rows : (rows more : List Row) (history : List Entry) → history_of rows ≡ Ok history → history_of (rows ++ more) ≡ history_after (length rows) history (map decoded more)
after_rows rows more history h =
    ap (history_after 0 []) (map-append decoded rows more)
    ∙ goes_on 0 [] history (map decoded rows) (map decoded more) h
    ∙ ap (λ (i : ℕ). history_after i history (map decoded more)) (omega (arith, length-map rows decoded))

pub rows_go_on : (rows : List Row) (history entries : List Entry) → history_of rows ≡ Ok history → AreEntries entries → IsLawfulAfter history entries
    → history_of (rows ++ map encoded entries) ≡ Ok (history ++ entries)
rows_go_on rows history entries h s lawful =
    after_rows rows (map encoded entries) history h
    ∙ ap (history_after (length rows) history) (decoded_back entries s)
    ∙ entries_taken (length rows) history entries lawful

pub row_goes_on : (rows : List Row) (row : Row) (history : List Entry) (e : Entry) → history_of rows ≡ Ok history → decoded row ≡ Some e → admit history e.labels e.time e.point ≡ Added
    → history_of (rows ++ row ∷ []) ≡ Ok (history ++ e ∷ [])
row_goes_on rows row history e h is added =
    after_rows rows (row ∷ []) history h
    ∙ ap (λ (o : Option Entry). history_after (length rows) history (o ∷ [])) is
    ∙ entries_taken (length rows) history (e ∷ []) (added, tt)

pub no_entry : (rows more : List Row) (row : Row) (history : List Entry) → history_of rows ≡ Ok history → decoded row ≡ None → history_of (rows ++ row ∷ more) ≡ Err (length rows)
no_entry rows more row history h is =
    after_rows rows (row ∷ more) history h ∙ ap (λ (o : Option Entry). history_after (length rows) history (o ∷ map decoded more)) is

not_added : (a : Append) (index : ℕ) (later : Result (List Entry) ℕ) → a ≢ Added → taken_by a index later ≡ Err index
not_added Added index later h = absurd (h refl)
not_added Same index later h = refl
not_added (OutOfOrder last) index later h = refl
not_added (Conflict kept) index later h = refl

pub no_addition : (rows more : List Row) (row : Row) (history : List Entry) (e : Entry) → history_of rows ≡ Ok history → decoded row ≡ Some e → admit history e.labels e.time e.point ≢ Added
    → history_of (rows ++ row ∷ more) ≡ Err (length rows)
no_addition rows more row history e h is never =
    after_rows rows (row ∷ more) history h
    ∙ ap (λ (o : Option Entry). history_after (length rows) history (o ∷ map decoded more)) is
    ∙ not_added (admit history e.labels e.time e.point) (length rows) _ never

pub first_stays : (rows more : List Row) (at : ℕ) → history_of rows ≡ Err at → (at < length rows) × (history_of (rows ++ more) ≡ Err at)
first_stays rows more at h = (
  omega (arith, within 0 at [] (map decoded rows) h, length-map rows decoded),
  ap (history_after 0 []) (map-append decoded rows more) ∙ stays_bad 0 at [] (map decoded rows) (map decoded more) h,
)

pub told_is_lawful : (rows : List Row) (history : List Entry) → history_of rows ≡ Ok history → IsLawful history × (length history ≡ length rows)
told_is_lawful rows history h =
    let told = told_lawful 0 [] history (map decoded rows) tt h in
    (told.0, told.1 ∙ omega (arith, length-map rows decoded))

-- a printed 1
pub one : decimal 1 ≡ 49 ∷ []
one = decimal_digit 1 (lit< tt)
