-- The entries of rows, and the rows of entries.
use Rattle.std.proofs.Common.{◌≡◌, ◌≢◌, ℕ, ◌<◌, ◌^◌, List, Bool, true, false, cond, codes, nat_lt, Option, Some, None, Result, Ok, Err, IfOk, MatchResult, refl, sym, ap, subst, ◌∙◌, arith, rules}
use Rattle.std.specs.Fmt.{digits}
use Rattle.std.specs.Str.{bytes_eq}
use Rattle.std.proofs.lemmas.Slice.Eq.{bytes_eq-Decides}
use Rattle.std.proofs.lemmas.Bool.{ltb-true, lt-ltb}
use Rattle.pr_num.specs.Shown.{shown, fraction_text}
use Rattle.pr_num.specs.declared.value.Point.{Point}
use Rattle.pr_labels.specs.declared.pair.Pair.{Pair}
use Rattle.pr_labels.specs.LabelSet.{IsLabelSet}
use Rattle.pr_labels.specs.SeriesText.{series_text}
use Rattle.pr_labels.proofs.SeriesWritten.{written_reads}
use Rattle.pr_labels.proofs.SeriesEnds.{reading_given}
use Rattle.spec_history.specs.declared.entry.Entry.{Entry}
use Rattle.spec_history.specs.declared.row.Row.{Row}
use Rattle.spec_history.specs.Points.{IsFitPoint, shown_point}
use Rattle.spec_history.proofs.PointTexts.{point_back as named_back}
use Rattle.spec_history.specs.Rows.{encoded, decoded, entry_of, labels_in, point_in, time_in, printed_labels, printed_point, IsEntry}
use Rattle.spec_history.specs.private.Faults.{Lacks, IsWant}
use Rattle.spec_history.specs.declared.row.decoding.RowFault.{RowFault}
use Rattle.spec_history.specs.declared.row.decoding.RowFault.TheVariants.{BadRow, Memory}
use Rattle.std.specs.Option.{SomeIff}
use Rattle.spec_history.specs.private.RowExamples.{sample, row}

given_labels : (text : List ℕ) (ls : List Pair) (found : Option (List Pair)) → found ≡ Some ls → series_text ls ≡ text → printed_labels text found ≡ Some ls
given_labels text ls found is h = rw is (let e : bytes_eq (series_text ls) text ≡ true = (bytes_eq-Decides (series_text ls) text).1 h in rw e refl)

pub labels_back : (ls : List Pair) → IsLabelSet ls → labels_in (series_text ls) ≡ Some ls
labels_back ls s = given_labels (series_text ls) ls _ (reading_given (series_text ls) ls (written_reads ls s)) refl

given_point : (text : List ℕ) (p : Point) (found : Option Point) → found ≡ Some p → shown_point p ≡ text → printed_point text found ≡ Some p
given_point text p found is h = rw is (let e : bytes_eq (shown_point p) text ≡ true = (bytes_eq-Decides (shown_point p) text).1 h in rw e refl)

pub point_back : (p : Point) → IsFitPoint p → point_in (shown_point p) ≡ Some p
point_back p s = given_point (shown_point p) p _ (named_back p s) refl

time_back : (t : ℕ) → t < 2 ^ 42 → time_in t ≡ Some t
time_back t h = let e : nat_lt t (2 ^ 42) ≡ true = lt-ltb t (2 ^ 42) h in rw e refl

pub entry_back : (e : Entry) → IsEntry e → decoded (encoded e) ≡ Some e
unfolding decoded
entry_back e s = rw (labels_back e.labels s.labels) (rw (time_back e.time s.time) (rw (point_back e.point s.point) refl))

-- what is answered of a text is printed so
labels_text_by : (text : List ℕ) (ls out : List Pair) (b : Bool) → bytes_eq (series_text ls) text ≡ b → cond b (Some ls) None ≡ Some out → text ≡ series_text out
labels_text_by text ls out true e h = let same : ls ≡ out = cc in sym ((bytes_eq-Decides (series_text ls) text).0 e) ∙ ap series_text same
labels_text_by text ls out false e h = absurd cc

labels_text_of : (text : List ℕ) (found : Option (List Pair)) (out : List Pair) → printed_labels text found ≡ Some out → text ≡ series_text out
labels_text_of text (Some ls) out h = labels_text_by text ls out _ refl h
labels_text_of text None out h = absurd cc

point_text_by : (text : List ℕ) (p out : Point) (b : Bool) → bytes_eq (shown_point p) text ≡ b → cond b (Some p) None ≡ Some out → text ≡ shown_point out
point_text_by text p out true e h = let same : p ≡ out = cc in sym ((bytes_eq-Decides (shown_point p) text).0 e) ∙ ap shown_point same
point_text_by text p out false e h = absurd cc

point_text_of : (text : List ℕ) (found : Option Point) (out : Point) → printed_point text found ≡ Some out → text ≡ shown_point out
point_text_of text (Some p) out h = point_text_by text p out _ refl h
point_text_of text None out h = absurd cc

time_by : (t out : ℕ) (b : Bool) → nat_lt t (2 ^ 42) ≡ b → cond b (Some t) None ≡ Some out → t ≡ out
time_by t out true e h = cc
time_by t out false e h = absurd cc

abbrev row_with : List ℕ → ℕ → List ℕ → Row
row_with series time point = record { series = series; time = time; point = point }

same_row : {a b p q : List ℕ} {t u : ℕ} → a ≡ b → t ≡ u → p ≡ q → row_with a t p ≡ row_with b u q
same_row {a} {b} {p} {q} {t} {u} series time point =
    ap (λ (s : List ℕ). row_with s t p) series ∙ (ap (λ n. row_with b n p) time ∙ ap (λ (x : List ℕ). row_with b u x) point)

whole : (row : Row) (e : Entry) (ls : Option (List Pair)) (t : Option ℕ) (p : Option Point) → labels_in row.series ≡ ls → time_in row.time ≡ t → point_in row.point ≡ p → entry_of ls t p ≡ Some e → row ≡ encoded e
whole row e (Some ls) (Some t) (Some p) has_ls has_t has_p h =
    let is : record { labels = ls; time = t; point = p } ≡ e = cc in
    let series : row.series ≡ series_text ls = labels_text_of row.series _ ls has_ls in
    let time : row.time ≡ t = time_by row.time t _ refl has_t in
    let point : row.point ≡ shown_point p = point_text_of row.point _ p has_p in
    let same : row ≡ encoded (record { labels = ls; time = t; point = p }) = same_row series time point in
    same ∙ ap encoded is
whole row e None t p has_ls has_t has_p h = absurd cc
whole row e (Some ls) None p has_ls has_t has_p h = absurd cc
whole row e (Some ls) (Some t) None has_ls has_t has_p h = absurd cc

pub row_of_entry : (row : Row) (e : Entry) → decoded row ≡ Some e → row ≡ encoded e
unfolding decoded
row_of_entry row e h = whole row e _ _ _ refl refl refl h

pub decoded_of : (row : Row) (ls : List Pair) (t : Option ℕ) (p : Option Point) (o : Option Entry) → labels_in row.series ≡ Some ls → t ≡ time_in row.time → p ≡ point_in row.point → o ≡ entry_of (Some ls) t p → decoded row ≡ o
unfolding decoded
decoded_of row ls t p o has_ls has_t has_p is = rw has_ls (rw (← has_t) (rw (← has_p) (sym is)))

pub no_labels : (row : Row) → labels_in row.series ≡ None → decoded row ≡ None
unfolding decoded
no_labels row h = rw h refl

pub time_is : (ms : ℕ) (o : Option ℕ) → SomeIff o (ms < 2 ^ 42) ms → o ≡ time_in ms
time_is ms (Some t) h = let e : nat_lt ms (2 ^ 42) ≡ true = lt-ltb ms (2 ^ 42) h.0 in rw e (ap (λ n. Some n) h.1)
time_is ms None h = rw (false_by (nat_lt ms (2 ^ 42)) (λ e. h (ltb-true ms (2 ^ 42) e))) refl
  where
    false_by : (b : Bool) → (b ≡ true → ⊥) → b ≡ false
    false_by true never = absurd (never refl)
    false_by false never = refl

-- what is said of an answer by the function of the row, said by the rows of entries
pub answer_ok : (row : Row) (r : Result Entry RowFault) → MatchResult r (λ e. decoded row ≡ Some e) (Lacks (decoded row)) → IfOk r (λ e. row ≡ encoded e)
answer_ok row (Ok e) h = row_of_entry row e h
answer_ok row (Err fault) h = tt

found : (row : Row) (e : Entry) → IsEntry e → row ≡ encoded e → decoded row ≡ Some e
found row e s is = ap decoded is ∙ entry_back e s

pub answer_only : (row : Row) (r : Result Entry RowFault) → MatchResult r (λ e. decoded row ≡ Some e) (Lacks (decoded row)) → (e : Entry) → IsEntry e → row ≡ encoded e → MatchResult r (λ x. x ≡ e) IsWant
answer_only row (Ok x) h e s is = let both : Some x ≡ Some e = sym h ∙ found row e s is in cc
answer_only row (Err BadRow) h e s is = let both : None ≡ Some e = sym h ∙ found row e s is in absurd cc
answer_only row (Err Memory) h e s is = tt

pub answer_bad : (row : Row) (r : Result Entry RowFault) → MatchResult r (λ e. decoded row ≡ Some e) (Lacks (decoded row)) → r ≡ Err BadRow → (e : Entry) → IsEntry e → row ≢ encoded e
answer_bad row r h bad e s = λ is. elim (answer_only_by row r h bad e s is) [ ]
  where
    answer_only_by : (row : Row) (r : Result Entry RowFault) → MatchResult r (λ e. decoded row ≡ Some e) (Lacks (decoded row)) → r ≡ Err BadRow → (e : Entry) → IsEntry e → row ≡ encoded e → ⊥
    answer_only_by row r h bad e s is = subst (λ (q : Result Entry RowFault). MatchResult q (λ x. x ≡ e) IsWant) bad (answer_only row r h e s is)

sample_is : IsEntry sample
sample_is = record { labels = search rules; time = omega arith; point = omega arith }

pub sample_back : decoded (encoded sample) ≡ Some sample
sample_back = entry_back sample sample_is

pub sample_row : encoded sample ≡ row (codes "a{b=\"c\"}") 7 (codes "1.5")
unfolding digits series_text shown fraction_text
sample_row = refl
