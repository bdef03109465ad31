-- Rows that are kept in little room stay what they are when series or points come after theirs, and
-- when those behind them go.
use Rattle.std.proofs.Common.{◌≡◌, ℕ, zero, suc, ◌+◌, ◌<◌, ◌≤◌, List, [], ◌∷◌, ◌++◌, length, take, drop, get_or, slice_get, Some, Result, Ok, Err, OnErr, IsOk, MatchResult, refl, sym, ap, subst, ◌∙◌, arith}
use Rattle.std.specs.Str.{IsUtf8}
use Rattle.std.proofs.lemmas.List.{get_or_append_left, take-append-le, drop-take, map-append, take-map, length-append, length-map, length-take-le, take_all}
use Rattle.std.specs.Option.{option_map}
use Rattle.std.proofs.lemmas.Option.{slice_get-map, get_or_from_slice_get, slice_get_within, slice_get_read}
use Rattle.std.proofs.Math.Seq.{drop-append_seam}
use Rattle.spec_history.specs.declared.row.Row.{Row}
use Rattle.pr_outside.specs.declared.packed_rows.packed_row.PackedRow.{PackedRow}
use Rattle.pr_outside.specs.private.Unpacked.{AreLaid, end_of, point_of, row_of, unpacked}

abbrev made : List ℕ → ℕ → List ℕ → Row
made series time point = record { series = series; time = time; point = point }

abbrev pub IsLaid : List (List ℕ) → List ℕ → List PackedRow → Type 0
IsLaid ks bs es = AreLaid (length ks) bs 0 es (length bs)

-- more came after what stood there
abbrev pub Grown : List (List ℕ) → List (List ℕ) → Type 0
Grown ks ls = (more : List (List ℕ)) × (ls ≡ ks ++ more)

abbrev Stand : List (List ℕ) → List (List ℕ) → Type 0
Stand ks ls = (i : ℕ) → i < length ks → get_or ls i [] ≡ get_or ks i []

take_shorter : (n b : ℕ) (bs : List ℕ) → n ≤ b → take n (take b bs) ≡ take n bs
take_shorter zero b bs h = refl
take_shorter (suc n) zero bs h = absurd (omega arith)
take_shorter (suc n) (suc b) [] h = refl
take_shorter (suc n) (suc b) (x ∷ bs) h = let below : n ≤ b = omega arith in ap (λ r. x ∷ r) (take_shorter n b bs below)

point_by : (bs cs : List ℕ) (e : PackedRow) (b : ℕ) → take b bs ≡ take b cs → end_of e ≤ b → point_of bs e ≡ point_of cs e
point_by bs cs e b same h = sym (drop-take e.start e.length bs) ∙ ap (drop e.start) (sym (take_shorter (end_of e) b bs h) ∙ ap (take (end_of e)) same ∙ take_shorter (end_of e) b cs h) ∙ drop-take e.start e.length cs

laid_to : (n : ℕ) (bs : List ℕ) (a : ℕ) (es : List PackedRow) (b : ℕ) → AreLaid n bs a es b → a ≤ b
laid_to n bs a [] b h = h
laid_to n bs a (e ∷ es) b h = let first = h.0 in let later = laid_to n bs (end_of e) es b h.3 in omega arith

laid_by : (n m : ℕ) (bs cs : List ℕ) (a : ℕ) (es : List PackedRow) (b : ℕ) → n ≤ m → take b bs ≡ take b cs → AreLaid n bs a es b → AreLaid m cs a es b
laid_by n m bs cs a [] b few same h = h
laid_by n m bs cs a (e ∷ es) b few same h =
    let below = h.1 in
    (h.0, omega arith, subst IsUtf8 (point_by bs cs e b same (laid_to n bs (end_of e) es b h.3)) h.2, laid_by n m bs cs (end_of e) es b few same h.3)

rows_by : (ks ls : List (List ℕ)) (bs cs : List ℕ) (a : ℕ) (es : List PackedRow) (b : ℕ) → Stand ks ls → take b bs ≡ take b cs → AreLaid (length ks) bs a es b → unpacked ls cs es ≡ unpacked ks bs es
rows_by ks ls bs cs a [] b stand same h = refl
rows_by ks ls bs cs a (e ∷ es) b stand same h =
    let texts = stand e.series h.1 in
    let points = sym (point_by bs cs e b same (laid_to (length ks) bs (end_of e) es b h.3)) in
    let rest = rows_by ks ls bs cs (end_of e) es b stand same h.3 in
    λ i. made (texts i) e.time (points i) ∷ rest i

laid_more : (n : ℕ) (bs : List ℕ) (a : ℕ) (es : List PackedRow) (b c : ℕ) → b ≤ c → AreLaid n bs a es b → AreLaid n bs a es c
laid_more n bs a [] b c far h = omega arith
laid_more n bs a (e ∷ es) b c far h = (h.0, h.1, h.2, laid_more n bs (end_of e) es b c far h.3)

laid_push : (n : ℕ) (bs : List ℕ) (a : ℕ) (es : List PackedRow) (b : ℕ) (e : PackedRow) → AreLaid n bs a es b → b ≤ e.start → e.series < n → IsUtf8 (point_of bs e) → AreLaid n bs a (es ++ e ∷ []) (end_of e)
laid_push n bs a [] b e h after known text = let first = h in (omega arith, known, text, omega arith)
laid_push n bs a (f ∷ es) b e h after known text = (h.0, h.1, h.2, laid_push n bs (end_of f) es b e h.3 after known text)

laid_cut : (n : ℕ) (bs : List ℕ) (a : ℕ) (es : List PackedRow) (b k : ℕ) (e : PackedRow) → AreLaid n bs a es b → slice_get es k ≡ Some e → AreLaid n bs a (take k es) e.start
laid_cut n bs a [] b k e h at = cc
laid_cut n bs a (f ∷ es) b zero e h at = let same : f ≡ e = cc in subst (λ (x : PackedRow). a ≤ x.start) same h.0
laid_cut n bs a (f ∷ es) b (suc k) e h at = (h.0, h.1, h.2, laid_cut n bs (end_of f) es b k e h.3 at)

pub laid_at : (n : ℕ) (bs : List ℕ) (a : ℕ) (es : List PackedRow) (b k : ℕ) (e : PackedRow) → AreLaid n bs a es b → slice_get es k ≡ Some e → (e.series < n) × IsUtf8 (point_of bs e) × (end_of e ≤ b)
laid_at n bs a [] b k e h at = cc
laid_at n bs a (f ∷ es) b zero e h at =
    let same : f ≡ e = cc in
    subst (λ (x : PackedRow). (x.series < n) × IsUtf8 (point_of bs x) × (end_of x ≤ b)) same (h.1, h.2, laid_to n bs (end_of f) es b h.3)
laid_at n bs a (f ∷ es) b (suc k) e h at = laid_at n bs (end_of f) es b k e h.3 at

-- those behind are cut off, with their points
module _ (ks : List (List ℕ)) (bs : List ℕ) (es : List PackedRow) (k : ℕ) (e : PackedRow) (laid : IsLaid ks bs es) (at : slice_get es k ≡ Some e) where
  within : e.start ≤ length bs
  within = let far = (laid_at (length ks) bs 0 es (length bs) k e laid at).2 in omega arith

  same_below : take e.start bs ≡ take e.start (take e.start bs)
  same_below = sym (take_shorter e.start e.start bs (omega arith))

  pub cut_laid : (cs : List ℕ) (fs : List PackedRow) → cs ≡ take e.start bs → fs ≡ take k es → IsLaid ks cs fs
  cut_laid cs fs cut left =
      rw (cut, left, length-take-le e.start bs within) (laid_by (length ks) (length ks) bs (take e.start bs) 0 (take k es) e.start (omega arith) same_below (laid_cut (length ks) bs 0 es (length bs) k e laid at))

  pub cut_rows : (cs : List ℕ) (fs : List PackedRow) (rows : List Row) → cs ≡ take e.start bs → fs ≡ take k es → unpacked ks bs es ≡ rows → unpacked ks cs fs ≡ take k rows
  cut_rows cs fs rows cut left are =
      rw (cut, left, ← are) (rows_by ks ks bs (take e.start bs) 0 (take k es) e.start (λ i h. refl) same_below (laid_cut (length ks) bs 0 es (length bs) k e laid at) ∙ sym (take-map (row_of ks bs) k es))

-- series and points come after those that stood there
module _ (ks ls : List (List ℕ)) (bs cs ps : List ℕ) (es : List PackedRow) (grown : Grown ks ls) (longer : cs ≡ bs ++ ps) (laid : IsLaid ks bs es) where
  few : length ks ≤ length ls
  few = let long : length ls ≡ length ks + length grown.0 = ap length grown.1 ∙ length-append ks grown.0 in omega arith

  far : length bs ≤ length cs
  far = let long : length cs ≡ length bs + length ps = ap length longer ∙ length-append bs ps in omega arith

  same : take (length bs) bs ≡ take (length bs) cs
  same = sym (ap (take (length bs)) longer ∙ take-append-le (length bs) bs ps (omega arith))

  stand : Stand ks ls
  stand i h = ap (λ (l : List (List ℕ)). get_or l i []) grown.1 ∙ get_or_append_left ks grown.0 [] i h

  kept : AreLaid (length ls) cs 0 es (length bs)
  kept = laid_by (length ks) (length ls) bs cs 0 es (length bs) few same laid

  pub grown_laid : (fs : List PackedRow) → fs ≡ es → IsLaid ls cs fs
  grown_laid fs still = rw still (laid_more (length ls) cs 0 es (length bs) (length cs) far kept)

  pub grown_rows : (fs : List PackedRow) (rows : List Row) → fs ≡ es → unpacked ks bs es ≡ rows → unpacked ls cs fs ≡ rows
  grown_rows fs rows still are = rw still (rows_by ks ls bs cs 0 es (length bs) stand same laid ∙ are)

  module _ (e : PackedRow) (first : e.start ≡ length bs) (all : e.length ≡ length ps) where
    is_point : point_of cs e ≡ ps
    is_point = rw (first, all, longer, drop-append_seam bs ps) (take_all (length ps) ps (omega arith))

    ends : end_of e ≡ length cs
    ends = let long : length cs ≡ length bs + length ps = ap length longer ∙ length-append bs ps in omega arith

    pub pushed_laid : (fs : List PackedRow) (series : List ℕ) → fs ≡ es ++ e ∷ [] → slice_get ls e.series ≡ Some series → IsUtf8 ps → IsLaid ls cs fs
    pushed_laid fs series more known text =
        let below = slice_get_within ls e.series series known in
        rw (more, ← ends) (laid_push (length ls) cs 0 es (length bs) e kept (omega arith) below (subst IsUtf8 (sym is_point) text))

    pub pushed_rows : (fs : List PackedRow) (row : Row) (rows : List Row) → fs ≡ es ++ e ∷ [] → slice_get ls e.series ≡ Some row.series → e.time ≡ row.time → ps ≡ row.point → unpacked ks bs es ≡ rows
        → unpacked ls cs fs ≡ rows ++ row ∷ []
    pushed_rows fs row rows more known time point are =
        let text = get_or_from_slice_get ls e.series row.series [] known in
        let piece = is_point ∙ point in
        let last : row_of ls cs e ≡ row = λ i. made (text i) (time i) (piece i) in
        ap (unpacked ls cs) more ∙ map-append (row_of ls cs) es (e ∷ []) ∙ (λ i. grown_rows es rows refl are i ++ last i ∷ [])

-- what stands at a place
pub packed_at : (ks : List (List ℕ)) (bs : List ℕ) (es : List PackedRow) (rows : List Row) (k : ℕ) (e : PackedRow) → unpacked ks bs es ≡ rows → k < length rows → e ≡ get_or es k e → slice_get es k ≡ Some e
packed_at ks bs es rows k e are below is = slice_get_read es (length rows) k e (sym (ap length are) ∙ length-map es (row_of ks bs)) below is

pub unpacked_at : (ks : List (List ℕ)) (bs : List ℕ) (es : List PackedRow) (rows : List Row) (k : ℕ) (e : PackedRow) (row : Row) → unpacked ks bs es ≡ rows → slice_get es k ≡ Some e
    → slice_get ks e.series ≡ Some row.series → row.time ≡ e.time → row.point ≡ point_of bs e → slice_get rows k ≡ Some row
unpacked_at ks bs es rows k e row are at known time point =
    let text = get_or_from_slice_get ks e.series row.series [] known in
    let is_row : row_of ks bs e ≡ row = λ i. made (text i) (sym time i) (sym point i) in
    ap (λ (l : List Row). slice_get l k) (sym are) ∙ slice_get-map (row_of ks bs) es k ∙ ap (λ o. option_map (row_of ks bs) o) at ∙ ap Some is_row

pub on_err : {T E : Type 0} (r : Result T E) (P : Type 0) → P → OnErr r P
on_err (Ok x) P p = tt
on_err (Err e) P p = p

pub is_text : {X E : Type 0} (P : X → Type 0) (Q : E → Type 0) (r : Result X E) (bytes : List ℕ) → MatchResult r P (λ e. ¬ (IsUtf8 bytes) × Q e) → IsUtf8 bytes → IsOk r
is_text P Q (Ok x) bytes h u = refl
is_text P Q (Err e) bytes h u = absurd (h.0 u)

take_next : (xs : List Row) (k : ℕ) (x : Row) → slice_get xs k ≡ Some x → take (suc k) xs ≡ take k xs ++ x ∷ []
take_next [] k x h = cc
take_next (y ∷ xs) zero x h = let same : y ≡ x = cc in ap (λ (z : Row). z ∷ []) same
take_next (y ∷ xs) (suc k) x h = ap (λ r. y ∷ r) (take_next xs k x h)

-- one more is copied
pub copied_next : (xs ys zs : List Row) (k n : ℕ) (x : Row) → n ≡ k + 1 → ys ≡ take k xs → slice_get xs k ≡ Some x → zs ≡ ys ++ x ∷ [] → zs ≡ take n xs
copied_next xs ys zs k n x next so_far at more = let one : suc k ≡ n = omega arith in subst (λ m. zs ≡ take m xs) one (more ∙ ap (λ l. l ++ x ∷ []) so_far ∙ sym (take_next xs k x at))
