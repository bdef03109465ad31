-- Reading line after line.
use Rattle.std.proofs.Common.{◌≡◌, refl, sym, ap, ◌∙◌, subst, ℕ, ◌+◌, ◌<◌, ◌≤◌, ◌^◌, true, List, [], ◌∷◌, ◌++◌, length, length-append, append-nil, Option, Some, None, IfSome, MatchOption, Bor, Ok, Err, arith, map}
use Rattle.pr_labels.specs.pr_words.Lines.{text_lines}
use Rattle.pr_expo.specs.declared.expo_line.place.Read.{Read}
use Rattle.pr_expo.specs.declared.expo_line.place.Read.TheVariants.{Nothing}
use Rattle.std.specs.Str.{chars}
use Rattle.std.proofs.lemmas.Str.{IsUtf8-nil, chars-nil}
use Rattle.pr_expo.specs.declared.expo_line.place.LineCursor.TheVariants.{Start}
use Rattle.pr_expo.specs.Line.{line_read, outcome_of, text_front, way}
use Rattle.pr_expo.proofs.Fronts.{is_whole, whole_front}
use Rattle.pr_expo.specs.declared.exposition.ExpoError.{ExpoError}
use Rattle.pr_expo.specs.declared.exposition.ExpoError.TheVariants.{Fault, Memory}
use Rattle.pr_expo.specs.declared.exposition.Exposition.{Exposition}
use Rattle.pr_expo.specs.declared.exposition.Line.{Line}
use Rattle.pr_expo.specs.Families.{Refuses, exposition_if, exposition_of}
use Rattle.pr_expo.specs.private.Keeping.{Entries, HasRoom, IsUnderWay, Notes, RefusesLine, Tells, entries_after, family_from, samples_kept}
use Rattle.pr_expo.proofs.Lines.{line_bad, line_first, line_last, line_more}
use Rattle.pr_expo.proofs.Telling.{families_told, has_room, tells_more, tells_nothing}

-- at the start
pub starts : (bytes : List ℕ) → IsUnderWay bytes [] [] 1 bytes
starts bytes = record {
  before = [];
  tells = tells_nothing;
  reads_so = line_first bytes [] refl;
  counted = refl;
  within = omega arith;
}

-- a line that is not empty has a number that is not too great, and leaves room
pub line_fits : (bytes rest line : List ℕ) (entries : Entries) (lines : List Line) (number : ℕ) → IsUnderWay bytes entries lines number rest → length bytes < 2 ^ 32 →
    length line ≤ length rest → 0 < length line → (number < 2 ^ 32) × HasRoom entries
line_fits bytes rest line entries lines number u h l some =
    let few : number < 2 ^ 32 = omega (arith, u.within) in (few, has_room entries lines u.before u.tells (omega (arith, u.counted)))

now_tells : (line : List ℕ) (old new : Entries) (samples more : List Line) (before : List Read) → Tells old samples before → (n : Notes line old samples new more) → Tells new more (before ++ n.read ∷ [])
now_tells line old new samples more before t n =
    subst (λ es. Tells es more (before ++ n.read ∷ [])) (sym n.entries)
    (subst (λ ls. Tells (entries_after old n.read) ls (before ++ n.read ∷ [])) (sym n.lines) (tells_more old samples before n.read t))

-- a line more was read
pub goes_on : (bytes rest line next : List ℕ) (old new : Entries) (samples more : List Line) (number : ℕ) → IsUnderWay bytes old samples number rest →
    Notes line old samples new more → text_lines rest ≡ line ∷ text_lines next → length next < length rest → IsUnderWay bytes new more (number + 1) next
goes_on bytes rest line next old new samples more number u n lines shorter = record {
  before = u.before ++ n.read ∷ [];
  tells = now_tells line old new samples more u.before u.tells n;
  reads_so = line_more bytes rest line next u.before n.read number u.reads_so lines n.reads_so;
  counted = omega (arith, u.counted, length-append u.before (n.read ∷ []));
  within = omega (arith, u.within, shorter);
}

-- the last line was read
pub ends_so : (bytes rest line : List ℕ) (old new : Entries) (samples more : List Line) (number : ℕ) (e : Exposition) → IsUnderWay bytes old samples number rest →
    Notes line old samples new more → text_lines rest ≡ line ∷ [] → e ≡ record { families = map family_from new; lines = more } → exposition_of bytes ≡ Ok e
unfolding exposition_of
ends_so bytes rest line old new samples more number e u n lines is =
    let t = now_tells line old new samples more u.before u.tells n in
    ap exposition_if (line_last bytes rest line u.before n.read number u.reads_so lines n.reads_so)
    ∙ ap Ok ((λ i. let e : Exposition = record { families = sym (families_told new more (u.before ++ n.read ∷ []) t) i; lines = sym (t.samples []) i } in e) ∙ sym is)

-- a line is bad
pub refuses_so : (bytes rest line : List ℕ) (others : List (List ℕ)) (old : Entries) (samples : List Line) (number : ℕ) (fault : ExpoError) → IsUnderWay bytes old samples number rest →
    text_lines rest ≡ line ∷ others → RefusesLine line number fault → Refuses bytes fault
unfolding exposition_of
refuses_so bytes rest line others old samples number (Fault at kind) u lines r =
    ap exposition_if (line_bad bytes rest line others u.before kind number u.reads_so lines r.1) ∙ ap (λ n. Err (Fault n kind)) (sym r.0)
refuses_so bytes rest line others old samples number Memory u lines r = tt

nothing_read : line_read [] ≡ Ok Nothing
unfolding line_read
nothing_read =
    ap (λ b. outcome_of b (way Start (chars (text_front [])))) (sym (is_whole [] IsUtf8-nil))
    ∙ ap (λ t. outcome_of true (way Start (chars t))) (sym (whole_front [] [] (refl, IsUtf8-nil)))
    ∙ ap (λ cs. outcome_of true (way Start cs)) chars-nil

empty_is : (line : List ℕ) → length line ≡ 0 → line ≡ []
empty_is [] h = refl
empty_is (b ∷ bs) h = absurd (omega arith)

-- an empty line says nothing
pub empty_notes : (line : List ℕ) (entries : Entries) (lines : List Line) → length line ≡ 0 → Notes line entries lines entries lines
empty_notes line entries lines h = record {
  read = Nothing;
  reads_so = ap line_read (empty_is line h) ∙ nothing_read;
  entries = refl;
  lines = sym (append-nil lines);
}

pub notes_by : (line : List ℕ) (read : Read) (old new : Entries) (samples more : List Line) → line_read line ≡ Ok read → new ≡ entries_after old read → more ≡ samples ++ samples_kept old read → Notes line old samples new more
notes_by line read old new samples more h e l = record { read = read; reads_so = h; entries = e; lines = l }

-- the lines that are left, by what stands behind the first
abbrev pub Leaves : Option (Bor (List ℕ)) → List ℕ → List ℕ → Type 0
Leaves o rest line = MatchOption o (text_lines rest ≡ line ∷ []) (λ next. text_lines rest ≡ line ∷ text_lines next.now)

pub goes_on_to : (bytes rest line : List ℕ) (old new : Entries) (samples more : List Line) (number : ℕ) (o : Option (Bor (List ℕ))) (next : Bor (List ℕ)) → IsUnderWay bytes old samples number rest →
    Notes line old samples new more → Leaves o rest line → IfSome o (λ next. length next.now < length rest) → o ≡ Some next → IsUnderWay bytes new more (number + 1) next.now
goes_on_to bytes rest line old new samples more number o next u n lines shorter e =
    goes_on bytes rest line next.now old new samples more number u n (subst (λ o. Leaves o rest line) e lines) (subst (λ o. IfSome o (λ next. length next.now < length rest)) e shorter)

pub ends_at : (bytes rest line : List ℕ) (old new : Entries) (samples more : List Line) (number : ℕ) (o : Option (Bor (List ℕ))) (e : Exposition) → IsUnderWay bytes old samples number rest →
    Notes line old samples new more → Leaves o rest line → o ≡ None → e ≡ record { families = map family_from new; lines = more } → exposition_of bytes ≡ Ok e
ends_at bytes rest line old new samples more number o e u n lines none is = ends_so bytes rest line old new samples more number e u n (subst (λ o. Leaves o rest line) none lines) is

pub refuses_at : (bytes rest line : List ℕ) (old : Entries) (samples : List Line) (number : ℕ) (o : Option (Bor (List ℕ))) (fault : ExpoError) → IsUnderWay bytes old samples number rest →
    Leaves o rest line → RefusesLine line number fault → Refuses bytes fault
refuses_at bytes rest line old samples number None fault u lines r = refuses_so bytes rest line [] old samples number fault u lines r
refuses_at bytes rest line old samples number (Some next) fault u lines r = refuses_so bytes rest line (text_lines next.now) old samples number fault u lines r
