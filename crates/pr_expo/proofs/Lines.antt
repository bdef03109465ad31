-- The first line of a text, and those after it.
use Rattle.std.proofs.Common.{◌≡◌, refl, sym, ap, ◌∙◌, ℕ, suc, ◌+◌, ◌<◌, List, [], ◌∷◌, ◌++◌, length, take, drop, Bool, true, false, cond, not, subst, Result, Ok, Err, arith, ◌≤◌, ◌-◌, get_or, zero}
use Rattle.std.specs.Prelude.{◌==◌}
use Prim.Native.Char.{code}
use Rattle.std.specs.List.{slice_split, position_or_len, onto_first}
use Rattle.pr_labels.specs.pr_words.Lines.{is_feed, without_return, ended, text_lines}
use Rattle.pr_expo.specs.declared.expo_line.place.Read.{Read}
use Rattle.pr_expo.specs.declared.expo_line.place.ExpoKind.{ExpoKind}
use Rattle.pr_expo.specs.declared.exposition.ExpoError.{ExpoError}
use Rattle.pr_expo.specs.declared.exposition.ExpoError.TheVariants.{Fault}
use Rattle.pr_expo.specs.Line.{line_read}
use Rattle.pr_expo.specs.Text.{reads_from, joined, text_reads}
use Rattle.pr_expo.specs.private.Keeping.{after}

-- no parts are empty
parts_by : (part : List ℕ) (b : ℕ) (parts : List (List ℕ)) → ended (part ∷ onto_first b parts) ≡ without_return part ∷ ended (onto_first b parts)
parts_by part b [] = refl
parts_by part b (p ∷ ps) = refl

parts_cond : (part : List ℕ) (b : ℕ) (t : Bool) (parts : List (List ℕ)) →
    ended (part ∷ cond t ([] ∷ parts) (onto_first b parts)) ≡ without_return part ∷ ended (cond t ([] ∷ parts) (onto_first b parts))
parts_cond part b true parts = refl
parts_cond part b false parts = parts_by part b parts

parts_ended : (part bytes : List ℕ) → ended (part ∷ slice_split is_feed bytes) ≡ without_return part ∷ ended (slice_split is_feed bytes)
parts_ended part [] = refl
parts_ended part (b ∷ bs) = parts_cond part b (is_feed b) (slice_split is_feed bs)

one_more : (n : ℕ) → suc n ≡ n + 1
one_more n = omega arith

one_before : (n : ℕ) → suc n ≡ 1 + n
one_before n = omega arith

-- the first part, up to the first line feed
first_by : (b : ℕ) (bs : List ℕ) (t : Bool) (n : ℕ) →
    (n < length bs → slice_split is_feed bs ≡ take n bs ∷ slice_split is_feed (drop (suc n) bs)) →
    cond (not t) (1 + n) 0 < suc (length bs) →
    cond t ([] ∷ slice_split is_feed bs) (onto_first b (slice_split is_feed bs))
    ≡ take (cond (not t) (1 + n) 0) (b ∷ bs) ∷ slice_split is_feed (drop (suc (cond (not t) (1 + n) 0)) (b ∷ bs))
first_by b bs true n again l = refl
first_by b bs false n again l =
    ap (onto_first b) (again (omega arith)) ∙ ap (λ k. take k (b ∷ bs) ∷ slice_split is_feed (drop k bs)) (one_before n)

first_part : (bs : List ℕ) → position_or_len is_feed bs < length bs →
    slice_split is_feed bs ≡ take (position_or_len is_feed bs) bs ∷ slice_split is_feed (drop (suc (position_or_len is_feed bs)) bs)
first_part [] l = absurd (omega arith)
first_part (b ∷ bs) l = first_by b bs (is_feed b) (position_or_len is_feed bs) (first_part bs) l

last_by : (b : ℕ) (bs : List ℕ) (t : Bool) (n : ℕ) → (n ≡ length bs → slice_split is_feed bs ≡ bs ∷ []) →
    cond (not t) (1 + n) 0 ≡ suc (length bs) → cond t ([] ∷ slice_split is_feed bs) (onto_first b (slice_split is_feed bs)) ≡ (b ∷ bs) ∷ []
last_by b bs true n again l = absurd (omega arith)
last_by b bs false n again l = ap (onto_first b) (again (omega arith))

last_part : (bs : List ℕ) → position_or_len is_feed bs ≡ length bs → slice_split is_feed bs ≡ bs ∷ []
last_part [] l = refl
last_part (b ∷ bs) l = last_by b bs (is_feed b) (position_or_len is_feed bs) (last_part bs) l

pub first_line : (bs line rest : List ℕ) (n : ℕ) → n ≡ position_or_len is_feed bs → n < length bs → line ≡ without_return (take n bs) →
    rest ≡ drop (n + 1) bs → text_lines bs ≡ line ∷ text_lines rest
unfolding text_lines
first_line bs line rest n e l is from =
    ap ended (first_part bs (subst (λ k. k < length bs) e l)) ∙ parts_ended (take (position_or_len is_feed bs) bs) (drop (suc (position_or_len is_feed bs)) bs)
    ∙ ap (λ k. without_return (take k bs) ∷ ended (slice_split is_feed (drop (suc k) bs))) (sym e)
    ∙ ap (λ x. x ∷ ended (slice_split is_feed (drop (suc n) bs))) (sym is)
    ∙ ap (λ x. line ∷ ended (slice_split is_feed x)) (ap (λ k. drop k bs) (one_more n) ∙ sym from)

pub last_line : (bs : List ℕ) → position_or_len is_feed bs ≡ length bs → text_lines bs ≡ bs ∷ []
unfolding text_lines
last_line bs l = ap ended (last_part bs l)

append_more : (done : List Read) (read : Read) (reads : List Read) → (done ++ read ∷ []) ++ reads ≡ done ++ read ∷ reads
append_more [] read reads = refl
append_more (d ∷ ds) read reads = ap (λ x. d ∷ x) (append_more ds read reads)

-- what was read before and what is read here
pub read_more : (done : List Read) (read : Read) (others : Result (List Read) ExpoError) (number : ℕ) →
    after done (joined number (Ok read) others) ≡ after (done ++ read ∷ []) others
read_more done read (Err fault) number = refl
read_more done read (Ok reads) number = ap Ok (sym (append_more done read reads))

-- a line that is not the last is read, the last is read, and a line is bad
pub line_more : (bytes rest line next : List ℕ) (done : List Read) (read : Read) (number : ℕ) →
    text_reads bytes ≡ after done (reads_from number (text_lines rest)) → text_lines rest ≡ line ∷ text_lines next → line_read line ≡ Ok read →
    text_reads bytes ≡ after (done ++ read ∷ []) (reads_from (number + 1) (text_lines next))
line_more bytes rest line next done read number h lines is =
    h ∙ ap (λ ls. after done (reads_from number ls)) lines ∙ ap (λ r. after done (joined number r (reads_from (suc number) (text_lines next)))) is
    ∙ read_more done read (reads_from (suc number) (text_lines next)) number
    ∙ ap (λ n. after (done ++ read ∷ []) (reads_from n (text_lines next))) (one_more number)

pub line_last : (bytes rest line : List ℕ) (done : List Read) (read : Read) (number : ℕ) →
    text_reads bytes ≡ after done (reads_from number (text_lines rest)) → text_lines rest ≡ line ∷ [] → line_read line ≡ Ok read →
    text_reads bytes ≡ Ok (done ++ read ∷ [])
line_last bytes rest line done read number h lines is =
    h ∙ ap (λ ls. after done (reads_from number ls)) lines ∙ ap (λ r. after done (joined number r (Ok []))) is

pub line_bad : (bytes rest line : List ℕ) (others : List (List ℕ)) (done : List Read) (kind : ExpoKind) (number : ℕ) →
    text_reads bytes ≡ after done (reads_from number (text_lines rest)) → text_lines rest ≡ line ∷ others → line_read line ≡ Err kind →
    text_reads bytes ≡ Err (Fault number kind)
line_bad bytes rest line others done kind number h lines is =
    h ∙ ap (λ ls. after done (reads_from number ls)) lines ∙ ap (λ r. after done (joined number r (reads_from (suc number) others))) is

nothing_before : (r : Result (List Read) ExpoError) → r ≡ after [] r
nothing_before (Ok reads) = refl
nothing_before (Err fault) = refl

pub line_first : (bytes : List ℕ) (done : List Read) → done ≡ [] → text_reads bytes ≡ after done (reads_from 1 (text_lines bytes))
unfolding text_reads
line_first bytes done e = nothing_before _ ∙ ap (λ d. after d (reads_from 1 (text_lines bytes))) (sym e)

length_front : (xs : List ℕ) (n : ℕ) → length (take n xs) ≤ length xs
length_front xs zero = omega arith
length_front [] (suc n) = omega arith
length_front (x ∷ xs) (suc n) = omega (arith, length_front xs n)

pub shorter : (line : List ℕ) → length (without_return line) ≤ length line
shorter line = by (get_or line (length line - 1) 0 == code "\r") where
  by : (b : Bool) → length (cond b (take (length line - 1) line) line) ≤ length line
  by true = length_front line (length line - 1)
  by false = omega arith
