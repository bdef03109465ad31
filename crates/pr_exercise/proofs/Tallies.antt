-- What is counted of lines.
use Rattle.std.proofs.Common.{◌≡◌, ◌≢◌, ◌==◌, ℕ, ◌+◌, ◌*◌, ◌^◌, ◌<◌, ◌≤◌, Bool, true, false, true≢false, take, drop, cond, List, [], ◌∷◌, ◌++◌, length, refl, sym, subst, ap, ◌∙◌, arith}
use Rattle.std.proofs.lemmas.List.Sums.{sum_by-cons}
use Rattle.std.specs.Prelude.{codes, count_by}
use Rattle.std.specs.List.{position_or_len}
use Rattle.pr_outside.specs.pr_words.Lines.{is_feed, lines_of}
use Rattle.pr_exercise.specs.Summary.{begins_with, number_line, summary_of, tells_fault}
use Rattle.pr_exercise.specs.private.Tallies.{HasRoom, HasRoomForTexts, counted, counted_all, no_lines, summary_by, tally_of}
use Rattle.pr_exercise.specs.declared.tally.Tally.{Tally}
use Rattle.pr_exercise.proofs.Lines.{first_line}

pub counted_append : (t : Tally) (xs ys : List (List ℕ)) → counted_all t (xs ++ ys) ≡ counted_all (counted_all t xs) ys
counted_append t [] ys = refl
counted_append t (line ∷ lines) ys = counted_append (counted t line) lines ys

count_more : (p : List ℕ → Bool) (line : List ℕ) (lines : List (List ℕ)) → count_by p (line ∷ lines) ≡ cond (p line) 1 0 + count_by p lines
count_more p line lines = sum_by-cons (λ y. cond (p y) 1 0) line lines

record Counted (t now : Tally) (lines : List (List ℕ)) : Type 0 where
  lines_more : now.lines ≡ t.lines + length lines
  samples_more : now.samples ≡ t.samples + count_by (begins_with (codes "sample")) lines
  stales_more : now.stales ≡ t.stales + count_by (begins_with (codes "stale")) lines
  sends_more : now.sends ≡ t.sends + count_by (begins_with (codes "send")) lines
  faults_more : now.faults ≡ t.faults + count_by tells_fault lines

counts : (t : Tally) (lines : List (List ℕ)) → Counted t (counted_all t lines) lines
counts t [] = record { lines_more = omega arith; samples_more = omega arith; stales_more = omega arith; sends_more = omega arith; faults_more = omega arith }
counts t (line ∷ lines) =
    let c = counts (counted t line) lines in
    record {
      lines_more = omega (arith, c.lines_more);
      samples_more = omega (arith, c.samples_more, count_more (begins_with (codes "sample")) line lines);
      stales_more = omega (arith, c.stales_more, count_more (begins_with (codes "stale")) line lines);
      sends_more = omega (arith, c.sends_more, count_more (begins_with (codes "send")) line lines);
      faults_more = omega (arith, c.faults_more, count_more tells_fault line lines);
    }

-- the text of a tally is the summary of its lines
pub summary_is : (n : ℕ) (t : Tally) (lines : List (List ℕ)) → t ≡ tally_of lines → summary_by n t ≡ summary_of n lines
summary_is n t lines is =
    let c = counts no_lines lines in
    ap (summary_by n) is
    ∙ by (tally_of lines).lines (length lines) (tally_of lines).samples (count_by (begins_with (codes "sample")) lines)
    (tally_of lines).stales (count_by (begins_with (codes "stale")) lines) (tally_of lines).sends (count_by (begins_with (codes "send")) lines)
    (tally_of lines).faults (count_by tells_fault lines)
    c.lines_more c.samples_more c.stales_more c.sends_more c.faults_more
  where
    text : ℕ → ℕ → ℕ → ℕ → ℕ → List ℕ
    text a b c d e = number_line (codes "exercise") n
        ++ (number_line (codes "lines") a ++ (number_line (codes "samples") b ++ (number_line (codes "stales") c ++ (number_line (codes "sends") d ++ number_line (codes "faults") e))))

    by : (a x b y c z d u e v : ℕ) → a ≡ 0 + x → b ≡ 0 + y → c ≡ 0 + z → d ≡ 0 + u → e ≡ 0 + v → text a b c d e ≡ text x y z u v
    by a x b y c z d u e v p q r s o =
        let p1 : a ≡ x = omega (arith, p) in
        let q1 : b ≡ y = omega (arith, q) in
        let r1 : c ≡ z = omega (arith, r) in
        let s1 : d ≡ u = omega (arith, s) in
        let o1 : e ≡ v = omega (arith, o) in
        cc

-- the first line of a text that is left was counted
pub count_on : (t u : Tally) (rest line behind : List ℕ) → rest ≢ [] → u ≡ counted t line → line ≡ take (position_or_len is_feed rest) rest
    → behind ≡ drop 1 (drop (position_or_len is_feed rest) rest) → counted_all u (lines_of behind) ≡ counted_all t (lines_of rest)
count_on t u rest line behind some is front back =
    ap (λ (x : Tally). counted_all x (lines_of behind)) is
    ∙ ap (λ (l : List ℕ). counted_all (counted t l) (lines_of behind)) front
    ∙ ap (λ (b : List ℕ). counted_all (counted t (take (position_or_len is_feed rest) rest)) (lines_of b)) back
    ∙ sym (ap (counted_all t) (first_line rest some))

pub is_some : (rest : List ℕ) (b : Bool) → b ≡ (length rest == 0) → b ≡ false → rest ≢ []
is_some [] b is test none = absurd (true≢false (sym is ∙ test))
is_some (x ∷ rest) b is test none = absurd (cc)

-- how many lines can be counted

pub some_rest : (rest : List ℕ) → rest ≢ [] → 1 ≤ length rest
some_rest [] some = absurd (some refl)
some_rest (b ∷ rest) some = omega arith

pub room_less : (t : Tally) (fewer more : ℕ) → fewer ≤ more → HasRoom more t → HasRoom fewer t
room_less t fewer more less r = record {
  all = omega (arith, less, r.all);
  some_samples = r.some_samples;
  some_stales = r.some_stales;
  some_sends = r.some_sends;
  some_faults = r.some_faults;
}

one_at_most : (b : Bool) (n most : ℕ) → n ≤ most → n + cond b 1 0 ≤ most + 1
one_at_most true n most h = omega (arith, h)
one_at_most false n most h = omega (arith, h)

pub room_counted : (t : Tally) (line : List ℕ) (more : ℕ) → HasRoom (more + 1) t → HasRoom more (counted t line)
room_counted t line more r = record {
  all = omega (arith, r.all);
  some_samples = one_at_most (begins_with (codes "sample") line) t.samples t.lines r.some_samples;
  some_stales = one_at_most (begins_with (codes "stale") line) t.stales t.lines r.some_stales;
  some_sends = one_at_most (begins_with (codes "send") line) t.sends t.lines r.some_sends;
  some_faults = one_at_most (tells_fault line) t.faults t.lines r.some_faults;
}

-- its first line, of a text of which some is left
pub room_on : (t u : Tally) (rest line behind : List ℕ) (more : ℕ) → u ≡ counted t line → length behind < length rest → HasRoom (more + length rest) t → HasRoom (more + length behind) u
room_on t u rest line behind more is less r =
    subst (HasRoom (more + length behind)) (sym is)
    (room_counted t line (more + length behind) (room_less t (more + length behind + 1) (more + length rest) (omega (arith, less)) r))

pub room_at_first : HasRoomForTexts (2 ^ 64 + 1) no_lines
room_at_first = record { all = omega arith; some_samples = omega arith; some_stales = omega arith; some_sends = omega arith; some_faults = omega arith }

-- and a text
pub room_for_text : (t : Tally) (text : List ℕ) (more : ℕ) → length text < 2 ^ 63 → HasRoomForTexts (more + 1) t → HasRoom (more * 2 ^ 63 + length text) t
room_for_text t text more short r = room_less t (more * 2 ^ 63 + length text) ((more + 1) * 2 ^ 63) (omega (arith, short)) r

pub room_for_one : (t : Tally) (text : List ℕ) → length text < 2 ^ 63 → HasRoomForTexts 1 t → HasRoom (length text) t
room_for_one t text short r = room_less t (length text) (1 * 2 ^ 63) (omega (arith, short)) r

pub texts_less : (t : Tally) (fewer more : ℕ) → fewer ≤ more → HasRoomForTexts more t → HasRoomForTexts fewer t
texts_less t fewer more less r = room_less t (fewer * 2 ^ 63) (more * 2 ^ 63) (omega (arith, less)) r
