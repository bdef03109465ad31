-- Lines, by their line feeds.
use Rattle.std.proofs.Common.{◌≡◌, ◌≢◌, ℕ, Bool, true, false, true≢false, not, ◌&&◌, eqb, cond, ◌==◌, ◌≤◌, arith, List, [], ◌∷◌, ◌++◌, length, refl, sym, ap, ◌∙◌, subst}
use Rattle.std.specs.List.{list_all, onto_first}
use Rattle.pr_words.specs.Lines.{lines_of}
use Rattle.pr_text.specs.private.LineReading.{without_feed, IsLine}
use Rattle.pr_text.specs.Taken.{is_no_feed, are_whole_lines}

-- a first byte that is no line feed
head : (b : Bool) (rest : Bool) → (not b && rest) ≡ true → b ≡ false
head false rest h = refl
head true rest h = cc

tail : (b : Bool) (rest : Bool) → (not b && rest) ≡ true → rest ≡ true
tail false rest h = h
tail true rest h = cc

pub unended-append : (xs ys : List ℕ) → list_all is_no_feed xs ≡ true → list_all is_no_feed ys ≡ true → list_all is_no_feed (xs ++ ys) ≡ true
unended-append [] ys h k = k
unended-append (b ∷ bytes) ys h k =
    let no : eqb b 10 ≡ false = head (eqb b 10) (list_all is_no_feed bytes) h in
    rw no (unended-append bytes ys (tail (eqb b 10) (list_all is_no_feed bytes) h) k)

pub some_left : (b : ℕ) (bytes : List ℕ) → b ∷ bytes ≢ []
some_left b bytes e = absurd (cc)

pub more_left : (xs ys : List ℕ) → ys ≢ [] → xs ++ ys ≢ []
more_left [] ys some e = some e
more_left (x ∷ xs) ys some e = absurd (cc)

pub first_left : (xs ys : List ℕ) → xs ≢ [] → xs ++ ys ≢ []
first_left [] ys some e = some refl
first_left (x ∷ xs) ys some e = absurd (cc)

-- A line without its line feed.

before_each : (t : Bool) (b : ℕ) (xs ys : List ℕ) → b ∷ cond t xs ys ≡ cond t (b ∷ xs) (b ∷ ys)
before_each true b xs ys = refl
before_each false b xs ys = refl

last_byte : (text : List ℕ) (b : ℕ) → without_feed (text ++ b ∷ []) ≡ cond (eqb b 10) text (text ++ b ∷ [])
last_byte [] b = refl
last_byte (x ∷ []) b = before_each (eqb b 10) x [] (b ∷ [])
last_byte (x ∷ y ∷ text) b = ap (λ (l : List ℕ). x ∷ l) (last_byte (y ∷ text) b) ∙ before_each (eqb b 10) x (y ∷ text) ((y ∷ text) ++ b ∷ [])

pub fed : (line text : List ℕ) (b : ℕ) → line ≡ text ++ b ∷ [] → b ≡ 10 → text ≡ without_feed line
fed line text b is ten =
    sym (ap without_feed is ∙ ap (λ (c : ℕ). without_feed (text ++ c ∷ [])) ten ∙ last_byte text 10)

pub unfed : (line text : List ℕ) (b : ℕ) → line ≡ text ++ b ∷ [] → eqb b 10 ≡ false → line ≡ without_feed line
unfed line text b is other =
    is ∙ sym (ap without_feed is ∙ last_byte text b ∙ ap (λ (t : Bool). cond t text (text ++ b ∷ [])) other)

pub one_byte : (line : List ℕ) (more : Bool) → more ≡ not (length line == 0) → more ≡ true → 1 ≤ length line
one_byte [] more is some = absurd (true≢false (sym some ∙ is))
one_byte (b ∷ bytes) more is some = omega arith

pub empty : (line : List ℕ) → length line ≡ 0 → line ≡ without_feed line
empty [] h = refl
empty (b ∷ bytes) h = absurd (cc)

pub without_feed-fed : (text : List ℕ) → without_feed (text ++ 10 ∷ []) ≡ text
without_feed-fed text = last_byte text 10

pub without_feed-unended : (line : List ℕ) → list_all is_no_feed line ≡ true → without_feed line ≡ line
without_feed-unended [] u = refl
without_feed-unended (b ∷ []) u =
    let no : eqb b 10 ≡ false = head (eqb b 10) true u in
    ap (λ (t : Bool). cond t [] (b ∷ [])) no
without_feed-unended (b ∷ c ∷ bytes) u =
    ap (λ (l : List ℕ). b ∷ l) (without_feed-unended (c ∷ bytes) (tail (eqb b 10) (list_all is_no_feed (c ∷ bytes)) u))

-- The lines of bytes that begin with a line.

first : (line more : List ℕ) → line ≢ [] → list_all is_no_feed (without_feed line) ≡ true → (more ≢ [] → are_whole_lines line ≡ true)
    → lines_of (line ++ more) ≡ without_feed line ∷ lines_of more
first [] more some u w = absurd (some refl)
first (b ∷ []) more some u w = by (eqb b 10) refl more w
  where
    by : (t : Bool) → eqb b 10 ≡ t → (more : List ℕ) → (more ≢ [] → eqb b 10 ≡ true)
        → cond (eqb b 10) ([] ∷ lines_of more) (onto_first b (lines_of more)) ≡ cond (eqb b 10) [] (b ∷ []) ∷ lines_of more
    by true is more w = rw is refl
    by false is [] w = rw is refl
    by false is (m ∷ more) w = absurd (true≢false (sym (w (some_left m more)) ∙ is))
first (b ∷ c ∷ bytes) more some u w =
    let no : eqb b 10 ≡ false = head (eqb b 10) (list_all is_no_feed (without_feed (c ∷ bytes))) u in
    let on : lines_of ((c ∷ bytes) ++ more) ≡ without_feed (c ∷ bytes) ∷ lines_of more =
    first (c ∷ bytes) more (some_left c bytes) (tail (eqb b 10) (list_all is_no_feed (without_feed (c ∷ bytes))) u) w in
    rw (no, on) refl

-- of what follows a line only its front may be there
pub line_first : (line rest more later : List ℕ) → IsLine line rest → rest ≡ more ++ later → lines_of (line ++ more) ≡ without_feed line ∷ lines_of more
line_first line rest more later l is =
    first line more l.some l.text (λ some. l.whole (subst (λ (x : List ℕ). x ≢ []) (sym is) (first_left more later some)))

-- a line that has no line feed, and is not empty
pub unended_line : (line rest : List ℕ) → line ≢ [] → list_all is_no_feed line ≡ true → rest ≡ [] → IsLine line rest
unended_line line rest some u none = record {
  some = some;
  text = ap (list_all is_no_feed) (without_feed-unended line u) ∙ u;
  whole = λ left. absurd (left none);
}

-- a line either has its line feed, or no byte is one
pub whole_or_unended : (line : List ℕ) → list_all is_no_feed (without_feed line) ≡ true → are_whole_lines line ≡ false → list_all is_no_feed line ≡ true
whole_or_unended [] u other = absurd (cc)
whole_or_unended (b ∷ []) u other = rw other refl
whole_or_unended (b ∷ c ∷ bytes) u other =
    let here : eqb b 10 ≡ false = head (eqb b 10) (list_all is_no_feed (without_feed (c ∷ bytes))) u in
    rw here (whole_or_unended (c ∷ bytes) (tail (eqb b 10) (list_all is_no_feed (without_feed (c ∷ bytes))) u) other)
