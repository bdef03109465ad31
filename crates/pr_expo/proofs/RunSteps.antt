-- A run leads from a place to the same one with a longer text.
use Rattle.std.proofs.Common.{◌≡◌, get_or, refl, sym, ap, ◌∙◌, subst, ℕ, zero, suc, ◌+◌, ◌<◌, ◌≤◌, List, [], ◌∷◌, ◌++◌, length, take, drop, Bool, true, false, cond, ◌&&◌, ◌||◌, not, nat_lt, Option, Some, None, append_assoc, append-nil, length-append, arith, encode_utf8}
use Prim.Native.Char.{code}
use Rattle.std.specs.Prelude.{◌==◌, if◌then◌else◌, unwrap_or, position, slice_index}
use Rattle.std.specs.Char.{is_ascii_digit}
use Rattle.std.specs.List.{list_all, position_or_len}
use Rattle.std.specs.Str.{IsAscii, IsCharBoundary, IsUtf8, chars, encode_utf8_all}
use Rattle.std.proofs.lemmas.Bool.Decides.{nat_tests}
use Rattle.std.proofs.lemmas.List.{take-append-drop}
use Rattle.std.proofs.lemmas.List.Folds.{list_all-append}
use Rattle.std.proofs.lemmas.List.Sums.{passes_at_first}
use Rattle.std.proofs.lemmas.Str.{IsCharBoundary-end, IsCharBoundary-from_take, IsCharBoundary-start, IsUtf8-drop, IsUtf8-from_ascii, IsUtf8-take, chars-IsAscii, chars-append, chars-nil, encode_ascii, encodes-chars, length-encode, len_utf8_bounds}
use Rattle.pr_labels.specs.pr_words.Bytes.{is_blank, is_label_byte}
use Rattle.pr_labels.specs.Names.{is_metric_byte}
use Rattle.pr_expo.specs.declared.expo_line.number.NumberPlace.{NumberPlace}
use Rattle.pr_expo.specs.declared.expo_line.number.NumberPlace.TheVariants as np
use Rattle.pr_expo.specs.declared.expo_line.place.LineHead.{LineHead}
use Rattle.pr_expo.specs.declared.expo_line.place.LineCursor.{LineCursor}
use Rattle.pr_expo.specs.declared.expo_line.place.LineCursor.TheVariants.{Start, Hash, Gap, Keyword, Passed, BeforeFamily, InFamily, InHelp, BeforeType, InType, AfterType, InName, BeforeLabel, InLabel, BeforeEqual, BeforeQuote, InValue, InEscape, AfterValue, AfterList, BeforeNumber, InNumber, AfterNumber, AfterSign, InTime, AfterTime}
use Rattle.pr_expo.specs.declared.expo_line.place.FamilyWord.{FamilyWord}
use Rattle.pr_expo.specs.Line.{Way, fault_at, goes, grown, numbered, way, way_on}
use Rattle.pr_expo.specs.Number.{exponent_start, is_number_end, number_next}
use Rattle.pr_expo.specs.private.Runs.{IsRun, ends_plain, is_plain, lengthens, lengthens_number, longer}

both : (a b : Bool) → (a && b) ≡ true → (a ≡ true) × (b ≡ true)
both true b h = (refl, h)
both false b h = cc

-- how long a run is

within : (p : ℕ → Bool) (xs : List ℕ) → position_or_len p xs ≤ length xs
within p [] = omega arith
within p (x ∷ xs) = by_test (p x) (position_or_len p xs) (length xs) (within p xs) where
  by_test : (b : Bool) (n l : ℕ) → n ≤ l → cond (not b) (1 + n) 0 ≤ suc l
  by_test true n l h = omega arith
  by_test false n l h = omega arith

chosen : (n l : ℕ) → n ≤ l → unwrap_or (cond (nat_lt n l) (Some n) None) l ≡ n
chosen n l h = grind (arith, nat_tests)

pub place_or_end : (p : ℕ → Bool) (xs : List ℕ) → unwrap_or (position p xs) (length xs) ≡ position_or_len p xs
place_or_end p xs = chosen (position_or_len p xs) (length xs) (within p xs)

-- before the first byte that passes none does
none_before : (p : ℕ → Bool) (xs : List ℕ) → list_all (λ x. not (p x)) (take (position_or_len p xs) xs) ≡ true
none_before p [] = refl
none_before p (x ∷ xs) = by (p x) refl (position_or_len p xs) (none_before p xs) where
  by : (b : Bool) → p x ≡ b → (n : ℕ) → list_all (λ x. not (p x)) (take n xs) ≡ true → list_all (λ x. not (p x)) (take (cond (not b) (1 + n) 0) (x ∷ xs)) ≡ true
  by true e n h = refl
  by false e n h =
      let more : 1 + n ≡ suc n = omega arith in
      ap (λ k. list_all (λ x. not (p x)) (take k (x ∷ xs))) more ∙ ap (λ b. not b && list_all (λ x. not (p x)) (take n xs)) e ∙ h

twice : (b : Bool) → not (not b) ≡ b
twice true = refl
twice false = refl

list_all_same : (p q : ℕ → Bool) → ((x : ℕ) → p x ≡ q x) → (xs : List ℕ) → list_all p xs ≡ list_all q xs
list_all_same p q f [] = refl
list_all_same p q f (x ∷ xs) = λ i. f x i && list_all_same p q f xs i

pub all_before : (p : ℕ → Bool) (xs : List ℕ) → list_all p (take (position_or_len (λ x. not (p x)) xs) xs) ≡ true
all_before p xs = sym (list_all_same (λ x. not (not (p x))) p (λ x. twice (p x)) (take (position_or_len (λ x. not (p x)) xs) xs)) ∙ none_before (λ x. not (p x)) xs

-- bytes of a class that has ASCII characters alone
pub ascii : (p : ℕ → Bool) → ((c : ℕ) → p c ≡ true → c < 128) → (xs : List ℕ) → list_all p xs ≡ true → IsAscii xs
ascii p s [] h i = omega arith
ascii p s (x ∷ xs) h zero = s x (both (p x) (list_all p xs) h).0
ascii p s (x ∷ xs) h (suc i) = ascii p s xs (both (p x) (list_all p xs) h).1 i

small_boundary : (p : ℕ → Bool) → ((c : ℕ) → p c ≡ true → c < 128) → (bs : List ℕ) → IsUtf8 bs → IsCharBoundary bs (position_or_len (λ b. not (p b)) bs)
small_boundary p s bs u =
    IsCharBoundary-from_take bs (position_or_len (λ b. not (p b)) bs) u (within (λ b. not (p b)) bs)
    (IsUtf8-from_ascii (take (position_or_len (λ b. not (p b)) bs) bs) (ascii p s (take (position_or_len (λ b. not (p b)) bs) bs) (all_before p bs)))

small_run : (p : ℕ → Bool) → ((c : ℕ) → p c ≡ true → c < 128) → (bs : List ℕ) → list_all p (chars (take (position_or_len (λ b. not (p b)) bs) bs)) ≡ true
small_run p s bs =
    ap (list_all p) (chars-IsAscii (take (position_or_len (λ b. not (p b)) bs) bs) (ascii p s (take (position_or_len (λ b. not (p b)) bs) bs) (all_before p bs))) ∙ all_before p bs

metric_small : (c : ℕ) → is_metric_byte c ≡ true → c < 128
metric_small c h = grind (arith, nat_tests)

label_small : (c : ℕ) → is_label_byte c ≡ true → c < 128
label_small c h = grind (arith, nat_tests)

digit_small : (c : ℕ) → is_ascii_digit c ≡ true → c < 128
digit_small c h = grind (arith, nat_tests)

pub metric_boundary : (bs : List ℕ) → IsUtf8 bs → IsCharBoundary bs (position_or_len (λ b. not (is_metric_byte b)) bs)
metric_boundary bs u = small_boundary is_metric_byte metric_small bs u

pub metric_run : (bs : List ℕ) → list_all is_metric_byte (chars (take (position_or_len (λ b. not (is_metric_byte b)) bs) bs)) ≡ true
metric_run bs = small_run is_metric_byte metric_small bs

pub label_boundary : (bs : List ℕ) → IsUtf8 bs → IsCharBoundary bs (position_or_len (λ b. not (is_label_byte b)) bs)
label_boundary bs u = small_boundary is_label_byte label_small bs u

pub label_run : (bs : List ℕ) → list_all is_label_byte (chars (take (position_or_len (λ b. not (is_label_byte b)) bs) bs)) ≡ true
label_run bs = small_run is_label_byte label_small bs

pub digits_boundary : (bs : List ℕ) → IsUtf8 bs → IsCharBoundary bs (position_or_len (λ b. not (is_ascii_digit b)) bs)
digits_boundary bs u = small_boundary is_ascii_digit digit_small bs u

pub digits_run : (bs : List ℕ) → list_all is_ascii_digit (chars (take (position_or_len (λ b. not (is_ascii_digit b)) bs) bs)) ≡ true
digits_run bs = small_run is_ascii_digit digit_small bs

-- bytes up to one that is an ASCII character
end_small : (c : ℕ) → ends_plain c ≡ true → c < 128
end_small c h = grind (arith, nat_tests)

other_small : (c : ℕ) → is_plain c ≡ false → c < 128
other_small c h = end_small c (sym (twice (ends_plain c)) ∙ ap not h)

pub plain_boundary : (bs : List ℕ) → IsCharBoundary bs (position_or_len ends_plain bs)
plain_boundary bs = (within ends_plain bs, λ l g. absurd (omega (arith, end_small (get_or bs (position_or_len ends_plain bs) 0) (passes_at_first ends_plain bs 0 l), g)))

plain_chars : (cs : List ℕ) → list_all is_plain (encode_utf8_all cs) ≡ true → list_all is_plain cs ≡ true
plain_chars [] h = refl
plain_chars (c ∷ cs) h =
    let k = both (list_all is_plain (encode_utf8 c)) (list_all is_plain (encode_utf8_all cs)) (sym (list_all-append is_plain (encode_utf8 c) (encode_utf8_all cs)) ∙ h) in
    ap (λ b. b && list_all is_plain cs) (first (is_plain c) refl k.0) ∙ plain_chars cs k.1 where
      first : (b : Bool) → is_plain c ≡ b → list_all is_plain (encode_utf8 c) ≡ true → is_plain c ≡ true
      first true e k = e
      first false e k = (both (is_plain c) true (sym (ap (list_all is_plain) (encode_ascii c (other_small c e))) ∙ k)).0

pub plain_run : (bs : List ℕ) → IsUtf8 bs → list_all is_plain (chars (take (position_or_len ends_plain bs) bs)) ≡ true
plain_run bs u =
    let n = position_or_len ends_plain bs in
    plain_chars (chars (take n bs)) (ap (list_all is_plain) (encodes-chars (take n bs) (IsUtf8-take bs n u (plain_boundary bs))) ∙ none_before ends_plain bs)

-- no run, and a whole text
pub no_boundary : (bs : List ℕ) → IsUtf8 bs → IsCharBoundary bs 0
no_boundary bs u = IsCharBoundary-start bs u

pub no_run : (p : ℕ → Bool) (bs : List ℕ) → list_all p (chars (take 0 bs)) ≡ true
no_run p bs = ap (list_all p) chars-nil

pub whole_boundary : (bs : List ℕ) → IsCharBoundary bs (length bs)
whole_boundary bs = IsCharBoundary-end bs

all_of : (cs : List ℕ) → list_all (λ c. true) cs ≡ true
all_of [] = refl
all_of (c ∷ cs) = all_of cs

pub passed_run : (bs : List ℕ) → IsRun Passed (take (length bs) bs)
passed_run bs = all_of (chars (take (length bs) bs))

pub help_run : (name bs : List ℕ) → IsRun (InHelp name) (take (length bs) bs)
help_run name bs = all_of (chars (take (length bs) bs))

-- where a run leads

-- the characters lead from one place to another, whatever follows them
abbrev Leads : LineCursor → LineCursor → List ℕ → Type 0
Leads p q cs = (rest : List ℕ) → way p (cs ++ rest) ≡ way q rest

run_on : (P : List ℕ → LineCursor) (p : ℕ → Bool) → ((t : List ℕ) (c : ℕ) → p c ≡ true → goes (P t) c ≡ Some (P (t ++ encode_utf8 c))) →
    (t cs : List ℕ) → list_all p cs ≡ true → Leads (P t) (P (t ++ encode_utf8_all cs)) cs
run_on P p on t [] h = λ rest. ap (λ m. way (P m) rest) (sym (append-nil t))
run_on P p on t (c ∷ cs) h =
    let k = both (p c) (list_all p cs) h in
    λ rest. ap (λ o. way_on o (fault_at (P t)) (λ next. way next (cs ++ rest))) (on t c k.0) ∙ run_on P p on (t ++ encode_utf8 c) cs k.1 rest
    ∙ ap (λ m. way (P m) rest) (append_assoc t (encode_utf8 c) (encode_utf8_all cs))

stay_on : (p : LineCursor) → ((c : ℕ) → goes p c ≡ Some p) → (cs : List ℕ) → Leads p p cs
stay_on p on [] = λ rest. refl
stay_on p on (c ∷ cs) = λ rest. ap (λ o. way_on o (fault_at p) (λ next. way next (cs ++ rest))) (on c) ∙ stay_on p on cs rest

nothing_on : (p : LineCursor) (cs : List ℕ) → list_all (λ c. false) cs ≡ true → Leads p p cs
nothing_on p [] h = λ rest. refl
nothing_on p (c ∷ cs) h = cc

yes : (b : Bool) (x y : Option LineCursor) → b ≡ true → (if b then x else y) ≡ x
yes b x y e = ap (λ t. if t then x else y) e

no : (b : Bool) (x y : Option LineCursor) → b ≡ false → (if b then x else y) ≡ y
no b x y e = ap (λ t. if t then x else y) e

metric_no_blank : (c : ℕ) → is_metric_byte c ≡ true → is_blank c ≡ false
metric_no_blank c h = grind (arith, nat_tests)

digit_no_blank : (c : ℕ) → is_ascii_digit c ≡ true → is_blank c ≡ false
digit_no_blank c h = grind (arith, nat_tests)

metric_no_brace : (c : ℕ) → is_metric_byte c ≡ true → (c == code "{") ≡ false
metric_no_brace c h = grind (arith, nat_tests)

name_on : (t : List ℕ) (c : ℕ) → is_metric_byte c ≡ true → goes (InName t) c ≡ Some (InName (t ++ encode_utf8 c))
name_on t c h = no (is_blank c) _ _ (metric_no_blank c h) ∙ no (c == code "{") _ _ (metric_no_brace c h) ∙ yes (is_metric_byte c) _ _ h

family_on : (w : FamilyWord) (t : List ℕ) (c : ℕ) → is_metric_byte c ≡ true → goes (InFamily w t) c ≡ Some (InFamily w (t ++ encode_utf8 c))
family_on w t c h = no (is_blank c) _ _ (metric_no_blank c h) ∙ yes (is_metric_byte c) _ _ h

label_on : (head : LineHead) (t : List ℕ) (c : ℕ) → is_label_byte c ≡ true → goes (InLabel head t) c ≡ Some (InLabel head (t ++ encode_utf8 c))
label_on head t c h = yes (is_label_byte c) _ _ h

neither : (a b : Bool) → not (a || b) ≡ true → (a ≡ false) × (b ≡ false)
neither true b h = cc
neither false true h = cc
neither false false h = (refl, refl)

value_on : (head : LineHead) (name t : List ℕ) (c : ℕ) → is_plain c ≡ true → goes (InValue head name t) c ≡ Some (InValue head name (t ++ encode_utf8 c))
value_on head name t c h = let k = neither (c == code "\"") (c == code "\\") h in no (c == code "\"") _ _ k.0 ∙ no (c == code "\\") _ _ k.1

number_on : (head : LineHead) (place : NumberPlace) → ((c : ℕ) → is_ascii_digit c ≡ true → number_next place c ≡ Some place) →
    (t : List ℕ) (c : ℕ) → is_ascii_digit c ≡ true → goes (InNumber head place t) c ≡ Some (InNumber head place (t ++ encode_utf8 c))
number_on head place f t c h =
    no (is_number_end place && is_blank c) _ _ (ap (λ x. is_number_end place && x) (digit_no_blank c h) ∙ never (is_number_end place)) ∙ ap (numbered head (grown t c)) (f c h) where
      never : (a : Bool) → (a && false) ≡ false
      never true = refl
      never false = refl

number_leads : (head : LineHead) (place : NumberPlace) (t cs : List ℕ) → list_all (lengthens_number place) cs ≡ true →
    Leads (InNumber head place t) (InNumber head place (t ++ encode_utf8_all cs)) cs
number_leads head np.Whole t cs h = run_on (InNumber head np.Whole) is_ascii_digit (number_on head np.Whole (λ c e. ap (λ b. if b then Some np.Whole else (if c == code "." then Some np.Fraction else exponent_start c)) e)) t cs h
number_leads head np.Fraction t cs h = run_on (InNumber head np.Fraction) is_ascii_digit (number_on head np.Fraction (λ c e. ap (λ b. if b then Some np.Fraction else exponent_start c) e)) t cs h
number_leads head np.ExponentDigits t cs h = run_on (InNumber head np.ExponentDigits) is_ascii_digit (number_on head np.ExponentDigits (λ c e. ap (λ b. if b then Some np.ExponentDigits else None) e)) t cs h
number_leads head place t cs h = never place t cs h where
  never : (place : NumberPlace) (t cs : List ℕ) → list_all (λ c. false) cs ≡ true → Leads (InNumber head place t) (InNumber head place (t ++ encode_utf8_all cs)) cs
  never place t [] h = λ rest. ap (λ m. way (InNumber head place m) rest) (sym (append-nil t))
  never place t (c ∷ cs) h = cc

pub run_leads : (place : LineCursor) (cs : List ℕ) → list_all (lengthens place) cs ≡ true → Leads place (longer place (encode_utf8_all cs)) cs
run_leads Passed cs h = stay_on Passed (λ c. refl) cs
run_leads (InFamily w t) cs h = run_on (InFamily w) is_metric_byte (family_on w) t cs h
run_leads (InHelp t) cs h = stay_on (InHelp t) (λ c. refl) cs
run_leads (InName t) cs h = run_on InName is_metric_byte name_on t cs h
run_leads (InLabel head t) cs h = run_on (InLabel head) is_label_byte (label_on head) t cs h
run_leads (InValue head name t) cs h = run_on (InValue head name) is_plain (value_on head name) t cs h
run_leads (InNumber head place t) cs h = number_leads head place t cs h
run_leads place cs h = nothing_on place cs h

-- the same of a text that begins with a run
pub run_goes_on : (place next : LineCursor) (text run back : List ℕ) (n : ℕ) (w : Way) → IsUtf8 text → IsCharBoundary text n → IsRun place (take n text) →
    run ≡ take n text → back ≡ drop n text → way place (chars text) ≡ w → next ≡ longer place run → IsUtf8 back × (way next (chars back) ≡ w)
run_goes_on place next text run back n w u b is_run front rest h is =
    let whole = IsUtf8-take text n u b in
    let parts : chars text ≡ chars (take n text) ++ chars (drop n text) = sym (ap chars (take-append-drop n text)) ∙ chars-append (take n text) (drop n text) whole in
    let led : way place (chars text) ≡ way (longer place (take n text)) (chars (drop n text)) =
    ap (way place) parts ∙ run_leads place (chars (take n text)) is_run (chars (drop n text)) ∙ ap (λ x. way (longer place x) (chars (drop n text))) (encodes-chars (take n text) whole) in
    let same : next ≡ longer place (take n text) = is ∙ ap (longer place) front in
    (subst IsUtf8 (sym rest) (IsUtf8-drop text n u b), (λ i. way (same i) (chars (rest i))) ∙ sym led ∙ h)

-- a text without its first character is shorter
pub shorter : (text rest : List ℕ) (c : ℕ) → text ≡ encode_utf8 c ++ rest → length rest < length text
shorter text rest c e = omega (arith, ap length e, length-append (encode_utf8 c) rest, length-encode c, (len_utf8_bounds c).0)
