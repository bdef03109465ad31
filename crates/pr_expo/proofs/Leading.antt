-- Where the parts of a line lead.
use Rattle.std.proofs.Common.{◌≡◌, refl, sym, ap, ◌∙◌, subst, ℕ, suc, ◌+◌, ◌<◌, ◌≤◌, List, [], ◌∷◌, ◌++◌, length, Bool, true, false, cond, ◌&&◌, ◌||◌, Option, Some, None, Ok, append_assoc, append-nil, arith, lit<, lit≤, lt-ltb, encode_utf8, codes, nat_lt, ◌⊎◌, inl, inr}
use Prim.Native.Char.{code}
use Rattle.std.specs.Prelude.{◌==◌, if◌then◌else◌}
use Rattle.std.specs.Char.{eq_ignore_ascii_case, is_ascii_digit, to_ascii_lowercase}
use Rattle.std.specs.List.{list_all, list_any}
use Rattle.std.specs.Option.{option_or}
use Rattle.std.specs.Str.{IsUtf8, bytes_eq, chars, str_to_ascii_lowercase}
use Rattle.std.proofs.lemmas.Bool.Decides.{nat_tests}
use Rattle.std.proofs.lemmas.Str.{encode_ascii}
use Rattle.pr_labels.specs.pr_words.Bytes.{is_blank, is_label_byte, is_letter}
use Rattle.pr_labels.specs.declared.pair.Pair.{Pair}
use Rattle.pr_labels.specs.declared.fault.LabelFault.TheVariants.{BadName, Twice}
use Rattle.pr_labels.specs.LabelSet.{has_name, metric_label, pair_of}
use Rattle.pr_labels.specs.Edits.{fault_after, pair_fault}
use Rattle.pr_labels.specs.Names.{is_label_name, is_metric_byte, is_metric_letter, is_metric_name}
use Rattle.pr_labels.proofs.LabelLaws.{first_none}
use Rattle.pr_num.specs.private.Forms.{AreDigits, Exponent, Fraction, HasUnsignedForm, IsExponent, IsInfinityWord, IsNumberText, Sign, capital_e, decimals, exponent_part, fraction_part, minus, no_exponent, no_point, no_sign, plus, point, sign_text, small_e}
use Rattle.pr_expo.specs.Characters.{is_sign}
use Rattle.pr_expo.specs.declared.expo_line.number.NumberPlace.{NumberPlace}
use Rattle.pr_expo.specs.declared.expo_line.number.NumberPlace.TheVariants as np
use Rattle.pr_expo.specs.declared.expo_line.place.LineHead.{LineHead}
use Rattle.pr_expo.specs.declared.expo_line.place.Measured.{Measured}
use Rattle.pr_expo.specs.declared.expo_line.place.LineCursor.{LineCursor}
use Rattle.pr_expo.specs.declared.expo_line.place.LineCursor.TheVariants.{Start, InName, BeforeLabel, InLabel, BeforeEqual, BeforeQuote, InValue, InEscape, AfterValue, AfterList, BeforeNumber, InNumber, AfterNumber, AfterSign, InTime, AfterTime}
use Rattle.pr_expo.specs.declared.expo_line.place.Read.{Read}
use Rattle.pr_expo.specs.declared.expo_line.place.Read.TheVariants.{Sample}
use Rattle.pr_expo.specs.Line.{at_end, before_equal, comes, ends, escape, fault_at, goes, grown, line_read, numbered, outcome_of, stands_before, text_front, way, way_on, with_label}
use Rattle.pr_expo.specs.Number.{exponent_digit, exponent_start, is_number_end, number_next, number_start, unsigned_start}
use Rattle.pr_expo.specs.private.PlainLine.{◌▸◌, Blanks, End, Is, IsSampleLine, Label, LabelList, Labels, SomeBlanks, Then, IsValueText, character, empty_value, escaped, labels, last_comma, more, no_labels, no_list, one}
use Rattle.pr_expo.specs.private.Sound.{IsTime}
use Rattle.pr_expo.proofs.Fronts.{is_whole, whole_front}
use Rattle.pr_expo.proofs.Sound.{digit_small, label_small, letter_small}

-- the characters lead from one place to another, whatever follows them
abbrev pub Leads : LineCursor → LineCursor → List ℕ → Type 0
Leads p q t = (rest : List ℕ) → way p (t ++ rest) ≡ way q rest

pub stays : (p : LineCursor) → Leads p p []
stays p = λ rest. refl

pub steps : (p q : LineCursor) (c : ℕ) → goes p c ≡ Some q → Leads p q (c ∷ [])
steps p q c e = λ rest. ap (λ o. way_on o (fault_at p) (λ next. way next rest)) e

pub follows : (p q r : LineCursor) (t u : List ℕ) → Leads p q t → Leads q r u → Leads p r (t ++ u)
follows p q r t u f g = λ rest. ap (way p) (append_assoc t u rest) ∙ f (u ++ rest) ∙ g rest

-- a text of two parts
pub leads : (p q r : LineCursor) (P X : List ℕ → Type 0) (t : List ℕ) → Then P X t → ((u : List ℕ) → P u → Leads p q u) → ((u : List ℕ) → X u → Leads q r u) → Leads p r t
leads p q r P X t h f g = subst (Leads p r) (sym h.parts) (follows p q r h.front h.rest (f h.front h.first) (g h.rest h.second))

pub leads_is : (p q : LineCursor) (wanted t : List ℕ) → Leads p q wanted → Is wanted t → Leads p q t
leads_is p q wanted t f e = subst (Leads p q) (sym e) f

pub both : (a b : Bool) → (a && b) ≡ true → (a ≡ true) × (b ≡ true)
both true b h = (refl, h)
both false b h = cc

-- blanks
pub leads_blanks : (p : LineCursor) → ((c : ℕ) → is_blank c ≡ true → goes p c ≡ Some p) → (t : List ℕ) → Blanks t → Leads p p t
leads_blanks p f [] b = stays p
leads_blanks p f (c ∷ cs) b = let k = both (is_blank c) (list_all is_blank cs) b in follows p p p (c ∷ []) cs (steps p p c (f c k.0)) (leads_blanks p f cs k.1)

pub leads_some : (p q : LineCursor) → ((c : ℕ) → is_blank c ≡ true → goes p c ≡ Some q) → ((c : ℕ) → is_blank c ≡ true → goes q c ≡ Some q) → (t : List ℕ) → SomeBlanks t → Leads p q t
leads_some p q f g [] s = absurd (omega (arith, s.some))
leads_some p q f g (c ∷ cs) s = let k = both (is_blank c) (list_all is_blank cs) s.blanks in follows p q q (c ∷ []) cs (steps p q c (f c k.0)) (leads_blanks q g cs k.1)

-- choices
pub yes : (b : Bool) (x y : Option LineCursor) → b ≡ true → (if b then x else y) ≡ x
yes b x y e = ap (λ t. if t then x else y) e

pub no : (b : Bool) (x y : Option LineCursor) → b ≡ false → (if b then x else y) ≡ y
no b x y e = ap (λ t. if t then x else y) e

-- classes of characters apart
pub metric_not_blank : (c : ℕ) → is_metric_byte c ≡ true → is_blank c ≡ false
metric_not_blank c h = grind (arith, nat_tests)

metric_no_brace : (c : ℕ) → is_metric_byte c ≡ true → (c == code "{") ≡ false
metric_no_brace c h = grind (arith, nat_tests)

metric_no_hash : (c : ℕ) → is_metric_letter c ≡ true → (c == code "#") ≡ false
metric_no_hash c h = grind (arith, nat_tests)

letter_no_blank : (c : ℕ) → is_letter c ≡ true → is_blank c ≡ false
letter_no_blank c h = grind (arith, nat_tests)

letter_no_brace : (c : ℕ) → is_letter c ≡ true → (c == code "}") ≡ false
letter_no_brace c h = grind (arith, nat_tests)

blank_no_label : (c : ℕ) → is_blank c ≡ true → is_label_byte c ≡ false
blank_no_label c h = grind (arith, nat_tests)

pub digit_no_blank : (c : ℕ) → is_ascii_digit c ≡ true → is_blank c ≡ false
digit_no_blank c h = grind (arith, nat_tests)

digit_no_sign : (c : ℕ) → is_ascii_digit c ≡ true → is_sign c ≡ false
digit_no_sign c h = grind (arith, nat_tests)

digit_no_letter : (c k : ℕ) → is_ascii_digit c ≡ true → 97 ≤ k → k < 123 → eq_ignore_ascii_case c k ≡ false
digit_no_letter c k h l s = grind (arith, nat_tests)

pub metric_letter_byte : (c : ℕ) → is_metric_letter c ≡ true → is_metric_byte c ≡ true
metric_letter_byte c h = ap (λ b. b || is_ascii_digit c) h

pub metric_byte_small : (c : ℕ) → is_metric_byte c ≡ true → c < 128
metric_byte_small c h = grind (arith, nat_tests)

-- the name of a sample
pub leads_name : (n cs : List ℕ) → list_all is_metric_byte cs ≡ true → Leads (InName n) (InName (n ++ cs)) cs
leads_name n [] h = subst (λ m. Leads (InName n) (InName m) []) (sym (append-nil n)) (stays (InName n))
leads_name n (c ∷ cs) h =
    let k = both (is_metric_byte c) (list_all is_metric_byte cs) h in
    let small : c < 128 = metric_byte_small c k.0 in
    let goes_on : goes (InName n) c ≡ Some (InName (n ++ c ∷ [])) =
    no (is_blank c) _ _ (metric_not_blank c k.0) ∙ no (c == code "{") _ _ (metric_no_brace c k.0) ∙ yes (is_metric_byte c) _ _ k.0 ∙ ap (λ x. Some (InName (n ++ x))) (encode_ascii c small) in
    subst (λ m. Leads (InName n) (InName m) (c ∷ cs)) (append_assoc n (c ∷ []) cs)
    (follows (InName n) (InName (n ++ c ∷ [])) (InName ((n ++ c ∷ []) ++ cs)) (c ∷ []) cs (steps (InName n) (InName (n ++ c ∷ [])) c goes_on) (leads_name (n ++ c ∷ []) cs k.1))

pub starts_name : (n : List ℕ) → is_metric_name n ≡ true → Leads Start (InName n) n
starts_name [] h = cc
starts_name (c ∷ cs) h =
    let k = both (is_metric_letter c) (list_all is_metric_byte cs) h in
    let byte : is_metric_byte c ≡ true = metric_letter_byte c k.0 in
    let first : goes Start c ≡ Some (InName (c ∷ [])) =
    no (is_blank c) _ _ (metric_not_blank c byte) ∙ no (c == code "#") _ _ (metric_no_hash c k.0) ∙ yes (is_metric_letter c) _ _ k.0 ∙ ap (λ x. Some (InName x)) (encode_ascii c (metric_byte_small c byte)) in
    follows Start (InName (c ∷ [])) (InName (c ∷ cs)) (c ∷ []) cs (steps Start (InName (c ∷ [])) c first) (leads_name (c ∷ []) cs k.1)

-- the name of a label
pub leads_label : (head : LineHead) (n cs : List ℕ) → list_all is_label_byte cs ≡ true → Leads (InLabel head n) (InLabel head (n ++ cs)) cs
leads_label head n [] h = subst (λ m. Leads (InLabel head n) (InLabel head m) []) (sym (append-nil n)) (stays (InLabel head n))
leads_label head n (c ∷ cs) h =
    let k = both (is_label_byte c) (list_all is_label_byte cs) h in
    let goes_on : goes (InLabel head n) c ≡ Some (InLabel head (n ++ c ∷ [])) = yes (is_label_byte c) _ _ k.0 ∙ ap (λ x. Some (InLabel head (n ++ x))) (encode_ascii c (label_small c k.0)) in
    subst (λ m. Leads (InLabel head n) (InLabel head m) (c ∷ cs)) (append_assoc n (c ∷ []) cs)
    (follows (InLabel head n) (InLabel head (n ++ c ∷ [])) (InLabel head ((n ++ c ∷ []) ++ cs)) (c ∷ []) cs (steps (InLabel head n) (InLabel head (n ++ c ∷ [])) c goes_on) (leads_label head (n ++ c ∷ []) cs k.1))

pub starts_label : (head : LineHead) (n : List ℕ) → is_label_name n ≡ true → Leads (BeforeLabel head) (InLabel head n) n
starts_label head [] h = cc
starts_label head (c ∷ cs) h =
    let k = both (is_letter c) (list_all is_label_byte cs) h in
    let first : goes (BeforeLabel head) c ≡ Some (InLabel head (c ∷ [])) =
    no (is_blank c) _ _ (letter_no_blank c k.0) ∙ no (c == code "}") _ _ (letter_no_brace c k.0) ∙ yes (is_letter c) _ _ k.0 ∙ ap (λ x. Some (InLabel head x)) (encode_ascii c (letter_small c k.0)) in
    follows (BeforeLabel head) (InLabel head (c ∷ [])) (InLabel head (c ∷ cs)) (c ∷ []) cs (steps (BeforeLabel head) (InLabel head (c ∷ [])) c first) (leads_label head (c ∷ []) cs k.1)

-- a place from which an equal sign leads to the value
record ForEqual (head : LineHead) (n : List ℕ) (p : LineCursor) (t : List ℕ) : Type 0 where
  place : LineCursor
  led : Leads p place t
  equal : goes place (code "=") ≡ Some (BeforeQuote head n)

blank_equal : (head : LineHead) (n : List ℕ) (c : ℕ) → is_blank c ≡ true → before_equal head n c ≡ Some (BeforeEqual head n)
blank_equal head n c h = yes (is_blank c) _ _ h

gap_leads : (head : LineHead) (n t : List ℕ) → stands_before head n ≡ false → Blanks t → ForEqual head n (InLabel head n) t
gap_leads head n [] s b = record { place = InLabel head n; led = stays (InLabel head n); equal = no (stands_before head n) _ _ s }
gap_leads head n (c ∷ cs) s b =
    let k = both (is_blank c) (list_all is_blank cs) b in
    record {
      place = BeforeEqual head n;
      led = follows (InLabel head n) (BeforeEqual head n) (BeforeEqual head n) (c ∷ []) cs
          (steps (InLabel head n) (BeforeEqual head n) c (no (is_label_byte c) _ _ (blank_no_label c k.0) ∙ no (stands_before head n) _ _ s ∙ blank_equal head n c k.0))
          (leads_blanks (BeforeEqual head n) (blank_equal head n) cs k.1);
      equal = refl;
    }

-- a value
value_leads : (head : LineHead) (n v t : List ℕ) → IsValueText v t → Leads (InValue head n []) (InValue head n v) t
value_leads head n v t empty_value = stays (InValue head n [])
value_leads head n v t (character w u c x q b) =
    follows (InValue head n []) (InValue head n w) (InValue head n (w ++ encode_utf8 c)) u (c ∷ []) (value_leads head n w u x)
    (steps (InValue head n w) (InValue head n (w ++ encode_utf8 c)) c (no (c == code "\"") _ _ q ∙ no (c == code "\\") _ _ b))
value_leads head n v t (escaped w u c x) =
    follows (InValue head n []) (InEscape head n w) (InValue head n (w ++ escape c)) (u ++ codes "\\") (c ∷ [])
    (follows (InValue head n []) (InValue head n w) (InEscape head n w) u (codes "\\") (value_leads head n w u x) (steps (InValue head n w) (InEscape head n w) (code "\\") refl))
    (steps (InEscape head n w) (InValue head n (w ++ escape c)) c refl)

-- a label
label_leads : (head : LineHead) (p : Pair) (t : List ℕ) → is_label_name p.name ≡ true → stands_before head p.name ≡ false → Label p t → Leads (BeforeLabel head) (AfterValue (with_label head p.name p.value)) t
label_leads head p t n s l =
    let n0 = p.name in
    let v0 = p.value in
    let after = AfterValue (with_label head n0 v0) in
    -- the parts, from the last to the first
    let h8 = l in
    let h7 = h8.first in
    let h6 = h7.first in
    let h5 = h6.first in
    let h4 = h5.first in
    let h3 = h4.first in
    let h2 = h3.first in
    let gap = gap_leads head n0 h2.rest s h2.second in
    let named : Leads (BeforeLabel head) (InLabel head n0) h2.front =
    leads (BeforeLabel head) (BeforeLabel head) (InLabel head n0) Blanks (Is n0) h2.front h2.first
    (leads_blanks (BeforeLabel head) (λ c e. yes (is_blank c) _ _ e)) (λ u e. leads_is (BeforeLabel head) (InLabel head n0) n0 u (starts_label head n0 n) e) in
    let gapped : Leads (BeforeLabel head) gap.place h3.front = subst (Leads (BeforeLabel head) gap.place) (sym h2.parts) (follows (BeforeLabel head) (InLabel head n0) gap.place h2.front h2.rest named gap.led) in
    let equalled : Leads (BeforeLabel head) (BeforeQuote head n0) h4.front =
    subst (Leads (BeforeLabel head) (BeforeQuote head n0)) (sym h3.parts)
    (follows (BeforeLabel head) gap.place (BeforeQuote head n0) h3.front h3.rest gapped (leads_is gap.place (BeforeQuote head n0) (codes "=") h3.rest (steps gap.place (BeforeQuote head n0) (code "=") gap.equal) h3.second)) in
    let spaced : Leads (BeforeLabel head) (BeforeQuote head n0) h5.front =
    subst (Leads (BeforeLabel head) (BeforeQuote head n0)) (sym h4.parts)
    (follows (BeforeLabel head) (BeforeQuote head n0) (BeforeQuote head n0) h4.front h4.rest equalled (leads_blanks (BeforeQuote head n0) (λ c e. yes (is_blank c) _ _ e) h4.rest h4.second)) in
    let quoted : Leads (BeforeLabel head) (InValue head n0 []) h6.front =
    subst (Leads (BeforeLabel head) (InValue head n0 [])) (sym h5.parts)
    (follows (BeforeLabel head) (BeforeQuote head n0) (InValue head n0 []) h5.front h5.rest spaced
    (leads_is (BeforeQuote head n0) (InValue head n0 []) (codes "\"") h5.rest (steps (BeforeQuote head n0) (InValue head n0 []) (code "\"") refl) h5.second)) in
    let valued : Leads (BeforeLabel head) (InValue head n0 v0) h7.front =
    subst (Leads (BeforeLabel head) (InValue head n0 v0)) (sym h6.parts)
    (follows (BeforeLabel head) (InValue head n0 []) (InValue head n0 v0) h6.front h6.rest quoted (value_leads head n0 v0 h6.rest h6.second)) in
    let closed : Leads (BeforeLabel head) after h8.front =
    subst (Leads (BeforeLabel head) after) (sym h7.parts)
    (follows (BeforeLabel head) (InValue head n0 v0) after h7.front h7.rest valued
    (leads_is (InValue head n0 v0) after (codes "\"") h7.rest (steps (InValue head n0 v0) after (code "\"") refl) h7.second)) in
    subst (Leads (BeforeLabel head) after) (sym h8.parts)
    (follows (BeforeLabel head) after after h8.front h8.rest closed (leads_blanks after (λ c e. yes (is_blank c) _ _ e) h8.rest h8.second))

-- names that stand once, of a list with one more
record Fresh (name : List ℕ) (ps : List Pair) (p : Pair) : Type 0 where
  before : fault_after [] (pair_of metric_label name ∷ ps) ≡ None
  is_name : is_label_name p.name ≡ true
  new : stands_before (record { name = name; labels = ps }) p.name ≡ false

pair_good : (before : List Pair) (p : Pair) → pair_fault before p ≡ None → (is_label_name p.name ≡ true) × (list_any (has_name p.name) before ≡ false)
pair_good before p h = by (is_label_name p.name) (list_any (has_name p.name) before) h where
  by : (a b : Bool) → cond a (cond b (Some (Twice (length before))) None) (Some (BadName (length before))) ≡ None → (a ≡ true) × (b ≡ false)
  by true true k = cc
  by true false k = (refl, refl)
  by false b k = cc

split_last : (before ps : List Pair) (p : Pair) → fault_after before (ps ++ p ∷ []) ≡ None → (fault_after before ps ≡ None) × (pair_fault (before ++ ps) p ≡ None)
split_last before [] p h = (refl, ap (λ x. pair_fault x p) (append-nil before) ∙ (first_none (pair_fault before p) None h).0)
split_last before (q ∷ ps) p h =
    let k = first_none (pair_fault before q) (fault_after (before ++ q ∷ []) (ps ++ p ∷ [])) h in
    let s = split_last (before ++ q ∷ []) ps p k.1 in (
      (λ i. option_or (k.0 i) (s.0 i)),
      ap (λ x. pair_fault x p) (sym (append_assoc before (q ∷ []) ps)) ∙ s.1,
    )

fresh : (name : List ℕ) (ps : List Pair) (p : Pair) → fault_after [] (pair_of metric_label name ∷ (ps ++ p ∷ [])) ≡ None → Fresh name ps p
fresh name ps p h =
    let s = split_last [] (pair_of metric_label name ∷ ps) p h in
    let g = pair_good (pair_of metric_label name ∷ ps) p s.1 in
    record { before = s.0; is_name = g.0; new = g.1 }

pub labels_lead : (name : List ℕ) (ps : List Pair) (t : List ℕ) → fault_after [] (pair_of metric_label name ∷ ps) ≡ None → Labels ps t → Leads (BeforeLabel (record { name = name; labels = [] })) (AfterValue (record { name = name; labels = ps })) t
labels_lead name ps t d (one p u l) = let f = fresh name [] p d in label_leads (record { name = name; labels = [] }) p u f.is_name f.new l
labels_lead name ps t d (more qs p front label u ls l e) =
    let f = fresh name qs p d in
    let start = BeforeLabel (record { name = name; labels = [] }) in
    let mid = AfterValue (record { name = name; labels = qs }) in
    let begun = BeforeLabel (record { name = name; labels = qs }) in
    let end = AfterValue (record { name = name; labels = qs ++ p ∷ [] }) in
    subst (Leads start end) (sym e)
    (follows start begun end (front ++ codes ",") label (follows start mid begun front (codes ",") (labels_lead name qs front f.before ls) (steps mid begun (code ",") refl))
    (label_leads (record { name = name; labels = qs }) p label f.is_name f.new l))

-- a place from which a blank leads to the number
pub record ForNumber (head : LineHead) (p : LineCursor) (t : List ℕ) : Type 0 where
  pub place : LineCursor
  pub led : Leads p place t
  pub blank : (c : ℕ) → is_blank c ≡ true → goes place c ≡ Some (BeforeNumber head)
  pub braced : 0 < length t → place ≡ AfterList head

pub list_leads : (name : List ℕ) (ps : List Pair) (t : List ℕ) → fault_after [] (pair_of metric_label name ∷ ps) ≡ None → LabelList ps t → ForNumber (record { name = name; labels = ps }) (InName name) t
list_leads name ps t d no_list = record { place = InName name; led = stays (InName name); blank = λ c e. yes (is_blank c) _ _ e; braced = λ some. absurd (omega (arith, some)) }
list_leads name ps t d (no_labels u h) =
    let begun = BeforeLabel (record { name = name; labels = [] }) in
    let end = AfterList (record { name = name; labels = [] }) in
    record {
      place = end;
      led = leads (InName name) begun end (Is (codes "{") ▸ Blanks) (Is (codes "}")) u h
          (λ x k. leads (InName name) begun begun (Is (codes "{")) Blanks x k (λ y e. leads_is (InName name) begun (codes "{") y (steps (InName name) begun (code "{") refl) e) (λ y b. leads_blanks begun (λ c e. yes (is_blank c) _ _ e) y b))
          (λ x e. leads_is begun end (codes "}") x (steps begun end (code "}") refl) e);
      blank = λ c e. yes (is_blank c) _ _ e;
      braced = λ some. refl;
    }
list_leads name ps t d (labels qs u h) =
    let begun = BeforeLabel (record { name = name; labels = [] }) in
    let after = AfterValue (record { name = name; labels = qs }) in
    let end = AfterList (record { name = name; labels = qs }) in
    record {
      place = end;
      led = leads (InName name) after end (Is (codes "{") ▸ Labels qs) (Is (codes "}")) u h
          (λ x k. leads (InName name) begun after (Is (codes "{")) (Labels qs) x k (λ y e. leads_is (InName name) begun (codes "{") y (steps (InName name) begun (code "{") refl) e) (λ y l. labels_lead name qs y d l))
          (λ x e. leads_is after end (codes "}") x (steps after end (code "}") refl) e);
      blank = λ c e. yes (is_blank c) _ _ e;
      braced = λ some. refl;
    }
list_leads name ps t d (last_comma qs u h) =
    let begun = BeforeLabel (record { name = name; labels = [] }) in
    let after = AfterValue (record { name = name; labels = qs }) in
    let again = BeforeLabel (record { name = name; labels = qs }) in
    let end = AfterList (record { name = name; labels = qs }) in
    record {
      place = end;
      led = leads (InName name) again end (Is (codes "{") ▸ Labels qs ▸ Is (codes ",") ▸ Blanks) (Is (codes "}")) u h
          (λ x k. leads (InName name) again again (Is (codes "{") ▸ Labels qs ▸ Is (codes ",")) Blanks x k
          (λ y j. leads (InName name) after again (Is (codes "{") ▸ Labels qs) (Is (codes ",")) y j
          (λ z i. leads (InName name) begun after (Is (codes "{")) (Labels qs) z i (λ w e. leads_is (InName name) begun (codes "{") w (steps (InName name) begun (code "{") refl) e) (λ w l. labels_lead name qs w d l))
          (λ z e. leads_is after again (codes ",") z (steps after again (code ",") refl) e))
          (λ y b. leads_blanks again (λ c e. yes (is_blank c) _ _ e) y b))
          (λ x e. leads_is again end (codes "}") x (steps again end (code "}") refl) e);
      blank = λ c e. yes (is_blank c) _ _ e;
      braced = λ some. refl;
    }

-- a character of a number
number_on : (head : LineHead) (s : List ℕ) (p q : NumberPlace) (c : ℕ) → c < 128 → is_blank c ≡ false → number_next p c ≡ Some q → Leads (InNumber head p s) (InNumber head q (s ++ c ∷ [])) (c ∷ [])
number_on head s p q c small b e =
    steps (InNumber head p s) (InNumber head q (s ++ c ∷ [])) c
    (no (is_number_end p && is_blank c) _ _ (ap (λ x. is_number_end p && x) b ∙ never (is_number_end p)) ∙ ap (numbered head (grown s c)) e ∙ ap (λ x. Some (InNumber head q (s ++ x))) (encode_ascii c small)) where
      never : (a : Bool) → (a && false) ≡ false
      never true = refl
      never false = refl

number_first : (head : LineHead) (q : NumberPlace) (c : ℕ) → c < 128 → is_blank c ≡ false → number_start c ≡ Some q → Leads (BeforeNumber head) (InNumber head q (c ∷ [])) (c ∷ [])
number_first head q c small b e =
    steps (BeforeNumber head) (InNumber head q (c ∷ [])) c (no (is_blank c) _ _ b ∙ ap (numbered head (encode_utf8 c)) e ∙ ap (λ x. Some (InNumber head q x)) (encode_ascii c small))

-- digits at a place where each leads on to it
digits_on : (head : LineHead) (s : List ℕ) (p : NumberPlace) (ds : List ℕ) → ((c : ℕ) → is_ascii_digit c ≡ true → number_next p c ≡ Some p) → AreDigits ds → Leads (InNumber head p s) (InNumber head p (s ++ ds)) ds
digits_on head s p [] f d = subst (λ x. Leads (InNumber head p s) (InNumber head p x) []) (sym (append-nil s)) (stays (InNumber head p s))
digits_on head s p (c ∷ cs) f d =
    let k = both (is_ascii_digit c) (list_all is_ascii_digit cs) d in
    subst (λ x. Leads (InNumber head p s) (InNumber head p x) (c ∷ cs)) (append_assoc s (c ∷ []) cs)
    (follows (InNumber head p s) (InNumber head p (s ++ c ∷ [])) (InNumber head p ((s ++ c ∷ []) ++ cs)) (c ∷ []) cs
    (number_on head s p p c (digit_small c k.0) (digit_no_blank c k.0) (f c k.0)) (digits_on head (s ++ c ∷ []) p cs f k.1))

-- a place from which the first character of an unsigned number leads on
record Enters (head : LineHead) (p : LineCursor) (s : List ℕ) : Type 0 where
  enter : (c : ℕ) (q : NumberPlace) → c < 128 → is_blank c ≡ false → is_sign c ≡ false → eq_ignore_ascii_case c (code "n") ≡ false → unsigned_start c ≡ Some q → Leads p (InNumber head q (s ++ c ∷ [])) (c ∷ [])

enters_bare : (head : LineHead) → Enters head (BeforeNumber head) []
enters_bare head = record {
  enter = λ c q small b g n e.
      number_first head q c small b (ap (λ t. if t then Some np.Signed else (if eq_ignore_ascii_case c (code "n") then Some np.N else unsigned_start c)) g ∙ ap (λ t. if t then Some np.N else unsigned_start c) n ∙ e);
}

enters_signed : (head : LineHead) (s : List ℕ) → Enters head (InNumber head np.Signed s) s
enters_signed head s = record { enter = λ c q small b g n e. number_on head s np.Signed q c small b e }

-- the end of digits and a point, from which a letter leads to an exponent
record Counts (head : LineHead) (p : LineCursor) (s t : List ℕ) : Type 0 where
  place : NumberPlace
  led : Leads p (InNumber head place (s ++ t)) t
  end : is_number_end place ≡ true
  small_letter : number_next place (code "e") ≡ Some np.Exponent
  capital_letter : number_next place (code "E") ≡ Some np.Exponent

whole_digit : (c : ℕ) → is_ascii_digit c ≡ true → unsigned_start c ≡ Some np.Whole
whole_digit c h = ap (λ t. if t then Some np.Whole else (if c == code "." then Some np.Point else (if eq_ignore_ascii_case c (code "i") then Some np.I else None))) h

whole_on : (c : ℕ) → is_ascii_digit c ≡ true → number_next np.Whole c ≡ Some np.Whole
whole_on c h = ap (λ t. if t then Some np.Whole else (if c == code "." then Some np.Fraction else exponent_start c)) h

point_on : (c : ℕ) → is_ascii_digit c ≡ true → number_next np.Point c ≡ Some np.Fraction
point_on c h = ap (λ t. if t then Some np.Fraction else None) h

fraction_on : (c : ℕ) → is_ascii_digit c ≡ true → number_next np.Fraction c ≡ Some np.Fraction
fraction_on c h = ap (λ t. if t then Some np.Fraction else exponent_start c) h

exponent_on : (c : ℕ) → is_ascii_digit c ≡ true → exponent_digit c ≡ Some np.ExponentDigits
exponent_on c h = ap (λ t. if t then Some np.ExponentDigits else None) h

whole_leads : (head : LineHead) (p : LineCursor) (s : List ℕ) (d : ℕ) (ds : List ℕ) → Enters head p s → AreDigits (d ∷ ds) → Leads p (InNumber head np.Whole (s ++ (d ∷ ds))) (d ∷ ds)
whole_leads head p s d ds e h =
    let k = both (is_ascii_digit d) (list_all is_ascii_digit ds) h in
    subst (λ x. Leads p (InNumber head np.Whole x) (d ∷ ds)) (append_assoc s (d ∷ []) ds)
    (follows p (InNumber head np.Whole (s ++ d ∷ [])) (InNumber head np.Whole ((s ++ d ∷ []) ++ ds)) (d ∷ []) ds
    (e.enter d np.Whole (digit_small d k.0) (digit_no_blank d k.0) (digit_no_sign d k.0) (digit_no_letter d (code "n") k.0 (lit≤ tt) (lit< tt)) (whole_digit d k.0))
    (digits_on head (s ++ d ∷ []) np.Whole ds whole_on k.1))

-- digits where a number begins
pub starts_whole : (head : LineHead) (d : ℕ) (ds : List ℕ) → AreDigits (d ∷ ds) → Leads (BeforeNumber head) (InNumber head np.Whole (d ∷ ds)) (d ∷ ds)
starts_whole head d ds h = whole_leads head (BeforeNumber head) [] d ds (enters_bare head) h

mantissa_leads : (head : LineHead) (p : LineCursor) (s whole : List ℕ) (f : Fraction) → Enters head p s → AreDigits whole → AreDigits (decimals f) → 0 < length whole + length (decimals f) → Counts head p s (whole ++ fraction_part f)
mantissa_leads head p s [] no_point e w d some = absurd (omega arith)
mantissa_leads head p s [] (point []) e w d some = absurd (omega arith)
mantissa_leads head p s [] (point (c ∷ cs)) e w d some =
    let k = both (is_ascii_digit c) (list_all is_ascii_digit cs) d in
    record {
      place = np.Fraction;
      led = subst (λ x. Leads p (InNumber head np.Fraction x) (codes "." ++ (c ∷ cs))) (append_assoc (s ++ codes ".") (c ∷ []) cs ∙ append_assoc s (codes ".") (c ∷ cs))
          (follows p (InNumber head np.Point (s ++ codes ".")) (InNumber head np.Fraction (((s ++ codes ".") ++ c ∷ []) ++ cs)) (codes ".") (c ∷ cs)
          (e.enter (code ".") np.Point (lit< tt) refl refl refl refl)
          (follows (InNumber head np.Point (s ++ codes ".")) (InNumber head np.Fraction ((s ++ codes ".") ++ c ∷ [])) (InNumber head np.Fraction (((s ++ codes ".") ++ c ∷ []) ++ cs)) (c ∷ []) cs
          (number_on head (s ++ codes ".") np.Point np.Fraction c (digit_small c k.0) (digit_no_blank c k.0) (point_on c k.0))
          (digits_on head ((s ++ codes ".") ++ c ∷ []) np.Fraction cs fraction_on k.1)));
      end = refl;
      small_letter = refl;
      capital_letter = refl;
    }
mantissa_leads head p s (c ∷ cs) no_point e w d some = record {
  place = np.Whole;
  led = subst (λ x. Leads p (InNumber head np.Whole (s ++ x)) x) (sym (append-nil (c ∷ cs))) (whole_leads head p s c cs e w);
  end = refl;
  small_letter = refl;
  capital_letter = refl;
}
mantissa_leads head p s (c ∷ cs) (point ds) e w d some = record {
  place = np.Fraction;
  led = subst (λ x. Leads p (InNumber head np.Fraction x) ((c ∷ cs) ++ (codes "." ++ ds))) (append_assoc (s ++ (c ∷ cs)) (codes ".") ds ∙ append_assoc s (c ∷ cs) (codes "." ++ ds))
      (follows p (InNumber head np.Whole (s ++ (c ∷ cs))) (InNumber head np.Fraction (((s ++ (c ∷ cs)) ++ codes ".") ++ ds)) (c ∷ cs) (codes "." ++ ds) (whole_leads head p s c cs e w)
      (follows (InNumber head np.Whole (s ++ (c ∷ cs))) (InNumber head np.Fraction ((s ++ (c ∷ cs)) ++ codes ".")) (InNumber head np.Fraction (((s ++ (c ∷ cs)) ++ codes ".") ++ ds)) (codes ".") ds
      (number_on head (s ++ (c ∷ cs)) np.Whole np.Fraction (code ".") (lit< tt) refl refl)
      (digits_on head ((s ++ (c ∷ cs)) ++ codes ".") np.Fraction ds fraction_on d)));
  end = refl;
  small_letter = refl;
  capital_letter = refl;
}

-- a number text has been read
pub record Ends (head : LineHead) (p : LineCursor) (s t : List ℕ) : Type 0 where
  pub place : NumberPlace
  pub led : Leads p (InNumber head place (s ++ t)) t
  pub end : is_number_end place ≡ true

-- the sign and the digits of an exponent
signed : (head : LineHead) (x : List ℕ) (g d : ℕ) (ds : List ℕ) → AreDigits (d ∷ ds) → g < 128 → is_blank g ≡ false → is_sign g ≡ true →
    Leads (InNumber head np.Exponent x) (InNumber head np.ExponentDigits (x ++ (g ∷ d ∷ ds))) (g ∷ d ∷ ds)
signed head x g d ds h small b is =
    let k = both (is_ascii_digit d) (list_all is_ascii_digit ds) h in
    subst (λ y. Leads (InNumber head np.Exponent x) (InNumber head np.ExponentDigits y) (g ∷ d ∷ ds)) (append_assoc (x ++ g ∷ []) (d ∷ []) ds ∙ append_assoc x (g ∷ []) (d ∷ ds))
    (follows (InNumber head np.Exponent x) (InNumber head np.ExponentSign (x ++ g ∷ [])) (InNumber head np.ExponentDigits (((x ++ g ∷ []) ++ d ∷ []) ++ ds)) (g ∷ []) (d ∷ ds)
    (number_on head x np.Exponent np.ExponentSign g small b (ap (λ t. if t then Some np.ExponentSign else exponent_digit g) is))
    (follows (InNumber head np.ExponentSign (x ++ g ∷ [])) (InNumber head np.ExponentDigits ((x ++ g ∷ []) ++ d ∷ [])) (InNumber head np.ExponentDigits (((x ++ g ∷ []) ++ d ∷ []) ++ ds)) (d ∷ []) ds
    (number_on head (x ++ g ∷ []) np.ExponentSign np.ExponentDigits d (digit_small d k.0) (digit_no_blank d k.0) (exponent_on d k.0))
    (digits_on head ((x ++ g ∷ []) ++ d ∷ []) np.ExponentDigits ds exponent_on k.1)))

sign_leads : (head : LineHead) (x : List ℕ) (sign : Sign) (d : ℕ) (ds : List ℕ) → AreDigits (d ∷ ds) → Leads (InNumber head np.Exponent x) (InNumber head np.ExponentDigits (x ++ (sign_text sign ++ (d ∷ ds)))) (sign_text sign ++ (d ∷ ds))
sign_leads head x no_sign d ds h =
    let k = both (is_ascii_digit d) (list_all is_ascii_digit ds) h in
    subst (λ y. Leads (InNumber head np.Exponent x) (InNumber head np.ExponentDigits y) (d ∷ ds)) (append_assoc x (d ∷ []) ds)
    (follows (InNumber head np.Exponent x) (InNumber head np.ExponentDigits (x ++ d ∷ [])) (InNumber head np.ExponentDigits ((x ++ d ∷ []) ++ ds)) (d ∷ []) ds
    (number_on head x np.Exponent np.ExponentDigits d (digit_small d k.0) (digit_no_blank d k.0)
    (ap (λ t. if t then Some np.ExponentSign else exponent_digit d) (digit_no_sign d k.0) ∙ exponent_on d k.0))
    (digits_on head (x ++ d ∷ []) np.ExponentDigits ds exponent_on k.1))
sign_leads head x plus d ds h = signed head x (code "+") d ds h (lit< tt) refl refl
sign_leads head x minus d ds h = signed head x (code "-") d ds h (lit< tt) refl refl

exponent_leads : (head : LineHead) (p : LineCursor) (s m letter : List ℕ) (k : ℕ) (sign : Sign) (ds : List ℕ) → Counts head p s m → k < 128 → is_blank k ≡ false → letter ≡ k ∷ [] →
    ((q : NumberPlace) → number_next q (code "e") ≡ Some np.Exponent → number_next q (code "E") ≡ Some np.Exponent → number_next q k ≡ Some np.Exponent) →
    0 < length ds → AreDigits ds → Ends head p s (m ++ (letter ++ (sign_text sign ++ ds)))
exponent_leads head p s m letter k sign [] c small b is on some d = absurd (omega arith)
exponent_leads head p s m letter k sign (x ∷ xs) c small b is on some d = record {
  place = np.ExponentDigits;
  led = subst (λ l. Leads p (InNumber head np.ExponentDigits (s ++ (m ++ (l ++ (sign_text sign ++ (x ∷ xs)))))) (m ++ (l ++ (sign_text sign ++ (x ∷ xs))))) (sym is)
      (subst (λ y. Leads p (InNumber head np.ExponentDigits y) (m ++ (k ∷ (sign_text sign ++ (x ∷ xs))))) (append_assoc (s ++ m) (k ∷ []) (sign_text sign ++ (x ∷ xs)) ∙ append_assoc s m (k ∷ (sign_text sign ++ (x ∷ xs))))
      (follows p (InNumber head c.place (s ++ m)) (InNumber head np.ExponentDigits (((s ++ m) ++ k ∷ []) ++ (sign_text sign ++ (x ∷ xs)))) m (k ∷ (sign_text sign ++ (x ∷ xs))) c.led
      (follows (InNumber head c.place (s ++ m)) (InNumber head np.Exponent ((s ++ m) ++ k ∷ [])) (InNumber head np.ExponentDigits (((s ++ m) ++ k ∷ []) ++ (sign_text sign ++ (x ∷ xs)))) (k ∷ []) (sign_text sign ++ (x ∷ xs))
      (number_on head (s ++ m) c.place np.Exponent k small b (on c.place c.small_letter c.capital_letter))
      (sign_leads head ((s ++ m) ++ k ∷ []) sign x xs d))));
  end = refl;
}

form_leads : (head : LineHead) (p : LineCursor) (s whole : List ℕ) (f : Fraction) (x : Exponent) → Enters head p s → AreDigits whole → AreDigits (decimals f) → 0 < length whole + length (decimals f) → IsExponent x →
    Ends head p s (whole ++ (fraction_part f ++ exponent_part x))
form_leads head p s whole f x e w d some i = subst (Ends head p s) (append_assoc whole (fraction_part f) (exponent_part x)) (by x i) where
  c : Counts head p s (whole ++ fraction_part f)
  c = mantissa_leads head p s whole f e w d some

  by : (x : Exponent) → IsExponent x → Ends head p s ((whole ++ fraction_part f) ++ exponent_part x)
  by no_exponent i = subst (Ends head p s) (sym (append-nil (whole ++ fraction_part f))) (record { place = c.place; led = c.led; end = c.end })
  by (small_e sign ds) i = exponent_leads head p s (whole ++ fraction_part f) (codes "e") (code "e") sign ds c (lit< tt) refl refl (λ q a b. a) i.0 i.1
  by (capital_e sign ds) i = exponent_leads head p s (whole ++ fraction_part f) (codes "E") (code "E") sign ds c (lit< tt) refl refl (λ q a b. b) i.0 i.1

-- words in any case
lower_one : (c k : ℕ) → (to_ascii_lowercase c == k) ≡ true → k < 128 → to_ascii_lowercase k ≡ k → eq_ignore_ascii_case c k ≡ true
lower_one c k h s e = ap (λ x. to_ascii_lowercase c == x) e ∙ h

letter_no_blanks : (c k : ℕ) → eq_ignore_ascii_case c k ≡ true → 97 ≤ k → k < 123 → is_blank c ≡ false
letter_no_blanks c k h l s = grind (arith, nat_tests)

letter_no_sign : (c k : ℕ) → eq_ignore_ascii_case c k ≡ true → 97 ≤ k → k < 123 → is_sign c ≡ false
letter_no_sign c k h l s = grind (arith, nat_tests)

letter_small_code : (c k : ℕ) → eq_ignore_ascii_case c k ≡ true → k < 123 → c < 128
letter_small_code c k h s = grind (arith, nat_tests)

word_on : (head : LineHead) (s : List ℕ) (p q : NumberPlace) (c k : ℕ) → eq_ignore_ascii_case c k ≡ true → 97 ≤ k → k < 123 → number_next p c ≡ (if eq_ignore_ascii_case c k then Some q else None) → Leads (InNumber head p s) (InNumber head q (s ++ c ∷ [])) (c ∷ [])
word_on head s p q c k h l m e = number_on head s p q c (letter_small_code c k h m) (letter_no_blanks c k h l m) (e ∙ ap (λ t. if t then Some q else None) h)

-- the rest of a word, letter by letter
data Spells : NumberPlace → List ℕ → NumberPlace → Type 0 where
  spelt : (p : NumberPlace) → Spells p [] p
  letter : (p q r : NumberPlace) (k : ℕ) (ks : List ℕ) → 97 ≤ k → k < 123 → ((c : ℕ) → number_next p c ≡ (if eq_ignore_ascii_case c k then Some q else None)) → Spells q ks r → Spells p (k ∷ ks) r

lower_self : (k : ℕ) → 97 ≤ k → k < 123 → to_ascii_lowercase k ≡ k
lower_self k l m = grind (arith, nat_tests)

same_letter : (c k : ℕ) → (to_ascii_lowercase c == k) ≡ true → 97 ≤ k → k < 123 → eq_ignore_ascii_case c k ≡ true
same_letter c k h l m = ap (λ x. to_ascii_lowercase c == x) (lower_self k l m) ∙ h

word_leads : (head : LineHead) (s : List ℕ) (p r : NumberPlace) (ks cs : List ℕ) → Spells p ks r → bytes_eq (str_to_ascii_lowercase cs) ks ≡ true → Leads (InNumber head p s) (InNumber head r (s ++ cs)) cs
word_leads head s p r ks [] (spelt q) h = subst (λ x. Leads (InNumber head p s) (InNumber head p x) []) (sym (append-nil s)) (stays (InNumber head p s))
word_leads head s p r ks (c ∷ cs) (spelt q) h = cc
word_leads head s p r ks [] (letter a q b k us l m f w) h = cc
word_leads head s p r ks (c ∷ cs) (letter a q b k us l m f w) h =
    let e = both (to_ascii_lowercase c == k) (bytes_eq (str_to_ascii_lowercase cs) us) h in
    subst (λ x. Leads (InNumber head p s) (InNumber head r x) (c ∷ cs)) (append_assoc s (c ∷ []) cs)
    (follows (InNumber head p s) (InNumber head q (s ++ c ∷ [])) (InNumber head r ((s ++ c ∷ []) ++ cs)) (c ∷ []) cs
    (word_on head s p q c k (same_letter c k e.0 l m) l m (f c)) (word_leads head (s ++ c ∷ []) q r us cs w e.1))

spells_inf : Spells np.I (codes "nf") np.Inf
spells_inf = letter np.I np.In np.Inf (code "n") (codes "f") (lit≤ tt) (lit< tt) (λ c. refl) (letter np.In np.Inf np.Inf (code "f") [] (lit≤ tt) (lit< tt) (λ c. refl) (spelt np.Inf))

spells_infinity : Spells np.I (codes "nfinity") np.Infinity
spells_infinity =
    letter np.I np.In np.Infinity (code "n") (codes "finity") (lit≤ tt) (lit< tt) (λ c. refl)
    (letter np.In np.Inf np.Infinity (code "f") (codes "inity") (lit≤ tt) (lit< tt) (λ c. refl)
    (letter np.Inf np.Infi np.Infinity (code "i") (codes "nity") (lit≤ tt) (lit< tt) (λ c. refl)
    (letter np.Infi np.Infin np.Infinity (code "n") (codes "ity") (lit≤ tt) (lit< tt) (λ c. refl)
    (letter np.Infin np.Infini np.Infinity (code "i") (codes "ty") (lit≤ tt) (lit< tt) (λ c. refl)
    (letter np.Infini np.Infinit np.Infinity (code "t") (codes "y") (lit≤ tt) (lit< tt) (λ c. refl)
    (letter np.Infinit np.Infinity np.Infinity (code "y") [] (lit≤ tt) (lit< tt) (λ c. refl) (spelt np.Infinity)))))))

spells_nan : Spells np.N (codes "an") np.Nan
spells_nan = letter np.N np.Na np.Nan (code "a") (codes "n") (lit≤ tt) (lit< tt) (λ c. refl) (letter np.Na np.Nan np.Nan (code "n") [] (lit≤ tt) (lit< tt) (λ c. refl) (spelt np.Nan))

i_no_digit : (c : ℕ) → eq_ignore_ascii_case c (code "i") ≡ true → is_ascii_digit c ≡ false
i_no_digit c h = grind (arith, nat_tests)

i_no_point : (c : ℕ) → eq_ignore_ascii_case c (code "i") ≡ true → (c == code ".") ≡ false
i_no_point c h = grind (arith, nat_tests)

i_no_n : (c : ℕ) → eq_ignore_ascii_case c (code "i") ≡ true → eq_ignore_ascii_case c (code "n") ≡ false
i_no_n c h = grind (arith, nat_tests)

infinity_by : (head : LineHead) (p : LineCursor) (s : List ℕ) (r : NumberPlace) (ks word : List ℕ) → Enters head p s → is_number_end r ≡ true → Spells np.I ks r → bytes_eq (str_to_ascii_lowercase word) (code "i" ∷ ks) ≡ true → Ends head p s word
infinity_by head p s r ks [] e n w h = cc
infinity_by head p s r ks (c ∷ cs) e n w h =
    let k = both (to_ascii_lowercase c == code "i") (bytes_eq (str_to_ascii_lowercase cs) ks) h in
    let i = same_letter c (code "i") k.0 (lit≤ tt) (lit< tt) in
    record {
      place = r;
      led = subst (λ x. Leads p (InNumber head r x) (c ∷ cs)) (append_assoc s (c ∷ []) cs)
          (follows p (InNumber head np.I (s ++ c ∷ [])) (InNumber head r ((s ++ c ∷ []) ++ cs)) (c ∷ []) cs
          (e.enter c np.I (letter_small_code c (code "i") i (lit< tt)) (letter_no_blanks c (code "i") i (lit≤ tt) (lit< tt)) (letter_no_sign c (code "i") i (lit≤ tt) (lit< tt)) (i_no_n c i)
          (ap (λ t. if t then Some np.Whole else (if c == code "." then Some np.Point else (if eq_ignore_ascii_case c (code "i") then Some np.I else None))) (i_no_digit c i)
          ∙ ap (λ t. if t then Some np.Point else (if eq_ignore_ascii_case c (code "i") then Some np.I else None)) (i_no_point c i) ∙ ap (λ t. if t then Some np.I else None) i))
          (word_leads head (s ++ c ∷ []) np.I r ks cs w k.1));
      end = n;
    }

unsigned_leads : (head : LineHead) (p : LineCursor) (s text : List ℕ) → Enters head p s → IsInfinityWord text ⊎ HasUnsignedForm text → Ends head p s text
unsigned_leads head p s text e (inl (inl h)) = infinity_by head p s np.Inf (codes "nf") text e refl spells_inf h
unsigned_leads head p s text e (inl (inr h)) = infinity_by head p s np.Infinity (codes "nfinity") text e refl spells_infinity h
unsigned_leads head p s text e (inr f) = subst (Ends head p s) (sym f.parts) (form_leads head p s f.whole f.fraction f.exponent e f.form.whole_digits f.form.decimal_digits f.form.some f.form.exponent_form)

nan_leads : (head : LineHead) (text : List ℕ) → bytes_eq (str_to_ascii_lowercase text) (codes "nan") ≡ true → Ends head (BeforeNumber head) [] text
nan_leads head [] h = cc
nan_leads head (c ∷ cs) h =
    let k = both (to_ascii_lowercase c == code "n") (bytes_eq (str_to_ascii_lowercase cs) (codes "an")) h in
    let n = same_letter c (code "n") k.0 (lit≤ tt) (lit< tt) in
    record {
      place = np.Nan;
      led = follows (BeforeNumber head) (InNumber head np.N (c ∷ [])) (InNumber head np.Nan (c ∷ cs)) (c ∷ []) cs
          (number_first head np.N c (letter_small_code c (code "n") n (lit< tt)) (letter_no_blanks c (code "n") n (lit≤ tt) (lit< tt))
          (ap (λ t. if t then Some np.Signed else (if eq_ignore_ascii_case c (code "n") then Some np.N else unsigned_start c)) (letter_no_sign c (code "n") n (lit≤ tt) (lit< tt))
          ∙ ap (λ t. if t then Some np.N else unsigned_start c) n))
          (word_leads head (c ∷ []) np.N np.Nan (codes "an") cs spells_nan k.1);
      end = refl;
    }

signed_leads : (head : LineHead) (g : ℕ) (rest : List ℕ) → g < 128 → is_blank g ≡ false → is_sign g ≡ true → IsInfinityWord rest ⊎ HasUnsignedForm rest → Ends head (BeforeNumber head) [] (g ∷ rest)
signed_leads head g rest small b is f =
    let e = unsigned_leads head (InNumber head np.Signed (g ∷ [])) (g ∷ []) rest (enters_signed head (g ∷ [])) f in
    record {
      place = e.place;
      led = follows (BeforeNumber head) (InNumber head np.Signed (g ∷ [])) (InNumber head e.place (g ∷ rest)) (g ∷ []) rest
          (number_first head np.Signed g small b (ap (λ t. if t then Some np.Signed else (if eq_ignore_ascii_case g (code "n") then Some np.N else unsigned_start g)) is)) e.led;
      end = e.end;
    }

pub number_leads : (head : LineHead) (text : List ℕ) → IsNumberText text → Ends head (BeforeNumber head) [] text
number_leads head text (inl h) = nan_leads head text h
number_leads head text (inr f) = subst (Ends head (BeforeNumber head) []) (sym f.parts) (by f.sign) where
  by : (sign : Sign) → Ends head (BeforeNumber head) [] (sign_text sign ++ f.rest)
  by no_sign = unsigned_leads head (BeforeNumber head) [] f.rest (enters_bare head) f.form
  by plus = signed_leads head (code "+") f.rest (lit< tt) refl refl f.form
  by minus = signed_leads head (code "-") f.rest (lit< tt) refl refl f.form

-- the digits of a time
record Timing (m : Measured) (p : LineCursor) (s t : List ℕ) : Type 0 where
  count : ℕ
  led : Leads p (InTime m (s ++ t) count) t

time_digits : (m : Measured) (s : List ℕ) (n : ℕ) (ds : List ℕ) → AreDigits ds → n + length ds ≤ 18 → Timing m (InTime m s n) s ds
time_digits m s n [] d few = record { count = n; led = subst (λ x. Leads (InTime m s n) (InTime m x n) []) (sym (append-nil s)) (stays (InTime m s n)) }
time_digits m s n (c ∷ cs) d few =
    let k = both (is_ascii_digit c) (list_all is_ascii_digit cs) d in
    let more = time_digits m (s ++ c ∷ []) (suc n) cs k.1 (omega (arith, few)) in
    let below : nat_lt n 18 ≡ true = lt-ltb n 18 (omega (arith, few)) in
    record {
      count = more.count;
      led = subst (λ x. Leads (InTime m s n) (InTime m x more.count) (c ∷ cs)) (append_assoc s (c ∷ []) cs)
          (follows (InTime m s n) (InTime m (s ++ c ∷ []) (suc n)) (InTime m ((s ++ c ∷ []) ++ cs) more.count) (c ∷ []) cs
          (steps (InTime m s n) (InTime m (s ++ c ∷ []) (suc n)) c
          (no (is_blank c) _ _ (digit_no_blank c k.0) ∙ yes (is_ascii_digit c && nat_lt n 18) _ _ (λ i. k.0 i && below i) ∙ ap (λ x. Some (InTime m (s ++ x) (suc n))) (encode_ascii c (digit_small c k.0))))
          more.led);
    }

first_time : (m : Measured) (p : LineCursor) (s : List ℕ) (ds : List ℕ) → ((c : ℕ) → is_ascii_digit c ≡ true → goes p c ≡ Some (InTime m (s ++ c ∷ []) 1)) → AreDigits ds → 0 < length ds → length ds ≤ 18 → Timing m p s ds
first_time m p s [] f d some few = absurd (omega (arith, some))
first_time m p s (c ∷ cs) f d some few =
    let k = both (is_ascii_digit c) (list_all is_ascii_digit cs) d in
    let more = time_digits m (s ++ c ∷ []) 1 cs k.1 (omega (arith, few)) in
    record {
      count = more.count;
      led = subst (λ x. Leads p (InTime m x more.count) (c ∷ cs)) (append_assoc s (c ∷ []) cs)
          (follows p (InTime m (s ++ c ∷ []) 1) (InTime m ((s ++ c ∷ []) ++ cs) more.count) (c ∷ []) cs (steps p (InTime m (s ++ c ∷ []) 1) c (f c k.0)) more.led);
    }

time_leads : (m : Measured) (text : List ℕ) → IsTime (Some text) → Timing m (AfterNumber m) [] text
time_leads m text t = subst (Timing m (AfterNumber m) []) (sym t.1.1.parts) (by t.1.1.sign) where
  few : length t.1.1.digits ≤ 18
  few = omega (arith, t.1.0, t.1.1.counted)

  with_sign : (g : ℕ) → is_blank g ≡ false → is_sign g ≡ true → encode_utf8 g ≡ g ∷ [] → Timing m (AfterNumber m) [] (g ∷ t.1.1.digits)
  with_sign g b is e =
      let more = first_time m (AfterSign m (g ∷ [])) (g ∷ []) t.1.1.digits
      (λ c d. yes (is_ascii_digit c) _ _ d ∙ ap (λ x. Some (InTime m ((g ∷ []) ++ x) 1)) (encode_ascii c (digit_small c d))) t.1.1.digits_alone t.1.1.some few in
      record {
        count = more.count;
        led = follows (AfterNumber m) (AfterSign m (g ∷ [])) (InTime m (g ∷ t.1.1.digits) more.count) (g ∷ []) t.1.1.digits
            (steps (AfterNumber m) (AfterSign m (g ∷ [])) g (no (is_blank g) _ _ b ∙ yes (is_sign g) _ _ is ∙ ap (λ x. Some (AfterSign m x)) e)) more.led;
      }

  by : (sign : Sign) → Timing m (AfterNumber m) [] (sign_text sign ++ t.1.1.digits)
  by no_sign =
      first_time m (AfterNumber m) [] t.1.1.digits
      (λ c d. no (is_blank c) _ _ (digit_no_blank c d) ∙ no (is_sign c) _ _ (digit_no_sign c d) ∙ yes (is_ascii_digit c) _ _ d ∙ ap (λ x. Some (InTime m x 1)) (encode_ascii c (digit_small c d)))
      t.1.1.digits_alone t.1.1.some few
  by plus = with_sign (code "+") refl refl (encode_ascii (code "+") (lit< tt))
  by minus = with_sign (code "-") refl refl (encode_ascii (code "-") (lit< tt))

-- the end of a line
record Reads (p : LineCursor) (t : List ℕ) (read : Read) : Type 0 where
  place : LineCursor
  led : Leads p place t
  reads_so : ends place ≡ Some read

blanks_end : (p q : LineCursor) (t : List ℕ) (read : Read) → ends p ≡ Some read → ends q ≡ Some read → ((c : ℕ) → is_blank c ≡ true → goes p c ≡ Some q) → ((c : ℕ) → is_blank c ≡ true → goes q c ≡ Some q) → Blanks t → Reads p t read
blanks_end p q [] read e f g h b = record { place = p; led = stays p; reads_so = e }
blanks_end p q (c ∷ cs) read e f g h b = record { place = q; led = leads_some p q g h (c ∷ cs) (record { some = omega arith; blanks = b }); reads_so = f }

pub number_blank : (head : LineHead) (p : NumberPlace) (s : List ℕ) → is_number_end p ≡ true → (c : ℕ) → is_blank c ≡ true → goes (InNumber head p s) c ≡ Some (AfterNumber (record { head = head; number = s }))
number_blank head p s e c h = yes (is_number_end p && is_blank c) _ _ (λ i. e i && h i)

end_reads : (m : Measured) (p : NumberPlace) (time : Option (List ℕ)) (t : List ℕ) → is_number_end p ≡ true → IsTime time → End time t → Reads (InNumber m.head p m.number) t (Sample m time)
end_reads m p None t e is b =
    blanks_end (InNumber m.head p m.number) (AfterNumber m) t (Sample m None) (ap (λ x. if x then Some (Sample m None) else None) e) refl (number_blank m.head p m.number e) (λ c h. yes (is_blank c) _ _ h) b
end_reads m p (Some time) t e is h =
    let timing = time_leads m time is in
    let tail = blanks_end (InTime m time timing.count) (AfterTime m time) h.rest (Sample m (Some time)) refl refl (λ c k. yes (is_blank c) _ _ k) (λ c k. yes (is_blank c) _ _ k) h.second in
    record {
      place = tail.place;
      led = subst (Leads (InNumber m.head p m.number) tail.place) (sym h.parts)
          (follows (InNumber m.head p m.number) (InTime m time timing.count) tail.place h.front h.rest
          (leads (InNumber m.head p m.number) (AfterNumber m) (InTime m time timing.count) SomeBlanks (Is time) h.front h.first
          (λ u s. leads_some (InNumber m.head p m.number) (AfterNumber m) (number_blank m.head p m.number e) (λ c k. yes (is_blank c) _ _ k) u s)
          (λ u i. leads_is (AfterNumber m) (InTime m time timing.count) time u timing.led i))
          tail.led);
      reads_so = tail.reads_so;
    }

-- the way through the line of a sample
pub line_leads : (text : List ℕ) (m : Measured) (time : Option (List ℕ)) → IsSampleLine text m time → (q : LineCursor) × (way Start text ≡ comes q) × (ends q ≡ Some (Sample m time))
line_leads text m time line =
    let h = line.parts in
    let numbered = h.first in
    let gapped = numbered.first in
    let listed = gapped.first in
    let number = number_leads m.head m.number line.number in
    let list = list_leads m.head.name m.head.labels listed.rest line.names listed.second in
    let end = end_reads m number.place time h.rest number.end line.is_time h.second in
    let named : Leads Start (InName m.head.name) listed.front =
    leads Start Start (InName m.head.name) Blanks (Is m.head.name) listed.front listed.first (leads_blanks Start (λ c e. yes (is_blank c) _ _ e)) (λ u e. leads_is Start (InName m.head.name) m.head.name u (starts_name m.head.name line.name) e) in
    let with_list : Leads Start list.place gapped.front = subst (Leads Start list.place) (sym listed.parts) (follows Start (InName m.head.name) list.place listed.front listed.rest named list.led) in
    let with_gap : Leads Start (BeforeNumber m.head) numbered.front =
    subst (Leads Start (BeforeNumber m.head)) (sym gapped.parts)
    (follows Start list.place (BeforeNumber m.head) gapped.front gapped.rest with_list (leads_some list.place (BeforeNumber m.head) list.blank (λ c e. yes (is_blank c) _ _ e) gapped.rest gapped.second)) in
    let with_number : Leads Start (InNumber m.head number.place m.number) h.front =
    subst (Leads Start (InNumber m.head number.place m.number)) (sym numbered.parts)
    (follows Start (BeforeNumber m.head) (InNumber m.head number.place m.number) numbered.front numbered.rest with_gap (leads_is (BeforeNumber m.head) (InNumber m.head number.place m.number) m.number numbered.rest number.led numbered.second)) in
    let whole : Leads Start end.place text = subst (Leads Start end.place) (sym h.parts) (follows Start (InNumber m.head number.place m.number) end.place h.front h.rest with_number end.led) in
    (end.place, ap (way Start) (sym (append-nil text)) ∙ whole [], end.reads_so)

-- The line of a sample is read as that sample.
pub line_is_sample : (line : List ℕ) (m : Measured) (time : Option (List ℕ)) → IsUtf8 line → IsSampleLine (chars line) m time → line_read line ≡ Ok (Sample m time)
unfolding line_read
line_is_sample line m time u is =
    let q = line_leads (chars line) m time is in
    ap (λ b. outcome_of b (way Start (chars (text_front line)))) (sym (is_whole line u))
    ∙ ap (λ t. outcome_of true (way Start (chars t))) (sym (whole_front line line (refl, u))) ∙ ap (outcome_of true) q.1 ∙ ap (at_end q.0) q.2
