-- Each place of a line can be gone on from to the end of a line.
use Rattle.std.proofs.Common.{◌≡◌, refl, sym, ap, ◌∙◌, subst, ℕ, zero, suc, ◌+◌, ◌<◌, List, [], ◌∷◌, ◌++◌, length, length-append, drop, Bool, true, false, ◌&&◌, ◌||◌, nat_lt, ltb-true, Some, None, append_assoc, append-nil, arith, codes, ◌⊎◌, inl, inr}
use Prim.Native.Char.{code}
use Rattle.std.specs.Prelude.{if◌then◌else◌, not}
use Rattle.std.specs.List.{list_all}
use Rattle.std.specs.Char.{encode_utf8 as encoded}
use Rattle.std.specs.Str.{bytes_eq}
use Rattle.std.proofs.lemmas.Bool.Decides.{Decides-eqb}
use Rattle.std.proofs.lemmas.Slice.Eq.{bytes_eq-Decides, starts_is}
use Rattle.std.proofs.lemmas.Str.{encode_ascii}
use Rattle.pr_labels.specs.declared.pair.Pair.{Pair}
use Rattle.pr_labels.specs.LabelSet.{metric_label}
use Rattle.pr_labels.specs.pr_words.Fields.{is_field_byte}
use Rattle.pr_labels.specs.pr_words.Bytes.{is_blank, is_label_byte}
use Rattle.pr_expo.specs.declared.expo_line.number.NumberPlace.{NumberPlace}
use Rattle.pr_expo.specs.declared.expo_line.number.NumberPlace.TheVariants as np
use Rattle.pr_expo.specs.declared.expo_line.place.LineHead.{LineHead}
use Rattle.pr_expo.specs.declared.expo_line.place.LineCursor.{LineCursor}
use Rattle.pr_expo.specs.declared.expo_line.place.LineCursor.TheVariants.{Start, Hash, Gap, Keyword, Passed, BeforeFamily, InFamily, InHelp, BeforeType, InType, AfterType, InName, BeforeLabel, InLabel, BeforeEqual, BeforeQuote, InValue, InEscape, AfterValue, AfterList, BeforeNumber, InNumber, AfterNumber, AfterSign, InTime, AfterTime}
use Rattle.pr_expo.specs.declared.expo_line.place.FamilyKind.{FamilyKind}
use Rattle.pr_expo.specs.declared.expo_line.place.FamilyKind.TheVariants.{Counter, Gauge, Histogram, Summary, Untyped}
use Rattle.pr_expo.specs.declared.expo_line.place.Read.{Read}
use Rattle.pr_expo.specs.declared.expo_line.place.Read.TheVariants.{Nothing, Typed, Sample}
use Rattle.pr_expo.specs.declared.expo_line.place.FamilyWord.{FamilyWord}
use Rattle.pr_expo.specs.declared.expo_line.place.FamilyWord.TheVariants as word
use Rattle.pr_expo.specs.Line.{after_keyword, comes, fault_at, goes, grown, has_label_named, is_front_of, is_type_front, keyword_end, measured, stands_before, type_end, type_of, way, way_on, with_label}
use Rattle.pr_expo.specs.private.Grammar.{way_read}
use Rattle.pr_expo.proofs.Leading.{both, leads_label, no, yes}

-- the place can be gone on from to the end of a line
pub record Completes (p : LineCursor) : Type 0 where
  pub rest : List ℕ
  pub read : Read
  pub led : way_read (way p rest) ≡ Some read

by : (p : LineCursor) (rest : List ℕ) (read : Read) → way_read (way p rest) ≡ Some read → Completes p
by p rest read h = record { rest = rest; read = read; led = h }

-- what is known of the text of a type
abbrev pub IfType : LineCursor → Type 0
IfType (InType name text) = is_type_front text ≡ true
IfType _ = Unit {0}

family_completes : (w : FamilyWord) → Completes (BeforeFamily w)
unfolding encoded
family_completes word.Help = by (BeforeFamily word.Help) (codes "a") _ refl
family_completes word.Type = by (BeforeFamily word.Type) (codes "a counter") _ refl

number_completes : (head : LineHead) (place : NumberPlace) (text : List ℕ) → Completes (InNumber head place text)
number_completes head np.Signed text = by (InNumber head np.Signed text) (codes "0") _ refl
number_completes head np.Whole text = by (InNumber head np.Whole text) [] _ refl
number_completes head np.Point text = by (InNumber head np.Point text) (codes "0") _ refl
number_completes head np.Fraction text = by (InNumber head np.Fraction text) [] _ refl
number_completes head np.Exponent text = by (InNumber head np.Exponent text) (codes "0") _ refl
number_completes head np.ExponentSign text = by (InNumber head np.ExponentSign text) (codes "0") _ refl
number_completes head np.ExponentDigits text = by (InNumber head np.ExponentDigits text) [] _ refl
number_completes head np.I text = by (InNumber head np.I text) (codes "nf") _ refl
number_completes head np.In text = by (InNumber head np.In text) (codes "f") _ refl
number_completes head np.Inf text = by (InNumber head np.Inf text) [] _ refl
number_completes head np.Infi text = by (InNumber head np.Infi text) (codes "nity") _ refl
number_completes head np.Infin text = by (InNumber head np.Infin text) (codes "ity") _ refl
number_completes head np.Infini text = by (InNumber head np.Infini text) (codes "ty") _ refl
number_completes head np.Infinit text = by (InNumber head np.Infinit text) (codes "y") _ refl
number_completes head np.Infinity text = by (InNumber head np.Infinity text) [] _ refl
number_completes head np.N text = by (InNumber head np.N text) (codes "an") _ refl
number_completes head np.Na text = by (InNumber head np.Na text) (codes "n") _ refl
number_completes head np.Nan text = by (InNumber head np.Nan text) [] _ refl

-- the first word of a comment
keyword_completes : (text : List ℕ) (a b : Bool) → bytes_eq text (codes "HELP") ≡ a → bytes_eq text (codes "TYPE") ≡ b → Completes (Keyword text)
keyword_completes text a b e f = ways a b (λ i. if e i then BeforeFamily word.Help else (if f i then BeforeFamily word.Type else Passed)) where
  family : (w : FamilyWord) → after_keyword text ≡ BeforeFamily w → Completes (Keyword text)
  family w h = let f = family_completes w in by (Keyword text) (codes " " ++ f.rest) f.read (ap (λ p. way_read (way p f.rest)) h ∙ f.led)

  ways : (a b : Bool) → after_keyword text ≡ (if a then BeforeFamily word.Help else (if b then BeforeFamily word.Type else Passed)) → Completes (Keyword text)
  ways true b h = family word.Help h
  ways false true h = family word.Type h
  ways false false h = by (Keyword text) [] Nothing (ap keyword_end h)

-- a type that goes on to its end
front_is : (word text : List ℕ) → is_front_of word text ≡ true → word ≡ text ++ drop (length text) word
front_is word text h = (starts_is Decides-eqb word text (is_front_of word text) refl).0 h

is_front : (word text rest : List ℕ) → word ≡ text ++ rest → is_front_of word text ≡ true
is_front word text rest e = (starts_is Decides-eqb word text (is_front_of word text) refl).1 rest e

abbrev is_plain : ℕ → Bool
is_plain c = nat_lt c 128 && is_field_byte c

record IsTypeWord (word : List ℕ) : Type 0 where
  plain : list_all is_plain word ≡ true
  fronts : (text : List ℕ) → is_front_of word text ≡ true → is_type_front text ≡ true
  kind : FamilyKind
  is : type_of word ≡ Some kind

or_left : (a b : Bool) → a ≡ true → (a || b) ≡ true
or_left a b e = ap (λ x. x || b) e

or_right : (a b : Bool) → b ≡ true → (a || b) ≡ true
or_right true b e = refl
or_right false b e = e

or_cases : (a b : Bool) → (a || b) ≡ true → (a ≡ true) ⊎ (b ≡ true)
or_cases true b e = inl refl
or_cases false b e = inr e

abbrev fourth : List ℕ → Bool
fourth text = is_front_of (codes "summary") text || is_front_of (codes "untyped") text

abbrev third : List ℕ → Bool
third text = is_front_of (codes "histogram") text || fourth text

abbrev second : List ℕ → Bool
second text = is_front_of (codes "gauge") text || third text

counter_word : IsTypeWord (codes "counter")
counter_word = record { plain = refl; fronts = λ t h. or_left (is_front_of (codes "counter") t) (second t) h; kind = Counter; is = refl }

gauge_word : IsTypeWord (codes "gauge")
gauge_word = record { plain = refl; fronts = λ t h. or_right (is_front_of (codes "counter") t) (second t) (or_left (is_front_of (codes "gauge") t) (third t) h); kind = Gauge; is = refl }

histogram_word : IsTypeWord (codes "histogram")
histogram_word = record {
  plain = refl;
  fronts = λ t h. or_right (is_front_of (codes "counter") t) (second t) (or_right (is_front_of (codes "gauge") t) (third t) (or_left (is_front_of (codes "histogram") t) (fourth t) h));
  kind = Histogram;
  is = refl;
}

summary_word : IsTypeWord (codes "summary")
summary_word = record {
  plain = refl;
  fronts = λ t h. or_right (is_front_of (codes "counter") t) (second t) (or_right (is_front_of (codes "gauge") t) (third t) (or_right (is_front_of (codes "histogram") t) (fourth t)
      (or_left (is_front_of (codes "summary") t) (is_front_of (codes "untyped") t) h)));
  kind = Summary;
  is = refl;
}

untyped_word : IsTypeWord (codes "untyped")
untyped_word = record {
  plain = refl;
  fronts = λ t h. or_right (is_front_of (codes "counter") t) (second t) (or_right (is_front_of (codes "gauge") t) (third t) (or_right (is_front_of (codes "histogram") t) (fourth t)
      (or_right (is_front_of (codes "summary") t) (is_front_of (codes "untyped") t) h)));
  kind = Untyped;
  is = refl;
}

plain_in : (t cs : List ℕ) (c : ℕ) → list_all is_plain (t ++ c ∷ cs) ≡ true → (nat_lt c 128 ≡ true) × (is_field_byte c ≡ true)
plain_in [] cs c h = let k = both (is_plain c) (list_all is_plain cs) h in both (nat_lt c 128) (is_field_byte c) k.0
plain_in (b ∷ bs) cs c h = plain_in bs cs c (both (is_plain b) (list_all is_plain (bs ++ c ∷ cs)) h).1

field_not_blank : (c : ℕ) → is_field_byte c ≡ true → is_blank c ≡ false
field_not_blank c h = flips (is_blank c) h where
  flips : (b : Bool) → not b ≡ true → b ≡ false
  flips true k = cc
  flips false k = refl

word_leads : (word : List ℕ) → IsTypeWord word → (name text more : List ℕ) → word ≡ text ++ more → way (InType name text) more ≡ comes (InType name word)
word_leads word w name text [] e = ap (λ x. comes (InType name x)) (sym (append-nil text) ∙ sym e)
word_leads word w name text (c ∷ cs) e =
    let p = plain_in text cs c (subst (λ x. list_all is_plain x ≡ true) e w.plain) in
    let split : word ≡ (text ++ c ∷ []) ++ cs = e ∙ sym (append_assoc text (c ∷ []) cs) in
    let grew : grown text c ≡ text ++ c ∷ [] = ap (λ x. text ++ x) (encode_ascii c (ltb-true c 128 p.0)) in
    let front : is_type_front (grown text c) ≡ true = ap is_type_front grew ∙ w.fronts (text ++ c ∷ []) (is_front word (text ++ c ∷ []) cs split) in
    let on : goes (InType name text) c ≡ Some (InType name (text ++ c ∷ [])) =
    no (is_blank c) _ _ (field_not_blank c p.1) ∙ yes (is_type_front (grown text c)) _ _ front ∙ ap (λ x. Some (InType name x)) grew in
    ap (λ o. way_on o (fault_at (InType name text)) (λ next. way next cs)) on ∙ word_leads word w name (text ++ c ∷ []) cs split

word_completes : (word : List ℕ) → IsTypeWord word → (name text : List ℕ) → is_front_of word text ≡ true → Completes (InType name text)
word_completes word w name text h =
    by (InType name text) (drop (length text) word) (Typed name w.kind) (ap way_read (word_leads word w name text (drop (length text) word) (front_is word text h)) ∙ ap (type_end name) w.is)

type_completes : (name text : List ℕ) → is_type_front text ≡ true → Completes (InType name text)
type_completes name text h = of_counter (or_cases (is_front_of (codes "counter") text) (second text) h) where
  of_summary : (is_front_of (codes "summary") text ≡ true) ⊎ (is_front_of (codes "untyped") text ≡ true) → Completes (InType name text)
  of_summary (inl k) = word_completes (codes "summary") summary_word name text k
  of_summary (inr k) = word_completes (codes "untyped") untyped_word name text k

  of_histogram : (is_front_of (codes "histogram") text ≡ true) ⊎ (fourth text ≡ true) → Completes (InType name text)
  of_histogram (inl k) = word_completes (codes "histogram") histogram_word name text k
  of_histogram (inr k) = of_summary (or_cases (is_front_of (codes "summary") text) (is_front_of (codes "untyped") text) k)

  of_gauge : (is_front_of (codes "gauge") text ≡ true) ⊎ (third text ≡ true) → Completes (InType name text)
  of_gauge (inl k) = word_completes (codes "gauge") gauge_word name text k
  of_gauge (inr k) = of_histogram (or_cases (is_front_of (codes "histogram") text) (fourth text) k)

  of_counter : (is_front_of (codes "counter") text ≡ true) ⊎ (second text ≡ true) → Completes (InType name text)
  of_counter (inl k) = word_completes (codes "counter") counter_word name text k
  of_counter (inr k) = of_gauge (or_cases (is_front_of (codes "gauge") text) (third text) k)

-- a name of a label that is longer than all names before it is none of them
abbrev letters : ℕ → List ℕ
letters zero = []
letters (suc k) = code "a" ∷ letters k

letters_length : (k : ℕ) → length (letters k) ≡ k
letters_length zero = refl
letters_length (suc k) = omega (arith, letters_length k)

letters_go_on : (k : ℕ) → list_all is_label_byte (letters k) ≡ true
letters_go_on zero = refl
letters_go_on (suc k) = letters_go_on k

abbrev total : List Pair → ℕ
total [] = 0
total (p ∷ ps) = length p.name + total ps

not_true : (b : Bool) → (b ≡ true → ⊥) → b ≡ false
not_true true h = absurd (h refl)
not_true false h = refl

not_same : (a b : List ℕ) → length a < length b → bytes_eq a b ≡ false
not_same a b h = not_true (bytes_eq a b) (λ t. omega (arith, h, ap length ((bytes_eq-Decides a b).0 t)))

neither : (a b : Bool) → a ≡ false → b ≡ false → (a || b) ≡ false
neither a b e f = λ i. e i || f i

longer : (name : List ℕ) (labels : List Pair) → total labels < length name → has_label_named name labels ≡ false
longer name [] h = refl
longer name (p ∷ ps) h = neither (bytes_eq p.name name) (has_label_named name ps) (not_same p.name name (omega (arith, h))) (longer name ps (omega (arith, h)))

valued : (head : LineHead) (name : List ℕ) → way_read (way (BeforeQuote head name) (codes "\"\"} 1")) ≡ Some (Sample (measured (with_label head name []) (codes "1")) None)
unfolding encoded
valued head name = refl

label_completes : (head : LineHead) (name : List ℕ) → Completes (InLabel head name)
label_completes head name =
    let k = 9 + total head.labels in
    let long = name ++ letters k in
    let size : length long ≡ length name + k = length-append name (letters k) ∙ ap (λ n. length name + n) (letters_length k) in
    let new : stands_before head long ≡ false =
    neither (bytes_eq metric_label long) (has_label_named long head.labels) (not_same metric_label long (omega (arith, size))) (longer long head.labels (omega (arith, size))) in
    by (InLabel head name) (letters k ++ codes "=\"\"} 1") _ (ap way_read (leads_label head name (letters k) (letters_go_on k) (codes "=\"\"} 1"))
    ∙ ap (λ b. way_read (way_on (if b then None else Some (BeforeQuote head long)) (fault_at (InLabel head long)) (λ next. way next (codes "\"\"} 1")))) new ∙ valued head long)

pub completes : (p : LineCursor) → IfType p → Completes p
unfolding encoded
completes Start t = by Start [] _ refl
completes Hash t = by Hash [] _ refl
completes Gap t = by Gap [] _ refl
completes (Keyword text) t = keyword_completes text (bytes_eq text (codes "HELP")) (bytes_eq text (codes "TYPE")) refl refl
completes Passed t = by Passed [] _ refl
completes (BeforeFamily w) t = family_completes w
completes (InFamily word.Help name) t = by (InFamily word.Help name) [] _ refl
completes (InFamily word.Type name) t = by (InFamily word.Type name) (codes " counter") _ refl
completes (InHelp name) t = by (InHelp name) [] _ refl
completes (BeforeType name) t = by (BeforeType name) (codes "counter") _ refl
completes (InType name text) t = type_completes name text t
completes (AfterType name kind) t = by (AfterType name kind) [] _ refl
completes (InName name) t = by (InName name) (codes " 1") _ refl
completes (BeforeLabel head) t = by (BeforeLabel head) (codes "} 1") _ refl
completes (InLabel head name) t = label_completes head name
completes (BeforeEqual head name) t = by (BeforeEqual head name) (codes "=\"\"} 1") _ refl
completes (BeforeQuote head name) t = by (BeforeQuote head name) (codes "\"\"} 1") _ refl
completes (InValue head name value) t = by (InValue head name value) (codes "\"} 1") _ refl
completes (InEscape head name value) t = by (InEscape head name value) (codes "n\"} 1") _ refl
completes (AfterValue head) t = by (AfterValue head) (codes "} 1") _ refl
completes (AfterList head) t = by (AfterList head) (codes " 1") _ refl
completes (BeforeNumber head) t = by (BeforeNumber head) (codes "1") _ refl
completes (InNumber head place text) t = number_completes head place text
completes (AfterNumber m) t = by (AfterNumber m) [] _ refl
completes (AfterSign m text) t = by (AfterSign m text) (codes "1") _ refl
completes (InTime m text count) t = by (InTime m text count) [] _ refl
completes (AfterTime m text) t = by (AfterTime m text) [] _ refl
