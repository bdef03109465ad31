-- What a line of a sample is so far, at each place of it: so what is read as a sample is the line
-- of one.
use Rattle.std.proofs.Common.{◌≡◌, refl, sym, ap, ◌∙◌, subst, ℕ, ◌<◌, List, [], ◌∷◌, ◌++◌, length-append, Bool, true, false, ◌&&◌, ◌||◌, Option, Some, None, Ok, append_assoc, append-nil, arith, lit<, encode_utf8, codes, nat_lt, eqb-true}
use Prim.Native.Char.{code}
use Rattle.std.specs.Prelude.{◌==◌, if◌then◌else◌}
use Rattle.std.specs.Char.{eq_ignore_ascii_case, is_ascii_digit}
use Rattle.std.specs.List.{list_all}
use Rattle.std.specs.Str.{IsUtf8, bytes_eq, chars, is_utf8}
use Rattle.std.proofs.lemmas.Bool.Decides.{nat_tests}
use Rattle.std.proofs.lemmas.List.Folds.{list_all-append}
use Rattle.std.proofs.lemmas.Str.{IsUtf8-from_is_utf8, encode_ascii}
use Rattle.pr_labels.specs.pr_words.Bytes.{is_blank, is_label_byte, is_letter}
use Rattle.pr_labels.specs.declared.pair.Pair.{Pair}
use Rattle.pr_labels.specs.LabelSet.{pair_of}
use Rattle.pr_labels.specs.Names.{is_metric_byte, is_metric_letter, is_metric_name}
use Rattle.pr_expo.specs.Characters.{is_sign}
use Rattle.pr_expo.specs.declared.expo_line.number.NumberPlace.{NumberPlace}
use Rattle.pr_expo.specs.declared.expo_line.number.NumberPlace.TheVariants as np
use Rattle.pr_expo.specs.declared.expo_line.place.ExpoKind.{ExpoKind}
use Rattle.pr_expo.specs.declared.expo_line.place.FamilyKind.{FamilyKind}
use Rattle.pr_expo.specs.declared.expo_line.place.LineHead.{LineHead}
use Rattle.pr_expo.specs.declared.expo_line.place.Measured.{Measured}
use Rattle.pr_expo.specs.declared.expo_line.place.LineCursor.{LineCursor}
use Rattle.pr_expo.specs.declared.expo_line.place.LineCursor.TheVariants.{Start, Hash, Gap, Keyword, Passed, BeforeFamily, InFamily, InHelp, BeforeType, InType, AfterType, InName, BeforeLabel, InLabel, BeforeEqual, BeforeQuote, InValue, InEscape, AfterValue, AfterList, BeforeNumber, InNumber, AfterNumber, AfterSign, InTime, AfterTime}
use Rattle.pr_expo.specs.declared.expo_line.place.Read.{Read}
use Rattle.pr_expo.specs.declared.expo_line.place.Read.TheVariants.{Nothing, Help, Typed, Sample}
use Rattle.pr_expo.specs.declared.expo_line.place.FamilyWord.{FamilyWord}
use Rattle.pr_expo.specs.declared.expo_line.place.FamilyWord.TheVariants as word
use Rattle.pr_expo.specs.Line.{Way, after_family, after_keyword, at_end, before_equal, comes, ends, fault_at, family_end, escape, goes, grown, is_type_front, keyword_end, line_read, numbered, outcome_of, stands_before, stops, text_front, type_end, type_of, typed, way, way_on, with_label}
use Rattle.pr_expo.specs.Number.{exponent_digit, exponent_start, is_number_end, number_next, number_start, unsigned_start}
use Rattle.pr_expo.specs.private.PlainLine.{◌▸◌, Blanks, Is, IsSampleLine, Label, LabelList, Labels, SampleText, SomeBlanks, Then, IsValueText, character, empty_value, escaped, labels, last_comma, more, no_labels, no_list, one}
use Rattle.pr_expo.specs.private.Faults.{Braces, OpenList, continued, opened}
use Rattle.pr_expo.proofs.Fronts.{whole_front}
use Rattle.pr_expo.proofs.Sound.{digit_small, label_small, letter_small, read_is_sound}

-- one character more
pub grow : (P X Y : List ℕ → Type 0) (t : List ℕ) (c : ℕ) → Then P X t → ((r : List ℕ) → X r → Y (r ++ c ∷ [])) → Then P Y (t ++ c ∷ [])
grow P X Y t c h f = record {
  front = h.front;
  rest = h.rest ++ c ∷ [];
  parts = ap (λ x. x ++ c ∷ []) h.parts ∙ append_assoc h.front h.rest (c ∷ []);
  first = h.first;
  second = f h.rest h.second;
}

pub add : (P X : List ℕ → Type 0) (t : List ℕ) (c : ℕ) → P t → X (c ∷ []) → Then P X (t ++ c ∷ [])
add P X t c p x = record { front = t; rest = c ∷ []; parts = refl; first = p; second = x }

pub none : (P X : List ℕ → Type 0) (t : List ℕ) → P t → X [] → Then P X t
none P X t p x = record { front = t; rest = []; parts = sym (append-nil t); first = p; second = x }

pub blank_more : (t : List ℕ) (c : ℕ) → Blanks t → is_blank c ≡ true → Blanks (t ++ c ∷ [])
blank_more t c b h = list_all-append is_blank t (c ∷ []) ∙ ap (λ x. x && (is_blank c && true)) b ∙ ap (λ x. true && (x && true)) h

blank_one : (c : ℕ) → is_blank c ≡ true → Blanks (c ∷ [])
blank_one c h = ap (λ x. x && true) h

pub some_one : (c : ℕ) → is_blank c ≡ true → SomeBlanks (c ∷ [])
some_one c h = record { some = lit< tt; blanks = blank_one c h }

pub some_more : (t : List ℕ) (c : ℕ) → SomeBlanks t → is_blank c ≡ true → SomeBlanks (t ++ c ∷ [])
some_more t c s h = record { some = omega (arith, length-append t (c ∷ [])); blanks = blank_more t c s.blanks h }

pub same_code : (c k : ℕ) → (c == k) ≡ true → c ∷ [] ≡ k ∷ []
same_code c k h = let is : c ≡ k = grind (arith, nat_tests) in ap (λ x. x ∷ []) is

-- a character that is one byte goes on with a text
pub is_more : (n r : List ℕ) (c : ℕ) → c < 128 → Is n r → Is (grown n c) (r ++ c ∷ [])
is_more n r c s h = λ i. h i ++ sym (encode_ascii c s) i

pub is_one : (c : ℕ) → c < 128 → Is (encode_utf8 c) (c ∷ [])
is_one c s = sym (encode_ascii c s)

pub metric_letter_small : (c : ℕ) → is_metric_letter c ≡ true → c < 128
metric_letter_small c h = grind (arith, nat_tests)

pub metric_small : (c : ℕ) → is_metric_byte c ≡ true → c < 128
metric_small c h = by (is_metric_letter c) refl where
  by : (b : Bool) → is_metric_letter c ≡ b → c < 128
  by true e = metric_letter_small c e
  by false e = digit_small c (sym (ap (λ b. b || is_ascii_digit c) e) ∙ h)

pub name_first : (c : ℕ) → is_metric_letter c ≡ true → is_metric_name (encode_utf8 c) ≡ true
name_first c h = ap is_metric_name (encode_ascii c (metric_letter_small c h)) ∙ ap (λ b. b && true) h

true_last : (a : Bool) → (a && true) ≡ a
true_last true = refl
true_last false = refl

pub name_more : (n : List ℕ) (c : ℕ) → is_metric_name n ≡ true → is_metric_byte c ≡ true → is_metric_name (grown n c) ≡ true
name_more [] c n h = cc
name_more (b ∷ bs) c n h =
    ap (λ x. is_metric_name ((b ∷ bs) ++ x)) (encode_ascii c (metric_small c h))
    ∙ ap (λ x. is_metric_letter b && x) (list_all-append is_metric_byte bs (c ∷ []) ∙ ap (λ x. list_all is_metric_byte bs && (x && true)) h ∙ true_last (list_all is_metric_byte bs)) ∙ n

-- a label so far
abbrev pub Gapped : List ℕ → List ℕ → Type 0
Gapped n = Blanks ▸ Is n ▸ Blanks

abbrev pub Equalled : List ℕ → List ℕ → Type 0
Equalled n = Gapped n ▸ Is (codes "=") ▸ Blanks

abbrev pub Valued : List ℕ → List ℕ → List ℕ → Type 0
Valued n v = Equalled n ▸ Is (codes "\"") ▸ IsValueText v

-- a line so far with the name of its head
pub record HasShape (head : LineHead) (X : List ℕ → Type 0) (t : List ℕ) : Type 0 where
  pub name : is_metric_name head.name ≡ true
  pub text : (Blanks ▸ Is head.name ▸ X) t

abbrev pub Numbered : Measured → (List ℕ → Type 0) → List ℕ → Type 0
Numbered m X = Blanks ▸ Is m.head.name ▸ LabelList m.head.labels ▸ SomeBlanks ▸ Is m.number ▸ X

pub record HasNumber (m : Measured) (X : List ℕ → Type 0) (t : List ℕ) : Type 0 where
  pub name : is_metric_name m.head.name ≡ true
  pub text : Numbered m X t

pub record HasGap (head : LineHead) (X : List ℕ → Type 0) (t : List ℕ) : Type 0 where
  pub name : is_metric_name head.name ≡ true
  pub text : (Blanks ▸ Is head.name ▸ LabelList head.labels ▸ SomeBlanks ▸ X) t

pub record HasBlanks (head : LineHead) (t : List ℕ) : Type 0 where
  pub name : is_metric_name head.name ≡ true
  pub text : (Blanks ▸ Is head.name ▸ LabelList head.labels ▸ SomeBlanks) t

pub record IsNamed (n t : List ℕ) : Type 0 where
  pub name : is_metric_name n ≡ true
  pub text : (Blanks ▸ Is n) t

-- what a line of a sample is so far, at each place
abbrev pub Shape : LineCursor → List ℕ → Type 0
Shape Start t = Blanks t
Shape Hash t = Unit {0}
Shape Gap t = Unit {0}
Shape (Keyword text) t = Unit {0}
Shape Passed t = Unit {0}
Shape (BeforeFamily w) t = Unit {0}
Shape (InFamily w name) t = Unit {0}
Shape (InHelp name) t = Unit {0}
Shape (BeforeType name) t = Unit {0}
Shape (InType name text) t = Unit {0}
Shape (AfterType name kind) t = Unit {0}
Shape (InName n) t = IsNamed n t
Shape (BeforeLabel head) t = HasShape head (OpenList head.labels ▸ Blanks) t
Shape (InLabel head n) t = HasShape head (Then (OpenList head.labels) (Blanks ▸ Is n)) t
Shape (BeforeEqual head n) t = HasShape head (Then (OpenList head.labels) (Gapped n)) t
Shape (BeforeQuote head n) t = HasShape head (Then (OpenList head.labels) (Equalled n)) t
Shape (InValue head n v) t = HasShape head (Then (OpenList head.labels) (Valued n v)) t
Shape (InEscape head n v) t = HasShape head (Then (OpenList head.labels) (Valued n v ▸ Is (codes "\\"))) t
Shape (AfterValue head) t = HasShape head (Is (codes "{") ▸ Labels head.labels) t
Shape (AfterList head) t = HasShape head (Braces head.labels) t
Shape (BeforeNumber head) t = HasBlanks head t
Shape (InNumber head place text) t = HasGap head (Is text) t
Shape (AfterNumber m) t = HasNumber m SomeBlanks t
Shape (AfterSign m text) t = HasNumber m (SomeBlanks ▸ Is text) t
Shape (InTime m text count) t = HasNumber m (SomeBlanks ▸ Is text) t
Shape (AfterTime m text) t = HasNumber m (SomeBlanks ▸ Is text ▸ Blanks) t

abbrev pub IfShape : Option LineCursor → List ℕ → Type 0
IfShape None t = Unit {0}
IfShape (Some place) t = Shape place t

ways : (t : List ℕ) (b : Bool) (x y : Option LineCursor) → (b ≡ true → IfShape x t) → (b ≡ false → IfShape y t) → IfShape (if b then x else y) t
ways t true x y f g = f refl
ways t false x y f g = g refl

-- a character more of what stands behind the name
shape_more : (head : LineHead) (X Y : List ℕ → Type 0) (t : List ℕ) (c : ℕ) → HasShape head X t → ((r : List ℕ) → X r → Y (r ++ c ∷ [])) → HasShape head Y (t ++ c ∷ [])
shape_more head X Y t c s f = record { name = s.name; text = grow (Blanks ▸ Is head.name) X Y t c s.text f }

-- a character more of a label
label_more : (head : LineHead) (X Y : List ℕ → Type 0) (t : List ℕ) (c : ℕ) → HasShape head (Then (OpenList head.labels) X) t → ((r : List ℕ) → X r → Y (r ++ c ∷ [])) → HasShape head (Then (OpenList head.labels) Y) (t ++ c ∷ [])
label_more head X Y t c s f = shape_more head (Then (OpenList head.labels) X) (Then (OpenList head.labels) Y) t c s (λ r h. grow (OpenList head.labels) X Y r c h f)

pub blanks_grow : (c : ℕ) → is_blank c ≡ true → (r : List ℕ) → Blanks r → Blanks (r ++ c ∷ [])
blanks_grow c h r b = blank_more r c b h

keyword_shape : (text t : List ℕ) → Shape (after_keyword text) t
keyword_shape text t = by (bytes_eq text (codes "HELP")) (bytes_eq text (codes "TYPE")) where
  by : (a b : Bool) → Shape (if a then BeforeFamily word.Help else (if b then BeforeFamily word.Type else Passed)) t
  by true b = tt
  by false true = tt
  by false false = tt

family_shape : (w : FamilyWord) (name t : List ℕ) → Shape (after_family w name) t
family_shape word.Help name t = tt
family_shape word.Type name t = tt

typed_shape : (name t : List ℕ) (o : Option FamilyKind) → IfShape (typed name o) t
typed_shape name t None = tt
typed_shape name t (Some kind) = tt

-- the list of labels with one more
label_blank : (p : Pair) (t : List ℕ) (c : ℕ) → is_blank c ≡ true → Label p t → Label p (t ++ c ∷ [])
label_blank p t c h l = grow (Valued p.name p.value ▸ Is (codes "\"")) Blanks Blanks t c l (blanks_grow c h)

labels_blank : (ps : List Pair) (t : List ℕ) (c : ℕ) → is_blank c ≡ true → Labels ps t → Labels ps (t ++ c ∷ [])
labels_blank ps t c h (one p text l) = one p (text ++ c ∷ []) (label_blank p text c h l)
labels_blank ps t c h (more qs p front label text ls l e) =
    more qs p front (label ++ c ∷ []) (text ++ c ∷ []) ls (label_blank p label c h l) (ap (λ x. x ++ c ∷ []) e ∙ append_assoc (front ++ codes ",") label (c ∷ []))

list_with : (ps : List Pair) (p : Pair) (begun label : List ℕ) → OpenList ps begun → Label p label → (Is (codes "{") ▸ Labels (ps ++ p ∷ [])) (begun ++ label)
list_with ps p begun label (opened t e) l = record { front = codes "{"; rest = label; parts = ap (λ x. x ++ label) e; first = refl; second = one p label l }
list_with ps p begun label (continued qs t h) l =
    let a = h.first.front in
    let b = h.first.rest in
    let c = h.rest in
    record {
      front = a;
      rest = (b ++ c) ++ label;
      parts = ap (λ x. x ++ label) (h.parts ∙ ap (λ x. x ++ c) h.first.parts ∙ append_assoc a b c) ∙ append_assoc a (b ++ c) label;
      first = h.first.first;
      second = more qs p b label ((b ++ c) ++ label) h.first.second l (ap (λ x. (b ++ x) ++ label) h.second);
    }

quoted : (n v l : List ℕ) (c : ℕ) → (c == code "\"") ≡ true → Valued n v l → Label (pair_of n v) (l ++ c ∷ [])
quoted n v l c h x = none (Valued n v ▸ Is (codes "\"")) Blanks (l ++ c ∷ []) (add (Valued n v) (Is (codes "\"")) l c x (same_code c (code "\"") h)) refl

closed : (head : LineHead) (n v t : List ℕ) (c : ℕ) → (c == code "\"") ≡ true → HasShape head (Then (OpenList head.labels) (Valued n v)) t →
    HasShape (with_label head n v) (Is (codes "{") ▸ Labels (head.labels ++ pair_of n v ∷ [])) (t ++ c ∷ [])
closed head n v t c h s = record {
  name = s.name;
  text = grow (Blanks ▸ Is head.name) (Then (OpenList head.labels) (Valued n v)) (Is (codes "{") ▸ Labels (head.labels ++ pair_of n v ∷ [])) t c s.text listed;
} where
  listed : (r : List ℕ) → Then (OpenList head.labels) (Valued n v) r → (Is (codes "{") ▸ Labels (head.labels ++ pair_of n v ∷ [])) (r ++ c ∷ [])
  listed r x =
      subst (Is (codes "{") ▸ Labels (head.labels ++ pair_of n v ∷ [])) (sym (ap (λ y. y ++ c ∷ []) x.parts ∙ append_assoc x.front x.rest (c ∷ [])))
      (list_with head.labels (pair_of n v) x.front (x.rest ++ c ∷ []) x.first (quoted n v x.rest c h x.second))

-- a list with its last character
braces : (ps : List Pair) (r : List ℕ) (c : ℕ) → LabelList ps (r ++ c ∷ []) → Braces ps (r ++ c ∷ [])
braces ps r c l = record { some = omega (arith, length-append r (c ∷ [])); list = l }

-- the end of a list
list_ends : (ps : List Pair) (r : List ℕ) (c : ℕ) → (c == code "}") ≡ true → (OpenList ps ▸ Blanks) r → LabelList ps (r ++ c ∷ [])
list_ends ps r c h x = by ps x.front x.first refl where
  by : (qs : List Pair) (front : List ℕ) → OpenList qs front → x.front ≡ front → LabelList qs (r ++ c ∷ [])
  by qs front (opened t e) f = no_labels (r ++ c ∷ []) (add (Is (codes "{") ▸ Blanks) (Is (codes "}")) r c (record { front = x.front; rest = x.rest; parts = x.parts; first = f ∙ e; second = x.second }) (same_code c (code "}") h))
  by qs front (continued ps t k) f =
      last_comma ps (r ++ c ∷ []) (add (Is (codes "{") ▸ Labels ps ▸ Is (codes ",") ▸ Blanks) (Is (codes "}")) r c
      (record { front = x.front; rest = x.rest; parts = x.parts; first = subst (Is (codes "{") ▸ Labels ps ▸ Is (codes ",")) (sym f) k; second = x.second }) (same_code c (code "}") h))

pub change : (P X Y : List ℕ → Type 0) (t : List ℕ) → Then P X t → ((r : List ℕ) → X r → Y r) → Then P Y t
change P X Y t h f = record { front = h.front; rest = h.rest; parts = h.parts; first = h.first; second = f h.rest h.second }

-- a name of a label so far, with no blanks behind it yet
gapped : (head : LineHead) (n t : List ℕ) → HasShape head (Then (OpenList head.labels) (Blanks ▸ Is n)) t → HasShape head (Then (OpenList head.labels) (Gapped n)) t
gapped head n t s = record {
  name = s.name;
  text = change (Blanks ▸ Is head.name) (Then (OpenList head.labels) (Blanks ▸ Is n)) (Then (OpenList head.labels) (Gapped n)) t s.text
      (λ r h. change (OpenList head.labels) (Blanks ▸ Is n) (Gapped n) r h (λ l k. none (Blanks ▸ Is n) Blanks l k refl));
}

equal_shape : (head : LineHead) (n t : List ℕ) (c : ℕ) → HasShape head (Then (OpenList head.labels) (Gapped n)) t → IfShape (before_equal head n c) (t ++ c ∷ [])
equal_shape head n t c s =
    ways (t ++ c ∷ []) (is_blank c) _ _ (λ e. label_more head (Gapped n) (Gapped n) t c s (λ l g. grow (Blanks ▸ Is n) Blanks Blanks l c g (blanks_grow c e)))
    (λ _. ways (t ++ c ∷ []) (c == code "=") _ _
    (λ e. label_more head (Gapped n) (Equalled n) t c s (λ l g. none (Gapped n ▸ Is (codes "=")) Blanks (l ++ c ∷ []) (add (Gapped n) (Is (codes "=")) l c g (same_code c (code "=") e)) refl))
    (λ _. tt))

-- an begun list after a comma, and at its begin
after_comma : (ps : List Pair) (r : List ℕ) (c : ℕ) → (c == code ",") ≡ true → (Is (codes "{") ▸ Labels ps) r → (OpenList ps ▸ Blanks) (r ++ c ∷ [])
after_comma ps r c h x = none (OpenList ps) Blanks (r ++ c ∷ []) (continued ps (r ++ c ∷ []) (add (Is (codes "{") ▸ Labels ps) (Is (codes ",")) r c x (same_code c (code ",") h))) refl

open_list : (c : ℕ) → (c == code "{") ≡ true → (OpenList [] ▸ Blanks) (c ∷ [])
open_list c h = none (OpenList []) Blanks (c ∷ []) (opened (c ∷ []) (same_code c (code "{") h)) refl

-- behind a name that no list follows
bare_shape : (n t : List ℕ) (c : ℕ) → is_blank c ≡ true → IsNamed n t → HasBlanks (record { name = n; labels = [] }) (t ++ c ∷ [])
bare_shape n t c h s = record { name = s.name; text = add (Blanks ▸ Is n ▸ LabelList []) SomeBlanks t c (none (Blanks ▸ Is n) (LabelList []) t s.text no_list) (some_one c h) }

-- a text that stands behind the number
number_more : (m : Measured) (X Y : List ℕ → Type 0) (t : List ℕ) (c : ℕ) → HasNumber m X t → ((r : List ℕ) → X r → Y (r ++ c ∷ [])) → HasNumber m Y (t ++ c ∷ [])
number_more m X Y t c s f = record { name = s.name; text = grow (Blanks ▸ Is m.head.name ▸ LabelList m.head.labels ▸ SomeBlanks ▸ Is m.number) X Y t c s.text f }

sign_small : (c : ℕ) → is_sign c ≡ true → c < 128
sign_small c h = grind (arith, nat_tests)

letter_case_small : (c k : ℕ) → k < 128 → eq_ignore_ascii_case c k ≡ true → c < 128
letter_case_small c k s h = grind (arith, nat_tests)

-- a choice that is no place only where its last way is
small_ways : (c : ℕ) (b : Bool) (x y : Option NumberPlace) → (b ≡ true → c < 128) → ((y ≡ None → ⊥) → c < 128) → ((if b then x else y) ≡ None → ⊥) → c < 128
small_ways c true x y f g h = f refl
small_ways c false x y f g h = g h

-- the first character of a number is one byte, and so is each further one
unsigned_small : (c : ℕ) → (unsigned_start c ≡ None → ⊥) → c < 128
unsigned_small c h =
    small_ways c (is_ascii_digit c) _ _ (digit_small c)
    (small_ways c (c == code ".") _ _ (λ e. let is : c ≡ code "." = eqb-true c (code ".") e in omega arith)
    (small_ways c (eq_ignore_ascii_case c (code "i")) _ _ (letter_case_small c (code "i") (lit< tt)) (λ n. absurd (n refl)))) h

pub start_small : (c : ℕ) → (number_start c ≡ None → ⊥) → c < 128
start_small c h = small_ways c (is_sign c) _ _ (sign_small c) (small_ways c (eq_ignore_ascii_case c (code "n")) _ _ (letter_case_small c (code "n") (lit< tt)) (unsigned_small c)) h

exponent_small : (c : ℕ) → (exponent_start c ≡ None → ⊥) → c < 128
exponent_small c h = small_ways c (eq_ignore_ascii_case c (code "e")) _ _ (letter_case_small c (code "e") (lit< tt)) (λ n. absurd (n refl)) h

digit_place_small : (c : ℕ) → (exponent_digit c ≡ None → ⊥) → c < 128
digit_place_small c h = small_ways c (is_ascii_digit c) _ _ (digit_small c) (λ n. absurd (n refl)) h

case_small : (c k : ℕ) (p : NumberPlace) → k < 128 → ((if eq_ignore_ascii_case c k then Some p else None) ≡ None → ⊥) → c < 128
case_small c k p s h = small_ways c (eq_ignore_ascii_case c k) _ _ (letter_case_small c k s) (λ n. absurd (n refl)) h

pub next_small : (p : NumberPlace) (c : ℕ) → (number_next p c ≡ None → ⊥) → c < 128
next_small np.Signed c h = unsigned_small c h
next_small np.Whole c h =
    small_ways c (is_ascii_digit c) _ _ (digit_small c) (small_ways c (c == code ".") _ _ (λ e. let is : c ≡ code "." = eqb-true c (code ".") e in omega arith) (exponent_small c)) h
next_small np.Point c h = small_ways c (is_ascii_digit c) _ _ (digit_small c) (λ n. absurd (n refl)) h
next_small np.Fraction c h = small_ways c (is_ascii_digit c) _ _ (digit_small c) (exponent_small c) h
next_small np.Exponent c h = small_ways c (is_sign c) _ _ (sign_small c) (digit_place_small c) h
next_small np.ExponentSign c h = digit_place_small c h
next_small np.ExponentDigits c h = digit_place_small c h
next_small np.I c h = case_small c (code "n") np.In (lit< tt) h
next_small np.In c h = case_small c (code "f") np.Inf (lit< tt) h
next_small np.Inf c h = case_small c (code "i") np.Infi (lit< tt) h
next_small np.Infi c h = case_small c (code "n") np.Infin (lit< tt) h
next_small np.Infin c h = case_small c (code "i") np.Infini (lit< tt) h
next_small np.Infini c h = case_small c (code "t") np.Infinit (lit< tt) h
next_small np.Infinit c h = case_small c (code "y") np.Infinity (lit< tt) h
next_small np.Infinity c h = absurd (h refl)
next_small np.N c h = case_small c (code "a") np.Na (lit< tt) h
next_small np.Na c h = case_small c (code "n") np.Nan (lit< tt) h
next_small np.Nan c h = absurd (h refl)

pub some_not_none : (o : Option NumberPlace) (p : NumberPlace) → o ≡ Some p → o ≡ None → ⊥
some_not_none o p e n = let k : Some p ≡ None = sym e ∙ n in cc

numbered_if : (head : LineHead) (text t : List ℕ) (o : Option NumberPlace) → ((p : NumberPlace) → o ≡ Some p → HasGap head (Is text) t) → IfShape (numbered head text o) t
numbered_if head text t None f = tt
numbered_if head text t (Some p) f = f p refl

and_left : (a b : Bool) → (a && b) ≡ true → a ≡ true
and_left true b h = refl
and_left false b h = cc

and_right : (a b : Bool) → (a && b) ≡ true → b ≡ true
and_right true b h = h
and_right false b h = cc

escape_more : (n v r : List ℕ) (c : ℕ) → (Valued n v ▸ Is (codes "\\")) r → Valued n (v ++ escape c) (r ++ c ∷ [])
escape_more n v r c h = record {
  front = h.first.front;
  rest = (h.first.rest ++ codes "\\") ++ c ∷ [];
  parts = ap (λ x. x ++ c ∷ []) (h.parts ∙ (λ i. h.first.parts i ++ h.second i) ∙ append_assoc h.first.front h.first.rest (codes "\\"))
      ∙ append_assoc h.first.front (h.first.rest ++ codes "\\") (c ∷ []);
  first = h.first.first;
  second = escaped v h.first.rest c h.first.second;
}

shape_goes : (place : LineCursor) (c : ℕ) (t : List ℕ) → Shape place t → IfShape (goes place c) (t ++ c ∷ [])
shape_goes Start c t s =
    ways (t ++ c ∷ []) (is_blank c) _ _ (λ e. blank_more t c s e)
    (λ _. ways (t ++ c ∷ []) (c == code "#") _ _ (λ _. tt)
    (λ _. ways (t ++ c ∷ []) (is_metric_letter c) _ _ (λ e. record { name = name_first c e; text = add Blanks (Is (encode_utf8 c)) t c s (is_one c (metric_letter_small c e)) }) (λ _. tt)))
shape_goes Hash c t s = ways (t ++ c ∷ []) (is_blank c) _ _ (λ _. tt) (λ _. tt)
shape_goes Gap c t s = ways (t ++ c ∷ []) (is_blank c) _ _ (λ _. tt) (λ _. tt)
shape_goes (Keyword text) c t s = ways (t ++ c ∷ []) (is_blank c) _ _ (λ _. keyword_shape text (t ++ c ∷ [])) (λ _. tt)
shape_goes Passed c t s = tt
shape_goes (BeforeFamily w) c t s = ways (t ++ c ∷ []) (is_blank c) _ _ (λ _. tt) (λ _. ways (t ++ c ∷ []) (is_metric_letter c) _ _ (λ _. tt) (λ _. tt))
shape_goes (InFamily w name) c t s = ways (t ++ c ∷ []) (is_blank c) _ _ (λ _. family_shape w name (t ++ c ∷ [])) (λ _. ways (t ++ c ∷ []) (is_metric_byte c) _ _ (λ _. tt) (λ _. tt))
shape_goes (InHelp name) c t s = tt
shape_goes (BeforeType name) c t s = ways (t ++ c ∷ []) (is_blank c) _ _ (λ _. tt) (λ _. ways (t ++ c ∷ []) (is_type_front (encode_utf8 c)) _ _ (λ _. tt) (λ _. tt))
shape_goes (InType name text) c t s =
    ways (t ++ c ∷ []) (is_blank c) _ _ (λ _. typed_shape name (t ++ c ∷ []) (type_of text)) (λ _. ways (t ++ c ∷ []) (is_type_front (grown text c)) _ _ (λ _. tt) (λ _. tt))
shape_goes (AfterType name kind) c t s = ways (t ++ c ∷ []) (is_blank c) _ _ (λ _. tt) (λ _. tt)
shape_goes (InName n) c t s =
    ways (t ++ c ∷ []) (is_blank c) _ _ (λ e. bare_shape n t c e s)
    (λ _. ways (t ++ c ∷ []) (c == code "{") _ _ (λ e. record { name = s.name; text = add (Blanks ▸ Is n) (OpenList [] ▸ Blanks) t c s.text (open_list c e) })
    (λ _. ways (t ++ c ∷ []) (is_metric_byte c) _ _ (λ e. record { name = name_more n c s.name e; text = grow Blanks (Is n) (Is (grown n c)) t c s.text (λ r h. is_more n r c (metric_small c e) h) }) (λ _. tt)))
shape_goes (BeforeLabel head) c t s =
    ways (t ++ c ∷ []) (is_blank c) _ _ (λ e. label_more head Blanks Blanks t c s (blanks_grow c e))
    (λ _. ways (t ++ c ∷ []) (c == code "}") _ _ (λ e. shape_more head (OpenList head.labels ▸ Blanks) (Braces head.labels) t c s (λ r h. braces head.labels r c (list_ends head.labels r c e h)))
    (λ _. ways (t ++ c ∷ []) (is_letter c) _ _ (λ e. label_more head Blanks (Blanks ▸ Is (encode_utf8 c)) t c s (λ r b. add Blanks (Is (encode_utf8 c)) r c b (is_one c (letter_small c e)))) (λ _. tt)))
shape_goes (InLabel head n) c t s =
    ways (t ++ c ∷ []) (is_label_byte c) _ _ (λ e. label_more head (Blanks ▸ Is n) (Blanks ▸ Is (grown n c)) t c s (λ r h. grow Blanks (Is n) (Is (grown n c)) r c h (λ q k. is_more n q c (label_small c e) k)))
    (λ _. ways (t ++ c ∷ []) (stands_before head n) _ _ (λ _. tt) (λ _. equal_shape head n t c (gapped head n t s)))
shape_goes (BeforeEqual head n) c t s = equal_shape head n t c s
shape_goes (BeforeQuote head n) c t s =
    ways (t ++ c ∷ []) (is_blank c) _ _ (λ e. label_more head (Equalled n) (Equalled n) t c s (λ r h. grow (Gapped n ▸ Is (codes "=")) Blanks Blanks r c h (blanks_grow c e)))
    (λ _. ways (t ++ c ∷ []) (c == code "\"") _ _
    (λ e. label_more head (Equalled n) (Valued n []) t c s (λ r h. none (Equalled n ▸ Is (codes "\"")) (IsValueText []) (r ++ c ∷ []) (add (Equalled n) (Is (codes "\"")) r c h (same_code c (code "\"") e)) empty_value))
    (λ _. tt))
shape_goes (InValue head n v) c t s =
    ways (t ++ c ∷ []) (c == code "\"") _ _ (λ e. closed head n v t c e s)
    (λ q. ways (t ++ c ∷ []) (c == code "\\") _ _ (λ e. label_more head (Valued n v) (Valued n v ▸ Is (codes "\\")) t c s (λ r h. add (Valued n v) (Is (codes "\\")) r c h (same_code c (code "\\") e)))
    (λ b. label_more head (Valued n v) (Valued n (grown v c)) t c s (λ r h. grow (Equalled n ▸ Is (codes "\"")) (IsValueText v) (IsValueText (grown v c)) r c h (λ x k. character v x c k q b))))
shape_goes (InEscape head n v) c t s = label_more head (Valued n v ▸ Is (codes "\\")) (Valued n (v ++ escape c)) t c s (λ r h. escape_more n v r c h)
shape_goes (AfterValue head) c t s =
    ways (t ++ c ∷ []) (is_blank c) _ _ (λ e. shape_more head (Is (codes "{") ▸ Labels head.labels) (Is (codes "{") ▸ Labels head.labels) t c s
    (λ r h. grow (Is (codes "{")) (Labels head.labels) (Labels head.labels) r c h (λ x k. labels_blank head.labels x c e k)))
    (λ _. ways (t ++ c ∷ []) (c == code ",") _ _ (λ e. shape_more head (Is (codes "{") ▸ Labels head.labels) (OpenList head.labels ▸ Blanks) t c s (λ r h. after_comma head.labels r c e h))
    (λ _. ways (t ++ c ∷ []) (c == code "}") _ _
    (λ e. shape_more head (Is (codes "{") ▸ Labels head.labels) (Braces head.labels) t c s
    (λ r h. braces head.labels r c (labels head.labels (r ++ c ∷ []) (add (Is (codes "{") ▸ Labels head.labels) (Is (codes "}")) r c h (same_code c (code "}") e)))))
    (λ _. tt)))
shape_goes (AfterList head) c t s =
    ways (t ++ c ∷ []) (is_blank c) _ _ (λ e. record {
      name = s.name;
      text = add (Blanks ▸ Is head.name ▸ LabelList head.labels) SomeBlanks t c (change (Blanks ▸ Is head.name) (Braces head.labels) (LabelList head.labels) t s.text (λ r b. b.list)) (some_one c e);
    }) (λ _. tt)
shape_goes (BeforeNumber head) c t s =
    ways (t ++ c ∷ []) (is_blank c) _ _ (λ e. record { name = s.name; text = grow (Blanks ▸ Is head.name ▸ LabelList head.labels) SomeBlanks SomeBlanks t c s.text (λ r h. some_more r c h e) })
    (λ _. numbered_if head (encode_utf8 c) (t ++ c ∷ []) (number_start c)
    (λ p e. record { name = s.name; text = add (Blanks ▸ Is head.name ▸ LabelList head.labels ▸ SomeBlanks) (Is (encode_utf8 c)) t c s.text (is_one c (start_small c (some_not_none (number_start c) p e))) }))
shape_goes (InNumber head place text) c t s =
    ways (t ++ c ∷ []) (is_number_end place && is_blank c) _ _ (λ e. record { name = s.name; text = add (Blanks ▸ Is head.name ▸ LabelList head.labels ▸ SomeBlanks ▸ Is text) SomeBlanks t c s.text (some_one c (and_right (is_number_end place) (is_blank c) e)) })
    (λ _. numbered_if head (grown text c) (t ++ c ∷ []) (number_next place c)
    (λ p e. record { name = s.name; text = grow (Blanks ▸ Is head.name ▸ LabelList head.labels ▸ SomeBlanks) (Is text) (Is (grown text c)) t c s.text (λ r h. is_more text r c (next_small place c (some_not_none (number_next place c) p e)) h) }))
shape_goes (AfterNumber m) c t s =
    ways (t ++ c ∷ []) (is_blank c) _ _ (λ e. number_more m SomeBlanks SomeBlanks t c s (λ r h. some_more r c h e))
    (λ _. ways (t ++ c ∷ []) (is_sign c) _ _ (λ e. number_more m SomeBlanks (SomeBlanks ▸ Is (encode_utf8 c)) t c s (λ r h. add SomeBlanks (Is (encode_utf8 c)) r c h (is_one c (sign_small c e))))
    (λ _. ways (t ++ c ∷ []) (is_ascii_digit c) _ _ (λ e. number_more m SomeBlanks (SomeBlanks ▸ Is (encode_utf8 c)) t c s (λ r h. add SomeBlanks (Is (encode_utf8 c)) r c h (is_one c (digit_small c e)))) (λ _. tt)))
shape_goes (AfterSign m text) c t s =
    ways (t ++ c ∷ []) (is_ascii_digit c) _ _ (λ e. number_more m (SomeBlanks ▸ Is text) (SomeBlanks ▸ Is (grown text c)) t c s (λ r h. grow SomeBlanks (Is text) (Is (grown text c)) r c h (λ x k. is_more text x c (digit_small c e) k))) (λ _. tt)
shape_goes (InTime m text count) c t s =
    ways (t ++ c ∷ []) (is_blank c) _ _ (λ e. number_more m (SomeBlanks ▸ Is text) (SomeBlanks ▸ Is text ▸ Blanks) t c s (λ r h. add (SomeBlanks ▸ Is text) Blanks r c h (blank_one c e)))
    (λ _. ways (t ++ c ∷ []) (is_ascii_digit c && nat_lt count 18) _ _
    (λ e. number_more m (SomeBlanks ▸ Is text) (SomeBlanks ▸ Is (grown text c)) t c s (λ r h. grow SomeBlanks (Is text) (Is (grown text c)) r c h (λ x k. is_more text x c (digit_small c (and_left (is_ascii_digit c) (nat_lt count 18) e)) k)))
    (λ _. tt))
shape_goes (AfterTime m text) c t s =
    ways (t ++ c ∷ []) (is_blank c) _ _ (λ e. number_more m (SomeBlanks ▸ Is text ▸ Blanks) (SomeBlanks ▸ Is text ▸ Blanks) t c s (λ r h. grow (SomeBlanks ▸ Is text) Blanks Blanks r c h (blanks_grow c e))) (λ _. tt)

-- where a way comes to has its shape
abbrev pub IfComes : Way → List ℕ → Type 0
IfComes (comes place) t = Shape place t
IfComes (stops kind) t = Unit {0}

on_shape : (o : Option LineCursor) (kind : ExpoKind) (on : LineCursor → Way) (t whole : List ℕ) → IfShape o t → ((next : LineCursor) → Shape next t → IfComes (on next) whole) → IfComes (way_on o kind on) whole
on_shape None kind on t whole s f = tt
on_shape (Some next) kind on t whole s f = f next s

pub way_shape : (text : List ℕ) (place : LineCursor) (t : List ℕ) → Shape place t → IfComes (way place text) (t ++ text)
way_shape [] place t s = subst (Shape place) (sym (append-nil t)) s
way_shape (c ∷ cs) place t s =
    on_shape (goes place c) (fault_at place) (λ next. way next cs) (t ++ c ∷ []) (t ++ c ∷ cs) (shape_goes place c t s)
    (λ next k. subst (IfComes (way next cs)) (append_assoc t (c ∷ []) cs) (way_shape cs next (t ++ c ∷ []) k))

-- what is read at the end of a line
record HasParts (m : Measured) (time : Option (List ℕ)) (t : List ℕ) : Type 0 where
  parts : SampleText m time t
  name : is_metric_name m.head.name ≡ true

abbrev IfSample : Option Read → List ℕ → Type 0
IfSample None t = Unit {0}
IfSample (Some Nothing) t = Unit {0}
IfSample (Some (Help name)) t = Unit {0}
IfSample (Some (Typed name kind)) t = Unit {0}
IfSample (Some (Sample m time)) t = HasParts m time t

keyword_none : (place : LineCursor) (t : List ℕ) → IfSample (keyword_end place) t
keyword_none Passed t = tt
keyword_none _ t = tt

family_none : (w : FamilyWord) (name t : List ℕ) → IfSample (family_end w name) t
family_none word.Help name t = tt
family_none word.Type name t = tt

type_none : (name t : List ℕ) (o : Option FamilyKind) → IfSample (type_end name o) t
type_none name t None = tt
type_none name t (Some kind) = tt

number_parts : (head : LineHead) (text t : List ℕ) (b : Bool) → HasGap head (Is text) t → IfSample (if b then Some (Sample (record { head = head; number = text }) None) else None) t
number_parts head text t true s = record { parts = none (Blanks ▸ Is head.name ▸ LabelList head.labels ▸ SomeBlanks ▸ Is text) Blanks t s.text refl; name = s.name }
number_parts head text t false s = tt

ends_shape : (place : LineCursor) (t : List ℕ) → Shape place t → IfSample (ends place) t
ends_shape Start t s = tt
ends_shape Hash t s = tt
ends_shape Gap t s = tt
ends_shape (Keyword text) t s = keyword_none (after_keyword text) t
ends_shape Passed t s = tt
ends_shape (BeforeFamily w) t s = tt
ends_shape (InFamily w name) t s = family_none w name t
ends_shape (InHelp name) t s = tt
ends_shape (BeforeType name) t s = tt
ends_shape (InType name text) t s = type_none name t (type_of text)
ends_shape (AfterType name kind) t s = tt
ends_shape (InName name) t s = tt
ends_shape (BeforeLabel head) t s = tt
ends_shape (InLabel head name) t s = tt
ends_shape (BeforeEqual head name) t s = tt
ends_shape (BeforeQuote head name) t s = tt
ends_shape (InValue head name value) t s = tt
ends_shape (InEscape head name value) t s = tt
ends_shape (AfterValue head) t s = tt
ends_shape (AfterList head) t s = tt
ends_shape (BeforeNumber head) t s = tt
ends_shape (InNumber head place text) t s = number_parts head text t (is_number_end place) s
ends_shape (AfterNumber m) t s = record {
  parts = change (Blanks ▸ Is m.head.name ▸ LabelList m.head.labels ▸ SomeBlanks ▸ Is m.number) SomeBlanks Blanks t s.text (λ r b. b.blanks);
  name = s.name;
}
ends_shape (AfterSign m text) t s = tt
ends_shape (InTime m text count) t s = record {
  parts = change (Blanks ▸ Is m.head.name ▸ LabelList m.head.labels ▸ SomeBlanks ▸ Is m.number) (SomeBlanks ▸ Is text) (SomeBlanks ▸ Is text ▸ Blanks) t s.text (λ r h. none (SomeBlanks ▸ Is text) Blanks r h refl);
  name = s.name;
}
ends_shape (AfterTime m text) t s = record { parts = s.text; name = s.name }

end_parts : (place : LineCursor) (o : Option Read) (m : Measured) (time : Option (List ℕ)) (t : List ℕ) → IfSample o t → at_end place o ≡ Ok (Sample m time) → HasParts m time t
end_parts place None m time t s h = cc
end_parts place (Some r) m time t s h = let same : r ≡ Sample m time = cc in subst (λ x. IfSample (Some x) t) same s

outcome_parts : (whole : Bool) (w : Way) (m : Measured) (time : Option (List ℕ)) (t : List ℕ) → IfComes w t → outcome_of whole w ≡ Ok (Sample m time) → HasParts m time t
outcome_parts true (comes place) m time t s h = end_parts place (ends place) m time t (ends_shape place t s) h
outcome_parts false (comes place) m time t s h = cc
outcome_parts true (stops kind) m time t s h = cc
outcome_parts false (stops kind) m time t s h = cc

read_whole : (line : List ℕ) (read : Read) → line_read line ≡ Ok read → is_utf8 line ≡ true
unfolding line_read
read_whole line read h = by (is_utf8 line) (way Start (chars (text_front line))) h where
  by : (b : Bool) (w : Way) → outcome_of b w ≡ Ok read → b ≡ true
  by true w k = refl
  by false (comes place) k = cc
  by false (stops kind) k = cc

-- What is read as a sample is the line of that sample.
pub sample_is_line : (line : List ℕ) (m : Measured) (time : Option (List ℕ)) → line_read line ≡ Ok (Sample m time) → IsUtf8 line × IsSampleLine (chars line) m time
unfolding line_read
sample_is_line line m time h =
    let u = IsUtf8-from_is_utf8 line (read_whole line (Sample m time) h) in
    let front : text_front line ≡ line = sym (whole_front line line (refl, u)) in
    let p = outcome_parts (is_utf8 line) (way Start (chars (text_front line))) m time (chars (text_front line)) (way_shape (chars (text_front line)) Start [] refl) h in
    let s = read_is_sound line (Sample m time) h in
    (u, record { parts = subst (λ f. SampleText m time (chars f)) front p.parts; name = p.name; names = s.0; number = s.1; is_time = s.2 })
