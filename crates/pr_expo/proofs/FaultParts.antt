-- What stands before a place tells the kind of what is bad there, and the other way round.
use Rattle.std.proofs.Common.{◌≡◌, refl, sym, ap, ◌∙◌, subst, ℕ, List, [], ◌∷◌, ◌++◌, Bool, true, false, ◌&&◌, Option, Some, None, append_assoc, append-nil, codes, encode_utf8, nat_lt, ◌⊎◌, inl, inr, arith}
use Prim.Native.Char.{code}
use Rattle.std.specs.Prelude.{◌==◌, if◌then◌else◌, not}
use Rattle.std.specs.Char.{is_ascii_digit, encode_utf8 as encoded}
use Rattle.std.specs.List.{list_all}
use Rattle.std.specs.Str.{bytes_eq}
use Rattle.std.proofs.lemmas.Slice.Eq.{bytes_eq-Decides}
use Rattle.std.proofs.lemmas.Str.{encode_ascii}
use Rattle.pr_labels.specs.declared.pair.Pair.{Pair}
use Rattle.pr_labels.specs.Edits.{fault_after}
use Rattle.pr_labels.specs.LabelSet.{metric_label, pair_of}
use Rattle.pr_labels.specs.Names.{is_metric_byte, is_metric_letter, is_metric_name}
use Rattle.pr_num.specs.private.Forms.{IsNumberText}
use Rattle.pr_labels.specs.pr_words.Fields.{is_field_byte}
use Rattle.pr_labels.specs.pr_words.Bytes.{is_blank, is_label_byte, is_letter}
use Rattle.pr_expo.specs.Characters.{is_sign}
use Rattle.pr_expo.specs.declared.expo_line.number.NumberPlace.{NumberPlace}
use Rattle.pr_expo.specs.declared.expo_line.place.ExpoKind.{ExpoKind}
use Rattle.pr_expo.specs.declared.expo_line.place.ExpoKind.TheVariants.{BadName, BadLabels, DuplicateLabel, BadValue, BadTime, BadType}
use Rattle.pr_expo.specs.declared.expo_line.place.FamilyKind.{FamilyKind}
use Rattle.pr_expo.specs.declared.expo_line.place.LineHead.{LineHead}
use Rattle.pr_expo.specs.declared.expo_line.place.Measured.{Measured}
use Rattle.pr_expo.specs.declared.expo_line.place.LineCursor.{LineCursor}
use Rattle.pr_expo.specs.declared.expo_line.place.LineCursor.TheVariants.{Start, Hash, Gap, Keyword, Passed, BeforeFamily, InFamily, InHelp, BeforeType, InType, AfterType, InName, BeforeLabel, InLabel, BeforeEqual, BeforeQuote, InValue, InEscape, AfterValue, AfterList, BeforeNumber, InNumber, AfterNumber, AfterSign, InTime, AfterTime}
use Rattle.pr_expo.specs.declared.expo_line.place.FamilyWord.{FamilyWord}
use Rattle.pr_expo.specs.declared.expo_line.place.FamilyWord.TheVariants as word
use Rattle.pr_expo.specs.Line.{after_keyword, bare, before_equal, comes, end_fault, ends, fault_at, goes, is_type_front, keyword_end, numbered, stands_before, type_grown, type_of, typed, way, way_on}
use Rattle.pr_expo.specs.Number.{is_number_end, number_next, number_start}
use Rattle.pr_expo.specs.private.PlainLine.{◌▸◌, Blanks, Is, LabelList, Labels, SomeBlanks, Then}
use Rattle.pr_expo.specs.private.Faults.{Any, Braces, Comment, FamilyComment, IsBehindTwice, IsFault, IsWithinList, ListedHead, Name, NoBlanks, OpenList, SampleHead, behind_list, behind_number, continued, in_family, in_list, in_name, in_type, in_value, no_family, no_name, no_type, no_value, opened, twice}
use Rattle.pr_expo.specs.private.Sound.{HasDistinctNames}
use Rattle.pr_expo.proofs.Leading.{Leads, both, follows, labels_lead, leads_blanks, leads_is, leads_some, list_leads, metric_byte_small, metric_letter_byte, metric_not_blank, no, number_blank, number_leads, starts_label, starts_name, stays, steps, yes}
use Rattle.pr_expo.proofs.Shapes.{HasShape, Shape, change, none, way_shape}
use Rattle.pr_expo.proofs.Shapes as shapes
use Rattle.pr_expo.proofs.Sound.{Good, way_good}
use Rattle.pr_expo.proofs.Sound as sound
use Rattle.pr_expo.proofs.Told.{Spells, Told, spells_help, spells_type, way_told, word_text}
use Rattle.pr_expo.proofs.Told as told

-- The way through two texts
on_parts : (o : Option LineCursor) (kind : ExpoKind) (cs u : List ℕ) (q : LineCursor) →
    ((next : LineCursor) → way next (cs ++ u) ≡ comes q → (r : LineCursor) × ((way next cs ≡ comes r) × (way r u ≡ comes q))) →
    way_on o kind (λ next. way next (cs ++ u)) ≡ comes q → (r : LineCursor) × ((way_on o kind (λ next. way next cs) ≡ comes r) × (way r u ≡ comes q))
on_parts None kind cs u q again h = absurd cc
on_parts (Some next) kind cs u q again h = again next h

pub way_parts : (t u : List ℕ) (p q : LineCursor) → way p (t ++ u) ≡ comes q → (r : LineCursor) × ((way p t ≡ comes r) × (way r u ≡ comes q))
way_parts [] u p q h = (p, (refl, h))
way_parts (c ∷ cs) u p q h = on_parts (goes p c) (fault_at p) cs u q (λ next k. way_parts cs u next q k) h

on_through : (o : Option LineCursor) (kind : ExpoKind) (cs u : List ℕ) (q : LineCursor) → ((next : LineCursor) → way next cs ≡ comes q → way next (cs ++ u) ≡ way q u) →
    way_on o kind (λ next. way next cs) ≡ comes q → way_on o kind (λ next. way next (cs ++ u)) ≡ way q u
on_through None kind cs u q again h = absurd cc
on_through (Some next) kind cs u q again h = again next h

pub through : (t u : List ℕ) (p q : LineCursor) → way p t ≡ comes q → way p (t ++ u) ≡ way q u
through [] u p q h = let same : p ≡ q = cc in ap (λ x. way x u) same
through (c ∷ cs) u p q h = on_through (goes p c) (fault_at p) cs u q (λ next k. through cs u next q k) h

-- a text that leads to a place comes to it
arrives : (p q : LineCursor) (t : List ℕ) → Leads p q t → way p t ≡ comes q
arrives p q t led = ap (way p) (sym (append-nil t)) ∙ led []

same_place : (p q r : LineCursor) (t : List ℕ) → Leads p q t → way p t ≡ comes r → q ≡ r
same_place p q r t led h = let k : comes q ≡ comes r = sym (arrives p q t led) ∙ h in cc

-- behind a text that leads to a place
rest_of : (p q r : LineCursor) (P X : List ℕ → Type 0) (t : List ℕ) (h : Then P X t) → Leads p q h.front → way p t ≡ comes r → way q h.rest ≡ comes r
rest_of p q r P X t h led k = sym (led h.rest) ∙ ap (way p) (sym h.parts) ∙ k

-- Places that stay of a kind
abbrev IfIn : (LineCursor → Type 0) → Option LineCursor → Type 0
IfIn P None = Unit {0}
IfIn P (Some place) = P place

in_ways : (P : LineCursor → Type 0) (b : Bool) (x y : Option LineCursor) → (b ≡ true → IfIn P x) → (b ≡ false → IfIn P y) → IfIn P (if b then x else y)
in_ways P true x y f g = f refl
in_ways P false x y f g = g refl

on_in : (P : LineCursor → Type 0) (kind : ExpoKind) (cs : List ℕ) (q : LineCursor) (o : Option LineCursor) → IfIn P o → ((next : LineCursor) → P next → way next cs ≡ comes q → P q) →
    way_on o kind (λ next. way next cs) ≡ comes q → P q
on_in P kind cs q None i again h = absurd cc
on_in P kind cs q (Some next) i again h = again next i h

stay_in : (P : LineCursor → Type 0) (ok : ℕ → Bool) → ((p : LineCursor) (c : ℕ) → ok c ≡ true → P p → IfIn P (goes p c)) →
    (t : List ℕ) (p q : LineCursor) → list_all ok t ≡ true → P p → way p t ≡ comes q → P q
stay_in P ok f [] p q a s h = let same : p ≡ q = cc in subst P same s
stay_in P ok f (c ∷ cs) p q a s h =
    let k = both (ok c) (list_all ok cs) a in on_in P (fault_at p) cs q (goes p c) (f p c k.0 s) (λ next i e. stay_in P ok f cs next q k.1 i e) h

abbrev any : ℕ → Bool
any c = true

all_any : (t : List ℕ) → list_all any t ≡ true
all_any [] = refl
all_any (c ∷ cs) = all_any cs

-- a type, and the end behind it
abbrev InTypes : LineCursor → Type 0
InTypes (BeforeType name) = Unit {0}
InTypes (InType name text) = Unit {0}
InTypes (AfterType name kind) = Unit {0}
InTypes _ = ⊥

grown_in : (name text : List ℕ) → IfIn InTypes (type_grown name text)
grown_in name text = in_ways InTypes (is_type_front text) _ _ (λ _. tt) (λ _. tt)

typed_in : (name : List ℕ) (o : Option FamilyKind) → IfIn InTypes (typed name o)
typed_in name None = tt
typed_in name (Some kind) = tt

types_goes : (p : LineCursor) (c : ℕ) → any c ≡ true → InTypes p → IfIn InTypes (goes p c)
types_goes (BeforeType name) c a i = in_ways InTypes (is_blank c) _ _ (λ _. tt) (λ _. grown_in name (encode_utf8 c))
types_goes (InType name text) c a i = in_ways InTypes (is_blank c) _ _ (λ _. typed_in name (type_of text)) (λ _. grown_in name (text ++ encode_utf8 c))
types_goes (AfterType name kind) c a i = in_ways InTypes (is_blank c) _ _ (λ _. tt) (λ _. tt)
types_goes _ c a i = absurd i

-- a number, as long as no blank comes
abbrev InNumbers : LineCursor → Type 0
InNumbers (BeforeNumber head) = Unit {0}
InNumbers (InNumber head place text) = Unit {0}
InNumbers _ = ⊥

numbered_in : (P : LineCursor → Type 0) (head : LineHead) (text : List ℕ) (o : Option NumberPlace) → ((place : NumberPlace) → P (InNumber head place text)) → IfIn P (numbered head text o)
numbered_in P head text None f = tt
numbered_in P head text (Some place) f = f place

no_blank_is : (a b : Bool) → (a && b) ≡ true → b ≡ true
no_blank_is true b h = h
no_blank_is false b h = cc

field_not_blank : (c : ℕ) → is_field_byte c ≡ true → is_blank c ≡ true → ⊥
field_not_blank c h e = by (is_blank c) h e where
  by : (b : Bool) → not b ≡ true → b ≡ true → ⊥
  by true k i = cc
  by false k i = cc

numbers_goes : (p : LineCursor) (c : ℕ) → is_field_byte c ≡ true → InNumbers p → IfIn InNumbers (goes p c)
numbers_goes (BeforeNumber head) c f i = in_ways InNumbers (is_blank c) _ _ (λ _. tt) (λ _. numbered_in InNumbers head (encode_utf8 c) (number_start c) (λ place. tt))
numbers_goes (InNumber head place text) c f i =
    in_ways InNumbers (is_number_end place && is_blank c) _ _ (λ e. absurd (field_not_blank c f (no_blank_is (is_number_end place) (is_blank c) e)))
    (λ _. numbered_in InNumbers head (text ++ encode_utf8 c) (number_next place c) (λ place. tt))
numbers_goes _ c f i = absurd i

-- behind a number and blanks
abbrev InTimes : LineCursor → Type 0
InTimes (AfterNumber m) = Unit {0}
InTimes (AfterSign m text) = Unit {0}
InTimes (InTime m text count) = Unit {0}
InTimes (AfterTime m text) = Unit {0}
InTimes _ = ⊥

times_goes : (p : LineCursor) (c : ℕ) → any c ≡ true → InTimes p → IfIn InTimes (goes p c)
times_goes (AfterNumber m) c a i =
    in_ways InTimes (is_blank c) _ _ (λ _. tt) (λ _. in_ways InTimes (is_sign c) _ _ (λ _. tt) (λ _. in_ways InTimes (is_ascii_digit c) _ _ (λ _. tt) (λ _. tt)))
times_goes (AfterSign m text) c a i = in_ways InTimes (is_ascii_digit c) _ _ (λ _. tt) (λ _. tt)
times_goes (InTime m text count) c a i = in_ways InTimes (is_blank c) _ _ (λ _. tt) (λ _. in_ways InTimes (is_ascii_digit c && nat_lt count 18) _ _ (λ _. tt) (λ _. tt))
times_goes (AfterTime m text) c a i = in_ways InTimes (is_blank c) _ _ (λ _. tt) (λ _. tt)
times_goes _ c a i = absurd i

-- behind a list
abbrev BehindLists : LineCursor → Type 0
BehindLists (AfterList head) = Unit {0}
BehindLists (BeforeNumber head) = Unit {0}
BehindLists (InNumber head place text) = Unit {0}
BehindLists (AfterNumber m) = Unit {0}
BehindLists (AfterSign m text) = Unit {0}
BehindLists (InTime m text count) = Unit {0}
BehindLists (AfterTime m text) = Unit {0}
BehindLists _ = ⊥

lists_goes : (p : LineCursor) (c : ℕ) → any c ≡ true → BehindLists p → IfIn BehindLists (goes p c)
lists_goes (AfterList head) c a i = in_ways BehindLists (is_blank c) _ _ (λ _. tt) (λ _. tt)
lists_goes (BeforeNumber head) c a i = in_ways BehindLists (is_blank c) _ _ (λ _. tt) (λ _. numbered_in BehindLists head (encode_utf8 c) (number_start c) (λ place. tt))
lists_goes (InNumber head place text) c a i =
    in_ways BehindLists (is_number_end place && is_blank c) _ _ (λ _. tt) (λ _. numbered_in BehindLists head (text ++ encode_utf8 c) (number_next place c) (λ place. tt))
lists_goes (AfterNumber m) c a i =
    in_ways BehindLists (is_blank c) _ _ (λ _. tt) (λ _. in_ways BehindLists (is_sign c) _ _ (λ _. tt) (λ _. in_ways BehindLists (is_ascii_digit c) _ _ (λ _. tt) (λ _. tt)))
lists_goes (AfterSign m text) c a i = in_ways BehindLists (is_ascii_digit c) _ _ (λ _. tt) (λ _. tt)
lists_goes (InTime m text count) c a i =
    in_ways BehindLists (is_blank c) _ _ (λ _. tt) (λ _. in_ways BehindLists (is_ascii_digit c && nat_lt count 18) _ _ (λ _. tt) (λ _. tt))
lists_goes (AfterTime m text) c a i = in_ways BehindLists (is_blank c) _ _ (λ _. tt) (λ _. tt)
lists_goes _ c a i = absurd i

-- within a list, from which a way leads only out of its end
abbrev InLists : LineCursor → Type 0
InLists (BeforeLabel head) = Unit {0}
InLists (InLabel head name) = Unit {0}
InLists (BeforeEqual head name) = Unit {0}
InLists (BeforeQuote head name) = Unit {0}
InLists (InValue head name value) = Unit {0}
InLists (InEscape head name value) = Unit {0}
InLists (AfterValue head) = Unit {0}
InLists _ = ⊥

abbrev InOrAfter : LineCursor → Type 0
InOrAfter p = InLists p ⊎ ((head : LineHead) × (p ≡ AfterList head))

equal_in : (head : LineHead) (name : List ℕ) (c : ℕ) → IfIn InOrAfter (before_equal head name c)
equal_in head name c = in_ways InOrAfter (is_blank c) _ _ (λ _. inl tt) (λ _. in_ways InOrAfter (c == code "=") _ _ (λ _. inl tt) (λ _. tt))

labels_goes : (p : LineCursor) (c : ℕ) → InLists p → IfIn InOrAfter (goes p c)
labels_goes (BeforeLabel head) c i =
    in_ways InOrAfter (is_blank c) _ _ (λ _. inl tt) (λ _. in_ways InOrAfter (c == code "}") _ _ (λ _. inr (head, refl)) (λ _. in_ways InOrAfter (is_letter c) _ _ (λ _. inl tt) (λ _. tt)))
labels_goes (InLabel head name) c i =
    in_ways InOrAfter (is_label_byte c) _ _ (λ _. inl tt) (λ _. in_ways InOrAfter (stands_before head name) _ _ (λ _. tt) (λ _. equal_in head name c))
labels_goes (BeforeEqual head name) c i = equal_in head name c
labels_goes (BeforeQuote head name) c i = in_ways InOrAfter (is_blank c) _ _ (λ _. inl tt) (λ _. in_ways InOrAfter (c == code "\"") _ _ (λ _. inl tt) (λ _. tt))
labels_goes (InValue head name value) c i =
    in_ways InOrAfter (c == code "\"") _ _ (λ _. inl tt) (λ _. in_ways InOrAfter (c == code "\\") _ _ (λ _. inl tt) (λ _. inl tt))
labels_goes (InEscape head name value) c i = inl tt
labels_goes (AfterValue head) c i =
    in_ways InOrAfter (is_blank c) _ _ (λ _. inl tt) (λ _. in_ways InOrAfter (c == code ",") _ _ (λ _. inl tt) (λ _. in_ways InOrAfter (c == code "}") _ _ (λ _. inr (head, refl)) (λ _. tt)))
labels_goes _ c i = absurd i

-- a front that leads to the end of the list
record ListEnds (p : LineCursor) (t : List ℕ) : Type 0 where
  front : List ℕ
  rest : List ℕ
  head : LineHead
  parts : t ≡ front ++ rest
  led : way p front ≡ comes (AfterList head)

in_or_ends : (t : List ℕ) (p q : LineCursor) → InLists p → way p t ≡ comes q → InLists q ⊎ ListEnds p t
in_or_ends [] p q i h = let same : p ≡ q = cc in inl (subst InLists same i)
in_or_ends (c ∷ cs) p q i h = on (goes p c) refl (labels_goes p c i) (λ next a k. in_or_ends cs next q a k) h where
  further : (next : LineCursor) → goes p c ≡ Some next → InLists q ⊎ ListEnds next cs → InLists q ⊎ ListEnds p (c ∷ cs)
  further next e (inl k) = inl k
  further next e (inr k) = inr (record {
    front = c ∷ k.front;
    rest = k.rest;
    head = k.head;
    parts = ap (λ x. c ∷ x) k.parts;
    led = ap (λ o. way_on o (fault_at p) (λ next. way next k.front)) e ∙ k.led;
  })

  on : (o : Option LineCursor) → goes p c ≡ o → IfIn InOrAfter o → ((next : LineCursor) → InLists next → way next cs ≡ comes q → InLists q ⊎ ListEnds next cs) →
      way_on o (fault_at p) (λ next. way next cs) ≡ comes q → InLists q ⊎ ListEnds p (c ∷ cs)
  on None e a again k = absurd cc
  on (Some next) e (inl a) again k = further next e (again next a k)
  on (Some next) e (inr a) again k = inr (record {
    front = c ∷ [];
    rest = cs;
    head = a.0;
    parts = refl;
    led = ap (λ o. way_on o (fault_at p) (λ next. way next [])) e ∙ ap comes a.1;
  })

apart : (p : LineCursor) → InLists p → BehindLists p → ⊥
apart (BeforeLabel head) i b = b
apart (InLabel head name) i b = b
apart (BeforeEqual head name) i b = b
apart (BeforeQuote head name) i b = b
apart (InValue head name value) i b = b
apart (InEscape head name value) i b = b
apart (AfterValue head) i b = b
apart _ i b = i

-- Parts of texts
joins : (p q r : LineCursor) (P X : List ℕ → Type 0) (t : List ℕ) (h : Then P X t) → Leads p q h.front → Leads q r h.rest → Leads p r t
joins p q r P X t h f g = subst (Leads p r) (sym h.parts) (follows p q r h.front h.rest f g)

flat : (P Q R : List ℕ → Type 0) (t : List ℕ) → Then P (Then Q R) t → Then (Then P Q) R t
flat P Q R t h = record {
  front = h.front ++ h.second.front;
  rest = h.second.rest;
  parts = h.parts ∙ ap (λ x. h.front ++ x) h.second.parts ∙ sym (append_assoc h.front h.second.front h.second.rest);
  first = record { front = h.front; rest = h.second.front; parts = refl; first = h.first; second = h.second.first };
  second = h.second.second;
}

-- a part that is something more
first_is : (P Q X : List ℕ → Type 0) (t : List ℕ) → Then P X t → ((u : List ℕ) → P u → Q u) → Then Q X t
first_is P Q X t h f = record { front = h.front; rest = h.rest; parts = h.parts; first = f h.front h.first; second = h.second }

-- what stands behind the first part is any text
behind_first : (P Q X : List ℕ → Type 0) (t : List ℕ) → Then P X t → ((u : List ℕ) → P u → Then Q Any u) → Then Q Any t
behind_first P Q X t h f = let k = f h.front h.first in record {
  front = k.front;
  rest = k.rest ++ h.rest;
  parts = h.parts ∙ ap (λ x. x ++ h.rest) k.parts ∙ append_assoc k.front k.rest h.rest;
  first = k.first;
  second = tt;
}

any_rest : (P X : List ℕ → Type 0) (t : List ℕ) → Then P X t → Then P Any t
any_rest P X t h = change P X Any t h (λ r x. tt)

-- What is known where a way comes to
shape_at : (t : List ℕ) (q : LineCursor) → way Start t ≡ comes q → Shape q t
shape_at t q h = subst (λ w. shapes.IfComes w t) h (way_shape t Start [] refl)

good_at : (t : List ℕ) (q : LineCursor) → way Start t ≡ comes q → Good q
good_at t q h = subst sound.IfComes h (way_good t Start tt)

pub told_at : (t : List ℕ) (q : LineCursor) → way Start t ≡ comes q → Told q t
told_at t q h = subst (λ w. told.IfComes w t) h (way_told t Start [] refl)

listed_at : (t : List ℕ) (head : LineHead) → way Start t ≡ comes (AfterList head) → ListedHead t
listed_at t head h = let s = shape_at t (AfterList head) h in record { head = head; name = s.name; names = good_at t (AfterList head) h; parts = s.text }

twice_at : (t : List ℕ) (head : LineHead) (n : List ℕ) → stands_before head n ≡ true → way Start t ≡ comes (InLabel head n) → IsBehindTwice t
twice_at t head n b h =
    let s = shape_at t (InLabel head n) h in
    let g = good_at t (InLabel head n) h in
    record {
      head = head;
      label = n;
      name = s.name;
      names = g.0;
      is_label = g.1;
      before = b;
      parts = flat (Blanks ▸ Is head.name ▸ OpenList head.labels) Blanks (Is n) t (flat (Blanks ▸ Is head.name) (OpenList head.labels) (Blanks ▸ Is n) t s.text);
    }

-- Where the parts lead
start_blank : (c : ℕ) → is_blank c ≡ true → goes Start c ≡ Some Start
start_blank c e = yes (is_blank c) _ _ e

name_leads : (t : List ℕ) → (Blanks ▸ Name) t → (n : List ℕ) × Leads Start (InName n) t
name_leads t h = (h.rest, joins Start Start (InName h.rest) Blanks Name t h (leads_blanks Start start_blank h.front h.first) (starts_name h.rest h.second))

word_leads : (w : FamilyWord) → Leads Gap (Keyword (word_text w)) (word_text w)
unfolding encoded
word_leads word.Help = λ rest. refl
word_leads word.Type = λ rest. refl

word_after : (w : FamilyWord) → after_keyword (word_text w) ≡ BeforeFamily w
word_after word.Help = refl
word_after word.Type = refl

comment_leads : (w : FamilyWord) (t : List ℕ) → Comment (word_text w) t → Leads Start (Keyword (word_text w)) t
comment_leads w t h =
    joins Start Gap (Keyword (word_text w)) (Blanks ▸ Is (codes "#") ▸ SomeBlanks) (Is (word_text w)) t h
    (joins Start Hash Gap (Blanks ▸ Is (codes "#")) SomeBlanks h.front h.first
    (joins Start Start Hash Blanks (Is (codes "#")) h.first.front h.first.first (leads_blanks Start start_blank h.first.first.front h.first.first.first)
    (leads_is Start Hash (codes "#") h.first.first.rest (steps Start Hash (code "#") refl) h.first.first.second))
    (leads_some Hash Gap (λ c e. yes (is_blank c) _ _ e) (λ c e. yes (is_blank c) _ _ e) h.first.rest h.first.second))
    (leads_is Gap (Keyword (word_text w)) (word_text w) h.rest (word_leads w) h.second)

keyword_blank : (w : FamilyWord) (c : ℕ) → is_blank c ≡ true → goes (Keyword (word_text w)) c ≡ Some (BeforeFamily w)
keyword_blank w c e = yes (is_blank c) _ _ e ∙ ap Some (word_after w)

family_leads : (w : FamilyWord) (t : List ℕ) → (Comment (word_text w) ▸ SomeBlanks) t → Leads Start (BeforeFamily w) t
family_leads w t h =
    joins Start (Keyword (word_text w)) (BeforeFamily w) (Comment (word_text w)) SomeBlanks t h (comment_leads w h.front h.first)
    (leads_some (Keyword (word_text w)) (BeforeFamily w) (keyword_blank w) (λ c e. yes (is_blank c) _ _ e) h.rest h.second)

leads_family : (w : FamilyWord) (n cs : List ℕ) → list_all is_metric_byte cs ≡ true → Leads (InFamily w n) (InFamily w (n ++ cs)) cs
leads_family w n [] h = subst (λ m. Leads (InFamily w n) (InFamily w m) []) (sym (append-nil n)) (stays (InFamily w n))
leads_family w n (c ∷ cs) h =
    let k = both (is_metric_byte c) (list_all is_metric_byte cs) h in
    let on : goes (InFamily w n) c ≡ Some (InFamily w (n ++ c ∷ [])) =
    no (is_blank c) _ _ (metric_not_blank c k.0) ∙ yes (is_metric_byte c) _ _ k.0 ∙ ap (λ x. Some (InFamily w (n ++ x))) (encode_ascii c (metric_byte_small c k.0)) in
    subst (λ m. Leads (InFamily w n) (InFamily w m) (c ∷ cs)) (append_assoc n (c ∷ []) cs)
    (follows (InFamily w n) (InFamily w (n ++ c ∷ [])) (InFamily w ((n ++ c ∷ []) ++ cs)) (c ∷ []) cs (steps (InFamily w n) (InFamily w (n ++ c ∷ [])) c on) (leads_family w (n ++ c ∷ []) cs k.1))

starts_family : (w : FamilyWord) (n : List ℕ) → is_metric_name n ≡ true → Leads (BeforeFamily w) (InFamily w n) n
starts_family w [] h = cc
starts_family w (c ∷ cs) h =
    let k = both (is_metric_letter c) (list_all is_metric_byte cs) h in
    let byte : is_metric_byte c ≡ true = metric_letter_byte c k.0 in
    let first : goes (BeforeFamily w) c ≡ Some (InFamily w (c ∷ [])) =
    no (is_blank c) _ _ (metric_not_blank c byte) ∙ yes (is_metric_letter c) _ _ k.0 ∙ ap (λ x. Some (InFamily w x)) (encode_ascii c (metric_byte_small c byte)) in
    follows (BeforeFamily w) (InFamily w (c ∷ [])) (InFamily w (c ∷ cs)) (c ∷ []) cs (steps (BeforeFamily w) (InFamily w (c ∷ [])) c first) (leads_family w (c ∷ []) cs k.1)

named_leads : (w : FamilyWord) (t : List ℕ) → (Comment (word_text w) ▸ SomeBlanks ▸ Name) t → (n : List ℕ) × Leads Start (InFamily w n) t
named_leads w t h =
    (h.rest, joins Start (BeforeFamily w) (InFamily w h.rest) (Comment (word_text w) ▸ SomeBlanks) Name t h (family_leads w h.front h.first) (starts_family w h.rest h.second))

-- the head of a sample
record HeadLed (t : List ℕ) : Type 0 where
  head : LineHead
  place : LineCursor
  led : Leads Start place t
  blank : (c : ℕ) → is_blank c ≡ true → goes place c ≡ Some (BeforeNumber head)

head_name : (head : LineHead) (t : List ℕ) → is_metric_name head.name ≡ true → (Blanks ▸ Is head.name) t → Leads Start (InName head.name) t
head_name head t n h =
    joins Start Start (InName head.name) Blanks (Is head.name) t h (leads_blanks Start start_blank h.front h.first) (leads_is Start (InName head.name) head.name h.rest (starts_name head.name n) h.second)

head_leads : (t : List ℕ) → SampleHead t → HeadLed t
head_leads t h =
    let l = list_leads h.head.name h.head.labels h.parts.rest h.names h.parts.second in
    record {
      head = h.head;
      place = l.place;
      led = joins Start (InName h.head.name) l.place (Blanks ▸ Is h.head.name) (LabelList h.head.labels) t h.parts (head_name h.head h.parts.front h.name h.parts.first) l.led;
      blank = l.blank;
    }

listed_leads : (t : List ℕ) (h : ListedHead t) → Leads Start (AfterList h.head) t
listed_leads t h =
    let l = list_leads h.head.name h.head.labels h.parts.rest h.names h.parts.second.list in
    joins Start (InName h.head.name) (AfterList h.head) (Blanks ▸ Is h.head.name) (Braces h.head.labels) t h.parts (head_name h.head h.parts.front h.name h.parts.first)
    (subst (λ p. Leads (InName h.head.name) p h.parts.rest) (l.braced h.parts.second.some) l.led)

gap_leads : (t : List ℕ) → (SampleHead ▸ SomeBlanks) t → (head : LineHead) × Leads Start (BeforeNumber head) t
gap_leads t h =
    let l = head_leads h.front h.first in
    (l.head, joins Start l.place (BeforeNumber l.head) SampleHead SomeBlanks t h l.led (leads_some l.place (BeforeNumber l.head) l.blank (λ c e. yes (is_blank c) _ _ e) h.rest h.second))

number_blanks : (t : List ℕ) → (SampleHead ▸ SomeBlanks ▸ IsNumberText ▸ SomeBlanks) t → (m : Measured) × Leads Start (AfterNumber m) t
number_blanks t h =
    let g = gap_leads h.first.front h.first.first in
    let n = number_leads g.0 h.first.rest h.first.second in
    let m : Measured = record { head = g.0; number = h.first.rest } in (
      m,
      joins Start (InNumber g.0 n.place h.first.rest) (AfterNumber m) (SampleHead ▸ SomeBlanks ▸ IsNumberText) SomeBlanks t h
          (joins Start (BeforeNumber g.0) (InNumber g.0 n.place h.first.rest) (SampleHead ▸ SomeBlanks) IsNumberText h.front h.first g.1 n.led)
          (leads_some (InNumber g.0 n.place h.first.rest) (AfterNumber m) (number_blank g.0 n.place h.first.rest n.end) (λ c e. yes (is_blank c) _ _ e) h.rest h.second),
    )

-- a list up to a label
open_leads : (name : List ℕ) (ps : List Pair) (t : List ℕ) → fault_after [] (pair_of metric_label name ∷ ps) ≡ None →
    OpenList ps t → Leads (InName name) (BeforeLabel (record { name = name; labels = ps })) t
open_leads name ps t d (opened u e) = leads_is (InName name) (BeforeLabel (bare name)) (codes "{") u (steps (InName name) (BeforeLabel (bare name)) (code "{") refl) e
open_leads name ps t d (continued qs u h) =
    let begun = BeforeLabel (record { name = name; labels = [] }) in
    let after = AfterValue (record { name = name; labels = qs }) in
    let again = BeforeLabel (record { name = name; labels = qs }) in
    joins (InName name) after again (Is (codes "{") ▸ Labels qs) (Is (codes ",")) u h
    (joins (InName name) begun after (Is (codes "{")) (Labels qs) h.front h.first (leads_is (InName name) begun (codes "{") h.first.front (steps (InName name) begun (code "{") refl) h.first.first) (labels_lead name qs h.first.rest d h.first.second))
    (leads_is after again (codes ",") h.rest (steps after again (code ",") refl) h.second)

twice_leads : (t : List ℕ) (h : IsBehindTwice t) → Leads Start (InLabel h.head h.label) t
twice_leads t h =
    let k = h.parts in
    joins Start (BeforeLabel h.head) (InLabel h.head h.label) (Blanks ▸ Is h.head.name ▸ OpenList h.head.labels ▸ Blanks) (Is h.label) t k
    (joins Start (BeforeLabel h.head) (BeforeLabel h.head) (Blanks ▸ Is h.head.name ▸ OpenList h.head.labels) Blanks k.front k.first
    (joins Start (InName h.head.name) (BeforeLabel h.head) (Blanks ▸ Is h.head.name) (OpenList h.head.labels) k.first.front k.first.first (head_name h.head k.first.first.front h.name k.first.first.first)
    (open_leads h.head.name h.head.labels k.first.first.rest h.names k.first.first.second))
    (leads_blanks (BeforeLabel h.head) (λ c e. yes (is_blank c) _ _ e) k.first.rest k.first.second))
    (leads_is (BeforeLabel h.head) (InLabel h.head h.label) h.label k.rest (starts_label h.head h.label h.is_label) k.second)

-- The kind of what is bad at a place, before a character or at the line's end
abbrev pub kind_at : Bool → LineCursor → ExpoKind
kind_at false q = fault_at q
kind_at true q = end_fault q

kind_by : (q0 q : LineCursor) (kind : ExpoKind) (is_end : Bool) → fault_at q0 ≡ kind → end_fault q0 ≡ kind → q0 ≡ q → kind_at is_end q ≡ kind
kind_by q0 q kind false f e same = ap fault_at (sym same) ∙ f
kind_by q0 q kind true f e same = ap end_fault (sym same) ∙ e

types_kind : (q : LineCursor) (is_end : Bool) → InTypes q → kind_at is_end q ≡ BadType
types_kind (BeforeType name) is_end i = kind_by (BeforeType name) (BeforeType name) BadType is_end refl refl refl
types_kind (InType name text) is_end i = kind_by (InType name text) (InType name text) BadType is_end refl refl refl
types_kind (AfterType name kind) is_end i = kind_by (AfterType name kind) (AfterType name kind) BadType is_end refl refl refl
types_kind _ is_end i = absurd i

numbers_kind : (q : LineCursor) (is_end : Bool) → InNumbers q → kind_at is_end q ≡ BadValue
numbers_kind (BeforeNumber head) is_end i = kind_by (BeforeNumber head) (BeforeNumber head) BadValue is_end refl refl refl
numbers_kind (InNumber head place text) is_end i = kind_by (InNumber head place text) (InNumber head place text) BadValue is_end refl refl refl
numbers_kind _ is_end i = absurd i

times_kind : (q : LineCursor) (is_end : Bool) → InTimes q → kind_at is_end q ≡ BadTime
times_kind (AfterNumber m) is_end i = kind_by (AfterNumber m) (AfterNumber m) BadTime is_end refl refl refl
times_kind (AfterSign m text) is_end i = kind_by (AfterSign m text) (AfterSign m text) BadTime is_end refl refl refl
times_kind (InTime m text count) is_end i = kind_by (InTime m text count) (InTime m text count) BadTime is_end refl refl refl
times_kind (AfterTime m text) is_end i = kind_by (AfterTime m text) (AfterTime m text) BadTime is_end refl refl refl
times_kind _ is_end i = absurd i

abbrev label_kind : Bool → ExpoKind
label_kind b = if b then DuplicateLabel else BadLabels

lists_kind : (q : LineCursor) (is_end : Bool) (t : List ℕ) → way Start t ≡ comes q → (IsBehindTwice t → ⊥) → InLists q → kind_at is_end q ≡ BadLabels
lists_kind (BeforeLabel head) is_end t h n i = kind_by (BeforeLabel head) (BeforeLabel head) BadLabels is_end refl refl refl
lists_kind (InLabel head name) is_end t h n i = by (stands_before head name) refl where
  by : (b : Bool) → stands_before head name ≡ b → kind_at is_end (InLabel head name) ≡ BadLabels
  by true e = absurd (n (twice_at t head name e h))
  by false e = kind_by (InLabel head name) (InLabel head name) BadLabels is_end (ap label_kind e) (ap label_kind e) refl
lists_kind (BeforeEqual head name) is_end t h n i = kind_by (BeforeEqual head name) (BeforeEqual head name) BadLabels is_end refl refl refl
lists_kind (BeforeQuote head name) is_end t h n i = kind_by (BeforeQuote head name) (BeforeQuote head name) BadLabels is_end refl refl refl
lists_kind (InValue head name value) is_end t h n i = kind_by (InValue head name value) (InValue head name value) BadLabels is_end refl refl refl
lists_kind (InEscape head name value) is_end t h n i = kind_by (InEscape head name value) (InEscape head name value) BadLabels is_end refl refl refl
lists_kind (AfterValue head) is_end t h n i = kind_by (AfterValue head) (AfterValue head) BadLabels is_end refl refl refl
lists_kind _ is_end t h n i = absurd i

twice_kind : (q : LineCursor) (is_end : Bool) (t : List ℕ) → IsBehindTwice t → way Start t ≡ comes q → kind_at is_end q ≡ DuplicateLabel
twice_kind q is_end t k h =
    kind_by (InLabel k.head k.label) q DuplicateLabel is_end (ap label_kind k.before) (ap label_kind k.before) (same_place Start (InLabel k.head k.label) q t (twice_leads t k) h)

-- a comment of one of the two words
first_word : (X : List ℕ → Type 0) (t : List ℕ) → (FamilyComment ▸ X) t → (w : FamilyWord) × (Comment (word_text w) ▸ X) t
first_word X t h = by h.first where
  by : FamilyComment h.front → (w : FamilyWord) × (Comment (word_text w) ▸ X) t
  by (inl k) = (word.Help, record { front = h.front; rest = h.rest; parts = h.parts; first = k; second = h.second })
  by (inr k) = (word.Type, record { front = h.front; rest = h.rest; parts = h.parts; first = k; second = h.second })

keyword_kind : (w : FamilyWord) (u : List ℕ) (q : LineCursor) (is_end : Bool) → Blanks u → way (Keyword (word_text w)) u ≡ comes q → kind_at is_end q ≡ BadName
keyword_kind w [] q is_end b h = let same : Keyword (word_text w) ≡ q = cc in kind_by (Keyword (word_text w)) q BadName is_end refl refl same
keyword_kind w (c ∷ cs) q is_end b h =
    kind_by (BeforeFamily w) q BadName is_end refl refl
    (same_place (Keyword (word_text w)) (BeforeFamily w) q (c ∷ cs) (leads_some (Keyword (word_text w)) (BeforeFamily w) (keyword_blank w) (λ d e. yes (is_blank d) _ _ e) (c ∷ cs) (record { some = omega arith; blanks = b })) h)

-- within a list that is not whole
within_kind : (q : LineCursor) (is_end : Bool) (t : List ℕ) → IsWithinList t → (IsBehindTwice t → ⊥) → way Start t ≡ comes q → kind_at is_end q ≡ BadLabels
within_kind q is_end t w n h = by (in_or_ends k.rest (BeforeLabel (bare m.0)) q tt (rest_of Start (BeforeLabel (bare m.0)) q (Blanks ▸ Name ▸ Is (codes "{")) Any t k begun h)) where
  k : (Blanks ▸ Name ▸ Is (codes "{") ▸ Any) t
  k = w.behind

  m : (n : List ℕ) × Leads Start (InName n) k.first.front
  m = name_leads k.first.front k.first.first

  begun : Leads Start (BeforeLabel (bare m.0)) k.front
  begun =
      joins Start (InName m.0) (BeforeLabel (bare m.0)) (Blanks ▸ Name) (Is (codes "{")) k.front k.first m.1
      (leads_is (InName m.0) (BeforeLabel (bare m.0)) (codes "{") k.first.rest (steps (InName m.0) (BeforeLabel (bare m.0)) (code "{") refl) k.first.second)

  whole : ListEnds (BeforeLabel (bare m.0)) k.rest → (ListedHead ▸ Any) t
  whole e = record {
    front = k.front ++ e.front;
    rest = e.rest;
    parts = k.parts ∙ ap (λ x. k.front ++ x) e.parts ∙ sym (append_assoc k.front e.front e.rest);
    first = listed_at (k.front ++ e.front) e.head (begun e.front ∙ e.led);
    second = tt;
  }

  by : InLists q ⊎ ListEnds (BeforeLabel (bare m.0)) k.rest → kind_at is_end q ≡ BadLabels
  by (inl i) = lists_kind q is_end t h n i
  by (inr e) = absurd (w.unclosed (whole e))

-- What stands before a place tells the kind of what is bad there.
pub kind_of : (kind : ExpoKind) (is_end : Bool) (t : List ℕ) (q : LineCursor) → IsFault kind is_end t → way Start t ≡ comes q → kind_at is_end q ≡ kind
kind_of kind is_end t q (no_name u b) h = ap fault_at (sym (same_place Start Start q u (leads_blanks Start start_blank u b) h))
kind_of kind is_end t q (in_name u n) h = let l = name_leads u n in ap fault_at (sym (same_place Start (InName l.0) q u l.1 h))
kind_of kind is_end t q (no_family e u f) h =
    let k = first_word Blanks u f in
    keyword_kind k.0 k.1.rest q e k.1.second (rest_of Start (Keyword (word_text k.0)) q (Comment (word_text k.0)) Blanks u k.1 (comment_leads k.0 k.1.front k.1.first) h)
kind_of kind is_end t q (in_family u f) h =
    let k = first_word SomeBlanks f.front f.first in
    let l = named_leads k.0 u (record { front = f.front; rest = f.rest; parts = f.parts; first = k.1; second = f.second }) in
    ap fault_at (sym (same_place Start (InFamily k.0 l.0) q u l.1 h))
kind_of kind is_end t q (no_type u f) h = let l = named_leads word.Type u f in ap end_fault (sym (same_place Start (InFamily word.Type l.0) q u l.1 h))
kind_of kind is_end t q (in_type e u f) h =
    let l = named_leads word.Type f.first.front f.first.first in
    let led : Leads Start (BeforeType l.0) f.front =
    joins Start (InFamily word.Type l.0) (BeforeType l.0) (Comment (codes "TYPE") ▸ SomeBlanks ▸ Name) SomeBlanks f.front f.first l.1
    (leads_some (InFamily word.Type l.0) (BeforeType l.0) (λ c i. yes (is_blank c) _ _ i) (λ c i. yes (is_blank c) _ _ i) f.first.rest f.first.second) in
    types_kind q e
    (stay_in InTypes any types_goes f.rest (BeforeType l.0) q (all_any f.rest) tt (rest_of Start (BeforeType l.0) q (Comment (codes "TYPE") ▸ SomeBlanks ▸ Name ▸ SomeBlanks) Any u f led h))
kind_of kind is_end t q (in_list e u w n) h = within_kind q e u w n h
kind_of kind is_end t q (twice e u k) h = twice_kind q e u k h
kind_of kind is_end t q (no_value u n) h = let l = name_leads u n in ap end_fault (sym (same_place Start (InName l.0) q u l.1 h))
kind_of kind is_end t q (behind_list e u k) h = kind_by (AfterList k.head) q BadValue e refl refl (same_place Start (AfterList k.head) q u (listed_leads u k) h)
kind_of kind is_end t q (in_value e u k) h =
    let l = gap_leads k.front k.first in
    numbers_kind q e (stay_in InNumbers is_field_byte numbers_goes k.rest (BeforeNumber l.0) q k.second tt (rest_of Start (BeforeNumber l.0) q (SampleHead ▸ SomeBlanks) NoBlanks u k l.1 h))
kind_of kind is_end t q (behind_number e u k) h =
    let l = number_blanks k.front k.first in
    times_kind q e (stay_in InTimes any times_goes k.rest (AfterNumber l.0) q (all_any k.rest) tt (rest_of Start (AfterNumber l.0) q (SampleHead ▸ SomeBlanks ▸ IsNumberText ▸ SomeBlanks) Any u k l.1 h))

-- What a line is that stops at a place
never : (b : Bool) (x y : LineCursor) → (if b then Some x else Some y) ≡ None → ⊥
never true x y h = cc
never false x y h = cc

-- where no line goes on with some character, or ends
abbrev pub Stuck : Bool → LineCursor → Type 0
Stuck false q = (c : ℕ) × (goes q c ≡ None)
Stuck true q = ends q ≡ None

-- the head of a sample, and what stands behind it
sample_head : (head : LineHead) (t : List ℕ) → is_metric_name head.name ≡ true → HasDistinctNames head → (Blanks ▸ Is head.name ▸ LabelList head.labels) t → SampleHead t
sample_head head t n d p = record { head = head; name = n; names = d; parts = p }

gap_of : (head : LineHead) (t : List ℕ) → is_metric_name head.name ≡ true → HasDistinctNames head → (Blanks ▸ Is head.name ▸ LabelList head.labels ▸ SomeBlanks) t → (SampleHead ▸ SomeBlanks) t
gap_of head t n d p = first_is (Blanks ▸ Is head.name ▸ LabelList head.labels) SampleHead SomeBlanks t p (λ u k. sample_head head u n d k)

behind_of : (m : Measured) (X : List ℕ → Type 0) (t : List ℕ) → sound.IsMeasured m → shapes.HasNumber m X t → ((u : List ℕ) → X u → (SomeBlanks ▸ Any) u) → (SampleHead ▸ SomeBlanks ▸ IsNumberText ▸ SomeBlanks ▸ Any) t
behind_of m X t g s f =
    flat (SampleHead ▸ SomeBlanks ▸ IsNumberText) SomeBlanks Any t
    (change (SampleHead ▸ SomeBlanks ▸ IsNumberText) X (SomeBlanks ▸ Any) t
    (first_is (Blanks ▸ Is m.head.name ▸ LabelList m.head.labels ▸ SomeBlanks ▸ Is m.number) (SampleHead ▸ SomeBlanks ▸ IsNumberText) X t s.text
    (λ u k. change (SampleHead ▸ SomeBlanks) (Is m.number) IsNumberText u
    (first_is (Blanks ▸ Is m.head.name ▸ LabelList m.head.labels ▸ SomeBlanks) (SampleHead ▸ SomeBlanks) (Is m.number) u k (λ v j. gap_of m.head v s.name g.distinct j))
    (λ v i. subst IsNumberText (sym i) g.number)))
    f)

-- within a list
named_of : (n t : List ℕ) → is_metric_name n ≡ true → (Blanks ▸ Is n) t → (Blanks ▸ Name) t
named_of n t h s = change Blanks (Is n) Name t s (λ u i. ap is_metric_name i ∙ h)

list_of : (head : LineHead) (X : List ℕ → Type 0) (t : List ℕ) → HasShape head X t → ((u : List ℕ) → X u → (Is (codes "{") ▸ Any) u) → (Blanks ▸ Name ▸ Is (codes "{") ▸ Any) t
list_of head X t s f =
    flat (Blanks ▸ Name) (Is (codes "{")) Any t
    (change (Blanks ▸ Name) X (Is (codes "{") ▸ Any) t (first_is (Blanks ▸ Is head.name) (Blanks ▸ Name) X t s.text (λ u k. named_of head.name u s.name k)) f)

open_any : (ps : List Pair) (t : List ℕ) → OpenList ps t → (Is (codes "{") ▸ Any) t
open_any ps t (opened u e) = none (Is (codes "{")) Any u e tt
open_any ps t (continued qs u h) = behind_first (Is (codes "{") ▸ Labels qs) (Is (codes "{")) (Is (codes ",")) u h (λ v k. any_rest (Is (codes "{")) (Labels qs) v k)

begun_any : (ps : List Pair) (X : List ℕ → Type 0) (t : List ℕ) → Then (OpenList ps) X t → (Is (codes "{") ▸ Any) t
begun_any ps X t h = behind_first (OpenList ps) (Is (codes "{")) X t h (λ u k. open_any ps u k)

list_begun : (q : LineCursor) (t : List ℕ) → InLists q → Shape q t → (Blanks ▸ Name ▸ Is (codes "{") ▸ Any) t
list_begun (BeforeLabel head) t i s = list_of head _ t s (λ u k. begun_any head.labels _ u k)
list_begun (InLabel head n) t i s = list_of head _ t s (λ u k. begun_any head.labels _ u k)
list_begun (BeforeEqual head n) t i s = list_of head _ t s (λ u k. begun_any head.labels _ u k)
list_begun (BeforeQuote head n) t i s = list_of head _ t s (λ u k. begun_any head.labels _ u k)
list_begun (InValue head n v) t i s = list_of head _ t s (λ u k. begun_any head.labels _ u k)
list_begun (InEscape head n v) t i s = list_of head _ t s (λ u k. begun_any head.labels _ u k)
list_begun (AfterValue head) t i s = list_of head _ t s (λ u k. any_rest (Is (codes "{")) (Labels head.labels) u k)
list_begun _ t i s = absurd i

list_within : (q : LineCursor) (t : List ℕ) → InLists q → way Start t ≡ comes q → IsWithinList t
list_within q t i h = record {
  behind = list_begun q t i (shape_at t q h);
  unclosed = λ k. apart q i (stay_in BehindLists any lists_goes k.rest (AfterList k.first.head) q (all_any k.rest) tt (rest_of Start (AfterList k.first.head) q ListedHead Any t k (listed_leads k.front k.first) h));
}

not_twice : (q : LineCursor) (is_end : Bool) (t : List ℕ) → way Start t ≡ comes q → kind_at is_end q ≡ BadLabels → IsBehindTwice t → ⊥
not_twice q is_end t h e k = let both_kinds : DuplicateLabel ≡ BadLabels = sym (twice_kind q is_end t k h) ∙ e in cc

list_fault : (q : LineCursor) (is_end : Bool) (t : List ℕ) → InLists q → way Start t ≡ comes q → kind_at is_end q ≡ BadLabels → IsFault (kind_at is_end q) is_end t
list_fault q is_end t i h e = subst (λ k. IsFault k is_end t) (sym e) (in_list is_end t (list_within q t i h) (not_twice q is_end t h e))

label_fault : (head : LineHead) (n : List ℕ) (is_end : Bool) (t : List ℕ) → way Start t ≡ comes (InLabel head n) → IsFault (kind_at is_end (InLabel head n)) is_end t
label_fault head n is_end t h = by (stands_before head n) refl where
  by : (b : Bool) → stands_before head n ≡ b → IsFault (kind_at is_end (InLabel head n)) is_end t
  by true e =
      let k = twice_at t head n e h in
      subst (λ x. IsFault x is_end t) (sym (twice_kind (InLabel head n) is_end t k h)) (twice is_end t k)
  by false e = list_fault (InLabel head n) is_end t tt h (kind_by (InLabel head n) (InLabel head n) BadLabels is_end (ap label_kind e) (ap label_kind e) refl)

-- a comment that ends with its first word
keyword_fault : (text t : List ℕ) → Told (Keyword text) t → ends (Keyword text) ≡ None → IsFault BadName true t
keyword_fault text t s h = by (bytes_eq text (codes "HELP")) (bytes_eq text (codes "TYPE")) refl refl h where
  is_word : (word : List ℕ) → ((cs : List ℕ) → Spells word cs → cs ≡ word) → text ≡ word → Comment word t
  is_word word f e = change (Blanks ▸ Is (codes "#") ▸ SomeBlanks) (Spells text) (Is word) t s (λ u k. f u (k ∙ e))

  by : (a b : Bool) → bytes_eq text (codes "HELP") ≡ a → bytes_eq text (codes "TYPE") ≡ b →
      keyword_end (if a then BeforeFamily word.Help else (if b then BeforeFamily word.Type else Passed)) ≡ None → IsFault BadName true t
  by true b e f k = no_family true t (none FamilyComment Blanks t (inl (is_word (codes "HELP") spells_help ((bytes_eq-Decides text (codes "HELP")).0 e))) refl)
  by false true e f k = no_family true t (none FamilyComment Blanks t (inr (is_word (codes "TYPE") spells_type ((bytes_eq-Decides text (codes "TYPE")).0 f))) refl)
  by false false e f k = absurd cc

family_of : (w : FamilyWord) (t : List ℕ) → Comment (word_text w) t → FamilyComment t
family_of word.Help t k = inl k
family_of word.Type t k = inr k

before_family_fault : (w : FamilyWord) (is_end : Bool) (t : List ℕ) → Told (BeforeFamily w) t → IsFault BadName is_end t
before_family_fault w is_end t s =
    no_family is_end t (change FamilyComment SomeBlanks Blanks t (first_is (Comment (word_text w)) FamilyComment SomeBlanks t s (λ u k. family_of w u k)) (λ u b. b.blanks))

named_family : (w : FamilyWord) (name t : List ℕ) → Told (InFamily w name) t → (Comment (word_text w) ▸ SomeBlanks ▸ Name) t
named_family w name t s = change (Comment (word_text w) ▸ SomeBlanks) (Is name) Name t s.1 (λ u i. ap is_metric_name i ∙ s.0)

in_family_fault : (w : FamilyWord) (name t : List ℕ) → Told (InFamily w name) t → IsFault BadName false t
in_family_fault w name t s =
    in_family t (first_is (Comment (word_text w) ▸ SomeBlanks) (FamilyComment ▸ SomeBlanks) Name t (named_family w name t s)
    (λ u k. first_is (Comment (word_text w)) FamilyComment SomeBlanks u k (λ v j. family_of w v j)))

before_number_fault : (head : LineHead) (is_end : Bool) (t : List ℕ) → way Start t ≡ comes (BeforeNumber head) → IsFault BadValue is_end t
before_number_fault head is_end t h =
    let s = shape_at t (BeforeNumber head) h in
    in_value is_end t (none (SampleHead ▸ SomeBlanks) NoBlanks t (gap_of head t s.name (good_at t (BeforeNumber head) h) s.text) refl)

in_number_fault : (head : LineHead) (place : NumberPlace) (text : List ℕ) (is_end : Bool) (t : List ℕ) → way Start t ≡ comes (InNumber head place text) → IsFault BadValue is_end t
in_number_fault head place text is_end t h =
    let s = shape_at t (InNumber head place text) h in
    let g = good_at t (InNumber head place text) h in
    in_value is_end t (change (SampleHead ▸ SomeBlanks) (Is text) NoBlanks t
    (first_is (Blanks ▸ Is head.name ▸ LabelList head.labels ▸ SomeBlanks) (SampleHead ▸ SomeBlanks) (Is text) t s.text (λ u k. gap_of head u s.name g.0 k))
    (λ u i. ap (list_all is_field_byte) i ∙ told_at t (InNumber head place text) h))

sign_fault : (m : Measured) (text : List ℕ) (is_end : Bool) (t : List ℕ) → way Start t ≡ comes (AfterSign m text) → IsFault BadTime is_end t
sign_fault m text is_end t h =
    behind_number is_end t (behind_of m (SomeBlanks ▸ Is text) t (good_at t (AfterSign m text) h).measured (shape_at t (AfterSign m text) h) (λ u k. any_rest SomeBlanks (Is text) u k))

-- Where a line stops, what stands before the place is of the kind that is told of it.
pub fault_of : (is_end : Bool) (q : LineCursor) (t : List ℕ) → way Start t ≡ comes q → Stuck is_end q → IsFault (kind_at is_end q) is_end t
fault_of false Start t h s = no_name t (shape_at t Start h)
fault_of true Start t h s = absurd cc
fault_of false Hash t h s = absurd (never (is_blank s.0) Gap Passed s.1)
fault_of true Hash t h s = absurd cc
fault_of false Gap t h s = absurd (never (is_blank s.0) Gap (Keyword (encode_utf8 s.0)) s.1)
fault_of true Gap t h s = absurd cc
fault_of false (Keyword text) t h s = absurd (never (is_blank s.0) (after_keyword text) (Keyword (text ++ encode_utf8 s.0)) s.1)
fault_of true (Keyword text) t h s = keyword_fault text t (told_at t (Keyword text) h) s
fault_of false Passed t h s = let k : Some Passed ≡ None = s.1 in absurd cc
fault_of true Passed t h s = absurd cc
fault_of false (BeforeFamily w) t h s = before_family_fault w false t (told_at t (BeforeFamily w) h)
fault_of true (BeforeFamily w) t h s = before_family_fault w true t (told_at t (BeforeFamily w) h)
fault_of false (InFamily w name) t h s = in_family_fault w name t (told_at t (InFamily w name) h)
fault_of true (InFamily word.Help name) t h s = absurd cc
fault_of true (InFamily word.Type name) t h s = no_type t (named_family word.Type name t (told_at t (InFamily word.Type name) h))
fault_of false (InHelp name) t h s = let k : Some (InHelp name) ≡ None = s.1 in absurd cc
fault_of true (InHelp name) t h s = absurd cc
fault_of false (BeforeType name) t h s = in_type false t (told_at t (BeforeType name) h)
fault_of true (BeforeType name) t h s = in_type true t (told_at t (BeforeType name) h)
fault_of false (InType name text) t h s = in_type false t (told_at t (InType name text) h).1
fault_of true (InType name text) t h s = in_type true t (told_at t (InType name text) h).1
fault_of false (AfterType name kind) t h s = in_type false t (told_at t (AfterType name kind) h)
fault_of true (AfterType name kind) t h s = absurd cc
fault_of false (InName n) t h s = let k = shape_at t (InName n) h in in_name t (named_of n t k.name k.text)
fault_of true (InName n) t h s = let k = shape_at t (InName n) h in no_value t (named_of n t k.name k.text)
fault_of false (BeforeLabel head) t h s = list_fault (BeforeLabel head) false t tt h refl
fault_of true (BeforeLabel head) t h s = list_fault (BeforeLabel head) true t tt h refl
fault_of is_end (InLabel head n) t h s = label_fault head n is_end t h
fault_of false (BeforeEqual head n) t h s = list_fault (BeforeEqual head n) false t tt h refl
fault_of true (BeforeEqual head n) t h s = list_fault (BeforeEqual head n) true t tt h refl
fault_of false (BeforeQuote head n) t h s = list_fault (BeforeQuote head n) false t tt h refl
fault_of true (BeforeQuote head n) t h s = list_fault (BeforeQuote head n) true t tt h refl
fault_of false (InValue head n v) t h s = list_fault (InValue head n v) false t tt h refl
fault_of true (InValue head n v) t h s = list_fault (InValue head n v) true t tt h refl
fault_of false (InEscape head n v) t h s = list_fault (InEscape head n v) false t tt h refl
fault_of true (InEscape head n v) t h s = list_fault (InEscape head n v) true t tt h refl
fault_of false (AfterValue head) t h s = list_fault (AfterValue head) false t tt h refl
fault_of true (AfterValue head) t h s = list_fault (AfterValue head) true t tt h refl
fault_of false (AfterList head) t h s = behind_list false t (listed_at t head h)
fault_of true (AfterList head) t h s = behind_list true t (listed_at t head h)
fault_of false (BeforeNumber head) t h s = before_number_fault head false t h
fault_of true (BeforeNumber head) t h s = before_number_fault head true t h
fault_of false (InNumber head place text) t h s = in_number_fault head place text false t h
fault_of true (InNumber head place text) t h s = in_number_fault head place text true t h
fault_of false (AfterNumber m) t h s = behind_number false t (behind_of m SomeBlanks t (good_at t (AfterNumber m) h) (shape_at t (AfterNumber m) h) (λ u b. none SomeBlanks Any u b tt))
fault_of true (AfterNumber m) t h s = absurd cc
fault_of false (AfterSign m text) t h s = sign_fault m text false t h
fault_of true (AfterSign m text) t h s = sign_fault m text true t h
fault_of false (InTime m text count) t h s =
    behind_number false t (behind_of m (SomeBlanks ▸ Is text) t (good_at t (InTime m text count) h).measured (shape_at t (InTime m text count) h) (λ u k. any_rest SomeBlanks (Is text) u k))
fault_of true (InTime m text count) t h s = absurd cc
fault_of false (AfterTime m text) t h s =
    behind_number false t (behind_of m (SomeBlanks ▸ Is text ▸ Blanks) t (good_at t (AfterTime m text) h).0 (shape_at t (AfterTime m text) h)
    (λ u k. behind_first (SomeBlanks ▸ Is text) SomeBlanks Blanks u k (λ v j. any_rest SomeBlanks (Is text) v j)))
fault_of true (AfterTime m text) t h s = absurd cc
