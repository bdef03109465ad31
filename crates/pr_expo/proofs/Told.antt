-- What a line is so far, at each place of a comment that concerns a family; and that a number has
-- no blanks.
use Rattle.std.proofs.Common.{◌≡◌, refl, sym, ap, ◌∙◌, subst, ℕ, ◌<◌, List, [], ◌∷◌, ◌++◌, Bool, true, false, ◌&&◌, ◌||◌, Option, Some, None, append_assoc, append-nil, codes, encode_utf8, nat_lt, eqb-true}
use Prim.Native.Char.{code}
use Rattle.std.specs.Prelude.{◌==◌, if◌then◌else◌, not}
use Rattle.std.specs.Char.{is_ascii_digit, encode_utf8 as encoded}
use Rattle.std.specs.List.{list_all}
use Rattle.std.specs.Str.{bytes_eq, chars, encode_utf8_all}
use Rattle.std.proofs.lemmas.List.Folds.{list_all-append}
use Rattle.std.proofs.lemmas.Slice.Eq.{bytes_eq-Decides}
use Rattle.std.proofs.lemmas.Str.{chars_from_encodes, encode_ascii, encodes-append}
use Rattle.pr_labels.specs.Names.{is_metric_byte, is_metric_letter, is_metric_name}
use Rattle.pr_labels.specs.pr_words.Fields.{is_field_byte}
use Rattle.pr_labels.specs.pr_words.Bytes.{is_blank, is_label_byte, is_letter}
use Rattle.pr_expo.specs.Characters.{is_sign}
use Rattle.pr_expo.specs.declared.expo_line.number.NumberPlace.{NumberPlace}
use Rattle.pr_expo.specs.declared.expo_line.number.NumberPlace.TheVariants as np
use Rattle.pr_expo.specs.declared.expo_line.place.ExpoKind.{ExpoKind}
use Rattle.pr_expo.specs.declared.expo_line.place.FamilyKind.{FamilyKind}
use Rattle.pr_expo.specs.declared.expo_line.place.LineHead.{LineHead}
use Rattle.pr_expo.specs.declared.expo_line.place.LineCursor.{LineCursor}
use Rattle.pr_expo.specs.declared.expo_line.place.LineCursor.TheVariants.{Start, Hash, Gap, Keyword, Passed, BeforeFamily, InFamily, InHelp, BeforeType, InType, AfterType, InName, BeforeLabel, InLabel, BeforeEqual, BeforeQuote, InValue, InEscape, AfterValue, AfterList, BeforeNumber, InNumber, AfterNumber, AfterSign, InTime, AfterTime}
use Rattle.pr_expo.specs.declared.expo_line.place.FamilyWord.{FamilyWord}
use Rattle.pr_expo.specs.declared.expo_line.place.FamilyWord.TheVariants as word
use Rattle.pr_expo.specs.Line.{Way, after_family, after_keyword, before_equal, comes, fault_at, goes, grown, is_type_front, numbered, stands_before, stops, type_grown, type_of, typed, way, way_on}
use Rattle.pr_expo.specs.Number.{number_next, number_start, is_number_end}
use Rattle.pr_expo.specs.private.PlainLine.{◌▸◌, Blanks, Is, SomeBlanks}
use Rattle.pr_expo.specs.private.Faults.{Any, Comment, Name, NoBlanks}
use Rattle.pr_expo.proofs.Shapes.{add, blank_more, change, grow, is_more, is_one, metric_letter_small, metric_small, name_first, name_more, next_small, none, same_code, some_more, some_not_none, some_one, start_small}

-- characters with these bytes
abbrev pub Spells : List ℕ → List ℕ → Type 0
Spells text cs = encode_utf8_all cs ≡ text

abbrev pub word_text : FamilyWord → List ℕ
word_text word.Help = codes "HELP"
word_text word.Type = codes "TYPE"

abbrev pub OfType : List ℕ → Type 0
OfType = Comment (codes "TYPE") ▸ SomeBlanks ▸ Name ▸ SomeBlanks ▸ Any

abbrev pub Told : LineCursor → List ℕ → Type 0
Told Start t = Blanks t
Told Hash t = (Blanks ▸ Is (codes "#")) t
Told Gap t = (Blanks ▸ Is (codes "#") ▸ SomeBlanks) t
Told (Keyword text) t = (Blanks ▸ Is (codes "#") ▸ SomeBlanks ▸ Spells text) t
Told (BeforeFamily w) t = (Comment (word_text w) ▸ SomeBlanks) t
Told (InFamily w name) t = (is_metric_name name ≡ true) × (Comment (word_text w) ▸ SomeBlanks ▸ Is name) t
Told (BeforeType name) t = OfType t
Told (InType name text) t = (is_type_front text ≡ true) × OfType t
Told (AfterType name kind) t = OfType t
Told (InNumber head place text) t = NoBlanks text
Told _ t = Unit {0}

abbrev IfTold : Option LineCursor → List ℕ → Type 0
IfTold None t = Unit {0}
IfTold (Some place) t = Told place t

ways : (t : List ℕ) (b : Bool) (x y : Option LineCursor) → (b ≡ true → IfTold x t) → (b ≡ false → IfTold y t) → IfTold (if b then x else y) t
ways t true x y f g = f refl
ways t false x y f g = g refl

-- a word that has the bytes of an ASCII text is that text
pub spells_help : (cs : List ℕ) → Spells (codes "HELP") cs → cs ≡ codes "HELP"
unfolding chars encoded
spells_help cs h = chars_from_encodes cs (codes "HELP") (codes "HELP", (refl, refl)) h

pub spells_type : (cs : List ℕ) → Spells (codes "TYPE") cs → cs ≡ codes "TYPE"
unfolding chars encoded
spells_type cs h = chars_from_encodes cs (codes "TYPE") (codes "TYPE", (refl, refl)) h

keyword_told : (text t : List ℕ) (c : ℕ) → is_blank c ≡ true → Told (Keyword text) t → IfTold (Some (after_keyword text)) (t ++ c ∷ [])
keyword_told text t c e s = by (bytes_eq text (codes "HELP")) (bytes_eq text (codes "TYPE")) refl refl where
  apart : (word : List ℕ) → ((cs : List ℕ) → Spells word cs → cs ≡ word) → text ≡ word → (Comment word ▸ SomeBlanks) (t ++ c ∷ [])
  apart word f is = add (Comment word) SomeBlanks t c (change (Blanks ▸ Is (codes "#") ▸ SomeBlanks) (Spells text) (Is word) t s (λ r h. f r (h ∙ is))) (some_one c e)

  by : (a b : Bool) → bytes_eq text (codes "HELP") ≡ a → bytes_eq text (codes "TYPE") ≡ b →
      IfTold (Some (if a then BeforeFamily word.Help else (if b then BeforeFamily word.Type else Passed))) (t ++ c ∷ [])
  by true b h k = apart (codes "HELP") spells_help ((bytes_eq-Decides text (codes "HELP")).0 h)
  by false true h k = apart (codes "TYPE") spells_type ((bytes_eq-Decides text (codes "TYPE")).0 k)
  by false false h k = tt

family_told : (w : FamilyWord) (name t : List ℕ) (c : ℕ) → is_blank c ≡ true → Told (InFamily w name) t → IfTold (Some (after_family w name)) (t ++ c ∷ [])
family_told word.Help name t c e s = tt
family_told word.Type name t c e s =
    none (Comment (codes "TYPE") ▸ SomeBlanks ▸ Name ▸ SomeBlanks) Any (t ++ c ∷ [])
    (add (Comment (codes "TYPE") ▸ SomeBlanks ▸ Name) SomeBlanks t c (change (Comment (codes "TYPE") ▸ SomeBlanks) (Is name) Name t s.1 (λ r i. ap is_metric_name i ∙ s.0)) (some_one c e)) tt

type_more : (t : List ℕ) (c : ℕ) → OfType t → OfType (t ++ c ∷ [])
type_more t c s = grow (Comment (codes "TYPE") ▸ SomeBlanks ▸ Name ▸ SomeBlanks) Any Any t c s (λ r a. tt)

type_told : (name text t : List ℕ) → OfType t → IfTold (type_grown name text) t
type_told name text t s = ways t (is_type_front text) _ _ (λ e. (e, s)) (λ e. tt)

typed_told : (name t : List ℕ) (o : Option FamilyKind) → OfType t → IfTold (typed name o) t
typed_told name t None s = tt
typed_told name t (Some kind) s = s

-- no number goes on with a blank
none_of : (p : NumberPlace) → (number_next p (code " ") ≡ None) × (number_next p (code "\t") ≡ None)
none_of np.Signed = (refl, refl)
none_of np.Whole = (refl, refl)
none_of np.Point = (refl, refl)
none_of np.Fraction = (refl, refl)
none_of np.Exponent = (refl, refl)
none_of np.ExponentSign = (refl, refl)
none_of np.ExponentDigits = (refl, refl)
none_of np.I = (refl, refl)
none_of np.In = (refl, refl)
none_of np.Inf = (refl, refl)
none_of np.Infi = (refl, refl)
none_of np.Infin = (refl, refl)
none_of np.Infini = (refl, refl)
none_of np.Infinit = (refl, refl)
none_of np.Infinity = (refl, refl)
none_of np.N = (refl, refl)
none_of np.Na = (refl, refl)
none_of np.Nan = (refl, refl)

not_blank : (p q : NumberPlace) (c : ℕ) → number_next p c ≡ Some q → is_blank c ≡ false
not_blank p q c h = by (c == code " ") (c == code "\t") refl refl where
  by : (a b : Bool) → (c == code " ") ≡ a → (c == code "\t") ≡ b → (a || b) ≡ false
  by true b e f = absurd (let k : Some q ≡ None = sym h ∙ ap (number_next p) (eqb-true c (code " ") e) ∙ (none_of p).0 in cc)
  by false true e f = absurd (let k : Some q ≡ None = sym h ∙ ap (number_next p) (eqb-true c (code "\t") f) ∙ (none_of p).1 in cc)
  by false false e f = refl

one_more : (text : List ℕ) (c : ℕ) → c < 128 → NoBlanks text → is_blank c ≡ false → NoBlanks (grown text c)
one_more text c small s b =
    ap (λ x. list_all is_field_byte (text ++ x)) (encode_ascii c small) ∙ list_all-append is_field_byte text (c ∷ [])
    ∙ ap (λ x. x && (not (is_blank c) && true)) s ∙ ap (λ x. true && (not x && true)) b

numbered_told : (head : LineHead) (text t : List ℕ) (o : Option NumberPlace) → ((p : NumberPlace) → o ≡ Some p → NoBlanks text) → IfTold (numbered head text o) t
numbered_told head text t None f = tt
numbered_told head text t (Some p) f = f p refl

equal_told : (head : LineHead) (n t : List ℕ) (c : ℕ) → IfTold (before_equal head n c) t
equal_told head n t c = ways t (is_blank c) _ _ (λ e. tt) (λ e. ways t (c == code "=") _ _ (λ e. tt) (λ e. tt))

told_goes : (place : LineCursor) (c : ℕ) (t : List ℕ) → Told place t → IfTold (goes place c) (t ++ c ∷ [])
told_goes Start c t s =
    ways (t ++ c ∷ []) (is_blank c) _ _ (λ e. blank_more t c s e)
    (λ _. ways (t ++ c ∷ []) (c == code "#") _ _ (λ e. add Blanks (Is (codes "#")) t c s (same_code c (code "#") e)) (λ _. ways (t ++ c ∷ []) (is_metric_letter c) _ _ (λ _. tt) (λ _. tt)))
told_goes Hash c t s = ways (t ++ c ∷ []) (is_blank c) _ _ (λ e. add (Blanks ▸ Is (codes "#")) SomeBlanks t c s (some_one c e)) (λ _. tt)
told_goes Gap c t s =
    ways (t ++ c ∷ []) (is_blank c) _ _ (λ e. grow (Blanks ▸ Is (codes "#")) SomeBlanks SomeBlanks t c s (λ r h. some_more r c h e))
    (λ _. add (Blanks ▸ Is (codes "#") ▸ SomeBlanks) (Spells (encode_utf8 c)) t c s (append-nil (encode_utf8 c)))
told_goes (Keyword text) c t s =
    ways (t ++ c ∷ []) (is_blank c) _ _ (λ e. keyword_told text t c e s)
    (λ _. grow (Blanks ▸ Is (codes "#") ▸ SomeBlanks) (Spells text) (Spells (grown text c)) t c s (λ r h. encodes-append r (c ∷ []) ∙ (λ i. h i ++ append-nil (encode_utf8 c) i)))
told_goes Passed c t s = tt
told_goes (BeforeFamily w) c t s =
    ways (t ++ c ∷ []) (is_blank c) _ _ (λ e. grow (Comment (word_text w)) SomeBlanks SomeBlanks t c s (λ r h. some_more r c h e))
    (λ _. ways (t ++ c ∷ []) (is_metric_letter c) _ _ (λ e. (name_first c e, add (Comment (word_text w) ▸ SomeBlanks) (Is (encode_utf8 c)) t c s (is_one c (metric_letter_small c e)))) (λ _. tt))
told_goes (InFamily w name) c t s =
    ways (t ++ c ∷ []) (is_blank c) _ _ (λ e. family_told w name t c e s)
    (λ _. ways (t ++ c ∷ []) (is_metric_byte c) _ _
    (λ e. (name_more name c s.0 e, grow (Comment (word_text w) ▸ SomeBlanks) (Is name) (Is (grown name c)) t c s.1 (λ r h. is_more name r c (metric_small c e) h))) (λ _. tt))
told_goes (InHelp name) c t s = tt
told_goes (BeforeType name) c t s = ways (t ++ c ∷ []) (is_blank c) _ _ (λ _. type_more t c s) (λ _. type_told name (encode_utf8 c) (t ++ c ∷ []) (type_more t c s))
told_goes (InType name text) c t s =
    ways (t ++ c ∷ []) (is_blank c) _ _ (λ _. typed_told name (t ++ c ∷ []) (type_of text) (type_more t c s.1)) (λ _. type_told name (grown text c) (t ++ c ∷ []) (type_more t c s.1))
told_goes (AfterType name kind) c t s = ways (t ++ c ∷ []) (is_blank c) _ _ (λ _. type_more t c s) (λ _. tt)
told_goes (InName n) c t s =
    ways (t ++ c ∷ []) (is_blank c) _ _ (λ _. tt) (λ _. ways (t ++ c ∷ []) (c == code "{") _ _ (λ _. tt) (λ _. ways (t ++ c ∷ []) (is_metric_byte c) _ _ (λ _. tt) (λ _. tt)))
told_goes (BeforeLabel head) c t s =
    ways (t ++ c ∷ []) (is_blank c) _ _ (λ _. tt) (λ _. ways (t ++ c ∷ []) (c == code "}") _ _ (λ _. tt) (λ _. ways (t ++ c ∷ []) (is_letter c) _ _ (λ _. tt) (λ _. tt)))
told_goes (InLabel head n) c t s =
    ways (t ++ c ∷ []) (is_label_byte c) _ _ (λ _. tt) (λ _. ways (t ++ c ∷ []) (stands_before head n) _ _ (λ _. tt) (λ _. equal_told head n (t ++ c ∷ []) c))
told_goes (BeforeEqual head n) c t s = equal_told head n (t ++ c ∷ []) c
told_goes (BeforeQuote head n) c t s = ways (t ++ c ∷ []) (is_blank c) _ _ (λ _. tt) (λ _. ways (t ++ c ∷ []) (c == code "\"") _ _ (λ _. tt) (λ _. tt))
told_goes (InValue head n v) c t s = ways (t ++ c ∷ []) (c == code "\"") _ _ (λ _. tt) (λ _. ways (t ++ c ∷ []) (c == code "\\") _ _ (λ _. tt) (λ _. tt))
told_goes (InEscape head n v) c t s = tt
told_goes (AfterValue head) c t s =
    ways (t ++ c ∷ []) (is_blank c) _ _ (λ _. tt) (λ _. ways (t ++ c ∷ []) (c == code ",") _ _ (λ _. tt) (λ _. ways (t ++ c ∷ []) (c == code "}") _ _ (λ _. tt) (λ _. tt)))
told_goes (AfterList head) c t s = ways (t ++ c ∷ []) (is_blank c) _ _ (λ _. tt) (λ _. tt)
told_goes (BeforeNumber head) c t s =
    ways (t ++ c ∷ []) (is_blank c) _ _ (λ _. tt)
    (λ n. numbered_told head (encode_utf8 c) (t ++ c ∷ []) (number_start c) (λ p e. one_more [] c (start_small c (some_not_none (number_start c) p e)) refl n))
told_goes (InNumber head place text) c t s =
    ways (t ++ c ∷ []) (is_number_end place && is_blank c) _ _ (λ _. tt)
    (λ _. numbered_told head (grown text c) (t ++ c ∷ []) (number_next place c)
    (λ p e. one_more text c (next_small place c (some_not_none (number_next place c) p e)) s (not_blank place p c e)))
told_goes (AfterNumber m) c t s =
    ways (t ++ c ∷ []) (is_blank c) _ _ (λ _. tt) (λ _. ways (t ++ c ∷ []) (is_sign c) _ _ (λ _. tt) (λ _. ways (t ++ c ∷ []) (is_ascii_digit c) _ _ (λ _. tt) (λ _. tt)))
told_goes (AfterSign m text) c t s = ways (t ++ c ∷ []) (is_ascii_digit c) _ _ (λ _. tt) (λ _. tt)
told_goes (InTime m text count) c t s =
    ways (t ++ c ∷ []) (is_blank c) _ _ (λ _. tt) (λ _. ways (t ++ c ∷ []) (is_ascii_digit c && nat_lt count 18) _ _ (λ _. tt) (λ _. tt))
told_goes (AfterTime m text) c t s = ways (t ++ c ∷ []) (is_blank c) _ _ (λ _. tt) (λ _. tt)

-- where a way comes to
abbrev pub IfComes : Way → List ℕ → Type 0
IfComes (comes place) t = Told place t
IfComes (stops kind) t = Unit {0}

on_told : (o : Option LineCursor) (kind : ExpoKind) (on : LineCursor → Way) (t whole : List ℕ) → IfTold o t → ((next : LineCursor) → Told next t → IfComes (on next) whole) → IfComes (way_on o kind on) whole
on_told None kind on t whole s f = tt
on_told (Some next) kind on t whole s f = f next s

pub way_told : (text : List ℕ) (place : LineCursor) (t : List ℕ) → Told place t → IfComes (way place text) (t ++ text)
way_told [] place t s = subst (Told place) (sym (append-nil t)) s
way_told (c ∷ cs) place t s =
    on_told (goes place c) (fault_at place) (λ next. way next cs) (t ++ c ∷ []) (t ++ c ∷ cs) (told_goes place c t s)
    (λ next k. subst (IfComes (way next cs)) (append_assoc t (c ∷ []) cs) (way_told cs next (t ++ c ∷ []) k))
