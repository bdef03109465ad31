-- What is kept at each place of a line, so that what is read is sound.
use Rattle.std.proofs.Common.{◌≡◌, refl, sym, ap, ◌∙◌, subst, ℕ, suc, ◌+◌, ◌<◌, ◌≤◌, List, [], ◌∷◌, ◌++◌, length, Bool, true, false, cond, ◌&&◌, ◌||◌, Option, Some, None, Ok, append_assoc, arith, nat_lt, encode_utf8, codes, append-nil, length-append}
use Rattle.std.specs.Prelude.{if◌then◌else◌, ◌==◌}
use Rattle.std.proofs.lemmas.Str.{encode_ascii}
use Rattle.pr_labels.proofs.LabelLaws.{first_none}
use Prim.Native.Char.{code}
use Rattle.std.specs.Char.{is_ascii_digit}
use Rattle.std.specs.List.{list_any, list_all}
use Rattle.std.specs.Option.{option_or}
use Rattle.std.specs.Str.{bytes_eq, chars, is_utf8}
use Rattle.std.proofs.lemmas.Bool.Decides.{nat_tests}
use Rattle.std.proofs.lemmas.List.Folds.{list_all-append}
use Rattle.pr_labels.specs.pr_words.Bytes.{is_blank, is_label_byte, is_letter}
use Rattle.pr_labels.specs.declared.pair.Pair.{Pair}
use Rattle.pr_labels.specs.declared.fault.LabelFault.{LabelFault}
use Rattle.pr_labels.specs.declared.fault.LabelFault.TheVariants.{BadName, Twice}
use Rattle.pr_labels.specs.LabelSet.{metric_label, pair_of, has_name}
use Rattle.pr_labels.specs.Edits.{fault_after, pair_fault}
use Rattle.pr_labels.specs.Names.{is_label_name, is_metric_byte, is_metric_letter}
use Rattle.pr_num.specs.private.Forms.{IsNumberText, Sign, sign_text, no_sign}
use Rattle.pr_expo.specs.Characters.{is_sign}
use Rattle.pr_expo.specs.declared.expo_line.number.NumberPlace.{NumberPlace}
use Rattle.pr_expo.specs.declared.expo_line.place.ExpoKind.{ExpoKind}
use Rattle.pr_expo.specs.declared.expo_line.place.FamilyKind.{FamilyKind}
use Rattle.pr_expo.specs.declared.expo_line.place.LineHead.{LineHead}
use Rattle.pr_expo.specs.declared.expo_line.place.Measured.{Measured}
use Rattle.pr_expo.specs.declared.expo_line.place.LineCursor.{LineCursor}
use Rattle.pr_expo.specs.declared.expo_line.place.LineCursor.TheVariants.{Start, Hash, Gap, Keyword, Passed, BeforeFamily, InFamily, InHelp, BeforeType, InType, AfterType, InName, BeforeLabel, InLabel, BeforeEqual, BeforeQuote, InValue, InEscape, AfterValue, AfterList, BeforeNumber, InNumber, AfterNumber, AfterSign, InTime, AfterTime}
use Rattle.pr_expo.specs.declared.expo_line.place.Read.{Read}
use Rattle.pr_expo.specs.declared.expo_line.place.Read.TheVariants.{Sample}
use Rattle.pr_expo.specs.declared.expo_line.place.FamilyWord.{FamilyWord}
use Rattle.pr_expo.specs.declared.expo_line.place.FamilyWord.TheVariants as word
use Rattle.pr_expo.specs.Line.{Way, after_family, after_keyword, at_end, comes, ends, fault_at, family_end, goes, grown, is_type_front, keyword_end, line_read, numbered, outcome_of, stands_before, stops, text_front, type_end, type_of, typed, way, way_on, with_label, before_equal}
use Rattle.pr_expo.specs.Number.{is_number_end, number_next, number_start}
use Rattle.pr_expo.proofs.Numbers.{IfNumber, NumberSoFar, number_ends, number_first, number_more, sign_text_of}
use Rattle.pr_expo.specs.private.Sound.{HasDistinctNames, IsSignedDigits, IsSound, IsTime}

-- a choice between places
both_ways : (P : Option LineCursor → Type 0) (b : Bool) (x y : Option LineCursor) → (b ≡ true → P x) → (b ≡ false → P y) → P (if b then x else y)
both_ways P true x y f g = f refl
both_ways P false x y f g = g refl

and_left : (a b : Bool) → (a && b) ≡ true → a ≡ true
and_left true b h = refl
and_left false b h = cc

-- a character that goes on with a name is one byte
pub letter_small : (c : ℕ) → is_letter c ≡ true → c < 128
letter_small c h = grind (arith, nat_tests)

pub digit_small : (c : ℕ) → is_ascii_digit c ≡ true → c < 128
digit_small c h = grind (arith, nat_tests)

pub label_small : (c : ℕ) → is_label_byte c ≡ true → c < 128
label_small c h = by (is_letter c) refl where
  by : (b : Bool) → is_letter c ≡ b → c < 128
  by true e = letter_small c e
  by false e = digit_small c (sym (ap (λ b. b || is_ascii_digit c) e) ∙ h)

letter_name : (c : ℕ) → is_letter c ≡ true → is_label_name (encode_utf8 c) ≡ true
letter_name c h = ap is_label_name (encode_ascii c (letter_small c h)) ∙ ap (λ b. b && true) h

name_grown : (name : List ℕ) (c : ℕ) → is_label_name name ≡ true → is_label_byte c ≡ true → is_label_name (grown name c) ≡ true
name_grown [] c n h = cc
name_grown (b ∷ bs) c n h =
    ap (λ x. is_label_name ((b ∷ bs) ++ x)) (encode_ascii c (label_small c h))
    ∙ ap (λ x. is_letter b && x) (list_all-append is_label_byte bs (c ∷ []) ∙ ap (λ x. list_all is_label_byte bs && (x && true)) h ∙ true_last (list_all is_label_byte bs)) ∙ n where
      true_last : (a : Bool) → (a && true) ≡ a
      true_last true = refl
      true_last false = refl

-- a label more
or_none : (a : Option LabelFault) → option_or a None ≡ a
or_none None = refl
or_none (Some x) = refl

pub fault_more : (before ps : List Pair) (p : Pair) → fault_after before ps ≡ None → pair_fault (before ++ ps) p ≡ None → fault_after before (ps ++ p ∷ []) ≡ None
fault_more before [] p f h = or_none (pair_fault before p) ∙ ap (λ x. pair_fault x p) (sym (append-nil before)) ∙ h
fault_more before (q ∷ ps) p f h =
    let g = first_none (pair_fault before q) (fault_after (before ++ q ∷ []) ps) f in
    ap (λ o. option_or o (fault_after (before ++ q ∷ []) (ps ++ p ∷ []))) g.0
    ∙ fault_more (before ++ q ∷ []) ps p g.1 (ap (λ x. pair_fault x p) (append_assoc before (q ∷ []) ps) ∙ h)

pub new_fault : (before : List Pair) (p : Pair) → is_label_name p.name ≡ true → list_any (has_name p.name) before ≡ false → pair_fault before p ≡ None
new_fault before p n h =
    ap (λ b. cond b (cond (list_any (has_name p.name) before) (Some (Twice (length before))) None) (Some (BadName (length before)))) n
    ∙ ap (λ b. cond b (Some (Twice (length before))) None) h

more_names : (head : LineHead) (name value : List ℕ) → HasDistinctNames head → is_label_name name ≡ true → stands_before head name ≡ false → HasDistinctNames (with_label head name value)
more_names head name value d n h =
    fault_more [] (pair_of metric_label head.name ∷ head.labels) (pair_of name value) d (new_fault (pair_of metric_label head.name ∷ head.labels) (pair_of name value) n h)

-- what is kept at each place
pub record HasNewName (head : LineHead) (name : List ℕ) : Type 0 where
  pub distinct : HasDistinctNames head
  pub is_name : is_label_name name ≡ true
  pub new : stands_before head name ≡ false

pub record IsMeasured (m : Measured) : Type 0 where
  pub distinct : HasDistinctNames m.head
  pub number : IsNumberText m.number

pub record IsSignedBy (m : Measured) (text : List ℕ) : Type 0 where
  pub measured : IsMeasured m
  pub sign : Sign
  pub is : text ≡ sign_text sign

pub record IsTimedBy (m : Measured) (text : List ℕ) (count : ℕ) : Type 0 where
  pub measured : IsMeasured m
  pub few : count ≤ 18
  pub digits : IsSignedDigits text count

abbrev pub Good : LineCursor → Type 0
Good Start = Unit {0}
Good Hash = Unit {0}
Good Gap = Unit {0}
Good (Keyword text) = Unit {0}
Good Passed = Unit {0}
Good (BeforeFamily w) = Unit {0}
Good (InFamily w name) = Unit {0}
Good (InHelp name) = Unit {0}
Good (BeforeType name) = Unit {0}
Good (InType name text) = Unit {0}
Good (AfterType name kind) = Unit {0}
Good (InName name) = Unit {0}
Good (BeforeLabel head) = HasDistinctNames head
Good (InLabel head name) = HasDistinctNames head × (is_label_name name ≡ true)
Good (BeforeEqual head name) = HasNewName head name
Good (BeforeQuote head name) = HasNewName head name
Good (InValue head name value) = HasNewName head name
Good (InEscape head name value) = HasNewName head name
Good (AfterValue head) = HasDistinctNames head
Good (AfterList head) = HasDistinctNames head
Good (BeforeNumber head) = HasDistinctNames head
Good (InNumber head place text) = HasDistinctNames head × NumberSoFar place text
Good (AfterNumber m) = IsMeasured m
Good (AfterSign m text) = IsSignedBy m text
Good (InTime m text count) = IsTimedBy m text count
Good (AfterTime m text) = IsMeasured m × IsTime (Some text)

abbrev pub IfPlace : Option LineCursor → Type 0
IfPlace None = Unit {0}
IfPlace (Some place) = Good place

either_way : (b : Bool) (x y : Option LineCursor) → (b ≡ true → IfPlace x) → (b ≡ false → IfPlace y) → IfPlace (if b then x else y)
either_way b x y f g = both_ways IfPlace b x y f g

keyword_good : (text : List ℕ) → IfPlace (Some (after_keyword text))
keyword_good text = by (bytes_eq text (codes "HELP")) (bytes_eq text (codes "TYPE")) where
  by : (a b : Bool) → IfPlace (Some (if a then BeforeFamily word.Help else (if b then BeforeFamily word.Type else Passed)))
  by true b = tt
  by false true = tt
  by false false = tt

family_good : (w : FamilyWord) (name : List ℕ) → IfPlace (Some (after_family w name))
family_good word.Help name = tt
family_good word.Type name = tt

typed_good : (name : List ℕ) (o : Option FamilyKind) → IfPlace (typed name o)
typed_good name None = tt
typed_good name (Some kind) = tt

numbered_good : (head : LineHead) (text : List ℕ) (o : Option NumberPlace) → HasDistinctNames head → IfNumber o text → IfPlace (numbered head text o)
numbered_good head text None d n = tt
numbered_good head text (Some place) d n = (d, n)

-- a digit more
digit_text : (c : ℕ) → is_ascii_digit c ≡ true → encode_utf8 c ≡ c ∷ []
digit_text c h = encode_ascii c (digit_small c h)

first_digit : (s : Sign) (text : List ℕ) (c : ℕ) → text ≡ sign_text s → is_ascii_digit c ≡ true → IsSignedDigits (grown text c) 1
first_digit s text c e h = record {
  sign = s;
  digits = c ∷ [];
  parts = ap (λ t. t ++ encode_utf8 c) e ∙ ap (λ x. sign_text s ++ x) (digit_text c h);
  digits_alone = ap (λ b. b && true) h;
  some = omega arith;
  counted = refl;
}

more_digits : (text : List ℕ) (c count : ℕ) → IsSignedDigits text count → is_ascii_digit c ≡ true → IsSignedDigits (grown text c) (suc count)
more_digits text c count d h = record {
  sign = d.sign;
  digits = d.digits ++ c ∷ [];
  parts = ap (λ t. t ++ encode_utf8 c) d.parts ∙ ap (λ x. (sign_text d.sign ++ d.digits) ++ x) (digit_text c h) ∙ append_assoc (sign_text d.sign) d.digits (c ∷ []);
  digits_alone = list_all-append is_ascii_digit d.digits (c ∷ []) ∙ ap (λ b. b && (is_ascii_digit c && true)) d.digits_alone ∙ ap (λ b. true && (b && true)) h;
  some = omega (arith, d.some, length-append d.digits (c ∷ []));
  counted = length-append d.digits (c ∷ []) ∙ ap (λ n. n + 1) d.counted ∙ omega arith;
}

equal_good : (head : LineHead) (name : List ℕ) (c : ℕ) → HasNewName head name → IfPlace (before_equal head name c)
equal_good head name c g = either_way (is_blank c) _ _ (λ e. g) (λ e. either_way (c == code "=") _ _ (λ e. g) (λ e. tt))

few_more : (count : ℕ) (b : Bool) → (b && nat_lt count 18) ≡ true → suc count ≤ 18
few_more count true h = grind (arith, nat_tests)
few_more count false h = cc

goes_good : (place : LineCursor) (c : ℕ) → Good place → IfPlace (goes place c)
goes_good Start c g = either_way (is_blank c) _ _ (λ e. tt) (λ e. either_way (c == code "#") _ _ (λ e. tt) (λ e. either_way (is_metric_letter c) _ _ (λ e. tt) (λ e. tt)))
goes_good Hash c g = either_way (is_blank c) _ _ (λ e. tt) (λ e. tt)
goes_good Gap c g = either_way (is_blank c) _ _ (λ e. tt) (λ e. tt)
goes_good (Keyword text) c g = either_way (is_blank c) _ _ (λ e. keyword_good text) (λ e. tt)
goes_good Passed c g = tt
goes_good (BeforeFamily w) c g = either_way (is_blank c) _ _ (λ e. tt) (λ e. either_way (is_metric_letter c) _ _ (λ e. tt) (λ e. tt))
goes_good (InFamily w name) c g = either_way (is_blank c) _ _ (λ e. family_good w name) (λ e. either_way (is_metric_byte c) _ _ (λ e. tt) (λ e. tt))
goes_good (InHelp name) c g = tt
goes_good (BeforeType name) c g = either_way (is_blank c) _ _ (λ e. tt) (λ e. either_way (is_type_front (encode_utf8 c)) _ _ (λ e. tt) (λ e. tt))
goes_good (InType name text) c g = either_way (is_blank c) _ _ (λ e. typed_good name (type_of text)) (λ e. either_way (is_type_front (grown text c)) _ _ (λ e. tt) (λ e. tt))
goes_good (AfterType name kind) c g = either_way (is_blank c) _ _ (λ e. tt) (λ e. tt)
goes_good (InName name) c g = either_way (is_blank c) _ _ (λ e. refl) (λ e. either_way (c == code "{") _ _ (λ e. refl) (λ e. either_way (is_metric_byte c) _ _ (λ e. tt) (λ e. tt)))
goes_good (BeforeLabel head) c g = either_way (is_blank c) _ _ (λ e. g) (λ e. either_way (c == code "}") _ _ (λ e. g) (λ e. either_way (is_letter c) _ _ (λ e. (g, letter_name c e)) (λ e. tt)))
goes_good (InLabel head name) c g =
    either_way (is_label_byte c) _ _ (λ e. (g.0, name_grown name c g.1 e))
    (λ e. either_way (stands_before head name) _ _ (λ e. tt) (λ n. equal_good head name c (record { distinct = g.0; is_name = g.1; new = n })))
goes_good (BeforeEqual head name) c g = equal_good head name c g
goes_good (BeforeQuote head name) c g = either_way (is_blank c) _ _ (λ e. g) (λ e. either_way (c == code "\"") _ _ (λ e. g) (λ e. tt))
goes_good (InValue head name value) c g =
    either_way (c == code "\"") _ _ (λ e. more_names head name value g.distinct g.is_name g.new) (λ e. either_way (c == code "\\") _ _ (λ e. g) (λ e. g))
goes_good (InEscape head name value) c g = g
goes_good (AfterValue head) c g = either_way (is_blank c) _ _ (λ e. g) (λ e. either_way (c == code ",") _ _ (λ e. g) (λ e. either_way (c == code "}") _ _ (λ e. g) (λ e. tt)))
goes_good (AfterList head) c g = either_way (is_blank c) _ _ (λ e. g) (λ e. tt)
goes_good (BeforeNumber head) c g = either_way (is_blank c) _ _ (λ e. g) (λ e. numbered_good head (encode_utf8 c) (number_start c) g (number_first c))
goes_good (InNumber head place text) c g =
    either_way (is_number_end place && is_blank c) _ _ (λ e. record { distinct = g.0; number = number_ends place text g.1 (and_left (is_number_end place) (is_blank c) e) })
    (λ e. numbered_good head (grown text c) (number_next place c) g.0 (number_more place text c g.1))
goes_good (AfterNumber m) c g =
    either_way (is_blank c) _ _ (λ e. g)
    (λ e. either_way (is_sign c) _ _ (λ s. record { measured = g; sign = (sign_text_of c s).0; is = (sign_text_of c s).1 })
    (λ e. either_way (is_ascii_digit c) _ _ (λ d. record { measured = g; few = omega arith; digits = first_digit no_sign [] c refl d }) (λ e. tt)))
goes_good (AfterSign m text) c g =
    either_way (is_ascii_digit c) _ _ (λ d. record { measured = g.measured; few = omega arith; digits = first_digit g.sign text c g.is d }) (λ e. tt)
goes_good (InTime m text count) c g =
    either_way (is_blank c) _ _ (λ e. (g.measured, (count, (g.few, g.digits))))
    (λ e. either_way (is_ascii_digit c && nat_lt count 18) _ _
    (λ d. record { measured = g.measured; few = few_more count (is_ascii_digit c) d; digits = more_digits text c count g.digits (and_left (is_ascii_digit c) (nat_lt count 18) d) }) (λ e. tt))
goes_good (AfterTime m text) c g = either_way (is_blank c) _ _ (λ e. g) (λ e. tt)

-- where a way comes to is good
abbrev pub IfComes : Way → Type 0
IfComes (comes place) = Good place
IfComes (stops kind) = Unit {0}

on_good : (o : Option LineCursor) (kind : ExpoKind) (on : LineCursor → Way) → IfPlace o → ((next : LineCursor) → Good next → IfComes (on next)) → IfComes (way_on o kind on)
on_good None kind on g h = tt
on_good (Some next) kind on g h = h next g

pub way_good : (text : List ℕ) (place : LineCursor) → Good place → IfComes (way place text)
way_good [] place g = g
way_good (c ∷ cs) place g = on_good (goes place c) (fault_at place) (λ next. way next cs) (goes_good place c g) (λ next h. way_good cs next h)

abbrev pub IfRead : Option Read → Type 0
IfRead None = Unit {0}
IfRead (Some read) = IsSound read

keyword_read : (place : LineCursor) → IfRead (keyword_end place)
keyword_read Passed = tt
keyword_read _ = tt

family_read : (w : FamilyWord) (name : List ℕ) → IfRead (family_end w name)
family_read word.Help name = tt
family_read word.Type name = tt

type_read : (name : List ℕ) (o : Option FamilyKind) → IfRead (type_end name o)
type_read name None = tt
type_read name (Some kind) = tt

number_read : (head : LineHead) (place : NumberPlace) (text : List ℕ) (b : Bool) → is_number_end place ≡ b → HasDistinctNames head → NumberSoFar place text →
    IfRead (if b then Some (Sample (record { head = head; number = text }) None) else None)
number_read head place text true e d n = (d, number_ends place text n e, tt)
number_read head place text false e d n = tt

ends_good : (place : LineCursor) → Good place → IfRead (ends place)
ends_good Start g = tt
ends_good Hash g = tt
ends_good Gap g = tt
ends_good (Keyword text) g = keyword_read (after_keyword text)
ends_good Passed g = tt
ends_good (BeforeFamily w) g = tt
ends_good (InFamily w name) g = family_read w name
ends_good (InHelp name) g = tt
ends_good (BeforeType name) g = tt
ends_good (InType name text) g = type_read name (type_of text)
ends_good (AfterType name kind) g = tt
ends_good (InName name) g = tt
ends_good (BeforeLabel head) g = tt
ends_good (InLabel head name) g = tt
ends_good (BeforeEqual head name) g = tt
ends_good (BeforeQuote head name) g = tt
ends_good (InValue head name value) g = tt
ends_good (InEscape head name value) g = tt
ends_good (AfterValue head) g = tt
ends_good (AfterList head) g = tt
ends_good (BeforeNumber head) g = tt
ends_good (InNumber head place text) g = number_read head place text (is_number_end place) refl g.0 g.1
ends_good (AfterNumber m) g = (g.distinct, g.number, tt)
ends_good (AfterSign m text) g = tt
ends_good (InTime m text count) g = (g.measured.distinct, g.measured.number, (count, (g.few, g.digits)))
ends_good (AfterTime m text) g = (g.0.distinct, g.0.number, g.1)

end_sound : (place : LineCursor) (o : Option Read) (read : Read) → IfRead o → at_end place o ≡ Ok read → IsSound read
end_sound place None read g h = cc
end_sound place (Some r) read g h = let same : r ≡ read = cc in subst IsSound same g

outcome_sound : (whole : Bool) (w : Way) (read : Read) → IfComes w → outcome_of whole w ≡ Ok read → IsSound read
outcome_sound true (comes place) read g h = end_sound place (ends place) read (ends_good place g) h
outcome_sound false (comes place) read g h = cc
outcome_sound true (stops kind) read g h = cc
outcome_sound false (stops kind) read g h = cc

-- what is read is sound
pub read_is_sound : (line : List ℕ) (read : Read) → line_read line ≡ Ok read → IsSound read
unfolding line_read
read_is_sound line read h = outcome_sound (is_utf8 line) (way Start (chars (text_front line))) read (way_good (chars (text_front line)) Start tt) h

pub sound_at : (text : List ℕ) (place : LineCursor) (read : Read) → way Start (chars text) ≡ comes place → at_end place (ends place) ≡ Ok read → IsSound read
sound_at text place read h e = end_sound place (ends place) read (ends_good place (subst IfComes h (way_good (chars text) Start tt))) e
