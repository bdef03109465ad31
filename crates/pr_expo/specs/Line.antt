-- The lines of an exposition. A line is a grammar's text whose rules are the places of a line: each
-- character leads from a place to the next, or no line goes on with it.
use Rattle.std.specs.Prelude.{◌≡◌, ℕ, suc, ◌==◌, ◌&&◌, ◌||◌, nat_lt, Bool, true, false, Option, Some, None, Result, Ok, Err, List, [], ◌∷◌, ◌++◌, take, codes, encode_utf8, if◌then◌else◌}
use Rattle.std.specs.List.{list_any, starts_with}
use Rattle.std.specs.Str.{bytes_eq, chars, is_utf8}
use Rattle.std.specs.Str.Lossy.{utf8_valid_len}
use Rattle.pr_labels.specs.declared.pair.Pair.{Pair}
use Rattle.pr_labels.specs.LabelSet.{metric_label, pair_of, has_name}
use Rattle.pr_expo.specs.declared.expo_line.place.FamilyKind.{FamilyKind}
use Rattle.pr_expo.specs.declared.expo_line.place.FamilyKind.TheVariants.{Counter, Gauge, Histogram, Summary, Untyped}
use Rattle.pr_expo.specs.declared.expo_line.place.ExpoKind.{ExpoKind}
use Rattle.pr_expo.specs.declared.expo_line.place.ExpoKind.TheVariants.{NotText, BadName, BadLabels, DuplicateLabel, BadValue, BadTime, BadType}
use Rattle.pr_expo.specs.declared.expo_line.place.FamilyWord.{FamilyWord}
use Rattle.pr_expo.specs.declared.expo_line.place.FamilyWord.TheVariants as word
use Rattle.pr_expo.specs.declared.expo_line.place.LineHead.{LineHead}
use Rattle.pr_expo.specs.declared.expo_line.place.Measured.{Measured}
use Rattle.pr_expo.specs.declared.expo_line.place.LineCursor.{LineCursor}
use Rattle.pr_expo.specs.declared.expo_line.place.LineCursor.TheVariants.{Start, Hash, Gap, Keyword, Passed, BeforeFamily, InFamily, InHelp, BeforeType, InType, AfterType, InName, BeforeLabel, InLabel, BeforeEqual, BeforeQuote, InValue, InEscape, AfterValue, AfterList, BeforeNumber, InNumber, AfterNumber, AfterSign, InTime, AfterTime}
use Rattle.pr_expo.specs.declared.expo_line.place.Read.{Read}
use Rattle.pr_expo.specs.declared.expo_line.place.Read.TheVariants.{Nothing, Help, Typed, Sample}
use Rattle.pr_expo.specs.declared.expo_line.number.NumberPlace.{NumberPlace}
use Rattle.pr_expo.specs.declared.expo_line.line.LineFault.{LineFault}
use Rattle.pr_expo.specs.declared.expo_line.line.LineFault.TheVariants.{Bad, Memory}
use Prim.Native.Char.{code}
use Rattle.std.specs.Char.{is_ascii_digit}
use Rattle.pr_labels.specs.pr_words.Bytes.{is_blank, is_letter, is_label_byte}
use Rattle.pr_labels.specs.Names.{is_metric_letter, is_metric_byte}
use Rattle.pr_expo.specs.Characters.{is_sign}
use Rattle.pr_expo.specs.Number.{number_start, number_next, is_number_end}

-- a text that goes on with a character
abbrev pub grown : List ℕ → ℕ → List ℕ
grown text c = text ++ encode_utf8 c

-- the five types
abbrev pub type_of : List ℕ → Option FamilyKind
type_of text =
    if bytes_eq text (codes "counter") then Some Counter
    else (if bytes_eq text (codes "gauge") then Some Gauge
    else (if bytes_eq text (codes "histogram") then Some Histogram
    else (if bytes_eq text (codes "summary") then Some Summary
    else (if bytes_eq text (codes "untyped") then Some Untyped else None))))

-- whether the text is the front of a word, and of a type
abbrev pub is_front_of : List ℕ → List ℕ → Bool
is_front_of word text = starts_with (◌==◌) word text

abbrev pub is_type_front : List ℕ → Bool
is_type_front text =
    is_front_of (codes "counter") text || (is_front_of (codes "gauge") text || (is_front_of (codes "histogram") text
    || (is_front_of (codes "summary") text || is_front_of (codes "untyped") text)))

-- whether a label's name stands before: as that of the metric's name, or among the labels
abbrev pub has_label_named : List ℕ → List Pair → Bool
has_label_named name labels = list_any (has_name name) labels

abbrev pub stands_before : LineHead → List ℕ → Bool
stands_before head name = bytes_eq metric_label name || has_label_named name head.labels

abbrev pub bare : List ℕ → LineHead
bare name = record { name = name; labels = [] }

abbrev pub with_label : LineHead → List ℕ → List ℕ → LineHead
with_label head name value = record head { labels = head.labels ++ pair_of name value ∷ [] }

abbrev pub measured : LineHead → List ℕ → Measured
measured head number = record { head = head; number = number }

-- Where a character leads to, from each place.
abbrev pub from_start : ℕ → Option LineCursor
from_start c =
    if is_blank c then Some Start
    else (if c == code "#" then Some Hash
    else (if is_metric_letter c then Some (InName (encode_utf8 c)) else None))

-- a comment is passed over unless its first word stands apart and is one of two
abbrev pub from_hash : ℕ → Option LineCursor
from_hash c = if is_blank c then Some Gap else Some Passed

abbrev pub from_gap : ℕ → Option LineCursor
from_gap c = if is_blank c then Some Gap else Some (Keyword (encode_utf8 c))

abbrev pub after_keyword : List ℕ → LineCursor
after_keyword text =
    if bytes_eq text (codes "HELP") then BeforeFamily word.Help
    else (if bytes_eq text (codes "TYPE") then BeforeFamily word.Type else Passed)

abbrev pub from_keyword : List ℕ → ℕ → Option LineCursor
from_keyword text c = if is_blank c then Some (after_keyword text) else Some (Keyword (grown text c))

abbrev pub before_family : FamilyWord → ℕ → Option LineCursor
before_family w c = if is_blank c then Some (BeforeFamily w) else (if is_metric_letter c then Some (InFamily w (encode_utf8 c)) else None)

abbrev pub after_family : FamilyWord → List ℕ → LineCursor
after_family word.Help name = InHelp name
after_family word.Type name = BeforeType name

abbrev pub in_family : FamilyWord → List ℕ → ℕ → Option LineCursor
in_family w name c = if is_blank c then Some (after_family w name) else (if is_metric_byte c then Some (InFamily w (grown name c)) else None)

-- a type goes on as long as it is the front of one
abbrev pub type_grown : List ℕ → List ℕ → Option LineCursor
type_grown name text = if is_type_front text then Some (InType name text) else None

abbrev pub before_type : List ℕ → ℕ → Option LineCursor
before_type name c = if is_blank c then Some (BeforeType name) else type_grown name (encode_utf8 c)

abbrev pub typed : List ℕ → Option FamilyKind → Option LineCursor
typed name None = None
typed name (Some kind) = Some (AfterType name kind)

abbrev pub in_type : List ℕ → List ℕ → ℕ → Option LineCursor
in_type name text c = if is_blank c then typed name (type_of text) else type_grown name (grown text c)

abbrev pub after_type : List ℕ → FamilyKind → ℕ → Option LineCursor
after_type name kind c = if is_blank c then Some (AfterType name kind) else None

-- a list follows a name at once
abbrev pub in_name : List ℕ → ℕ → Option LineCursor
in_name name c =
    if is_blank c then Some (BeforeNumber (bare name))
    else (if c == code "{" then Some (BeforeLabel (bare name))
    else (if is_metric_byte c then Some (InName (grown name c)) else None))

abbrev pub before_label : LineHead → ℕ → Option LineCursor
before_label head c =
    if is_blank c then Some (BeforeLabel head)
    else (if c == code "}" then Some (AfterList head)
    else (if is_letter c then Some (InLabel head (encode_utf8 c)) else None))

abbrev pub before_equal : LineHead → List ℕ → ℕ → Option LineCursor
before_equal head name c = if is_blank c then Some (BeforeEqual head name) else (if c == code "=" then Some (BeforeQuote head name) else None)

-- a name that stands before can only go on as another
abbrev pub in_label : LineHead → List ℕ → ℕ → Option LineCursor
in_label head name c =
    if is_label_byte c then Some (InLabel head (grown name c))
    else (if stands_before head name then None else before_equal head name c)

abbrev pub before_quote : LineHead → List ℕ → ℕ → Option LineCursor
before_quote head name c = if is_blank c then Some (BeforeQuote head name) else (if c == code "\"" then Some (InValue head name []) else None)

abbrev pub in_value : LineHead → List ℕ → List ℕ → ℕ → Option LineCursor
in_value head name value c =
    if c == code "\"" then Some (AfterValue (with_label head name value))
    else (if c == code "\\" then Some (InEscape head name value) else Some (InValue head name (grown value c)))

-- a backslash before another character stays
abbrev pub escape : ℕ → List ℕ
escape c =
    if c == code "n" then codes "\n"
    else (if c == code "\\" then codes "\\"
    else (if c == code "\"" then codes "\"" else codes "\\" ++ encode_utf8 c))

abbrev pub in_escape : LineHead → List ℕ → List ℕ → ℕ → Option LineCursor
in_escape head name value c = Some (InValue head name (value ++ escape c))

abbrev pub after_value : LineHead → ℕ → Option LineCursor
after_value head c =
    if is_blank c then Some (AfterValue head)
    else (if c == code "," then Some (BeforeLabel head)
    else (if c == code "}" then Some (AfterList head) else None))

abbrev pub after_list : LineHead → ℕ → Option LineCursor
after_list head c = if is_blank c then Some (BeforeNumber head) else None

abbrev pub numbered : LineHead → List ℕ → Option NumberPlace → Option LineCursor
numbered head text None = None
numbered head text (Some place) = Some (InNumber head place text)

abbrev pub before_number : LineHead → ℕ → Option LineCursor
before_number head c = if is_blank c then Some (BeforeNumber head) else numbered head (encode_utf8 c) (number_start c)

abbrev pub in_number : LineHead → NumberPlace → List ℕ → ℕ → Option LineCursor
in_number head place text c =
    if is_number_end place && is_blank c then Some (AfterNumber (measured head text)) else numbered head (grown text c) (number_next place c)

abbrev pub after_number : Measured → ℕ → Option LineCursor
after_number m c =
    if is_blank c then Some (AfterNumber m)
    else (if is_sign c then Some (AfterSign m (encode_utf8 c))
    else (if is_ascii_digit c then Some (InTime m (encode_utf8 c) 1) else None))

abbrev pub after_sign : Measured → List ℕ → ℕ → Option LineCursor
after_sign m text c = if is_ascii_digit c then Some (InTime m (grown text c) 1) else None

-- a time has up to 18 digits
abbrev pub in_time : Measured → List ℕ → ℕ → ℕ → Option LineCursor
in_time m text count c =
    if is_blank c then Some (AfterTime m text)
    else (if is_ascii_digit c && nat_lt count 18 then Some (InTime m (grown text c) (suc count)) else None)

abbrev pub after_time : Measured → List ℕ → ℕ → Option LineCursor
after_time m text c = if is_blank c then Some (AfterTime m text) else None

-- The place after a character, where a line can go on with it.
abbrev pub goes : LineCursor → ℕ → Option LineCursor
goes Start c = from_start c
goes Hash c = from_hash c
goes Gap c = from_gap c
goes (Keyword text) c = from_keyword text c
goes Passed c = Some Passed
goes (BeforeFamily w) c = before_family w c
goes (InFamily w name) c = in_family w name c
goes (InHelp name) c = Some (InHelp name)
goes (BeforeType name) c = before_type name c
goes (InType name text) c = in_type name text c
goes (AfterType name kind) c = after_type name kind c
goes (InName name) c = in_name name c
goes (BeforeLabel head) c = before_label head c
goes (InLabel head name) c = in_label head name c
goes (BeforeEqual head name) c = before_equal head name c
goes (BeforeQuote head name) c = before_quote head name c
goes (InValue head name value) c = in_value head name value c
goes (InEscape head name value) c = in_escape head name value c
goes (AfterValue head) c = after_value head c
goes (AfterList head) c = after_list head c
goes (BeforeNumber head) c = before_number head c
goes (InNumber head place text) c = in_number head place text c
goes (AfterNumber m) c = after_number m c
goes (AfterSign m text) c = after_sign m text c
goes (InTime m text count) c = in_time m text count c
goes (AfterTime m text) c = after_time m text c

-- the end of a comment after its first word
abbrev pub keyword_end : LineCursor → Option Read
keyword_end Passed = Some Nothing
keyword_end _ = None

abbrev pub family_end : FamilyWord → List ℕ → Option Read
family_end word.Help name = Some (Help name)
family_end word.Type name = None

abbrev pub type_end : List ℕ → Option FamilyKind → Option Read
type_end name None = None
type_end name (Some kind) = Some (Typed name kind)

abbrev pub number_end : LineHead → NumberPlace → List ℕ → Option Read
number_end head place text = if is_number_end place then Some (Sample (measured head text) None) else None

-- What a line reads as that ends at the place, where it may end there.
abbrev pub ends : LineCursor → Option Read
ends Start = Some Nothing
ends Hash = Some Nothing
ends Gap = Some Nothing
ends (Keyword text) = keyword_end (after_keyword text)
ends Passed = Some Nothing
ends (InFamily w name) = family_end w name
ends (InHelp name) = Some (Help name)
ends (InType name text) = type_end name (type_of text)
ends (AfterType name kind) = Some (Typed name kind)
ends (InNumber head place text) = number_end head place text
ends (AfterNumber m) = Some (Sample m None)
ends (InTime m text count) = Some (Sample m (Some text))
ends (AfterTime m text) = Some (Sample m (Some text))
ends (BeforeFamily w) = None
ends (BeforeType name) = None
ends (InName name) = None
ends (BeforeLabel head) = None
ends (InLabel head name) = None
ends (BeforeEqual head name) = None
ends (BeforeQuote head name) = None
ends (InValue head name value) = None
ends (InEscape head name value) = None
ends (AfterValue head) = None
ends (AfterList head) = None
ends (BeforeNumber head) = None
ends (AfterSign m text) = None

-- What is bad where no line goes on from the place: with a character, or at the line's end. A name
-- that ends a line wants what follows it.
abbrev pub fault_at : LineCursor → ExpoKind
fault_at (BeforeType name) = BadType
fault_at (InType name text) = BadType
fault_at (AfterType name kind) = BadType
fault_at (BeforeLabel head) = BadLabels
fault_at (InLabel head name) = if stands_before head name then DuplicateLabel else BadLabels
fault_at (BeforeEqual head name) = BadLabels
fault_at (BeforeQuote head name) = BadLabels
fault_at (InValue head name value) = BadLabels
fault_at (InEscape head name value) = BadLabels
fault_at (AfterValue head) = BadLabels
fault_at (AfterList head) = BadValue
fault_at (BeforeNumber head) = BadValue
fault_at (InNumber head place text) = BadValue
fault_at (AfterNumber m) = BadTime
fault_at (AfterSign m text) = BadTime
fault_at (InTime m text count) = BadTime
fault_at (AfterTime m text) = BadTime
fault_at Start = BadName
fault_at Hash = BadName
fault_at Gap = BadName
fault_at (Keyword text) = BadName
fault_at Passed = BadName
fault_at (BeforeFamily w) = BadName
fault_at (InFamily w name) = BadName
fault_at (InHelp name) = BadName
fault_at (InName name) = BadName

abbrev pub end_fault : LineCursor → ExpoKind
end_fault (InFamily w name) = BadType
end_fault (InName name) = BadValue
end_fault place = fault_at place

-- Where the characters lead: to a place, or to one from which no line goes on with the next of
-- them.
pub data Way : Type 0 where
  comes : LineCursor → Way
  stops : ExpoKind → Way

abbrev pub way_on : Option LineCursor → ExpoKind → (LineCursor → Way) → Way
way_on None kind on = stops kind
way_on (Some next) kind on = on next

abbrev pub way : LineCursor → List ℕ → Way
way place [] = comes place
way place (c ∷ cs) = way_on (goes place c) (fault_at place) (λ next. way next cs)

-- what a line reads as that ends at the place, or how it is bad there
abbrev pub at_end : LineCursor → Option Read → Result Read ExpoKind
at_end place None = Err (end_fault place)
at_end place (Some read) = Ok read

-- the same where the line goes on with bytes that are no text
abbrev pub outcome_of : Bool → Way → Result Read ExpoKind
outcome_of whole (stops kind) = Err kind
outcome_of true (comes place) = at_end place (ends place)
outcome_of false (comes place) = Err NotText

-- the longest front of the bytes that is text
abbrev pub text_front : List ℕ → List ℕ
text_front line = take (utf8_valid_len line) line

-- What a line reads as, or how it is bad at its first bad place: the first character with which no
-- line goes on, the first byte that is no text, or the end, whichever comes first.
unfoldable pub line_read : List ℕ → Result Read ExpoKind
line_read line = outcome_of (is_utf8 line) (way Start (chars (text_front line)))

-- Why a line is not read: it is bad in this way. Nothing is said where memory runs out.
abbrev pub IsBadLine : List ℕ → LineFault → Type 0
IsBadLine line (Bad kind) = line_read line ≡ Err kind
IsBadLine line Memory = Unit {0}

abbrev pub StopsBy : List ℕ → LineFault → Type 0
StopsBy text (Bad kind) = way Start (chars text) ≡ stops kind
StopsBy text Memory = Unit {0}
