-- The families of an exposition and its samples, by what its lines read as. What a line means
-- depends on the lines before it.
use Rattle.std.specs.Prelude.{◌≡◌, ℕ, ◌-◌, ◌==◌, ◌&&◌, Bool, true, false, cond, Option, Some, None, unwrap_or, Result, Ok, Err, List, [], ◌∷◌, ◌++◌, length, take, filter, flat_map, fold, map, codes}
use Rattle.std.specs.List.{list_any, position_or_len, ends_with}
use Rattle.std.specs.Option.{option_map, option_or}
use Rattle.std.specs.Str.{bytes_eq}
use Rattle.std.specs.Str.Parse.{signed_digits_value}
use Rattle.pr_labels.specs.pr_words.Names.{is_among}
use Rattle.pr_num.specs.declared.value.Num.{Num}
use Rattle.pr_num.specs.declared.text.NumFault.{NumFault}
use Rattle.pr_num.specs.declared.text.NumFault.TheVariants.{NotNumber, TooWide}
use Rattle.pr_num.specs.Reads.{reads}
use Rattle.pr_labels.specs.LabelSet.{metric_label, pair_of}
use Rattle.pr_labels.specs.Edits.{labels_of}
use Rattle.pr_expo.specs.declared.expo_line.place.FamilyKind.{FamilyKind}
use Rattle.pr_expo.specs.declared.expo_line.place.FamilyKind.TheVariants.{Counter, Gauge, Histogram, Summary, Untyped}
use Rattle.pr_expo.specs.declared.expo_line.place.Measured.{Measured}
use Rattle.pr_expo.specs.declared.expo_line.place.Read.{Read}
use Rattle.pr_expo.specs.declared.expo_line.place.Read.TheVariants.{Nothing, Help, Typed, Sample}
use Rattle.pr_expo.specs.declared.exposition.ExpoError.{ExpoError}
use Rattle.pr_expo.specs.declared.exposition.ExpoError.TheVariants.{Fault, Memory}
use Rattle.pr_expo.specs.declared.exposition.Exposition.{Exposition}
use Rattle.pr_expo.specs.declared.exposition.Family.{Family}
use Rattle.pr_expo.specs.declared.exposition.Line.{Line}
use Rattle.pr_expo.specs.Text.{text_reads}

-- a line, by what it reads as, and the lines before it
pub record Arrival : Type 0 where
  pub before : List Read
  pub line : Read

abbrev pub arrivals_after : List Read → List Read → List Arrival
arrivals_after before [] = []
arrivals_after before (line ∷ lines) = record { before = before; line = line } ∷ arrivals_after (before ++ line ∷ []) lines

abbrev pub arrivals : List Read → List Arrival
arrivals all = arrivals_after [] all

-- the types that lines give a name, in order
abbrev pub type_at : List ℕ → Read → List FamilyKind
type_at name Nothing = []
type_at name (Help family) = []
type_at name (Typed family kind) = cond (bytes_eq name family) (kind ∷ []) []
type_at name (Sample m time) = []

abbrev pub types_of : List Read → List ℕ → List FamilyKind
types_of before name = flat_map (type_at name) before

-- the kind of a name by these lines: its first type, and untyped where it has none
abbrev pub first_type : List FamilyKind → FamilyKind
first_type [] = Untyped
first_type (kind ∷ kinds) = kind

abbrev pub kind_of : List Read → List ℕ → FamilyKind
kind_of before name = first_type (types_of before name)

-- A histogram has parts, and a summary has some of them.
abbrev pub has_parts : Bool → FamilyKind → Bool
has_parts in_summaries Counter = false
has_parts in_summaries Gauge = false
has_parts in_summaries Histogram = true
has_parts in_summaries Summary = in_summaries
has_parts in_summaries Untyped = false

-- the name without an ending
abbrev pub ends_in : List ℕ → List ℕ → Bool
ends_in ending name = ends_with (◌==◌) name ending

abbrev pub without_ending : List ℕ → List ℕ → List ℕ
without_ending ending name = take (length name - length ending) name

-- the family of which a name with this ending is a part
abbrev pub whole_of : (List ℕ → FamilyKind) → Bool → List ℕ → List ℕ → Option (List ℕ)
whole_of kinds in_summaries ending name =
    cond (ends_in ending name) (cond (has_parts in_summaries (kinds (without_ending ending name))) (Some (without_ending ending name)) None) None

-- The family of a sample with this name, by the kinds of names: the histogram of which it is a
-- bucket, or the histogram or summary of which it is the sum or the count, or that of its own name.
abbrev pub family_by_kinds : (List ℕ → FamilyKind) → List ℕ → List ℕ
family_by_kinds kinds name =
    unwrap_or (option_or (whole_of kinds false (codes "_bucket") name)
    (option_or (whole_of kinds true (codes "_sum") name) (whole_of kinds true (codes "_count") name))) name

-- the same by the lines before the sample
abbrev pub family_of : List Read → List ℕ → List ℕ
family_of before name = family_by_kinds (kind_of before) name

-- the family that a line mentions, or none
abbrev pub mentioned_after : List Read → Read → List (List ℕ)
mentioned_after before Nothing = []
mentioned_after before (Help name) = name ∷ []
mentioned_after before (Typed name kind) = name ∷ []
mentioned_after before (Sample m time) = family_of before m.head.name ∷ []

abbrev pub mentioned : Arrival → List (List ℕ)
mentioned a = mentioned_after a.before a.line

abbrev pub mentions : List Read → List (List ℕ)
mentions all = flat_map mentioned (arrivals all)

-- The names of the families, in order of first mention.
abbrev pub arrived : List (List ℕ) → List ℕ → List (List ℕ)
arrived names name = cond (is_among name names) names (names ++ name ∷ [])

abbrev pub family_names : List Read → List (List ℕ)
family_names all = fold arrived [] (mentions all)

-- whether the line is a help text, and a type, of the family
abbrev pub is_help : List ℕ → Read → Bool
is_help name Nothing = false
is_help name (Help family) = bytes_eq name family
is_help name (Typed family kind) = false
is_help name (Sample m time) = false

abbrev pub is_type : List ℕ → Read → Bool
is_type name Nothing = false
is_type name (Help family) = false
is_type name (Typed family kind) = bytes_eq name family
is_type name (Sample m time) = false

-- whether the line is a sample of the family
abbrev pub is_sample_after : List ℕ → List Read → Read → Bool
is_sample_after name before Nothing = false
is_sample_after name before (Help family) = false
is_sample_after name before (Typed family kind) = false
is_sample_after name before (Sample m time) = bytes_eq name (family_of before m.head.name)

abbrev pub is_sample : List ℕ → Arrival → Bool
is_sample name a = is_sample_after name a.before a.line

abbrev pub is_sampled : List Read → List ℕ → Bool
is_sampled before name = list_any (is_sample name) (arrivals before)

-- whether the line is a type of the family, and a sample of it stands before
abbrev pub is_late : List ℕ → Arrival → Bool
is_late name a = is_type name a.line && is_sampled a.before name

abbrev pub has_late_type : List Read → List ℕ → Bool
has_late_type all name = list_any (is_late name) (arrivals all)

-- The family of a name, by all lines.
abbrev pub family_by : List Read → List ℕ → Family
family_by all name = record {
  name = name;
  kind = kind_of all name;
  helps = length (filter (is_help name) all);
  types = length (types_of all name);
  late_type = has_late_type all name;
}

-- the value of a number text, unless it is too wide
abbrev pub value_by : Result Num NumFault → Option Num
value_by (Ok value) = Some value
value_by (Err TooWide) = None
value_by (Err NotNumber) = None

-- The sample of a line, with the place of its family: an empty value is no label, and a time is a
-- sign and digits.
abbrev pub sample_of : Measured → Option (List ℕ) → ℕ → Line
sample_of m time place = record {
  labels = labels_of (pair_of metric_label m.head.name ∷ m.head.labels);
  family = place;
  value = value_by (reads m.number);
  time = option_map (signed_digits_value 10) time;
}

-- the same among families with these names
abbrev pub sample_by : List (List ℕ) → List ℕ → Measured → Option (List ℕ) → Line
sample_by names family m time = sample_of m time (position_or_len (bytes_eq family) names)

abbrev pub samples_after : List (List ℕ) → List Read → Read → List Line
samples_after names before Nothing = []
samples_after names before (Help name) = []
samples_after names before (Typed name kind) = []
samples_after names before (Sample m time) = sample_by names (family_of before m.head.name) m time ∷ []

abbrev pub sample_at : List (List ℕ) → Arrival → List Line
sample_at names a = samples_after names a.before a.line

abbrev pub samples_by : List (List ℕ) → List Read → List Line
samples_by names all = flat_map (sample_at names) (arrivals all)

-- What lines say: the families in order of first mention, and the samples in order.
abbrev pub exposition_by : List Read → Exposition
exposition_by all = record { families = map (family_by all) (family_names all); lines = samples_by (family_names all) all }

abbrev pub exposition_if : Result (List Read) ExpoError → Result Exposition ExpoError
exposition_if (Ok all) = Ok (exposition_by all)
exposition_if (Err fault) = Err fault

-- The exposition that bytes are, or the first bad line.
unfoldable pub exposition_of : List ℕ → Result Exposition ExpoError
exposition_of bytes = exposition_if (text_reads bytes)

-- The bytes are no exposition, for their first bad line. Nothing is said where memory runs out.
abbrev pub Refuses : List ℕ → ExpoError → Type 0
Refuses bytes (Fault line kind) = exposition_of bytes ≡ Err (Fault line kind)
Refuses bytes Memory = Unit {0}
