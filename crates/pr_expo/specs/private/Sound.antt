-- What holds of every line that is read: the names of its labels are label names and stand once,
-- its number is a number text, and its time is short.
use Rattle.std.specs.Prelude.{◌≡◌, ℕ, ◌<◌, ◌≤◌, Option, Some, None, List, ◌∷◌, ◌++◌, length}
use Rattle.pr_labels.specs.LabelSet.{metric_label, pair_of}
use Rattle.pr_labels.specs.Edits.{first_fault}
use Rattle.pr_num.specs.private.Forms.{AreDigits, IsNumberText, Sign, sign_text}
use Rattle.pr_expo.specs.declared.expo_line.place.LineHead.{LineHead}
use Rattle.pr_expo.specs.declared.expo_line.place.Read.{Read}
use Rattle.pr_expo.specs.declared.expo_line.place.Read.TheVariants.{Nothing, Help, Typed, Sample}

-- the metric's name and the labels are the pairs of a label set
abbrev pub HasDistinctNames : LineHead → Type 0
HasDistinctNames head = first_fault (pair_of metric_label head.name ∷ head.labels) ≡ None

-- a sign, which may be missing, and so many digits, at least one
pub record IsSignedDigits (text : List ℕ) (count : ℕ) : Type 0 where
  pub sign : Sign
  pub digits : List ℕ
  pub parts : text ≡ sign_text sign ++ digits
  pub digits_alone : AreDigits digits
  pub some : 0 < length digits
  pub counted : length digits ≡ count

-- a time, where there is one, has up to 18 digits
abbrev pub IsTime : Option (List ℕ) → Type 0
IsTime None = Unit {0}
IsTime (Some text) = (count : ℕ) × ((count ≤ 18) × IsSignedDigits text count)

abbrev pub IsSound : Read → Type 0
IsSound Nothing = Unit {0}
IsSound (Help name) = Unit {0}
IsSound (Typed name kind) = Unit {0}
IsSound (Sample m time) = HasDistinctNames m.head × IsNumberText m.number × IsTime time
