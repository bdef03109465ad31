-- The lines of an exposition as a grammar: its rules are the places of a line, and each reads a
-- character and what stands after it.
use Rattle.std.specs.Prelude.{ℕ, Bool, true, Option, Some, None, List, []}
use Rattle.pr_labels.specs.pr_forms.Form.{Form, token, nothing, pair, either, chosen, rule, Reads, IsFirstBad}
use Rattle.pr_expo.specs.declared.expo_line.place.LineCursor.{LineCursor}
use Rattle.pr_expo.specs.declared.expo_line.place.LineCursor.TheVariants.{Start}
use Rattle.pr_expo.specs.declared.expo_line.place.Read.{Read}
use Rattle.pr_expo.specs.Line.{goes, ends, Way, comes, stops}

-- what stands at a place, and the character that leads to a place with what stands after it
pub data Rule : Type 0 where
  at : LineCursor → Rule
  by : LineCursor → Rule

abbrev pub by_of : Option LineCursor → Option Rule
by_of None = None
by_of (Some next) = Some (by next)

abbrev pub leads : LineCursor → ℕ → Option Rule
leads place c = by_of (goes place c)

abbrev pub anything : ℕ → Bool
anything c = true

abbrev pub any_byte : ℕ → Option (Option Read)
any_byte c = Some None

abbrev pub no_byte : ℕ → Option (Option Read)
no_byte c = None

abbrev pub second_of : Option Read → Option Read → Option Read
second_of v w = w

-- a line may end where it reads as something
abbrev pub ending : Option Read → Form ℕ Rule (Option Read)
ending None = token no_byte
ending (Some read) = nothing (Some read)

abbrev pub production : Rule → Form ℕ Rule (Option Read)
production (at place) = either (chosen (leads place) anything) (ending (ends place))
production (by place) = pair second_of (token any_byte) (rule (at place))

-- The first place at which no line can go on with the characters.
abbrev pub IsBadPlace : List ℕ → ℕ → Type 0
IsBadPlace text place = IsFirstBad production (rule (at Start)) text place

-- The characters are a line that reads as this.
abbrev pub ReadsLine : List ℕ → Read → Type 0
ReadsLine text read = Reads production (rule (at Start)) text (Some read) []

-- what a line reads as that the way goes through
abbrev pub way_read : Way → Option Read
way_read (comes place) = ends place
way_read (stops kind) = None
