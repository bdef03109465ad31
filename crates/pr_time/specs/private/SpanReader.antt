-- What the functions that read a span text say of themselves.
use Prim.Native.Char.{code}
use Rattle.std.specs.Prelude.{◌≡◌, ℕ, ◌+◌, ◌<◌, ◌^◌, min, nat_le, List, ◌∷◌, Bool, Option, Some, None, length, if◌then◌else◌}
use Rattle.pr_forms.specs.Form.{Form, turns, rule}
use Rattle.pr_forms.specs.Run.{good}
use Rattle.pr_forms.specs.Language.{Language, Gives, Leads, Carries, is_started}
use Rattle.pr_time.specs.declared.text.Letter.{Letter}
use Rattle.pr_time.specs.declared.text.Letter.TheVariants.{Y, W, D, H, M, S}
use Rattle.pr_time.specs.declared.text.Unit.{Unit as TimeUnit}
use Rattle.pr_time.specs.declared.text.Unit.TheVariants.{Year, Week, Day, Hour, Minute, Second}
use Rattle.pr_time.specs.SpanText.{production, letter_of, seen, Rule, AfterZero, After, From, SpanValue, count, span, scaled, ms_of, rank, shifted, digit}
use Rattle.pr_time.specs.SpanTable.{table}

-- the language of span texts, over bytes
abbrev pub spans : Language ℕ Letter Rule SpanValue
spans = record { production = production; table = table; see = letter_of }

-- The text is this letter and the rest.
pub record IsFront (text : List ℕ) (letter : Letter) (rest : List ℕ) : Type 0 where
  pub is : seen text ≡ letter ∷ seen rest
  pub shorter : length rest < length text

-- a number as the reader keeps it: exact up to the greatest span, and else one above that
abbrev pub kept : ℕ → ℕ
kept n = min n (2 ^ 40 + 1)

-- More digits after a number, with which the form goes on.
abbrev pub Digits : Form Letter Rule SpanValue → List ℕ → ℕ → List ℕ → Type 0
Digits f text n rest = Leads spans f text (turns shifted (count n) digit) rest

-- The form is read with a number that is kept so.
pub record ReadsCount (f : Form Letter Rule SpanValue) (text : List ℕ) (number : ℕ) (rest : List ℕ) : Type 0 where
  pub exact : ℕ
  pub gives : Gives spans f text (good (count exact) (seen rest))
  pub is_kept : number ≡ kept exact

-- The form is read with milliseconds that are kept so.
pub record MeasuresSpan (f : Form Letter Rule SpanValue) (text : List ℕ) (ms : ℕ) (rest : List ℕ) : Type 0 where
  pub exact : ℕ
  pub gives : Gives spans f text (good (span exact) (seen rest))
  pub is_kept : ms ≡ kept exact

-- After the unit there come the parts after it, and they decide.
abbrev pub Enters : TimeUnit → List ℕ → TimeUnit → List ℕ → Type 0
Enters greatest text unit rest = Carries spans (rule (From greatest)) text (scaled (ms_of unit)) (rule (After unit)) rest span

-- the text with an m before it
abbrev pub with_m : List ℕ → List ℕ
with_m text = code "m" ∷ text

abbrev pub starts_amount : List ℕ → Bool
starts_amount text = is_started spans (rule AfterZero) text

-- the unit that a letter writes; an m stands for minutes
abbrev pub named : Letter → Option TimeUnit
named Y = Some Year
named W = Some Week
named D = Some Day
named H = Some Hour
named M = Some Minute
named S = Some Second
named _ = None

-- the unit, where it is the greatest one or a smaller one
abbrev pub kept_from : TimeUnit → Option TimeUnit → Option TimeUnit
kept_from greatest None = None
kept_from greatest (Some u) = if nat_le (rank greatest) (rank u) then Some u else None

abbrev pub unit_left : TimeUnit → Letter → Option TimeUnit
unit_left greatest t = kept_from greatest (named t)

-- A form with a number so far, which more digits go on.
pub record Going (f : Form Letter Rule SpanValue) (text : List ℕ) (number : ℕ) (rest : List ℕ) : Type 0 where
  pub exact : ℕ
  pub leads : Digits f text exact rest
  pub is_kept : number ≡ kept exact
