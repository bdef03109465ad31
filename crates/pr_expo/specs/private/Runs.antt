-- Runs: characters that keep a line at its place, and only lengthen a text there. They say nothing
-- of what a line reads as.
use Rattle.std.specs.Prelude.{◌≡◌, ℕ, Bool, true, false, not, ◌==◌, ◌||◌, List, [], ◌∷◌, ◌++◌}
use Rattle.std.specs.List.{list_all}
use Rattle.std.specs.Char.{is_ascii_digit}
use Rattle.std.specs.Str.{IsUtf8, chars}
use Prim.Native.Char.{code}
use Rattle.pr_labels.specs.pr_words.Bytes.{is_label_byte}
use Rattle.pr_labels.specs.Names.{is_metric_byte}
use Rattle.pr_expo.specs.declared.expo_line.number.NumberPlace.{NumberPlace}
use Rattle.pr_expo.specs.declared.expo_line.number.NumberPlace.TheVariants.{Whole, Fraction, ExponentDigits}
use Rattle.pr_expo.specs.declared.expo_line.place.LineCursor.{LineCursor}
use Rattle.pr_expo.specs.declared.expo_line.place.LineCursor.TheVariants.{Passed, InFamily, InHelp, InName, InLabel, InValue, InNumber}
use Rattle.pr_expo.specs.Line.{way}

-- what ends a value, or begins an escape in it, and every other character of it
abbrev pub ends_plain : ℕ → Bool
ends_plain c = c == code "\"" || c == code "\\"

abbrev pub is_plain : ℕ → Bool
is_plain c = not (ends_plain c)

-- whether a character only lengthens the number's text
abbrev pub lengthens_number : NumberPlace → ℕ → Bool
lengthens_number Whole c = is_ascii_digit c
lengthens_number Fraction c = is_ascii_digit c
lengthens_number ExponentDigits c = is_ascii_digit c
lengthens_number _ c = false

-- whether a character only lengthens the text at the place
abbrev pub lengthens : LineCursor → ℕ → Bool
lengthens Passed c = true
lengthens (InFamily w name) c = is_metric_byte c
lengthens (InHelp name) c = true
lengthens (InName name) c = is_metric_byte c
lengthens (InLabel head name) c = is_label_byte c
lengthens (InValue head name value) c = is_plain c
lengthens (InNumber head place text) c = lengthens_number place c
lengthens _ c = false

-- the place with these bytes behind its text
abbrev pub longer : LineCursor → List ℕ → LineCursor
longer (InFamily w name) run = InFamily w (name ++ run)
longer (InName name) run = InName (name ++ run)
longer (InLabel head name) run = InLabel head (name ++ run)
longer (InValue head name value) run = InValue head name (value ++ run)
longer (InNumber head place text) run = InNumber head place (text ++ run)
longer place run = place

-- each character of the text only lengthens the one at the place
abbrev pub IsRun : LineCursor → List ℕ → Type 0
IsRun place run = list_all (lengthens place) (chars run) ≡ true

-- whether the first byte is of a class
abbrev pub begins_with : (ℕ → Bool) → List ℕ → Bool
begins_with p [] = false
begins_with p (b ∷ bs) = p b

-- A front of the text leads from one place to the next, and this is left.
pub record LeadsTo (place : LineCursor) (text : List ℕ) (next : LineCursor) (rest : List ℕ) : Type 0 where
  pub is_text : IsUtf8 rest
  pub leads : way place (chars text) ≡ way next (chars rest)
