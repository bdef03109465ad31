-- What the lines of an exposition read as, and the first that is bad.
use Rattle.std.specs.Prelude.{ℕ, suc, Result, Ok, Err, List, [], ◌∷◌}
use Rattle.pr_labels.specs.pr_words.Lines.{text_lines}
use Rattle.pr_expo.specs.declared.expo_line.place.ExpoKind.{ExpoKind}
use Rattle.pr_expo.specs.declared.expo_line.place.Read.{Read}
use Rattle.pr_expo.specs.Line.{line_read}
use Rattle.pr_expo.specs.declared.exposition.ExpoError.{ExpoError}
use Rattle.pr_expo.specs.declared.exposition.ExpoError.TheVariants.{Fault}

-- what a line reads as before what the others do, or the first that is bad, with its number
abbrev pub joined : ℕ → Result Read ExpoKind → Result (List Read) ExpoError → Result (List Read) ExpoError
joined number (Err kind) others = Err (Fault number kind)
joined number (Ok read) (Err fault) = Err fault
joined number (Ok read) (Ok reads) = Ok (read ∷ reads)

-- the same of lines with numbers from this one on
abbrev pub reads_from : ℕ → List (List ℕ) → Result (List Read) ExpoError
reads_from number [] = Ok []
reads_from number (line ∷ lines) = joined number (line_read line) (reads_from (suc number) lines)

-- What the lines of a text read as, one after the other, or the number of the first that is bad,
-- and how it is.
unfoldable pub text_reads : List ℕ → Result (List Read) ExpoError
text_reads bytes = reads_from 1 (text_lines bytes)
