-- What is counted of lines, one after another. Private contracts cite this: a reader can pass it over.
use Rattle.std.specs.Prelude.{ℕ, ◌+◌, ◌*◌, ◌<◌, ◌≤◌, ◌^◌, cond, List, [], ◌∷◌, ◌++◌, codes}
use Rattle.pr_exercise.specs.Summary.{begins_with, number_line, tells_fault}
use Rattle.pr_exercise.specs.declared.tally.Tally.{Tally}

abbrev pub no_lines : Tally
no_lines = record { lines = 0; samples = 0; stales = 0; sends = 0; faults = 0 }

abbrev pub counted : Tally → List ℕ → Tally
counted t line = record {
  lines = t.lines + 1;
  samples = t.samples + cond (begins_with (codes "sample") line) 1 0;
  stales = t.stales + cond (begins_with (codes "stale") line) 1 0;
  sends = t.sends + cond (begins_with (codes "send") line) 1 0;
  faults = t.faults + cond (tells_fault line) 1 0;
}

abbrev pub counted_all : Tally → List (List ℕ) → Tally
counted_all t [] = t
counted_all t (line ∷ lines) = counted_all (counted t line) lines

abbrev pub tally_of : List (List ℕ) → Tally
tally_of lines = counted_all no_lines lines

-- So many more lines can be counted: a line is counted once, and some of them by what they tell.
pub record HasRoom (more : ℕ) (t : Tally) : Type 0 where
  pub all : t.lines + more < 2 ^ 128
  pub some_samples : t.samples ≤ t.lines
  pub some_stales : t.stales ≤ t.lines
  pub some_sends : t.sends ≤ t.lines
  pub some_faults : t.faults ≤ t.lines

-- so many more texts can be, each of which is shorter than 2^63 bytes
abbrev pub HasRoomForTexts : ℕ → Tally → Type 0
HasRoomForTexts more t = HasRoom (more * 2 ^ 63) t

-- what is written of so many rounds
abbrev pub summary_by : ℕ → Tally → List ℕ
summary_by n t =
    number_line (codes "exercise") n
    ++ (number_line (codes "lines") t.lines
    ++ (number_line (codes "samples") t.samples
    ++ (number_line (codes "stales") t.stales
    ++ (number_line (codes "sends") t.sends
    ++ number_line (codes "faults") t.faults))))
