-- The files that a reload names, where what each name holds is told.
use Rattle.std.specs.Prelude.{ℕ, List, [], ◌∷◌, Option, Some, None, Result, Ok, Err}
use Rattle.spec_rules.specs.spec_meaning.Answers.{go_on}
use Rattle.spec_rules.specs.Definitions.{Group as Definition}
use Rattle.pr_rulefile.specs.File.{rule_file_of}
use Rattle.spec_rules.specs.Settings.{Settings}
use Rattle.spec_world.specs.declared.event.Event.TheVariants.{Reload}
use Rattle.spec_world.specs.declared.event.NamedFile.{NamedFile}
use Rattle.spec_world.specs.declared.report.Report.{Report}
use Rattle.spec_world.specs.declared.report.Report.TheVariants as report
use Rattle.spec_world.specs.Outcome.{EventOutcome, refuse, unless_backwards}
use Rattle.spec_world.specs.Rounds.{groups_by}
use Rattle.spec_world.specs.Step.{Step, outcome_in_time, step_by}
use Rattle.spec_world.specs.World.{World}

-- a file that is to be loaded, and the name by which its groups are to be known
pub record FileToLoad : Type 0 where
  pub name : List ℕ
  pub file : List ℕ

-- what a name holds: bytes, nothing, or more than the limit
pub data Holding : Type 0 where
  holds : List ℕ → Holding
  is_missing : Holding
  is_too_large : Holding

abbrev pub with_bytes : List ℕ → List ℕ → NamedFile
with_bytes name bytes = record { name = name; bytes = bytes }

-- One file is read before the next is loaded.
abbrev pub read_first : NamedFile → Result (List Definition) Report → Result NamedFile Report
read_first f (Ok groups) = Ok f
read_first f (Err refusal) = Err refusal

abbrev pub file_found : FileToLoad → Holding → Result NamedFile Report
file_found n (holds bytes) = read_first (with_bytes n.name bytes) (groups_by n.name (rule_file_of bytes))
file_found n is_missing = Err (report.Missing n.file)
file_found n is_too_large = Err (report.TooLarge n.file)

-- the files in order, up to the first that is missing, too large or no rule file
abbrev pub all_found : (List ℕ → Holding) → List FileToLoad → Result (List NamedFile) Report
all_found content [] = Ok []
all_found content (n ∷ names) =
    go_on (λ f. go_on (λ files. Ok (f ∷ files)) (all_found content names)) (file_found n (content n.file))

-- the reload of these files, or the refusal of the first that is not to be had
abbrev pub found_outcome : Settings → World → ℕ → Result (List NamedFile) Report → EventOutcome
found_outcome s w time (Ok files) = outcome_in_time s w (Reload time files)
found_outcome s w time (Err refusal) = refuse refusal

-- A reload that names files. Its time is looked at first: where that is before the last event, no file
-- is loaded.
unfoldable pub reload_asked : Settings → World → ℕ → (List ℕ → Holding) → List FileToLoad → Step
reload_asked s w time content names = step_by w time (unless_backwards w.last time (found_outcome s w time (all_found content names)))
