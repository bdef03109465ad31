-- The four objects of small runs, and small answers.
use Rattle.std.specs.Prelude.{ℕ, true, false, List, [], ◌∷◌, length, codes, Some, None}
use Rattle.spec_history.specs.declared.entry.Entry.{Entry}
use Rattle.pr_outside.specs.declared.course.Course.TheVariants.{Going}
use Rattle.pr_outside.specs.spec_history.declared.row.Row.{Row}
use Rattle.pr_outside.specs.Outside.{Outside}
use Rattle.pr_top.specs.pr_run.Told.{OrderAnswer}

-- these bytes were taken, these rows are kept, and so many files were asked for
abbrev pub outside_of : List ℕ → List Row → ℕ → Outside
outside_of taken rows calls = record {
  input = record { left = Some []; taken = 0; faults = 0; course = Going };
  files = record { content = λ name. Some None; calls = calls; faults = 0; course = Going };
  store = record { rows = Some rows; count = length rows; sound = true; paths = []; faults = 0 };
  out = record { taken = Some taken; faults = 0; course = Going };
}

-- an entry that was added
abbrev pub added : Entry → OrderAnswer
added e = record { text = codes "added\n"; rows = e ∷ []; refused = false; asks = [] }

-- a reload of one file, which adds nothing
abbrev pub reloaded : List ℕ → OrderAnswer
reloaded file = record { text = codes "reloaded\n"; rows = []; refused = false; asks = file ∷ [] }
