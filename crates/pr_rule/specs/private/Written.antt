-- What becomes of the samples of a rule that are put, and the markers after them.
use Rattle.std.specs.Prelude.{◌≡◌, ℕ, Bool, true, List, ◌++◌, map}
use Rattle.std.specs.List.{zip}
use Rattle.pr_ast.specs.pr_num.declared.value.Num.{Num}
use Rattle.pr_labels.specs.declared.item.Item.{Item}
use Rattle.pr_labels.specs.declared.pair.Pair.{Pair}
use Rattle.spec_rules.specs.spec_history.declared.entry.Entry.{Entry}
use Rattle.spec_rules.specs.spec_history.Admission.{put_all}
use Rattle.spec_rules.specs.spec_history.Puts.{admissions, admitted, label_sets_of, markers, shown_entries}
use Rattle.spec_rules.specs.declared.report.Put.{Put}
use Rattle.spec_rules.specs.Evaluations.{put_of, sample_entry}
use Rattle.pr_eval.specs.pr_head.private.Intake.{PutsIf, Series}

abbrev pub entries_of : ℕ → List (Item Num) → List Entry
entries_of now items = map (sample_entry now) items

-- what is told of samples that are put, and the series that show them then
abbrev pub told_of : List Entry → ℕ → List (Item Num) → List Put
told_of history now items = map put_of (zip items (admissions history (entries_of now items)))

abbrev pub wrote_of : List Entry → ℕ → List (Item Num) → List (List Pair)
wrote_of history now items = label_sets_of (shown_entries history (entries_of now items))

-- Samples were put: into the head, behind what was written, and where that is told behind the rows
-- and behind what is told.
pub record Writes (tells : Bool) (old new : Series) (rows more : List Entry) (so_far telling : List Put) (before written : List (List Pair)) (history : List Entry) (now : ℕ) (items : List (Item Num)) : Type 0 where
  pub puts : PutsIf tells old new rows more history (entries_of now items)
  pub told : tells ≡ true → telling ≡ so_far ++ told_of history now items
  pub wrote : written ≡ before ++ wrote_of history now items

-- the markers of the series that were written before, and now are not
abbrev pub gone_of : List Entry → ℕ → List (List Pair) → List (Item Num) → List Entry
gone_of history now before items = markers now before (wrote_of history now items)

-- The samples of a rule were put, and the markers after them: this is told of them, these are the
-- series that got a marker, where that is told; and these were written.
pub record HasWritten (tells : Bool) (old new : Series) (rows more : List Entry) (before after : List (List Pair)) (telling : List Put) (stale : List (List Pair)) (history : List Entry) (now : ℕ) (items : List (Item Num)) : Type 0 where
  pub puts : PutsIf tells old new rows more history (entries_of now items ++ gone_of history now before items)
  pub told : tells ≡ true → telling ≡ told_of history now items
  pub marked : tells ≡ true → stale ≡ label_sets_of (admitted (put_all history (entries_of now items)) (gone_of history now before items))
  pub wrote : after ≡ wrote_of history now items
