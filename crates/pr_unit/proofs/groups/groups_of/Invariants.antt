use Rattle.std.proofs.Common.{List, length, map}
use Rattle.pr_slide.specs.spec_history.declared.entry.Entry.{Entry}
use Rattle.pr_group.specs.spec_rules.Replays.{unwaiting_groups}
use Rattle.pr_unit.specs.private.Loaded.{AreAllSound, file_of}
use Rattle.pr_unit.proofs.Building.{KeepsFiles}
use Rattle.pr_unit.proofs.groups.groups_of.Given as goal

-- the groups of the files so far are kept
abbrev pub invariant-files : goal.invariant-files
invariant-files g l = record {
  sound : AreAllSound l.rest;
  kept : (history : List Entry)
      → KeepsFiles g.R.Ranges.fits g.R.Ranges.last g.R.Ranges.passed l.groups.items history (record { subquery_step = l.step; external = l.external }) l.rest (unwaiting_groups (map file_of l.files));
}

abbrev pub decreases-files : goal.decreases-files
decreases-files g l = length l.rest
