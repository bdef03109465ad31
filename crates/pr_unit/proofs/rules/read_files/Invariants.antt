use Rattle.std.proofs.Common.{length}
use Rattle.pr_unit.specs.private.Loaded.{AreShort}
use Rattle.pr_unit.proofs.Loading.{HasRead}
use Rattle.pr_unit.proofs.rules.read_files.Given as goal

-- the files so far are read
abbrev pub invariant-files : goal.invariant-files
invariant-files l = record {
  short : AreShort l.rest;
  read : HasRead l.files l.rest l.rules.items;
}

abbrev pub decreases-files : goal.decreases-files
decreases-files l = length l.rest
