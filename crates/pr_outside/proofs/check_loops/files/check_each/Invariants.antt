use Rattle.std.proofs.Common.{◌≡◌, ℕ, List, map, string_bytes, length}
use Rattle.pr_outside.specs.Courses.{GoesOn}
use Rattle.pr_outside.specs.Outside.{Held, AreTold}
use Rattle.pr_outside.specs.FileChecks.{all_asks, all_told}
use Rattle.pr_outside.specs.private.FileStops.{AreDone}
use Rattle.pr_outside.proofs.check_loops.files.check_each.Given as goal

abbrev pub invariant-checking : goal.invariant-checking
invariant-checking g l = record {
  done : (held : Held) → AreTold (g.F.Files.means l.fn.files).content held (all_asks (all_told g.C.FileCheck.told held (map string_bytes l.names)))
      → AreDone g.C.FileCheck.told held (map string_bytes l.rest) (all_told g.C.FileCheck.told held (map string_bytes l.names))
      (g.O.Sink.means l.fn.out).taken (g.O.Sink.means l.out).taken (g.F.Files.means l.fn.files).calls (g.F.Files.means l.files).calls l.refused;
  same : (other : List ℕ) → (g.F.Files.means l.files).content other ≡ (g.F.Files.means l.fn.files).content other;
  files : (g.F.Files.means l.files).faults ≡ (g.F.Files.means l.fn.files).faults;
  out : (g.O.Sink.means l.out).faults ≡ (g.O.Sink.means l.fn.out).faults;
  files_course : GoesOn (g.F.Files.means l.fn.files).course (g.F.Files.means l.files).course;
  out_course : GoesOn (g.O.Sink.means l.fn.out).course (g.O.Sink.means l.out).course;
}

abbrev pub decreases-checking : goal.decreases-checking
decreases-checking g l = length l.rest
