use Rattle.std.proofs.Common.{◌≡◌, length}
use Rattle.pr_text.specs.Reloads.{files_in}
use Rattle.pr_text.proofs.NamedFiles.{joined}
use Rattle.pr_text.proofs.script.reloads.files_in.Given as goal

abbrev pub invariant-reading : goal.invariant-reading
invariant-reading l = joined l.files (files_in l.rest) ≡ files_in l.text

abbrev pub decreases-reading : goal.decreases-reading
decreases-reading l = length l.rest
