use Rattle.std.proofs.Common.{length}
use Rattle.std.specs.Str.{IsUtf8}
use Rattle.pr_tmpl.specs.private.Parsed.{HasPartsUpTo}
use Rattle.pr_tmpl.proofs.parse.parts_in.Given as goal

abbrev pub invariant-loop-parts : goal.invariant-loop-parts
invariant-loop-parts l = record { parts : HasPartsUpTo l.text l.parts.items l.rest; text : IsUtf8 l.rest }

abbrev pub decreases-loop-parts : goal.decreases-loop-parts
decreases-loop-parts l = length l.rest
