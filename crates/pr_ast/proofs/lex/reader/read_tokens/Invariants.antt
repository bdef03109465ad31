use Rattle.std.proofs.Common.{◌-◌, ◌≤◌, length}
use Rattle.pr_ast.proofs.TokensLoop.{Found}
use Rattle.pr_ast.proofs.lex.reader.read_tokens.Given as goal

abbrev pub invariant-loop-place : goal.invariant-loop-place
invariant-loop-place l = record { within : l.place ≤ length l.bytes; found : Found l.bytes l.most l.inside l.place l.found.items }

abbrev pub decreases-loop-place : goal.decreases-loop-place
decreases-loop-place l = length l.bytes - l.place
