use Rattle.std.proofs.Common.{length, []}
use Rattle.pr_forms.specs.Form.{turns}
use Rattle.pr_forms.specs.Language.{Leads}
use Rattle.test_forms.specs.private.Quoted.{strings, content, joined, piece}
use Rattle.test_forms.proofs.string.pieces_in.Given as goal

abbrev pub invariant-loop-byte : goal.invariant-loop-byte
invariant-loop-byte l = Leads strings (turns joined (content []) piece) l.text (turns joined (content l.bytes.items) piece) l.rest

abbrev pub decreases-loop-byte : goal.decreases-loop-byte
decreases-loop-byte l = length l.rest
