use Rattle.std.proofs.Common.{◌≡◌, rules}
use Rattle.pr_tmpl.proofs.TextKept.{same_kind}
use Rattle.pr_tmpl.proofs.words.sign_in.Goals as goal

pub returns-then-eq-clause-text : goal.returns-then-eq-clause-text
returns-then-eq-clause-text c = let e : c.in-Some.kind ≡ c.args.wanted = search rules in same_kind c.in-Some.kind c.args.wanted c.args.text.now c.in-Some.rest.now e c.in-Some.ensures.text
