use Rattle.std.proofs.Common.{sym}
use Rattle.pr_engine.proofs.PrintedTexts.{printed_there}
use Rattle.pr_engine.proofs.rows.texts.PrintedTexts.expected.Goals as goal

pub returns-in-Some : goal.returns-in-Some
returns-in-Some c =
    printed_there c.self.inside.texts.entries c.self.inside.next c.in-Some.known.now c.args.labels.now c.in-Some.text.now c.self.invariant.printed (sym c.in-Some.ensures.entry) (sym c.if-eq.ensures)
