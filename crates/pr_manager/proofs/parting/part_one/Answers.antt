use Rattle.std.proofs.Common.{sym, ◌∙◌}
use Rattle.std.specs.Prelude.{is_some}
use Rattle.pr_manager.specs.private.Naming.{value_of}
use Rattle.pr_manager.proofs.Parts.{none_gone}
use Rattle.pr_manager.proofs.parting.part_one.Goals as goal

pub returns-in_ok-put-clause-gone : goal.returns-in_ok-put-clause-gone
returns-in_ok-put-clause-gone g c = none_gone c.args.parted.now.gone.items (is_some (value_of c.args.names.now c.args.name)) c.args.old (sym c.has.ensures ∙ c.if-not-has.false)
