use Rattle.std.proofs.Common.{ap, sym, subst, ◌∙◌}
use Rattle.pr_unit.specs.private.Loaded.{AreSound}
use Rattle.pr_unit.proofs.Loading.{read_so}
use Rattle.pr_unit.proofs.rules.read_file.Goals as goal

pub returns : goal.returns
returns c = read_so c.args.file.now c.in_ok-name.name c.in_ok-defs.defs c.new.result c.in_ok-name.ensures c.new.ensures.name c.new.ensures.groups c.in_ok-defs.ensures.sound c.in_ok-defs.ensures.groups
