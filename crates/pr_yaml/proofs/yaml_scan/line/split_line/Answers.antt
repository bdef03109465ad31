use Rattle.std.proofs.Common.{sym, ◌+◌}
use Rattle.pr_yaml.proofs.Lines.{from_place, split_at_feed, last_line}
use Rattle.pr_yaml.proofs.yaml_scan.line.split_line.Goals as goal

pub returns-in-Some-clause-lines : goal.returns-in-Some-clause-lines
returns-in-Some-clause-lines c = rw (c.without_return.ensures.value, from_place c.args.text.now (c.in-Some.at + 1)) (split_at_feed c.args.text.now c.in-Some.at (sym c.in-Some.ensures))

pub returns-in-None-clause-lines : goal.returns-in-None-clause-lines
returns-in-None-clause-lines c = last_line c.args.text.now (sym c.in-None.ensures)
