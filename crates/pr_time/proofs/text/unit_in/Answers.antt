use Rattle.std.proofs.Common.{sym, ◌∙◌}
use Rattle.pr_time.proofs.SpanUnits.{from_end, unit_some, unit_none}
use Rattle.pr_time.proofs.text.unit_in.Goals as goal

pub returns-in_default-clause-read : goal.returns-in_default-clause-read
returns-in_default-clause-read c = rw c.in_default.ensures (from_end c.args.greatest)

pub returns-in-Some-unit_of : goal.returns-in-Some-unit_of
returns-in-Some-unit_of c = record {
  read = unit_some c.args.greatest c.in-Some-unit_of.unit c.in-Some.letter _ _ c.in-Some.ensures.is c.in_default-letter.not-M (sym c.unit_of.ensures ∙ c.in-Some-unit_of.is);
  shorter = c.in-Some.ensures.shorter;
}

pub returns-in-None : goal.returns-in-None
returns-in-None c = record {
  read = unit_none c.args.greatest c.in-Some.letter _ _ c.in-Some.ensures.is c.in_default-letter.not-M (sym c.unit_of.ensures ∙ c.in-None.is);
  shorter = tt;
}
