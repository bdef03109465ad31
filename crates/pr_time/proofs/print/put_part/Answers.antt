use Rattle.std.proofs.Common.{arith}
use Rattle.pr_time.proofs.SpanPrint.{behind, short_number}
use Rattle.pr_time.proofs.print.put_part.Goals as goal

pub put-unit_at-requires : goal.put-unit_at-requires
put-unit_at-requires c = let h = short_number c.args.number _ _ c.requires.small c.as_bytes.ensures.value c.format.ensures.text in omega (arith, h)

pub put-requires : goal.put-requires
put-requires c = let h = short_number c.args.number _ _ c.requires.small c.as_bytes.ensures.value c.format.ensures.text in omega (arith, h, c.put-unit_at.ensures.at)

pub returns-clause-at : goal.returns-clause-at
returns-clause-at c = let h = short_number c.args.number _ _ c.requires.small c.as_bytes.ensures.value c.format.ensures.text in omega (arith, h, c.put-unit_at.ensures.at, c.put.ensures.at)

pub returns-clause-rest : goal.returns-clause-rest
returns-clause-rest c = behind _ c.put-unit_at.new.out _ c.put-unit_at.result c.put.result (omega (arith, c.put.ensures.at)) c.put-unit_at.ensures.rest c.put.ensures.rest
