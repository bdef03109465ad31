use Rattle.pr_time.proofs.SpanPrint.{behind}
use Rattle.pr_time.proofs.print.write_span.Goals as goal

pub returns-clause-rest : goal.returns-clause-rest
returns-clause-rest c =
    let hours = behind _ c.put_part-days_end.new.out _ c.put_part-days_end.result c.put_part-hours_end.result c.put_part-hours_end.ensures.from c.put_part-days_end.ensures.rest c.put_part-hours_end.ensures.rest in
    let minutes = behind _ c.put_part-hours_end.new.out _ c.put_part-hours_end.result c.put_part-minutes_end.result c.put_part-minutes_end.ensures.from hours c.put_part-minutes_end.ensures.rest in
    let seconds = behind _ c.put_part-minutes_end.new.out _ c.put_part-minutes_end.result c.put_part-seconds_end.result c.put_part-seconds_end.ensures.from minutes c.put_part-seconds_end.ensures.rest in
    behind _ c.put_part-seconds_end.new.out _ c.put_part-seconds_end.result c.put_part.result c.put_part.ensures.from seconds c.put_part.ensures.rest
