use Rattle.std.proofs.Common.{◌∙◌, ◌+◌, length, arith}
use Rattle.pr_exercise.proofs.Tallies.{count_on, is_some, room_less, room_on, some_rest}
use Rattle.pr_exercise.proofs.tally.Tally.count_lines.Goals as goal

pub count_line-tally-requires : goal.count_line-tally-requires
count_line-tally-requires c =
    let rest = c.counting.rest.now in
    let text = c.args.text.now in
    room_less c.counting.tally 1 (0 + length rest) (omega (arith, some_rest rest (is_some rest c.is_empty.result c.is_empty.ensures c.counting-test.true)))
    (c.counting.invariant.room 0 (room_less c.args.self (0 + length text) (length text) (omega arith) c.requires))

pub counting-preserved : goal.counting-preserved
counting-preserved c =
    let rest = c.counting.rest.now in
    let some = is_some rest c.is_empty.result c.is_empty.ensures c.counting-test.true in
    record {
      counted =
          count_on c.counting.tally c.count_line-tally.result rest c.split_line.result.0.now c.split_line.result.1.now some c.count_line-tally.ensures c.split_line.ensures.line c.split_line.ensures.behind
          ∙ c.counting.invariant.counted;
      room = λ more r.
          room_on c.counting.tally c.count_line-tally.result rest c.split_line.result.0.now c.split_line.result.1.now more c.count_line-tally.ensures (c.split_line.ensures.shorter some) (c.counting.invariant.room more r);
    }

pub returns-clause-room : goal.returns-clause-room
returns-clause-room c = λ more r. room_less c.counting.tally more (more + length c.counting.rest.now) (omega arith) (c.counting.invariant.room more r)
