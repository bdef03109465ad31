use Rattle.std.proofs.Common.{◌*◌, ◌^◌, ◌<◌, length, ap, arith}
use Rattle.pr_exercise.proofs.Tallies.{room_for_one, room_for_text}
use Rattle.pr_exercise.proofs.session.Session.tell.Goals as goal

pub count_lines-self-requires : goal.count_lines-self-requires
count_lines-self-requires g c =
    let text = c.push_report.new.text in
    let bytes = c.deref.result.now in
    let short : length bytes < 2 ^ 63 = omega (arith, text.ok, ap length c.deref.ensures.value) in
    room_for_one c.args.self.now.tally bytes short c.requires

pub returns-clause-room : goal.returns-clause-room
returns-clause-room g c = λ more r.
    let text = c.push_report.new.text in
    let bytes = c.deref.result.now in
    let short : length bytes < 2 ^ 63 = omega (arith, text.ok, ap length c.deref.ensures.value) in
    c.count_lines-self.ensures.room (more * 2 ^ 63) (room_for_text c.args.self.now.tally bytes more short r)
