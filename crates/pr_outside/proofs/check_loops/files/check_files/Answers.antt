use Rattle.std.proofs.Common.{map, string_bytes}
use Rattle.pr_outside.proofs.Commands.{means_files}
use Rattle.pr_outside.proofs.check_loops.files.check_files.Goals as goal

pub returns-clause-means : goal.returns-clause-means
returns-clause-means g c =
    let files = g.F.Files.means in
    let out = g.O.Sink.means in
    λ others. means_files g.C.FileCheck.told (map string_bytes c.args.names.now) (record others { files = files c.args.files.now; out = out c.args.out.now })
    (record others { files = files c.check_each.new.files; out = out c.check_each.new.out }) c.check_each.result c.status_of.result c.status_of.ensures
    (c.check_each.ensures.ends others) (λ held told. c.check_each.ensures.told held others told) (λ held told. c.check_each.ensures.front held others told)
