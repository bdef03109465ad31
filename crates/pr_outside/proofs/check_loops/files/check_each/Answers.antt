use Rattle.std.proofs.Common.{◌∙◌, refl, sym, subst, map, string_bytes, Bool}
use Rattle.pr_outside.specs.Ends.{no_row}
use Rattle.pr_outside.specs.Outside.{Outside}
use Rattle.pr_outside.specs.FileChecks.{all_told}
use Rattle.pr_outside.specs.private.FileStops.{AreDone}
use Rattle.pr_outside.proofs.EachFile.{end_done, end_front, handed_on, next_cut, next_done, next_told}
use Rattle.pr_outside.proofs.Ended.{ends_on, in_time_same, quiet}
use Rattle.pr_outside.proofs.check_loops.files.check_each.Goals as goal

pub checking-preserved : goal.checking-preserved
checking-preserved g c =
    let told = g.C.FileCheck.told in
    let files = g.F.Files.means in
    let out = g.O.Sink.means in
    let here = c.checking.invariant in
    let next = c.in_ok-check_file.ensures in
    let ends = next.ends quiet in
    record {
      done = λ held is.
          let all = all_told told held (map string_bytes c.args.names.now) in
          let asks = next_told string_bytes told held (files c.args.files.now).content (files c.checking.files).content c.checking.rest.now c.in-Some.after.now
          c.in-Some.name.now (string_bytes c.in-Some.name.now) all (out c.args.out.now).taken (out c.checking.out).taken (files c.args.files.now).calls (files c.checking.files).calls
          c.checking.refused c.in-Some.ensures.cases.0 refl here.same is (here.done held is) in
          subst (λ (b : Bool). AreDone told held (map string_bytes c.in-Some.after.now) all (out c.args.out.now).taken (out c.check_file.new.out).taken
          (files c.args.files.now).calls (files c.check_file.new.files).calls b) (sym c.either-refused.ensures)
          (next_done string_bytes told held c.checking.rest.now c.in-Some.after.now c.in-Some.name.now (string_bytes c.in-Some.name.now) all (out c.args.out.now).taken
          (out c.checking.out).taken (out c.check_file.new.out).taken (files c.args.files.now).calls (files c.checking.files).calls (files c.check_file.new.files).calls
          c.checking.refused c.in_ok-check_file.field-0 c.in-Some.ensures.cases.0 refl (here.done held is) (next.told held asks) (next.asked held asks));
      same = λ other. next.same other ∙ here.same other;
      files = ends.cause.1 ∙ here.files;
      out = ends.cause.3 ∙ here.out;
      files_course = λ e. ends.files (here.files_course e);
      out_course = λ e. ends.out (here.out_course e);
    }

pub returns-clause-told : goal.returns-clause-told
returns-clause-told g c =
    λ held others is. end_done string_bytes g.C.FileCheck.told held c.checking.rest.now (all_told g.C.FileCheck.told held (map string_bytes c.args.names.now))
    (record others { files = g.F.Files.means c.args.files.now; out = g.O.Sink.means c.args.out.now })
    (record others { files = g.F.Files.means c.checking.files; out = g.O.Sink.means c.checking.out }) c.checking.refused c.in_default.ensures.cases
    (c.checking.invariant.done held is)

pub returns-clause-front : goal.returns-clause-front
returns-clause-front g c =
    λ held others is. end_front string_bytes g.C.FileCheck.told held c.checking.rest.now (all_told g.C.FileCheck.told held (map string_bytes c.args.names.now))
    (record others { files = g.F.Files.means c.args.files.now; out = g.O.Sink.means c.args.out.now })
    (record others { files = g.F.Files.means c.checking.files; out = g.O.Sink.means c.checking.out }) c.checking.refused c.in_default.ensures.cases
    (c.checking.invariant.done held is)

pub returns-in_err-check_file-clause-front : goal.returns-in_err-check_file-clause-front
returns-in_err-check_file-clause-front g c =
    let told = g.C.FileCheck.told in
    let files = g.F.Files.means in
    let out = g.O.Sink.means in
    let here = c.checking.invariant in
    let e = c.in_err-check_file.field-0.0 in
    λ held others is.
    let all = all_told told held (map string_bytes c.args.names.now) in
    let before : Outside = record others { files = files c.args.files.now; out = out c.args.out.now } in
    let now : Outside = record others { files = files c.check_file.new.files; out = out c.check_file.new.out } in
    let asks = next_told string_bytes told held (files c.args.files.now).content (files c.checking.files).content c.checking.rest.now c.in-Some.after.now
    c.in-Some.name.now (string_bytes c.in-Some.name.now) all (out c.args.out.now).taken (out c.checking.out).taken (files c.args.files.now).calls (files c.checking.files).calls
    c.checking.refused c.in-Some.ensures.cases.0 refl here.same is (here.done held is) in
    handed_on all before now c.from_residual.result e c.from_residual.ensures.1
    (next_cut string_bytes told held c.checking.rest.now c.in-Some.after.now c.in-Some.name.now (string_bytes c.in-Some.name.now) all before now (out c.checking.out).taken
    (files c.checking.files).calls c.checking.refused e c.in-Some.ensures.cases.0 refl (here.done held is)
    (c.in_err-check_file.ensures.front held asks) (c.in_err-check_file.ensures.asked held asks))

pub returns-in_err-check_file-clause-ends : goal.returns-in_err-check_file-clause-ends
returns-in_err-check_file-clause-ends g c =
    let files = g.F.Files.means in
    let out = g.O.Sink.means in
    let here = c.checking.invariant in
    λ others. ends_on Bool Bool no_row ⊥ (record others { files = files c.args.files.now; out = out c.args.out.now })
    (record others { files = files c.checking.files; out = out c.checking.out })
    (record others { files = files c.check_file.new.files; out = out c.check_file.new.out }) c.from_residual.result c.in_err-check_file.field-0.0 c.from_residual.ensures.1
    (refl, here.files, refl, here.out) (in_time_same others.input.course) here.files_course here.out_course (c.in_err-check_file.ensures.ends others)
