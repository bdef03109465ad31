use Rattle.std.proofs.Common.{◌≡◌, ◌∙◌, ℕ, List, [], cond, Bool, true, false, Option, Some, length, ap, subst}
use Rattle.pr_outside.specs.Contents.{IsFound}
use Rattle.pr_outside.specs.Courses.{course_after}
use Rattle.pr_outside.specs.declared.course.Course.{Course}
use Rattle.pr_outside.specs.Loading.{AreAsked, Stands, made_by, walk}
use Rattle.pr_outside.proofs.Walks.{goes, load_stopped, memory_stopped, next_asked, next_of_all, one_more_asked}
use Rattle.pr_outside.proofs.loading.loading.load_each.Goals as goal

pub returns-in_err-found-clause-asked : goal.returns-in_err-found-clause-asked
returns-in_err-found-clause-asked g c =
    let file = g.T.Taker.file in
    let make = g.T.Taker.make in
    let files = g.F.Files.means in
    let here = c.loading.invariant in
    λ held told.
    let names = c.args.names.now in
    let content = (files c.args.files.now).content in
    let s = subst (λ (l : List _). Stands file make held names l c.args.taker.now c.loading.taker content (files c.args.files.now).calls
    (files c.loading.files).calls) c.in-Some.ensures.cases.0 (here.stands held told) in
    let all = length (walk file make held names c.args.taker.now).asks in
    let n = next_asked file make held names c.in-Some.after.now c.in-Some.name.now c.args.taker.now c.loading.taker content
    (files c.args.files.now).calls (files c.loading.files).calls (files c.load.new.self).calls s c.in_err-found.ensures.calls in
    load_stopped (files c.args.files.now).calls (files c.load.new.self).calls all c.from_residual.result c.in_err-found.field-0.0 c.from_residual.ensures.1 n

pub returns-in_err-found-clause-all : goal.returns-in_err-found-clause-all
returns-in_err-found-clause-all g c =
    let files = g.F.Files.means in
    λ each.
    let all = length c.args.names.now in
    let here = subst (λ (l : List _). AreAsked (files c.args.files.now).calls (files c.loading.files).calls all (length l)) c.in-Some.ensures.cases.0 (c.loading.invariant.all each) in
    load_stopped (files c.args.files.now).calls (files c.load.new.self).calls all c.from_residual.result c.in_err-found.field-0.0 c.from_residual.ensures.1
    (next_of_all (files c.args.files.now).calls (files c.loading.files).calls (files c.load.new.self).calls all (length c.in-Some.after.now) here c.in_err-found.ensures.calls)

pub returns-in_err-take-clause-all : goal.returns-in_err-take-clause-all
returns-in_err-take-clause-all g c =
    let files = g.F.Files.means in
    λ each.
    let all = length c.args.names.now in
    let here = subst (λ (l : List _). AreAsked (files c.args.files.now).calls (files c.loading.files).calls all (length l)) c.in-Some.ensures.cases.0 (c.loading.invariant.all each) in
    memory_stopped (files c.args.files.now).calls (files c.load.new.self).calls all c.from_residual-in_err-take.result c.from_residual-in_err-take.ensures.1
    (next_of_all (files c.args.files.now).calls (files c.loading.files).calls (files c.load.new.self).calls all (length c.in-Some.after.now) here c.in_ok-found.ensures.calls)

pub returns-in_err-take-clause-asked : goal.returns-in_err-take-clause-asked
returns-in_err-take-clause-asked g c =
    let file = g.T.Taker.file in
    let make = g.T.Taker.make in
    let files = g.F.Files.means in
    let here = c.loading.invariant in
    λ held told.
    let names = c.args.names.now in
    let content = (files c.args.files.now).content in
    let s = subst (λ (l : List _). Stands file make held names l c.args.taker.now c.loading.taker content (files c.args.files.now).calls
    (files c.loading.files).calls) c.in-Some.ensures.cases.0 (here.stands held told) in
    let all = length (walk file make held names c.args.taker.now).asks in
    let n = next_asked file make held names c.in-Some.after.now c.in-Some.name.now c.args.taker.now c.loading.taker content
    (files c.args.files.now).calls (files c.loading.files).calls (files c.load.new.self).calls s c.in_ok-found.ensures.calls in
    memory_stopped (files c.args.files.now).calls (files c.load.new.self).calls all c.from_residual-in_err-take.result c.from_residual-in_err-take.ensures.1 n

pub loading-preserved : goal.loading-preserved
loading-preserved g c =
    let file = g.T.Taker.file in
    let make = g.T.Taker.make in
    let fits = g.T.Taker.fits in
    let files = g.F.Files.means in
    let here = c.loading.invariant in
    let load = c.in_ok-found.ensures in
    let names = c.args.names.now in
    let name = c.in-Some.name.now in
    let after = c.in-Some.after.now in
    let more : c.in_ok-take.field-0 ≡ true = c.if-not-branch.false in
    record {
      stands = λ held told.
          let content = (files c.args.files.now).content in
          let s = subst (λ (l : List _). Stands file make held names l c.args.taker.now c.loading.taker content (files c.args.files.now).calls
          (files c.loading.files).calls) c.in-Some.ensures.cases.0 (here.stands held told) in
          let is : (files c.loading.files).content c.file.result.now ≡ Some (held (file name)) = here.same c.file.result.now ∙ ap content c.file.ensures ∙ s.told.0 in
          let found = subst (λ (o : Option (Option (List ℕ))). IsFound o c.in_ok-found.found) is load.found in
          let made = c.in_ok-take.ensures.made (held (file name)) found in
          goes file make held names after name c.args.taker.now c.loading.taker c.take.new.self content (files c.args.files.now).calls (files c.loading.files).calls
          (files c.load.new.self).calls s (made ∙ ap (λ (b : Bool). made_by b c.take.new.self) more) load.calls;
      fits = λ first.
          let now = subst (λ (l : List _). fits names l c.loading.taker) c.in-Some.ensures.cases.0 (here.fits first) in
          subst (λ (b : Bool). fits names (cond b after []) c.take.new.self) more (c.in_ok-take.ensures.fits names after now);
      all = λ each.
          let here = subst (λ (l : List _). AreAsked (files c.args.files.now).calls (files c.loading.files).calls (length names) (length l)) c.in-Some.ensures.cases.0 (c.loading.invariant.all each) in
          one_more_asked (files c.args.files.now).calls (files c.loading.files).calls (files c.load.new.self).calls (length names) (length after) here load.calls;
      same = λ other. load.same other ∙ here.same other;
      calm = load.cause ∙ here.calm;
      course = λ e. load.course ∙ ap (λ (k : Course). course_after k false) (here.course e);
    }
