use Rattle.std.proofs.Common.{Ok, Err}
use Rattle.pr_outside.proofs.Walks.{asked_on, done_on, stop_on}
use Rattle.pr_run.proofs.Loads.{names_begin, names_end, told_walk, walk_asked, walk_found}
use Rattle.pr_run.proofs.files.load_files.Goals as goal

pub returns-in_err-load_each-clause-asked : goal.returns-in_err-load_each-clause-asked
returns-in_err-load_each-clause-asked g c =
    let files = g.F.Files.means in
    λ held told.
    let before = (files c.args.from.now).calls in
    let now = (files c.load_each.new.files).calls in
    let stop = c.in_err-load_each.field-0.0 in
    asked_on _ Unit before now _ c.from_residual.result stop c.from_residual.ensures.1
    (walk_asked held c.args.files.now c.empty.result c.empty.ensures Unit before now (Err stop)
    (c.in_err-load_each.ensures.asked held (told_walk held c.args.files.now c.empty.result c.empty.ensures (files c.args.from.now).content told)))

pub returns-in_err-load_each-clause-ends : goal.returns-in_err-load_each-clause-ends
returns-in_err-load_each-clause-ends g c =
    stop_on _ Unit (g.F.Files.means c.args.from.now) (g.F.Files.means c.load_each.new.files) c.from_residual.result c.in_err-load_each.field-0.0 c.from_residual.ensures.1
    c.in_err-load_each.ensures.ends

pub returns-clause-found : goal.returns-clause-found
returns-clause-found g c =
    let files = g.F.Files.means in
    λ held told.
    walk_found held c.args.files.now c.empty.result c.empty.ensures c.load_each.new.taker c.into_found.result
    (c.in_ok-load_each.ensures.made held (told_walk held c.args.files.now c.empty.result c.empty.ensures (files c.args.from.now).content told)) c.into_found.ensures

pub returns-clause-names : goal.returns-clause-names
returns-clause-names g c =
    names_end c.args.files.now c.load_each.new.taker c.into_found.result (c.in_ok-load_each.ensures.fits (names_begin c.args.files.now c.empty.result c.empty.ensures)) c.into_found.ensures

pub returns-clause-asked : goal.returns-clause-asked
returns-clause-asked g c =
    let files = g.F.Files.means in
    λ held told.
    walk_asked held c.args.files.now c.empty.result c.empty.ensures Unit (files c.args.from.now).calls (files c.load_each.new.files).calls (Ok c.in_ok-load_each.field-0)
    (c.in_ok-load_each.ensures.asked held (told_walk held c.args.files.now c.empty.result c.empty.ensures (files c.args.from.now).content told))

pub returns-clause-ends : goal.returns-clause-ends
returns-clause-ends g c =
    done_on _ Unit (g.F.Files.means c.args.from.now) (g.F.Files.means c.load_each.new.files) c.in_ok-load_each.field-0 _ c.in_ok-load_each.ensures.ends
