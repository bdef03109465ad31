use Rattle.std.proofs.Common.{◌≡◌, [], string_bytes, refl, sym, ap, ◌∙◌, subst, map}
use Rattle.std.specs.List.{AllByRecursion}
use Rattle.pr_outside.proofs.Walks.{asked_on, done_on, stop_on}
use Rattle.pr_checks.specs.declared.found.FoundFiles.{FoundFiles}
use Rattle.pr_checks.specs.declared.found.FoundFile.{FoundFile}
use Rattle.pr_checks.specs.private.RulesFound.{IsShortFile}
use Rattle.pr_checks.proofs.RulesFound.{names_found, none_found, walk_made, walk_told}
use Rattle.pr_checks.proofs.found.find_files.Goals as goal

pub returns-in_err-load_each-clause-asked : goal.returns-in_err-load_each-clause-asked
returns-in_err-load_each-clause-asked g c =
    let files = g.F.Files.means in
    asked_on _ Unit (files c.args.files.now).calls (files c.load_each.new.files).calls _ c.from_residual.result c.in_err-load_each.field-0.0 c.from_residual.ensures.1
    (c.in_err-load_each.ensures.all refl)

pub returns-in_err-load_each-clause-ends : goal.returns-in_err-load_each-clause-ends
returns-in_err-load_each-clause-ends g c =
    stop_on _ Unit (g.F.Files.means c.args.files.now) (g.F.Files.means c.load_each.new.files) c.from_residual.result c.in_err-load_each.field-0.0 c.from_residual.ensures.1
    c.in_err-load_each.ensures.ends

pub returns-clause-found : goal.returns-clause-found
returns-clause-found g c = λ held told.
    let none : FoundFiles = record { files = c.empty.result } in
    let content = (g.F.Files.means c.args.files.now).content in
    c.into_vec.ensures
    ∙ walk_made string_bytes held c.args.names.now c.load_each.new.taker none c.empty.ensures
    (c.in_ok-load_each.ensures.made held (walk_told string_bytes held content c.args.names.now none told))

pub returns-clause-names : goal.returns-clause-names
returns-clause-names g c =
    let none : FoundFiles = record { files = c.empty.result } in
    ap (map (λ (f : FoundFile). f.name)) c.into_vec.ensures
    ∙ names_found string_bytes c.args.names.now c.load_each.new.taker (c.in_ok-load_each.ensures.fits (none_found string_bytes c.args.names.now none c.empty.ensures))

pub returns-clause-short : goal.returns-clause-short
returns-clause-short g c =
    let none : FoundFiles = record { files = c.empty.result } in
    let found = c.in_ok-load_each.ensures.fits (none_found string_bytes c.args.names.now none c.empty.ensures) in
    subst (AllByRecursion IsShortFile) (sym c.into_vec.ensures) found.short

pub returns-clause-asked : goal.returns-clause-asked
returns-clause-asked g c = c.in_ok-load_each.ensures.all refl

pub returns-clause-ends : goal.returns-clause-ends
returns-clause-ends g c =
    done_on _ Unit (g.F.Files.means c.args.files.now) (g.F.Files.means c.load_each.new.files) c.in_ok-load_each.field-0 _ c.in_ok-load_each.ensures.ends
