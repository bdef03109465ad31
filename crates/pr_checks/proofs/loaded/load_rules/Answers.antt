use Rattle.std.proofs.Common.{◌≡◌, ℕ, List, [], Vec, Global, string_bytes, ap, ◌∙◌, subst, map}
use Rattle.pr_outside.proofs.Walks.{asked_on, done_on, stop_on}
use Rattle.pr_checks.specs.declared.found.FoundFile.{FoundFile}
use Rattle.pr_checks.specs.private.RulesFound.{rules_found}
use Rattle.pr_checks.specs.private.RulesTaken.{AreKept}
use Rattle.pr_checks.proofs.Behind.{memory_asked, memory_ends}
use Rattle.pr_checks.proofs.RulesFound.{rules_of_found}
use Rattle.pr_checks.proofs.loaded.load_rules.Goals as goal

pub returns-in_err-found-clause-asked : goal.returns-in_err-found-clause-asked
returns-in_err-found-clause-asked g c =
    let files = g.F.Files.means in
    asked_on _ (Vec FoundFile Global) (files c.args.files.now).calls (files c.find_files.new.files).calls _ c.from_residual.result c.in_err-found.field-0.0
    c.from_residual.ensures.1 c.in_err-found.ensures.asked

pub returns-in_err-found-clause-ends : goal.returns-in_err-found-clause-ends
returns-in_err-found-clause-ends g c =
    stop_on _ _ (g.F.Files.means c.args.files.now) (g.F.Files.means c.find_files.new.files) c.from_residual.result c.in_err-found.field-0.0
    c.from_residual.ensures.1 c.in_err-found.ensures.ends

pub returns-in_err-read_all-clause-asked : goal.returns-in_err-read_all-clause-asked
returns-in_err-read_all-clause-asked g c =
    let files = g.F.Files.means in
    memory_asked _ (files c.args.files.now).calls (files c.find_files.new.files).calls _ c.from_residual-in_err-read_all.result c.from_residual-in_err-read_all.ensures.1
    c.in_ok-found.ensures.asked

pub returns-in_err-read_all-clause-ends : goal.returns-in_err-read_all-clause-ends
returns-in_err-read_all-clause-ends g c =
    memory_ends _ _ (g.F.Files.means c.args.files.now) (g.F.Files.means c.find_files.new.files) c.in_ok-found.found c.from_residual-in_err-read_all.result
    c.from_residual-in_err-read_all.ensures.1 c.in_ok-found.ensures.ends

pub returns-clause-loaded : goal.returns-clause-loaded
returns-clause-loaded g c = λ held told.
    c.in_ok-read_all.ensures.read ∙ ap rules_found (c.in_ok-found.ensures.found held told) ∙ rules_of_found held (map string_bytes c.args.names.now)

pub returns-clause-kept : goal.returns-clause-kept
returns-clause-kept g c = subst (λ (names : List (List ℕ)). AreKept names c.in_ok-read_all.field-0.files []) c.in_ok-found.ensures.names c.in_ok-read_all.ensures.kept

pub returns-clause-ends : goal.returns-clause-ends
returns-clause-ends g c =
    done_on _ _ (g.F.Files.means c.args.files.now) (g.F.Files.means c.find_files.new.files) c.in_ok-found.found _ c.in_ok-found.ensures.ends
