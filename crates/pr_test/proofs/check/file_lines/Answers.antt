use Rattle.std.proofs.Common.{◌≡◌, ℕ, List, Option, IfOk, sym, subst, length}
use Rattle.pr_outside.specs.Contents.{IsFound}
use Rattle.pr_outside.specs.Asks.{AsksBy}
use Rattle.pr_outside.specs.Outside.{AreTold}
use Rattle.pr_test.specs.TestsTold.{TestsFound, lines_of, rule_names}
use Rattle.pr_test.proofs.Asked.{asked_after, load_ends_on, still_going}
use Rattle.pr_checks.proofs.RulesTaken.{told_same}
use Rattle.pr_test.proofs.check.file_lines.Goals as goal

pub returns-clause-lines : goal.returns-clause-lines
returns-clause-lines g c =
    let files = g.F.Files.means in
    λ held told.
    let name = c.args.name.now in
    let found = subst (λ (o : Option (Option (List ℕ))). IsFound o c.in_ok-found.found) told.0 c.in_ok-found.ensures.found in
    let is = c.in_ok-tests.ensures.found (held name) found in
    let asks = subst (λ (f : TestsFound). AreTold (files c.load.new.self).content held (rule_names name f)) (sym is)
    (told_same (files c.args.files.now).content (files c.load.new.self).content held _ c.in_ok-found.ensures.same told.1) in
    subst (λ (f : TestsFound). IfOk c.found_lines.result (λ lines. lines.items ≡ lines_of held name f)) is (c.found_lines.ensures.lines held asks)

pub returns-clause-asked : goal.returns-clause-asked
returns-clause-asked g c =
    let files = g.F.Files.means in
    λ held told.
    let name = c.args.name.now in
    let found = subst (λ (o : Option (Option (List ℕ))). IsFound o c.in_ok-found.found) told.0 c.in_ok-found.ensures.found in
    let is = c.in_ok-tests.ensures.found (held name) found in
    asked_after _ (files c.args.files.now).calls (files c.load.new.self).calls (files c.found_lines.new.files).calls _ c.found_lines.result c.in_ok-found.ensures.calls
    (subst (λ (f : TestsFound). AsksBy (files c.load.new.self).calls (files c.found_lines.new.files).calls (length (rule_names name f)) c.found_lines.result) is
    c.found_lines.ensures.asked)

pub returns-clause-ends : goal.returns-clause-ends
returns-clause-ends g c =
    let files = g.F.Files.means in
    load_ends_on _ (files c.args.files.now) (files c.load.new.self) (files c.found_lines.new.files) c.found_lines.result c.in_ok-found.ensures.cause
    (still_going (files c.args.files.now).course (files c.args.files.now).course (files c.load.new.self).course (λ e. e) c.in_ok-found.ensures.course)
    c.found_lines.ensures.ends
