use Rattle.pr_checks.proofs.Behind.{memory_ends}
use Rattle.pr_test.proofs.Asked.{done_ends, stop_ends}
use Rattle.pr_test.proofs.check.RuleTestsFileCheck.check.Goals as goal

pub returns-in_err-lines-clause-ends : goal.returns-in_err-lines-clause-ends
returns-in_err-lines-clause-ends g c =
    stop_ends _ _ (g.F.Files.means c.args.files.now) (g.F.Files.means c.file_lines.new.files) c.from_residual.result c.in_err-lines.field-0.0
    c.from_residual.ensures.1 c.in_err-lines.ensures.ends

pub returns-in_err-push_told-clause-ends : goal.returns-in_err-push_told-clause-ends
returns-in_err-push_told-clause-ends g c =
    memory_ends _ _ (g.F.Files.means c.args.files.now) (g.F.Files.means c.file_lines.new.files) c.in_ok-lines.lines c.from_residual-in_err-push_told.result
    c.from_residual-in_err-push_told.ensures.1 c.in_ok-lines.ensures.ends

pub returns-clause-ends : goal.returns-clause-ends
returns-clause-ends g c =
    done_ends _ _ (g.F.Files.means c.args.files.now) (g.F.Files.means c.file_lines.new.files) c.in_ok-lines.lines c.in_ok-push_told.field-0 c.in_ok-lines.ensures.ends
