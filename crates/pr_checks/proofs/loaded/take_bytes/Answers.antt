use Rattle.std.proofs.Common.{◌≡◌, flat_map, refl, ap, sym, ◌∙◌, subst}
use Rattle.spec_world.specs.pr_rulefile.File.{IsErrorOf, gives_problems, rule_file_of}
use Rattle.pr_checks.specs.Problems.{problem_line}
use Rattle.pr_checks.specs.private.RulesTaken.{with_wrong}
use Rattle.pr_checks.proofs.RulesKept.{keeps_one, on_ok, wrong_kept}
use Rattle.pr_checks.proofs.RulesTaken.{file_taken, problems_taken}
use Rattle.pr_checks.proofs.loaded.take_bytes.Goals as goal

pub returns-in-Ok-clause-taken : goal.returns-in-Ok-clause-taken
returns-in-Ok-clause-taken c =
    on_ok _ _ _ _ c.push.result
    (λ e. file_taken c.args.rules.now (record { wrong = c.args.rules.now.wrong; files = c.push.new.self }) (record { name = c.args.name; groups = c.in-Ok.file.groups }) (rule_file_of c.args.bytes) refl e
    (ap rule_file_of (sym c.as_slice.ensures) ∙ c.in-Ok.ensures.file))
    c.push.ensures.ok

pub returns-in-Ok-clause-kept : goal.returns-in-Ok-clause-kept
returns-in-Ok-clause-kept c =
    on_ok _ _ _ _ c.push.result
    (λ e. keeps_one c.args.rules.now.files c.push.new.self (record { name = c.args.name; groups = c.in-Ok.file.groups }) c.args.name e refl
    (record { text = c.as_slice.result.now; good = c.in-Ok.ensures.file }))
    c.push.ensures.ok

pub returns-in-Err-Problems-clause-taken : goal.returns-in-Err-Problems-clause-taken
returns-in-Err-Problems-clause-taken c =
    let is : rule_file_of c.as_slice.result.now ≡ gives_problems c.in-Err-Problems.list =
    subst (IsErrorOf (rule_file_of c.as_slice.result.now)) c.in-Err-Problems.field-0-is c.in-Err-Problems.ensures.problems in
    on_ok _ _ _ _ c.take_problems.result
    (λ e. problems_taken c.args.rules.now c.take_problems.new.rules c.args.name c.in-Err-Problems.list (rule_file_of c.args.bytes) (ap rule_file_of (sym c.as_slice.ensures) ∙ is)
    (e ∙ (λ i. with_wrong c.args.rules.now (flat_map (problem_line (c.as_str.ensures i)) ((c.as_slice-in-Err-Problems.ensures ∙ c.in-Err-Problems.list-is) i)))))
    c.take_problems.ensures

pub returns-in-Err-Problems-clause-kept : goal.returns-in-Err-Problems-clause-kept
returns-in-Err-Problems-clause-kept c = on_ok _ _ _ _ c.take_problems.result (wrong_kept c.args.rules.now c.take_problems.new.rules _ c.args.name) c.take_problems.ensures
