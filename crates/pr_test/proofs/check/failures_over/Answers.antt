use Rattle.std.proofs.Common.{◌≡◌, List, IfOk, map, subst, ap, ◌∙◌}
use Rattle.std.specs.List.{IsDistinct}
use Rattle.std.specs.Str.{bytes_eq}
use Rattle.pr_text.specs.spec_rules.Reloads.{LoadedFile}
use Rattle.pr_testfile.specs.File.{plain_file}
use Rattle.pr_unit.specs.spec_tests.Verdict.{verdict}
use Rattle.pr_checks.specs.private.RulesTaken.{loaded_of}
use Rattle.pr_unit.specs.private.Loaded.{file_of}
use Rattle.pr_test.proofs.Sound.{are_sound, same_names}
use Rattle.pr_test.proofs.check.failures_over.Goals as goal

pub run_tests_over-requires : goal.run_tests_over-requires
run_tests_over-requires c =
    let files = c.args.files in
    let rules = c.deref.result.now in
    let same : map file_of rules ≡ map loaded_of files = ap (map file_of) c.deref.ensures.value ∙ c.in_ok-rules.ensures in
    record {
      some = c.requires.interval;
      sound = are_sound files rules same c.requires.rules;
      names = subst (IsDistinct bytes_eq) (same_names files rules same) c.requires.apart;
    }

pub returns : goal.returns
returns c =
    let same : map file_of c.deref.result.now ≡ map loaded_of c.args.files = ap (map file_of) c.deref.ensures.value ∙ c.in_ok-rules.ensures in
    subst (λ (ls : List LoadedFile). IfOk c.run_tests_over.result (λ v. v.items ≡ verdict (plain_file c.args.test.now) ls)) same c.run_tests_over.ensures
