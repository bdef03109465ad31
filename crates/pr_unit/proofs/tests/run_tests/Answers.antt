use Rattle.std.proofs.Common.{◌≡◌, List, IfOk, map, subst, sym, ap, ◌∙◌}
use Rattle.std.specs.List.{AllZip, IsDistinct}
use Rattle.std.specs.Str.{bytes_eq}
use Rattle.pr_group.specs.spec_rules.Reloads.{LoadedFile}
use Rattle.spec_tests.specs.pr_testfile.File.{plain_file}
use Rattle.spec_tests.specs.Verdict.{verdict}
use Rattle.pr_unit.specs.declared.rules.RuleGroups.{RuleGroups}
use Rattle.pr_unit.specs.private.Loaded.{IsRead}
use Rattle.pr_unit.proofs.Loading.{are_sound, loaded_each, read_as, same_names}
use Rattle.pr_unit.proofs.tests.run_tests.Goals as goal

pub run_tests_over-requires : goal.run_tests_over-requires
run_tests_over-requires c =
    let files = c.args.rules.now in
    let rules = c.deref.result.now in
    let read = subst (λ (rs : List RuleGroups). AllZip IsRead files rs) (sym c.deref.ensures.value) c.in_ok-read.ensures in
    record {
      some = c.requires.some;
      sound = are_sound files rules read;
      names = subst (IsDistinct bytes_eq) (same_names files rules read) c.requires.names;
    }

pub returns : goal.returns
returns c = λ loaded is.
    let files = c.args.rules.now in
    let rules = c.deref.result.now in
    let read = subst (λ (rs : List RuleGroups). AllZip IsRead files rs) (sym c.deref.ensures.value) c.in_ok-read.ensures in
    subst (λ (ls : List LoadedFile). IfOk c.run_tests_over.result (λ v. v.items ≡ verdict (plain_file c.args.file.now) ls)) (read_as files rules loaded read (loaded_each files loaded is))
    c.run_tests_over.ensures
