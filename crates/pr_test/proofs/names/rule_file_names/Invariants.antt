use Rattle.std.proofs.Common.{◌≡◌, drop, map, string_bytes}
use Rattle.std.specs.Prelude.{fold}
use Rattle.pr_unit.specs.spec_tests.RuleFiles.{beside, rule_file_names, with_name}
use Rattle.pr_test.proofs.names.rule_file_names.Given as goal

-- the names so far, and those to come
abbrev pub invariant-loop-file : goal.invariant-loop-file
invariant-loop-file l = fold with_name (map string_bytes l.names.items) (map (beside l.name) (drop l.file-index l.files)) ≡ rule_file_names l.name l.files
