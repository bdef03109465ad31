use Rattle.std.proofs.Common.{◌∙◌, ap, ℕ, reverse, List}
use Rattle.std.specs.List.{position_or_len}
use Rattle.pr_unit.specs.spec_tests.RuleFiles.{is_slash}
use Rattle.pr_test.proofs.Folders.{folder_ends}
use Rattle.pr_test.proofs.names.folder.Goals as goal

pub range-requires-clause-end_boundary : goal.range-requires-clause-end_boundary
range-requires-clause-end_boundary c =
    folder_ends c.args.name.now c.file_len.result
    (c.file_len.ensures.value ∙ ap (λ (bs : List ℕ). position_or_len is_slash (reverse bs)) c.as_bytes.ensures.value) c.utf8.name
