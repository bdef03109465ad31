use Rattle.pr_yaml.proofs.yaml_scan.reader.part_at.Goals as goal

pub line_number-requires : goal.line_number-requires
line_number-requires c = c.in-Some.ensures.some

pub line_number-requires-then-has_no_text : goal.line_number-requires-then-has_no_text
line_number-requires-then-has_no_text c = c.in-Some.ensures.some
