use Rattle.std.proofs.Common.{arith}
use Rattle.pr_yaml.proofs.ReaderFacts.{colon_within}
use Rattle.pr_yaml.proofs.yaml_scan.reader.after_colon.Goals as goal

pub along-requires : goal.along-requires
along-requires c = rw c.plain_len_at.ensures.value (colon_within c.args.inside c.args.p.now.here c.requires)

pub overflow_add-plain_len_at : goal.overflow_add-plain_len_at
overflow_add-plain_len_at c = omega (arith, c.plain_len_at.ensures.small)
