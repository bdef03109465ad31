use Rattle.std.proofs.Common.{◌-◌}
use Rattle.pr_words.proofs.FormsChoosing.{choosing}
use Rattle.pr_yaml.specs.Grammar.{letter_of, value_from}
use Rattle.pr_yaml.specs.private.Reader.{rule_of}
use Rattle.pr_yaml.proofs.tokens.value_start.Goals as goal

pub returns-clause-read : goal.returns-clause-read
returns-clause-read c = choosing letter_of (value_from c.args.room) (rule_of (c.args.room - 1)) (λ x. x.0) (λ x. x.1.now) c.take.result _ c.take.ensures (λ x r h. h)
