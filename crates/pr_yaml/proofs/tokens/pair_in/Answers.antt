use Rattle.std.proofs.Common.{sym, ◌∙◌}
use Rattle.pr_yaml.specs.Grammar.{pair_from}
use Rattle.pr_yaml.specs.private.Reader.{keys_in}
use Rattle.pr_yaml.proofs.KeyTokens.{none_at_end, no_pair_key, no_pair_taken, first_letter}
use Rattle.pr_yaml.proofs.tokens.pair_in.Goals as goal

pub returns-in_default-clause-read : goal.returns-in_default-clause-read
returns-in_default-clause-read c = λ room. none_at_end (pair_from c.args.distinct room (keys_in c.args.found.now.entries.items)) c.args.tokens.now c.in_default.ensures.cases

pub returns-in_default-key_of-clause-read : goal.returns-in_default-key_of-clause-read
returns-in_default-key_of-clause-read c = no_pair_key c.args.distinct _ c.args.tokens.now c.in-Some.rest.now c.in-Some.first.now c.in-Some.ensures.cases.0 c.in_default-key_of.ensures

pub returns-then-is_taken-clause-read : goal.returns-then-is_taken-clause-read
returns-then-is_taken-clause-read c = no_pair_taken c.args.distinct _ _ _ c.in-Some-key_of.line c.in-Some-key_of._place c.in-Some-key_of.key.now (first_letter c.args.tokens.now c.in-Some.rest.now c.in-Some.first.now _ c.in-Some.ensures.cases.0 c.in-Some-key_of.ensures) (sym c.is_taken.ensures ∙ c.if-is_taken.true)
