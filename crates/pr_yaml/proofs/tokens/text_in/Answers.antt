use Rattle.std.proofs.Common.{sym}
use Rattle.pr_words.proofs.FormsSteps.{seen_takes, seen_lacks, seen_end_lacks}
use Rattle.pr_yaml.specs.Grammar.{production, letter_of, leaf_in}
use Rattle.pr_yaml.specs.GrammarTable.{table}
use Rattle.pr_yaml.proofs.tokens.text_in.Goals as goal

pub returns-in_default-clause-read : goal.returns-in_default-clause-read
returns-in_default-clause-read c = λ distinct. seen_end_lacks letter_of (production distinct) (table distinct) leaf_in _ c.in_default.ensures.cases

pub returns-in-Some-text_of-clause-read : goal.returns-in-Some-text_of-clause-read
returns-in-Some-text_of-clause-read c = λ distinct. seen_takes letter_of (production distinct) (table distinct) leaf_in _ c.in-Some.rest.now c.in-Some.first.now _ c.in-Some.ensures.cases.0 (sym c.in-Some-text_of.ensures)

pub returns-in-None-clause-read : goal.returns-in-None-clause-read
returns-in-None-clause-read c = λ distinct. seen_lacks letter_of (production distinct) (table distinct) leaf_in _ c.in-Some.rest.now c.in-Some.first.now c.in-Some.ensures.cases.0 (sym c.in-None.ensures)
