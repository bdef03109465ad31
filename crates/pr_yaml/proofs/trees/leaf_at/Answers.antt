use Rattle.std.proofs.Common.{sym, subst}
use Rattle.pr_words.specs.pr_forms.Language.{Gives}
use Rattle.pr_words.specs.pr_forms.Form.{token}
use Rattle.pr_words.specs.pr_forms.Run.{good}
use Rattle.pr_yaml.specs.Grammar.{letters, leaf_in, tree}
use Rattle.pr_yaml.specs.GrammarTable.{yaml}
use Rattle.pr_yaml.proofs.trees.leaf_at.Goals as goal

pub returns-in_default-clause-read : goal.returns-in_default-clause-read
returns-in_default-clause-read c = λ distinct. (c.in_default.ensures.read distinct).gives

pub returns-clause-read : goal.returns-clause-read
returns-clause-read c = λ distinct.
    subst (λ t. Gives (yaml distinct) (token leaf_in) c.args.tokens.now (good (tree t) (letters c.in-Some.rest.now))) (sym c.in_ok-text_made.ensures) (c.in-Some.ensures.read distinct).gives
