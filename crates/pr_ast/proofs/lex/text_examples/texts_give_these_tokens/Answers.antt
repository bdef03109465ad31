use Rattle.pr_ast.proofs.WorkedTexts as example
use Rattle.pr_ast.proofs.lex.text_examples.texts_give_these_tokens.Goals as goal

pub returns-clause-nothing : goal.returns-clause-nothing
returns-clause-nothing c = example.tokens_nothing

pub returns-clause-blanks : goal.returns-clause-blanks
returns-clause-blanks c = example.tokens_blanks

pub returns-clause-comment : goal.returns-clause-comment
returns-clause-comment c = example.tokens_comment

pub returns-clause-colon : goal.returns-clause-colon
returns-clause-colon c = example.tokens_colon

pub returns-clause-brackets : goal.returns-clause-brackets
returns-clause-brackets c = example.tokens_brackets

pub returns-clause-after_brackets : goal.returns-clause-after_brackets
returns-clause-after_brackets c = example.tokens_after_brackets

pub returns-clause-longest : goal.returns-clause-longest
returns-clause-longest c = example.tokens_longest

pub returns-clause-string : goal.returns-clause-string
returns-clause-string c = example.tokens_string

pub returns-clause-digits_and_letter : goal.returns-clause-digits_and_letter
returns-clause-digits_and_letter c = example.tokens_digits_and_letter

pub returns-clause-point_before_unit : goal.returns-clause-point_before_unit
returns-clause-point_before_unit c = example.tokens_point_before_unit
