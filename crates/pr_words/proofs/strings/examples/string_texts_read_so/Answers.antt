use Rattle.pr_words.proofs.WorkedStrings as example
use Rattle.pr_words.proofs.strings.examples.string_texts_read_so.Goals as goal

pub returns-clause-empty : goal.returns-clause-empty
returns-clause-empty c = example.read_empty

pub returns-clause-letters : goal.returns-clause-letters
returns-clause-letters c = example.read_letters

pub returns-clause-own_quote : goal.returns-clause-own_quote
returns-clause-own_quote c = example.read_own_quote

pub returns-clause-own_single_quote : goal.returns-clause-own_single_quote
returns-clause-own_single_quote c = example.read_own_single_quote

pub returns-clause-other_quotes : goal.returns-clause-other_quotes
returns-clause-other_quotes c = example.read_other_quotes

pub returns-clause-backticks : goal.returns-clause-backticks
returns-clause-backticks c = example.read_backticks

pub returns-clause-two_digits : goal.returns-clause-two_digits
returns-clause-two_digits c = example.read_two_digits

pub returns-clause-four_digits : goal.returns-clause-four_digits
returns-clause-four_digits c = example.read_four_digits

pub returns-clause-eight_digits : goal.returns-clause-eight_digits
returns-clause-eight_digits c = example.read_eight_digits

pub returns-clause-around_surrogates : goal.returns-clause-around_surrogates
returns-clause-around_surrogates c = example.read_around_surrogates

pub returns-clause-last : goal.returns-clause-last
returns-clause-last c = example.read_last
