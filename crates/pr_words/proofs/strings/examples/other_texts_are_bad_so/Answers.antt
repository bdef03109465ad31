use Rattle.pr_words.proofs.WorkedStrings as example
use Rattle.pr_words.proofs.strings.examples.other_texts_are_bad_so.Goals as goal

pub returns-clause-nothing : goal.returns-clause-nothing
returns-clause-nothing c = example.bad_nothing

pub returns-clause-no_quote : goal.returns-clause-no_quote
returns-clause-no_quote c = example.bad_no_quote

pub returns-clause-no_end : goal.returns-clause-no_end
returns-clause-no_end c = example.bad_no_end

pub returns-clause-line_feed : goal.returns-clause-line_feed
returns-clause-line_feed c = example.bad_line_feed

pub returns-clause-other_quote : goal.returns-clause-other_quote
returns-clause-other_quote c = example.bad_other_quote

pub returns-clause-other_double_quote : goal.returns-clause-other_double_quote
returns-clause-other_double_quote c = example.bad_other_double_quote

pub returns-clause-backtick : goal.returns-clause-backtick
returns-clause-backtick c = example.bad_backtick

pub returns-clause-letter : goal.returns-clause-letter
returns-clause-letter c = example.bad_letter

pub returns-clause-above_ascii : goal.returns-clause-above_ascii
returns-clause-above_ascii c = example.bad_above_ascii

pub returns-clause-no_digit : goal.returns-clause-no_digit
returns-clause-no_digit c = example.bad_no_digit

pub returns-clause-surrogate : goal.returns-clause-surrogate
returns-clause-surrogate c = example.bad_surrogate

pub returns-clause-above_all : goal.returns-clause-above_all
returns-clause-above_all c = example.bad_above_all

pub returns-clause-after_end : goal.returns-clause-after_end
returns-clause-after_end c = example.bad_after_end
