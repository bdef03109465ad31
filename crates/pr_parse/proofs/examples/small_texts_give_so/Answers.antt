use Rattle.pr_parse.proofs.ParsedExamples as example
use Rattle.pr_parse.proofs.examples.small_texts_give_so.Goals as goal

pub returns-clause-two_names : goal.returns-clause-two_names
returns-clause-two_names c = example.two_names

pub returns-clause-no_right_side : goal.returns-clause-no_right_side
returns-clause-no_right_side c = example.no_right_side

pub returns-clause-nothing : goal.returns-clause-nothing
returns-clause-nothing c = example.nothing

pub returns-clause-second_offset : goal.returns-clause-second_offset
returns-clause-second_offset c = example.second_offset

pub returns-clause-range_of_0 : goal.returns-clause-range_of_0
returns-clause-range_of_0 c = example.range_of_0

pub returns-clause-range_of_parentheses : goal.returns-clause-range_of_parentheses
returns-clause-range_of_parentheses c = example.range_of_parentheses

pub returns-clause-no_function : goal.returns-clause-no_function
returns-clause-no_function c = example.no_function

pub returns-clause-name_again : goal.returns-clause-name_again
returns-clause-name_again c = example.name_again

pub returns-clause-from_the_left : goal.returns-clause-from_the_left
returns-clause-from_the_left c = example.from_the_left

pub returns-clause-parentheses_around : goal.returns-clause-parentheses_around
returns-clause-parentheses_around c = example.parentheses_around

pub returns-clause-plus_before : goal.returns-clause-plus_before
returns-clause-plus_before c = example.plus_before

pub returns-clause-group_after : goal.returns-clause-group_after
returns-clause-group_after c = example.group_after
