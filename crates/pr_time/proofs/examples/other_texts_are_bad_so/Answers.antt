use Rattle.pr_time.proofs.WorkedSpans as example
use Rattle.pr_time.proofs.examples.other_texts_are_bad_so.Goals as goal

pub returns-clause-no_unit : goal.returns-clause-no_unit
returns-clause-no_unit c = example.bad_no_unit

pub returns-clause-no_unit_at : goal.returns-clause-no_unit_at
returns-clause-no_unit_at c = example.bad_no_unit_at

pub returns-clause-rising : goal.returns-clause-rising
returns-clause-rising c = example.bad_rising

pub returns-clause-rising_at : goal.returns-clause-rising_at
returns-clause-rising_at c = example.bad_rising_at

pub returns-clause-twice : goal.returns-clause-twice
returns-clause-twice c = example.bad_twice

pub returns-clause-twice_at : goal.returns-clause-twice_at
returns-clause-twice_at c = example.bad_twice_at

pub returns-clause-twice_then : goal.returns-clause-twice_then
returns-clause-twice_then c = example.bad_twice_then

pub returns-clause-milliseconds_twice : goal.returns-clause-milliseconds_twice
returns-clause-milliseconds_twice c = example.bad_milliseconds_twice

pub returns-clause-milliseconds_twice_at : goal.returns-clause-milliseconds_twice_at
returns-clause-milliseconds_twice_at c = example.bad_milliseconds_twice_at

pub returns-clause-after_milliseconds : goal.returns-clause-after_milliseconds
returns-clause-after_milliseconds c = example.bad_after_milliseconds

pub returns-clause-after_milliseconds_at : goal.returns-clause-after_milliseconds_at
returns-clause-after_milliseconds_at c = example.bad_after_milliseconds_at

pub returns-clause-digits_alone : goal.returns-clause-digits_alone
returns-clause-digits_alone c = example.bad_digits_alone

pub returns-clause-digits_alone_at : goal.returns-clause-digits_alone_at
returns-clause-digits_alone_at c = example.bad_digits_alone_at

pub returns-clause-blank_at : goal.returns-clause-blank_at
returns-clause-blank_at c = example.bad_blank_at

pub returns-clause-point_at : goal.returns-clause-point_at
returns-clause-point_at c = example.bad_point_at
