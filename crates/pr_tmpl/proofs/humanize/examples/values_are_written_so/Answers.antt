use Rattle.pr_tmpl.proofs.Written as example
use Rattle.pr_tmpl.proofs.humanize.examples.values_are_written_so.Goals as goal

pub returns-clause-two_places : goal.returns-clause-two_places
returns-clause-two_places c = example.two_places

pub returns-clause-tie_to_even : goal.returns-clause-tie_to_even
returns-clause-tie_to_even c = example.tie_to_even

pub returns-clause-six_places : goal.returns-clause-six_places
returns-clause-six_places c = example.six_places

pub returns-clause-no_sign_of_zero : goal.returns-clause-no_sign_of_zero
returns-clause-no_sign_of_zero c = example.no_sign_of_zero

pub returns-clause-thousands : goal.returns-clause-thousands
returns-clause-thousands c = example.thousands

pub returns-clause-after_the_division : goal.returns-clause-after_the_division
returns-clause-after_the_division c = example.after_the_division

pub returns-clause-thousandths : goal.returns-clause-thousandths
returns-clause-thousandths c = example.thousandths

pub returns-clause-least : goal.returns-clause-least
returns-clause-least c = example.least

pub returns-clause-greatest : goal.returns-clause-greatest
returns-clause-greatest c = example.greatest

pub returns-clause-zero : goal.returns-clause-zero
returns-clause-zero c = example.zero

pub returns-clause-special : goal.returns-clause-special
returns-clause-special c = example.special

pub returns-clause-percentage : goal.returns-clause-percentage
returns-clause-percentage c = example.percentage

pub returns-clause-no_percentage : goal.returns-clause-no_percentage
returns-clause-no_percentage c = example.no_percentage

pub returns-clause-infinite_percentage : goal.returns-clause-infinite_percentage
returns-clause-infinite_percentage c = example.infinite_percentage

pub returns-clause-no_duration : goal.returns-clause-no_duration
returns-clause-no_duration c = example.no_duration

pub returns-clause-milliseconds : goal.returns-clause-milliseconds
returns-clause-milliseconds c = example.milliseconds

pub returns-clause-seconds : goal.returns-clause-seconds
returns-clause-seconds c = example.seconds

pub returns-clause-minutes : goal.returns-clause-minutes
returns-clause-minutes c = example.minutes

pub returns-clause-days : goal.returns-clause-days
returns-clause-days c = example.days
