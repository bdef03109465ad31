use Rattle.std.proofs.Common.{refl}
use Rattle.pr_forms.specs.Reading.{reading}
use Rattle.spec_history.specs.pr_time.SpanAnswer.{span_of}
use Rattle.pr_top.specs.pr_backfill.Times.{backfill_times}
use Rattle.laws_runs.proofs.words.words_ask_for_a_backfill.Goals as goal

pub returns-clause-times : goal.returns-clause-times
unfolding span_of reading backfill_times
returns-clause-times c = refl

pub returns-clause-end_before_start : goal.returns-clause-end_before_start
unfolding span_of reading backfill_times
returns-clause-end_before_start c = refl

pub returns-clause-no_step : goal.returns-clause-no_step
unfolding span_of reading backfill_times
returns-clause-no_step c = refl

pub returns-clause-most_times : goal.returns-clause-most_times
unfolding span_of reading backfill_times
returns-clause-most_times c = refl

pub returns-clause-too_many_times : goal.returns-clause-too_many_times
unfolding span_of reading backfill_times
returns-clause-too_many_times c = refl

pub returns-clause-no_file : goal.returns-clause-no_file
unfolding span_of reading backfill_times
returns-clause-no_file c = refl
