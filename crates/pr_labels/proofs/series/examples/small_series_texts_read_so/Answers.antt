use Rattle.pr_labels.proofs.SeriesExamples as example
use Rattle.pr_labels.proofs.series.examples.small_series_texts_read_so.Goals as goal

pub returns-clause-metric : goal.returns-clause-metric
returns-clause-metric c = example.metric

pub returns-clause-none : goal.returns-clause-none
returns-clause-none c = example.none

pub returns-clause-listed : goal.returns-clause-listed
returns-clause-listed c = example.listed

pub returns-clause-twice : goal.returns-clause-twice
returns-clause-twice c = example.twice

pub returns-clause-second_name : goal.returns-clause-second_name
returns-clause-second_name c = example.second_name

pub returns-clause-empty_value : goal.returns-clause-empty_value
returns-clause-empty_value c = example.empty_value

pub returns-clause-not_classic : goal.returns-clause-not_classic
returns-clause-not_classic c = example.not_classic

pub returns-clause-nothing : goal.returns-clause-nothing
returns-clause-nothing c = example.nothing

pub returns-clause-blank_before : goal.returns-clause-blank_before
returns-clause-blank_before c = example.blank_before

pub returns-clause-blank_after : goal.returns-clause-blank_after
returns-clause-blank_after c = example.blank_after

pub returns-clause-comma_alone : goal.returns-clause-comma_alone
returns-clause-comma_alone c = example.comma_alone

pub returns-clause-comma_place : goal.returns-clause-comma_place
returns-clause-comma_place c = example.comma_place

pub returns-clause-second_metric : goal.returns-clause-second_metric
returns-clause-second_metric c = example.second_metric
