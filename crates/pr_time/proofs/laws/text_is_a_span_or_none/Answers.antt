use Rattle.pr_time.proofs.SpanTotal.{span_or_none, span_place}
use Rattle.pr_time.proofs.laws.text_is_a_span_or_none.Goals as goal

pub returns-clause-whole : goal.returns-clause-whole
returns-clause-whole c = λ text. span_or_none text

pub returns-clause-place : goal.returns-clause-place
returns-clause-place c = λ text. span_place text
