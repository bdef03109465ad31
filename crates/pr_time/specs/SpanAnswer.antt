-- What a text gives as a span, as functions of its bytes.
use Rattle.std.specs.Prelude.{ℕ, Option, Some, None, List}
use Rattle.pr_forms.specs.Form.{rule}
use Rattle.pr_forms.specs.Reading.{reading, bad_place}
use Rattle.pr_time.specs.SpanText.{production, seen, Text, SpanValue, span}
use Rattle.pr_time.specs.SpanTable.{table, steps}

abbrev pub span_in : Option SpanValue → Option ℕ
span_in (Some (span ms)) = Some ms
span_in _ = None

-- the milliseconds of the text, where it is a span text
unfoldable pub span_of : List ℕ → Option ℕ
span_of text = span_in (reading production table steps (rule Text) (seen text))

-- the place of its first bad byte
unfoldable pub bad_span_place : List ℕ → ℕ
bad_span_place text = bad_place production table steps (rule Text) (seen text)
