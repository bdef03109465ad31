use Rattle.pr_time.specs.SpanText.{seen}
use Rattle.pr_time.proofs.SpanParts.{is_read}
use Rattle.pr_time.proofs.SpanKnown.{is_text}
use Rattle.pr_time.proofs.laws.span_text_is_zero_or_parts.Goals as goal

pub returns : goal.returns
returns c = record { read = λ text ms h. is_read h; only = λ text ms d. is_text (seen text) ms d }
