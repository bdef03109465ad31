use Rattle.std.proofs.Common.{sym, ap, ◌∙◌}
use Rattle.pr_rulefile.specs.Scalars.{short_span}
use Rattle.pr_rulefile.proofs.Spans.{no_short_span}
use Rattle.pr_rulefile.proofs.fields.scalars.short_span.Goals as goal

pub returns-in-Err : goal.returns-in-Err
returns-in-Err c = sym (no_short_span c.as_bytes.result.now c.in-Err.field-0 c.in-Err.ensures.only) ∙ ap short_span c.as_bytes.ensures.value
