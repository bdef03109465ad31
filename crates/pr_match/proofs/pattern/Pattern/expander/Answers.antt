use Rattle.std.proofs.Common.{ap, ◌∙◌}
use Rattle.regex.specs.Strings.{regex_pattern}
use Rattle.pr_match.proofs.Reading.{expands}
use Rattle.pr_match.proofs.pattern.Pattern.expander.Goals as goal

pub invariant_of-result : goal.invariant_of-result
invariant_of-result c =
    rw c.as_str.ensures (expands _ _ c.self.inside.regex.value c.self.invariant _ (c.in_ok-matcher.ensures.pattern ∙ ap regex_pattern c.deref-2.ensures) c.in_ok-new.field-0
    (rw (c.capture_names.ensures, c.deref.ensures) at c.in_ok-new.ensures.read))
