use Rattle.std.proofs.Common.{ap, ◌∙◌}
use Rattle.regex.specs.Strings.{matcher_pattern, regex_pattern}
use Rattle.pr_match.proofs.Reading.{decides}
use Rattle.pr_match.proofs.pattern.Pattern.searcher.Goals as goal

pub invariant_of-result : goal.invariant_of-result
invariant_of-result c =
    rw c.as_str.ensures (decides _ c.self.inside.regex.value c.self.invariant c.in_ok-new.field-0.value
    (ap matcher_pattern c.in_ok-new.ensures.ok ∙ c.in_ok-matcher.ensures.pattern ∙ ap regex_pattern c.deref.ensures))
