use Rattle.std.proofs.Common.{string_bytes, ◌∙◌}
use Rattle.pr_checks.proofs.RulesFound.{finds_one}
use Rattle.pr_checks.proofs.found.FoundFilesTakerString.take.Goals as goal

pub returns-clause-fits : goal.returns-clause-fits
returns-clause-fits c = λ all rest found.
    finds_one string_bytes all rest c.args.name.now c.args.self.now (record { files = c.push.new.self }) (record { name = c.in_ok-name.name; content = c.content_of-content.result }) c.in_ok-push.ensures.ok
    (c.in_ok-name.ensures ∙ c.as_str.ensures.value) c.content_of-content.ensures.short found
