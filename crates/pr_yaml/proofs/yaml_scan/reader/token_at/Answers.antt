use Rattle.std.proofs.Common.{◌∙◌, ap}
use Rattle.pr_yaml.specs.Tokens.{form_of}
use Rattle.pr_yaml.proofs.LegibleParts.{quote_inside}
use Rattle.pr_yaml.proofs.yaml_scan.reader.token_at.Goals as goal

pub quoted_at-requires-clause-legible : goal.quoted_at-requires-clause-legible
quoted_at-requires-clause-legible c = quote_inside c.in-QuoteMark.quote c.form_of.result c.args.p.now (c.form_of.ensures ∙ ap (λ q. form_of q.here) c.p.view_is) c.in-QuoteMark.is c.requires.legible
