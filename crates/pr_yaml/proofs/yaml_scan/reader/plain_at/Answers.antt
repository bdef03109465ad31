use Rattle.std.proofs.Common.{sym, subst, ◌∙◌}
use Rattle.std.specs.Str.{IsUtf8}
use Rattle.pr_yaml.proofs.LegibleTexts.{part_text}
use Rattle.pr_yaml.proofs.LegibleParts.{plain_text}
use Rattle.pr_yaml.proofs.yaml_scan.reader.plain_at.Goals as goal

pub text_of-text-requires : goal.text_of-text-requires
text_of-text-requires c = subst IsUtf8 (sym (c.new.ensures ∙ (c.in_ok-text.ensures.items ∙ c.plain_start-ending.ensures.part))) (part_text c.args.known.inside c.args.p.now.here c.requires.legible.here)

pub takes_text-requires-clause-text : goal.takes_text-requires-clause-text
takes_text-requires-clause-text c = subst IsUtf8 (sym (c.new-in-AtOther.ensures ∙ (c.in_ok-text.ensures.items ∙ c.plain_start-ending.ensures.part))) (part_text c.args.known.inside c.args.p.now.here c.requires.legible.here)

pub takes_text-requires-in-LineEnd-clause-text : goal.takes_text-requires-in-LineEnd-clause-text
takes_text-requires-in-LineEnd-clause-text c = plain_text c.in_ok-found-in-LineEnd.found c.args.known.inside c.args.known.parent c.in_ok-text.text.items c.plain_start-ending.result.2 c.args.p.now
    c.in_ok-found-in-LineEnd.ensures (c.in_ok-text.ensures.items ∙ c.plain_start-ending.ensures.part) c.plain_start-ending.ensures.end c.requires.legible
