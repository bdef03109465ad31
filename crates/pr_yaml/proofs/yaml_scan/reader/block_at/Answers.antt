use Rattle.pr_yaml.proofs.LegibleParts.{block_text}
use Rattle.pr_yaml.proofs.yaml_scan.reader.block_at.Goals as goal

pub takes_text-requires-clause-text : goal.takes_text-requires-clause-text
takes_text-requires-clause-text c = block_text c.in_ok-found-in-Ok.found c.args.style c.in-Ok.chomp c.args.known.inside c.args.known.parent c.args.p.now c.in_ok-found-in-Ok.ensures c.requires.legible
