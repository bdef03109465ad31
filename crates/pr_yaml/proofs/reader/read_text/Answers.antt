use Rattle.pr_yaml.proofs.ReadLaws.{read_is}
use Rattle.pr_yaml.proofs.reader.read_text.Goals as goal

pub returns : goal.returns
returns c = rw (read_is c.args.bytes.now c.in_ok-found.found.tokens.items c.in_ok-found.found.bad c.in_ok-found.ensures.scan) c.read_tokens.ensures
