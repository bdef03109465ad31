use Rattle.pr_text.proofs.KnownTexts.{found_read}
use Rattle.pr_text.proofs.script.known.known_in.Goals as goal

pub returns : goal.returns
returns c = found_read c.args.sets.now c.args.text.now c.get.result c.requires c.get.ensures.value
