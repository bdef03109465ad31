use Rattle.std.proofs.Common.{◌∙◌}
use Rattle.test_embed.proofs.Names.{one_name}
use Rattle.test_embed.proofs.events.reload.Goals as goal

pub returns : goal.returns
returns c = one_name c.new-files.result _ (c.new-files.ensures ∙ c.in_ok-vec.ensures.items)
