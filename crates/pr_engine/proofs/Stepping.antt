-- What takes one step of a world apart.
use Rattle.std.specs.Prelude.{⊤}
use Rattle.pr_manager.specs.spec_world.Step.{next}

unfoldable pub stepping : ⊤
unfolding next
stepping = tt
