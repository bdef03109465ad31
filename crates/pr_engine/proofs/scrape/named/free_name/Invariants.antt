use Rattle.std.proofs.Common.{◌≡◌, ◌-◌}
use Rattle.pr_manager.specs.spec_world.Scrapes.{free_name, free_within}
use Rattle.pr_engine.specs.private.ByName.{labels_in}
use Rattle.pr_engine.proofs.scrape.named.free_name.Given as goal

abbrev pub invariant-loop-try : goal.invariant-loop-try
invariant-loop-try l = free_name l.target (labels_in l.named.entries) l.name ≡ free_within l.target (labels_in l.named.entries) (l.tries - l._try) l.free
