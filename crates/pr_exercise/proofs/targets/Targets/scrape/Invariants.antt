use Rattle.std.proofs.Common.{◌≡◌, ◌+◌, ◌++◌, length}
use Rattle.pr_exercise.specs.Exercise.{targets_from}
use Rattle.pr_exercise.specs.private.Turns.{AreWithin}
use Rattle.pr_exercise.proofs.targets.Targets.scrape.Given as goal

-- what happens to the targets so far, and to the rest
abbrev pub invariant-scraping : goal.invariant-scraping
invariant-scraping l =
    let rest = targets_from l.time l.index l.number l.rest in
    let all = targets_from l.time 0 l.fn.self.number l.fn.self.counts.items in
    record {
      events : l.events.items ++ rest.events ≡ l.fn.events.items ++ all.events;
      counts : l.counts.items ++ rest.counts ≡ all.counts;
      number : rest.number ≡ all.number;
      small : AreWithin l.round l.rest;
      place : l.index + length l.rest ≡ length l.fn.self.counts.items;
    }

abbrev pub decreases-scraping : goal.decreases-scraping
decreases-scraping l = length l.rest
