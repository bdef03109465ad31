use Rattle.std.proofs.Common.{◌≡◌, ◌++◌, drop}
use Rattle.pr_match.specs.Matcher.{places_from}
use Rattle.pr_match.proofs.selection.select.Given as goal

-- the places so far, and those to come
abbrev pub invariant-loop-place : goal.invariant-loop-place
invariant-loop-place l = record {
  same : l.selection ≡ l.matchers;
  places : l.places.items ++ places_from l.place l.matchers (drop l.place l.sets) ≡ places_from 0 l.matchers l.sets;
}
