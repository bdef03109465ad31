use Rattle.std.proofs.Common.{rules}
use Rattle.std.proofs.lemmas.Fn.{always_returns_same}
use Rattle.std.specs.Cmp.Lexicographic.{slice_cmp}
use Rattle.std.specs.Ordering.{nat_cmp}
use Rattle.pr_labels.proofs.Places.{searched}
use Rattle.pr_labels.proofs.labels.place.place_of.Goals as goal

-- the closure compares a pair's name with the name
pub returns : goal.returns
returns c =
    let facts = c.binary_search_by.ensures in
    let by_name = facts.position (λ p. slice_cmp nat_cmp p.name c.args.name.now) (always_returns_same _ _ _ (λ a r f called. search rules)) in
    searched c.args.pairs.now c.args.name.now c.requires _ facts.bound by_name
