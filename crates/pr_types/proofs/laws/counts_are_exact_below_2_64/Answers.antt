use Rattle.pr_types.proofs.CountLemmas.{ranges_are_selectors, counts_exact}
use Rattle.pr_types.proofs.laws.counts_are_exact_below_2_64.Goals as goal

pub returns : goal.returns
returns c = record {
  ranges = ranges_are_selectors;
  exact = counts_exact;
}
