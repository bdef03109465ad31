use Rattle.std.proofs.Common.{◌≤◌, subst, sym}
use Rattle.std.specs.List.{All}
use Rattle.std.specs.List.Sorted.{IsNonDecreasingBy}
use Rattle.pr_head.specs.private.Stored.{Stored}
use Rattle.pr_head.proofs.Oldest.{first_oldest, none_oldest}
use Rattle.pr_head.proofs.series.Series.oldest.Goals as goal

pub returns-in-Some : goal.returns-in-Some
returns-in-Some c =
    let held = c.args.self.now.held in
    let rising : IsNonDecreasingBy (λ x. x.time) held = subst (λ (s : Stored). IsNonDecreasingBy (λ x. x.time) s.held) c.self.view_is c.self.invariant.rising in
    subst (λ n. All (λ x. n ≤ x.time) held) (sym c.get.ensures.value) (first_oldest held c.in-Some.sample rising c.in-Some.ensures)

pub returns-in-None : goal.returns-in-None
returns-in-None c = none_oldest 18446744073709551615 c.args.self.now.held c.in-None.ensures
