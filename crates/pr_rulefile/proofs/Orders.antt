-- Problems are told by line and by kind, each line and kind in the order of the text, which is what
-- a stable sort gives.
use Rattle.std.proofs.Common.{◌≡◌, ℕ, Bool, true, false, ◌||◌, ◌&&◌, List, arith, subst}
use Rattle.std.specs.Prelude.{nat_lt, ◌==◌}
use Rattle.std.specs.Cmp.{IsStrictWeakOrder}
use Rattle.std.specs.Ordering.{is_lt, nat_cmp, ordering_then}
use Rattle.std.specs.declared.cmp.Ordering.{Ordering}
use Rattle.std.specs.List.Sorted.{IsSortedBy, IsSortedByKey, IsStableBy, IsStableByKey}
use Rattle.std.proofs.lemmas.Bool.Decides.{nat_tests}
use Rattle.pr_rulefile.specs.declared.fields.problem.Problem.{Problem}
use Rattle.pr_rulefile.specs.Order.{kind_rank, is_told_before, in_order}
use Rattle.pr_rulefile.proofs.Placed.{sorted_ordered, ties_ordered, only_ordered}

-- by line, then by rank
abbrev below : ℕ → ℕ → ℕ → ℕ → Bool
below a b c d = nat_lt a c || (a == c && nat_lt b d)

one_way : (a b c d : ℕ) → below a b c d ≡ true → below c d a b ≡ false
one_way a b c d h = grind (arith, nat_tests)

chain : (a b c d e f : ℕ) → below a b c d ≡ false → below c d e f ≡ false → below a b e f ≡ false
chain a b c d e f h i = grind (arith, nat_tests)

before_is_weak : IsStrictWeakOrder is_told_before
before_is_weak = record {
  one_way = λ p q. one_way p.line (kind_rank p.kind) q.line (kind_rank q.kind);
  chain = λ p q r. chain p.line (kind_rank p.kind) q.line (kind_rank q.kind) r.line (kind_rank r.kind);
}

pub rises : (ps : List Problem) → IsSortedBy is_told_before (in_order ps)
unfolding in_order
rises ps = sorted_ordered is_told_before before_is_weak ps

pub stable : (ps : List Problem) → IsStableBy is_told_before ps (in_order ps)
unfolding in_order
stable ps = ties_ordered is_told_before before_is_weak ps

pub only : (ps qs : List Problem) → IsSortedBy is_told_before qs → IsStableBy is_told_before ps qs → qs ≡ in_order ps
unfolding in_order
only ps qs = only_ordered is_told_before before_is_weak ps qs

-- the key that the code sorts by, and the order of keys
abbrev pub place_of : Problem → ℕ × ℕ
place_of p = (p.line, kind_rank p.kind)

abbrev pub place_cmp : ℕ × ℕ → ℕ × ℕ → Ordering
place_cmp s t = ordering_then (nat_cmp s.0 t.0) (nat_cmp s.1 t.1)

tested : (a b c d : ℕ) → is_lt (ordering_then (nat_cmp a c) (nat_cmp b d)) ≡ below a b c d
tested a b c d = grind (arith, nat_tests)

pub sorted : (ps qs : List Problem) → IsSortedByKey place_of place_cmp qs → IsStableByKey place_of place_cmp ps qs → qs ≡ in_order ps
sorted ps qs up ties =
    let agree = λ (p q : Problem). tested p.line (kind_rank p.kind) q.line (kind_rank q.kind) in
    only ps qs (subst (λ lt. IsSortedBy lt qs) (λ i p q. agree p q i) up) (subst (λ lt. IsStableBy lt ps qs) (λ i p q. agree p q i) ties)
