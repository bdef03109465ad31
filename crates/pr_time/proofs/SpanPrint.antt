-- What is written in pieces leaves what is behind them.
use Rattle.std.proofs.Common.{◌≡◌, ℕ, ◌≤◌, ◌+◌, ◌-◌, ◌<◌, ◌^◌, List, drop, length, ap, sym, ◌∙◌, subst, arith, lit<}
use Rattle.std.proofs.lemmas.List.{drop-drop}
use Rattle.std.proofs.lemmas.Fmt.{length-decimal-le}
use Rattle.std.specs.Prelude.{decimal}

further : (old mid : List ℕ) (a d : ℕ) → drop a mid ≡ drop a old → drop (a + d) mid ≡ drop (a + d) old
further old mid a d e = sym (drop-drop d a mid) ∙ (ap (drop d) e ∙ drop-drop d a old)

pub behind : (old mid new : List ℕ) (a b : ℕ) → a ≤ b → drop a mid ≡ drop a old → drop b new ≡ drop b mid → drop b new ≡ drop b old
behind old mid new a b h e k = let is : a + (b - a) ≡ b = omega arith in k ∙ subst (λ n. drop n mid ≡ drop n old) is (further old mid a (b - a) e)

-- five digits at most
pub short_number : (n : ℕ) (bs cs : List ℕ) → n < 10 ^ 5 → bs ≡ cs → cs ≡ decimal n → length bs ≤ 5
short_number n bs cs h e k = let l = length-decimal-le 5 n (lit< tt) h (omega arith) in omega (arith, l, ap length e, ap length k)
