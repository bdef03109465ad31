-- New names of labels are free, and no label is lost.
use Rattle.std.proofs.Common.{◌≡◌, refl, sym, ap, ◌∙◌, ℕ, zero, suc, ◌+◌, ◌<◌, ◌≤◌, Bool, true, false, cond, not, ◌&&◌, nat_le, List, [], ◌∷◌, length, length-append, is_some, arith, codes}
use Rattle.std.proofs.lemmas.Bool.Decides.{nat_tests}
use Rattle.std.specs.Str.{bytes_eq}
use Rattle.pr_ast.specs.pr_labels.declared.pair.Pair.{Pair}
use Rattle.pr_ast.proofs.LabelsLabelLaws.{same_names, value_miss}
use Rattle.spec_world.specs.private.Renaming.{IsFirstFree, exported_times}
use Rattle.spec_world.specs.Scrapes.{exported, free_name, free_within, has, is_free}

-- how many pairs have a name of this length at least
abbrev one_if : Bool → ℕ
one_if true = 1
one_if false = 0

abbrev longs : ℕ → List Pair → ℕ
longs n [] = 0
longs n (p ∷ ps) = one_if (nat_le n (length p.name)) + longs n ps

at_most_one : (b : Bool) → one_if b ≤ 1
at_most_one true = omega arith
at_most_one false = omega arith

longs_length : (n : ℕ) (ps : List Pair) → longs n ps ≤ length ps
longs_length n [] = omega arith
longs_length n (p ∷ ps) = omega (arith, longs_length n ps, at_most_one (nat_le n (length p.name)))

fewer : (n m k : ℕ) → n ≤ m → one_if (nat_le m k) ≤ one_if (nat_le n k)
fewer n m k h = by (nat_le m k) (nat_le n k) refl refl where
  by : (a b : Bool) → nat_le m k ≡ a → nat_le n k ≡ b → one_if a ≤ one_if b
  by true true e f = omega arith
  by true false e f = absurd (grind (arith, nat_tests))
  by false true e f = omega arith
  by false false e f = omega arith

longs_fewer : (n m : ℕ) (ps : List Pair) → n ≤ m → longs m ps ≤ longs n ps
longs_fewer n m [] h = omega arith
longs_fewer n m (p ∷ ps) h = omega (arith, longs_fewer n m ps h, fewer n m (length p.name) h)

-- a name that is there is one of them, and is none of the longer ones
longs_hit : (name : List ℕ) (m : ℕ) (ps : List Pair) → length name < m → has ps name ≡ true → longs m ps + 1 ≤ longs (length name) ps
longs_hit name m [] l h = cc
longs_hit name m (p ∷ ps) l h = by (bytes_eq p.name name) refl (λ k. longs_hit name m ps l k) where
  less : length name ≤ m
  less = omega (arith, l)

  by : (b : Bool) → bytes_eq p.name name ≡ b → (has ps name ≡ true → longs m ps + 1 ≤ longs (length name) ps) → longs m (p ∷ ps) + 1 ≤ longs (length name) (p ∷ ps)
  by true e again =
      let same : length p.name ≡ length name = ap length (same_names p.name name e) in
      let above : nat_le m (length p.name) ≡ false = grind (arith, nat_tests) in
      let at : nat_le (length name) (length p.name) ≡ true = grind (arith, nat_tests) in
      omega (arith, ap one_if above, ap one_if at, longs_fewer (length name) m ps less)
  by false e again = omega (arith, again (ap is_some (sym (value_miss p ps name e)) ∙ h), fewer (length name) m (length p.name) less)

longs_none : (name : List ℕ) (ps : List Pair) → longs (length name) ps ≤ 0 → has ps name ≡ false
longs_none name ps h = by (has ps name) refl where
  by : (b : Bool) → has ps name ≡ b → b ≡ false
  by true e = absurd (omega (arith, h, longs_hit name (suc (length name)) ps (omega arith) e))
  by false e = refl

longer : (name : List ℕ) → length name < length (exported name)
longer name = omega (arith, length-append (codes "exported_") name)

-- the name that is found
record FoundFrom (target labels : List Pair) (name new : List ℕ) : Type 0 where
  times : ℕ
  is : new ≡ exported_times times name
  free : is_free target labels new ≡ true
  first : (k : ℕ) → k < times → is_free target labels (exported_times k name) ≡ false

neither : (a b : Bool) → a ≡ false → b ≡ false → (not a && not b) ≡ true
neither a b e f = λ i. not (e i) && not (f i)

one_is : (a b : Bool) → (not a && not b) ≡ false → (a ≡ true → ⊥) → b ≡ true
one_is true b h n = absurd (n refl)
one_is false true h n = refl
one_is false false h n = cc

less_of : (target labels : List Pair) (name : List ℕ) (n : ℕ) → is_free target labels name ≡ false → longs (length name) target + longs (length name) labels ≤ suc n →
    longs (length (exported name)) target + longs (length (exported name)) labels ≤ n
less_of target labels name n f h = by (has target name) refl where
  above : length name < length (exported name)
  above = longer name

  lower : longs (length (exported name)) target ≤ longs (length name) target
  lower = longs_fewer (length name) (length (exported name)) target (omega (arith, above))

  lower_too : longs (length (exported name)) labels ≤ longs (length name) labels
  lower_too = longs_fewer (length name) (length (exported name)) labels (omega (arith, above))

  by : (b : Bool) → has target name ≡ b → longs (length (exported name)) target + longs (length (exported name)) labels ≤ n
  by true e = omega (arith, h, lower_too, longs_hit name (length (exported name)) target above e)
  by false e =
      let hit : has labels name ≡ true = one_is (has target name) (has labels name) f (λ t. let k : true ≡ false = sym t ∙ e in cc) in
      omega (arith, h, lower, longs_hit name (length (exported name)) labels above hit)

-- one more before what was found from a longer name
found_later : (target labels : List Pair) (name new : List ℕ) → is_free target labels name ≡ false → FoundFrom target labels (exported name) new → FoundFrom target labels name new
found_later target labels name new f h = record { times = suc h.times; is = h.is; free = h.free; first = below } where
  below : (k : ℕ) → k < suc h.times → is_free target labels (exported_times k name) ≡ false
  below zero l = f
  below (suc k) l = h.first k (omega (arith, l))

found_within : (target labels : List Pair) (n : ℕ) (name : List ℕ) → longs (length name) target + longs (length name) labels ≤ n → FoundFrom target labels name (free_within target labels n name)
found_within target labels zero name h = record {
  times = 0;
  is = refl;
  free = neither (has target name) (has labels name) (longs_none name target (omega (arith, h))) (longs_none name labels (omega (arith, h)));
  first = λ k l. absurd (omega (arith, l));
}
found_within target labels (suc n) name h =
    by (is_free target labels name) refl (λ f. found_within target labels n (exported name) (less_of target labels name n f h)) where
      by : (b : Bool) → is_free target labels name ≡ b → (is_free target labels name ≡ false → FoundFrom target labels (exported name) (free_within target labels n (exported name))) →
          FoundFrom target labels name (cond b name (free_within target labels n (exported name)))
      by true e again = record { times = 0; is = refl; free = e; first = λ k l. absurd (omega (arith, l)) }
      by false e again = found_later target labels name (free_within target labels n (exported name)) e (again e)

-- the new name of a label is the first free one
pub first_free : (target labels : List Pair) (name : List ℕ) → IsFirstFree target labels name (free_name target labels name)
first_free target labels name =
    let n = exported name in
    let h = found_within target labels (length target + length labels) n (omega (arith, longs_length (length n) target, longs_length (length n) labels)) in
    record { times = h.times; is = h.is; free = h.free; first = h.first }
