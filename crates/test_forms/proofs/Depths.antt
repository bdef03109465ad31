-- What a front of the tokens says of all of them.
use Rattle.std.proofs.Common.{◌≡◌, ℕ, zero, suc, ◌-◌, ◌<◌, ◌≤◌, List, [], ◌∷◌, length, take, drop, refl, ap, sym, subst, arith}
use Rattle.std.proofs.lemmas.List.{length-map}
use Rattle.pr_forms.specs.Form.{rule, Reads, Begins, at_whole}
use Rattle.pr_forms.proofs.Parts.{part_place, part_begins}
use Rattle.pr_forms.proofs.Suffixes.{reads_suffix, suffix_drop}
use Rattle.test_forms.specs.declared.tree.Token.{Token}
use Rattle.test_forms.specs.declared.parser.Level.TheVariants.{Sum}
use Rattle.test_forms.specs.private.Tree.{seen, seen_token}
use Rattle.test_forms.specs.private.Grammar.{production, Value, Binary, IsBadPlace}

take_seen : (m : ℕ) (ts : List Token) → seen (take m ts) ≡ take m (seen ts)
take_seen zero ts = refl
take_seen (suc m) [] = refl
take_seen (suc m) (t ∷ ts) = ap (λ us. seen_token t ∷ us) (take_seen m ts)

seen_length : (ts : List Token) → length (seen ts) ≡ length ts
seen_length ts = length-map ts seen_token

module _ (ts : List Token) (m k : ℕ) (short : m ≤ length ts) (bad : IsBadPlace (seen (take m ts)) k) where
  front : IsBadPlace (take m (seen ts)) k
  front = subst (λ us. IsBadPlace us k) (take_seen m ts) bad

  -- a bad place of the front is one of all, and where there is none all the front can go on
  pub bad_in_front : k < m → IsBadPlace (seen ts) k
  bad_in_front h = part_place production (rule (Binary Sum)) (seen ts) m k h (omega (arith, seen_length ts)) front

  pub front_goes_on : m ≤ k → Begins production (rule (Binary Sum)) (seen ts) (drop m (seen ts))
  front_goes_on h = part_begins production (rule (Binary Sum)) m m (seen ts) (omega arith) (front.before m h)

-- a text with a bad place before its end has no tree
pub no_tree : (ts : List Token) (k : ℕ) (v : Value) → k < length ts → IsBadPlace (seen ts) k → Reads production (rule (Binary Sum)) (seen ts) v [] → ⊥
no_tree ts k v h b d =
    let end : drop (length (seen ts) - 0) (seen ts) ≡ [] = suffix_drop (reads_suffix d) in
    b.after (length (seen ts) - 0) (omega (arith, seen_length ts)) (omega arith) (subst (λ r. Begins production (rule (Binary Sum)) (seen ts) r) (sym end) (at_whole d))
