-- A first bad place of a part is one of the whole.
use Rattle.std.proofs.Common.{◌≡◌, ℕ, zero, suc, ◌≤◌, ◌<◌, ◌-◌, List, [], ◌∷◌, ◌++◌, length, take, drop, refl, ap, sym, ◌∙◌, subst, arith, inl, inr, length-take}
use Rattle.std.specs.Prelude.{◌⊎◌}
use Rattle.pr_forms.specs.Form.{Form, Reads, Begins, IsFirstBad}
use Rattle.pr_forms.proofs.Suffixes.{cut, drop_suffix}
use Rattle.pr_forms.proofs.Places.{drop_drop}
use Rattle.pr_forms.proofs.Frames.{Same, end, more, frame, resume}

module _ {T : Type 0} where
  same_flip : {r s ts us : List T} → Same r s ts us → Same s r us ts
  same_flip end = end
  same_flip (more k) = more (same_flip k)

  same_length : {r s ts us : List T} → Same r s ts us → length r ≤ length ts
  same_length end = omega arith
  same_length (more k) = let h = same_length k in omega arith

  take_none : (r s : List T) (n : ℕ) → n ≡ 0 → s ≡ take n r ++ s
  take_none r s n e = rw e refl

  take_more : (t : T) (ts s us : List T) (k n : ℕ) → n ≡ suc k → us ≡ take k ts ++ s → t ∷ us ≡ take n (t ∷ ts) ++ s
  take_more t ts s us k n e h = rw e (ap (λ x. t ∷ x) h)

  same_is : {r s ts us : List T} → Same r s ts us → us ≡ take (length ts - length r) ts ++ s
  same_is {r} {s} end = take_none r s _ (omega arith)
  same_is {r} {s} (more {t = t} {ts = ts} {us = us} k) = let h = same_length k in take_more t ts s us (length ts - length r) _ (omega arith) (same_is k)

  same_unique : {r s ts us vs : List T} → Same r s ts us → Same r s ts vs → us ≡ vs
  same_unique h k = same_is h ∙ sym (same_is k)

  same_part : (j m : ℕ) (ts : List T) → j ≤ m → Same (drop j (take m ts)) (drop j ts) (take m ts) ts
  same_part zero m ts h = end
  same_part (suc j) zero ts h = absurd (omega arith)
  same_part (suc j) (suc m) [] h = end
  same_part (suc j) (suc m) (t ∷ ts) h = more (same_part j m ts (omega arith))

  same_front : (front r s : List T) → Same r s (front ++ r) (front ++ s)
  same_front [] r s = end
  same_front (t ∷ front) r s = more (same_front front r s)

module _ {T N V : Type 0} (G : N → Form T N V) (f : Form T N V) where
  -- a reading and a beginning, with something else behind them
  pub other_rest : (front r s : List T) (v : V) → Reads G f (front ++ r) v r → Reads G f (front ++ s) v s
  other_rest front r s v d = let x = frame s d in subst (λ us. Reads G f us v s) (same_unique x.same (same_front front r s)) x.reads

  pub begins_other_rest : (front r s : List T) → Begins G f (front ++ r) r → Begins G f (front ++ s) s
  begins_other_rest front r s b = let x = resume s b in subst (λ us. Begins G f us s) (same_unique x.same (same_front front r s)) x.begins

  -- a beginning within a front of the tokens is one of all
  pub part_begins : (j m : ℕ) (ts : List T) → j ≤ m → Begins G f (take m ts) (drop j (take m ts)) → Begins G f ts (drop j ts)
  part_begins j m ts h b = let x = resume (drop j ts) b in subst (λ us. Begins G f us (drop j ts)) (same_unique x.same (same_part j m ts h)) x.begins

  to_part : (j m : ℕ) (ts : List T) → j ≤ m → Begins G f ts (drop j ts) → Begins G f (take m ts) (drop j (take m ts))
  to_part j m ts h b = let x = resume (drop j (take m ts)) b in
      subst (λ us. Begins G f us (drop j (take m ts))) (same_unique x.same (same_flip (same_part j m ts h))) x.begins

  le_or_lt : (j m : ℕ) → (j ≤ m) ⊎ (m < j)
  le_or_lt zero m = inl (omega arith)
  le_or_lt (suc j) zero = inr (omega arith)
  le_or_lt (suc j) (suc m) = next (le_or_lt j m)
    where
      next : (j ≤ m) ⊎ (m < j) → (suc j ≤ suc m) ⊎ (suc m < suc j)
      next (inl h) = inl (omega arith)
      next (inr h) = inr (omega arith)

  pub part_place : (ts : List T) (m k : ℕ) → k < m → m ≤ length ts → IsFirstBad G f (take m ts) k → IsFirstBad G f ts k
  part_place ts m k h l p = record {
    within = omega arith;
    before = λ j i. part_begins j m ts (omega arith) (p.before j i);
    after = λ j a b x. past j a x (le_or_lt j m);
  }
    where
      past : (j : ℕ) → k < j → Begins G f ts (drop j ts) → (j ≤ m) ⊎ (m < j) → ⊥
      past j a x (inl i) = p.after j a (simp length-take (omega arith)) (to_part j m ts i x)
      past j a x (inr i) = p.after m h (simp length-take (omega arith)) (to_part m m ts (omega arith) (cut x (drop_suffix m ts) (drop_drop m j ts (omega arith))))
