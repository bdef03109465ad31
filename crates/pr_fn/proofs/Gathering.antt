-- One more item gathered.
use Rattle.std.proofs.Common.{◌≡◌, Bool, true, false, cond, List, [], ◌∷◌, ◌++◌, map, fold, Option, Some, refl, sym, ap, ◌∙◌, append-nil}
use Rattle.std.proofs.lemmas.List.{map-append}
use Rattle.std.proofs.lemmas.List.Elements.{filter-append}
use Rattle.std.proofs.lemmas.List.Sums.{fold-append}
use Rattle.std.specs.Map.{keys_of}
use Rattle.std.specs.Ordering.{is_eq, match_ordering}
use Rattle.std.specs.declared.cmp.Ordering.{Ordering}
use Rattle.std.specs.declared.cmp.Ordering.TheVariants.{Less, Equal, Greater}
use Rattle.std.specs.BTreeMap.{BTreeMap, IsOrdered, get, is_at, keys, Updates, insert_entry}
use Rattle.pr_fn.specs.private.Gathered.{AreGathered, of_key, with_key}

module _ {K V : Type 0} (cmp : K → K → Ordering) where
  key_placed : (o : Ordering) (k : K) (v : V) (e : K × V) (es rest : List (K × V)) → keys_of rest ≡ with_key cmp (keys_of es) k
      → keys_of (match_ordering o ((k, v) ∷ e ∷ es) ((e.0, v) ∷ es) (e ∷ rest)) ≡ match_ordering o (k ∷ e.0 ∷ keys_of es) (e.0 ∷ keys_of es) (e.0 ∷ with_key cmp (keys_of es) k)
  key_placed Less k v e es rest h = refl
  key_placed Equal k v e es rest h = refl
  key_placed Greater k v e es rest h = ap (λ (r : List K). e.0 ∷ r) h

  pub keys_inserted : (es : List (K × V)) (k : K) (v : V) → keys_of (insert_entry cmp es k v) ≡ with_key cmp (keys_of es) k
  keys_inserted [] k v = refl
  keys_inserted (e ∷ es) k v = key_placed (cmp k e.0) k v e es (insert_entry cmp es k v) (keys_inserted es k v)

module _ {K V X : Type 0} (cmp : K → K → Ordering) (same : (a b : K) → is_eq (cmp a b) ≡ true → a ≡ b) (key : X → K) (whole : List X → Option V) where
  keys_more : (front : List X) (x : X) → fold (with_key cmp) [] (map key (front ++ x ∷ [])) ≡ with_key cmp (fold (with_key cmp) [] (map key front)) (key x)
  keys_more front x =
      ap (λ (ks : List K). fold (with_key cmp) [] ks) (map-append key front (x ∷ []))
      ∙ fold-append (with_key cmp) [] (map key front) (key x ∷ [])

  key_more : (q : K) (front : List X) (x : X) (b : Bool) → is_at (cmp (key x)) q ≡ b → of_key cmp key q (front ++ x ∷ []) ≡ of_key cmp key q front ++ cond b (x ∷ []) []
  key_more q front x b h = filter-append (λ (y : X). is_at (cmp (key y)) q) front (x ∷ []) ∙ ap (λ (c : Bool). of_key cmp key q front ++ cond c (x ∷ []) []) h

  pub gathered_more : (front : List X) (x : X) (m n : BTreeMap K V) (w : V)
      → Some w ≡ whole (of_key cmp key (key x) front ++ x ∷ [])
      → keys n ≡ with_key cmp (keys m) (key x) → Updates cmp m n (key x) (Some w) → IsOrdered cmp n
      → AreGathered cmp key whole front m → AreGathered cmp key whole (front ++ x ∷ []) n
  gathered_more front x m n w is known u ordered h = record {
    known = known ∙ ap (λ (ks : List K). with_key cmp ks (key x)) h.known ∙ sym (keys_more front x);
    ordered = ordered;
    at = λ q. by_key q (is_at (cmp (key x)) q) refl;
  } where
    by_key : (q : K) (b : Bool) → is_at (cmp (key x)) q ≡ b → get cmp n q ≡ whole (of_key cmp key q (front ++ x ∷ []))
    by_key q true here =
        u.0 q ∙ ap (λ (b : Bool). cond b (Some w) (get cmp m q)) here ∙ is
        ∙ ap (λ (k : K). whole (of_key cmp key k front ++ x ∷ [])) (same (key x) q here)
        ∙ sym (ap whole (key_more q front x true here))
    by_key q false apart =
        u.0 q ∙ ap (λ (b : Bool). cond b (Some w) (get cmp m q)) apart ∙ h.at q
        ∙ sym (ap whole (key_more q front x false apart ∙ append-nil (of_key cmp key q front)))
