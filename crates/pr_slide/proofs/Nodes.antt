-- The windows of one range selector among those of all.
use Rattle.std.proofs.Common.{◌≡◌, ℕ, zero, suc, ◌<◌, Bool, true, false, cond, ◌&&◌, nat_eq, List, [], ◌∷◌, ◌++◌, length, get_or, set, Some, None, option_and_then, refl, sym, ap, subst, ◌∙◌, arith}
use Rattle.std.specs.Map.{lookup}
use Rattle.std.proofs.lemmas.Grind.{common_steps}
use borrow.Author.Tests.{eqb-true}
use Rattle.pr_head.specs.private.Stored.{Stored}
use Rattle.pr_range.specs.spec_vectors.declared.range.Ask.{Ask}
use Rattle.pr_slide.specs.declared.window.SeriesWindow.{SeriesWindow}
use Rattle.pr_slide.specs.private.Windows.{IsPut, IsPutIn, IsSlid, Nodes, found}
use Rattle.pr_slide.specs.private.Places.{IsNodePlace}

abbrev pub Row : Type 0
Row = ℕ × List (ℕ × SeriesWindow)

-- new ones have no windows
abbrev no_windows : List (ℕ × SeriesWindow)
no_windows = []

pub found_pushed : (node : ℕ) (nodes : Nodes) (k q : ℕ) → found (nodes ++ (node, []) ∷ []) k q ≡ found nodes k q
found_pushed node [] k q = by (nat_eq k node) where
  by : (b : Bool) → option_and_then (lookup (nat_eq q)) (cond b (Some no_windows) None) ≡ None
  by true = refl
  by false = refl
found_pushed node (n ∷ nodes) k q = by (nat_eq k n.0) (found_pushed node nodes k q) where
  by : (b : Bool) → found (nodes ++ (node, []) ∷ []) k q ≡ found nodes k q
      → option_and_then (lookup (nat_eq q)) (cond b (Some n.1) (lookup (nat_eq k) (nodes ++ (node, []) ∷ []))) ≡ option_and_then (lookup (nat_eq q)) (cond b (Some n.1) (lookup (nat_eq k) nodes))
  by true rest = refl
  by false rest = rest

-- the place is one of the list
pub place_within : (node i : ℕ) (nodes : Nodes) → IsNodePlace node i nodes → i < length nodes
place_within node i [] h = absurd h
place_within node zero (n ∷ nodes) h = omega arith
place_within node (suc i) (n ∷ nodes) h = let rest = place_within node i nodes h.1 in omega arith

-- what is found there
pub found_there : (node i q : ℕ) (nodes : Nodes) (d : Row) → IsNodePlace node i nodes → found nodes node q ≡ lookup (nat_eq q) (get_or nodes i d).1
found_there node i q [] d h = absurd h
found_there node zero q (n ∷ nodes) d h = ap (λ b. option_and_then (lookup (nat_eq q)) (cond b (Some n.1) (lookup (nat_eq node) nodes))) h
found_there node (suc i) q (n ∷ nodes) d h = ap (λ b. option_and_then (lookup (nat_eq q)) (cond b (Some n.1) (lookup (nat_eq node) nodes))) h.0 ∙ found_there node i q nodes d h.1

number_there : (node i : ℕ) (nodes : Nodes) (d : Row) → IsNodePlace node i nodes → nat_eq node (get_or nodes i d).0 ≡ true
number_there node i [] d h = absurd h
number_there node zero (n ∷ nodes) d h = h
number_there node (suc i) (n ∷ nodes) d h = number_there node i nodes d h.1

-- what is found once the windows there have changed
pub found_set : (node i : ℕ) (nodes : Nodes) (row : Row) (k q : ℕ) → IsNodePlace node i nodes → nat_eq node row.0 ≡ true
    → found (set nodes i row) k q ≡ cond (nat_eq node k) (lookup (nat_eq q) row.1) (found nodes k q)
found_set node i [] row k q h e = absurd h
found_set node zero (n ∷ nodes) row k q h e =
    let first : node ≡ n.0 = eqb-true node n.0 h in
    let second : node ≡ row.0 = eqb-true node row.0 e in
    by (nat_eq node k) (nat_eq k row.0) (nat_eq k n.0) refl (ap (nat_eq k) (sym second)) (ap (nat_eq k) (sym first)) where
      by : (b c d : Bool) → nat_eq node k ≡ b → c ≡ nat_eq k node → d ≡ nat_eq k node
          → option_and_then (lookup (nat_eq q)) (cond c (Some row.1) (lookup (nat_eq k) nodes))
          ≡ cond b (lookup (nat_eq q) row.1) (option_and_then (lookup (nat_eq q)) (cond d (Some n.1) (lookup (nat_eq k) nodes)))
      by true c d f g j = let same : nat_eq k node ≡ true = grind (arith, common_steps) in rw (g, same) refl
      by false c d f g j = let other : nat_eq k node ≡ false = grind (arith, common_steps) in rw (g, j, other) refl
found_set node (suc i) (n ∷ nodes) row k q h e = by (nat_eq k n.0) refl (found_set node i nodes row k q h.1 e) where
  by : (b : Bool) → nat_eq k n.0 ≡ b → found (set nodes i row) k q ≡ cond (nat_eq node k) (lookup (nat_eq q) row.1) (found nodes k q)
      → option_and_then (lookup (nat_eq q)) (cond b (Some n.1) (lookup (nat_eq k) (set nodes i row)))
      ≡ cond (nat_eq node k) (lookup (nat_eq q) row.1) (option_and_then (lookup (nat_eq q)) (cond b (Some n.1) (lookup (nat_eq k) nodes)))
  by false f rest = rest
  by true f rest =
      let here = h.0 in
      let other : nat_eq node k ≡ false = grind (arith, common_steps) in
      rw other refl

-- The windows of one range selector have gone on.
pub put_at : (s : Stored) (a : Ask) (node series i : ℕ) (nodes : Nodes) (row d : Row) → IsNodePlace node i nodes → row.0 ≡ (get_or nodes i d).0 → IsPutIn s a series (get_or nodes i d).1 row.1 → IsPut s a node series nodes (set nodes i row)
put_at s a node series i nodes row d place number h = record {
  window = h.window;
  slid = subst (λ w. IsSlid s a w h.window) (sym (found_there node i series nodes d place)) h.slid;
  put = λ k q. found_set node i nodes row k q place (ap (nat_eq node) number ∙ number_there node i nodes d place) ∙ by (nat_eq node k) k q refl;
} where
  by : (b : Bool) → (k q : ℕ) → nat_eq node k ≡ b → cond b (lookup (nat_eq q) row.1) (found nodes k q) ≡ cond (b && nat_eq series q) (Some h.window) (found nodes k q)
  by true k q e =
      let same : node ≡ k = eqb-true node k e in
      h.put q ∙ ap (cond (nat_eq series q) (Some h.window)) (sym (found_there node i q nodes d place) ∙ ap (λ n. found nodes n q) same)
  by false k q e = refl

-- Nothing else has changed before.
pub put_after : (s : Stored) (a : Ask) (node series : ℕ) (first before after : Nodes) → ((k q : ℕ) → found before k q ≡ found first k q) → IsPut s a node series before after → IsPut s a node series first after
put_after s a node series first before after same h = record {
  window = h.window;
  slid = subst (λ w. IsSlid s a w h.window) (same node series) h.slid;
  put = λ k q. h.put k q ∙ ap (cond (nat_eq node k && nat_eq series q) (Some h.window)) (same k q);
}

-- what is found of the range selector whose windows have changed
pub found_new : (node i q : ℕ) (nodes : Nodes) (row d : Row) → IsNodePlace node i nodes → row.0 ≡ (get_or nodes i d).0 → found (set nodes i row) node q ≡ lookup (nat_eq q) row.1
found_new node i q nodes row d place number =
    let here : nat_eq node node ≡ true = grind (arith, common_steps) in
    found_set node i nodes row node q place (ap (nat_eq node) number ∙ number_there node i nodes d place) ∙ ap (λ b. cond b (lookup (nat_eq q) row.1) (found nodes node q)) here
