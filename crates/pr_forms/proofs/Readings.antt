-- Two readings from one place are the same, or one of them could have gone on.
use Rattle.std.proofs.Common.{◌≡◌, List, [], ◌∷◌, Option, Some, Bool, refl, subst}
use Rattle.pr_forms.specs.Form.{Form, token, pair, either, turns, fold, rule, chosen, Reads, is_chosen, is_token, is_nothing, is_pair, is_left, is_right, is_stop, is_turn, is_fold, is_rule}
use Rattle.pr_forms.specs.Table.{Table, Decides, IsDecided, Binds}
use Rattle.pr_forms.specs.Run.{bad}
use Rattle.pr_forms.proofs.Heads.{More, Starts, empty, next}
use Rattle.pr_forms.proofs.Decided.{Apart, Agrees, goes_on, rule_decides, decides_first, decides_second, decides_apart, decides_left, decides_right, decides_full_left, decides_turn, decides_again, decides_turn_apart, decides_full_turn, decides_base, decides_turns, decides_base_apart}
use Rattle.pr_forms.proofs.Decided.{more_turn, more_sides, decides_sides, more_second, more_left, more_right, more_again, more_past, more_rule, more_chosen, past_pair, past_turn, past_fold, heads}

pub data Alike {T N V : Type 0} (S : Table T N) (f : Form T N V) : V → List T → V → List T → Type 0 where
  alike : {v : V} {r : List T} → Alike S f v r v r
  first_goes_on : {v w : V} {r s : List T} → More S f r → Alike S f v r w s
  second_goes_on : {v w : V} {r s : List T} → More S f s → Alike S f v r w s

module _ {T N V : Type 0} (S : Table T N) where
  gone : {f : Form T N V} {v : V} {rest end : List T} → Agrees S f (bad end) v rest → More S f rest
  gone (goes_on m) = m

  lift_second : {c : V → V → V} {f g : Form T N V} (v : V) {w x : V} {r s : List T} → Alike S g w r x s → Alike S (pair c f g) (c v w) r (c v x) s
  lift_second v alike = alike
  lift_second v (first_goes_on m) = first_goes_on (more_second S m)
  lift_second v (second_goes_on m) = second_goes_on (more_second S m)

  lift_left : {f g : Form T N V} {w x : V} {r s : List T} → Alike S f w r x s → Alike S (either f g) w r x s
  lift_left alike = alike
  lift_left (first_goes_on m) = first_goes_on (more_left S m)
  lift_left (second_goes_on m) = second_goes_on (more_left S m)

  lift_right : {f g : Form T N V} {w x : V} {r s : List T} → Alike S g w r x s → Alike S (either f g) w r x s
  lift_right alike = alike
  lift_right (first_goes_on m) = first_goes_on (more_right S m)
  lift_right (second_goes_on m) = second_goes_on (more_right S m)

  lift_turn : {c : V → V → V} {g : Form T N V} {v u w x : V} {r s : List T} → Alike S (turns c u g) w r x s → Alike S (turns c v g) w r x s
  lift_turn alike = alike
  lift_turn (first_goes_on m) = first_goes_on (more_again S m)
  lift_turn (second_goes_on m) = second_goes_on (more_again S m)

  lift_fold : {c : V → V → V} {f g : Form T N V} {u w x : V} {r s : List T} → Alike S (turns c u g) w r x s → Alike S (fold c f g) w r x s
  lift_fold alike = alike
  lift_fold (first_goes_on m) = first_goes_on (more_past S m)
  lift_fold (second_goes_on m) = second_goes_on (more_past S m)

  -- where one side is read and the other one is too, the other one is empty
  sides : {f g : Form T N V} {ts r s : List T} → Decides S (either f g) → Starts S f ts r → Starts S g ts s → More S (either f g) s
  sides h (empty e) k = absurd (decides_full_left S h e)
  sides h (next n) (empty e) = more_sides S e n
  sides h (next n) (next k) = absurd (decides_sides S _ h n k)

  stops : {c : V → V → V} {v : V} {g : Form T N V} {ts mid : List T} → Decides S (turns c v g) → Starts S g ts mid → More S (turns c v g) ts
  stops h (empty e) = absurd (decides_full_turn S h e)
  stops h (next n) = more_turn S n

module _ {T N V : Type 0} (G : N → Form T N V) (S : Table T N) (known : IsDecided G S) where
  start : {f : Form T N V} {ts rest : List T} {v : V} → Reads G f ts v rest → Starts S f ts rest
  start = heads G S known

  pair_alike : {c : V → V → V} {f g : Form T N V} {m m2 r s : List T} {v v2 w w2 : V} → Apart S f g → Alike S f v m v2 m2 →
      Reads G g m w r → Reads G g m2 w2 s → ((x : V) (q : List T) → Reads G g m x q → Alike S g w r x q) → Alike S (pair c f g) (c v w) r (c v2 w2) s
  pair_alike {v = v} a alike d e k = lift_second S v (k _ _ e)
  pair_alike {w = w} a (first_goes_on i) d e k = first_goes_on (gone S {v = w} (past_pair S {o = bad []} a i (start d)))
  pair_alike {w = w} a (second_goes_on i) d e k = second_goes_on (gone S {v = w} (past_pair S {o = bad []} a i (start e)))

  turn_alike : {c : V → V → V} {g : Form T N V} {m m2 r s : List T} {u v v2 w w2 : V} → Apart S g g → Alike S g v m v2 m2 →
      Reads G (turns c (c u v) g) m w r → Reads G (turns c (c u v2) g) m2 w2 s →
      ((x : V) (q : List T) → Reads G (turns c (c u v) g) m x q → Alike S (turns c (c u v) g) w r x q) → Alike S (turns c u g) w r w2 s
  turn_alike a alike d e k = lift_turn S (k _ _ e)
  turn_alike {w = w} a (first_goes_on i) d e k = first_goes_on (gone S {v = w} (past_turn S {o = bad []} a i (start d)))
  turn_alike {w = w} a (second_goes_on i) d e k = second_goes_on (gone S {v = w} (past_turn S {o = bad []} a i (start e)))

  fold_alike : {c : V → V → V} {f g : Form T N V} {m m2 r s : List T} {v v2 w w2 : V} → Apart S f g → Alike S f v m v2 m2 →
      Reads G (turns c v g) m w r → Reads G (turns c v2 g) m2 w2 s →
      ((x : V) (q : List T) → Reads G (turns c v g) m x q → Alike S (turns c v g) w r x q) → Alike S (fold c f g) w r w2 s
  fold_alike a alike d e k = lift_fold S (k _ _ e)
  fold_alike {w = w} a (first_goes_on i) d e k = first_goes_on (gone S {v = w} (past_fold S {o = bad []} a i (start d)))
  fold_alike {w = w} a (second_goes_on i) d e k = second_goes_on (gone S {v = w} (past_fold S {o = bad []} a i (start e)))

  token_alike : (p : T → Option V) (t : T) {rest : List T} {v w : V} → p t ≡ Some v → p t ≡ Some w → Alike {N = N} S (token p) v rest w rest
  token_alike p t {rest} {v} {w} e h = let k : v ≡ w = cc in subst (λ x. Alike {N = N} S (token p) v rest x rest) k alike

  lift_chosen : (q : T → Option N) (m : T → Bool) (t : T) (n : N) {w x : V} {r s : List T} → Binds {V = V} S (chosen q m) → q t ≡ Some n →
      Alike S (G n) w r x s → Alike {V = V} S (chosen q m) w r x s
  lift_chosen q m t n h e alike = alike
  lift_chosen q m t n {r = r} h e (first_goes_on i) = first_goes_on (record { is = more_chosen G S known q m t n r h e i.is })
  lift_chosen q m t n {s = s} h e (second_goes_on i) = second_goes_on (record { is = more_chosen G S known q m t n s h e i.is })

  chosen_alike : (q : T → Option N) (m : T → Bool) (t : T) (n n2 : N) {ts r s : List T} {v w : V} → Binds {V = V} S (chosen q m) → q t ≡ Some n → q t ≡ Some n2 →
      ((x : V) (z : List T) → Reads G (G n) (t ∷ ts) x z → Alike S (G n) v r x z) → Reads G (G n2) (t ∷ ts) w s → Alike {V = V} S (chosen q m) v r w s
  chosen_alike q m t n n2 {ts} {r} {s} {v} {w} h e e2 k d =
      let same_rule : n2 ≡ n = cc in
      lift_chosen q m t n h e (k w s (subst (λ x. Reads G (G x) (t ∷ ts) w s) same_rule d))

  lift_rule : (n : N) {w x : V} {r s : List T} → Alike S (G n) w r x s → Alike {V = V} S (rule n) w r x s
  lift_rule n alike = alike
  lift_rule n {r = r} (first_goes_on i) = first_goes_on (record { is = more_rule G S known n r i.is })
  lift_rule n {s = s} (second_goes_on i) = second_goes_on (record { is = more_rule G S known n s i.is })

  pub readings_alike : {f : Form T N V} {ts r s : List T} {v w : V} → Decides S f → Reads G f ts v r → Reads G f ts w s → Alike S f v r w s
  readings_alike h (is_token {p} {t} e) (is_token k) = token_alike p t e k
  readings_alike h is_nothing is_nothing = alike
  readings_alike h (is_pair d e) (is_pair i k) = pair_alike (decides_apart S h) (readings_alike (decides_first S h) d i) e k (λ x q. readings_alike (decides_second S h) e)
  readings_alike h (is_left d) (is_left i) = lift_left S (readings_alike (decides_left S h) d i)
  readings_alike h (is_right d) (is_right i) = lift_right S (readings_alike (decides_right S h) d i)
  readings_alike h (is_left d) (is_right i) = second_goes_on (sides S h (start d) (start i))
  readings_alike h (is_right d) (is_left i) = first_goes_on (sides S h (start i) (start d))
  readings_alike h is_stop is_stop = alike
  readings_alike h is_stop (is_turn d e) = first_goes_on (stops S h (start d))
  readings_alike h (is_turn d e) is_stop = second_goes_on (stops S h (start d))
  readings_alike h (is_turn d e) (is_turn i k) = turn_alike (decides_turn_apart S h) (readings_alike (decides_turn S h) d i) e k (λ x q. readings_alike (decides_again S h) e)
  readings_alike h (is_fold d e) (is_fold i k) = fold_alike (decides_base_apart S h) (readings_alike (decides_base S h) d i) e k (λ x q. readings_alike (decides_turns S _ h) e)
  readings_alike h (is_chosen {q} {m} {t} {n} e l d) (is_chosen {n = n2} e2 l2 i) = chosen_alike q m t n n2 h.binds e e2 (λ x z. readings_alike (known.decides n) d) i
  readings_alike h (is_rule {n} d) (is_rule i) = lift_rule n (readings_alike (known.decides n) d i)

  at_the_end : {f : Form T N V} {v w : V} → Alike S f v [] w [] → v ≡ w
  at_the_end alike = refl
  at_the_end (first_goes_on i) = let e = i.is in absurd (cc)
  at_the_end (second_goes_on i) = let e = i.is in absurd (cc)

  pub one_reading : (n : N) (ts : List T) (v w : V) → Reads G (rule n) ts v [] → Reads G (rule n) ts w [] → v ≡ w
  one_reading n ts v w d e = at_the_end (readings_alike (rule_decides S n) d e)
