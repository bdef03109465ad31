-- Where every rule of a grammar reads something, a beginning is what can go on to a whole text. So
-- grammars that read the same begin the same.
use Rattle.std.proofs.Common.{◌≡◌, Option, Some, List, [], ◌∷◌, ◌++◌, refl, ap, sym, ◌∙◌, subst, append_assoc}
use Rattle.pr_forms.specs.Form.{Form, token, nothing, pair, either, turns, fold, chosen, rule, Reads, is_token, is_nothing, is_pair, is_left, is_right, is_stop, is_turn, is_fold, is_rule}
use Rattle.pr_forms.specs.Form.{Begins, at_start, at_whole, in_first, in_second, in_left, in_right, in_turn, after_turn, in_base, after_base, in_chosen, in_rule}
use Rattle.pr_forms.proofs.Suffixes.{Suffix, here, there, reads_suffix, cut}
use Rattle.pr_forms.proofs.Parts.{other_rest, begins_other_rest}

-- tokens before the end of others
record Front {T : Type 0} (ts r : List T) : Type 0 where
  front : List T
  same : ts ≡ front ++ r

front_of : {T : Type 0} {r ts : List T} → Suffix r ts → Front ts r
front_of here = record { front = []; same = refl }
front_of (there {t = t} h) = let f = front_of h in record { front = t ∷ f.front; same = ap (λ us. t ∷ us) f.same }

end_suffix : {T : Type 0} (front r : List T) → Suffix r (front ++ r)
end_suffix [] r = here
end_suffix (t ∷ front) r = there (end_suffix front r)

nil_suffix : {T : Type 0} (ts : List T) → Suffix [] ts
nil_suffix [] = here
nil_suffix (t ∷ ts) = there (nil_suffix ts)

-- each token that the form may take is there
pub record HasToken {T V : Type 0} (p : T → Option V) : Type 0 where
  pub token : T
  pub value : V
  pub is : p token ≡ Some value

abbrev pub Alive : {T N V : Type 0} → Form T N V → Type 0
Alive (token p) = HasToken p
Alive (nothing v) = Unit {0}
Alive (pair c f g) = Alive f × Alive g
Alive (either f g) = Alive f × Alive g
Alive (turns c v g) = Alive g
Alive (fold c f g) = Alive f × Alive g
Alive (chosen q m) = ⊥
Alive (rule n) = Unit {0}

module _ {T N V : Type 0} (G : N → Form T N V) where
  -- the form reads something
  pub record Whole (f : Form T N V) : Type 0 where
    pub value : V
    pub front : List T
    pub reads : (r : List T) → Reads G f (front ++ r) value r

  pub token_whole : {p : T → Option V} → HasToken p → Whole (token p)
  token_whole h = record { value = h.value; front = h.token ∷ []; reads = λ r. is_token h.is }

  pub pair_whole : {c : V → V → V} {f g : Form T N V} → Whole f → Whole g → Whole (pair c f g)
  pair_whole {c} {f} {g} a b = record {
    value = c a.value b.value;
    front = a.front ++ b.front;
    reads = λ r. subst (λ ts. Reads G (pair c f g) ts (c a.value b.value) r) (sym (append_assoc a.front b.front r)) (is_pair (a.reads (b.front ++ r)) (b.reads r));
  }

  module _ (rules : (n : N) → Whole (rule n)) (alive : (n : N) → Alive (G n)) where
    whole_of : (f : Form T N V) → Alive f → Whole f
    whole_of (token p) h = token_whole h
    whole_of (nothing v) h = record { value = v; front = []; reads = λ r. is_nothing }
    whole_of (pair c f g) h = pair_whole (whole_of f h.0) (whole_of g h.1)
    whole_of (either f g) h = let a = whole_of f h.0 in record { value = a.value; front = a.front; reads = λ r. is_left (a.reads r) }
    whole_of (turns c v g) h = record { value = v; front = []; reads = λ r. is_stop }
    whole_of (fold c f g) h = let a = whole_of f h.0 in record { value = a.value; front = a.front; reads = λ r. is_fold (a.reads r) is_stop }
    whole_of (chosen q m) h = absurd h
    whole_of (rule n) h = rules n

    -- a beginning goes on to a whole text
    record Completed (f : Form T N V) (ts rest : List T) : Type 0 where
      front : List T
      same : ts ≡ front ++ rest
      more : List T
      value : V
      reads : (r : List T) → Reads G f (front ++ (more ++ r)) value r

    of_start : {f : Form T N V} (rest : List T) → Whole f → Completed f rest rest
    of_start rest a = record { front = []; same = refl; more = a.front; value = a.value; reads = a.reads }

    read_front : {f : Form T N V} {ts rest : List T} {v : V} (x : Front ts rest) → Reads G f ts v rest → (r : List T) → Reads G f (x.front ++ r) v r
    read_front {f} {ts} {rest} {v} x d r = other_rest G f x.front rest r v (subst (λ us. Reads G f us v rest) x.same d)

    of_whole : {f : Form T N V} {ts rest : List T} {v : V} → Reads G f ts v rest → Completed f ts rest
    of_whole {v = v} d = let x = front_of (reads_suffix d) in record { front = x.front; same = x.same; more = []; value = v; reads = λ r. read_front x d r }

    of_first : {c : V → V → V} {f g : Form T N V} {ts rest : List T} → Completed f ts rest → Whole g → Completed (pair c f g) ts rest
    of_first {c} {f} {g} a b = record {
      front = a.front;
      same = a.same;
      more = a.more ++ b.front;
      value = c a.value b.value;
      reads = λ r. subst (λ us. Reads G (pair c f g) (a.front ++ us) (c a.value b.value) r) (sym (append_assoc a.more b.front r)) (is_pair (a.reads (b.front ++ r)) (b.reads r));
    }

    after_front : {ts mid : List T} (rest : List T) (x : Front ts mid) (front : List T) → mid ≡ front ++ rest → ts ≡ (x.front ++ front) ++ rest
    after_front rest x front e = x.same ∙ ap (λ us. x.front ++ us) e ∙ sym (append_assoc x.front front rest)

    of_second : {c : V → V → V} {f g : Form T N V} {ts mid rest : List T} {v : V} → Reads G f ts v mid → Completed g mid rest → Completed (pair c f g) ts rest
    of_second {c} {f} {g} {v = v} d b = let x = front_of (reads_suffix d) in record {
      front = x.front ++ b.front;
      same = after_front _ x b.front b.same;
      more = b.more;
      value = c v b.value;
      reads = λ r. subst (λ us. Reads G (pair c f g) us (c v b.value) r) (sym (append_assoc x.front b.front (b.more ++ r))) (is_pair (read_front x d (b.front ++ (b.more ++ r))) (b.reads r));
    }

    of_left : {f g : Form T N V} {ts rest : List T} → Completed f ts rest → Completed (either f g) ts rest
    of_left a = record { front = a.front; same = a.same; more = a.more; value = a.value; reads = λ r. is_left (a.reads r) }

    of_right : {f g : Form T N V} {ts rest : List T} → Completed g ts rest → Completed (either f g) ts rest
    of_right a = record { front = a.front; same = a.same; more = a.more; value = a.value; reads = λ r. is_right (a.reads r) }

    of_turn : {c : V → V → V} {g : Form T N V} {v : V} {ts rest : List T} → Completed g ts rest → Completed (turns c v g) ts rest
    of_turn {c} {g} {v} a = record { front = a.front; same = a.same; more = a.more; value = c v a.value; reads = λ r. is_turn (a.reads r) is_stop }

    past_turn : {c : V → V → V} {g : Form T N V} {v w : V} {ts mid rest : List T} → Reads G g ts w mid → Completed (turns c (c v w) g) mid rest → Completed (turns c v g) ts rest
    past_turn {c} {g} {v} {w} d b = let x = front_of (reads_suffix d) in record {
      front = x.front ++ b.front;
      same = after_front _ x b.front b.same;
      more = b.more;
      value = b.value;
      reads = λ r. subst (λ us. Reads G (turns c v g) us b.value r) (sym (append_assoc x.front b.front (b.more ++ r))) (is_turn (read_front x d (b.front ++ (b.more ++ r))) (b.reads r));
    }

    of_base : {c : V → V → V} {f g : Form T N V} {ts rest : List T} → Completed f ts rest → Completed (fold c f g) ts rest
    of_base a = record { front = a.front; same = a.same; more = a.more; value = a.value; reads = λ r. is_fold (a.reads r) is_stop }

    past_base : {c : V → V → V} {f g : Form T N V} {v : V} {ts mid rest : List T} → Reads G f ts v mid → Completed (turns c v g) mid rest → Completed (fold c f g) ts rest
    past_base {c} {f} {g} d b = let x = front_of (reads_suffix d) in record {
      front = x.front ++ b.front;
      same = after_front _ x b.front b.same;
      more = b.more;
      value = b.value;
      reads = λ r. subst (λ us. Reads G (fold c f g) us b.value r) (sym (append_assoc x.front b.front (b.more ++ r))) (is_fold (read_front x d (b.front ++ (b.more ++ r))) (b.reads r));
    }

    of_rule : {n : N} {ts rest : List T} → Completed (G n) ts rest → Completed (rule n) ts rest
    of_rule a = record { front = a.front; same = a.same; more = a.more; value = a.value; reads = λ r. is_rule (a.reads r) }

    completed : {f : Form T N V} {ts rest : List T} → Begins G f ts rest → Alive f → Completed f ts rest
    completed (at_start {f = f} {rest = rest}) h = of_start rest (whole_of f h)
    completed (at_whole d) h = of_whole d
    completed (in_first {g = g} b) h = of_first (completed b h.0) (whole_of g h.1)
    completed (in_second d b) h = of_second d (completed b h.1)
    completed (in_left b) h = of_left (completed b h.0)
    completed (in_right b) h = of_right (completed b h.1)
    completed (in_turn b) h = of_turn (completed b h)
    completed (after_turn d b) h = past_turn d (completed b h)
    completed (in_base b) h = of_base (completed b h.0)
    completed (after_base d b) h = past_base d (completed b h.1)
    completed (in_chosen e b) h = absurd h
    completed (in_rule {n = n} b) h = of_rule (completed b (alive n))

    -- What the form reads another form of another grammar reads too: so it begins what the form
    -- begins.
    pub begins_too : {M W : Type 0} (K : M → Form T M W) (f : Form T N V) (g : Form T M W) → Alive f → ((ts : List T) (v : V) → Reads G f ts v [] → (w : W) × Reads K g ts w []) → (ts rest : List T) → Begins G f ts rest → Begins K g ts rest
    begins_too K f g h same ts rest b =
        let c = completed b h in
        let d = same (c.front ++ (c.more ++ [])) c.value (c.reads []) in
        let e : Begins K g (c.front ++ (c.more ++ [])) (c.more ++ []) = cut (at_whole d.1) (end_suffix c.front (c.more ++ [])) (nil_suffix (c.more ++ [])) in
        subst (λ us. Begins K g us rest) (sym c.same) (begins_other_rest K g c.front (c.more ++ []) rest e)
