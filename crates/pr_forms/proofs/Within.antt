-- A grammar within another one is decided as it is alone, and what it runs, reads and begins alone
-- it does there.
use Rattle.std.proofs.Common.{◌≡◌, ℕ, zero, suc, pred, ◌≤◌, ◌-◌, nat_le, false, List, [], ◌∷◌, length, map, Option, Some, None, Bool, true, refl, ap, sym, ◌∙◌, subst, arith}
use Rattle.std.proofs.lemmas.List.{length-map}
use Rattle.std.specs.Prelude.{is_some, ◌||◌, ◌&&◌}
use Rattle.pr_forms.specs.Form.{Form, token, nothing, pair, either, turns, fold, chosen, rule, Reads, is_token, is_nothing, is_pair, is_left, is_right, is_stop, is_turn, is_fold, is_chosen, is_rule}
use Rattle.pr_forms.specs.Form.{Begins, at_start, at_whole, in_first, in_second, in_left, in_right, in_turn, after_turn, in_base, after_base, in_chosen, in_rule, IsFirstBad}
use Rattle.pr_forms.specs.Table.{Table, empty_of, starts_of, more_of, is_next, negation, parts_at, is_solid, Binds, Decides, IsDecided}
use Rattle.pr_forms.specs.Run.{ReaderOutcome, good, bad, left_of, Runs, run_token, run_other, run_end, run_nothing, run_pair, run_first, run_second, run_left, run_right, run_stop, run_turn, run_in_turn, run_fold, run_base, run_chosen, run_chosen_bad, run_unchosen, run_chosen_end, run_rule}
use Rattle.pr_forms.specs.Reading.{EndsIn, after_part, Ends}
use Rattle.pr_forms.specs.Within.{Embedding, on_option, join_inner, lifted, within, Holds, HoldsTable, IsWithin}
use Rattle.pr_forms.specs.Language.{Language, Gives}
use Rattle.pr_forms.proofs.Sound.{meets, reads as reads_of, begins as begins_of}
use Rattle.pr_forms.proofs.Places.{run_place, one_place}
use Rattle.pr_forms.proofs.Ending.{rule_answered}
use Rattle.pr_forms.proofs.Suffixes.{Suffix, here, there, reads_suffix, begins_suffix}

some_within : {X Y : Type 0} (f : X → Y) (o : Option X) → is_some (on_option f o) ≡ is_some o
some_within f None = refl
some_within f (Some x) = refl

option_within : {X Y : Type 0} (f : X → Y) (o : Option X) (x : X) → o ≡ Some x → on_option f o ≡ Some (f x)
option_within f o x e = ap (on_option f) e

none_within : {X Y : Type 0} (f : X → Y) (o : Option X) → o ≡ None → on_option f o ≡ None
none_within f o e = ap (on_option f) e

both_or : {a b c d : Bool} → a ≡ c → b ≡ d → (a || b) ≡ (c || d)
both_or e h = rw (e, h) refl

both_and : {a b c d : Bool} → a ≡ c → b ≡ d → (a && b) ≡ (c && d)
both_and e h = rw (e, h) refl

module _ {T N V U M W : Type 0} (p : Embedding T N V U M W) (S : Table T N) (Z : Table U M) (tables : HoldsTable p S Z) where
  pub empty_within : (f : Form T N V) → empty_of Z (within p f) ≡ empty_of S f
  empty_within (token g) = refl
  empty_within (nothing v) = refl
  empty_within (pair c f g) = both_and (empty_within f) (empty_within g)
  empty_within (either f g) = both_or (empty_within f) (empty_within g)
  empty_within (turns c v g) = refl
  empty_within (fold c f g) = empty_within f
  empty_within (chosen q m) = refl
  empty_within (rule n) = tables.empty n

  pub starts_within : (f : Form T N V) (t : U) → starts_of Z (within p f) t ≡ starts_of S f (p.token_of t)
  starts_within (token g) t = some_within p.value_of (g (p.token_of t))
  starts_within (nothing v) t = refl
  starts_within (pair c f g) t = both_or (starts_within f t) (both_and (empty_within f) (starts_within g t))
  starts_within (either f g) t = both_or (starts_within f t) (starts_within g t)
  starts_within (turns c v g) t = starts_within g t
  starts_within (fold c f g) t = both_or (starts_within f t) (both_and (empty_within f) (starts_within g t))
  starts_within (chosen q m) t = some_within p.rule_of (q (p.token_of t))
  starts_within (rule n) t = tables.starts n t

  pub more_within : (f : Form T N V) (t : U) → more_of Z (within p f) t ≡ more_of S f (p.token_of t)
  more_within (token g) t = refl
  more_within (nothing v) t = refl
  more_within (pair c f g) t = both_or (more_within g t) (both_and (empty_within g) (both_or (more_within f t) (starts_within g t)))
  more_within (either f g) t = both_or (more_within f t) (both_or (more_within g t) (both_or (both_and (empty_within f) (starts_within g t)) (both_and (empty_within g) (starts_within f t))))
  more_within (turns c v g) t = both_or (starts_within g t) (more_within g t)
  more_within (fold c f g) t = both_or (more_within f t) (both_or (starts_within g t) (more_within g t))
  more_within (chosen q m) t = refl
  more_within (rule n) t = tables.more n t

  apart_within : (a b c d : Bool) → a ≡ c → b ≡ d → negation (a && b) ≡ negation (c && d)
  apart_within a b c d e h = ap negation (both_and e h)

  pub parts_within : (f : Form T N V) (t : U) → parts_at Z (within p f) t ≡ parts_at S f (p.token_of t)
  parts_within (token g) t = refl
  parts_within (nothing v) t = refl
  parts_within (pair c f g) t = both_and (parts_within f t) (both_and (parts_within g t) (apart_within _ _ _ _ (more_within f t) (starts_within g t)))
  parts_within (either f g) t = both_and (parts_within f t) (both_and (parts_within g t) (apart_within _ _ _ _ (starts_within f t) (starts_within g t)))
  parts_within (turns c v g) t = both_and (parts_within g t) (apart_within _ _ _ _ (more_within g t) (starts_within g t))
  parts_within (fold c f g) t = both_and (parts_within f t)
      (both_and (both_and (parts_within g t) (apart_within _ _ _ _ (more_within g t) (starts_within g t))) (apart_within _ _ _ _ (more_within f t) (starts_within g t)))
  parts_within (chosen q m) t = refl
  parts_within (rule n) t = refl

  pub solid_within : (f : Form T N V) → is_solid Z (within p f) ≡ is_solid S f
  solid_within (token g) = refl
  solid_within (nothing v) = refl
  solid_within (pair c f g) = both_and (solid_within f) (solid_within g)
  solid_within (either f g) = both_and (ap negation (empty_within f)) (both_and (solid_within f) (solid_within g))
  solid_within (turns c v g) = both_and (ap negation (empty_within g)) (solid_within g)
  solid_within (fold c f g) = both_and (solid_within f) (both_and (ap negation (empty_within g)) (solid_within g))
  solid_within (chosen q m) = refl
  solid_within (rule n) = refl

  chosen_binds : (o : Option N) (m : T → Bool) (k : M) (u : U) → ((n : N) → o ≡ Some n → S.more n (p.token_of u) ≡ true → m (p.token_of u) ≡ true) → on_option p.rule_of o ≡ Some k → Z.more k u ≡ true → m (p.token_of u) ≡ true
  chosen_binds None m k u h e i = cc
  chosen_binds (Some n) m k u h e i = let same : k ≡ p.rule_of n = cc in h n refl (sym (tables.more n u) ∙ ap (λ x. Z.more x u) (sym same) ∙ i)

  pub binds_within : (f : Form T N V) → Binds S f → Binds Z (within p f)
  binds_within (token g) b = tt
  binds_within (nothing v) b = tt
  binds_within (pair c f g) b = (binds_within f b.0, binds_within g b.1)
  binds_within (either f g) b = (binds_within f b.0, binds_within g b.1)
  binds_within (turns c v g) b = binds_within g b
  binds_within (fold c f g) b = (binds_within f b.0, binds_within g b.1)
  binds_within (chosen q m) b = λ t k u e h. chosen_binds (q (p.token_of t)) m k u (λ n i j. b (p.token_of t) n (p.token_of u) i j) e h
  binds_within (rule n) b = tt

  pub decides_within : (f : Form T N V) → Decides S f → Decides Z (within p f)
  decides_within f d = record { at = λ t. parts_within f t ∙ d.at (p.token_of t); solid = solid_within f ∙ d.solid; binds = binds_within f d.binds }

  next_within : (f : Form T N V) (us : List U) (b : Bool) (ts : List T) → map p.token_of us ≡ ts → is_next S f ts ≡ b → is_next Z (within p f) us ≡ b
  next_within f [] b ts h e = let same : ts ≡ [] = sym h in rw (sym (ap (is_next S f) same) ∙ e) refl
  next_within f (u ∷ us) b ts h e = starts_within f u ∙ (ap (is_next S f) h ∙ e)

  -- and it ends as it ends alone
  module _ (rank : N → ℕ) (other : M → ℕ) (limit : ℕ) (same_rank : (n : N) → other (p.rule_of n) ≡ rank n) where
    picks_within : (t : T) (b : ℕ) (x : Option N) (m : M) → ((n : N) → x ≡ Some n → (S.empty n ≡ false) × (nat_le (rank n) b ≡ true)) →
        on_option p.rule_of x ≡ Some m → (Z.empty m ≡ false) × (nat_le (other m) b ≡ true)
    picks_within t b None m h e = absurd (cc)
    picks_within t b (Some n) m h e =
        let same : p.rule_of n ≡ m = cc in
        let k = h n refl in
        subst (λ x. (Z.empty x ≡ false) × (nat_le (other x) b ≡ true)) same (tables.empty n ∙ k.0, ap (λ r. nat_le r b) (same_rank n) ∙ k.1)

    parts_left : (b : ℕ) (x y : Bool) (f : Form T N V) → x ≡ y → EndsIn Z other limit (after_part y limit b) (within p f) → EndsIn Z other limit (after_part x limit b) (within p f)
    parts_left b x y f e h = subst (λ z. EndsIn Z other limit (after_part z limit b) (within p f)) (sym e) h

    turns_left : (b : ℕ) (x y : Bool) (f : Form T N V) → x ≡ y → EndsIn Z other limit (pred (after_part y limit b)) (within p f) → EndsIn Z other limit (pred (after_part x limit b)) (within p f)
    turns_left b x y f e h = subst (λ z. EndsIn Z other limit (pred (after_part z limit b)) (within p f)) (sym e) h

    pub ends_within : (b : ℕ) (f : Form T N V) → EndsIn S rank limit b f → EndsIn Z other limit b (within p f)
    ends_within zero f h = absurd h
    ends_within (suc b) (token g) h = tt
    ends_within (suc b) (nothing v) h = tt
    ends_within (suc b) (pair c f g) h = (ends_within b f h.0, parts_left b (empty_of Z (within p f)) (empty_of S f) g (empty_within f) (ends_within (after_part (empty_of S f) limit b) g h.1))
    ends_within (suc b) (either f g) h = (ends_within b f h.0, ends_within b g h.1)
    ends_within (suc b) (turns c v g) h = ends_within b g h
    ends_within (suc b) (fold c f g) h = (ends_within b f h.0, turns_left b (empty_of Z (within p f)) (empty_of S f) g (empty_within f) (ends_within (pred (after_part (empty_of S f) limit b)) g h.1))
    ends_within (suc b) (chosen q m) h = λ t k e. picks_within (p.token_of t) b (q (p.token_of t)) k (h (p.token_of t)) e
    ends_within (suc b) (rule n) h = ap (λ r. nat_le r b) (same_rank n) ∙ h

-- What the grammar does with what it sees of the other's tokens, the other one does with them.
module _ {T N V U M W : Type 0} (p : Embedding T N V U M W) (G : N → Form T N V) (H : M → Form U M W) (holds : Holds p G H) where
  joins : (c : V → V → V) (v w : V) → lifted p c (p.value_of v) (p.value_of w) ≡ p.value_of (c v w)
  joins c v w = ap (λ o. join_inner p.value_of p.mark_of c o (p.inner (p.value_of w))) (holds.values v) ∙ ap (λ o. join_inner p.value_of p.mark_of c (Some v) o) (holds.values w)

  left_below : (u : U) (us rest : List U) (t : T) (ts mid : List T) → map p.token_of (u ∷ us) ≡ t ∷ ts → map p.token_of rest ≡ mid → length mid ≤ length ts → length rest ≤ length us
  left_below u us rest t ts mid h e l = omega (arith, ap length h, ap length e, length-map us p.token_of, length-map rest p.token_of)

  -- a reading there, with what is left
  pub record ReadWithin (f : Form T N V) (us : List U) (v : V) (mid : List T) : Type 0 where
    pub rest : List U
    pub is : map p.token_of rest ≡ mid
    pub reads : Reads H (within p f) us (p.value_of v) rest

  pub reads_within : {f : Form T N V} {ts mid : List T} {v : V} → Reads G f ts v mid → (us : List U) → map p.token_of us ≡ ts → ReadWithin f us v mid
  reads_within (is_token e) [] h = absurd (cc)
  reads_within (is_token {p = q} {t = t} {v = v} e) (u ∷ us) h =
      let head : p.token_of u ≡ t = cc in
      record { rest = us; is = cc; reads = is_token (option_within p.value_of (q (p.token_of u)) v (ap q head ∙ e)) }
  reads_within is_nothing us h = record { rest = us; is = h; reads = is_nothing }
  reads_within (is_pair {c = c} {f = f} {g = g} {v = v} {w = w} x y) us h =
      let a = reads_within x us h in
      let b = reads_within y a.rest a.is in
      record { rest = b.rest; is = b.is; reads = subst (λ z. Reads H (pair (lifted p c) (within p f) (within p g)) us z b.rest) (joins c v w) (is_pair a.reads b.reads) }
  reads_within (is_left x) us h = let a = reads_within x us h in record { rest = a.rest; is = a.is; reads = is_left a.reads }
  reads_within (is_right x) us h = let a = reads_within x us h in record { rest = a.rest; is = a.is; reads = is_right a.reads }
  reads_within is_stop us h = record { rest = us; is = h; reads = is_stop }
  reads_within (is_turn {c = c} {g = g} {v = v} {w = w} {x = z} x y) us h =
      let a = reads_within x us h in
      let b = reads_within y a.rest a.is in
      record { rest = b.rest; is = b.is; reads = is_turn a.reads (subst (λ s. Reads H (turns (lifted p c) s (within p g)) a.rest (p.value_of z) b.rest) (sym (joins c v w)) b.reads) }
  reads_within (is_fold x y) us h =
      let a = reads_within x us h in
      let b = reads_within y a.rest a.is in
      record { rest = b.rest; is = b.is; reads = is_fold a.reads b.reads }
  reads_within (is_chosen e l x) [] h = absurd (cc)
  reads_within (is_chosen {q = q} {t = t} {n = n} {ts = ts} {rest = mid} {v = v} e l x) (u ∷ us) h =
      let head : p.token_of u ≡ t = cc in
      let a = reads_within x (u ∷ us) h in
      record {
        rest = a.rest;
        is = a.is;
        reads = is_chosen (option_within p.rule_of (q (p.token_of u)) n (ap q head ∙ e)) (left_below u us a.rest t ts mid h a.is l)
            (subst (λ f. Reads H f (u ∷ us) (p.value_of v) a.rest) (sym (holds.forms n)) a.reads);
      }
  reads_within (is_rule {n = n} {v = v} x) us h =
      let a = reads_within x us h in
      record { rest = a.rest; is = a.is; reads = is_rule (subst (λ f. Reads H f us (p.value_of v) a.rest) (sym (holds.forms n)) a.reads) }

  -- a beginning there, with what is left
  pub record BegunWithin (f : Form T N V) (us : List U) (mid : List T) : Type 0 where
    pub rest : List U
    pub is : map p.token_of rest ≡ mid
    pub begins : Begins H (within p f) us rest

  pub begins_within : {f : Form T N V} {ts mid : List T} → Begins G f ts mid → (us : List U) → map p.token_of us ≡ ts → BegunWithin f us mid
  begins_within at_start us h = record { rest = us; is = h; begins = at_start }
  begins_within (at_whole x) us h = let a = reads_within x us h in record { rest = a.rest; is = a.is; begins = at_whole a.reads }
  begins_within (in_first x) us h = let a = begins_within x us h in record { rest = a.rest; is = a.is; begins = in_first a.begins }
  begins_within (in_second x y) us h =
      let a = reads_within x us h in
      let b = begins_within y a.rest a.is in
      record { rest = b.rest; is = b.is; begins = in_second a.reads b.begins }
  begins_within (in_left x) us h = let a = begins_within x us h in record { rest = a.rest; is = a.is; begins = in_left a.begins }
  begins_within (in_right x) us h = let a = begins_within x us h in record { rest = a.rest; is = a.is; begins = in_right a.begins }
  begins_within (in_turn x) us h = let a = begins_within x us h in record { rest = a.rest; is = a.is; begins = in_turn a.begins }
  begins_within (after_turn {c = c} {g = g} {v = v} {w = w} x y) us h =
      let a = reads_within x us h in
      let b = begins_within y a.rest a.is in
      record { rest = b.rest; is = b.is; begins = after_turn a.reads (subst (λ s. Begins H (turns (lifted p c) s (within p g)) a.rest b.rest) (sym (joins c v w)) b.begins) }
  begins_within (in_base x) us h = let a = begins_within x us h in record { rest = a.rest; is = a.is; begins = in_base a.begins }
  begins_within (after_base x y) us h =
      let a = reads_within x us h in
      let b = begins_within y a.rest a.is in
      record { rest = b.rest; is = b.is; begins = after_base a.reads b.begins }
  begins_within (in_chosen e x) [] h = absurd (cc)
  begins_within (in_chosen {q = q} {t = t} {n = n} e x) (u ∷ us) h =
      let head : p.token_of u ≡ t = cc in
      let a = begins_within x (u ∷ us) h in
      record { rest = a.rest; is = a.is; begins = in_chosen (option_within p.rule_of (q (p.token_of u)) n (ap q head ∙ e)) (subst (λ f. Begins H f (u ∷ us) a.rest) (sym (holds.forms n)) a.begins) }
  begins_within (in_rule {n = n} x) us h =
      let a = begins_within x us h in
      record { rest = a.rest; is = a.is; begins = in_rule (subst (λ f. Begins H f us a.rest) (sym (holds.forms n)) a.begins) }

  module _ (S : Table T N) (Z : Table U M) (tables : HoldsTable p S Z) where
    -- a run there, with what is left
    pub record GoodWithin (f : Form T N V) (us : List U) (v : V) (mid : List T) : Type 0 where
      pub rest : List U
      pub is : map p.token_of rest ≡ mid
      pub runs : Runs H Z (within p f) us (good (p.value_of v) rest)

    pub record BadWithin (f : Form T N V) (us : List U) (mid : List T) : Type 0 where
      pub rest : List U
      pub is : map p.token_of rest ≡ mid
      pub runs : Runs H Z (within p f) us (bad rest)

    abbrev pub RunWithin : Form T N V → List U → ReaderOutcome T V → Type 0
    RunWithin f us (good v mid) = GoodWithin f us v mid
    RunWithin f us (bad mid) = BadWithin f us mid

    lift : (f g : Form T N V) (us vs : List U) (o : ReaderOutcome T V) → ((x : ReaderOutcome U W) → Runs H Z (within p f) us x → Runs H Z (within p g) vs x) → RunWithin f us o → RunWithin g vs o
    lift f g us vs (good v mid) k h = record { rest = h.rest; is = h.is; runs = k _ h.runs }
    lift f g us vs (bad mid) k h = record { rest = h.rest; is = h.is; runs = k _ h.runs }

    next : (f : Form T N V) (us : List U) (b : Bool) (ts : List T) → map p.token_of us ≡ ts → is_next S f ts ≡ b → is_next Z (within p f) us ≡ b
    next f us b ts h e = next_within p S Z tables f us b ts h e

    pub runs_within : {f : Form T N V} {ts : List T} {o : ReaderOutcome T V} → Runs G S f ts o → (us : List U) → map p.token_of us ≡ ts → RunWithin f us o
    runs_within (run_token e) [] h = absurd (cc)
    runs_within (run_token {p = q} {t = t} {v = v} e) (u ∷ us) h =
        let head : p.token_of u ≡ t = cc in
        record { rest = us; is = cc; runs = run_token (option_within p.value_of (q (p.token_of u)) v (ap q head ∙ e)) }
    runs_within (run_other e) [] h = absurd (cc)
    runs_within (run_other {p = q} {t = t} e) (u ∷ us) h =
        let head : p.token_of u ≡ t = cc in
        record { rest = u ∷ us; is = h; runs = run_other (none_within p.value_of (q (p.token_of u)) (ap q head ∙ e)) }
    runs_within run_end [] h = record { rest = []; is = refl; runs = run_end }
    runs_within run_end (u ∷ us) h = absurd (cc)
    runs_within run_nothing us h = record { rest = us; is = h; runs = run_nothing }
    runs_within (run_pair {c = c} {f = f} {g = g} {v = v} {w = w} x y) us h =
        let a = runs_within x us h in
        let b = runs_within y a.rest a.is in
        record { rest = b.rest; is = b.is; runs = subst (λ z. Runs H Z (pair (lifted p c) (within p f) (within p g)) us (good z b.rest)) (joins c v w) (run_pair a.runs b.runs) }
    runs_within (run_first x) us h = let a = runs_within x us h in record { rest = a.rest; is = a.is; runs = run_first a.runs }
    runs_within (run_second x y) us h =
        let a = runs_within x us h in
        let b = runs_within y a.rest a.is in
        record { rest = b.rest; is = b.is; runs = run_second a.runs b.runs }
    runs_within (run_left {f = f} {g = g} {ts = ts} {o = o} e x) us h = lift f (either f g) us us o (λ z k. run_left (next f us true ts h e) k) (runs_within x us h)
    runs_within (run_right {f = f} {g = g} {ts = ts} {o = o} e x) us h = lift g (either f g) us us o (λ z k. run_right (next f us false ts h e) k) (runs_within x us h)
    runs_within (run_stop {g = g} {ts = ts} e) us h = record { rest = us; is = h; runs = run_stop (next g us false ts h e) }
    runs_within (run_turn {c = c} {g = g} {ts = ts} {v = v} {w = w} {o = o} e x y) us h =
        let a = runs_within x us h in
        lift (turns c (c v w) g) (turns c v g) a.rest us o
        (λ z k. run_turn (next g us true ts h e) a.runs (subst (λ s. Runs H Z (turns (lifted p c) s (within p g)) a.rest z) (sym (joins c v w)) k)) (runs_within y a.rest a.is)
    runs_within (run_in_turn {g = g} {ts = ts} e x) us h = let a = runs_within x us h in record { rest = a.rest; is = a.is; runs = run_in_turn (next g us true ts h e) a.runs }
    runs_within (run_fold {c = c} {f = f} {g = g} {v = v} {o = o} x y) us h =
        let a = runs_within x us h in
        lift (turns c v g) (fold c f g) a.rest us o (λ z k. run_fold a.runs k) (runs_within y a.rest a.is)
    runs_within (run_base x) us h = let a = runs_within x us h in record { rest = a.rest; is = a.is; runs = run_base a.runs }
    runs_within (run_chosen e l x) [] h = absurd (cc)
    runs_within (run_chosen {q = q} {t = t} {n = n} {ts = ts} {rest = mid} {v = v} e l x) (u ∷ us) h =
        let head : p.token_of u ≡ t = cc in
        let a = runs_within x (u ∷ us) h in
        record {
          rest = a.rest;
          is = a.is;
          runs = run_chosen (option_within p.rule_of (q (p.token_of u)) n (ap q head ∙ e)) (left_below u us a.rest t ts mid h a.is l)
              (subst (λ f. Runs H Z f (u ∷ us) (good (p.value_of v) a.rest)) (sym (holds.forms n)) a.runs);
        }
    runs_within (run_chosen_bad e x) [] h = absurd (cc)
    runs_within (run_chosen_bad {q = q} {t = t} {n = n} e x) (u ∷ us) h =
        let head : p.token_of u ≡ t = cc in
        let a = runs_within x (u ∷ us) h in
        record { rest = a.rest; is = a.is; runs = run_chosen_bad (option_within p.rule_of (q (p.token_of u)) n (ap q head ∙ e)) (subst (λ f. Runs H Z f (u ∷ us) (bad a.rest)) (sym (holds.forms n)) a.runs) }
    runs_within (run_unchosen e) [] h = absurd (cc)
    runs_within (run_unchosen {q = q} {t = t} e) (u ∷ us) h =
        let head : p.token_of u ≡ t = cc in
        record { rest = u ∷ us; is = h; runs = run_unchosen (none_within p.rule_of (q (p.token_of u)) (ap q head ∙ e)) }
    runs_within run_chosen_end [] h = record { rest = []; is = refl; runs = run_chosen_end }
    runs_within run_chosen_end (u ∷ us) h = absurd (cc)
    runs_within (run_rule {n = n} {o = o} x) us h = lift (G n) (rule n) us us o (λ z k. run_rule (subst (λ f. Runs H Z f us z) (sym (holds.forms n)) k)) (runs_within x us h)

    -- the first bad place is the same one
    module _ (known : IsDecided G S) (there_known : IsDecided H Z) where
      same_place : (us : List U) (o : ReaderOutcome T V) (rest : List U) (n : N) (x : ReaderOutcome U W) (k : ℕ) → Runs G S (rule n) (map p.token_of us) o → map p.token_of rest ≡ left_of o →
          Runs H Z (rule (p.rule_of n)) us x → left_of x ≡ rest → IsFirstBad G (rule n) (map p.token_of us) k → IsFirstBad H (rule (p.rule_of n)) us k
      same_place us o rest n x k q e r i b =
          let at : k ≡ length (map p.token_of us) - length (left_of o) = one_place G (rule n) (map p.token_of us) k _ b (run_place G S known n _ o q) in
          let is : length us - length (left_of x) ≡ k = omega (arith, at, ap length e, ap length i, length-map us p.token_of, length-map rest p.token_of) in
          subst (λ j. IsFirstBad H (rule (p.rule_of n)) us j) is (run_place H Z there_known (p.rule_of n) us x r)

      place_from : (us : List U) (n : N) (o : ReaderOutcome T V) (k : ℕ) → Runs G S (rule n) (map p.token_of us) o → IsFirstBad G (rule n) (map p.token_of us) k → IsFirstBad H (rule (p.rule_of n)) us k
      place_from us n (good v mid) k q b = let a = runs_within q us refl in same_place us (good v mid) a.rest n _ k q a.is a.runs refl b
      place_from us n (bad mid) k q b = let a = runs_within q us refl in same_place us (bad mid) a.rest n _ k q a.is a.runs refl b

      pub place_within : (rank : N → ℕ) (limit : ℕ) → Ends G S rank limit → (us : List U) (n : N) (k : ℕ) → IsFirstBad G (rule n) (map p.token_of us) k → IsFirstBad H (rule (p.rule_of n)) us k
      place_within rank limit ends us n k b = let r = rule_answered G S known rank limit ends n (map p.token_of us) in place_from us n r.outcome k r.runs b

-- What stands before the end of some of the code's tokens, as a language sees them, is those tokens
-- as it sees them.
suffix_seen : {A U : Type 0} (see : A → U) {r us : List U} → Suffix r us → (ts : List A) → map see ts ≡ us → (xs : List A) × (map see xs ≡ r)
suffix_seen see here ts e = (ts, e)
suffix_seen see (there h) [] e = absurd (cc)
suffix_seen see (there h) (a ∷ ts) e = suffix_seen see h ts (cc)

seen_back : {A T : Type 0} (see : A → T) (back : T → A) → ((a : A) → back (see a) ≡ a) → (xs : List A) → map back (map see xs) ≡ xs
seen_back see back h [] = refl
seen_back see back h (x ∷ xs) = let e = h x in let k = seen_back see back h xs in cc

-- A language within another one over the same code's tokens.
module _ {A T N V U M W : Type 0} {p : Embedding T N V U M W} {L : Language A T N V} {K : Language A U M W} (is : IsWithin p L K) where
  seen_same : (ts : List A) → map p.token_of (map K.see ts) ≡ map L.see ts
  seen_same [] = refl
  seen_same (t ∷ ts) = let e = is.sees t in let k = seen_same ts in cc

  rest_same : (xs rest : List A) (us : List U) → map K.see xs ≡ us → map p.token_of us ≡ map L.see rest → us ≡ map K.see rest
  rest_same xs rest us e h =
      let both : map L.see xs ≡ map L.see rest = sym (seen_same xs) ∙ (ap (map p.token_of) e ∙ h) in
      let same : xs ≡ rest = sym (seen_back L.see is.back is.is_back xs) ∙ (ap (map is.back) both ∙ seen_back L.see is.back is.is_back rest) in
      sym e ∙ ap (map K.see) same

  -- its readers do there what they do alone
  pub gives_good : {f : Form T N V} (ts rest : List A) {v : V} → Gives L f ts (good v (map L.see rest)) → Gives K (within p f) ts (good (p.value_of v) (map K.see rest))
  gives_good {f = f} ts rest {v = v} q =
      let a = runs_within p L.production K.production is.grammar L.table K.table is.table q (map K.see ts) (seen_same ts) in
      let x = suffix_seen K.see (reads_suffix (reads_of (meets a.runs))) ts refl in
      subst (λ r. Gives K (within p f) ts (good (p.value_of v) r)) (rest_same x.0 rest a.rest x.1 a.is) a.runs

  pub gives_bad : {f : Form T N V} (ts rest : List A) → Gives L f ts (bad (map L.see rest)) → Gives K (within p f) ts (bad (map K.see rest))
  gives_bad {f = f} ts rest q =
      let a = runs_within p L.production K.production is.grammar L.table K.table is.table q (map K.see ts) (seen_same ts) in
      let x = suffix_seen K.see (begins_suffix (begins_of (meets a.runs))) ts refl in
      subst (λ r. Gives K (within p f) ts (bad r)) (rest_same x.0 rest a.rest x.1 a.is) a.runs

  -- and what it reads alone is read there
  pub reads_good : {f : Form T N V} (ts rest : List A) {v : V} → Reads L.production f (map L.see ts) v (map L.see rest) → Reads K.production (within p f) (map K.see ts) (p.value_of v) (map K.see rest)
  reads_good {f = f} ts rest {v = v} d =
      let a = reads_within p L.production K.production is.grammar d (map K.see ts) (seen_same ts) in
      let x = suffix_seen K.see (reads_suffix a.reads) ts refl in
      subst (λ r. Reads K.production (within p f) (map K.see ts) (p.value_of v) r) (rest_same x.0 rest a.rest x.1 a.is) a.reads

  pub begins_good : {f : Form T N V} (ts rest : List A) → Begins L.production f (map L.see ts) (map L.see rest) → Begins K.production (within p f) (map K.see ts) (map K.see rest)
  begins_good {f = f} ts rest b =
      let a = begins_within p L.production K.production is.grammar b (map K.see ts) (seen_same ts) in
      let x = suffix_seen K.see (begins_suffix a.begins) ts refl in
      subst (λ r. Begins K.production (within p f) (map K.see ts) r) (rest_same x.0 rest a.rest x.1 a.is) a.begins
