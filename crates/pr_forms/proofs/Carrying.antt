-- The ways of a reader after which the rest decides. Each says what becomes of the rest's value.
use Rattle.std.proofs.Common.{◌≡◌, List, Option, true, false, refl, sym, subst, Result, Ok, Err}
use Rattle.std.specs.Result.{MatchResult, IsErrAnd}
use Rattle.pr_forms.specs.Form.{Form, token, pair, either, turns, fold, rule}
use Rattle.pr_forms.specs.Table.{Table, is_next}
use Rattle.pr_forms.specs.Run.{Runs, ReaderOutcome, good, bad, run_pair, run_second, run_left, run_right, run_turn, run_in_turn, run_stop, run_fold, run_rule, Takes, Lacks}
use Rattle.pr_forms.specs.Reader.{FailsBy}
use Rattle.pr_forms.specs.Carries.{Carries}
use Rattle.pr_forms.specs.declared.reader.Fault.{Fault}
use Rattle.pr_forms.specs.declared.reader.Fault.TheVariants.{Bad, Memory}
use Rattle.pr_forms.proofs.Steps.{next_pair}

module _ {T N V : Type 0} {G : N → Form T N V} {S : Table T N} where
  -- where the value stays, an outcome is the same one
  pub leading : {f g : Form T N V} {ts rest : List T} → ((o : ReaderOutcome T V) → Runs G S g rest o → Runs G S f ts o) → Carries G S f ts (λ v. v) g rest (λ v. v)
  leading h = record { reads = λ v end k. h (good v end) k; fails = λ end k. h (bad end) k }

  pub led : {f g : Form T N V} {ts rest : List T} {o : ReaderOutcome T V} → Carries G S f ts (λ v. v) g rest (λ v. v) → Runs G S g rest o → Runs G S f ts o
  led {o = good v end} h k = h.reads v end k
  led {o = bad end} h k = h.fails end k

  -- nothing has been read yet
  pub carry_start : {f : Form T N V} {ts : List T} → Carries G S f ts (λ v. v) f ts (λ v. v)
  carry_start = record { reads = λ v end k. k; fails = λ end k. k }

  -- one part after another
  pub carry_on : {X : Type 0} {f g h : Form T N V} {ts mid rest : List T} {made : V → V} {next given : X → V} →
      Carries G S f ts made g mid (λ v. v) → Carries G S g mid next h rest given → Carries G S f ts (λ x. made (next x)) h rest given
  carry_on {next = next} a b = record { reads = λ x end k. a.reads (next x) end (b.reads x end k); fails = λ end k. a.fails end (b.fails end k) }

  -- the same where the value between is made of something
  pub carry_with : {X Y : Type 0} {f g h : Form T N V} {ts mid rest : List T} {made between : Y → V} {given : X → V} (next : X → Y) →
      Carries G S f ts made g mid between → Carries G S g mid (λ x. between (next x)) h rest given → Carries G S f ts (λ x. made (next x)) h rest given
  carry_with next a b = record { reads = λ x end k. a.reads (next x) end (b.reads x end k); fails = λ end k. a.fails end (b.fails end k) }

  -- the same with values that are equal
  pub carry_made : {X : Type 0} {f g : Form T N V} {ts rest : List T} {made other given : X → V} → ((x : X) → made x ≡ other x) → Carries G S f ts made g rest given → Carries G S f ts other g rest given
  carry_made {f = f} {ts = ts} e h = record { reads = λ x end k. subst (λ v. Runs G S f ts (good v end)) (e x) (h.reads x end k); fails = h.fails }

  -- of what some given values are made of, others may be made
  pub carry_of : {X Y : Type 0} {f g : Form T N V} {ts rest : List T} {made given : Y → V} (of : X → Y) → Carries G S f ts made g rest given → Carries G S f ts (λ x. made (of x)) g rest (λ x. given (of x))
  carry_of of h = record { reads = λ x end k. h.reads (of x) end k; fails = h.fails }

  -- a rule, the second part of a sequence, a side of a choice, turns after their base, and the
  -- turns after one
  pub carry_rule : {n : N} {ts : List T} → Carries G S (rule n) ts (λ v. v) (G n) ts (λ v. v)
  carry_rule = record { reads = λ v end k. run_rule k; fails = λ end k. run_rule k }

  pub carry_second : {c : V → V → V} {f g : Form T N V} {ts mid : List T} {v : V} → Runs G S f ts (good v mid) → Carries G S (pair c f g) ts (c v) g mid (λ w. w)
  carry_second h = record { reads = λ w end k. run_pair h k; fails = λ end k. run_second h k }

  pub carry_left : {f g : Form T N V} {ts : List T} → is_next S f ts ≡ true → Carries G S (either f g) ts (λ v. v) f ts (λ v. v)
  carry_left e = record { reads = λ v end k. run_left e k; fails = λ end k. run_left e k }

  pub carry_right : {f g : Form T N V} {ts : List T} → is_next S f ts ≡ false → Carries G S (either f g) ts (λ v. v) g ts (λ v. v)
  carry_right e = record { reads = λ v end k. run_right e k; fails = λ end k. run_right e k }

  pub carry_base : {c : V → V → V} {f g : Form T N V} {ts mid : List T} {v : V} → Runs G S f ts (good v mid) → Carries G S (fold c f g) ts (λ w. w) (turns c v g) mid (λ w. w)
  carry_base h = record { reads = λ w end k. run_fold h k; fails = λ end k. run_fold h k }

  pub carry_turn : {c : V → V → V} {g : Form T N V} {ts mid : List T} {v w : V} → is_next S g ts ≡ true → Runs G S g ts (good w mid) →
      Carries G S (turns c v g) ts (λ x. x) (turns c (c v w) g) mid (λ x. x)
  carry_turn e h = record { reads = λ x end k. run_turn e h k; fails = λ end k. run_turn e h k }

  -- a side that begins with a token, and the other side
  pub carry_side : {c : V → V → V} {p : T → Option V} {f g : Form T N V} {ts mid : List T} {v : V} →
      Takes G S (token p) ts v mid → Carries G S (either (pair c (token p) f) g) ts (c v) f mid (λ w. w)
  carry_side {c} {p} {f} {ts = ts} h = carry_on (carry_left (next_pair S c (token p) f ts true refl h.next)) (carry_second h.gives)

  pub carry_other : {c : V → V → V} {p : T → Option V} {f g : Form T N V} {ts : List T} →
      Lacks G S (token p) ts → Carries G S (either (pair c (token p) f) g) ts (λ w. w) g ts (λ w. w)
  carry_other {c} {p} {f} {ts = ts} h = carry_right (next_pair S c (token p) f ts false refl h.next)

  -- a loop over turns that each begin with a token: its start, a turn, a turn that fails, and its
  -- end
  pub turns_begin : {c : V → V → V} {n : N} {f g : Form T N V} {ts mid : List T} {v : V} → Runs G S f ts (good v mid) → G n ≡ fold c f g → Carries G S (rule n) ts (λ w. w) (turns c v g) mid (λ w. w)
  turns_begin {n = n} {ts = ts} h e = leading (λ o k. run_rule (subst (λ form. Runs G S form ts o) (sym e) (run_fold h k)))

  pub turns_go_on : {c d : V → V → V} {v w x : V} {p : T → Option V} {f g : Form T N V} {ts at mid rest : List T} →
      Carries G S f ts (λ y. y) (turns c v (pair d (token p) g)) at (λ y. y) → Takes G S (token p) at w mid → Runs G S g mid (good x rest) →
      Carries G S f ts (λ y. y) (turns c (c v (d w x)) (pair d (token p) g)) rest (λ y. y)
  turns_go_on {d = d} {p = p} {g = g} {at = at} l h k = carry_on l (carry_turn (next_pair S d (token p) g at true refl h.next) (run_pair h.gives k))

  pub turn_fails : {c d : V → V → V} {v w : V} {p : T → Option V} {f g : Form T N V} {ts at mid rest : List T} →
      Carries G S f ts (λ y. y) (turns c v (pair d (token p) g)) at (λ y. y) → Takes G S (token p) at w mid → Runs G S g mid (bad rest) → Runs G S f ts (bad rest)
  turn_fails {d = d} {p = p} {g = g} {at = at} l h k = l.fails _ (run_in_turn (next_pair S d (token p) g at true refl h.next) (run_second h.gives k))

  pub turns_end : {c d : V → V → V} {v : V} {p : T → Option V} {f g : Form T N V} {ts at : List T} →
      Carries G S f ts (λ y. y) (turns c v (pair d (token p) g)) at (λ y. y) → Lacks G S (token p) at → Runs G S f ts (good v at)
  turns_end {d = d} {p = p} {g = g} {at = at} l h = l.reads _ _ (run_stop (next_pair S d (token p) g at false refl h.next))

  -- the same for turns of any form, and for those that are one token
  pub turn_taken : {c : V → V → V} {v w : V} {f g : Form T N V} {ts at rest : List T} →
      Carries G S f ts (λ y. y) (turns c v g) at (λ y. y) → Takes G S g at w rest → Carries G S f ts (λ y. y) (turns c (c v w) g) rest (λ y. y)
  turn_taken l h = carry_on l (carry_turn h.next h.gives)

  pub turns_over : {c : V → V → V} {v : V} {f g : Form T N V} {ts at : List T} →
      Carries G S f ts (λ y. y) (turns c v g) at (λ y. y) → is_next S g at ≡ false → Runs G S f ts (good v at)
  turns_over l e = l.reads _ _ (run_stop e)

  pub tokens_over : {c : V → V → V} {v : V} {p : T → Option V} {f : Form T N V} {ts at : List T} →
      Carries G S f ts (λ y. y) (turns c v (token p)) at (λ y. y) → Lacks G S (token p) at → Runs G S f ts (good v at)
  tokens_over l h = l.reads _ _ (run_stop h.next)

  -- the value so far may be an equal one
  pub turns_value : {c : V → V → V} {f g : Form T N V} {ts rest : List T} (v w : V) → w ≡ v → Carries G S f ts (λ y. y) (turns c v g) rest (λ y. y) → Carries G S f ts (λ y. y) (turns c w g) rest (λ y. y)
  turns_value {c} {f} {g} {ts} {rest} v w e h = subst (λ x. Carries G S f ts (λ y. y) (turns c x g) rest (λ y. y)) (sym e) h

-- what an exit by `?` gives where the rest decides
module _ {A T N V X : Type 0} (seen : List A → List T) (G : N → Form T N V) (S : Table T N) where
  pub carry_exit : {Y : Type 0} (P : Y → Type 0) (f g : Form T N V) (ts us : List T) (made given : X → V) (r : Result Y (Fault A)) (e : Fault A) →
      IsErrAnd r (λ y. y ≡ e) → Carries G S f ts made g us given → FailsBy seen G S g us e → MatchResult r P (FailsBy seen G S f ts)
  carry_exit P f g ts us made given (Ok x) e h c k = absurd h
  carry_exit P f g ts us made given (Err y) e h c k = step y (subst (FailsBy seen G S g us) (sym h) k)
    where
      step : (y : Fault A) → FailsBy seen G S g us y → FailsBy seen G S f ts y
      step (Bad rest) j = c.fails _ j
      step Memory j = tt

-- an exit by `?` with a fault of which anything is known
pub exit_with : {A Y : Type 0} (P : Y → Type 0) (Q : Fault A → Type 0) (r : Result Y (Fault A)) (e : Fault A) → IsErrAnd r (λ y. y ≡ e) → Q e → MatchResult r P Q
exit_with P Q (Ok x) e h k = absurd h
exit_with P Q (Err y) e h k = subst Q (sym h) k

-- What closes goals by these, for `using(..)`.
pub ruleset carrying = (carry_start, carry_on, carry_rule, carry_second, carry_left, carry_right, carry_base, carry_turn, carry_side, carry_other, turns_go_on, turn_fails, turns_end, turn_taken, tokens_over)
