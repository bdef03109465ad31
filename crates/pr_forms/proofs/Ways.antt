-- The ways of a reader through sequences that begin with a single token, as its functions take
-- them.
use Rattle.std.proofs.Common.{◌≡◌, Option, List, true, false, refl, Result, Ok, Err, sym, subst}
use Rattle.std.specs.Result.{MatchResult, IsErrAnd}
use Rattle.pr_forms.specs.Form.{Form, token, pair, either}
use Rattle.pr_forms.specs.Table.{Table}
use Rattle.pr_forms.specs.Run.{Runs, ReaderOutcome, good, bad, run_pair, run_first, run_second, run_left, run_right, run_fold, run_base, run_rule, Takes, Lacks}
use Rattle.pr_forms.specs.Reader.{FailsBy}
use Rattle.pr_forms.specs.declared.reader.Fault.{Fault}
use Rattle.pr_forms.specs.declared.reader.Fault.TheVariants.{Bad, Memory}
use Rattle.pr_forms.proofs.Steps.{next_pair}

module _ {T N V : Type 0} {G : N → Form T N V} {S : Table T N} where
  -- a side of a choice that begins with a token
  pub take_side : {c : V → V → V} {p : T → Option V} {f g : Form T N V} {ts mid rest : List T} {v w : V} →
      Takes G S (token p) ts v mid → Runs G S f mid (good w rest) → Runs G S (either (pair c (token p) f) g) ts (good (c v w) rest)
  take_side {c} {p} {f} {ts = ts} h k = run_left (next_pair S c (token p) f ts true refl h.next) (run_pair h.gives k)

  pub take_side_bad : {c : V → V → V} {p : T → Option V} {f g : Form T N V} {ts mid rest : List T} {v : V} →
      Takes G S (token p) ts v mid → Runs G S f mid (bad rest) → Runs G S (either (pair c (token p) f) g) ts (bad rest)
  take_side_bad {c} {p} {f} {ts = ts} h k = run_left (next_pair S c (token p) f ts true refl h.next) (run_second h.gives k)

  pub other_side : {c : V → V → V} {p : T → Option V} {f g : Form T N V} {ts : List T} {o : ReaderOutcome T V} →
      Lacks G S (token p) ts → Runs G S g ts o → Runs G S (either (pair c (token p) f) g) ts o
  other_side {c} {p} {f} {ts = ts} h k = run_right (next_pair S c (token p) f ts false refl h.next) k

  -- a side of a choice that is one token
  pub one_side : {p : T → Option V} {g : Form T N V} {ts rest : List T} {v : V} → Takes G S (token p) ts v rest → Runs G S (either (token p) g) ts (good v rest)
  one_side h = run_left h.next h.gives

  pub no_side : {p : T → Option V} {g : Form T N V} {ts : List T} {o : ReaderOutcome T V} → Lacks G S (token p) ts → Runs G S g ts o → Runs G S (either (token p) g) ts o
  no_side h k = run_right h.next k

  -- a sequence that begins with a token
  pub take_pair : {c : V → V → V} {p : T → Option V} {f : Form T N V} {ts mid rest : List T} {v w : V} →
      Takes G S (token p) ts v mid → Runs G S f mid (good w rest) → Runs G S (pair c (token p) f) ts (good (c v w) rest)
  take_pair h k = run_pair h.gives k

  pub take_pair_bad : {c : V → V → V} {p : T → Option V} {f : Form T N V} {ts mid rest : List T} {v : V} →
      Takes G S (token p) ts v mid → Runs G S f mid (bad rest) → Runs G S (pair c (token p) f) ts (bad rest)
  take_pair_bad h k = run_second h.gives k

  pub no_pair : {c : V → V → V} {p : T → Option V} {f : Form T N V} {ts : List T} → Lacks G S (token p) ts → Runs G S (pair c (token p) f) ts (bad ts)
  no_pair h = run_first h.gives

-- what an exit by `?` gives: the callee's fault is the caller's
module _ {A T N V : Type 0} (seen : List A → List T) (G : N → Form T N V) (S : Table T N) where
  pub fails : (f g : Form T N V) (ts us : List T) (e : Fault A) →
      ((rest : List T) → Runs G S f ts (bad rest) → Runs G S g us (bad rest)) → FailsBy seen G S f ts e → FailsBy seen G S g us e
  fails f g ts us (Bad rest) step h = step _ h
  fails f g ts us Memory step h = tt

  pub exit : {X : Type 0} (P : X → Type 0) (f g : Form T N V) (ts us : List T) (r : Result X (Fault A)) (e : Fault A) →
      IsErrAnd r (λ y. y ≡ e) → ((rest : List T) → Runs G S f ts (bad rest) → Runs G S g us (bad rest)) →
      FailsBy seen G S f ts e → MatchResult r P (FailsBy seen G S g us)
  exit P f g ts us (Ok x) e h step k = absurd h
  exit P f g ts us (Err y) e h step k = fails f g ts us y step (subst (FailsBy seen G S f ts) (sym h) k)

module _ {T N V : Type 0} {G : N → Form T N V} {S : Table T N} where
  -- the same with a value that is equal
  pub value_is : {f : Form T N V} {ts rest : List T} (v w : V) → w ≡ v → Runs G S f ts (good v rest) → Runs G S f ts (good w rest)
  value_is {f} {ts} {rest} v w e h = subst (λ x. Runs G S f ts (good x rest)) (sym e) h

-- What closes many goals of a reader's functions, for `using(..)`.
pub ruleset ways = (take_side, take_side_bad, other_side, one_side, no_side, take_pair, take_pair_bad, no_pair, run_rule, run_pair, run_first, run_second, run_left, run_right, run_fold, run_base)
