-- The ways through a side that begins with a token and is a sequence in a sequence.
use Rattle.std.proofs.Common.{Option, List, true, false, refl}
use Rattle.pr_forms.specs.Form.{Form, token, pair, either}
use Rattle.pr_forms.specs.Table.{Table}
use Rattle.pr_forms.specs.Run.{Runs, ReaderOutcome, good, bad, run_pair, run_first, run_second, run_left, run_right, Takes, Lacks}
use Rattle.pr_forms.proofs.Steps.{next_pair}

module _ {T N V : Type 0} {G : N → Form T N V} {S : Table T N} where
  pub take_nested : {c d : V → V → V} {p : T → Option V} {f k g : Form T N V} {ts mid next rest : List T} {v w x : V} →
      Takes G S (token p) ts v mid → Runs G S f mid (good w next) → Runs G S k next (good x rest) → Runs G S (either (pair d (pair c (token p) f) k) g) ts (good (d (c v w) x) rest)
  take_nested {c} {d} {p} {f} {k} {ts = ts} h a b = run_left (next_pair S d (pair c (token p) f) k ts true refl (next_pair S c (token p) f ts true refl h.next)) (run_pair (run_pair h.gives a) b)

  pub nested_first_bad : {c d : V → V → V} {p : T → Option V} {f k g : Form T N V} {ts mid rest : List T} {v : V} →
      Takes G S (token p) ts v mid → Runs G S f mid (bad rest) → Runs G S (either (pair d (pair c (token p) f) k) g) ts (bad rest)
  nested_first_bad {c} {d} {p} {f} {k} {ts = ts} h a = run_left (next_pair S d (pair c (token p) f) k ts true refl (next_pair S c (token p) f ts true refl h.next)) (run_first (run_second h.gives a))

  pub nested_bad : {c d : V → V → V} {p : T → Option V} {f k g : Form T N V} {ts mid next rest : List T} {v w : V} →
      Takes G S (token p) ts v mid → Runs G S f mid (good w next) → Runs G S k next (bad rest) → Runs G S (either (pair d (pair c (token p) f) k) g) ts (bad rest)
  nested_bad {c} {d} {p} {f} {k} {ts = ts} h a b = run_left (next_pair S d (pair c (token p) f) k ts true refl (next_pair S c (token p) f ts true refl h.next)) (run_second (run_pair h.gives a) b)

  pub skip_nested : {c d : V → V → V} {p : T → Option V} {f k g : Form T N V} {ts : List T} {o : ReaderOutcome T V} →
      Lacks G S (token p) ts → Runs G S g ts o → Runs G S (either (pair d (pair c (token p) f) k) g) ts o
  skip_nested {c} {d} {p} {f} {k} {ts = ts} h q = run_right (next_pair S d (pair c (token p) f) k ts false refl (next_pair S c (token p) f ts false refl h.next)) q

-- what closes goals by these, for `using(..)`
pub ruleset nested = (take_nested, nested_first_bad, nested_bad, skip_nested)
