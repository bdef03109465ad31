-- A run is a reading, and up to its bad place a beginning.
use Rattle.std.proofs.Common.{List}
use Rattle.pr_forms.specs.Form.{Form, either, turns, fold, rule, Reads, is_chosen, is_token, is_nothing, is_pair, is_left, is_right, is_stop, is_turn, is_fold, is_rule}
use Rattle.pr_forms.specs.Form.{Begins, in_chosen, at_start, in_first, in_second, in_left, in_right, in_turn, after_turn, in_base, after_base, in_rule}
use Rattle.pr_forms.specs.Table.{Table}
use Rattle.pr_forms.specs.Run.{Runs, ReaderOutcome, good, bad, run_chosen, run_chosen_bad, run_unchosen, run_chosen_end, run_token, run_other, run_end, run_nothing, run_pair, run_first, run_second, run_left, run_right, run_stop, run_turn, run_in_turn, run_fold, run_base, run_rule}

-- what an outcome says of the form by its productions
pub data Meets {T N V : Type 0} (G : N → Form T N V) (f : Form T N V) (ts : List T) : ReaderOutcome T V → Type 0 where
  met : {v : V} {rest : List T} → Reads G f ts v rest → Meets G f ts (good v rest)
  begun : {rest : List T} → Begins G f ts rest → Meets G f ts (bad rest)

module _ {T N V : Type 0} {G : N → Form T N V} where
  after_left : {f g : Form T N V} {ts : List T} {o : ReaderOutcome T V} → Meets G f ts o → Meets G (either f g) ts o
  after_left (met h) = met (is_left h)
  after_left (begun h) = begun (in_left h)

  after_right : {f g : Form T N V} {ts : List T} {o : ReaderOutcome T V} → Meets G g ts o → Meets G (either f g) ts o
  after_right (met h) = met (is_right h)
  after_right (begun h) = begun (in_right h)

  of_rule : {n : N} {ts : List T} {o : ReaderOutcome T V} → Meets G (G n) ts o → Meets G (rule n) ts o
  of_rule (met h) = met (is_rule h)
  of_rule (begun h) = begun (in_rule h)

  one_more : {c : V → V → V} {g : Form T N V} {ts mid : List T} {v w : V} {o : ReaderOutcome T V} →
      Reads G g ts w mid → Meets G (turns c (c v w) g) mid o → Meets G (turns c v g) ts o
  one_more h (met k) = met (is_turn h k)
  one_more h (begun k) = begun (after_turn h k)

  and_turns : {c : V → V → V} {f g : Form T N V} {ts mid : List T} {v : V} {o : ReaderOutcome T V} →
      Reads G f ts v mid → Meets G (turns c v g) mid o → Meets G (fold c f g) ts o
  and_turns h (met k) = met (is_fold h k)
  and_turns h (begun k) = begun (after_base h k)

  pub reads : {f : Form T N V} {ts rest : List T} {v : V} → Meets G f ts (good v rest) → Reads G f ts v rest
  reads (met h) = h

  pub begins : {f : Form T N V} {ts rest : List T} → Meets G f ts (bad rest) → Begins G f ts rest
  begins (begun h) = h

module _ {T N V : Type 0} {G : N → Form T N V} {S : Table T N} where
  pub meets : {f : Form T N V} {ts : List T} {o : ReaderOutcome T V} → Runs G S f ts o → Meets G f ts o
  meets (run_token e) = met (is_token e)
  meets (run_other e) = begun at_start
  meets run_end = begun at_start
  meets run_nothing = met is_nothing
  meets (run_pair h k) = met (is_pair (reads (meets h)) (reads (meets k)))
  meets (run_first h) = begun (in_first (begins (meets h)))
  meets (run_second h k) = begun (in_second (reads (meets h)) (begins (meets k)))
  meets (run_left e h) = after_left (meets h)
  meets (run_right e h) = after_right (meets h)
  meets (run_stop e) = met is_stop
  meets (run_turn e h k) = one_more (reads (meets h)) (meets k)
  meets (run_in_turn e h) = begun (in_turn (begins (meets h)))
  meets (run_fold h k) = and_turns (reads (meets h)) (meets k)
  meets (run_base h) = begun (in_base (begins (meets h)))
  meets (run_chosen e l h) = met (is_chosen e l (reads (meets h)))
  meets (run_chosen_bad e h) = begun (in_chosen e (begins (meets h)))
  meets (run_unchosen e) = begun at_start
  meets run_chosen_end = begun at_start
  meets (run_rule h) = of_rule (meets h)
