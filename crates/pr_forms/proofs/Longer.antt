-- A repetition with one more turn at its end: for what is written from its front on.
use Rattle.std.proofs.Common.{List}
use Rattle.pr_forms.specs.Form.{Form, turns, fold, Reads, is_stop, is_turn, is_fold}

module _ {T N V : Type 0} {G : N → Form T N V} where
  pub turns_longer : {c : V → V → V} {g : Form T N V} {ts mid rest : List T} {v w x : V} → Reads G (turns c v g) ts w mid → Reads G g mid x rest → Reads G (turns c v g) ts (c w x) rest
  turns_longer is_stop k = is_turn k is_stop
  turns_longer (is_turn d e) k = is_turn d (turns_longer e k)

  pub fold_longer : {c : V → V → V} {f g : Form T N V} {ts mid rest : List T} {w x : V} → Reads G (fold c f g) ts w mid → Reads G g mid x rest → Reads G (fold c f g) ts (c w x) rest
  fold_longer (is_fold d e) k = is_fold d (turns_longer e k)
