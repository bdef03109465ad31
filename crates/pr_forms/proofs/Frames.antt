-- What a form reads does not depend on what follows.
use Rattle.std.proofs.Common.{◌≡◌, List, ◌∷◌, ◌≤◌, length, arith, Option, Some, Bool}
use Rattle.pr_forms.specs.Form.{Form, chosen, Reads, is_chosen, is_token, is_nothing, is_pair, is_left, is_right, is_stop, is_turn, is_fold, is_rule}
use Rattle.pr_forms.specs.Form.{Begins, in_chosen, at_start, at_whole, in_first, in_second, in_left, in_right, in_turn, after_turn, in_base, after_base, in_rule}

-- The same tokens, with something else behind them.
pub data Same {T : Type 0} (r s : List T) : List T → List T → Type 0 where
  end : Same r s r s
  more : {t : T} {ts us : List T} → Same r s ts us → Same r s (t ∷ ts) (t ∷ us)

-- a reading with any rest in place of its own
pub record Framed {T N V : Type 0} (G : N → Form T N V) (f : Form T N V) (ts : List T) (v : V) (r s : List T) : Type 0 where
  pub tokens : List T
  pub same : Same r s ts tokens
  pub reads : Reads G f tokens v s

pub record Resumed {T N V : Type 0} (G : N → Form T N V) (f : Form T N V) (ts r s : List T) : Type 0 where
  pub tokens : List T
  pub same : Same r s ts tokens
  pub begins : Begins G f tokens s

longer : {T : Type 0} {r s ts us : List T} → Same r s ts us → length s ≤ length us
longer end = omega arith
longer (more k) = let h = longer k in omega arith

same_trans : {T : Type 0} {r s m n ts us : List T} → Same r s m n → Same m n ts us → Same r s ts us
same_trans h end = h
same_trans h (more k) = more (same_trans h k)

module _ {T N V : Type 0} {G : N → Form T N V} where
  chosen_framed : {s : List T} (q : T → Option N) (m : T → Bool) {t : T} {n : N} {ts r : List T} {v : V} → q t ≡ Some n → length r ≤ length ts → Framed G (G n) (t ∷ ts) v r s → Framed G (chosen q m) (t ∷ ts) v r s
  chosen_framed q m e l x = go q m e l x.tokens x.same x.reads
    where
      go : {s : List T} (q : T → Option N) (m : T → Bool) {t : T} {n : N} {ts r : List T} {v : V} → q t ≡ Some n → length r ≤ length ts → (us : List T) → Same r s (t ∷ ts) us → Reads G (G n) us v s → Framed G (chosen q m) (t ∷ ts) v r s
      go q m e l us end d = absurd (omega arith)
      go q m e l us (more k) d = record { tokens = _; same = more k; reads = is_chosen e (longer k) d }

  pub frame : {f : Form T N V} {ts r : List T} {v : V} (s : List T) → Reads G f ts v r → Framed G f ts v r s
  frame s (is_token {t = t} e) = record { tokens = t ∷ s; same = more end; reads = is_token e }
  frame s is_nothing = record { tokens = s; same = end; reads = is_nothing }
  frame s (is_pair d e) = let y = frame s e in let x = frame y.tokens d in record { tokens = x.tokens; same = same_trans y.same x.same; reads = is_pair x.reads y.reads }
  frame s (is_left d) = let x = frame s d in record { tokens = x.tokens; same = x.same; reads = is_left x.reads }
  frame s (is_right d) = let x = frame s d in record { tokens = x.tokens; same = x.same; reads = is_right x.reads }
  frame s is_stop = record { tokens = s; same = end; reads = is_stop }
  frame s (is_turn d e) = let y = frame s e in let x = frame y.tokens d in record { tokens = x.tokens; same = same_trans y.same x.same; reads = is_turn x.reads y.reads }
  frame s (is_fold d e) = let y = frame s e in let x = frame y.tokens d in record { tokens = x.tokens; same = same_trans y.same x.same; reads = is_fold x.reads y.reads }
  frame s (is_chosen {q} {m} {t} {n} e l d) = chosen_framed q m e l (frame s d)
  frame s (is_rule d) = let x = frame s d in record { tokens = x.tokens; same = x.same; reads = is_rule x.reads }

  chosen_resumed : {s : List T} (q : T → Option N) (m : T → Bool) {t : T} {n : N} {ts r : List T} → q t ≡ Some n → Resumed G (G n) (t ∷ ts) r s → Resumed G (chosen q m) (t ∷ ts) r s
  chosen_resumed q m e x = go q m e x.tokens x.same x.begins
    where
      go : {s : List T} (q : T → Option N) (m : T → Bool) {t : T} {n : N} {ts r : List T} → q t ≡ Some n → (us : List T) → Same r s (t ∷ ts) us → Begins G (G n) us s → Resumed G (chosen q m) (t ∷ ts) r s
      go {s} q m e us end b = record { tokens = s; same = end; begins = at_start }
      go q m e us (more k) b = record { tokens = _; same = more k; begins = in_chosen e b }

  pub resume : {f : Form T N V} {ts r : List T} (s : List T) → Begins G f ts r → Resumed G f ts r s
  resume s at_start = record { tokens = s; same = end; begins = at_start }
  resume s (at_whole d) = let x = frame s d in record { tokens = x.tokens; same = x.same; begins = at_whole x.reads }
  resume s (in_first b) = let x = resume s b in record { tokens = x.tokens; same = x.same; begins = in_first x.begins }
  resume s (in_second d b) = let y = resume s b in let x = frame y.tokens d in record { tokens = x.tokens; same = same_trans y.same x.same; begins = in_second x.reads y.begins }
  resume s (in_left b) = let x = resume s b in record { tokens = x.tokens; same = x.same; begins = in_left x.begins }
  resume s (in_right b) = let x = resume s b in record { tokens = x.tokens; same = x.same; begins = in_right x.begins }
  resume s (in_turn b) = let x = resume s b in record { tokens = x.tokens; same = x.same; begins = in_turn x.begins }
  resume s (after_turn d b) = let y = resume s b in let x = frame y.tokens d in record { tokens = x.tokens; same = same_trans y.same x.same; begins = after_turn x.reads y.begins }
  resume s (in_base b) = let x = resume s b in record { tokens = x.tokens; same = x.same; begins = in_base x.begins }
  resume s (after_base d b) = let y = resume s b in let x = frame y.tokens d in record { tokens = x.tokens; same = same_trans y.same x.same; begins = after_base x.reads y.begins }
  resume s (in_chosen {q} {m} {t} {n} e b) = chosen_resumed q m e (resume s b)
  resume s (in_rule b) = let x = resume s b in record { tokens = x.tokens; same = x.same; begins = in_rule x.begins }
