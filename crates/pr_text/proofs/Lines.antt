-- A line that was written whole, or not.
use Rattle.std.proofs.Common.{◌≡◌, ℕ, List, Option, Result, Ok, Err, IsErrAnd, sym, ◌∙◌, subst, length, take, take_all, arith}
use Rattle.std.specs.Io.KnownBytes.{Appends}
use Rattle.pr_outside.specs.Ends.{StopsBy, WriteEnds, no_row}
use Rattle.pr_outside.specs.Meant.{Output}
use Rattle.pr_outside.specs.declared.status.status.Stop.{Stop}
use Rattle.pr_outside.specs.declared.status.status.Stop.TheVariants as stop
use Rattle.pr_outside.proofs.Ended.{quiet}

pub whole_front : (old new : Option (List ℕ)) (text : List ℕ) → Appends old new text → Appends old new (take (length text) text)
whole_front old new text p = subst (Appends old new) (sym (take_all (length text) text (omega arith))) p

-- a write is stopped by no row
pub write_row : (T U : Type 0) (x y : Output) (r : Result U Stop) (s : Stop) (index : ℕ) → IsErrAnd r (λ z. z ≡ s) → WriteEnds {T = T} x y (Err s) → r ≡ Err (stop.BadRow index) → ⊥
write_row T U x y (Ok v) s index h w e = absurd h
write_row T U x y (Err z) s index h w e =
    let is : z ≡ stop.BadRow index = cc in
    (subst (λ (q : Stop). StopsBy {T = T} no_row ⊥ (record quiet { out = x }) (record quiet { out = y }) (Err q)) (sym h ∙ is) (w quiet).cause).1
