-- Memory that runs out behind all loads.
use Rattle.std.proofs.Common.{◌≡◌, ℕ, Result, Ok, Err, IsErrAnd, subst, sym, arith}
use Rattle.pr_outside.specs.Asks.{Asks, AsksBy}
use Rattle.pr_outside.specs.Ends.{LoadEnds, no_row}
use Rattle.pr_outside.specs.Meant.{Folder}
use Rattle.pr_outside.specs.Outside.{Outside}
use Rattle.pr_outside.specs.declared.status.status.Stop.{Stop}
use Rattle.pr_outside.specs.declared.status.status.Stop.TheVariants.{Memory}
use Rattle.pr_outside.proofs.Ended.{ends_memory, ends_on, in_time_same}

pub memory_asked : (T : Type 0) (a b all : ℕ) (r : Result T Stop) → IsErrAnd r (λ s. s ≡ Memory) → Asks a b all → AsksBy a b all r
memory_asked T a b all (Ok x) h p = absurd h
memory_asked T a b all (Err s) h p = subst (λ (z : Stop). AsksBy {T = T} a b all (Err z)) (sym h) (all, p, omega arith)

pub memory_ends : (T U : Type 0) (x y : Folder) (v : U) (r : Result T Stop) → IsErrAnd r (λ s. s ≡ Memory) → LoadEnds {T = U} x y (Ok v) → LoadEnds x y r
memory_ends T U x y v r h first = λ others.
    let a : Outside = record others { files = x } in
    let b : Outside = record others { files = y } in
    let p = first others in
    ends_on T U no_row ⊥ a b b r Memory h p.cause (in_time_same others.input.course) p.files (λ e. e) (ends_memory U no_row ⊥ b)
