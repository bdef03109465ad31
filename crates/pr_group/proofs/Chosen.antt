-- No older one is chosen twice, and each that is chosen is there.
use Rattle.std.proofs.Common.{◌≡◌, ℕ, List, length, Option, sym, subst}
use Rattle.std.specs.Prelude.{Result, Ok, Err, IfOk}
use Rattle.std.proofs.lemmas.Option.{slice_get_within}
use Rattle.pr_rule.specs.pr_range.private.Carried.{IsOnce}
use Rattle.pr_rule.specs.spec_rules.private.Carried.{RangeUse, same_use}
use Rattle.pr_rule.specs.spec_rules.private.Laws.{numbers_taken}
use Rattle.pr_group.specs.private.Named.{AreBelow}
use Rattle.pr_group.proofs.Once.{numbers_once, takes}

pub each_once : {V E : Type 0} (items : V → List (Option ℕ)) (r : Result V E) (new old : List RangeUse) → IfOk r (λ v. items v ≡ numbers_taken same_use new old) → IfOk r (λ v. IsOnce (items v))
each_once items (Ok v) new old h = subst IsOnce (sym h) (numbers_once same_use new old)
each_once items (Err e) new old h = tt

below : (new old : List RangeUse) → AreBelow (length old) (numbers_taken same_use new old)
below new old = λ i n at. let there = takes same_use new old i n at in slice_get_within old n there.old there.old_is

pub each_below : {V E : Type 0} (items : V → List (Option ℕ)) (r : Result V E) (new old all : List RangeUse) → old ≡ all → IfOk r (λ v. items v ≡ numbers_taken same_use new old) → IfOk r (λ v. AreBelow (length all) (items v))
each_below items (Ok v) new old all e h = subst (λ l. AreBelow (length l) (items v)) e (subst (AreBelow (length old)) (sym h) (below new old))
each_below items (Err x) new old all e h = tt
