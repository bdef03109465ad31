-- What is given, by what is meant.
use Rattle.std.proofs.Common.{◌≡◌, ℕ, ◌+◌, List, Option, Some, None, Result, Ok, Err, sym, ap, ◌∙◌}
use Rattle.pr_num.specs.declared.value.Num.{Num}
use Rattle.pr_ast.specs.pr_labels.declared.item.Item.{Item}
use Rattle.pr_ast.specs.pr_labels.declared.pair.Pair.{Pair}
use Rattle.pr_ast.specs.declared.place.Place.{Place}
use Rattle.pr_ast.specs.Tree.{Tree}
use Rattle.pr_slide.specs.spec_history.declared.entry.Entry.{Entry}
use Rattle.pr_slide.specs.pr_head.private.Stored.{Stored}
use Rattle.pr_group.specs.spec_meaning.declared.fault.Fault.{Fault}
use Rattle.pr_group.specs.spec_meaning.declared.fault.FaultKind.{FaultKind}
use Rattle.pr_group.specs.spec_meaning.declared.value.Value.{Value}
use Rattle.pr_group.specs.spec_meaning.Answers.{fault}
use Rattle.pr_group.specs.spec_rules.Results.{value_elements}
use Rattle.pr_group.specs.pr_eval.private.Asking.{Sought}
use Rattle.pr_group.specs.pr_eval.private.Looks.{KeepsFor}
use Rattle.pr_group.specs.pr_eval.private.Evaluated.{AreReady, IsReadyFor, MayBegin, asks_of}
use Rattle.spec_tests.specs.declared.failure.Shown.TheVariants as shown
use Rattle.spec_tests.specs.Verdict.{given_by}

pub given_value : (meant : Result Value Fault) (v : Value) (list : List (Item Num)) → meant ≡ Ok v → list ≡ value_elements v → shown.Samples list ≡ given_by meant
given_value meant v list h is = ap shown.Samples is ∙ ap given_by (sym h)

pub given_fault : (meant : Result Value Fault) (place : Place) (kind : FaultKind) → meant ≡ Err (fault place kind) → shown.Fault place kind ≡ given_by meant
given_fault meant place kind h = ap given_by (sym h)

-- Where nothing is remembered, everything may be asked.
nothing_kept : (node : ℕ) (asks : List (Option Sought)) → AreReady (λ k s. None) node asks
nothing_kept node asks = λ i q e. by (node + i) q where
  by : (k : ℕ) (q : Option Sought) → IsReadyFor (λ k s. None) k q
  by k None = tt
  by k (Some q) = λ s b e. absurd cc

pub may_begin : (head : List (List Pair × Stored)) (history : List Entry) (t : Tree) (time : ℕ) → KeepsFor head history t time → MayBegin head history t time (Unit {0}) (λ k s. None)
may_begin head history t time h = record { keeps = h; fits = tt; ready = nothing_kept 0 (asks_of history t time) }
