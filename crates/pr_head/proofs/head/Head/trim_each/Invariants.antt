use Rattle.std.proofs.Common.{◌≡◌, ℕ, ◌++◌, ◌<◌, List, Some, drop, take, slice_get}
use Rattle.std.specs.List.Sorted.{IsNonDecreasingBy}
use Rattle.pr_labels.specs.declared.pair.Pair.{Pair}
use Rattle.pr_head.specs.private.Stored.{Stored, trimmed}
use Rattle.pr_head.specs.private.Holds.{sets_of}
use Rattle.pr_head.specs.private.Index.{IsIndexed}
use Rattle.pr_head.proofs.head.Head.trim_each.Given as goal

-- the first series are trimmed
abbrev pub invariant-trimming : goal.invariant-trimming
invariant-trimming l = record {
  series : l.self-inside.series.entries ≡ trimmed l.before (take l.series l.fn.self) ++ drop l.series l.fn.self;
  indexed : IsIndexed l.self-inside.index.all l.self-inside.index.by_label (sets_of l.fn.self);
  rising : (i : ℕ) (e : List Pair × Stored) → i < l.series → slice_get l.fn.self i ≡ Some e → IsNonDecreasingBy (λ x. x.time) e.1.held;
}
