use Rattle.std.proofs.Common.{◌≡◌, ◌++◌, true, not}
use Rattle.std.specs.Prelude.{filter}
use Rattle.pr_manager.specs.declared.naming.GroupName.{GroupName}
use Rattle.pr_manager.specs.private.Naming.{first_of, is_among, kept_under, name_of, names_of, value_of}
use Rattle.pr_manager.proofs.parting.part.Given as goal

abbrev pub invariant-loop-old : goal.invariant-loop-old
invariant-loop-old g l = record {
  waiting : (q : GroupName) → is_among q (names_of l.news) ≡ true → first_of (value_of l.parted.waiting q) (kept_under q l.old-iterator.rest.items) ≡ kept_under q l.fn.olds.items;
  gone : l.parted.gone.items ++ filter (λ k. not (is_among (name_of k) (names_of l.news))) l.old-iterator.rest.items ≡ filter (λ k. not (is_among (name_of k) (names_of l.news))) l.fn.olds.items;
}
