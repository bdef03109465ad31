-- What is kept of a group stands for it over a later history too.
use Rattle.std.proofs.Common.{◌≡◌, ℕ, ◌<◌, List, ◌++◌, length, slice_get, Option, Some, None, refl, ap, arith}
use Rattle.std.proofs.lemmas.Option.{slice_get_within}
use Rattle.pr_rule.specs.spec_history.declared.entry.Entry.{Entry}
use Rattle.pr_rule.specs.spec_history.private.Laws.{IsLawful}
use Rattle.pr_rule.specs.spec_rules.Definitions.{Group as Definition}
use Rattle.pr_rule.specs.pr_range.private.Asks.{LastAsks, Passed}
use Rattle.pr_rule.specs.spec_rules.Groups.{Group}
use Rattle.pr_group.specs.private.Within.{ArePassedWithin}
use Rattle.pr_rule.specs.declared.remembered.Remembered.{Remembered}
use Rattle.pr_group.specs.private.Keeping.{KeepsGroup, KeptGroup, passed_by, passed_for}
use Rattle.pr_group.proofs.GroupContinued.{state_there}
use Rattle.pr_group.proofs.Places.{place_there}
use Rattle.pr_group.proofs.Staying.{Stays, rule_stays, same_passed}

module _ {R : Type 0} (fits : R → List Entry → Type 0) (last : R → LastAsks) (passed : R → Passed) (k : KeptGroup R) (history more : List Entry) (g : Group) (kept : KeepsGroup fits last passed k history g) where
  pub group_stays : Stays fits → IsLawful (history ++ more) → KeepsGroup fits last passed k (history ++ more) g
  group_stays stays lawful = record {
    definition = kept.definition;
    file = kept.file;
    until = kept.until;
    waiting = kept.waiting;
    left = kept.left;
    many = kept.many;
    rules = λ i definition m r a b c. rule_stays fits last passed stays history more g.last definition m r lawful (kept.rules i definition m r a b c);
  }

  within_at : (i : ℕ) (m : Remembered R) → slice_get k.rules i ≡ Some m → ArePassedWithin history (last m.ranges) (passed m.ranges)
  within_at i m h =
      let low : i < length k.rules = slice_get_within k.rules i m h in
      let many : length k.rules ≡ length k.def.rules = kept.many in
      let definition = place_there k.def.rules i (omega arith) in
      let state = state_there k.def.rules g.rules i definition.0 (ap (λ (d : Definition). d.rules) kept.definition) definition.1 in
      (kept.rules i definition.0 m state.0 definition.1 h state.1).within

  one_passed : (i : ℕ) → passed_for passed (history ++ more) (slice_get k.rules i) ≡ passed_for passed history (slice_get k.rules i)
  one_passed i = by (slice_get k.rules i) refl where
    by : (o : Option (Remembered R)) → slice_get k.rules i ≡ o → passed_for passed (history ++ more) o ≡ passed_for passed history o
    by None e = refl
    by (Some m) e = same_passed history more (last m.ranges) (passed m.ranges) (within_at i m e)

  pub group_passed : passed_by passed k (history ++ more) ≡ passed_by passed k history
  group_passed = λ j i. one_passed i j
