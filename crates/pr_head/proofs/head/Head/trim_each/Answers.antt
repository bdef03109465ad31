use Rattle.std.proofs.Common.{◌≡◌, ℕ, ◌≤◌, ◌++◌, List, length, map, ℤ, drop, take, ap, sym, subst, ◌∙◌, arith, w64, append-nil, to_z, of_z}
use Rattle.std.specs.List.{slice_get}
use Rattle.std.proofs.lemmas.Int.{to_z-of_z}
use Rattle.std.proofs.lemmas.List.{take_all, drop_all}
use Rattle.indexmap.specs.IndexMap.{set_value_at}
use Rattle.pr_labels.specs.declared.pair.Pair.{Pair}
use Rattle.pr_head.specs.private.Holds.{sets_of, Holds, IsWhole}
use Rattle.pr_head.specs.private.Index.{IsIndexed}
use Rattle.pr_head.specs.private.Stored.{Stored, trimmed}
use Rattle.pr_head.proofs.Trimming.{below_length, holds_trimmed, next_trimmed, rising_next, sets_partly, value_next, whole_trimmed}
use Rattle.pr_head.proofs.head.Head.trim_each.Goals as goal

pub invariant_of-self : goal.invariant_of-self
invariant_of-self c =
    let at = to_z w64 (of_z w64 c.args.before) in
    (subst (IsIndexed c.trimming.self-inside.index.all c.trimming.self-inside.index.by_label) (sym (ap sets_of c.trimming.invariant.series ∙ sets_partly at c.args.self.now c.trimming.series)) c.trimming.invariant.indexed, c.oldest_of-self-inside.ensures)

pub trimming-preserved : goal.trimming-preserved
trimming-preserved c =
    let at = to_z w64 (of_z w64 c.args.before) in
    let i = c.trimming.series in
    let v = c.index_mut.result.now in
    let found = value_next at c.args.self.now i v (ap (λ es. slice_get (map (λ (e : List Pair × Stored). e.1) es) i) (sym c.trimming.invariant.series) ∙ c.index_mut.ensures.value) in
    record {
      series = ap (λ es. set_value_at es i c.trim.new.self) c.trimming.invariant.series
          ∙ ap (set_value_at (trimmed at (take i c.args.self.now) ++ drop i c.args.self.now) i) c.trim.ensures.trimmed
          ∙ next_trimmed at c.args.self.now i (found.0, v) found.1;
      indexed = c.trimming.invariant.indexed;
      rising = rising_next c.args.self.now i found.0 v found.1 c.trim.ensures.rising c.trimming.invariant.rising;
    }

-- the loop went over all series
are_trimmed : (before : ℤ) (head : List (List Pair × Stored)) (n : ℕ) → length head ≤ n → trimmed before (take n head) ++ drop n head ≡ trimmed before head
are_trimmed before head n all = (λ i. trimmed before (take_all n head all i) ++ drop_all n head all i) ∙ append-nil (trimmed before head)

pub returns-clause-later : goal.returns-clause-later
returns-clause-later c =
    let at = to_z w64 (of_z w64 c.args.before) in
    let size = ap length c.self.view_is in
    let all : length c.args.self.now ≤ c.trimming.series = omega arith in
    c.trimming.invariant.series ∙ are_trimmed at c.args.self.now c.trimming.series all ∙ ap (λ b. trimmed b c.args.self.now) (to_z-of_z w64 c.args.before c.ranges.before)

pub returns-clause-holds : goal.returns-clause-holds
returns-clause-holds c = λ history holds.
    let size = ap length c.self.view_is in
    let all : length c.args.self.now ≤ c.trimming.series = omega arith in
    subst (λ h. Holds h history) (sym (returns-clause-later c)) (holds_trimmed c.args.self.now history c.args.before
    (λ i e there. let within = below_length c.args.self.now i e there in c.trimming.invariant.rising i e (omega arith) there) holds)

pub returns-clause-whole : goal.returns-clause-whole
returns-clause-whole c = λ history x y lawful holds whole low lower.
    subst (λ h. IsWhole h history y) (sym (returns-clause-later c)) (whole_trimmed c.args.self.now history c.args.before x y lawful holds whole low lower)
