use Rattle.std.proofs.Common.{◌≡◌, ◌++◌, ℕ, ℤ, List, Option, Result, OnOk, subst}
use Rattle.std.specs.declared.result.Result.TheVariants.{Ok, Err}
use Rattle.pr_labels.specs.declared.pair.Pair.{Pair}
use Rattle.pr_head.specs.spec_history.declared.entry.Entry.{Entry}
use Rattle.pr_head.specs.spec_history.Admission.{admit, put}
use Rattle.pr_head.specs.spec_history.private.Laws.{IsLawful}
use Rattle.pr_head.proofs.HistoryLawful.{put_lawful}
use Rattle.pr_head.specs.private.Stored.{Stored}
use Rattle.pr_head.specs.private.Holds.{Holds, IsWhole}
use Rattle.pr_engine.specs.private.Standing.{IsHeadOf}
use Rattle.pr_engine.specs.private.Times.{IsKeptAbove}
use Rattle.pr_manager.specs.spec_world.Step.{entry_of, rows_by}
use Rattle.pr_manager.proofs.WorldSteps.{put_is}
use Rattle.pr_engine.proofs.standing.put.Goals as goal

both : {T E : Type 0} (r : Result T E) (head : List (List Pair × Stored)) (last : Option ℕ) (history : List Entry)
    → OnOk r (Holds head history) → ((x : ℤ) → IsKeptAbove last x → OnOk r (IsWhole head history x)) → IsLawful history → OnOk r (IsHeadOf head last history)
both (Ok x) head last history holds whole lawful = record { holds = holds; whole = whole; lawful = lawful }
both (Err e) head last history holds whole lawful = tt

pub returns-clause-answer : goal.returns-clause-answer
returns-clause-answer c = λ last history h. c.append.ensures.answer history h.holds

pub returns-clause-head : goal.returns-clause-head
returns-clause-head c = λ last history h.
    let e = entry_of c.args.time c.args.labels.now c.args.point in
    let after : put history e ≡ history ++ rows_by (admit history c.args.labels.now c.args.time c.args.point) e = put_is (admit history c.args.labels.now c.args.time c.args.point) history e in
    subst (λ l. OnOk c.append.result (IsHeadOf c.append.new.self last l)) after
    (both c.append.result c.append.new.self last (put history e) (c.append.ensures.holds history h.holds) (λ x above. c.append.ensures.whole history x h.holds (h.whole x above)) (put_lawful history e h.lawful))
