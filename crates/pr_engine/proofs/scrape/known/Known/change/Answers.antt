use Rattle.std.proofs.Common.{◌≡◌, [], List, OnOk, fold, ap, ◌∙◌, subst}
use Rattle.pr_labels.specs.declared.pair.Pair.{Pair}
use Rattle.pr_labels.specs.Rising.{with_labels}
use Rattle.pr_head.specs.spec_history.declared.entry.Entry.{Entry}
use Rattle.pr_manager.specs.spec_world.Scrapes.{markers}
use Rattle.pr_head.specs.private.Intake.{HasTakenFront, Puts}
use Rattle.pr_head.proofs.IntakeIntake.{front_all, front_if, front_none}
use Rattle.pr_engine.proofs.Tracking.{on_ok}
use Rattle.pr_engine.proofs.scrape.known.Known.change.Goals as goal

pub returns-in_err-sets-clause-front : goal.returns-in_err-sets-clause-front
returns-in_err-sets-clause-front c = λ history h.
    let ms : List Entry = markers c.args.now c.args.self.now (fold with_labels [] c.args.kept.items) in
    front_if c.from_residual.result c.args.head.now c.args.head.now history ms (front_none c.args.head.now history ms h)

pub returns-in_err-put_markers-clause-front : goal.returns-in_err-put_markers-clause-front
returns-in_err-put_markers-clause-front c = λ history h.
    let ms : List Entry = markers c.args.now c.args.self.now (fold with_labels [] c.args.kept.items) in
    let sets : c.in_ok-sets.sets.keys ≡ fold with_labels [] c.args.kept.items = c.in_ok-sets.ensures ∙ ap (fold with_labels []) c.deref.ensures.value in
    let same : markers c.args.now c.as_slice.result.now c.in_ok-sets.sets.keys ≡ ms =
    ap (λ (l : List (List Pair)). markers c.args.now l c.in_ok-sets.sets.keys) c.as_slice.ensures ∙ ap (markers c.args.now c.args.self.now) sets in
    front_if c.from_residual-in_err-put_markers.result c.args.head.now c.put_markers.new.head history ms
    (subst (λ (l : List Entry). HasTakenFront c.args.head.now c.put_markers.new.head history l) same (c.in_err-put_markers.ensures.front history h))

pub returns-clause-puts : goal.returns-clause-puts
returns-clause-puts c = λ history h.
    let ms : List Entry = markers c.args.now c.args.self.now (fold with_labels [] c.args.kept.items) in
    let sets : c.in_ok-sets.sets.keys ≡ fold with_labels [] c.args.kept.items = c.in_ok-sets.ensures ∙ ap (fold with_labels []) c.deref.ensures.value in
    let same : markers c.args.now c.as_slice.result.now c.in_ok-sets.sets.keys ≡ ms =
    ap (λ (l : List (List Pair)). markers c.args.now l c.in_ok-sets.sets.keys) c.as_slice.ensures ∙ ap (markers c.args.now c.args.self.now) sets in
    on_ok c.set.result (Puts c.args.head.now c.put_markers.new.head c.args.rows.now.items c.put_markers.new.rows.items history ms)
    (subst (λ (l : List Entry). Puts c.args.head.now c.put_markers.new.head c.args.rows.now.items c.put_markers.new.rows.items history l) same (c.in_ok-put_markers.ensures.puts history h))

pub returns-clause-front : goal.returns-clause-front
returns-clause-front c = λ history h.
    let ms : List Entry = markers c.args.now c.args.self.now (fold with_labels [] c.args.kept.items) in
    let sets : c.in_ok-sets.sets.keys ≡ fold with_labels [] c.args.kept.items = c.in_ok-sets.ensures ∙ ap (fold with_labels []) c.deref.ensures.value in
    let same : markers c.args.now c.as_slice.result.now c.in_ok-sets.sets.keys ≡ ms =
    ap (λ (l : List (List Pair)). markers c.args.now l c.in_ok-sets.sets.keys) c.as_slice.ensures ∙ ap (markers c.args.now c.args.self.now) sets in
    let p : Puts c.args.head.now c.put_markers.new.head c.args.rows.now.items c.put_markers.new.rows.items history ms =
    subst (λ (l : List Entry). Puts c.args.head.now c.put_markers.new.head c.args.rows.now.items c.put_markers.new.rows.items history l) same (c.in_ok-put_markers.ensures.puts history h) in
    front_if c.set.result c.args.head.now c.put_markers.new.head history ms (front_all c.args.head.now c.put_markers.new.head history ms p.taken)

pub returns-clause-tracked : goal.returns-clause-tracked
returns-clause-tracked c =
    subst (λ (l : List (List Pair)). OnOk c.set.result (c.set.new.self ≡ l)) (c.in_ok-sets.ensures ∙ ap (fold with_labels []) c.deref.ensures.value) c.set.ensures
