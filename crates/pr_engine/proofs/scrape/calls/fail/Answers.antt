use Rattle.std.proofs.Common.{◌≡◌, List, map, refl, ap, ◌∙◌, subst}
use Rattle.pr_head.specs.spec_history.declared.entry.Entry.{Entry}
use Rattle.pr_head.specs.spec_history.Admission.{put_all}
use Rattle.pr_manager.specs.spec_world.Scrapes.{about, failure_entries, marker, markers}
use Rattle.pr_head.specs.private.Intake.{HasTakenFront, Puts}
use Rattle.pr_engine.proofs.ScrapeAnswering.{same_answer}
use Rattle.pr_head.proofs.IntakeIntake.{front_if, front_more, front_then, puts_then, rows_are, rows_counted}
use Rattle.pr_head.proofs.Markers.{markers_all}
use Rattle.pr_engine.proofs.scrape.calls.fail.Goals as goal

pub returns-in_err-put_markers-clause-front : goal.returns-in_err-put_markers-clause-front
returns-in_err-put_markers-clause-front c = λ history h.
    let old = c.args.known.now in
    let all : markers c.args.now c.as_slice.result.now c.new.result.keys ≡ map (marker c.args.now) old =
    ap (markers c.args.now c.as_slice.result.now) c.new.ensures.empty ∙ markers_all c.args.now c.as_slice.result.now ∙ ap (map (marker c.args.now)) c.as_slice.ensures in
    front_if c.from_residual.result c.args.head.now c.put_markers.new.head history (failure_entries c.args.target.now c.args.now old)
    (front_more c.args.head.now c.put_markers.new.head history (map (marker c.args.now) old) (about c.args.target.now c.args.now 0 0)
    (subst (λ (l : List Entry). HasTakenFront c.args.head.now c.put_markers.new.head history l) all (c.in_err-put_markers.ensures.front history h)))

pub returns-in_err-put_about-clause-front : goal.returns-in_err-put_about-clause-front
returns-in_err-put_about-clause-front c = λ history h.
    let old = c.args.known.now in
    let all : markers c.args.now c.as_slice.result.now c.new.result.keys ≡ map (marker c.args.now) old =
    ap (markers c.args.now c.as_slice.result.now) c.new.ensures.empty ∙ markers_all c.args.now c.as_slice.result.now ∙ ap (map (marker c.args.now)) c.as_slice.ensures in
    let p : Puts c.args.head.now c.put_markers.new.head c.new-rows.result.items c.put_markers.new.rows.items history (map (marker c.args.now) old) =
    subst (λ (l : List Entry). Puts c.args.head.now c.put_markers.new.head c.new-rows.result.items c.put_markers.new.rows.items history l) all (c.in_ok-put_markers.ensures.puts history h) in
    front_if c.from_residual-in_err-put_about.result c.args.head.now c.put_about.new.head history (failure_entries c.args.target.now c.args.now old)
    (front_then c.args.head.now c.put_markers.new.head c.put_about.new.head history (map (marker c.args.now) old) (about c.args.target.now c.args.now 0 0) p.taken
    (c.in_err-put_about.ensures.front (put_all history (map (marker c.args.now) old)) p.taken.holds))

pub returns-clause-taken : goal.returns-clause-taken
returns-clause-taken c = λ history h.
    let old = c.args.known.now in
    let all : markers c.args.now c.as_slice.result.now c.new.result.keys ≡ map (marker c.args.now) old =
    ap (markers c.args.now c.as_slice.result.now) c.new.ensures.empty ∙ markers_all c.args.now c.as_slice.result.now ∙ ap (map (marker c.args.now)) c.as_slice.ensures in
    let p : Puts c.args.head.now c.put_markers.new.head c.new-rows.result.items c.put_markers.new.rows.items history (map (marker c.args.now) old) =
    subst (λ (l : List Entry). Puts c.args.head.now c.put_markers.new.head c.new-rows.result.items c.put_markers.new.rows.items history l) all (c.in_ok-put_markers.ensures.puts history h) in
    (puts_then c.args.head.now c.put_markers.new.head c.put_about.new.head c.new-rows.result.items c.put_markers.new.rows.items c.put_about.new.rows.items history
    (map (marker c.args.now) old) (about c.args.target.now c.args.now 0 0) p (c.in_ok-put_about.ensures.puts (put_all history (map (marker c.args.now) old)) p.taken.holds)).taken

pub returns-clause-answer : goal.returns-clause-answer
returns-clause-answer c = λ history h.
    let old = c.args.known.now in
    let all : markers c.args.now c.as_slice.result.now c.new.result.keys ≡ map (marker c.args.now) old =
    ap (markers c.args.now c.as_slice.result.now) c.new.ensures.empty ∙ markers_all c.args.now c.as_slice.result.now ∙ ap (map (marker c.args.now)) c.as_slice.ensures in
    let p : Puts c.args.head.now c.put_markers.new.head c.new-rows.result.items c.put_markers.new.rows.items history (map (marker c.args.now) old) =
    subst (λ (l : List Entry). Puts c.args.head.now c.put_markers.new.head c.new-rows.result.items c.put_markers.new.rows.items history l) all (c.in_ok-put_markers.ensures.puts history h) in
    let whole = puts_then c.args.head.now c.put_markers.new.head c.put_about.new.head c.new-rows.result.items c.put_markers.new.rows.items c.put_about.new.rows.items history
    (map (marker c.args.now) old) (about c.args.target.now c.args.now 0 0) p (c.in_ok-put_about.ensures.puts (put_all history (map (marker c.args.now) old)) p.taken.holds) in
    same_answer _ _ c.args.fault 0 0 0 0 _ _
    (c.new-2.ensures ∙ rows_are c.args.head.now c.put_about.new.head c.new-rows.result.items c.put_about.new.rows.items history (failure_entries c.args.target.now c.args.now old) whole c.new-rows.ensures.items)
    refl refl
    (c.len-stale.ensures ∙ c.put_markers.new.rows.ok.0 ∙ rows_counted c.args.head.now c.put_markers.new.head c.new-rows.result.items c.put_markers.new.rows.items history (map (marker c.args.now) old) p c.new-rows.ensures.items)
