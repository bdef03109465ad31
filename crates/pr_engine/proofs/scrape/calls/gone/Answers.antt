use Rattle.std.proofs.Common.{◌≡◌, [], ◌∷◌, List, map, refl, sym, ap, ◌∙◌, subst}
use Rattle.pr_head.specs.spec_history.declared.entry.Entry.{Entry}
use Rattle.pr_head.specs.spec_history.Admission.{put_all}
use Rattle.pr_manager.specs.spec_world.Scrapes.{end_entries, gone_of, marker, markers, sample_count_of, up_of}
use Rattle.pr_head.specs.private.Intake.{HasTakenFront, Puts}
use Rattle.pr_engine.proofs.ScrapeAnswering.{ends_parts, same_answer}
use Rattle.pr_head.proofs.IntakeIntake.{front_if, front_more, front_then, puts_then, rows_are, rows_counted}
use Rattle.pr_head.proofs.Markers.{markers_all}
use Rattle.pr_engine.proofs.scrape.calls.gone.Goals as goal

pub returns-in_err-put_markers-clause-front : goal.returns-in_err-put_markers-clause-front
unfolding gone_of
returns-in_err-put_markers-clause-front c = λ history h.
    let old = c.args.tracked.now.items in
    let ends : List Entry = marker c.args.time (up_of c.args.target.now) ∷ marker c.args.time (sample_count_of c.args.target.now) ∷ [] in
    let all : markers c.args.time c.deref.result.now c.new.result.keys ≡ map (marker c.args.time) old =
    ap (markers c.args.time c.deref.result.now) c.new.ensures.empty ∙ markers_all c.args.time c.deref.result.now ∙ ap (map (marker c.args.time)) c.deref.ensures.value in
    front_if c.from_residual.result c.args.head.now c.put_markers.new.head history (end_entries c.args.target.now c.args.time old)
    (subst (λ (l : List Entry). HasTakenFront c.args.head.now c.put_markers.new.head history l) (sym (ends_parts c.args.target.now c.args.time old))
    (front_more c.args.head.now c.put_markers.new.head history (map (marker c.args.time) old) ends
    (subst (λ (l : List Entry). HasTakenFront c.args.head.now c.put_markers.new.head history l) all (c.in_err-put_markers.ensures.front history h))))

pub returns-in_err-put_ends-clause-front : goal.returns-in_err-put_ends-clause-front
unfolding gone_of
returns-in_err-put_ends-clause-front c = λ history h.
    let old = c.args.tracked.now.items in
    let ends : List Entry = marker c.args.time (up_of c.args.target.now) ∷ marker c.args.time (sample_count_of c.args.target.now) ∷ [] in
    let all : markers c.args.time c.deref.result.now c.new.result.keys ≡ map (marker c.args.time) old =
    ap (markers c.args.time c.deref.result.now) c.new.ensures.empty ∙ markers_all c.args.time c.deref.result.now ∙ ap (map (marker c.args.time)) c.deref.ensures.value in
    let p : Puts c.args.head.now c.put_markers.new.head c.new-rows.result.items c.put_markers.new.rows.items history (map (marker c.args.time) old) =
    subst (λ (l : List Entry). Puts c.args.head.now c.put_markers.new.head c.new-rows.result.items c.put_markers.new.rows.items history l) all (c.in_ok-put_markers.ensures.puts history h) in
    front_if c.from_residual-in_err-put_ends.result c.args.head.now c.put_ends.new.head history (end_entries c.args.target.now c.args.time old)
    (subst (λ (l : List Entry). HasTakenFront c.args.head.now c.put_ends.new.head history l) (sym (ends_parts c.args.target.now c.args.time old))
    (front_then c.args.head.now c.put_markers.new.head c.put_ends.new.head history (map (marker c.args.time) old) ends p.taken
    (c.in_err-put_ends.ensures.front (put_all history (map (marker c.args.time) old)) p.taken.holds)))

pub returns-clause-taken : goal.returns-clause-taken
unfolding gone_of
returns-clause-taken c = λ history h.
    let old = c.args.tracked.now.items in
    let ends : List Entry = marker c.args.time (up_of c.args.target.now) ∷ marker c.args.time (sample_count_of c.args.target.now) ∷ [] in
    let all : markers c.args.time c.deref.result.now c.new.result.keys ≡ map (marker c.args.time) old =
    ap (markers c.args.time c.deref.result.now) c.new.ensures.empty ∙ markers_all c.args.time c.deref.result.now ∙ ap (map (marker c.args.time)) c.deref.ensures.value in
    let p : Puts c.args.head.now c.put_markers.new.head c.new-rows.result.items c.put_markers.new.rows.items history (map (marker c.args.time) old) =
    subst (λ (l : List Entry). Puts c.args.head.now c.put_markers.new.head c.new-rows.result.items c.put_markers.new.rows.items history l) all (c.in_ok-put_markers.ensures.puts history h) in
    let whole : Puts c.args.head.now c.put_ends.new.head c.new-rows.result.items c.put_ends.new.rows.items history (end_entries c.args.target.now c.args.time old) =
    subst (λ (l : List Entry). Puts c.args.head.now c.put_ends.new.head c.new-rows.result.items c.put_ends.new.rows.items history l) (sym (ends_parts c.args.target.now c.args.time old))
    (puts_then c.args.head.now c.put_markers.new.head c.put_ends.new.head c.new-rows.result.items c.put_markers.new.rows.items c.put_ends.new.rows.items history
    (map (marker c.args.time) old) ends p (c.in_ok-put_ends.ensures.puts (put_all history (map (marker c.args.time) old)) p.taken.holds)) in
    whole.taken

pub returns-clause-answer : goal.returns-clause-answer
unfolding gone_of
returns-clause-answer c = λ history h.
    let old = c.args.tracked.now.items in
    let ends : List Entry = marker c.args.time (up_of c.args.target.now) ∷ marker c.args.time (sample_count_of c.args.target.now) ∷ [] in
    let all : markers c.args.time c.deref.result.now c.new.result.keys ≡ map (marker c.args.time) old =
    ap (markers c.args.time c.deref.result.now) c.new.ensures.empty ∙ markers_all c.args.time c.deref.result.now ∙ ap (map (marker c.args.time)) c.deref.ensures.value in
    let p : Puts c.args.head.now c.put_markers.new.head c.new-rows.result.items c.put_markers.new.rows.items history (map (marker c.args.time) old) =
    subst (λ (l : List Entry). Puts c.args.head.now c.put_markers.new.head c.new-rows.result.items c.put_markers.new.rows.items history l) all (c.in_ok-put_markers.ensures.puts history h) in
    let whole : Puts c.args.head.now c.put_ends.new.head c.new-rows.result.items c.put_ends.new.rows.items history (end_entries c.args.target.now c.args.time old) =
    subst (λ (l : List Entry). Puts c.args.head.now c.put_ends.new.head c.new-rows.result.items c.put_ends.new.rows.items history l) (sym (ends_parts c.args.target.now c.args.time old))
    (puts_then c.args.head.now c.put_markers.new.head c.put_ends.new.head c.new-rows.result.items c.put_markers.new.rows.items c.put_ends.new.rows.items history
    (map (marker c.args.time) old) ends p (c.in_ok-put_ends.ensures.puts (put_all history (map (marker c.args.time) old)) p.taken.holds)) in
    same_answer _ _ _ 0 0 0 0 _ _
    (c.new-3.ensures ∙ rows_are c.args.head.now c.put_ends.new.head c.new-rows.result.items c.put_ends.new.rows.items history (end_entries c.args.target.now c.args.time old) whole c.new-rows.ensures.items)
    refl refl
    (c.len-marked.ensures ∙ c.put_ends.new.rows.ok.0 ∙ rows_counted c.args.head.now c.put_ends.new.head c.new-rows.result.items c.put_ends.new.rows.items history (end_entries c.args.target.now c.args.time old) whole c.new-rows.ensures.items)
