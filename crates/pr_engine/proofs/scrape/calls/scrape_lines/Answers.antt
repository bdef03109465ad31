use Rattle.std.proofs.Common.{◌≡◌, ◌++◌, ◌-◌, [], ℕ, List, fold, length, ap, ◌∙◌, subst}
use Rattle.pr_labels.specs.declared.pair.Pair.{Pair}
use Rattle.pr_labels.specs.Rising.{with_labels}
use Rattle.pr_head.specs.spec_history.declared.entry.Entry.{Entry}
use Rattle.pr_head.specs.spec_history.Admission.{put_all}
use Rattle.pr_manager.specs.spec_world.Scrapes.{about, offered_entries, markers, offers, tracked_after}
use Rattle.std.specs.declared.option.Option.TheVariants.{None}
use Rattle.pr_head.specs.private.Intake.{HasTakenFront, Puts}
use Rattle.pr_engine.proofs.ScrapeAnswering.{same_answer}
use Rattle.pr_head.proofs.IntakeIntake.{front_if, front_more, front_then, puts_then, rows_are, rows_between, rows_counted}
use Rattle.pr_engine.proofs.scrape.calls.scrape_lines.Goals as goal

pub returns-in_err-tally-clause-front : goal.returns-in_err-tally-clause-front
returns-in_err-tally-clause-front c = λ history h.
    let target = c.args.target.now in
    let now = c.args.now in
    let body : List Entry = offered_entries (offers target now c.args.lines.now) in
    let more : List Entry = markers now c.args.known.now (tracked_after history (offers target now c.args.lines.now)) ++ about target now 1 (length c.args.lines.now) in
    front_if c.from_residual-in_err-tally.result c.args.head.now c.put_lines.new.head history (body ++ more)
    (front_more c.args.head.now c.put_lines.new.head history body more (c.in_err-tally.ensures.front history h))

pub returns-in_err-track-clause-front : goal.returns-in_err-track-clause-front
returns-in_err-track-clause-front c = λ history h.
    let target = c.args.target.now in
    let now = c.args.now in
    let old = c.args.known.now in
    let body : List Entry = offered_entries (offers target now c.args.lines.now) in
    let tracked : List (List Pair) = tracked_after history (offers target now c.args.lines.now) in
    let ms : List Entry = markers now old tracked in
    let ab : List Entry = about target now 1 (length c.args.lines.now) in
    let p : Puts c.args.head.now c.put_lines.new.head c.in_ok-rows.rows.items c.put_lines.new.rows.items history body = c.in_ok-tally.ensures.puts history h in
    let same : markers now c.put_lines.new.self (fold with_labels [] c.in_ok-tally.tally.kept.items) ≡ ms =
    ap (λ (l : List (List Pair)). markers now l (fold with_labels [] c.in_ok-tally.tally.kept.items)) c.in_ok-tally.ensures.stays
    ∙ ap (λ (l : List (List Pair)). markers now old (fold with_labels [] l)) (c.in_ok-tally.ensures.kept history h) in
    front_if c.from_residual-in_err-track.result c.args.head.now c.track.new.head history (body ++ (ms ++ ab))
    (front_then c.args.head.now c.put_lines.new.head c.track.new.head history body (ms ++ ab) p.taken
    (front_more c.put_lines.new.head c.track.new.head (put_all history body) ms ab
    (subst (λ (l : List Entry). HasTakenFront c.put_lines.new.head c.track.new.head (put_all history body) l) same
    (c.in_err-track.ensures.front (put_all history body) p.taken.holds))))

pub returns-in_err-put_about-clause-front : goal.returns-in_err-put_about-clause-front
returns-in_err-put_about-clause-front c = λ history h.
    let target = c.args.target.now in
    let now = c.args.now in
    let old = c.args.known.now in
    let body : List Entry = offered_entries (offers target now c.args.lines.now) in
    let tracked : List (List Pair) = tracked_after history (offers target now c.args.lines.now) in
    let ms : List Entry = markers now old tracked in
    let ab : List Entry = about target now 1 (length c.args.lines.now) in
    let p : Puts c.args.head.now c.put_lines.new.head c.in_ok-rows.rows.items c.put_lines.new.rows.items history body = c.in_ok-tally.ensures.puts history h in
    let same : markers now c.put_lines.new.self (fold with_labels [] c.in_ok-tally.tally.kept.items) ≡ ms =
    ap (λ (l : List (List Pair)). markers now l (fold with_labels [] c.in_ok-tally.tally.kept.items)) c.in_ok-tally.ensures.stays
    ∙ ap (λ (l : List (List Pair)). markers now old (fold with_labels [] l)) (c.in_ok-tally.ensures.kept history h) in
    let q : Puts c.put_lines.new.head c.track.new.head c.put_lines.new.rows.items c.track.new.rows.items (put_all history body) ms =
    subst (λ (l : List Entry). Puts c.put_lines.new.head c.track.new.head c.put_lines.new.rows.items c.track.new.rows.items (put_all history body) l) same
    (c.in_ok-track.ensures.puts (put_all history body) p.taken.holds) in
    front_if c.from_residual-in_err-put_about.result c.args.head.now c.put_about.new.head history (body ++ (ms ++ ab))
    (front_then c.args.head.now c.put_lines.new.head c.put_about.new.head history body (ms ++ ab) p.taken
    (front_then c.put_lines.new.head c.track.new.head c.put_about.new.head (put_all history body) ms ab q.taken
    (c.in_err-put_about.ensures.front (put_all (put_all history body) ms) q.taken.holds)))

pub returns-clause-taken : goal.returns-clause-taken
returns-clause-taken c = λ history h.
    let target = c.args.target.now in
    let now = c.args.now in
    let old = c.args.known.now in
    let body : List Entry = offered_entries (offers target now c.args.lines.now) in
    let tracked : List (List Pair) = tracked_after history (offers target now c.args.lines.now) in
    let ms : List Entry = markers now old tracked in
    let ab : List Entry = about target now 1 (length c.args.lines.now) in
    let p : Puts c.args.head.now c.put_lines.new.head c.in_ok-rows.rows.items c.put_lines.new.rows.items history body = c.in_ok-tally.ensures.puts history h in
    let same : markers now c.put_lines.new.self (fold with_labels [] c.in_ok-tally.tally.kept.items) ≡ ms =
    ap (λ (l : List (List Pair)). markers now l (fold with_labels [] c.in_ok-tally.tally.kept.items)) c.in_ok-tally.ensures.stays
    ∙ ap (λ (l : List (List Pair)). markers now old (fold with_labels [] l)) (c.in_ok-tally.ensures.kept history h) in
    let q : Puts c.put_lines.new.head c.track.new.head c.put_lines.new.rows.items c.track.new.rows.items (put_all history body) ms =
    subst (λ (l : List Entry). Puts c.put_lines.new.head c.track.new.head c.put_lines.new.rows.items c.track.new.rows.items (put_all history body) l) same
    (c.in_ok-track.ensures.puts (put_all history body) p.taken.holds) in
    let r : Puts c.track.new.head c.put_about.new.head c.track.new.rows.items c.put_about.new.rows.items (put_all (put_all history body) ms) ab =
    c.in_ok-put_about.ensures.puts (put_all (put_all history body) ms) q.taken.holds in
    let whole : Puts c.args.head.now c.put_about.new.head c.in_ok-rows.rows.items c.put_about.new.rows.items history (body ++ (ms ++ ab)) =
    puts_then c.args.head.now c.put_lines.new.head c.put_about.new.head c.in_ok-rows.rows.items c.put_lines.new.rows.items c.put_about.new.rows.items history body (ms ++ ab) p
    (puts_then c.put_lines.new.head c.track.new.head c.put_about.new.head c.put_lines.new.rows.items c.track.new.rows.items c.put_about.new.rows.items (put_all history body) ms ab q r) in
    whole.taken

pub returns-clause-answer : goal.returns-clause-answer
returns-clause-answer c = λ history h.
    let target = c.args.target.now in
    let now = c.args.now in
    let old = c.args.known.now in
    let body : List Entry = offered_entries (offers target now c.args.lines.now) in
    let tracked : List (List Pair) = tracked_after history (offers target now c.args.lines.now) in
    let ms : List Entry = markers now old tracked in
    let ab : List Entry = about target now 1 (length c.args.lines.now) in
    let p : Puts c.args.head.now c.put_lines.new.head c.in_ok-rows.rows.items c.put_lines.new.rows.items history body = c.in_ok-tally.ensures.puts history h in
    let same : markers now c.put_lines.new.self (fold with_labels [] c.in_ok-tally.tally.kept.items) ≡ ms =
    ap (λ (l : List (List Pair)). markers now l (fold with_labels [] c.in_ok-tally.tally.kept.items)) c.in_ok-tally.ensures.stays
    ∙ ap (λ (l : List (List Pair)). markers now old (fold with_labels [] l)) (c.in_ok-tally.ensures.kept history h) in
    let q : Puts c.put_lines.new.head c.track.new.head c.put_lines.new.rows.items c.track.new.rows.items (put_all history body) ms =
    subst (λ (l : List Entry). Puts c.put_lines.new.head c.track.new.head c.put_lines.new.rows.items c.track.new.rows.items (put_all history body) l) same
    (c.in_ok-track.ensures.puts (put_all history body) p.taken.holds) in
    let r : Puts c.track.new.head c.put_about.new.head c.track.new.rows.items c.put_about.new.rows.items (put_all (put_all history body) ms) ab =
    c.in_ok-put_about.ensures.puts (put_all (put_all history body) ms) q.taken.holds in
    let whole : Puts c.args.head.now c.put_about.new.head c.in_ok-rows.rows.items c.put_about.new.rows.items history (body ++ (ms ++ ab)) =
    puts_then c.args.head.now c.put_lines.new.head c.put_about.new.head c.in_ok-rows.rows.items c.put_lines.new.rows.items c.put_about.new.rows.items history body (ms ++ ab) p
    (puts_then c.put_lines.new.head c.track.new.head c.put_about.new.head c.put_lines.new.rows.items c.track.new.rows.items c.put_about.new.rows.items (put_all history body) ms ab q r) in
    same_answer _ _ None _ _ _ _ _ _
    (c.new.ensures ∙ rows_are c.args.head.now c.put_about.new.head c.in_ok-rows.rows.items c.put_about.new.rows.items history (body ++ (ms ++ ab)) whole c.in_ok-rows.ensures.items)
    (c.len-added.ensures ∙ c.put_lines.new.rows.ok.0 ∙ rows_counted c.args.head.now c.put_lines.new.head c.in_ok-rows.rows.items c.put_lines.new.rows.items history body p c.in_ok-rows.ensures.items)
    (c.in_ok-tally.ensures.dropped history h)
    (c.saturating_sub-stale.ensures
    ∙ ap (λ (n : ℕ). n - c.len-added.result) (c.len.ensures ∙ c.track.new.rows.ok.0)
    ∙ ap (λ (n : ℕ). length c.track.new.rows.items - n) (c.len-added.ensures ∙ c.put_lines.new.rows.ok.0)
    ∙ rows_between c.put_lines.new.head c.track.new.head c.put_lines.new.rows.items c.track.new.rows.items (put_all history body) ms q)

pub returns-clause-tracked : goal.returns-clause-tracked
returns-clause-tracked c = λ history h.
    c.in_ok-track.ensures.tracked ∙ ap (fold with_labels []) (c.in_ok-tally.ensures.kept history h)
