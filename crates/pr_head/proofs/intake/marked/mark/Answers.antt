use Rattle.std.proofs.Common.{List, ◌∙◌, ap, subst, ◌≡◌}
use Rattle.spec_history.specs.declared.entry.Entry.{Entry}
use Rattle.spec_history.specs.Puts.{markers}
use Rattle.pr_head.specs.private.Intake.{Puts}
use Rattle.pr_head.proofs.Gone.{markers_set, puts_behind_if, series_marked_if}
use Rattle.pr_head.proofs.intake.marked.mark.Goals as goal

pub returns-clause-puts : goal.returns-clause-puts
returns-clause-puts c = λ history h.
    let gone = markers c.args.now c.args.old.now c.args.new.now in
    let all : markers c.args.now c.args.old.now c.in_ok-news.news.keys ≡ gone =
    ap (markers c.args.now c.args.old.now) c.in_ok-news.ensures ∙ markers_set c.args.now c.args.old.now c.args.new.now in
    let p : Puts c.args.head.now c.put_markers.new.head c.new-marked.result.items c.put_markers.new.rows.items history gone =
    subst (λ (l : List Entry). Puts c.args.head.now c.put_markers.new.head c.new-marked.result.items c.put_markers.new.rows.items history l) all (c.in_ok-put_markers.ensures.puts history h) in
    puts_behind_if c.move_rows.result c.args.head.now c.put_markers.new.head c.new-marked.result.items c.put_markers.new.rows.items c.args.rows.now.items c.move_rows.new.rows.items history gone c.new-marked.ensures.items p
    c.move_rows.ensures.rows

pub returns-clause-marked : goal.returns-clause-marked
returns-clause-marked c = λ history h.
    let gone = markers c.args.now c.args.old.now c.args.new.now in
    let all : markers c.args.now c.args.old.now c.in_ok-news.news.keys ≡ gone =
    ap (markers c.args.now c.args.old.now) c.in_ok-news.ensures ∙ markers_set c.args.now c.args.old.now c.args.new.now in
    let p : Puts c.args.head.now c.put_markers.new.head c.new-marked.result.items c.put_markers.new.rows.items history gone =
    subst (λ (l : List Entry). Puts c.args.head.now c.put_markers.new.head c.new-marked.result.items c.put_markers.new.rows.items history l) all (c.in_ok-put_markers.ensures.puts history h) in
    series_marked_if c.move_rows.result c.args.head.now c.put_markers.new.head c.new-marked.result.items c.put_markers.new.rows.items history gone c.new-marked.ensures.items p
    c.move_rows.ensures.series
