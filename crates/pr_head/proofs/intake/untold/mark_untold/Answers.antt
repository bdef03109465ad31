use Rattle.std.proofs.Common.{List, OnOk, ap, ◌∙◌, subst}
use Rattle.spec_history.specs.declared.entry.Entry.{Entry}
use Rattle.spec_history.specs.Puts.{markers}
use Rattle.pr_head.specs.private.Intake.{HasTaken}
use Rattle.pr_head.proofs.Gone.{markers_set}
use Rattle.pr_head.proofs.intake.untold.mark_untold.Goals as goal

pub returns : goal.returns
returns c = λ history h.
    subst (λ (l : List Entry). OnOk c.append_markers.result (HasTaken c.args.head.now c.append_markers.new.head history l))
    (ap (markers c.args.now c.args.old.now) c.in_ok-news.ensures ∙ markers_set c.args.now c.args.old.now c.args.new.now)
    (c.append_markers.ensures history h)
