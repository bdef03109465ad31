use Rattle.std.proofs.Common.{◌∙◌, ℕ, List, OnOk, take, sym, ap, subst}
use Rattle.std.specs.Io.KnownBytes.{Appends}
use Rattle.pr_outside.specs.declared.status.status.Status.TheVariants as status
use Rattle.pr_top.specs.Means.{usage_status}
use Rattle.pr_top.specs.Usage.{usage_text}
use Rattle.pr_top.proofs.Commands.{means_usage}
use Rattle.pr_top.proofs.over.refuse_words.Goals as goal

pub returns-in-Ok : goal.returns-in-Ok
returns-in-Ok g c =
    let out = g.O.Sink.means in
    let sent = c.send.ensures in
    λ others. means_usage usage_text (record others { out = out c.args.out.now }) (record others { out = out c.send.new.out }) c.send.result status.Usage
    (sym (ap usage_status c.in-Ok.is)) (sent.ends others)
    (subst (λ (l : List ℕ). OnOk c.send.result (Appends (out c.args.out.now).taken (out c.send.new.out).taken l)) c.usage.ensures sent.whole)
    (sent.front.0, subst (λ (l : List ℕ). Appends (out c.args.out.now).taken (out c.send.new.out).taken (take sent.front.0 l)) c.usage.ensures sent.front.1)

pub returns-in-Err : goal.returns-in-Err
returns-in-Err g c =
    let out = g.O.Sink.means in
    let sent = c.send.ensures in
    λ others. means_usage usage_text (record others { out = out c.args.out.now }) (record others { out = out c.send.new.out }) c.send.result c.status.result
    (c.status.ensures ∙ sym (ap usage_status c.in-Err.is)) (sent.ends others)
    (subst (λ (l : List ℕ). OnOk c.send.result (Appends (out c.args.out.now).taken (out c.send.new.out).taken l)) c.usage.ensures sent.whole)
    (sent.front.0, subst (λ (l : List ℕ). Appends (out c.args.out.now).taken (out c.send.new.out).taken (take sent.front.0 l)) c.usage.ensures sent.front.1)
