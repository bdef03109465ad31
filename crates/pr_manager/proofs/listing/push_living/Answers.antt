use Rattle.std.proofs.Common.{◌≡◌, ◌++◌, ◌∷◌, [], List, map, ap, sym, subst, ◌∙◌}
use Rattle.std.specs.Prelude.{filter}
use Rattle.spec_world.specs.spec_alerts.declared.record.Record.{Record}
use Rattle.spec_world.specs.spec_alerts.Records.{is_living}
use Rattle.spec_world.specs.declared.report.AlertLine.{AlertLine}
use Rattle.spec_world.specs.Rounds.{alert_line}
use Rattle.pr_manager.proofs.Listed.{living_then, passed_over}
use Rattle.pr_manager.proofs.listing.push_living.Goals as goal

pub listing-preserved : goal.listing-preserved
listing-preserved c =
    let all = c.args.lines.now ++ map alert_line (filter is_living c.args.records.now) in
    passed_over c.listing.lines c.in-Some.alert.now c.in-Some.after.now all (sym c.is_living.ensures ∙ c.if-is_living.false)
    (subst (λ (l : List Record). c.listing.lines ++ map alert_line (filter is_living l) ≡ all) c.in-Some.ensures.cases.0 c.listing.invariant)

pub listing-preserved-in_ok-push : goal.listing-preserved-in_ok-push
listing-preserved-in_ok-push c =
    let all = c.args.lines.now ++ map alert_line (filter is_living c.args.records.now) in
    living_then c.listing.lines c.push.new.self c.in-Some.alert.now c.in-Some.after.now all (c.in_ok-push.ensures.ok ∙ ap (λ (l : AlertLine). c.listing.lines ++ l ∷ []) c.in_ok-line_of.ensures)
    (sym c.is_living.ensures ∙ c.if-is_living.true)
    (subst (λ (l : List Record). c.listing.lines ++ map alert_line (filter is_living l) ≡ all) c.in-Some.ensures.cases.0 c.listing.invariant)
