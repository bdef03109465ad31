use Rattle.std.proofs.Common.{rules, arith, ◌≡◌, ◌++◌, ◌∷◌, ◌∙◌, [], Some, List, ap, sym, subst}
use Rattle.std.proofs.lemmas.Grind.{common_steps}
use Rattle.spec_rules.specs.spec_alerts.declared.record.Record.{Record}
use Rattle.spec_rules.specs.spec_alerts.Lineage.{moved}
use Rattle.spec_rules.specs.spec_alerts.Restoring.{restored_time}
use Rattle.pr_rule.specs.private.Restoring.{moved_at, moves_of}
use Rattle.pr_rule.specs.private.AlertStanding.{StandsFor}
use Rattle.pr_rule.proofs.Moves.{restored_stands}
use Rattle.pr_rule.proofs.alert.records.Records.restore.Goals as goal

pub returns-in-Some-clause-stands : goal.returns-in-Some-clause-stands
returns-in-Some-clause-stands c = λ lineage r s e living.
    let time : restored_time c.args.hold c.args.point.now c.args.down c.args.now ≡ Some c.in-Some.active
    = first_of (search rules, grind (arith, common_steps)) in
    let k : c.set_active.new.self ≡ moved_at c.args.self.now c.args.index r (restored_time c.args.hold c.args.point.now c.args.down c.args.now)
    = c.set_active.ensures r e ∙ ap (moved_at c.args.self.now c.args.index r) (sym time) in
    subst (λ (rs : List Record). StandsFor rs (lineage ++ moved (moves_of r (restored_time c.args.hold c.args.point.now c.args.down c.args.now)) ∷ []))
    (sym k) (restored_stands lineage c.args.self.now c.args.index r (restored_time c.args.hold c.args.point.now c.args.down c.args.now) s e living)
