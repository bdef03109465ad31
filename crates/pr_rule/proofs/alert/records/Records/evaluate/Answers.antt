use Rattle.std.proofs.Common.{rules, arith, ◌≡◌, ◌++◌, ◌∷◌, [], List, refl, sym, ◌∙◌, subst, ◌||◌, ◌==◌, nat_le, true, false}
use Rattle.std.proofs.lemmas.Grind.{common_steps}
use Rattle.spec_rules.specs.spec_alerts.declared.record.Record.{Record}
use Rattle.spec_rules.specs.spec_alerts.Lineage.{came_to}
use Rattle.spec_rules.specs.spec_alerts.Records.{evaluation, living_count, records_after}
use Rattle.pr_rule.specs.private.Merging.{merged, moment}
use Rattle.pr_rule.specs.private.AlertStanding.{StandsUnsent}
use Rattle.pr_rule.proofs.Limits.{within_beyond, past_beyond}
use Rattle.pr_rule.proofs.Merged.{merged_stands}
use Rattle.pr_rule.proofs.Whole.{living_after}
use Rattle.pr_rule.proofs.alert.records.Records.evaluate.Goals as goal

pub returns-clause-stands : goal.returns-clause-stands
returns-clause-stands c = λ lineage wrote s p.
    let e : c.merge.new.out.items ≡ merged (moment c.args.time c.args.hold c.args.keep) c.args.found.items c.args.self.now
    = first_of (search rules, cc (c.self.view_is, c.merge.ensures, c.replace-old.ensures.value, c.in-Ok.ensures.empty)) in
    subst (λ (rs : List Record). StandsUnsent rs (lineage ++ evaluation c.args.time c.args.hold c.args.keep (came_to c.args.found.items) wrote ∷ []))
    (sym e) (merged_stands lineage c.args.self.now c.args.found.items c.args.time c.args.hold c.args.keep wrote s p)

pub returns-clause-allowed : goal.returns-clause-allowed
returns-clause-allowed c = λ lineage s p.
    let w : (c.args.limit == 0 || nat_le (living_count (merged (moment c.args.time c.args.hold c.args.keep) c.args.found.items c.args.self.now)) c.args.limit) ≡ true
    = first_of (search rules, grind (arith, common_steps)) in
    within_beyond c.args.limit (living_count (merged (moment c.args.time c.args.hold c.args.keep) c.args.found.items c.args.self.now))
    (living_count (records_after lineage c.args.time c.args.hold c.args.keep c.args.found.items))
    (living_after lineage c.args.self.now c.args.found.items c.args.time c.args.hold c.args.keep s p) w

pub returns-then-exceeds-clause-exceeds : goal.returns-then-exceeds-clause-exceeds
returns-then-exceeds-clause-exceeds c = λ lineage s p.
    let h : c.living-have.result ≡ living_count (merged (moment c.args.time c.args.hold c.args.keep) c.args.found.items c.args.self.now)
    = first_of (search rules, grind (arith, common_steps)) in
    let f : (c.args.limit == 0 || nat_le c.living-have.result c.args.limit) ≡ false
    = first_of (search rules, grind (arith, common_steps)) in (
      refl,
      past_beyond c.args.limit c.living-have.result (living_count (records_after lineage c.args.time c.args.hold c.args.keep c.args.found.items))
          (h ∙ living_after lineage c.args.self.now c.args.found.items c.args.time c.args.hold c.args.keep s p) f,
      search rules,
    )
