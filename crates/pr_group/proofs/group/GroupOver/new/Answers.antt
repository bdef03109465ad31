use Rattle.std.proofs.Common.{List, None, length, refl, subst, ap, ◌∙◌}
use Rattle.pr_rule.specs.spec_rules.declared.definitions.GroupDef.{GroupDef}
use Rattle.pr_rule.specs.spec_rules.declared.definitions.RuleDef.{RuleDef}
use Rattle.pr_group.specs.private.Evaluating.{AreNew}
use Rattle.pr_group.specs.private.Keeping.{waits_of}
use Rattle.pr_group.proofs.Beginning.{new_kept, new_unpassed}
use Rattle.pr_group.proofs.group.GroupOver.new.Goals as goal

pub returns-clause-keeps : goal.returns-clause-keeps
returns-clause-keeps g c = λ history.
    let R = g.R.Ranges in
    let rules = c.in_ok-rules.rules.items in
    let all : AreNew R.fits R.last R.passed c.args.def.value.rules rules (length c.args.def.value.rules) = subst (λ (ds : List RuleDef). AreNew R.fits R.last R.passed ds rules (length ds)) (c.as_slice.ensures ∙ ap (λ (d : GroupDef). d.rules) c.deref.ensures) c.in_ok-rules.ensures in
    new_kept R.fits R.last R.passed (record { def = c.args.def.value; file = c.args.file; step = c.args.step; external = c.args.external; rules = rules; last = None; waits = c.waits_of.result; leftovers = c.empty.result })
    history (waits_of c.args.waits) (length c.args.def.value.rules) c.waits_of.ensures refl c.empty.ensures refl all

pub returns-clause-passed : goal.returns-clause-passed
returns-clause-passed g c = λ history i n labels.
    let R = g.R.Ranges in
    let rules = c.in_ok-rules.rules.items in
    let all : AreNew R.fits R.last R.passed c.args.def.value.rules rules (length c.args.def.value.rules) = subst (λ (ds : List RuleDef). AreNew R.fits R.last R.passed ds rules (length ds)) (c.as_slice.ensures ∙ ap (λ (d : GroupDef). d.rules) c.deref.ensures) c.in_ok-rules.ensures in
    new_unpassed R.fits R.last R.passed c.args.def.value.rules rules (length c.args.def.value.rules) history i n labels refl all
