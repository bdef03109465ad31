use Rattle.std.proofs.Common.{◌≡◌, ◌∷◌, ◌++◌, List, map, ap, ◌∙◌, subst, sym}
use Rattle.std.specs.Rc.{rc_value}
use Rattle.pr_group.specs.spec_rules.declared.definitions.GroupDef.{GroupDef}
use Rattle.pr_group.specs.spec_rules.Definitions.{group_of_def}
use Rattle.pr_group.specs.pr_rule.private.Templates.{HaveTemplates}
use Rattle.pr_group.specs.spec_rules.Groups.{fresh}
use Rattle.pr_group.specs.spec_rules.Settings.{Settings}
use Rattle.pr_unit.proofs.Building.{KeepsPart, begins_part, ends_part, next_part}
use Rattle.pr_unit.proofs.Lists.{none_of}
use Rattle.pr_unit.proofs.Loading.{first_has, rest_have}
use Rattle.pr_unit.proofs.groups.put_groups.Goals as goal

pub fresh-requires-clause-templates : goal.fresh-requires-clause-templates
fresh-requires-clause-templates g c =
    let parts : map rc_value c.groups.rest.now ≡ c.in-Some.def.now.value ∷ map rc_value c.in-Some.after.now = ap (map rc_value) c.in-Some.ensures.cases.0 in
    subst HaveTemplates (sym c.in_ok-def.ensures.cases) (first_has c.in-Some.def.now.value (map rc_value c.in-Some.after.now) (map rc_value c.groups.rest.now) parts c.groups.invariant.templates)

pub groups-preserved : goal.groups-preserved
groups-preserved g c =
    let d : GroupDef = c.in_ok-def.def.value in
    let old : List GroupDef = map rc_value c.groups.rest.now in
    let new : List GroupDef = map rc_value c.in-Some.after.now in
    let parts : old ≡ d ∷ new = ap (map rc_value) c.in-Some.ensures.cases.0 ∙ ap (λ (x : GroupDef). x ∷ new) (sym c.in_ok-def.ensures.cases) in
    let kept = c.groups.groups.items in
    let file = c.args.file.now in
    let k = c.in_ok-fresh.field-0 in
    record {
      templates = rest_have d new old parts c.groups.invariant.templates;
      kept = λ history gs h.
          let s : Settings = record { subquery_step = c.args.step; external = c.args.external.now } in
          let all = gs ++ map (fresh 0 file) (map group_of_def (map rc_value c.args.defs.now)) in
          subst (λ ks. KeepsPart g.R.Ranges.fits g.R.Ranges.last g.R.Ranges.passed ks history s file new all) (sym c.in_ok-push.ensures.items)
          (next_part g.R.Ranges.fits g.R.Ranges.last g.R.Ranges.passed kept history s file d new all k
          (subst (λ ds. KeepsPart g.R.Ranges.fits g.R.Ranges.last g.R.Ranges.passed kept history s file ds all) parts (c.groups.invariant.kept history gs h))
          (c.in_ok-fresh.ensures.keeps history) c.in_ok-fresh.ensures.settings);
    }

pub returns : goal.returns
returns g c = λ history gs h.
    let rest : List GroupDef = map rc_value c.groups.rest.now in
    ends_part g.R.Ranges.fits g.R.Ranges.last g.R.Ranges.passed c.groups.groups.items history (record { subquery_step = c.args.step; external = c.args.external.now }) c.args.file.now rest
    (gs ++ map (fresh 0 c.args.file.now) (map group_of_def (map rc_value c.args.defs.now))) (ap (map rc_value) (none_of c.groups.rest.now c.in_default.ensures.cases)) (c.groups.invariant.kept history gs h)
