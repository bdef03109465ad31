use Rattle.std.proofs.Common.{List, ◌≡◌, ◌++◌, [], map, arith, subst, sym}
use Rattle.std.specs.List.{All}
use Rattle.std.proofs.lemmas.List.Elements.{All-push, All-tail}
use Rattle.pr_group.specs.pr_rule.private.Templates.{HaveTemplates}
use Rattle.spec_world.specs.spec_rules.Definitions.{group_of_def}
use Rattle.spec_world.specs.spec_rules.declared.definitions.GroupDef.{GroupDef}
use Rattle.spec_world.specs.spec_rules.Groups.{fresh}
use Rattle.pr_group.specs.private.Keeping.{KeptGroup, waits_of}
use Rattle.pr_manager.specs.private.Keeping.{settings_with}
use Rattle.pr_manager.specs.private.Loading.{HasPassedNothing}
use Rattle.pr_manager.proofs.Loaded.{AreKeptSoFar, empty, kept_all, kept_none, kept_one}
use Rattle.pr_manager.proofs.loading.push_groups.Goals as goal

pub loop-def-preserved : goal.loop-def-preserved
loop-def-preserved g c =
    let fits = g.R.Ranges.fits in
    let last = g.R.Ranges.last in
    let passed = g.R.Ranges.passed in
    let s = settings_with c.args.making.now.step c.args.making.now.external.now in
    let make = fresh (waits_of c.args.making.now.waits) c.args.name.now in
    let at = c.loop-def in
    let rest = c.in-Some.ensures.steps.0 in
    record {
      templates = All-tail HaveTemplates c.in-Some.def c.next.new.self.rest.items (subst (λ (l : List GroupDef). All HaveTemplates l) rest at.invariant.templates);
      unpassed = λ h.
          subst (λ (l : List (KeptGroup g.row.R.Denot)). All (HasPassedNothing passed) l) (sym c.in_ok-push.ensures.items)
          (All-push (HasPassedNothing passed) at.news.items c.in_ok-fresh_group.field-0 (at.invariant.unpassed h) c.in_ok-fresh_group.ensures.unpassed);
      keeps = λ history all h.
          kept_one fits last passed s history at.news.items c.push.new.self.items c.in_ok-fresh_group.field-0 (make (group_of_def c.in-Some.def)) (map make (map group_of_def c.next.new.self.rest.items)) all
          c.in_ok-push.ensures.items (c.in_ok-fresh_group.ensures.fresh history)
          (subst (λ (l : List GroupDef). AreKeptSoFar fits last passed s history at.news.items (map make (map group_of_def l)) all) rest (at.invariant.keeps history all h));
    }

pub returns-clause-fresh : goal.returns-clause-fresh
returns-clause-fresh g c = λ history groups each.
    let fits = g.R.Ranges.fits in
    let last = g.R.Ranges.last in
    let passed = g.R.Ranges.passed in
    let s = settings_with c.args.making.now.step c.args.making.now.external.now in
    let make = fresh (waits_of c.args.making.now.waits) c.args.name.now in
    let left = map make (map group_of_def c.args.defs.items) in
    let none : c.loop-def.def-iterator.rest.items ≡ [] = empty c.loop-def.def-iterator.rest.items (let fit = c.loop-def.def-iterator.rest.ok.0 in let few = c.in-None.ensures.steps.0 in omega (arith, fit, few)) in
    let all = groups ++ left in
    kept_all fits last passed s history c.loop-def.news.items all
    (subst (λ (l : List GroupDef). AreKeptSoFar fits last passed s history c.loop-def.news.items (map make (map group_of_def l)) all) none
    (c.loop-def.invariant.keeps history all (kept_none fits last passed s history c.args.news.now.items groups left each)))
