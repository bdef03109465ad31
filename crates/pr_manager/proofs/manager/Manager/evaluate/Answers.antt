use Rattle.std.proofs.Common.{◌≡◌, Some, None, ap, subst, sym, ◌∙◌}
use Rattle.spec_world.specs.Step.{Step}
use Rattle.spec_world.specs.declared.report.Report.{Report}
use Rattle.pr_manager.specs.private.Keeping.{HasGoneOn, ManagesGroupsOf, KeptManager, settings_in}
use Rattle.pr_manager.specs.private.Naming.{passed_by_named}
use Rattle.pr_manager.specs.private.Rounds.{admitted_in, eval_step}
use Rattle.pr_manager.proofs.Evaluated.{HasStepped, answered, few_named, found_place, gone_nowhere, if_ok, is_nowhere, on_ok, place_within, step_missing}
use Rattle.pr_manager.proofs.Passing.{answered_passing, refused_passes}
use Rattle.pr_manager.proofs.manager.Manager.evaluate.Goals as goal

pub evaluate_at-requires : goal.evaluate_at-requires
evaluate_at-requires g c =
    let groups = ap (λ (x : KeptManager g.row.R.Denot). x.groups) c.self.view_is in
    let at = found_place c.args.file c.args.group c.as_str.result.now c.as_str-2.result.now c.args.self.now.groups c.deref.result.now c.place_of.result (Some c.in-Some.place) c.as_str.ensures c.as_str-2.ensures
    (c.deref.ensures.value ∙ groups) c.place_of.ensures c.in-Some.is in
    place_within c.args.file c.args.group c.args.self.now.groups c.in-Some.place at

pub returns-in-Some-clause-report : goal.returns-in-Some-clause-report
returns-in-Some-clause-report g c = λ w keeps may.
    let groups = ap (λ (x : KeptManager g.row.R.Denot). x.groups) c.self.view_is in
    let at = found_place c.args.file c.args.group c.as_str.result.now c.as_str-2.result.now c.args.self.now.groups c.deref.result.now c.place_of.result (Some c.in-Some.place) c.as_str.ensures c.as_str-2.ensures
    (c.deref.ensures.value ∙ groups) c.place_of.ensures c.in-Some.is in
    let fits = g.R.Ranges.fits in
    let last = g.R.Ranges.last in
    let passed = g.R.Ranges.passed in
    let m = c.args.self.now in
    let after = c.evaluate_at.new.self in
    let old = c.args.head.now in
    let new = c.evaluate_at.new.head in
    let step : Step = eval_step (settings_in m) w c.args.time c.args.file c.args.group in
    let Done : Report → Type 0 = HasStepped fits last passed w m after old new step in
    if_ok Done (λ r. r ≡ step.report) c.evaluate_at.result (λ r h. h.report)
    (answered fits last passed g.R.Ranges.keeps c.a_kept_group_stays.ensures.keeps w m after old new c.args.file c.args.group c.args.time c.in-Some.place c.args.reads.now c.evaluate_at.new.reads c.evaluate_at.result at
    c.evaluate_at.ensures.evaluated c.evaluate_at.ensures.since c.evaluate_at.ensures.settings keeps may)

pub returns-in-Some-clause-rows : goal.returns-in-Some-clause-rows
returns-in-Some-clause-rows g c = λ w keeps may.
    let groups = ap (λ (x : KeptManager g.row.R.Denot). x.groups) c.self.view_is in
    let at = found_place c.args.file c.args.group c.as_str.result.now c.as_str-2.result.now c.args.self.now.groups c.deref.result.now c.place_of.result (Some c.in-Some.place) c.as_str.ensures c.as_str-2.ensures
    (c.deref.ensures.value ∙ groups) c.place_of.ensures c.in-Some.is in
    let fits = g.R.Ranges.fits in
    let last = g.R.Ranges.last in
    let passed = g.R.Ranges.passed in
    let m = c.args.self.now in
    let after = c.evaluate_at.new.self in
    let old = c.args.head.now in
    let new = c.evaluate_at.new.head in
    let step : Step = eval_step (settings_in m) w c.args.time c.args.file c.args.group in
    let Done : Report → Type 0 = HasStepped fits last passed w m after old new step in
    if_ok Done (λ r. admitted_in r ≡ step.rows) c.evaluate_at.result (λ r h. h.rows)
    (answered fits last passed g.R.Ranges.keeps c.a_kept_group_stays.ensures.keeps w m after old new c.args.file c.args.group c.args.time c.in-Some.place c.args.reads.now c.evaluate_at.new.reads c.evaluate_at.result at
    c.evaluate_at.ensures.evaluated c.evaluate_at.ensures.since c.evaluate_at.ensures.settings keeps may)

pub returns-in-Some-clause-keeps : goal.returns-in-Some-clause-keeps
returns-in-Some-clause-keeps g c = λ w keeps may.
    let groups = ap (λ (x : KeptManager g.row.R.Denot). x.groups) c.self.view_is in
    let at = found_place c.args.file c.args.group c.as_str.result.now c.as_str-2.result.now c.args.self.now.groups c.deref.result.now c.place_of.result (Some c.in-Some.place) c.as_str.ensures c.as_str-2.ensures
    (c.deref.ensures.value ∙ groups) c.place_of.ensures c.in-Some.is in
    let fits = g.R.Ranges.fits in
    let last = g.R.Ranges.last in
    let passed = g.R.Ranges.passed in
    let m = c.args.self.now in
    let after = c.evaluate_at.new.self in
    let old = c.args.head.now in
    let new = c.evaluate_at.new.head in
    let step : Step = eval_step (settings_in m) w c.args.time c.args.file c.args.group in
    let Done : Report → Type 0 = HasStepped fits last passed w m after old new step in
    on_ok Done (ManagesGroupsOf fits last passed after step.world) c.evaluate_at.result (λ r h. h.keeps)
    (answered fits last passed g.R.Ranges.keeps c.a_kept_group_stays.ensures.keeps w m after old new c.args.file c.args.group c.args.time c.in-Some.place c.args.reads.now c.evaluate_at.new.reads c.evaluate_at.result at
    c.evaluate_at.ensures.evaluated c.evaluate_at.ensures.since c.evaluate_at.ensures.settings keeps may)

pub returns-in-Some-clause-head : goal.returns-in-Some-clause-head
returns-in-Some-clause-head g c = λ w keeps may.
    let groups = ap (λ (x : KeptManager g.row.R.Denot). x.groups) c.self.view_is in
    let at = found_place c.args.file c.args.group c.as_str.result.now c.as_str-2.result.now c.args.self.now.groups c.deref.result.now c.place_of.result (Some c.in-Some.place) c.as_str.ensures c.as_str-2.ensures
    (c.deref.ensures.value ∙ groups) c.place_of.ensures c.in-Some.is in
    let fits = g.R.Ranges.fits in
    let last = g.R.Ranges.last in
    let passed = g.R.Ranges.passed in
    let m = c.args.self.now in
    let after = c.evaluate_at.new.self in
    let old = c.args.head.now in
    let new = c.evaluate_at.new.head in
    let step : Step = eval_step (settings_in m) w c.args.time c.args.file c.args.group in
    let Done : Report → Type 0 = HasStepped fits last passed w m after old new step in
    on_ok Done (HasGoneOn old new w.history step.world.history) c.evaluate_at.result (λ r h. h.head)
    (answered fits last passed g.R.Ranges.keeps c.a_kept_group_stays.ensures.keeps w m after old new c.args.file c.args.group c.args.time c.in-Some.place c.args.reads.now c.evaluate_at.new.reads c.evaluate_at.result at
    c.evaluate_at.ensures.evaluated c.evaluate_at.ensures.since c.evaluate_at.ensures.settings keeps may)

pub returns-in-Some-clause-refused : goal.returns-in-Some-clause-refused
returns-in-Some-clause-refused g c = λ w keeps may refused.
    let groups = ap (λ (x : KeptManager g.row.R.Denot). x.groups) c.self.view_is in
    let at = found_place c.args.file c.args.group c.as_str.result.now c.as_str-2.result.now c.args.self.now.groups c.deref.result.now c.place_of.result (Some c.in-Some.place) c.as_str.ensures c.as_str-2.ensures
    (c.deref.ensures.value ∙ groups) c.place_of.ensures c.in-Some.is in
    let fits = g.R.Ranges.fits in
    let last = g.R.Ranges.last in
    let passed = g.R.Ranges.passed in
    let m = c.args.self.now in
    let after = c.evaluate_at.new.self in
    let old = c.args.head.now in
    let new = c.evaluate_at.new.head in
    let step : Step = eval_step (settings_in m) w c.args.time c.args.file c.args.group in
    let Done : Report → Type 0 = HasStepped fits last passed w m after old new step in
    on_ok Done ((after ≡ m) × (new ≡ old)) c.evaluate_at.result (λ r h. h.refused refused)
    (answered fits last passed g.R.Ranges.keeps c.a_kept_group_stays.ensures.keeps w m after old new c.args.file c.args.group c.args.time c.in-Some.place c.args.reads.now c.evaluate_at.new.reads c.evaluate_at.result at
    c.evaluate_at.ensures.evaluated c.evaluate_at.ensures.since c.evaluate_at.ensures.settings keeps may)

pub returns-in-Some-clause-reads : goal.returns-in-Some-clause-reads
returns-in-Some-clause-reads g c = λ w keeps may.
    let groups = ap (λ (x : KeptManager g.row.R.Denot). x.groups) c.self.view_is in
    let at = found_place c.args.file c.args.group c.as_str.result.now c.as_str-2.result.now c.args.self.now.groups c.deref.result.now c.place_of.result (Some c.in-Some.place) c.as_str.ensures c.as_str-2.ensures
    (c.deref.ensures.value ∙ groups) c.place_of.ensures c.in-Some.is in
    let fits = g.R.Ranges.fits in
    let last = g.R.Ranges.last in
    let passed = g.R.Ranges.passed in
    let m = c.args.self.now in
    let after = c.evaluate_at.new.self in
    let old = c.args.head.now in
    let new = c.evaluate_at.new.head in
    few_named fits last passed w m old c.args.file c.args.group c.args.time c.in-Some.place c.args.reads.now c.evaluate_at.new.reads at c.evaluate_at.ensures.reads keeps may

pub returns-in-Some-clause-passed : goal.returns-in-Some-clause-passed
returns-in-Some-clause-passed g c = λ w keeps may.
    let groups = ap (λ (x : KeptManager g.row.R.Denot). x.groups) c.self.view_is in
    let at = found_place c.args.file c.args.group c.as_str.result.now c.as_str-2.result.now c.args.self.now.groups c.deref.result.now c.place_of.result (Some c.in-Some.place) c.as_str.ensures c.as_str-2.ensures
    (c.deref.ensures.value ∙ groups) c.place_of.ensures c.in-Some.is in
    let fits = g.R.Ranges.fits in
    let last = g.R.Ranges.last in
    let passed = g.R.Ranges.passed in
    let m = c.args.self.now in
    let after = c.evaluate_at.new.self in
    let old = c.args.head.now in
    let new = c.evaluate_at.new.head in
    answered_passing fits last passed g.R.Ranges.keeps c.a_kept_group_stays.ensures.passed w m after old new c.args.file c.args.group c.args.time c.in-Some.place c.args.reads.now c.evaluate_at.new.reads c.evaluate_at.result at
    c.evaluate_at.ensures.evaluated c.evaluate_at.ensures.since c.evaluate_at.ensures.settings keeps may

pub returns-in-None-clause-report : goal.returns-in-None-clause-report
returns-in-None-clause-report g c = λ w keeps may.
    let groups = ap (λ (x : KeptManager g.row.R.Denot). x.groups) c.self.view_is in
    let at = found_place c.args.file c.args.group c.as_str.result.now c.as_str-2.result.now c.args.self.now.groups c.deref.result.now c.place_of.result None c.as_str.ensures c.as_str-2.ensures
    (c.deref.ensures.value ∙ groups) c.place_of.ensures c.in-None.is in
    let fits = g.R.Ranges.fits in
    let last = g.R.Ranges.last in
    let passed = g.R.Ranges.passed in
    let m = c.args.self.now in
    let s = settings_in m in
    let missing = is_nowhere fits last passed s w.history c.args.file c.args.group m.groups w.groups keeps.each at in
    let is = step_missing s w c.args.time c.args.file c.args.group missing in
    sym (ap (λ (x : Step). x.report) is)

pub returns-in-None-clause-rows : goal.returns-in-None-clause-rows
returns-in-None-clause-rows g c = λ w keeps may.
    let groups = ap (λ (x : KeptManager g.row.R.Denot). x.groups) c.self.view_is in
    let at = found_place c.args.file c.args.group c.as_str.result.now c.as_str-2.result.now c.args.self.now.groups c.deref.result.now c.place_of.result None c.as_str.ensures c.as_str-2.ensures
    (c.deref.ensures.value ∙ groups) c.place_of.ensures c.in-None.is in
    let fits = g.R.Ranges.fits in
    let last = g.R.Ranges.last in
    let passed = g.R.Ranges.passed in
    let m = c.args.self.now in
    let s = settings_in m in
    let missing = is_nowhere fits last passed s w.history c.args.file c.args.group m.groups w.groups keeps.each at in
    let is = step_missing s w c.args.time c.args.file c.args.group missing in
    sym (ap (λ (x : Step). x.rows) is)

pub returns-in-None-clause-keeps : goal.returns-in-None-clause-keeps
returns-in-None-clause-keeps g c = λ w keeps may.
    let groups = ap (λ (x : KeptManager g.row.R.Denot). x.groups) c.self.view_is in
    let at = found_place c.args.file c.args.group c.as_str.result.now c.as_str-2.result.now c.args.self.now.groups c.deref.result.now c.place_of.result None c.as_str.ensures c.as_str-2.ensures
    (c.deref.ensures.value ∙ groups) c.place_of.ensures c.in-None.is in
    let fits = g.R.Ranges.fits in
    let last = g.R.Ranges.last in
    let passed = g.R.Ranges.passed in
    let m = c.args.self.now in
    let s = settings_in m in
    let missing = is_nowhere fits last passed s w.history c.args.file c.args.group m.groups w.groups keeps.each at in
    let is = step_missing s w c.args.time c.args.file c.args.group missing in
    subst (λ (x : Step). ManagesGroupsOf fits last passed m x.world) (sym is) keeps

pub returns-in-None-clause-head : goal.returns-in-None-clause-head
returns-in-None-clause-head g c = λ w keeps may.
    let groups = ap (λ (x : KeptManager g.row.R.Denot). x.groups) c.self.view_is in
    let at = found_place c.args.file c.args.group c.as_str.result.now c.as_str-2.result.now c.args.self.now.groups c.deref.result.now c.place_of.result None c.as_str.ensures c.as_str-2.ensures
    (c.deref.ensures.value ∙ groups) c.place_of.ensures c.in-None.is in
    let fits = g.R.Ranges.fits in
    let last = g.R.Ranges.last in
    let passed = g.R.Ranges.passed in
    let m = c.args.self.now in
    let s = settings_in m in
    let missing = is_nowhere fits last passed s w.history c.args.file c.args.group m.groups w.groups keeps.each at in
    let is = step_missing s w c.args.time c.args.file c.args.group missing in
    subst (λ (x : Step). HasGoneOn c.args.head.now c.args.head.now w.history x.world.history) (sym is) (gone_nowhere c.args.head.now w.history c.args.time may)

pub returns-in-None-clause-passed : goal.returns-in-None-clause-passed
returns-in-None-clause-passed g c = λ w keeps may.
    let groups = ap (λ (x : KeptManager g.row.R.Denot). x.groups) c.self.view_is in
    let at = found_place c.args.file c.args.group c.as_str.result.now c.as_str-2.result.now c.args.self.now.groups c.deref.result.now c.place_of.result None c.as_str.ensures c.as_str-2.ensures
    (c.deref.ensures.value ∙ groups) c.place_of.ensures c.in-None.is in
    let fits = g.R.Ranges.fits in
    let last = g.R.Ranges.last in
    let passed = g.R.Ranges.passed in
    let m = c.args.self.now in
    let s = settings_in m in
    let missing = is_nowhere fits last passed s w.history c.args.file c.args.group m.groups w.groups keeps.each at in
    let is = step_missing s w c.args.time c.args.file c.args.group missing in
    refused_passes g.R.Ranges.keeps s w c.args.time c.args.file c.args.group (passed_by_named passed m w.history) (passed_by_named passed m (eval_step s w c.args.time c.args.file c.args.group).world.history)
    (ap (λ (x : Step). x.refused) is) (ap (λ (x : Step). passed_by_named passed m x.world.history) is)
