use Rattle.std.proofs.Common.{◌≡◌, [], Ok, not, List, subst}
use Rattle.spec_world.specs.spec_history.declared.entry.Entry.{Entry}
use Rattle.pr_group.specs.private.Keeping.{waits_of}
use Rattle.spec_world.specs.Rounds.{all_loaded}
use Rattle.spec_world.specs.Step.{Step}
use Rattle.spec_world.specs.declared.event.NamedFile.{NamedFile}
use Rattle.pr_manager.specs.declared.answered.Answered.{Answered}
use Rattle.pr_manager.specs.private.Keeping.{HasGoneOn, KeepEach, ManagesGroupsOf, KeptManager, settings_in}
use Rattle.pr_manager.specs.private.Loading.{IsRefusalOf, fresh_by, loaded_files}
use Rattle.pr_manager.specs.private.Rounds.{files_step}
use Rattle.pr_manager.proofs.Apart.{news_apart}
use Rattle.pr_manager.proofs.Evaluated.{if_ok, on_ok}
use Rattle.pr_manager.proofs.Reloaded.{HasRefused, HasReloaded, never_refused, refused_all, refused_reload_passes, reloaded, reloaded_passes}
use Rattle.pr_manager.proofs.manager.Manager.reload.Goals as goal

pub replace-requires : goal.replace-requires
replace-requires g c =
    let fits = g.R.Ranges.fits in
    let last = g.R.Ranges.last in
    let passed = g.R.Ranges.passed in
    let m = c.args.self.now in
    let files = c.args.files in
    let old = c.args.head.now in
    let ks = c.in-Ok.news.items in
    let Fresh : List Entry → KeptManager g.row.R.Denot → List NamedFile → Type 0 = λ h x l. KeepEach fits last passed (settings_in x) h ks (fresh_by (waits_of (not x.reloaded)) (loaded_files l)) in
    let each = subst (Fresh [] m) c.as_slice.ensures (subst (λ x. Fresh [] x c.as_slice.result.now) c.self.view_is (c.in-Ok.ensures.fresh [])) in
    news_apart fits last passed (settings_in m) [] ks (waits_of (not m.reloaded)) files c.groups_are_sound.ensures.distinct c.requires each

pub returns-in-Ok-clause-report : goal.returns-in-Ok-clause-report
returns-in-Ok-clause-report g c = λ w keeps lawful holds.
    let fits = g.R.Ranges.fits in
    let last = g.R.Ranges.last in
    let passed = g.R.Ranges.passed in
    let m = c.args.self.now in
    let files = c.args.files in
    let old = c.args.head.now in
    let ks = c.in-Ok.news.items in
    let Fresh : List Entry → KeptManager g.row.R.Denot → List NamedFile → Type 0 = λ h x l. KeepEach fits last passed (settings_in x) h ks (fresh_by (waits_of (not x.reloaded)) (loaded_files l)) in
    let after = c.replace.new.self in
    let new = c.replace.new.head in
    let each = subst (Fresh w.history m) c.as_slice.ensures (subst (λ x. Fresh w.history x c.as_slice.result.now) c.self.view_is (c.in-Ok.ensures.fresh w.history)) in
    let loaded = subst (λ (l : List NamedFile). all_loaded l ≡ Ok (loaded_files l)) c.as_slice.ensures c.in-Ok.ensures.files in
    let step : Step = files_step w c.args.time files in
    let Done : Answered → Type 0 = HasReloaded fits last passed w after old new step in
    let done = reloaded fits last passed w m after old new c.args.time files c.replace.result loaded keeps
    (c.replace.ensures.replaced w.history w.groups (waits_of (not m.reloaded)) (loaded_files files) keeps.each each c.in-Ok.ensures.unpassed lawful holds) c.replace.ensures.since c.replace.ensures.settings in
    if_ok Done (λ a. a.report ≡ step.report) c.replace.result (λ a h. h.report) done

pub returns-in-Ok-clause-rows : goal.returns-in-Ok-clause-rows
returns-in-Ok-clause-rows g c = λ w keeps lawful holds.
    let fits = g.R.Ranges.fits in
    let last = g.R.Ranges.last in
    let passed = g.R.Ranges.passed in
    let m = c.args.self.now in
    let files = c.args.files in
    let old = c.args.head.now in
    let ks = c.in-Ok.news.items in
    let Fresh : List Entry → KeptManager g.row.R.Denot → List NamedFile → Type 0 = λ h x l. KeepEach fits last passed (settings_in x) h ks (fresh_by (waits_of (not x.reloaded)) (loaded_files l)) in
    let after = c.replace.new.self in
    let new = c.replace.new.head in
    let each = subst (Fresh w.history m) c.as_slice.ensures (subst (λ x. Fresh w.history x c.as_slice.result.now) c.self.view_is (c.in-Ok.ensures.fresh w.history)) in
    let loaded = subst (λ (l : List NamedFile). all_loaded l ≡ Ok (loaded_files l)) c.as_slice.ensures c.in-Ok.ensures.files in
    let step : Step = files_step w c.args.time files in
    let Done : Answered → Type 0 = HasReloaded fits last passed w after old new step in
    let done = reloaded fits last passed w m after old new c.args.time files c.replace.result loaded keeps
    (c.replace.ensures.replaced w.history w.groups (waits_of (not m.reloaded)) (loaded_files files) keeps.each each c.in-Ok.ensures.unpassed lawful holds) c.replace.ensures.since c.replace.ensures.settings in
    if_ok Done (λ a. a.added ≡ step.rows) c.replace.result (λ a h. h.rows) done

pub returns-in-Ok-clause-keeps : goal.returns-in-Ok-clause-keeps
returns-in-Ok-clause-keeps g c = λ w keeps lawful holds.
    let fits = g.R.Ranges.fits in
    let last = g.R.Ranges.last in
    let passed = g.R.Ranges.passed in
    let m = c.args.self.now in
    let files = c.args.files in
    let old = c.args.head.now in
    let ks = c.in-Ok.news.items in
    let Fresh : List Entry → KeptManager g.row.R.Denot → List NamedFile → Type 0 = λ h x l. KeepEach fits last passed (settings_in x) h ks (fresh_by (waits_of (not x.reloaded)) (loaded_files l)) in
    let after = c.replace.new.self in
    let new = c.replace.new.head in
    let each = subst (Fresh w.history m) c.as_slice.ensures (subst (λ x. Fresh w.history x c.as_slice.result.now) c.self.view_is (c.in-Ok.ensures.fresh w.history)) in
    let loaded = subst (λ (l : List NamedFile). all_loaded l ≡ Ok (loaded_files l)) c.as_slice.ensures c.in-Ok.ensures.files in
    let step : Step = files_step w c.args.time files in
    let Done : Answered → Type 0 = HasReloaded fits last passed w after old new step in
    let done = reloaded fits last passed w m after old new c.args.time files c.replace.result loaded keeps
    (c.replace.ensures.replaced w.history w.groups (waits_of (not m.reloaded)) (loaded_files files) keeps.each each c.in-Ok.ensures.unpassed lawful holds) c.replace.ensures.since c.replace.ensures.settings in
    on_ok Done (ManagesGroupsOf fits last passed after step.world) c.replace.result (λ a h. h.keeps) done

pub returns-in-Ok-clause-head : goal.returns-in-Ok-clause-head
returns-in-Ok-clause-head g c = λ w keeps lawful holds.
    let fits = g.R.Ranges.fits in
    let last = g.R.Ranges.last in
    let passed = g.R.Ranges.passed in
    let m = c.args.self.now in
    let files = c.args.files in
    let old = c.args.head.now in
    let ks = c.in-Ok.news.items in
    let Fresh : List Entry → KeptManager g.row.R.Denot → List NamedFile → Type 0 = λ h x l. KeepEach fits last passed (settings_in x) h ks (fresh_by (waits_of (not x.reloaded)) (loaded_files l)) in
    let after = c.replace.new.self in
    let new = c.replace.new.head in
    let each = subst (Fresh w.history m) c.as_slice.ensures (subst (λ x. Fresh w.history x c.as_slice.result.now) c.self.view_is (c.in-Ok.ensures.fresh w.history)) in
    let loaded = subst (λ (l : List NamedFile). all_loaded l ≡ Ok (loaded_files l)) c.as_slice.ensures c.in-Ok.ensures.files in
    let step : Step = files_step w c.args.time files in
    let Done : Answered → Type 0 = HasReloaded fits last passed w after old new step in
    let done = reloaded fits last passed w m after old new c.args.time files c.replace.result loaded keeps
    (c.replace.ensures.replaced w.history w.groups (waits_of (not m.reloaded)) (loaded_files files) keeps.each each c.in-Ok.ensures.unpassed lawful holds) c.replace.ensures.since c.replace.ensures.settings in
    on_ok Done (HasGoneOn old new w.history step.world.history) c.replace.result (λ a h. h.head) done

pub returns-in-Ok-clause-passed : goal.returns-in-Ok-clause-passed
returns-in-Ok-clause-passed g c = λ w keeps lawful holds.
    let fits = g.R.Ranges.fits in
    let last = g.R.Ranges.last in
    let passed = g.R.Ranges.passed in
    let m = c.args.self.now in
    let files = c.args.files in
    let old = c.args.head.now in
    let ks = c.in-Ok.news.items in
    let Fresh : List Entry → KeptManager g.row.R.Denot → List NamedFile → Type 0 = λ h x l. KeepEach fits last passed (settings_in x) h ks (fresh_by (waits_of (not x.reloaded)) (loaded_files l)) in
    let after = c.replace.new.self in
    let new = c.replace.new.head in
    let each = subst (Fresh w.history m) c.as_slice.ensures (subst (λ x. Fresh w.history x c.as_slice.result.now) c.self.view_is (c.in-Ok.ensures.fresh w.history)) in
    let loaded = subst (λ (l : List NamedFile). all_loaded l ≡ Ok (loaded_files l)) c.as_slice.ensures c.in-Ok.ensures.files in
    reloaded_passes fits last passed w m after old new c.args.time files c.replace.result loaded keeps
    (c.replace.ensures.replaced w.history w.groups (waits_of (not m.reloaded)) (loaded_files files) keeps.each each c.in-Ok.ensures.unpassed lawful holds)

pub returns-in-Ok-clause-refused : goal.returns-in-Ok-clause-refused
returns-in-Ok-clause-refused g c = λ w keeps lawful holds refused.
    let fits = g.R.Ranges.fits in
    let last = g.R.Ranges.last in
    let passed = g.R.Ranges.passed in
    let m = c.args.self.now in
    let files = c.args.files in
    let old = c.args.head.now in
    let ks = c.in-Ok.news.items in
    let Fresh : List Entry → KeptManager g.row.R.Denot → List NamedFile → Type 0 = λ h x l. KeepEach fits last passed (settings_in x) h ks (fresh_by (waits_of (not x.reloaded)) (loaded_files l)) in
    let after = c.replace.new.self in
    let new = c.replace.new.head in
    let each = subst (Fresh w.history m) c.as_slice.ensures (subst (λ x. Fresh w.history x c.as_slice.result.now) c.self.view_is (c.in-Ok.ensures.fresh w.history)) in
    let loaded = subst (λ (l : List NamedFile). all_loaded l ≡ Ok (loaded_files l)) c.as_slice.ensures c.in-Ok.ensures.files in
    let step : Step = files_step w c.args.time files in
    let Done : Answered → Type 0 = HasReloaded fits last passed w after old new step in
    let done = reloaded fits last passed w m after old new c.args.time files c.replace.result loaded keeps
    (c.replace.ensures.replaced w.history w.groups (waits_of (not m.reloaded)) (loaded_files files) keeps.each each c.in-Ok.ensures.unpassed lawful holds) c.replace.ensures.since c.replace.ensures.settings in
    on_ok Done ((after ≡ m) × (new ≡ old)) c.replace.result (λ a h. absurd (never_refused step.refused h.accepted refused)) done

pub returns-clause-report : goal.returns-clause-report
returns-clause-report g c = λ w keeps lawful holds.
    let fits = g.R.Ranges.fits in
    let last = g.R.Ranges.last in
    let passed = g.R.Ranges.passed in
    let m = c.args.self.now in
    let files = c.args.files in
    let old = c.args.head.now in
    let step : Step = files_step w c.args.time files in
    let Done : Answered → Type 0 = HasRefused fits last passed w m old step in
    let refusal = subst (λ (l : List NamedFile). IsRefusalOf (all_loaded l) c.in-Err.error) c.as_slice.ensures c.in-Err.ensures.refused in
    let done = refused_all fits last passed w m old c.args.time files c.refuse.result keeps lawful holds (c.refuse.ensures.report (all_loaded files) refusal) c.refuse.ensures.added in
    if_ok Done (λ a. a.report ≡ step.report) c.refuse.result (λ a h. h.report) done

pub returns-clause-rows : goal.returns-clause-rows
returns-clause-rows g c = λ w keeps lawful holds.
    let fits = g.R.Ranges.fits in
    let last = g.R.Ranges.last in
    let passed = g.R.Ranges.passed in
    let m = c.args.self.now in
    let files = c.args.files in
    let old = c.args.head.now in
    let step : Step = files_step w c.args.time files in
    let Done : Answered → Type 0 = HasRefused fits last passed w m old step in
    let refusal = subst (λ (l : List NamedFile). IsRefusalOf (all_loaded l) c.in-Err.error) c.as_slice.ensures c.in-Err.ensures.refused in
    let done = refused_all fits last passed w m old c.args.time files c.refuse.result keeps lawful holds (c.refuse.ensures.report (all_loaded files) refusal) c.refuse.ensures.added in
    if_ok Done (λ a. a.added ≡ step.rows) c.refuse.result (λ a h. h.rows) done

pub returns-clause-keeps : goal.returns-clause-keeps
returns-clause-keeps g c = λ w keeps lawful holds.
    let fits = g.R.Ranges.fits in
    let last = g.R.Ranges.last in
    let passed = g.R.Ranges.passed in
    let m = c.args.self.now in
    let files = c.args.files in
    let old = c.args.head.now in
    let step : Step = files_step w c.args.time files in
    let Done : Answered → Type 0 = HasRefused fits last passed w m old step in
    let refusal = subst (λ (l : List NamedFile). IsRefusalOf (all_loaded l) c.in-Err.error) c.as_slice.ensures c.in-Err.ensures.refused in
    let done = refused_all fits last passed w m old c.args.time files c.refuse.result keeps lawful holds (c.refuse.ensures.report (all_loaded files) refusal) c.refuse.ensures.added in
    on_ok Done (ManagesGroupsOf fits last passed m step.world) c.refuse.result (λ a h. h.keeps) done

pub returns-clause-head : goal.returns-clause-head
returns-clause-head g c = λ w keeps lawful holds.
    let fits = g.R.Ranges.fits in
    let last = g.R.Ranges.last in
    let passed = g.R.Ranges.passed in
    let m = c.args.self.now in
    let files = c.args.files in
    let old = c.args.head.now in
    let step : Step = files_step w c.args.time files in
    let Done : Answered → Type 0 = HasRefused fits last passed w m old step in
    let refusal = subst (λ (l : List NamedFile). IsRefusalOf (all_loaded l) c.in-Err.error) c.as_slice.ensures c.in-Err.ensures.refused in
    let done = refused_all fits last passed w m old c.args.time files c.refuse.result keeps lawful holds (c.refuse.ensures.report (all_loaded files) refusal) c.refuse.ensures.added in
    on_ok Done (HasGoneOn old old w.history step.world.history) c.refuse.result (λ a h. h.head) done

pub returns-clause-passed : goal.returns-clause-passed
returns-clause-passed g c = λ w keeps lawful holds.
    let passed = g.R.Ranges.passed in
    let m = c.args.self.now in
    let files = c.args.files in
    let refusal = subst (λ (l : List NamedFile). IsRefusalOf (all_loaded l) c.in-Err.error) c.as_slice.ensures c.in-Err.ensures.refused in
    refused_reload_passes passed w m c.args.time files c.refuse.result (c.refuse.ensures.report (all_loaded files) refusal)
