use Rattle.std.proofs.Common.{◌≡◌, true, not, List, length, Vec, Global, ap, subst, sym, ◌∙◌}
use Rattle.std.specs.Prelude.{filter, sum_by}
use Rattle.spec_world.specs.spec_history.declared.entry.Entry.{Entry}
use Rattle.spec_world.specs.spec_rules.Reloads.{reload_by}
use Rattle.pr_group.specs.private.Keeping.{KeptGroup}
use Rattle.spec_world.specs.declared.report.Report.TheVariants as report
use Rattle.pr_manager.specs.private.Keeping.{KeepEach, KeptManager, settings_in}
use Rattle.pr_manager.specs.private.Loading.{fresh_by}
use Rattle.pr_manager.specs.private.Naming.{is_among, name_of, names_of}
use Rattle.pr_manager.specs.private.Replacing.{HasReplaced}
use Rattle.pr_manager.proofs.Replaced.{replaced}
use Rattle.pr_manager.proofs.manager.Manager.replace.Goals as goal

pub returns-clause-replaced : goal.returns-clause-replaced
returns-clause-replaced g c = λ history olds waits files each fresh_each none lawful holds.
    let fits = g.R.Ranges.fits in
    let last = g.R.Ranges.last in
    let passed = g.R.Ranges.passed in
    let s = settings_in c.args.self.now in
    let was = c.replace-olds.result.items in
    let ks = c.args.news.items in
    let dones = c.in_ok-self-inside.field-0.items in
    let gone = c.in_ok-parted.parted.gone.items in
    let e : was ≡ c.args.self.now.groups =
    ap (λ (v : Vec (KeptGroup g.row.R.Denot) Global). v.items) c.replace-olds.ensures.value ∙ ap (λ (m : KeptManager g.row.R.Denot). m.groups) c.self.view_is in
    let d = c.deref.ensures.value in
    let told = c.in_ok-report_of.ensures ∙ (λ i. report.Reloaded (length (c.deref-3.ensures.value i)) (sum_by (λ (k : KeptGroup g.row.R.Denot). length k.def.rules) (c.deref-3.ensures.value i)) (length (c.deref-4.ensures.value i)))
    ∙ ap (λ (l : List Entry). report.Reloaded (length dones) (sum_by (λ (k : KeptGroup g.row.R.Denot). length k.def.rules) dones) (length l)) (sym c.new-2.ensures) in
    subst (λ (l : List (KeptGroup g.row.R.Denot)). HasReplaced fits last passed s history olds (reload_by olds c.args.time (fresh_by waits files)) c.args.head.now c.mark_gone.new.head l dones (record { report = c.in_ok-report_of.field-0; added = c.new-2.result })) e
    (replaced fits last passed c.a_kept_group_stays.ensures.keeps c.a_kept_group_stays.ensures.passed s history olds waits c.args.time files was ks dones gone c.in_ok-parted.parted.waiting c.args.head.now c.mark_gone.new.head c.new-2.result
    c.in_ok-report_of.field-0 (subst (λ l. KeepEach fits last passed s history l olds) (sym e) each) fresh_each none lawful holds
    (λ q among. c.in_ok-parted.ensures.waiting q (subst (λ (l : List (KeptGroup g.row.R.Denot)). is_among q (names_of l) ≡ true) (sym d) among))
    (subst (λ (l : List (KeptGroup g.row.R.Denot)). gone ≡ filter (λ (k : KeptGroup g.row.R.Denot). not (is_among (name_of k) (names_of l))) was) d c.in_ok-parted.ensures.gone)
    c.in_ok-self-inside.ensures
    (λ t h groups k there. c.in_ok-added.ensures.taken t h groups (subst (λ l. KeepEach fits last passed t h l groups) (sym c.deref-2.ensures.value) k) there)
    (λ t h groups k there. c.new-2.ensures ∙ c.in_ok-added.ensures.added t h groups (subst (λ l. KeepEach fits last passed t h l groups) (sym c.deref-2.ensures.value) k) there)
    told)
