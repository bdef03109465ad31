use Rattle.std.proofs.Common.{◌≡◌, List, true, false, ◌&&◌, ◌<◌, OnOk, ◌++◌, filter, map, length, slice_get, Some, refl, sym, ap, subst, ◌∙◌}
use Rattle.std.specs.Str.{bytes_eq}
use Rattle.std.proofs.lemmas.Option.{slice_get_read}
use Rattle.pr_group.specs.spec_rules.declared.definitions.RuleDef.{RuleDef}
use Rattle.pr_group.specs.spec_alerts.Records.{is_firing}
use Rattle.spec_tests.specs.Verdict.{found_of}
use Rattle.pr_unit.proofs.Alerts.{both_true, has_alerts, none_fire, rule_is, these_fire}
use Rattle.pr_unit.proofs.Answers.{on_ok}
use Rattle.pr_unit.proofs.firing.push_rule.Goals as goal

pub returns-then-not-is_alert_named : goal.returns-then-not-is_alert_named
returns-then-not-is_alert_named g c = λ history group r h at.
    let k = c.args.group.now in
    let n = c.args.number in
    let code = c.index-as_slice-number.result in
    let rules = c.as_slice.result.now in
    let same : rules ≡ k.def.rules = c.as_slice.ensures ∙ ap (λ d. d.rules) c.def.ensures.same in
    let within : n < length rules = subst (λ (l : List RuleDef). n < length l) (sym same) c.requires in
    let here : slice_get rules n ≡ Some code = slice_get_read rules (length rules) n code refl within c.index-as_slice-number.is in
    let there : slice_get k.def.rules n ≡ Some code = ap (λ (l : List RuleDef). slice_get l n) (sym same) ∙ here in
    let is = rule_is g.R.Ranges.fits g.R.Ranges.last g.R.Ranges.passed k history group n code r h there at in
    let none : (code.alert && bytes_eq code.name c.args.name.now) ≡ false = cc in
    none_fire code r c.args.name.now c.args.founds.now.items is none

pub returns-in-Some : goal.returns-in-Some
returns-in-Some g c = λ history group r h at.
    let k = c.args.group.now in
    let n = c.args.number in
    let code = c.index-as_slice-number.result in
    let rules = c.as_slice.result.now in
    let same : rules ≡ k.def.rules = c.as_slice.ensures ∙ ap (λ d. d.rules) c.def.ensures.same in
    let within : n < length rules = subst (λ (l : List RuleDef). n < length l) (sym same) c.requires in
    let here : slice_get rules n ≡ Some code = slice_get_read rules (length rules) n code refl within c.index-as_slice-number.is in
    let there : slice_get k.def.rules n ≡ Some code = ap (λ (l : List RuleDef). slice_get l n) (sym same) ∙ here in
    let is = rule_is g.R.Ranges.fits g.R.Ranges.last g.R.Ranges.passed k history group n code r h there at in
    let named : (code.alert && bytes_eq code.name c.args.name.now) ≡ true = cc in
    let stands = c.in-Some.ensures.stands history group r h at in
    on_ok c.push_firing.result _ _
    (these_fire code r c.args.name.now c.in-Some.records.now c.args.founds.now.items c.push_firing.new.founds.items is named (c.records_of_a_lineage_stand_for_it.ensures.alone c.in-Some.records.now r.lineage stands))
    (subst (λ l. OnOk c.push_firing.result (c.push_firing.new.founds.items ≡ c.args.founds.now.items ++ map found_of (filter (λ a. is_firing a.state) l))) c.list.ensures c.push_firing.ensures)

pub returns-in-None : goal.returns-in-None
returns-in-None g c = λ history group r h at.
    let k = c.args.group.now in
    let n = c.args.number in
    let code = c.index-as_slice-number.result in
    let rules = c.as_slice.result.now in
    let same : rules ≡ k.def.rules = c.as_slice.ensures ∙ ap (λ d. d.rules) c.def.ensures.same in
    let within : n < length rules = subst (λ (l : List RuleDef). n < length l) (sym same) c.requires in
    let here : slice_get rules n ≡ Some code = slice_get_read rules (length rules) n code refl within c.index-as_slice-number.is in
    let there : slice_get k.def.rules n ≡ Some code = ap (λ (l : List RuleDef). slice_get l n) (sym same) ∙ here in
    let named : (code.alert && bytes_eq code.name c.args.name.now) ≡ true = cc in
    absurd (has_alerts g.R.Ranges.fits g.R.Ranges.last g.R.Ranges.passed k history group n code h there (both_true code.alert (bytes_eq code.name c.args.name.now) named) c.in-None.ensures.same)
