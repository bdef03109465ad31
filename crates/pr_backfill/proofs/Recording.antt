-- The groups of a backfill, to which nothing has happened.
use Rattle.std.proofs.Common.{◌≡◌, ℕ, Bool, true, false, List, filter, map, Result, Ok, Err, IfOk, refl, ap, subst, ◌∙◌}
use Rattle.std.specs.Prelude.{not}
use Rattle.std.specs.List.{All}
use Rattle.std.specs.declared.alloc.AllocError.{AllocError}
use Rattle.std.proofs.lemmas.List.Elements.{All-weaker, filter_passes}
use Rattle.spec_rules.specs.spec_history.declared.entry.Entry.{Entry}
use Rattle.pr_engine.specs.pr_range.private.Asks.{LastAsks, Passed}
use Rattle.spec_rules.specs.pr_tmpl.declared.template.External.{External}
use Rattle.pr_engine.specs.pr_rule.private.Templates.{HasTemplates}
use Rattle.spec_rules.specs.declared.definitions.GroupDef.{GroupDef}
use Rattle.spec_rules.specs.declared.definitions.RuleDef.{RuleDef}
use Rattle.spec_rules.specs.Definitions.{Group as Definition, group_of_def, rule_of_def}
use Rattle.spec_rules.specs.Groups.{fresh}
use Rattle.spec_rules.specs.Settings.{Settings, of_a_run}
use Rattle.pr_engine.specs.pr_group.private.Keeping.{KeepsGroup, KeptGroup, settings_of}
use Rattle.pr_engine.specs.pr_manager.private.Keeping.{KeepsUnder, settings_with}
use Rattle.pr_backfill.specs.Filled.{is_recording, recording_only}
use Rattle.pr_backfill.proofs.Lists.{filter_map_as}

abbrev pub records : RuleDef → Bool
records d = not d.alert

pub rules_recorded : (ds : List RuleDef) → map rule_of_def (filter records ds) ≡ filter is_recording (map rule_of_def ds)
rules_recorded ds = filter_map_as rule_of_def records is_recording (λ d. refl) ds

-- a definition with the recording rules of another one
pub group_recorded : (d : GroupDef) (rules : List RuleDef) → rules ≡ filter records d.rules
    → group_of_def (record { name = d.name; interval = d.interval; limit = d.limit; rules = rules }) ≡ recording_only (group_of_def d)
group_recorded d rules is =
    let same = ap (map rule_of_def) is ∙ rules_recorded d.rules in
    λ i. record { name = d.name; interval = d.interval; limit = d.limit; rules = same i }

-- What records has no templates, so it needs none.
no_alert : (b : Bool) → not b ≡ true → b ≡ true → ⊥
no_alert true h e = absurd cc
no_alert false h e = absurd cc

has_templates : (d : RuleDef) → records d ≡ true → HasTemplates (rule_of_def d)
has_templates d h = λ e. absurd (no_alert d.alert h e)

pub have_templates : (ds : List RuleDef) → All (λ r. HasTemplates (rule_of_def r)) (filter records ds)
have_templates ds = All-weaker (λ d. records d ≡ true) (λ r. HasTemplates (rule_of_def r)) has_templates (filter records ds) (filter_passes records ds)

-- a new group, under the settings that it was made with
pub fresh_under : {R : Type 0} (fits : R → List Entry → Type 0) (last : R → LastAsks) (passed : R → Passed) (history : List Entry) (result : Result (KeptGroup R) AllocError) (t s : Settings) (file : List ℕ) (d e : Definition)
    → t ≡ s → d ≡ e → IfOk result (λ k. KeepsGroup fits last passed k history (fresh 0 file d)) → IfOk result (λ k. settings_of k ≡ t) → IfOk result (λ k. KeepsUnder fits last passed s history k (fresh 0 file e))
fresh_under fits last passed history (Err error) t s file d e p q keeps told = tt
fresh_under fits last passed history (Ok k) t s file d e p q keeps told = record { keeps = subst (λ x. KeepsGroup fits last passed k history (fresh 0 file x)) q keeps; told = told ∙ p }

-- a minute, and nothing that is external
pub run_settings : (step : ℕ) (external : External) → step ≡ of_a_run.subquery_step → external ≡ of_a_run.external → settings_with step external ≡ of_a_run
run_settings step external p q = λ i. settings_with (p i) (q i)
