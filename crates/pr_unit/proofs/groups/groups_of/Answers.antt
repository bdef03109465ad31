use Rattle.std.proofs.Common.{◌≡◌, ◌++◌, ◌∷◌, List, map, subst, sym}
use Rattle.std.specs.Prelude.{All}
use Rattle.std.specs.Rc.{rc_value}
use Rattle.pr_group.specs.spec_rules.Definitions.{group_of_def}
use Rattle.pr_group.specs.pr_rule.private.Templates.{HaveTemplates}
use Rattle.pr_group.specs.spec_rules.Groups.{fresh}
use Rattle.pr_group.specs.spec_rules.Settings.{Settings}
use Rattle.pr_group.specs.spec_rules.Replays.{unwaiting_groups}
use Rattle.pr_unit.specs.declared.rules.RuleGroups.{RuleGroups}
use Rattle.pr_unit.specs.private.Kept.{KeepsGroups}
use Rattle.pr_unit.specs.private.Loaded.{AreAllSound, file_of}
use Rattle.pr_unit.proofs.Building.{KeepsFiles, begins_files, ends_files, next_files}
use Rattle.pr_unit.proofs.Lists.{none_of}
use Rattle.pr_unit.proofs.groups.groups_of.Goals as goal

pub put_groups-requires-clause-templates : goal.put_groups-requires-clause-templates
put_groups-requires-clause-templates g c =
    let sound : AreAllSound (c.in-Some.file.now ∷ c.in-Some.after.now) = subst AreAllSound c.in-Some.ensures.cases.0 c.files.invariant.sound in
    subst (λ (ds : List _). All HaveTemplates (map rc_value ds)) (sym c.as_slice-defs.ensures) sound.0.templates

pub files-init : goal.files-init
files-init g c = record {
  sound = c.requires.sound;
  kept = λ history.
      let s : Settings = record { subquery_step = c.args.step; external = c.args.external.now } in
      subst (λ ks. KeepsFiles g.R.Ranges.fits g.R.Ranges.last g.R.Ranges.passed ks history s c.args.files.now (unwaiting_groups (map file_of c.args.files.now))) (sym c.new-groups.ensures.items)
      (begins_files g.R.Ranges.fits g.R.Ranges.last g.R.Ranges.passed history s c.args.files.now);
}

pub files-preserved : goal.files-preserved
files-preserved g c =
    let parts : c.files.rest.now ≡ c.in-Some.file.now ∷ c.in-Some.after.now = c.in-Some.ensures.cases.0 in
    let sound : AreAllSound (c.in-Some.file.now ∷ c.in-Some.after.now) = subst AreAllSound parts c.files.invariant.sound in
    let all = map file_of c.args.files.now in
    record {
      sound = sound.1;
      kept = λ history.
          let s : Settings = record { subquery_step = c.args.step; external = c.args.external.now } in
          next_files g.R.Ranges.fits g.R.Ranges.last g.R.Ranges.passed c.files.groups.items c.put_groups.new.groups.items history s c.in-Some.file.now c.in-Some.after.now (unwaiting_groups all)
          (subst (λ (fs : List RuleGroups). KeepsFiles g.R.Ranges.fits g.R.Ranges.last g.R.Ranges.passed c.files.groups.items history s fs (unwaiting_groups all)) parts (c.files.invariant.kept history))
          (λ gs keeps.
          subst (λ n. KeepsGroups g.R.Ranges.fits g.R.Ranges.last g.R.Ranges.passed c.put_groups.new.groups.items history s (gs ++ map (fresh 0 n) (file_of c.in-Some.file.now).groups)) c.as_str.ensures
          (subst (λ (ds : List _). KeepsGroups g.R.Ranges.fits g.R.Ranges.last g.R.Ranges.passed c.put_groups.new.groups.items history s (gs ++ map (fresh 0 c.as_str.result.now) (map group_of_def (map rc_value ds)))) c.as_slice-defs.ensures
          (c.in_ok-put_groups.ensures history gs keeps)));
    }

pub returns : goal.returns
returns g c = λ history.
    ends_files g.R.Ranges.fits g.R.Ranges.last g.R.Ranges.passed c.files.groups.items history (record { subquery_step = c.args.step; external = c.args.external.now }) c.files.rest.now (unwaiting_groups (map file_of c.args.files.now))
    (none_of c.files.rest.now c.in_default.ensures.cases) (c.files.invariant.kept history)
