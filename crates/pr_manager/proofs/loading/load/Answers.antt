use Rattle.std.proofs.Common.{List, ◌≡◌, Ok, Err, map, subst, sym}
use Rattle.spec_world.specs.pr_rulefile.File.{groups_given, rule_file_of}
use Rattle.spec_world.specs.spec_rules.Groups.{fresh}
use Rattle.pr_group.specs.private.Keeping.{waits_of}
use Rattle.spec_world.specs.Rounds.{all_loaded}
use Rattle.spec_world.specs.declared.event.NamedFile.{NamedFile}
use Rattle.pr_manager.specs.private.Keeping.{settings_with}
use Rattle.pr_manager.specs.private.Loading.{fresh_by, loaded_files}
use Rattle.pr_manager.proofs.Loaded.{AreKeptSoFar, kept_end, kept_file, loaded_then, refused_then}
use Rattle.pr_manager.proofs.loading.load.Goals as goal

pub loading-preserved : goal.loading-preserved
loading-preserved g c =
    let fits = g.R.Ranges.fits in
    let last = g.R.Ranges.last in
    let passed = g.R.Ranges.passed in
    let s = settings_with c.args.making.now.step c.args.making.now.external.now in
    let waits = waits_of c.args.making.now.waits in
    let at = c.loading in
    let f = c.in-Some.file.now in
    let after = c.in-Some.after.now in
    let rest = c.in-Some.ensures.cases.0 in
    record {
      files = λ h. at.invariant.files (subst (λ (l : List NamedFile). all_loaded l ≡ Ok (loaded_files l)) (sym rest) (loaded_then f after c.in_ok-load_file.ensures.file h));
      refused = λ e h. at.invariant.refused e (subst (λ (l : List NamedFile). all_loaded l ≡ Err e) (sym rest) (refused_then f after e c.in_ok-load_file.ensures.file h));
      unpassed = c.in_ok-load_file.ensures.unpassed at.invariant.unpassed;
      fresh = λ history.
          kept_file fits last passed s history at.news.items c.load_file.new.news.items (map (fresh waits f.name) (groups_given (rule_file_of f.bytes))) (fresh_by waits (loaded_files after)) (fresh_by waits (loaded_files c.args.files.now))
          (λ groups each. c.in_ok-load_file.ensures.fresh history groups each)
          (subst (λ (l : List NamedFile). AreKeptSoFar fits last passed s history at.news.items (fresh_by waits (loaded_files l)) (fresh_by waits (loaded_files c.args.files.now))) rest (at.invariant.fresh history));
    }

pub returns-clause-fresh : goal.returns-clause-fresh
returns-clause-fresh g c = λ history.
    kept_end g.R.Ranges.fits g.R.Ranges.last g.R.Ranges.passed (settings_with c.args.making.now.step c.args.making.now.external.now) history c.loading.news.items c.loading.rest.now (waits_of c.args.making.now.waits) c.args.files.now
    c.in_default.ensures.cases (c.loading.invariant.fresh history)
