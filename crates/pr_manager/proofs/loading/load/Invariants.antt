use Rattle.std.proofs.Common.{◌≡◌, List, Ok, Err, length}
use Rattle.std.specs.List.{All}
use Rattle.spec_world.specs.spec_history.declared.entry.Entry.{Entry}
use Rattle.pr_group.specs.private.Keeping.{waits_of}
use Rattle.spec_world.specs.Rounds.{all_loaded}
use Rattle.spec_world.specs.declared.report.Report.{Report}
use Rattle.pr_manager.specs.private.Keeping.{settings_with}
use Rattle.pr_manager.specs.private.Loading.{HasPassedNothing, fresh_by, loaded_files}
use Rattle.pr_manager.proofs.Loaded.{AreKeptSoFar}
use Rattle.pr_manager.proofs.loading.load.Given as goal

abbrev pub invariant-loading : goal.invariant-loading
invariant-loading g l = record {
  files : all_loaded l.rest ≡ Ok (loaded_files l.rest) → all_loaded l.files ≡ Ok (loaded_files l.files);
  refused : (e : Report) → all_loaded l.rest ≡ Err e → all_loaded l.files ≡ Err e;
  unpassed : All (HasPassedNothing g.R.Ranges.passed) l.news.items;
  fresh : (history : List Entry)
      → AreKeptSoFar g.R.Ranges.fits g.R.Ranges.last g.R.Ranges.passed (settings_with l.making.step l.making.external.now) history l.news.items (fresh_by (waits_of l.making.waits) (loaded_files l.rest)) (fresh_by (waits_of l.making.waits) (loaded_files l.files));
}

abbrev pub decreases-loading : goal.decreases-loading
decreases-loading g l = length l.rest
