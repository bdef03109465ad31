-- Words of laws and examples, which nothing of the promise names.
use Rattle.std.specs.Prelude.{◌≡◌, ℕ, Bool, true, false, nat_lt, Option, Some, None, map}
use Rattle.spec_world.specs.declared.report.Report.{Report}
use Rattle.spec_world.specs.declared.report.Report.TheVariants as report
use Rattle.std.specs.List.{IsDistinct}
use Rattle.std.specs.Str.{bytes_eq}
use Rattle.spec_world.specs.declared.event.Event.{Event}
use Rattle.spec_world.specs.declared.event.Event.TheVariants.{Add, Query, Scrape, Fail, Gone, Eval, Reload, Restart, Alerts}
use Rattle.spec_world.specs.declared.event.NamedFile.{NamedFile}
use Rattle.spec_world.specs.declared.scraped.Scraped.{Scraped}

-- a time is not before that of the last event
abbrev pub IsNotBefore : Option ℕ → ℕ → Type 0
IsNotBefore None time = Unit {0}
IsNotBefore (Some last) time = nat_lt time last ≡ false

-- whether what is told is that an event was refused
abbrev pub is_refusal : Report → Bool
is_refusal (report.NoGroup file group) = true
is_refusal (report.NotLater last) = true
is_refusal (report.Missing file) = true
is_refusal (report.TooLarge file) = true
is_refusal (report.Refused name line kind) = true
is_refusal (report.QueryRefused place kind) = true
is_refusal (report.Backwards last given) = true
is_refusal (report.Opened rows) = false
is_refusal report.Added = false
is_refusal report.Same = false
is_refusal (report.OutOfOrder last) = false
is_refusal (report.Conflict kept) = false
is_refusal (report.Scraped added dropped stale) = false
is_refusal (report.BadScrape line kind stale) = false
is_refusal (report.Failed stale) = false
is_refusal (report.Gone stale) = false
is_refusal (report.Evaluated group) = false
is_refusal (report.Reloaded groups rules stale) = false
is_refusal (report.Restarted rows) = false
is_refusal (report.Alerts list) = false
is_refusal (report.Scalar value) = false
is_refusal (report.Vector items) = false
is_refusal (report.QueryFault place kind) = false

-- whether it may change which targets are known and what is tracked of them, and whether it may
-- change the groups
abbrev pub changes_targets : Event → Bool
changes_targets (Add time labels point) = false
changes_targets (Query time text) = false
changes_targets (Scrape time target body) = true
changes_targets (Fail time target) = true
changes_targets (Gone time target) = true
changes_targets (Eval time file group) = false
changes_targets (Reload time files) = false
changes_targets (Restart time) = true
changes_targets (Alerts time) = false

abbrev pub changes_groups : Event → Bool
changes_groups (Add time labels point) = false
changes_groups (Query time text) = false
changes_groups (Scrape time target body) = false
changes_groups (Fail time target) = false
changes_groups (Gone time target) = false
changes_groups (Eval time file group) = true
changes_groups (Reload time files) = true
changes_groups (Restart time) = true
changes_groups (Alerts time) = false

-- The files of a reload have names of their own.
abbrev pub HasDistinctFiles : Event → Type 0
HasDistinctFiles (Add time labels point) = Unit {0}
HasDistinctFiles (Query time text) = Unit {0}
HasDistinctFiles (Scrape time target body) = Unit {0}
HasDistinctFiles (Fail time target) = Unit {0}
HasDistinctFiles (Gone time target) = Unit {0}
HasDistinctFiles (Eval time file group) = Unit {0}
HasDistinctFiles (Reload time files) = IsDistinct bytes_eq (map (λ (f : NamedFile). f.name) files)
HasDistinctFiles (Restart time) = Unit {0}
HasDistinctFiles (Alerts time) = Unit {0}
