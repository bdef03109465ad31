-- What was passed of the groups before and after an event that is accepted. A group is known by its file
-- and its name.
use Rattle.std.specs.Prelude.{◌≡◌, ℕ, Bool}
use Rattle.pr_manager.specs.private.Passing.{EvaluationPasses, PassedByNames, ReloadPasses, none_passed}
use Rattle.pr_manager.specs.spec_world.World.{World}
use Rattle.pr_manager.specs.spec_world.declared.event.Event.{Event}
use Rattle.pr_manager.specs.spec_world.declared.event.Event.TheVariants as event
use Rattle.pr_engine.specs.private.Events.{settings_of}

-- there are no groups of which anything was passed
abbrev pub no_group_passed : PassedByNames
no_group_passed file group = none_passed

-- An evaluation passes what its group asks for, where ranges remember. At a reload groups take over what
-- was passed of those that they go on from. After a restart nothing was passed. No other event passes
-- anything.
abbrev pub EventPasses : Bool → ℕ → World → Event → PassedByNames → PassedByNames → Type 0
EventPasses remembers step w (event.Add time labels point) before after = after ≡ before
EventPasses remembers step w (event.Query time text) before after = after ≡ before
EventPasses remembers step w (event.Scrape time target body) before after = after ≡ before
EventPasses remembers step w (event.Fail time target) before after = after ≡ before
EventPasses remembers step w (event.Gone time target) before after = after ≡ before
EventPasses remembers step w (event.Eval time file group) before after = EvaluationPasses remembers (settings_of step) w time file group before after
EventPasses remembers step w (event.Reload time files) before after = ReloadPasses w time files before after
EventPasses remembers step w (event.Restart time) before after = after ≡ no_group_passed
EventPasses remembers step w (event.Alerts time) before after = after ≡ before
