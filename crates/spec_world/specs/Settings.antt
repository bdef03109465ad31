-- What the engine is told once, before any event.
pub use Rattle.spec_rules.specs.Settings.{Settings, of_a_run}
