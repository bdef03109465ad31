-- What one character ahead tells of the rules of lines: no part of what a line reads as.
use Rattle.std.specs.Prelude.{ℕ, Bool, true, false, is_some}
use Rattle.pr_labels.specs.pr_forms.Table.{Table}
use Rattle.pr_expo.specs.Line.{ends}
use Rattle.pr_expo.specs.private.Grammar.{Rule, at, by, leads}

abbrev pub starts_rule : Rule → ℕ → Bool
starts_rule (at place) c = is_some (leads place c)
starts_rule (by place) c = true

abbrev pub empty_rule : Rule → Bool
empty_rule (at place) = is_some (ends place)
empty_rule (by place) = false

abbrev pub more_rule : Rule → ℕ → Bool
more_rule n c = true

abbrev pub table : Table ℕ Rule
table = record { empty = empty_rule; starts = starts_rule; more = more_rule }
