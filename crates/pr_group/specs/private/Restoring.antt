-- What a restoration looks at, and what becomes of the alerts of a rule.
use Rattle.std.specs.Prelude.{◌≡◌, ℕ, ◌+◌, ◌≤◌, ◌<◌, Bool, true, cond, ◌&&◌, nat_le, List, [], ◌∷◌, ◌++◌, flat_map, length, map, slice_get, take, Option, Some, None, option_and_then}
use Rattle.std.specs.List.{filter_map}
use Rattle.std.specs.Option.{option_to_list}
use Rattle.pr_rule.specs.spec_history.declared.entry.Entry.{Entry}
use Rattle.pr_rule.specs.pr_head.declared.timed.Timed.{Timed}
use Rattle.pr_rule.specs.spec_alerts.declared.record.Record.{Record}
use Rattle.pr_rule.specs.spec_alerts.declared.restored.Restored.{Restored}
use Rattle.pr_rule.specs.spec_alerts.Lineage.{Occurrence, moved}
use Rattle.pr_rule.specs.spec_alerts.Restoring.{restored_alert}
use Rattle.pr_rule.specs.private.AlertStanding.{StandsFor}
use Rattle.pr_rule.specs.spec_rules.declared.definitions.RuleDef.{RuleDef}
use Rattle.pr_rule.specs.pr_range.private.Asks.{LastAsks, Passed}
use Rattle.pr_rule.specs.spec_rules.Evaluations.{restores, with_restored}
use Rattle.pr_rule.specs.spec_rules.Groups.{RuleState}
use Rattle.pr_rule.specs.declared.remembered.Remembered.{Remembered}
use Rattle.pr_group.specs.private.Keeping.{KeepsRule}

-- a time at or before another one, and at most an hour before it
abbrev pub in_last_hour : ℕ → ℕ → Bool
in_last_hour now time = nat_le time now && nat_le now (time + 3600000)

abbrev pub kept_of_last_hour : ℕ → Option Timed → Option Timed
kept_of_last_hour now newest = option_and_then (λ t. cond (in_last_hour now t.time) (Some t) None) newest

-- Of records only the one at a place was changed.
pub record OnlyChanges (index : ℕ) (before after : List Record) : Type 0 where
  pub others : (j : ℕ) → (index ≡ j → ⊥) → slice_get after j ≡ slice_get before j
  pub many : length after ≡ length before

-- The alert at a place was restored, or not: it is told so, and the records stand for the lineage
-- with that.
pub record IsRestored (answer told : Option Restored) (lineage : List Occurrence) (after : List Record) : Type 0 where
  pub answers : answer ≡ told
  pub stands : StandsFor after (lineage ++ moved (option_to_list told) ∷ [])

-- the alerts of the first records that are restored
abbrev pub restored_until : List Entry → ℕ → ℕ → List Record → ℕ → List Restored
restored_until history hold now rs n = filter_map (restored_alert history hold now) (take n rs)

-- The first rules of a group were gone over: what is remembered of each stands for it with what was
-- restored, the others are as they were, and what was restored is told where anything is.
pub record HaveRestored {R : Type 0} (tells : Bool) (fits : R → List Entry → Type 0) (last : R → LastAsks) (passed : R → Passed) (history : List Entry) (now : ℕ) (until : Option ℕ) (definitions : List RuleDef) (before after : List (Remembered R)) (rs : List RuleState) (told : List Restored) (n : ℕ) : Type 0 where
  pub done : (i : ℕ) (definition : RuleDef) (m : Remembered R) (r : RuleState) → i < n → slice_get definitions i ≡ Some definition → slice_get after i ≡ Some m → slice_get rs i ≡ Some r
      → KeepsRule fits last passed history until definition m (with_restored history now r)
  pub later : (j : ℕ) → n ≤ j → slice_get after j ≡ slice_get before j
  pub telling : tells ≡ true → told ≡ flat_map (restores history now) (take n rs)

-- what ranges keep, of each rule
abbrev pub ranges_of : {R : Type 0} → List (Remembered R) → List R
ranges_of ms = map (λ m. m.ranges) ms

-- the rules after a restoration that is due or is not, and the alerts that it restores
abbrev pub restored_rules : Bool → List Entry → ℕ → List RuleState → List RuleState
restored_rules due history now rs = cond due (map (with_restored history now) rs) rs

abbrev pub restored_alerts : Bool → List Entry → ℕ → List RuleState → List Restored
restored_alerts due history now rs = cond due (flat_map (restores history now) rs) []
