-- A small backfill to try the definitions on.
use Rattle.std.specs.Prelude.{ℕ, List, [], ◌∷◌, codes, None}
use Rattle.pr_ast.specs.pr_labels.declared.pair.Pair.{Pair}
use Rattle.pr_ast.specs.pr_labels.LabelSet.{named}
use Rattle.pr_ast.specs.private.Examples.{metric}
use Rattle.spec_rules.specs.spec_history.declared.append.Append.{Append}
use Rattle.spec_rules.specs.spec_history.declared.append.Append.TheVariants.{Added}
use Rattle.spec_rules.specs.spec_history.declared.entry.Entry.{Entry}
use Rattle.spec_rules.specs.spec_history.private.Examples.{entry_at, number, whole}
use Rattle.spec_rules.specs.Definitions.{Rule}
use Rattle.spec_rules.specs.declared.report.RuleOutcome.TheVariants.{Fine}
use Rattle.spec_rules.specs.private.Examples.{recording_as}
use Rattle.spec_rules.specs.Reloads.{LoadedFile}
use Rattle.pr_backfill.specs.Filled.{FillStep}

-- a file of one group with these rules, and one whose rule records s as m
abbrev pub file_of : List Rule → LoadedFile
file_of rules = record { name = codes "r.yml"; groups = (record { name = codes "g"; interval = None; limit = 0; rules = rules }) ∷ [] }

abbrev pub records_s : List Rule
records_s = recording_as (codes "s") (metric (codes "m")) ∷ []

abbrev pub r_yml : LoadedFile
r_yml = file_of records_s

-- m is 1, and a minute later 2
abbrev pub kept : List Entry
kept = entry_at 0 (whole 1) ∷ entry_at 60000 (whole 2) ∷ []

-- what is recorded at a time
abbrev pub s : List Pair
s = named (codes "s")

abbrev pub s_at : ℕ → ℕ → Entry
s_at time n = record { labels = s; time = time; point = whole n }

abbrev pub s_rows : List Entry
s_rows = s_at 0 1 ∷ s_at 60000 2 ∷ s_at 120000 2 ∷ []

-- what is told at a time of the group: its sample, what became of that, and what was added
abbrev pub told_as : ℕ → ℕ → Append → List Entry → FillStep
told_as time n append rows = record {
  time = time;
  step = record {
    file = codes "r.yml";
    group = codes "g";
    report = record {
      rules = (record { outcome = Fine; samples = (record { labels = s; value = number n; append = append }) ∷ []; stale = []; sent = [] }) ∷ [];
      leftovers = [];
      restored = [];
      admitted = rows;
    };
  };
}

abbrev pub added : ℕ → ℕ → FillStep
added time n = told_as time n Added (s_at time n ∷ [])
