-- Files that are read one after another. Private contracts cite this: a reader can pass it over.
use Rattle.std.specs.Prelude.{◌≡◌, ℕ, List, flat_map, map, Result, Err}
use Rattle.pr_ast.specs.pr_labels.declared.pair.Pair.{Pair}
use Rattle.spec_world.specs.spec_history.declared.entry.Entry.{Entry}
use Rattle.spec_world.specs.pr_rulefile.File.{groups_given, rule_file_of}
use Rattle.pr_group.specs.pr_range.private.Asks.{Passed}
use Rattle.spec_world.specs.spec_rules.Groups.{Group, fresh}
use Rattle.spec_world.specs.spec_rules.Reloads.{LoadedFile}
use Rattle.pr_group.specs.private.Keeping.{KeptGroup, passed_by}
use Rattle.spec_world.specs.declared.event.NamedFile.{NamedFile}
use Rattle.spec_world.specs.declared.report.Report.{Report}
use Rattle.spec_world.specs.declared.report.Report.TheVariants as report
use Rattle.spec_world.specs.Rounds.{with_groups}
use Rattle.pr_manager.specs.declared.loading.LoadError.{LoadError}
use Rattle.pr_manager.specs.declared.loading.LoadError.TheVariants as load

-- the groups of a file, where it is a rule file
abbrev pub loaded_file : NamedFile → LoadedFile
loaded_file f = with_groups f (groups_given (rule_file_of f.bytes))

abbrev pub loaded_files : List NamedFile → List LoadedFile
loaded_files files = map loaded_file files

-- the groups of files, to which nothing has happened
abbrev pub fresh_by : ℕ → List LoadedFile → List Group
fresh_by waits files = flat_map (λ f. map (fresh waits f.name) f.groups) files

-- nothing was passed for a group
abbrev pub HasPassedNothing : {R : Type 0} → (R → Passed) → KeptGroup R → Type 0
HasPassedNothing passed k = (history : List Entry) (i n : ℕ) (labels : List Pair) → passed_by passed k history i n labels ≡ 0

-- The error is what the files are refused by. Nothing is said where memory runs out.
abbrev pub IsRefusalOf : {T : Type 0} → Result T Report → LoadError → Type 0
IsRefusalOf r (load.Refused name line kind) = r ≡ Err (report.Refused name line kind)
IsRefusalOf r load.Memory = Unit {0}
