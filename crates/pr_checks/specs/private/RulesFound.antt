-- The rule files of names, as they are found.
use Rattle.std.specs.Prelude.{◌≡◌, ℕ, ◌^◌, ◌<◌, List, [], ◌∷◌, ◌++◌, length, map}
use Rattle.std.specs.List.{AllByRecursion}
use Rattle.pr_outside.specs.Loading.{Holding, holds, is_missing, is_too_large, Made, goes_on, holding_by}
use Rattle.pr_outside.specs.Outside.{Held}
use Rattle.pr_checks.specs.RulesLoaded.{RulesLoaded, all_rules, and_rules, none_loaded, rules_held}
use Rattle.pr_checks.specs.declared.found.FoundFiles.{FoundFiles}
use Rattle.pr_checks.specs.declared.found.FoundContent.{FoundContent}
use Rattle.pr_checks.specs.declared.found.FoundContent.TheVariants.{Bytes, Missing, TooLarge}
use Rattle.pr_checks.specs.declared.found.FoundFile.{FoundFile}

abbrev pub content_of : Holding → FoundContent
content_of (holds bytes) = Bytes bytes
content_of is_missing = Missing
content_of is_too_large = TooLarge

abbrev pub holding_of : FoundContent → Holding
holding_of (Bytes bytes) = holds bytes
holding_of Missing = is_missing
holding_of TooLarge = is_too_large

-- it is short enough to be read
abbrev pub IsShort : FoundContent → Type 0
IsShort (Bytes bytes) = length bytes < 2 ^ 32
IsShort Missing = Unit {0}
IsShort TooLarge = Unit {0}

abbrev pub IsShortFile : FoundFile → Type 0
IsShortFile f = IsShort f.content

-- A file comes behind those before it, and the next one is asked for, whatever a name holds.
abbrev pub with_file : List ℕ → FoundFiles → Holding → Made FoundFiles
with_file name a holding = goes_on (record { files = a.files ++ record { name = name; content = content_of holding } ∷ [] })

-- So many files are found, under the names that are not left.
pub record AreFound {N : Type 0} (file : N → List ℕ) (all rest : List N) (a : FoundFiles) : Type 0 where
  pub names : map (λ f. f.name) a.files ++ map file rest ≡ map file all
  pub short : AllByRecursion IsShortFile a.files

-- what is found under a name
abbrev pub found_by : Held → List ℕ → FoundFile
found_by held name = record { name = name; content = content_of (holding_by (held name)) }

-- what the files are read as, all of them before any is told of
abbrev pub rules_found : List FoundFile → RulesLoaded
rules_found [] = none_loaded []
rules_found (f ∷ files) = and_rules (rules_held f.name (holding_of f.content)) (rules_found files)
