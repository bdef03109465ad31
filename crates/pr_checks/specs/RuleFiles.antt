-- What `check rules` tells of a file.
use Rattle.std.specs.Prelude.{ℕ, true, false, List, [], ◌∷◌, ◌++◌, codes, decimal, flat_map, Option}
use Rattle.pr_outside.specs.FileChecks.{Told}
use Rattle.pr_outside.specs.Outside.{Held}
use Rattle.pr_outside.specs.Loading.{Holding, holds, is_missing, is_too_large, Made, goes_on, holding_by}
use Rattle.spec_world.specs.pr_rulefile.File.{RuleReading, gives_file, gives_problems, rule_file_of}
use Rattle.spec_world.specs.spec_rules.Definitions.{rule_count}
use Rattle.pr_checks.specs.Problems.{problem_line}
use Rattle.pr_checks.specs.declared.rules.RuleText.{RuleText}

unfoldable pub success : List ℕ
success = codes "  SUCCESS: "

unfoldable pub rules_found : List ℕ
rules_found = codes " rules found\n"

abbrev pub success_text : ℕ → List ℕ
success_text count = success ++ (decimal count ++ rules_found)

unfoldable pub failed_line : List ℕ
failed_line = codes "  FAILED:\n"

abbrev pub problems_text : List ℕ → List ℕ
problems_text lines = failed_line ++ lines

-- the problems of a file, each on a line
abbrev pub reading_told : List ℕ → RuleReading → Told
reading_told name (gives_file groups) = record { text = success_text (rule_count groups); refused = false; asks = [] }
reading_told name (gives_problems list) = record { text = problems_text (flat_map (problem_line name) list); refused = true; asks = [] }

-- a file that is missing, or too large
unfoldable pub missing : List ℕ
missing = codes ": Missing\n"

unfoldable pub too_large : List ℕ
too_large = codes ": TooLarge\n"

-- by what its name holds
abbrev pub found_told : List ℕ → Holding → Told
found_told name is_missing = record { text = problems_text (name ++ missing); refused = true; asks = [] }
found_told name is_too_large = record { text = problems_text (name ++ too_large); refused = true; asks = [] }
found_told name (holds bytes) = reading_told name (rule_file_of bytes)

unfoldable pub checking_text : List ℕ → List ℕ
checking_text name = codes "Checking " ++ (name ++ codes "\n")

-- The name of the file on a line, and then how many rules it has, or what is wrong with it.
abbrev pub lines_told : List ℕ → Holding → List ℕ
lines_told name holding = checking_text name ++ (found_told name holding).text

-- What is made of a file: its lines come behind those so far, and it is refused or not. The next file
-- is asked for in either case.
abbrev pub with_file : List ℕ → RuleText → Holding → Made RuleText
with_file name before holding = goes_on (record { text = before.text ++ lines_told name holding; refused = (found_told name holding).refused })

-- The file alone is asked for.
abbrev pub file_told : List ℕ → Option (List ℕ) → Told
file_told name content = record { text = lines_told name (holding_by content); refused = (found_told name (holding_by content)).refused; asks = name ∷ [] }

abbrev pub rules_told : Held → List ℕ → Told
rules_told held name = file_told name (held name)
