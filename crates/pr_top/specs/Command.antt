-- What the words of the command line ask for, and what each command uses.
use Rattle.std.specs.Prelude.{ℕ, suc, ◌^◌, Bool, true, false, not, ◌==◌, ◌&&◌, cond, nat_lt, List, [], ◌∷◌, codes, Option, Some, None, option_and_then}
use Prim.Native.Char.{code}
use Rattle.std.specs.List.{list_all}
use Rattle.std.specs.Option.{option_map}
use Rattle.std.specs.Str.{bytes_eq}
use Rattle.pr_outside.specs.pr_words.Decimals.{plain_decimal}
use Rattle.pr_engine.specs.pr_time.SpanAnswer.{span_of}
use Rattle.pr_backfill.specs.pr_text.Script.{written_time}
use Rattle.pr_backfill.specs.Times.{backfill_times, times_from}

-- All that the words may ask for. Names are those of files, and a path is that of a store; the empty
-- path is a store in memory.
pub data Command : Type 0 where
  -- answers the script of the input, over the store of this path
  runs : List ℕ → Command
  -- checks test files
  tests_rules : List (List ℕ) → Command
  -- checks rule files
  checks_rules : List (List ℕ) → Command
  -- checks the exposition of the input
  checks_metrics : Command
  -- answers a script of so many rounds that is made up, and sums up what it tells
  exercises : ℕ → Command
  -- evaluates the recording rules of files at these times, over the store of this path
  backfills : List ℕ → List ℕ → List (List ℕ) → Command

-- a word that names a file or a store: it is not empty, and does not begin with a dash
abbrev pub is_file_word : List ℕ → Bool
is_file_word [] = false
is_file_word (b ∷ word) = not (b == code "-")

-- names of files, one or more
abbrev pub are_names : List (List ℕ) → Bool
are_names [] = false
are_names (name ∷ names) = list_all is_file_word (name ∷ names)

-- What the words behind the first one ask for.
abbrev pub run_of : List (List ℕ) → Option Command
run_of [] = Some (runs [])
run_of (option ∷ path ∷ []) = cond (bytes_eq option (codes "--store") && is_file_word path) (Some (runs path)) None
run_of _ = None

abbrev pub test_of : List (List ℕ) → Option Command
test_of [] = None
test_of (kind ∷ names) = cond (bytes_eq kind (codes "rules") && are_names names) (Some (tests_rules names)) None

abbrev pub check_of : List (List ℕ) → Option Command
check_of [] = None
check_of (kind ∷ []) = cond (bytes_eq kind (codes "metrics")) (Some checks_metrics) None
check_of (kind ∷ names) = cond (bytes_eq kind (codes "rules") && are_names names) (Some (checks_rules names)) None

-- how many rounds: a plain decimal from 1 to 100,000
abbrev pub rounds_by : Option ℕ → Option Command
rounds_by (Some (suc n)) = Some (exercises (suc n))
rounds_by _ = None

abbrev pub exercise_of : List (List ℕ) → Option Command
exercise_of (rounds ∷ []) = rounds_by (plain_decimal 100001 rounds)
exercise_of _ = None

-- a step: the text of a span of at most 2^40 milliseconds
abbrev pub step_of : List ℕ → Option ℕ
step_of word = option_and_then (λ ms. cond (nat_lt (2 ^ 40) ms) None (Some ms)) (span_of word)

-- the times from a first one to a last one by a step, where a backfill has such
abbrev pub times_by : Option ℕ → Option ℕ → Option ℕ → Option (List ℕ)
times_by (Some first) (Some last) (Some step) = option_map (times_from first step) (backfill_times first last step)
times_by _ _ _ = None

abbrev pub backfill_by : List ℕ → Option (List ℕ) → List (List ℕ) → Option Command
backfill_by path (Some times) names = cond (is_file_word path && are_names names) (Some (backfills path times names)) None
backfill_by path None names = None

abbrev pub backfill_of : List (List ℕ) → Option Command
backfill_of (path ∷ first ∷ last ∷ step ∷ names) = backfill_by path (times_by (written_time first) (written_time last) (step_of step)) names
backfill_of _ = None

-- The command that the words ask for, where they are one of the forms: `run`, `run --store PATH`,
-- `test rules FILE..`, `check rules FILE..`, `check metrics`, `exercise N`, and `backfill PATH FIRST
-- LAST STEP FILE..`, each with one file or more.
abbrev pub command_of : List (List ℕ) → Option Command
command_of [] = None
command_of (first ∷ words) =
    cond (bytes_eq first (codes "run")) (run_of words)
    (cond (bytes_eq first (codes "test")) (test_of words)
    (cond (bytes_eq first (codes "check")) (check_of words)
    (cond (bytes_eq first (codes "exercise")) (exercise_of words)
    (cond (bytes_eq first (codes "backfill")) (backfill_of words) None))))

-- which of the objects a command may use, and the path of its store, which it may open; each may use
-- the output
pub record Uses : Type 0 where
  pub input : Bool
  pub files : Bool
  pub store : Option (List ℕ)

-- words that are none of the forms use nothing
abbrev pub uses : Option Command → Uses
uses (Some (runs path)) = record { input = true; files = true; store = Some path }
uses (Some (tests_rules names)) = record { input = false; files = true; store = None }
uses (Some (checks_rules names)) = record { input = false; files = true; store = None }
uses (Some checks_metrics) = record { input = true; files = false; store = None }
uses (Some (exercises rounds)) = record { input = false; files = false; store = Some [] }
uses (Some (backfills path times names)) = record { input = false; files = true; store = Some path }
uses None = record { input = false; files = false; store = None }
