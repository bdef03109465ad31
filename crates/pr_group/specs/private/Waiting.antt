-- The numbers of older range selectors that wait to be taken, by what tells their kind.
use Rattle.std.specs.Prelude.{◌≡◌, ℕ, List, [], ◌∷◌, ◌++◌, codes, filter, map, Option, Some, None, unwrap_or}
use Rattle.std.specs.Map.{lookup}
use Rattle.std.specs.Str.{bytes_eq}
use Rattle.pr_rule.specs.spec_rules.private.Carried.{RangeUse, func_name}
use Rattle.pr_rule.specs.spec_rules.private.Laws.{Numbered}

-- The function and the printed text as one: no name has a bracket.
abbrev pub key_of : RangeUse → List ℕ
key_of u = func_name u.func ++ (codes "(" ++ u.printed)

-- the numbers that wait under a key
abbrev pub waiting_for : List (List ℕ × List ℕ) → List ℕ → List ℕ
waiting_for queues key = unwrap_or (lookup (bytes_eq key) queues) []

-- the first of them
abbrev pub first_of_queue : List ℕ → Option ℕ
first_of_queue [] = None
first_of_queue (n ∷ ns) = Some n

-- the numbers of those with a key, in order
abbrev pub numbers_with : {U : Type 0} → (U → List ℕ) → List ℕ → List (Numbered U) → List ℕ
numbers_with key_of key olds = map (λ n. n.index) (filter (λ n. bytes_eq key (key_of n.item)) olds)

-- Under each key wait the numbers of those that are left and have it.
abbrev pub AreWaiting : {U : Type 0} → (U → List ℕ) → List (List ℕ × List ℕ) → List (Numbered U) → Type 0
AreWaiting key_of queues olds = (key : List ℕ) → waiting_for queues key ≡ numbers_with key_of key olds
