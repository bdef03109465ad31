-- Each of a list takes one of another list: the first that it may take and that none before it took.
use Rattle.std.specs.Prelude.{Bool, cond, List, [], ◌∷◌, find, Option}

-- the others, without the first that passes the test
abbrev pub without_first : {B : Type 0} → (B → Bool) → List B → List B
without_first test [] = []
without_first test (b ∷ bs) = cond (test b) bs (b ∷ without_first test bs)

-- what each takes, in order
abbrev pub taken : {A B : Type 0} → (A → B → Bool) → List A → List B → List (Option B)
taken may_take [] olds = []
taken may_take (a ∷ news) olds = find (may_take a) olds ∷ taken may_take news (without_first (may_take a) olds)

-- what none takes, in order
abbrev pub untaken : {A B : Type 0} → (A → B → Bool) → List A → List B → List B
untaken may_take [] olds = olds
untaken may_take (a ∷ news) olds = untaken may_take news (without_first (may_take a) olds)
