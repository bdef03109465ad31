-- Maps that have fields of their own, and lists of what is alike.
use Rattle.std.specs.Prelude.{ℕ, List, [], ◌∷◌, ◌++◌, Option, Some, None}
use Rattle.std.specs.List.{flat_map}
use Rattle.pr_yaml.specs.Tree.{Tree, EntryTree}
use Rattle.pr_rulefile.specs.declared.fields.problem.Problem.{Problem}
use Rattle.pr_rulefile.specs.declared.fields.problem.ProblemKind.TheVariants.{UnknownField, Missing}
use Rattle.pr_rulefile.specs.Nodes.{line_of, items_of, fields_of}
use Rattle.pr_rulefile.specs.Problems.{problem, by_items, by_fields, unless_absent}
use Rattle.pr_rulefile.specs.Scalars.{text_problems}

-- what is wrong with the value of a field of this name; none where no field of the map has it
abbrev pub by_form : EntryTree → Option (Tree → List Problem) → List Problem
by_form e None = problem e.line (UnknownField e.key) ∷ []
by_form e (Some wrong) = unless_absent e.value (wrong e.value)

abbrev pub form_problems : (List ℕ → Option (Tree → List Problem)) → EntryTree → List Problem
form_problems form e = by_form e (form e.key)

-- the same where a value is looked at by the name of its field; one that no field has is not
abbrev pub wrong_by : Tree → Option (Tree → List Problem) → List Problem
wrong_by t None = []
wrong_by t (Some wrong) = wrong t

-- a field that has to be there
abbrev pub required : ℕ → List ℕ → Option Tree → List Problem
required line name None = problem line (Missing name) ∷ []
required line name (Some t) = []

-- What is wrong with a map: fields that are missing, and then its fields one after the other.
abbrev pub map_in_problems : (ℕ → List EntryTree → List Problem) → (List ℕ → Option (Tree → List Problem)) → ℕ → List EntryTree → List Problem
map_in_problems missing form line es = missing line es ++ flat_map (form_problems form) es

unfoldable pub map_problems : (ℕ → List EntryTree → List Problem) → (List ℕ → Option (Tree → List Problem)) → Tree → List Problem
map_problems missing form t = by_fields (map_in_problems missing form (line_of t)) (line_of t) (fields_of t)

-- nothing is missing
abbrev pub none_missing : ℕ → List EntryTree → List Problem
none_missing line es = []

-- A list is wanted: what is wrong with its items, one after the other.
unfoldable pub list_problems : (Tree → List Problem) → Tree → List Problem
list_problems wrong t = by_items (flat_map wrong) (line_of t) (items_of t)

-- a list of texts
abbrev pub texts_problems : Tree → List Problem
texts_problems = list_problems text_problems
