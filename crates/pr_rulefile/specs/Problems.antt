-- What is wrong with a node, where a form of it is wanted.
use Rattle.std.specs.Prelude.{ℕ, List, [], ◌∷◌, Option, Some, None, if◌then◌else◌}
use Rattle.pr_yaml.specs.Tree.{Tree, EntryTree, is_absent}
use Rattle.pr_rulefile.specs.declared.fields.problem.Problem.{Problem}
use Rattle.pr_rulefile.specs.declared.fields.problem.ProblemKind.{ProblemKind}
use Rattle.pr_rulefile.specs.declared.fields.problem.ProblemKind.TheVariants.{WantMap, WantList, WantText}

abbrev pub problem : ℕ → ProblemKind → Problem
problem line kind = record { line = line; kind = kind }

-- A text is wanted, or a list, or a map, at a line: what is wrong with it, or that it is none.
abbrev pub by_text : (ℕ → List ℕ → List Problem) → ℕ → Option (List ℕ) → List Problem
by_text wrong line (Some text) = wrong line text
by_text wrong line None = problem line WantText ∷ []

abbrev pub by_items : (List Tree → List Problem) → ℕ → Option (List Tree) → List Problem
by_items wrong line (Some ts) = wrong ts
by_items wrong line None = problem line WantList ∷ []

abbrev pub by_fields : (List EntryTree → List Problem) → ℕ → Option (List EntryTree) → List Problem
by_fields wrong line (Some es) = wrong es
by_fields wrong line None = problem line WantMap ∷ []

-- nothing is wrong with a value that is absent
abbrev pub unless_absent : Tree → List Problem → List Problem
unless_absent t wrong = if is_absent t then [] else wrong
