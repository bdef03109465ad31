-- What is built for a tree: matchers and patterns, numbered from left to right.
use Rattle.std.specs.Prelude.{◌≡◌, ℕ, if◌then◌else◌, List, [], ◌∷◌, ◌++◌}
use Rattle.pr_match.specs.Matcher.{LabelTest}
use Rattle.pr_ast.specs.declared.names.Func.{Func}
use Rattle.pr_ast.specs.Tree.{Tree, select, range, sub, neg, binary, call, aggregate, more}
use Rattle.pr_types.specs.declared.building.Built.{Built}
use Rattle.pr_types.specs.Selectors.{tests_of}
use Rattle.pr_types.specs.Typed.{content_at, replaces}

-- the tests of each selector of a tree, ranges among them, from left to right
abbrev pub tests_in : Tree → List (List LabelTest)
tests_in (select p s) = tests_of s ∷ []
tests_in (range p s d) = tests_of s ∷ []
tests_in (sub p t d step o) = tests_in t
tests_in (neg p t) = tests_in t
tests_in (binary p o b m l r) = tests_in l ++ tests_in r
tests_in (call p f ts) = tests_in ts
tests_in (aggregate p o g ts) = tests_in ts
tests_in (more ts t) = tests_in ts ++ tests_in t
tests_in _ = []

-- the pattern of a call that takes one
abbrev pub own_patterns : Func → Tree → List (List ℕ)
own_patterns f ts = if replaces f then content_at ts 4 ∷ [] else []

-- the patterns of each `label_replace`, after those of its arguments
abbrev pub patterns_in : Tree → List (List ℕ)
patterns_in (sub p t d step o) = patterns_in t
patterns_in (neg p t) = patterns_in t
patterns_in (binary p o b m l r) = patterns_in l ++ patterns_in r
patterns_in (call p f ts) = patterns_in ts ++ own_patterns f ts
patterns_in (aggregate p o g ts) = patterns_in ts
patterns_in (more ts t) = patterns_in ts ++ patterns_in t
patterns_in _ = []

-- what is built afterwards is what was built before, and what the tree has
pub record Adds (t : Tree) (old new : Built) : Type 0 where
  pub selectors : new.selectors ≡ old.selectors ++ tests_in t
  pub patterns : new.patterns ≡ old.patterns ++ patterns_in t
