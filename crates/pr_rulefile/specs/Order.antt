-- The order in which problems are told.
use Rattle.std.specs.Prelude.{ℕ, Bool, ◌||◌, ◌&&◌, ◌==◌, nat_lt, List, [], ◌∷◌, if◌then◌else◌}
use Rattle.pr_parse.specs.declared.query_kind.QueryKind.{QueryKind}
use Rattle.pr_parse.specs.declared.query_kind.QueryKind.TheVariants.{Lex, Parse, Typing}
use Rattle.pr_rulefile.specs.declared.fields.problem.Problem.{Problem}
use Rattle.pr_rulefile.specs.declared.fields.problem.ProblemKind.{ProblemKind}
use Rattle.pr_rulefile.specs.declared.fields.problem.ProblemKind.TheVariants as problem

-- of faults of expressions, that of tokens comes first, then that of a tree, then that of a type
abbrev pub expression_rank : QueryKind → ℕ
expression_rank (Lex kind) = 14
expression_rank (Parse kind) = 15
expression_rank (Typing kind) = 16

-- the order of kinds on one line
abbrev pub kind_rank : ProblemKind → ℕ
kind_rank (problem.Yaml kind) = 0
kind_rank problem.WantMap = 1
kind_rank problem.WantList = 2
kind_rank problem.WantText = 3
kind_rank (problem.UnknownField name) = 4
kind_rank (problem.Missing name) = 5
kind_rank (problem.DuplicateGroup name) = 6
kind_rank problem.NoName = 7
kind_rank problem.TwoNames = 8
kind_rank problem.BadName = 9
kind_rank (problem.BadLabel name) = 10
kind_rank problem.BadSpan = 11
kind_rank problem.BadLimit = 12
kind_rank (problem.NotForRecording name) = 13
kind_rank (problem.Expression kind at) = expression_rank kind
kind_rank (problem.BadTemplate at) = 17
kind_rank problem.BadSeries = 18
kind_rank problem.DuplicateSeries = 19
kind_rank problem.BadValues = 20
kind_rank problem.TooManyValues = 21
kind_rank problem.BadValue = 22
kind_rank problem.FuzzyCompare = 23

-- whether one is told before the other: its line comes before, or on one line its kind
abbrev pub is_told_before : Problem → Problem → Bool
is_told_before p q = nat_lt p.line q.line || (p.line == q.line && nat_lt (kind_rank p.kind) (kind_rank q.kind))

-- an element put before the first that does not come before it
abbrev pub inserted : {X : Type 0} → (X → X → Bool) → X → List X → List X
inserted before x [] = x ∷ []
inserted before x (y ∷ ys) = if before y x then y ∷ inserted before x ys else x ∷ y ∷ ys

-- a list in order, where elements of which none comes before the other stand as they did
abbrev pub ordered : {X : Type 0} → (X → X → Bool) → List X → List X
ordered before [] = []
ordered before (x ∷ xs) = inserted before x (ordered before xs)

-- The problems of a text, found in the order of the text, by line and then by kind.
unfoldable pub in_order : List Problem → List Problem
in_order problems = ordered is_told_before problems
