-- What the functions of the parser say of themselves.
use Rattle.std.specs.Prelude.{◌≡◌, ℕ, List, ◌∷◌, Option, Some, None, option_map}
use Rattle.pr_forms.specs.Form.{rule}
use Rattle.pr_forms.specs.Run.{good}
use Rattle.pr_forms.specs.Language.{Gives}
use Rattle.pr_ast.specs.declared.place.Place.{Place}
use Rattle.pr_ast.specs.declared.selector.MatchText.{MatchText}
use Rattle.pr_ast.specs.Tree.{Tree, tree_of, parts}
use Rattle.pr_parse.specs.declared.grammar.kind.Lexed.{Lexed}
use Rattle.pr_parse.specs.declared.grammar.kind.Level.{Level}
use Rattle.pr_parse.specs.declared.grammar.kind.Level.TheVariants.{Or, And, Comparison, Sum, Product}
use Rattle.pr_parse.specs.Seen.{seen}
use Rattle.pr_parse.specs.Grammar.{F, QueryValue, part, suffixes, stepped, Suffix, in_subquery, applied_to, braced, bare, Step, Closing}
use Rattle.pr_parse.specs.GrammarTable.{queries}
use Rattle.pr_parse.specs.declared.made.Part.{Part}
use Rattle.pr_parse.specs.declared.made.Parameters.{Parameters}

-- the value of an expression with the place of its text
abbrev pub value_of : Part → QueryValue
value_of x = part x.place (tree_of x.expr)

-- the arguments of an aggregation as a tree
abbrev pub parameters_of : Parameters → Tree
parameters_of x = parts (option_map (λ b. tree_of b.value) x.param) (tree_of x.inner.value)

-- What the form reads is applied to the part.
abbrev pub Follows : F → Part → List Lexed → Part → List Lexed → Type 0
Follows f before ts after rest = (ss : List Suffix) × Gives queries f ts (good (suffixes ss) (seen rest)) × (value_of after ≡ applied_to before.place (tree_of before.expr) ss)

-- the same for what stands after the colon of a subquery, and for its end
abbrev pub StepFollows : Part → ℕ → List Lexed → Part → List Lexed → Type 0
StepFollows before span ts after rest =
    (step : Option ℕ) × ((q : Place) × ((ss : List Suffix) × (Gives queries (rule Step) ts (good (stepped step q ss) (seen rest))
    × (value_of after ≡ applied_to before.place (tree_of before.expr) (in_subquery span step q ∷ ss)))))

abbrev pub EndFollows : Part → ℕ → Option ℕ → List Lexed → Part → List Lexed → Type 0
EndFollows before span step ts after rest =
    (q : Place) × ((ss : List Suffix) × (Gives queries (rule Closing) ts (good (stepped None q ss) (seen rest))
    × (value_of after ≡ applied_to before.place (tree_of before.expr) (in_subquery span step q ∷ ss))))

-- matchers in braces, where there are any
abbrev pub braced_value : Option (List MatchText × Place) → QueryValue
braced_value None = bare
braced_value (Some (ms, p)) = braced ms p

-- how far a level stands above the operands, in the order of the calls
abbrev pub rank_of : Level → ℕ
rank_of Or = 17
rank_of And = 14
rank_of Comparison = 11
rank_of Sum = 8
rank_of Product = 5
