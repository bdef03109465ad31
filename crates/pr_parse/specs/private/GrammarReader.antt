-- What the functions that read tokens say of themselves.
use Rattle.std.specs.Prelude.{ℕ, List, ◌++◌, Bool}
use Rattle.pr_forms.specs.Language.{Carries, is_started}
use Rattle.pr_ast.specs.declared.place.Place.{Place}
use Rattle.pr_ast.specs.declared.selector.MatchText.{MatchText}
use Rattle.pr_ast.specs.Tree.{Tree}
use Rattle.pr_parse.specs.declared.grammar.kind.Lexed.{Lexed}
use Rattle.pr_parse.specs.Grammar.{F, QueryValue, part, names, matchers, some_arguments}
use Rattle.pr_parse.specs.GrammarTable.{queries}

-- After these names come those that the second form reads; the same of matchers.
abbrev pub HasNames : F → List Lexed → List (List ℕ) → F → List Lexed → Type 0
HasNames f ts done g rest = Carries queries f ts (λ ns. names (done ++ ns)) g rest names

abbrev pub HasMatchers : F → List Lexed → List MatchText → F → List Lexed → Type 0
HasMatchers f ts done g rest = Carries queries f ts (λ ms. matchers (done ++ ms)) g rest matchers

-- What the first form reads is a right side that the second one reads.
abbrev pub HasSide : F → List Lexed → (Place → Tree → QueryValue) → F → List Lexed → Type 0
HasSide f ts make g rest = Carries queries f ts (λ (x : Place × Tree). make x.0 x.1) g rest (λ x. part x.0 x.1)

abbrev pub argument_starts : List Lexed → Bool
argument_starts ts = is_started queries some_arguments ts
