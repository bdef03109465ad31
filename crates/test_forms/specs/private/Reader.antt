-- What the functions of the parser say of themselves.
use Rattle.std.specs.Prelude.{ℕ, List, Bool}
use Rattle.pr_forms.specs.Form.{Form, pair, rule}
use Rattle.pr_forms.specs.Language.{Language, is_started}
use Rattle.test_forms.specs.declared.tree.Token.{Token}
use Rattle.test_forms.specs.declared.tree.Sign.TheVariants.{Close}
use Rattle.test_forms.specs.declared.parser.Part.{Part}
use Rattle.test_forms.specs.declared.parser.Level.{Level}
use Rattle.test_forms.specs.declared.parser.Level.TheVariants.{Sum, Product}
use Rattle.test_forms.specs.private.Tree.{Seen, seen_token, tree_of}
use Rattle.test_forms.specs.private.Grammar.{production, table, Rule, Binary, Value, part, closed_by, sign, some_arguments}

-- the language of expressions
abbrev pub sums : Language Token Seen Rule Value
sums = record { production = production; table = table; see = seen_token }

-- the value of an expression with the place of its text
abbrev pub value_of : Part → Value
value_of x = part x.place (tree_of x.expr)

-- what follows an opening parenthesis, and its value with that parenthesis
abbrev pub group : Form Seen Rule Value
group = pair closed_by (rule (Binary Sum)) (sign Close)

abbrev pub argument_starts : List Token → Bool
argument_starts ts = is_started sums some_arguments ts

-- how far a level stands above the operands, in the order of the calls
abbrev pub rank_of : Level → ℕ
rank_of Sum = 6
rank_of Product = 3
