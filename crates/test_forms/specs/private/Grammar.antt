-- The grammar of the language.
use Rattle.std.specs.Prelude.{◌≡◌, ℕ, Option, Some, None, List, [], Bool, true, false, option_map, if◌then◌else◌}
use Rattle.pr_forms.specs.Form.{Form, token, nothing, pair, either, fold, rule, Reads, IsFirstBad}
use Rattle.pr_forms.specs.Table.{Table}
use Rattle.test_forms.specs.declared.tree.Place.{Place}
use Rattle.test_forms.specs.declared.tree.Sign.{Sign as SignKind}
use Rattle.test_forms.specs.declared.tree.Sign.TheVariants.{Plus, Minus, Star, Open, Close, Comma}
use Rattle.test_forms.specs.declared.tree.Operator.{Operator}
use Rattle.test_forms.specs.declared.tree.Operator.TheVariants.{Add, Subtract, Multiply}
use Rattle.test_forms.specs.declared.parser.Level.{Level}
use Rattle.test_forms.specs.declared.parser.Level.TheVariants.{Sum, Product}
use Rattle.test_forms.specs.private.Tree.{Seen, number_token, name_token, sign_token, Tree, number, name, negated, binary, call, none, more}

-- What stands for a part of a text.
pub data Value : Type 0 where
  -- an expression, with the place of its text, parentheses around it included
  part : Place → Tree → Value
  -- a sign
  at : Place → Value
  -- a name
  word : Place → List ℕ → Value
  -- an operator, and one with its right side
  operation : Operator → Value
  turn : Operator → Place → Tree → Value
  -- arguments, and arguments with the sign that closes them
  arguments : Tree → Value
  closed : Place → Tree → Value
  -- that a name has none, and what no text has
  alone : Value
  mark : Value

-- The rules.
pub data Rule : Type 0 where
  Binary : Level → Rule
  Unary : Rule
  Primary : Rule
  Tail : Rule
  Arguments : Rule

-- whether the signs are the same
abbrev pub same_sign : SignKind → SignKind → Bool
same_sign Plus Plus = true
same_sign Minus Minus = true
same_sign Star Star = true
same_sign Open Open = true
same_sign Close Close = true
same_sign Comma Comma = true
same_sign _ _ = false

abbrev pub operator_of : Level → SignKind → Option Operator
operator_of Sum Plus = Some Add
operator_of Sum Minus = Some Subtract
operator_of Product Star = Some Multiply
operator_of _ _ = None

abbrev pub sign_at : SignKind → Seen → Option Value
sign_at wanted (sign_token s p) = if same_sign wanted s then Some (at p) else None
sign_at wanted _ = None

abbrev pub operation_at : Level → Seen → Option Value
operation_at l (sign_token s p) = option_map operation (operator_of l s)
operation_at l _ = None

abbrev pub number_at : Seen → Option Value
number_at (number_token p n) = Some (part p (number p n))
number_at _ = None

abbrev pub word_at : Seen → Option Value
word_at (name_token p t) = Some (word p t)
word_at _ = None

-- from the start of one place to the end of another
abbrev pub through : Place → Place → Place
through p q = record { start = p.start; end = q.end }

-- how the values of parts are joined
abbrev pub second_of : Value → Value → Value
second_of v w = w

abbrev pub joined : Value → Value → Value
joined (part p l) (turn o q r) = part (through p q) (binary (through p q) o l r)
joined _ _ = mark

abbrev pub turn_of : Value → Value → Value
turn_of (operation o) (part q r) = turn o q r
turn_of _ _ = mark

abbrev pub negated_by : Value → Value → Value
negated_by (at p) (part q t) = part (through p q) (negated (through p q) t)
negated_by _ _ = mark

abbrev pub opened_by : Value → Value → Value
opened_by (at p) (part q t) = part (through p q) t
opened_by _ _ = mark

abbrev pub closed_by : Value → Value → Value
closed_by (part p t) (at q) = part (through p q) t
closed_by _ _ = mark

abbrev pub ended_by : Value → Value → Value
ended_by (arguments ts) (at q) = closed q ts
ended_by _ _ = mark

abbrev pub called : Value → Value → Value
called (word p n) alone = part p (name p n)
called (word p n) (closed q ts) = part (through p q) (call (through p q) n ts)
called _ _ = mark

abbrev pub argument : Value → Value → Value
argument (arguments ts) (part p t) = arguments (more ts t)
argument _ _ = mark

abbrev pub sign : SignKind → Form Seen Rule Value
sign s = token (sign_at s)

abbrev pub operator : Level → Form Seen Rule Value
operator l = token (operation_at l)

-- the rule of the operands
abbrev pub tighter : Level → Rule
tighter Sum = Binary Product
tighter Product = Unary

abbrev pub operand : Level → Form Seen Rule Value
operand l = pair turn_of (operator l) (rule (tighter l))

abbrev pub next_argument : Form Seen Rule Value
next_argument = pair second_of (sign Comma) (rule (Binary Sum))

abbrev pub some_arguments : Form Seen Rule Value
some_arguments = fold argument (pair argument (nothing (arguments none)) (rule (Binary Sum))) next_argument

-- The productions:
--   binary(level) = tighter { operator tighter }          left-associative
--   unary         = "-" unary | primary
--   primary       = number | "(" sum ")" | name tail
--   tail          = "(" arguments ")" |
--   arguments     = sum { "," sum } |
abbrev pub production : Rule → Form Seen Rule Value
production (Binary l) = fold joined (rule (tighter l)) (operand l)
production Unary = either (pair negated_by (sign Minus) (rule Unary)) (rule Primary)
production Primary = either (token number_at) (either (pair opened_by (sign Open) (pair closed_by (rule (Binary Sum)) (sign Close))) (pair called (token word_at) (rule Tail)))
production Tail = either (pair second_of (sign Open) (pair ended_by (rule Arguments) (sign Close))) (nothing alone)
production Arguments = either some_arguments (nothing (arguments none))

-- What one token ahead tells of the rules.
abbrev pub starts_operand : Seen → Bool
starts_operand (number_token p n) = true
starts_operand (name_token p t) = true
starts_operand (sign_token Minus p) = true
starts_operand (sign_token Open p) = true
starts_operand _ = false

abbrev pub starts_primary : Seen → Bool
starts_primary (sign_token Minus p) = false
starts_primary t = starts_operand t

abbrev pub is_open : Seen → Bool
is_open (sign_token Open p) = true
is_open _ = false

abbrev pub is_product_more : Seen → Bool
is_product_more (sign_token Star p) = true
is_product_more t = is_open t

abbrev pub is_sum_more : Seen → Bool
is_sum_more (sign_token Plus p) = true
is_sum_more (sign_token Minus p) = true
is_sum_more t = is_product_more t

abbrev pub is_arguments_more : Seen → Bool
is_arguments_more (sign_token Close p) = false
is_arguments_more t = true

abbrev pub empty_rule : Rule → Bool
empty_rule Tail = true
empty_rule Arguments = true
empty_rule _ = false

abbrev pub starts_rule : Rule → Seen → Bool
starts_rule (Binary l) = starts_operand
starts_rule Unary = starts_operand
starts_rule Primary = starts_primary
starts_rule Tail = is_open
starts_rule Arguments = starts_operand

abbrev pub more_rule : Rule → Seen → Bool
more_rule (Binary Sum) = is_sum_more
more_rule (Binary Product) = is_product_more
more_rule Unary = is_open
more_rule Primary = is_open
more_rule Tail = is_open
more_rule Arguments = is_arguments_more

abbrev pub table : Table Seen Rule
table = record { empty = empty_rule; starts = starts_rule; more = more_rule }

-- The tokens are a whole text, with this tree.
abbrev pub Derives : List Seen → Tree → Type 0
Derives ts t = (p : Place) × Reads production (rule (Binary Sum)) ts (part p t) []

-- The value is that of a text with this tree.
abbrev pub HasTree : Value → Tree → Type 0
HasTree (part p t) u = t ≡ u
HasTree _ _ = ⊥

abbrev pub IsBadPlace : List Seen → ℕ → Type 0
IsBadPlace ts place = IsFirstBad production (rule (Binary Sum)) ts place
