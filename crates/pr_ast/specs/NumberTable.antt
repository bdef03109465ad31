-- What one byte ahead tells of the rules of numbers: no part of what a text means.
use Rattle.std.specs.Prelude.{Bool, true, false}
use Rattle.pr_time.specs.pr_forms.Table.{Table}
use Rattle.pr_ast.specs.declared.lex.number.Letter.{Letter}
use Rattle.pr_ast.specs.declared.lex.number.Letter.TheVariants.{Digit, Point, E, PlusMinus}
use Rattle.pr_ast.specs.Number.{Rule, Number, Fraction, Power, Exponent, Digits, Tail}

-- What one byte ahead tells of the rules.
abbrev pub starts_rule : Rule → Letter → Bool
starts_rule Number Digit = true
starts_rule Number Point = true
starts_rule Fraction Point = true
starts_rule Fraction E = true
starts_rule Power E = true
starts_rule Exponent PlusMinus = true
starts_rule Exponent Digit = true
starts_rule Digits Digit = true
starts_rule Tail Digit = true
starts_rule n t = false

abbrev pub empty_rule : Rule → Bool
empty_rule Fraction = true
empty_rule Power = true
empty_rule _ = false

-- after a whole one more digits, a point or an exponent may come
abbrev pub more_rule : Rule → Letter → Bool
more_rule n Digit = true
more_rule Number Point = true
more_rule Number E = true
more_rule Fraction Point = true
more_rule Fraction E = true
more_rule Power E = true
more_rule Tail E = true
more_rule n t = false

abbrev pub table : Table Letter Rule
table = record { empty = empty_rule; starts = starts_rule; more = more_rule }
