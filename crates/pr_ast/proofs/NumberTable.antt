-- One byte ahead decides the grammar of numbers.
use Rattle.std.proofs.Common.{◌≡◌, true, refl}
use Rattle.pr_time.specs.pr_forms.Table.{empty_of, starts_of, more_of, parts_at, Decides, IsDecided}
use Rattle.pr_time.proofs.FormsDecided.{plain_binds}
use Rattle.pr_ast.specs.declared.lex.number.Letter.{Letter}
use Rattle.pr_ast.specs.declared.lex.number.Letter.TheVariants.{Digit}
use Rattle.pr_ast.specs.Number.{production, Rule, Number, Fraction, Power, Exponent, Digits, Tail}
use Rattle.pr_ast.specs.NumberTable.{table}

starts_known : (n : Rule) (t : Letter) → starts_of table (production n) t ≡ table.starts n t
starts_known Number Digit = refl
starts_known Fraction Digit = refl
starts_known Power Digit = refl
starts_known Exponent Digit = refl
starts_known Digits Digit = refl
starts_known Tail Digit = refl
starts_known _ _ = refl

empty_known : (n : Rule) → empty_of table (production n) ≡ table.empty n
empty_known Number = refl
empty_known _ = refl

more_known : (n : Rule) (t : Letter) → more_of table (production n) t ≡ table.more n t
more_known Number Digit = refl
more_known Fraction Digit = refl
more_known Power Digit = refl
more_known Exponent Digit = refl
more_known Digits Digit = refl
more_known Tail Digit = refl
more_known _ _ = refl

parts_known : (n : Rule) (t : Letter) → parts_at table (production n) t ≡ true
parts_known Number Digit = refl
parts_known Fraction Digit = refl
parts_known Power Digit = refl
parts_known Exponent Digit = refl
parts_known Digits Digit = refl
parts_known Tail Digit = refl
parts_known _ _ = refl

decides : (n : Rule) → Decides table (production n)
decides Number = record { at = parts_known Number; solid = refl; binds = plain_binds table (production Number) refl }
decides n = record { at = parts_known n; solid = refl; binds = plain_binds table (production n) refl }

pub known : IsDecided production table
known = record { empty = empty_known; starts = starts_known; more = more_known; decides = decides }
