-- One token ahead decides the grammar.
use Rattle.std.proofs.Common.{◌≡◌, true, refl}
use Rattle.pr_forms.specs.Table.{empty_of, starts_of, more_of, parts_at, Decides, IsDecided}
use Rattle.pr_forms.proofs.Decided.{plain_binds}
use Rattle.test_forms.specs.declared.tree.Sign.TheVariants.{Comma}
use Rattle.test_forms.specs.declared.parser.Level.TheVariants.{Sum, Product}
use Rattle.test_forms.specs.private.Tree.{Seen, sign_token}
use Rattle.test_forms.specs.private.Grammar.{production, table, Rule, Binary, Unary, Primary, Tail, Arguments}

starts_known : (n : Rule) (t : Seen) → starts_of table (production n) t ≡ table.starts n t
starts_known (Binary Sum) (sign_token Comma p) = refl
starts_known (Binary Product) (sign_token Comma p) = refl
starts_known Unary (sign_token Comma p) = refl
starts_known Primary (sign_token Comma p) = refl
starts_known Tail (sign_token Comma p) = refl
starts_known Arguments (sign_token Comma p) = refl
starts_known _ _ = refl

empty_known : (n : Rule) → empty_of table (production n) ≡ table.empty n
empty_known (Binary Sum) = refl
empty_known _ = refl

more_known : (n : Rule) (t : Seen) → more_of table (production n) t ≡ table.more n t
more_known (Binary Sum) (sign_token Comma p) = refl
more_known (Binary Product) (sign_token Comma p) = refl
more_known Unary (sign_token Comma p) = refl
more_known Primary (sign_token Comma p) = refl
more_known Tail (sign_token Comma p) = refl
more_known Arguments (sign_token Comma p) = refl
more_known _ _ = refl

parts_known : (n : Rule) (t : Seen) → parts_at table (production n) t ≡ true
parts_known (Binary Sum) (sign_token Comma p) = refl
parts_known (Binary Product) (sign_token Comma p) = refl
parts_known Unary (sign_token Comma p) = refl
parts_known Primary (sign_token Comma p) = refl
parts_known Tail (sign_token Comma p) = refl
parts_known Arguments (sign_token Comma p) = refl
parts_known _ _ = refl

decides : (n : Rule) → Decides table (production n)
decides (Binary Sum) = record { at = parts_known (Binary Sum); solid = refl; binds = plain_binds table (production (Binary Sum)) refl }
decides n = record { at = parts_known n; solid = refl; binds = plain_binds table (production n) refl }

pub known : IsDecided production table
known = record { empty = empty_known; starts = starts_known; more = more_known; decides = decides }
