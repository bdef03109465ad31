-- One letter ahead decides the grammar of spans.
use Rattle.std.proofs.Common.{◌≡◌, zero, true, refl}
use Rattle.pr_forms.specs.Table.{empty_of, starts_of, more_of, parts_at, Decides, IsDecided}
use Rattle.pr_forms.proofs.Decided.{plain_binds}
use Rattle.pr_time.specs.declared.text.Letter.{Letter}
use Rattle.pr_time.specs.declared.text.Letter.TheVariants.{Digit, Y}
use Rattle.pr_time.specs.declared.text.Unit.TheVariants.{Year, Week, Day, Hour, Minute, Second, Millisecond}
use Rattle.pr_time.specs.SpanText.{production, Rule, Text, AfterZero, After, From, AfterM, NoUnit}
use Rattle.pr_time.specs.SpanTable.{table}

starts_known : (n : Rule) (t : Letter) → starts_of table (production n) t ≡ table.starts n t
starts_known Text (Digit zero) = refl
starts_known AfterZero Y = refl
starts_known AfterM Y = refl
starts_known NoUnit Y = refl
starts_known (After Year) Y = refl
starts_known (After Week) Y = refl
starts_known (After Day) Y = refl
starts_known (After Hour) Y = refl
starts_known (After Minute) Y = refl
starts_known (After Second) Y = refl
starts_known (After Millisecond) Y = refl
starts_known (From Year) Y = refl
starts_known (From Week) Y = refl
starts_known (From Day) Y = refl
starts_known (From Hour) Y = refl
starts_known (From Minute) Y = refl
starts_known (From Second) Y = refl
starts_known (From Millisecond) Y = refl
starts_known _ _ = refl

empty_known : (n : Rule) → empty_of table (production n) ≡ table.empty n
empty_known (After Year) = refl
empty_known (From Year) = refl
empty_known _ = refl

more_known : (n : Rule) (t : Letter) → more_of table (production n) t ≡ table.more n t
more_known Text (Digit zero) = refl
more_known AfterZero Y = refl
more_known AfterM Y = refl
more_known NoUnit Y = refl
more_known (After Year) Y = refl
more_known (After Week) Y = refl
more_known (After Day) Y = refl
more_known (After Hour) Y = refl
more_known (After Minute) Y = refl
more_known (After Second) Y = refl
more_known (After Millisecond) Y = refl
more_known (From Year) Y = refl
more_known (From Week) Y = refl
more_known (From Day) Y = refl
more_known (From Hour) Y = refl
more_known (From Minute) Y = refl
more_known (From Second) Y = refl
more_known (From Millisecond) Y = refl
more_known _ _ = refl

parts_known : (n : Rule) (t : Letter) → parts_at table (production n) t ≡ true
parts_known Text (Digit zero) = refl
parts_known AfterZero Y = refl
parts_known AfterM Y = refl
parts_known NoUnit Y = refl
parts_known (After Year) Y = refl
parts_known (After Week) Y = refl
parts_known (After Day) Y = refl
parts_known (After Hour) Y = refl
parts_known (After Minute) Y = refl
parts_known (After Second) Y = refl
parts_known (After Millisecond) Y = refl
parts_known (From Year) Y = refl
parts_known (From Week) Y = refl
parts_known (From Day) Y = refl
parts_known (From Hour) Y = refl
parts_known (From Minute) Y = refl
parts_known (From Second) Y = refl
parts_known (From Millisecond) Y = refl
parts_known _ _ = refl

decides : (n : Rule) → Decides table (production n)
decides (After Year) = record { at = parts_known (After Year); solid = refl; binds = plain_binds table (production (After Year)) refl }
decides (From Year) = record { at = parts_known (From Year); solid = refl; binds = plain_binds table (production (From Year)) refl }
decides n = record { at = parts_known n; solid = refl; binds = plain_binds table (production n) refl }

pub known : IsDecided production table
known = record { empty = empty_known; starts = starts_known; more = more_known; decides = decides }
