-- One byte ahead decides the grammar of strings.
use Rattle.std.proofs.Common.{◌≡◌, zero, suc, true, refl}
use Rattle.pr_forms.specs.Table.{empty_of, starts_of, more_of, parts_at, is_solid, Binds, IsDecided}
use Rattle.pr_forms.proofs.Decided.{plain_binds}
use Rattle.pr_words.specs.declared.strings.kind.Mark.TheVariants.{Double, Single, Back}
use Rattle.pr_words.specs.declared.strings.kind.StringByte.TheVariants.{Quote}
use Rattle.pr_words.specs.Strings.{production, Letter, letter, Rule, Text, Quoted, Escape, Digits, Then}
use Rattle.pr_words.specs.StringTable.{table}

starts_known : (n : Rule) (t : Letter) → starts_of table (production n) t ≡ table.starts n t
starts_known Text (letter (Quote Double) b) = refl
starts_known (Quoted Double) (letter (Quote Double) b) = refl
starts_known (Quoted Single) (letter (Quote Double) b) = refl
starts_known (Quoted Back) (letter (Quote Double) b) = refl
starts_known (Escape Double) (letter (Quote Double) b) = refl
starts_known (Escape Single) (letter (Quote Double) b) = refl
starts_known (Escape Back) (letter (Quote Double) b) = refl
starts_known (Digits limit zero n) t = refl
starts_known (Digits limit (suc left) n) t = refl
starts_known (Then limit left n) t = refl
starts_known _ _ = refl

empty_known : (n : Rule) → empty_of table (production n) ≡ table.empty n
empty_known (Digits limit zero n) = refl
empty_known (Digits limit (suc left) n) = refl
empty_known _ = refl

more_known : (n : Rule) (t : Letter) → more_of table (production n) t ≡ table.more n t
more_known Text (letter (Quote Double) b) = refl
more_known (Quoted Double) (letter (Quote Double) b) = refl
more_known (Quoted Single) (letter (Quote Double) b) = refl
more_known (Quoted Back) (letter (Quote Double) b) = refl
more_known (Escape Double) (letter (Quote Double) b) = refl
more_known (Escape Single) (letter (Quote Double) b) = refl
more_known (Escape Back) (letter (Quote Double) b) = refl
more_known (Digits limit zero n) t = refl
more_known (Digits limit (suc left) n) t = refl
more_known (Then limit zero n) t = refl
more_known (Then limit (suc left) n) t = refl
more_known _ _ = refl

parts_known : (n : Rule) (t : Letter) → parts_at table (production n) t ≡ true
parts_known Text (letter (Quote Double) b) = refl
parts_known (Quoted Double) (letter (Quote Double) b) = refl
parts_known (Quoted Single) (letter (Quote Double) b) = refl
parts_known (Quoted Back) (letter (Quote Double) b) = refl
parts_known (Escape Double) (letter (Quote Double) b) = refl
parts_known (Escape Single) (letter (Quote Double) b) = refl
parts_known (Escape Back) (letter (Quote Double) b) = refl
parts_known (Digits limit zero n) t = refl
parts_known (Digits limit (suc left) n) t = refl
parts_known (Then limit left n) t = refl
parts_known _ _ = refl

solid_known : (n : Rule) → is_solid table (production n) ≡ true
solid_known (Digits limit zero n) = refl
solid_known (Digits limit (suc left) n) = refl
solid_known _ = refl

binds_known : (n : Rule) → Binds table (production n)
binds_known (Escape m) = (tt, λ t n u e h. h)
binds_known (Digits limit (suc left) n) = λ t k u e h. h
binds_known (Digits limit zero n) = tt
binds_known Text = plain_binds table (production Text) refl
binds_known (Quoted m) = plain_binds table (production (Quoted m)) refl
binds_known (Then limit left n) = plain_binds table (production (Then limit left n)) refl

pub known : IsDecided production table
known = record { empty = empty_known; starts = starts_known; more = more_known; decides = λ n. record { at = parts_known n; solid = solid_known n; binds = binds_known n } }
