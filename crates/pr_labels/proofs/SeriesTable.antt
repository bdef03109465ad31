-- One byte ahead decides the grammar of series texts.
use Rattle.std.proofs.Common.{◌≡◌, ℕ, List, [], ◌∷◌, ◌++◌, Some, None, Bool, true, false, refl, ◌∙◌, subst}
use Rattle.std.specs.Prelude.{if◌then◌else◌}
use Rattle.pr_words.specs.Names.{is_among}
use Rattle.pr_words.specs.pr_forms.Form.{either, chosen, rule}
use Rattle.pr_words.specs.pr_forms.Table.{empty_of, starts_of, more_of, parts_at, is_solid, Binds, IsDecided}
use Rattle.pr_words.proofs.FormsDecided.{plain_binds}
use Rattle.pr_words.specs.declared.strings.kind.StringByte.{StringByte}
use Rattle.pr_words.specs.declared.strings.kind.StringByte.TheVariants.{A}
use Rattle.pr_words.specs.Strings as strings
use Rattle.pr_words.specs.StringTable as string_tables
use Rattle.pr_words.specs.Strings.{Letter, letter}
use Rattle.pr_words.proofs.StringTable as string_table
use Rattle.pr_words.specs.pr_forms.Within.{HoldsTable, IsWithin}
use Rattle.pr_words.specs.private.Language.{text_strings}
use Rattle.pr_labels.specs.private.SeriesReader.{series}
use Rattle.pr_words.proofs.FormsWithin.{empty_within, starts_within, more_within, decides_within}
use Rattle.pr_labels.specs.SeriesGrammar.{production, embedding, SeriesValue, Rule, Series, MetricByte, MetricRest, Tail, Listed, Braces, Items, Item, NameByte, NameRest, Named, After, Next, InString, is_letter_kind, is_label_kind, is_metric_letter_kind, is_metric_kind, metric_start, metric_byte, name_start, name_byte, goes_on, nothing_follows}
use Rattle.pr_labels.specs.SeriesTable.{table}

-- strings stand within series texts
pub tables : HoldsTable embedding string_tables.table table
tables = record { empty = λ n. refl; starts = λ n t. refl; more = λ n t. refl }

abbrev byte_of : Letter → ℕ
byte_of (letter k b) = b

pub strings_within : IsWithin embedding text_strings series
strings_within = record { grammar = record { forms = λ n. refl; values = λ v. refl }; table = tables; sees = λ b. refl; back = byte_of; is_back = λ b. refl }

starts_named : (twice : Bool) (names : List (List ℕ)) (name : List ℕ) (t : Letter) → starts_of table (production (Named twice names name)) t ≡ table.starts (Named twice names name) t
starts_named true names name (letter k b) = refl
starts_named false names name (letter A b) = refl
starts_named false names name _ = refl

more_named : (twice : Bool) (names : List (List ℕ)) (name : List ℕ) (t : Letter) → more_of table (production (Named twice names name)) t ≡ false
more_named true names name t = refl
more_named false names name (letter A b) = refl
more_named false names name _ = refl

parts_named : (twice : Bool) (names : List (List ℕ)) (name : List ℕ) (t : Letter) → parts_at table (production (Named twice names name)) t ≡ true
parts_named true names name t = refl
parts_named false names name (letter A b) = refl
parts_named false names name _ = refl

parts_rest : (twice : Bool) (names : List (List ℕ)) (name : List ℕ) (k : StringByte) (b : ℕ) →
    parts_at {V = SeriesValue} table (either (chosen (name_byte names name) nothing_follows) (rule (Named twice names name))) (letter k b) ≡ true
parts_rest true names name A b = refl
parts_rest true names name _ b = refl
parts_rest false names name A b = refl
parts_rest false names name _ b = refl

-- what may go on after a byte of a name may go on after the choice of it
metric_binds : (test : Bool) (name : List ℕ) (n : Rule) (u : Letter) → (if test then Some (MetricByte name) else None) ≡ Some n → table.more n u ≡ true → goes_on u ≡ true
metric_binds true name n u e h = let same : n ≡ MetricByte name = cc in subst (λ x. table.more x u ≡ true) same h
metric_binds false name n u e h = cc

name_binds : (test : Bool) (names : List (List ℕ)) (name : List ℕ) (n : Rule) (u : Letter) → (if test then Some (NameByte names name) else None) ≡ Some n → table.more n u ≡ true → nothing_follows u ≡ true
name_binds true names name n u e h = let same : n ≡ NameByte names name = cc in subst (λ x. table.more x u ≡ true) same h
name_binds false names name n u e h = cc

start_binds : (t u : Letter) (n : Rule) → metric_start t ≡ Some n → table.more n u ≡ true → goes_on u ≡ true
start_binds (letter k b) u n e h = metric_binds (is_metric_letter_kind k) (b ∷ []) n u e h

rest_binds : (name : List ℕ) (t u : Letter) (n : Rule) → metric_byte name t ≡ Some n → table.more n u ≡ true → goes_on u ≡ true
rest_binds name (letter k b) u n e h = metric_binds (is_metric_kind k) (name ++ b ∷ []) n u e h

item_binds : (names : List (List ℕ)) (t u : Letter) (n : Rule) → name_start names t ≡ Some n → table.more n u ≡ true → nothing_follows u ≡ true
item_binds names (letter k b) u n e h = name_binds (is_letter_kind k) names (b ∷ []) n u e h

byte_binds : (names : List (List ℕ)) (name : List ℕ) (t u : Letter) (n : Rule) → name_byte names name t ≡ Some n → table.more n u ≡ true → nothing_follows u ≡ true
byte_binds names name (letter k b) u n e h = name_binds (is_label_kind k) names (name ++ b ∷ []) n u e h

starts_known : (n : Rule) (t : Letter) → starts_of table (production n) t ≡ table.starts n t
starts_known (InString n) t = starts_within embedding string_tables.table table tables (strings.production n) t ∙ string_table.known.starts n t
starts_known (Named twice names name) t = starts_named twice names name t
starts_known Series (letter A b) = refl
starts_known (MetricByte name) (letter A b) = refl
starts_known (MetricRest name) (letter A b) = refl
starts_known Tail (letter A b) = refl
starts_known Listed (letter A b) = refl
starts_known (Braces names) (letter A b) = refl
starts_known (Items names) (letter A b) = refl
starts_known (Item names) (letter A b) = refl
starts_known (NameByte names name) (letter A b) = refl
starts_known (NameRest names name) (letter A b) = refl
starts_known (After names) (letter A b) = refl
starts_known (Next names) (letter A b) = refl
starts_known _ _ = refl

empty_known : (n : Rule) → empty_of table (production n) ≡ table.empty n
empty_known (InString n) = empty_within embedding string_tables.table table tables (strings.production n) ∙ string_table.known.empty n
empty_known (Named true names name) = refl
empty_known (Named false names name) = refl
empty_known _ = refl

more_known : (n : Rule) (t : Letter) → more_of table (production n) t ≡ table.more n t
more_known (InString n) t = more_within embedding string_tables.table table tables (strings.production n) t ∙ string_table.known.more n t
more_known (Named twice names name) t = more_named twice names name t
more_known Series (letter A b) = refl
more_known (MetricByte name) (letter A b) = refl
more_known (MetricRest name) (letter A b) = refl
more_known Tail (letter A b) = refl
more_known Listed (letter A b) = refl
more_known (Braces names) (letter A b) = refl
more_known (Items names) (letter A b) = refl
more_known (Item names) (letter A b) = refl
more_known (NameByte names name) (letter A b) = refl
more_known (NameRest names name) (letter A b) = refl
more_known (After names) (letter A b) = refl
more_known (Next names) (letter A b) = refl
more_known _ _ = refl

parts_known : (n : Rule) (t : Letter) → parts_at table (production n) t ≡ true
parts_known (InString n) t = (decides_within embedding string_tables.table table tables (strings.production n) (string_table.known.decides n)).at t
parts_known (Named twice names name) t = parts_named twice names name t
parts_known Series (letter A b) = refl
parts_known (MetricByte name) (letter A b) = refl
parts_known (MetricRest name) (letter A b) = refl
parts_known Tail (letter A b) = refl
parts_known Listed (letter A b) = refl
parts_known (Braces names) (letter A b) = refl
parts_known (Items names) (letter A b) = refl
parts_known (Item names) (letter A b) = refl
parts_known (NameByte names name) (letter A b) = refl
parts_known (NameRest names name) (letter k b) = parts_rest (is_among name names) names name k b
parts_known (After names) (letter A b) = refl
parts_known (Next names) (letter A b) = refl
parts_known _ _ = refl

solid_known : (n : Rule) → is_solid table (production n) ≡ true
solid_known (InString n) = (decides_within embedding string_tables.table table tables (strings.production n) (string_table.known.decides n)).solid
solid_known (Named true names name) = refl
solid_known (Named false names name) = refl
solid_known _ = refl

binds_known : (n : Rule) → Binds table (production n)
binds_known (InString n) = (decides_within embedding string_tables.table table tables (strings.production n) (string_table.known.decides n)).binds
binds_known Series = (λ t n u e h. start_binds t u n e h, tt)
binds_known (MetricRest name) = (λ t n u e h. rest_binds name t u n e h, (tt, tt))
binds_known (Item names) = ((tt, tt), λ t n u e h. item_binds names t u n e h)
binds_known (NameRest names name) = (λ t n u e h. byte_binds names name t u n e h, tt)
binds_known (Named true names name) = tt
binds_known (Named false names name) = plain_binds table (production (Named false names name)) refl
binds_known n = plain_binds table (production n) refl

pub known : IsDecided production table
known = record { empty = empty_known; starts = starts_known; more = more_known; decides = λ n. record { at = parts_known n; solid = solid_known n; binds = binds_known n } }
