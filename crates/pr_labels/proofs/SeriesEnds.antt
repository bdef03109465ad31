-- The grammar of series texts ends: so the labels of a text are a function of it.
use Rattle.std.proofs.Common.{◌≡◌, ℕ, suc, nat_le, Option, Some, None, Bool, true, false, List, [], ◌∷◌, ◌++◌, refl, sym, ap, ◌∙◌, arith}
use Rattle.std.proofs.lemmas.Bool.{leb-true, le-leb}
use Rattle.std.specs.Prelude.{if◌then◌else◌}
use Rattle.pr_words.specs.pr_forms.Form.{rule, Reads}
use Rattle.pr_words.specs.pr_forms.Reading.{EndsIn, Ends, reading}
use Rattle.pr_words.proofs.FormsEnding.{given_reads, reads_given, given_place}
use Rattle.pr_words.specs.Strings as strings
use Rattle.pr_words.specs.StringTable as string_tables
use Rattle.pr_words.specs.Strings.{Letter, letter, seen}
use Rattle.pr_words.proofs.StringEnds as string_ends
use Rattle.pr_words.proofs.FormsWithin.{ends_within}
use Rattle.pr_labels.specs.declared.pair.Pair.{Pair}
use Rattle.pr_labels.specs.SeriesGrammar.{production, embedding, Rule, Series, MetricByte, MetricRest, Tail, Listed, Braces, Items, Item, NameByte, NameRest, Named, After, Next, InString, SeriesValue, listed, quoted, mark, ReadsSeries, ReadsLabels, IsBadPlace, metric_start, metric_byte, name_start, name_byte, is_metric_letter_kind, is_metric_kind, is_letter_kind, is_label_kind}
use Rattle.pr_labels.specs.SeriesReading.{pairs_in, series_pairs, bad_series_place, series_labels, HasNoLabels}
use Rattle.pr_labels.specs.declared.series.series.TextFault.{TextFault}
use Rattle.pr_labels.specs.declared.series.series.TextFault.TheVariants.{BadLabels, Memory}
use Rattle.pr_labels.specs.SeriesGrammar.{Refuses, Misses}
use Rattle.pr_labels.specs.Edits.{labels_of}
use Rattle.std.specs.Option.{option_map}
use Rattle.pr_words.proofs.FormsPlaces.{one_place}
use Rattle.pr_labels.specs.LabelSet.{IsLabelSet}
use Rattle.pr_labels.proofs.SeriesNames.{read_is_set}
use Rattle.pr_labels.proofs.SeriesTable.{known, tables}
use Rattle.pr_labels.specs.SeriesTable.{table, rank, steps}

-- the rule that a byte of a name chooses reads that byte
metric_ends : (test : Bool) (name : List ℕ) (n : Rule) → (if test then Some (MetricByte name) else None) ≡ Some n → (table.empty n ≡ false) × (nat_le (rank n) 2 ≡ true)
metric_ends true name n e = let same : n ≡ MetricByte name = cc in (rw same refl, rw same refl)
metric_ends false name n e = absurd (cc)

name_ends : (test : Bool) (names : List (List ℕ)) (name : List ℕ) (n : Rule) → (if test then Some (NameByte names name) else None) ≡ Some n → (table.empty n ≡ false) × (nat_le (rank n) 2 ≡ true)
name_ends true names name n e = let same : n ≡ NameByte names name = cc in (rw same refl, rw same refl)
name_ends false names name n e = absurd (cc)

above_two : (b : ℕ) (n : Rule) → nat_le 2 b ≡ true → (table.empty n ≡ false) × (nat_le (rank n) 2 ≡ true) → (table.empty n ≡ false) × (nat_le (rank n) b ≡ true)
above_two b n h k = let x = leb-true 2 b h in let y = leb-true (rank n) 2 k.1 in (k.0, le-leb (rank n) b (omega arith))

start_ends : (t : Letter) (n : Rule) → metric_start t ≡ Some n → (table.empty n ≡ false) × (nat_le (rank n) 3 ≡ true)
start_ends (letter k b) n e = above_two 3 n refl (metric_ends (is_metric_letter_kind k) (b ∷ []) n e)

rest_ends : (name : List ℕ) (t : Letter) (n : Rule) → metric_byte name t ≡ Some n → (table.empty n ≡ false) × (nat_le (rank n) 7 ≡ true)
rest_ends name (letter k b) n e = above_two 7 n refl (metric_ends (is_metric_kind k) (name ++ b ∷ []) n e)

item_ends : (names : List (List ℕ)) (t : Letter) (n : Rule) → name_start names t ≡ Some n → (table.empty n ≡ false) × (nat_le (rank n) 2 ≡ true)
item_ends names (letter k b) n e = name_ends (is_letter_kind k) names (b ∷ []) n e

byte_ends : (names : List (List ℕ)) (name : List ℕ) (t : Letter) (n : Rule) → name_byte names name t ≡ Some n → (table.empty n ≡ false) × (nat_le (rank n) 4 ≡ true)
byte_ends names name (letter k b) n e = above_two 4 n refl (name_ends (is_label_kind k) names (name ++ b ∷ []) n e)

ends_known : (n : Rule) → EndsIn table rank steps (rank n) (production n)
ends_known Series = (λ t n e. start_ends t n e, refl)
ends_known (MetricByte name) = (tt, refl)
ends_known (MetricRest name) = (λ t n e. rest_ends name t n e, (tt, refl))
ends_known Tail = (refl, tt)
ends_known Listed = (tt, refl)
ends_known (Braces names) = (tt, refl)
ends_known (Items names) = (tt, refl)
ends_known (Item names) = ((tt, tt), λ t n e. item_ends names t n e)
ends_known (NameByte names name) = (tt, refl)
ends_known (NameRest names name) = (λ t n e. byte_ends names name t n e, refl)
ends_known (Named true names name) = tt
ends_known (Named false names name) = (tt, (tt, (tt, (refl, refl))))
ends_known (After names) = (tt, refl)
ends_known (Next names) = ((tt, refl), (tt, tt))
ends_known (InString n) = ends_within embedding string_tables.table table tables string_tables.rank rank steps (λ m. refl) (string_tables.rank n) (strings.production n) (string_ends.ends.ends n)

below_known : (n : Rule) → nat_le (suc (rank n)) steps ≡ true
below_known (InString n) = string_ends.ends.below n
below_known Series = refl
below_known (MetricByte name) = refl
below_known (MetricRest name) = refl
below_known Tail = refl
below_known Listed = refl
below_known (Braces names) = refl
below_known (Items names) = refl
below_known (Item names) = refl
below_known (NameByte names name) = refl
below_known (NameRest names name) = refl
below_known (Named twice names name) = refl
below_known (After names) = refl
below_known (Next names) = refl

pub ends : Ends production table rank steps
ends = record { some = refl; below = below_known; ends = ends_known }

value_given : (o : Option SeriesValue) (pairs : List Pair) → pairs_in o ≡ Some pairs → o ≡ Some (listed pairs)
value_given None pairs e = absurd (cc)
value_given (Some (listed ps)) pairs e = cc
value_given (Some (quoted v)) pairs e = absurd (cc)
value_given (Some mark) pairs e = absurd (cc)

-- what the function gives is the reading of the text, and each reading is given
pub pairs_read : (text : List ℕ) (pairs : List Pair) → series_pairs text ≡ Some pairs → ReadsSeries text pairs
unfolding series_pairs
pairs_read text pairs e = given_reads production table known rank steps ends Series (seen text) (listed pairs) (value_given (reading production table steps (rule Series) (seen text)) pairs e)

pub pairs_given : (text : List ℕ) (pairs : List Pair) → ReadsSeries text pairs → series_pairs text ≡ Some pairs
unfolding series_pairs
pairs_given text pairs d = ap pairs_in (reads_given production table known rank steps ends Series (seen text) (listed pairs) d)

pub place_given : (text : List ℕ) → IsBadPlace text (bad_series_place text)
unfolding bad_series_place
place_given text = given_place production table known rank steps ends Series (seen text)

-- the label set of the pairs that are read
pub labels_given : (text : List ℕ) (pairs : List Pair) → ReadsSeries text pairs → series_labels text ≡ Some (labels_of pairs)
unfolding series_labels
labels_given text pairs d = ap (option_map labels_of) (pairs_given text pairs d)

no_pairs : (text : List ℕ) (o : Option (List Pair)) → series_pairs text ≡ o → ((pairs : List Pair) → ReadsSeries text pairs → ⊥) → option_map labels_of o ≡ None
no_pairs text None e h = refl
no_pairs text (Some pairs) e h = absurd (h pairs (pairs_read text pairs e))

pub no_labels : (text : List ℕ) → ((pairs : List Pair) → ReadsSeries text pairs → ⊥) → series_labels text ≡ None
unfolding series_labels
no_labels text h = no_pairs text (series_pairs text) refl h

pub one_bad_place : (text : List ℕ) (at : ℕ) → IsBadPlace text at → at ≡ bad_series_place text
one_bad_place text at h = one_place production (rule Series) (seen text) at (bad_series_place text) h (place_given text)

-- a text that is refused has no label set
pub refused_has_none : (text : List ℕ) (fault : TextFault) → ((v : SeriesValue) → Reads production (rule Series) (seen text) v [] → Misses fault) → Refuses text fault → HasNoLabels text fault
refused_has_none text (BadLabels at) h p = (no_labels text (λ pairs d. h (listed pairs) d), one_bad_place text at p)
refused_has_none text Memory h p = tt

-- what the function gives is a label set, and that of the text's reading
pairs_of_labels : (text : List ℕ) (o : Option (List Pair)) (ls : List Pair) → series_pairs text ≡ o → option_map labels_of o ≡ Some ls → ReadsLabels text ls
pairs_of_labels text None ls e h = absurd (cc)
pairs_of_labels text (Some pairs) ls e h = let same : labels_of pairs ≡ ls = cc in record { pairs = pairs; reads = pairs_read text pairs e; are = sym same }

pub labels_read : (text : List ℕ) (ls : List Pair) → series_labels text ≡ Some ls → ReadsLabels text ls
unfolding series_labels
labels_read text ls e = pairs_of_labels text (series_pairs text) ls refl e

pub labels_are_set : (text : List ℕ) (ls : List Pair) → series_labels text ≡ Some ls → IsLabelSet ls
labels_are_set text ls e = read_is_set text ls (labels_read text ls e)

pub reading_given : (text : List ℕ) (ls : List Pair) → ReadsLabels text ls → series_labels text ≡ Some ls
reading_given text ls r = labels_given text r.pairs r.reads ∙ ap Some (sym r.are)
