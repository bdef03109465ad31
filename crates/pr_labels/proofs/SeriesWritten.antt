-- A printed label set is read as that set.
use Rattle.std.proofs.Common.{◌≡◌, ℕ, ◌≤◌, List, [], ◌∷◌, ◌++◌, Option, Some, None, Bool, true, false, cond, length, refl, ap, sym, ◌∙◌, subst, arith, append_assoc, append-nil}
use Rattle.std.specs.Prelude.{codes, flat_map, if◌then◌else◌}
use Rattle.std.specs.List.{list_all, list_any}
use Rattle.std.proofs.lemmas.List.{map-append}
use Rattle.std.proofs.lemmas.Bool.Decides.{nat_tests}
use Rattle.pr_words.specs.Bytes.{is_letter, is_label_byte}
use Rattle.pr_words.specs.Names.{is_among}
use Rattle.pr_words.specs.pr_forms.Form.{Form, rule, Reads, is_token, is_nothing, is_pair, is_left, is_right, is_stop, is_chosen, is_rule}
use Rattle.pr_words.proofs.FormsSuffixes.{reads_suffix, suffix_length}
use Rattle.pr_words.specs.Strings as strings
use Rattle.pr_words.specs.Strings.{Letter, letter_of, kind_of, seen}
use Rattle.pr_words.specs.Quoted.{quoted_text}
use Rattle.pr_words.proofs.FormsWithin.{reads_good}
use Rattle.pr_labels.proofs.SeriesTable.{strings_within}
use Rattle.pr_words.proofs.Written.{quoted_reads}
use Rattle.pr_labels.specs.declared.pair.Pair.{Pair}
use Rattle.pr_labels.specs.Edits.{fault_after, pair_fault}
use Rattle.pr_labels.specs.LabelSet.{IsLabelSet, has_name, metric_label, pair_of, value_of}
use Rattle.pr_labels.specs.Names.{is_label_name, is_metric_name, is_metric_byte, is_metric_letter}
use Rattle.pr_labels.specs.SeriesGrammar.{production, Rule, SeriesValue, listed, quoted, mark, is_letter_kind, is_label_kind, is_metric_letter_kind, is_metric_kind, ReadsSeries, ReadsLabels, MetricByte, MetricRest, Tail, Braces, Item, NameByte, NameRest, Named, After, InString}
use Rattle.pr_labels.specs.private.SeriesReader.{names_of}
use Rattle.pr_labels.specs.SeriesText.{pair_text, following_text, list_text, rest_text, unnamed, text_by_name, series_text}
use Rattle.pr_labels.proofs.LabelLaws.{first_none}
use Rattle.pr_labels.proofs.Making.{named_pair}
use Rattle.pr_labels.proofs.Permuted.{new_name}
use Rattle.pr_labels.proofs.SeriesNames.{letter_kind, label_kind, among_names}
use Rattle.pr_labels.proofs.SetValues.{set_again, named_again, faultless, faultless_named}
use Rattle.pr_labels.proofs.LabelOrder.{both}

-- the letters and the bytes of a metric's name are those of the grammar
first_kind : (b : ℕ) → is_metric_letter_kind (kind_of b) ≡ is_metric_letter b
first_kind b = grind (arith, nat_tests)

metric_kind : (b : ℕ) → is_metric_kind (kind_of b) ≡ is_metric_byte b
metric_kind b = grind (arith, nat_tests)

abbrev pub Reading : Form Letter Rule SeriesValue → List ℕ → SeriesValue → List ℕ → Type 0
Reading f text v rest = Reads production f (seen text) v (seen rest)

short : {f : Form Letter Rule SeriesValue} {ts rest : List Letter} {v : SeriesValue} → Reads production f ts v rest → length rest ≤ length ts
short d = suffix_length (reads_suffix d)

chosen_by : (test : Bool) (n : Rule) → test ≡ true → (if test then Some n else None) ≡ Some n
chosen_by test n h = ap (λ t. if t then Some n else None) h

-- the bytes of a label's name
label_rest : (names : List (List ℕ)) (name more rest : List ℕ) (v : SeriesValue) (end : List ℕ) → list_all is_label_byte more ≡ true → Reading (rule (NameRest names (name ++ more))) rest v end →
    Reading (rule (NameRest names name)) (more ++ rest) v end
label_rest names name [] rest v end h d = subst (λ x. Reading (rule (NameRest names x)) rest v end) (append-nil name) d
label_rest names name (b ∷ more) rest v end h d =
    let k = both (is_label_byte b) (list_all is_label_byte more) h in
    let next : Reading (rule (NameRest names (name ++ b ∷ []))) (more ++ rest) v end =
    label_rest names (name ++ b ∷ []) more rest v end k.1 (subst (λ x. Reading (rule (NameRest names x)) rest v end) (sym (append_assoc name (b ∷ []) more)) d) in
    is_rule (is_left (is_chosen {n = NameByte names (name ++ b ∷ [])} (chosen_by (is_label_kind (kind_of b)) (NameByte names (name ++ b ∷ [])) (label_kind b ∙ k.0)) (short next) (is_pair (is_token {v = mark} refl) next)))

-- a whole name that is none of those before
pub label_name : (names : List (List ℕ)) (name rest : List ℕ) (v : SeriesValue) (end : List ℕ) → is_label_name name ≡ true → is_among name names ≡ false → Reading (rule (Named false names name)) rest v end →
    Reading (rule (Item names)) (name ++ rest) v end
label_name names [] rest v end h once d = cc
label_name names (b ∷ more) rest v end h once d =
    let k = both (is_letter b) (list_all is_label_byte more) h in
    let named : Reading (rule (Named (is_among (b ∷ more) names) names (b ∷ more))) rest v end = subst (λ t. Reading (rule (Named t names (b ∷ more))) rest v end) (sym once) d in
    let next : Reading (rule (NameRest names (b ∷ []))) (more ++ rest) v end = label_rest names (b ∷ []) more rest v end k.1 (is_rule (is_right named)) in
    is_rule (is_right (is_chosen {n = NameByte names (b ∷ [])} (chosen_by (is_letter_kind (kind_of b)) (NameByte names (b ∷ [])) (letter_kind b ∙ k.0)) (short next) (is_pair (is_token {v = mark} refl) next)))

value_reads : (value rest : List ℕ) → Reading (rule (InString strings.Text)) (quoted_text value ++ rest) (quoted (strings.content value)) rest
value_reads value rest = reads_good strings_within (quoted_text value ++ rest) rest (quoted_reads value rest)

pair_reads : (names : List (List ℕ)) (p : Pair) (ps : List Pair) (rest end : List ℕ) → is_label_name p.name ≡ true → is_among p.name names ≡ false →
    Reading (rule (After (names ++ p.name ∷ []))) rest (listed ps) end → Reading (rule (Item names)) (pair_text p ++ rest) (listed (p ∷ ps)) end
pair_reads names p ps rest end h once d =
    subst (λ x. Reading (rule (Item names)) x (listed (p ∷ ps)) end) (sym (append_assoc p.name (codes "=" ++ quoted_text p.value) rest))
    (label_name names p.name (codes "=" ++ quoted_text p.value ++ rest) (listed (p ∷ ps)) end h once
    (is_rule (is_pair {v = mark} is_stop (is_pair (is_token {v = mark} refl) (is_pair {v = mark} is_stop (is_pair (value_reads p.value rest) d))))))

-- what a faultless pair tells, and those after it
pub record Following (before : List Pair) (p : Pair) (ps : List Pair) : Type 0 where
  pub name : is_label_name p.name ≡ true
  pub once : is_among p.name (names_of before) ≡ false
  pub rest : fault_after (before ++ p ∷ []) ps ≡ None

pub next_of : (before : List Pair) (p : Pair) (ps : List Pair) → fault_after before (p ∷ ps) ≡ None → Following before p ps
next_of before p ps h =
    let k = first_none (pair_fault before p) (fault_after (before ++ p ∷ []) ps) h in
    record { name = named_pair before p k.0; once = among_names p.name before ∙ new_name (is_label_name p.name) (list_any (has_name p.name) before) _ _ k.0; rest = k.1 }

after_reads : (before ps : List Pair) (rest : List ℕ) → fault_after before ps ≡ None → Reading (rule (After (names_of before))) (flat_map following_text ps ++ (125 ∷ rest)) (listed ps) rest
after_reads before [] rest h = is_rule (is_pair {v = mark} is_stop (is_rule (is_right (is_pair (is_token {v = mark} refl) is_nothing))))
after_reads before (p ∷ ps) rest h =
    let n = next_of before p ps h in
    let following : Reading (rule (After (names_of before ++ p.name ∷ []))) (flat_map following_text ps ++ (125 ∷ rest)) (listed ps) rest =
    subst (λ x. Reading (rule (After x)) (flat_map following_text ps ++ (125 ∷ rest)) (listed ps) rest) (map-append (λ q. q.name) before (p ∷ [])) (after_reads (before ++ p ∷ []) ps rest n.rest) in
    let item : Reading (rule (Item (names_of before))) (pair_text p ++ (flat_map following_text ps ++ (125 ∷ rest))) (listed (p ∷ ps)) rest = pair_reads (names_of before) p ps _ rest n.name n.once following in
    subst (λ x. Reading (rule (After (names_of before))) (44 ∷ x) (listed (p ∷ ps)) rest) (sym (append_assoc (pair_text p) (flat_map following_text ps) (125 ∷ rest)))
    (is_rule (is_pair {v = mark} is_stop (is_rule (is_left (is_pair (is_token {v = mark} refl) (is_rule (is_pair {v = mark} is_stop item)))))))

-- faultless pairs in braces are read as those pairs
list_reads : (before ps : List Pair) → fault_after before ps ≡ None → Reading (rule (Braces (names_of before))) (list_text ps) (listed ps) []
list_reads before [] h = is_rule (is_pair (is_token {v = mark} refl) (is_rule (is_pair {v = mark} is_stop (is_rule (is_left (is_pair (is_token {v = mark} refl) is_nothing))))))
list_reads before (p ∷ ps) h =
    let n = next_of before p ps h in
    let following : Reading (rule (After (names_of before ++ p.name ∷ []))) (flat_map following_text ps ++ (125 ∷ [])) (listed ps) [] =
    subst (λ x. Reading (rule (After x)) (flat_map following_text ps ++ (125 ∷ [])) (listed ps) []) (map-append (λ q. q.name) before (p ∷ [])) (after_reads (before ++ p ∷ []) ps [] n.rest) in
    let item : Reading (rule (Item (names_of before))) (pair_text p ++ (flat_map following_text ps ++ (125 ∷ []))) (listed (p ∷ ps)) [] = pair_reads (names_of before) p ps _ [] n.name n.once following in
    subst (λ x. Reading (rule (Braces (names_of before))) (123 ∷ x) (listed (p ∷ ps)) []) (sym (append_assoc (pair_text p) (flat_map following_text ps) (125 ∷ [])))
    (is_rule (is_pair (is_token {v = mark} refl) (is_rule (is_pair {v = mark} is_stop item))))

-- the bytes of a metric's name
metric_rest : (name more rest : List ℕ) (v : SeriesValue) (end : List ℕ) → list_all is_metric_byte more ≡ true → Reading (rule (MetricRest (name ++ more))) rest v end →
    Reading (rule (MetricRest name)) (more ++ rest) v end
metric_rest name [] rest v end h d = subst (λ x. Reading (rule (MetricRest x)) rest v end) (append-nil name) d
metric_rest name (b ∷ more) rest v end h d =
    let k = both (is_metric_byte b) (list_all is_metric_byte more) h in
    let next : Reading (rule (MetricRest (name ++ b ∷ []))) (more ++ rest) v end =
    metric_rest (name ++ b ∷ []) more rest v end k.1 (subst (λ x. Reading (rule (MetricRest x)) rest v end) (sym (append_assoc name (b ∷ []) more)) d) in
    is_rule (is_left (is_chosen {n = MetricByte (name ++ b ∷ [])} (chosen_by (is_metric_kind (kind_of b)) (MetricByte (name ++ b ∷ [])) (metric_kind b ∙ k.0)) (short next) (is_pair (is_token {v = mark} refl) next)))

pub metric_reads : (name rest : List ℕ) (ps : List Pair) → is_metric_name name ≡ true → Reading (rule Tail) rest (listed ps) [] → ReadsSeries (name ++ rest) (pair_of metric_label name ∷ ps)
metric_reads [] rest ps h d = cc
metric_reads (b ∷ more) rest ps h d =
    let k = both (is_metric_letter b) (list_all is_metric_byte more) h in
    let next : Reading (rule (MetricRest (b ∷ []))) (more ++ rest) (listed (pair_of metric_label (b ∷ more) ∷ ps)) [] = metric_rest (b ∷ []) more rest _ [] k.1 (is_rule (is_right (is_pair (is_nothing {v = mark}) d))) in
    is_rule (is_left (is_chosen {n = MetricByte (b ∷ [])} (chosen_by (is_metric_letter_kind (kind_of b)) (MetricByte (b ∷ [])) (first_kind b ∙ k.0)) (short next) (is_pair (is_token {v = mark} refl) next)))

tail_reads : (value : List ℕ) (ps : List Pair) → fault_after (pair_of metric_label value ∷ []) ps ≡ None → Reading (rule Tail) (rest_text ps) (listed ps) []
tail_reads value [] h = is_rule (is_right is_nothing)
tail_reads value (p ∷ ps) h = is_rule (is_left (is_rule (is_pair {v = mark} is_stop (list_reads (pair_of metric_label value ∷ []) (p ∷ ps) h))))

module _ (ls : List Pair) (s : IsLabelSet ls) where
  by_list : ReadsLabels (list_text ls) ls
  by_list = record { pairs = ls; reads = is_rule (is_right (list_reads [] ls (faultless ls s))); are = set_again ls s }

  by_test : (test : Bool) (name : List ℕ) → value_of ls metric_label ≡ Some name → is_metric_name name ≡ test → ReadsLabels (cond test (name ++ rest_text (unnamed ls)) (list_text ls)) ls
  by_test true name e h = record {
    pairs = pair_of metric_label name ∷ unnamed ls;
    reads = metric_reads name (rest_text (unnamed ls)) (unnamed ls) h (tail_reads name (unnamed ls) (faultless_named ls name s));
    are = named_again ls name s e h;
  }
  by_test false name e h = by_list

  by_name : (o : Option (List ℕ)) → value_of ls metric_label ≡ o → ReadsLabels (text_by_name o ls) ls
  by_name None e = by_list
  by_name (Some name) e = by_test (is_metric_name name) name e refl

  pub written_reads : ReadsLabels (series_text ls) ls
  unfolding series_text
  written_reads = by_name (value_of ls metric_label) refl
