-- What a series text reads has label names, each once.
use Rattle.std.proofs.Common.{◌≡◌, ◌&&◌, ◌||◌, ℕ, List, [], ◌∷◌, ◌++◌, Some, None, Bool, true, false, refl, ap, sym, ◌∙◌, subst, arith}
use Rattle.std.specs.Prelude.{if◌then◌else◌}
use Rattle.std.specs.List.{list_any, list_all}
use Rattle.std.specs.Str.{bytes_eq}
use Rattle.std.proofs.lemmas.List.{map-append}
use Rattle.std.proofs.lemmas.List.Folds.{list_all-append}
use Rattle.std.proofs.lemmas.Bool.Decides.{nat_tests}
use Rattle.pr_words.specs.Bytes.{is_letter, is_label_byte}
use Rattle.pr_words.specs.Names.{is_among}
use Rattle.pr_words.specs.pr_forms.Form.{rule}
use Rattle.pr_words.specs.Strings as strings
use Rattle.pr_words.specs.Strings.{Letter, letter, kind_of, letter_of, seen}
use Rattle.pr_labels.specs.declared.pair.Pair.{Pair}
use Rattle.pr_labels.specs.Edits.{fault_after, first_fault}
use Rattle.pr_labels.specs.LabelSet.{IsLabelSet, has_name, metric_label, pair_of}
use Rattle.pr_labels.specs.Names.{is_label_name}
use Rattle.pr_labels.specs.SeriesGrammar.{production, Rule, SeriesValue, listed, quoted, mark, headed, labelled, is_letter_kind, is_label_kind, is_metric_letter_kind, is_metric_kind, ReadsSeries, ReadsLabels, Series, MetricByte, MetricRest, Tail, Listed, Braces, Items, Item, NameByte, NameRest, Named, After, Next, InString}
use Rattle.pr_labels.specs.private.SeriesReader.{names_of}
use Rattle.pr_labels.proofs.LabelLaws.{made_is_set}
use Rattle.pr_words.proofs.FormsByRules.{Each, Meets, by_token, by_nothing, by_pair, by_left, by_right, by_choice, by_rule, by_rules}

-- the letters and the bytes of names are those of the grammar
pub letter_kind : (b : ℕ) → is_letter_kind (kind_of b) ≡ is_letter b
letter_kind b = grind (arith, nat_tests)

pub label_kind : (b : ℕ) → is_label_kind (kind_of b) ≡ is_label_byte b
label_kind b = grind (arith, nat_tests)

-- A token is a byte as it is seen.
abbrev pub IsSeen : Letter → Type 0
IsSeen (letter k b) = k ≡ kind_of b

pub each_seen : (text : List ℕ) → Each IsSeen (seen text)
each_seen [] = tt
each_seen (b ∷ text) = (refl, each_seen text)

-- After pairs with these names the value has no fault.
abbrev Fits : List (List ℕ) → SeriesValue → Type 0
Fits names (listed pairs) = (before : List Pair) → names_of before ≡ names → fault_after before pairs ≡ None
Fits names (quoted v) = Unit {0}
Fits names mark = Unit {0}

-- What is so of the values of each rule.
abbrev Holds : Rule → SeriesValue → Type 0
Holds Series v = Fits [] v
Holds (MetricByte name) v = Fits [] v
Holds (MetricRest name) v = Fits [] v
Holds Tail v = Fits (metric_label ∷ []) v
Holds Listed v = Fits (metric_label ∷ []) v
Holds (Braces names) v = Fits names v
Holds (Items names) v = Fits names v
Holds (Item names) v = Fits names v
Holds (NameByte names name) v = is_label_name name ≡ true → Fits names v
Holds (NameRest names name) v = is_label_name name ≡ true → Fits names v
Holds (Named twice names name) v = is_label_name name ≡ true → twice ≡ is_among name names → Fits names v
Holds (After names) v = Fits names v
Holds (Next names) v = Fits names v
Holds (InString n) v = Unit {0}

no_labels : (names : List (List ℕ)) → Fits names (listed [])
no_labels names before e = refl

none_before : (before : List Pair) → names_of before ≡ [] → before ≡ []
none_before [] e = refl
none_before (p ∷ before) e = cc

-- a metric's name may stand first
metric_first : (name : List ℕ) (w : SeriesValue) → Fits (metric_label ∷ []) w → Fits [] (headed name mark w)
metric_first name (listed pairs) h = λ before e. subst (λ x. fault_after x (pair_of metric_label name ∷ pairs) ≡ None) (sym (none_before before e)) (h (pair_of metric_label name ∷ []) refl)
metric_first name (quoted v) h = tt
metric_first name mark h = tt

pub among_names : (name : List ℕ) (before : List Pair) → is_among name (names_of before) ≡ list_any (has_name name) before
among_names name [] = refl
among_names name (p ∷ before) = ap (λ t. bytes_eq p.name name || t) (among_names name before)

-- a label whose name is none of those before
next_label : (names : List (List ℕ)) (name : List ℕ) (v w : SeriesValue) → is_label_name name ≡ true → false ≡ is_among name names → Fits (names ++ name ∷ []) w → Fits names (labelled name v w)
next_label names name (quoted (strings.content bytes)) (listed pairs) k once h = λ before e.
    let apart : list_any (has_name name) before ≡ false = sym (among_names name before) ∙ (ap (is_among name) e ∙ sym once) in
    let rest : fault_after (before ++ pair_of name bytes ∷ []) pairs ≡ None =
    h (before ++ pair_of name bytes ∷ []) (map-append (λ p. p.name) before (pair_of name bytes ∷ []) ∙ ap (λ ns. ns ++ name ∷ []) e) in
    rw (k, apart) rest
next_label names name (quoted (strings.content bytes)) (quoted w) k once h = tt
next_label names name (quoted (strings.content bytes)) mark k once h = tt
next_label names name (quoted strings.mark) w k once h = tt
next_label names name (listed pairs) w k once h = tt
next_label names name mark w k once h = tt

-- names that begin with a letter, and go on with a letter or a digit
first_name : (b : ℕ) → is_letter_kind (kind_of b) ≡ true → is_label_name (b ∷ []) ≡ true
first_name b h = rw (sym (letter_kind b) ∙ h) refl

both_more : (x y z w : Bool) → (x && y) ≡ true → z ≡ true → w ≡ (y && (z && true)) → (x && w) ≡ true
both_more true true true w h k e = e
both_more true true false w h k e = cc
both_more true false z w h k e = cc
both_more false y z w h k e = cc

more_name : (name : List ℕ) (b : ℕ) → is_label_name name ≡ true → is_label_kind (kind_of b) ≡ true → is_label_name (name ++ b ∷ []) ≡ true
more_name [] b h k = cc
more_name (c ∷ name) b h k =
    both_more (is_letter c) (list_all is_label_byte name) (is_label_byte b) (list_all is_label_byte (name ++ b ∷ [])) h (sym (label_kind b) ∙ k)
    (list_all-append is_label_byte name (b ∷ []))

name_chosen : (test : Bool) (names : List (List ℕ)) (name : List ℕ) (n : Rule) (v : SeriesValue) → (if test then Some (NameByte names name) else None) ≡ Some n → (test ≡ true → is_label_name name ≡ true) → Holds n v → Fits names v
name_chosen true names name n v e k p = let same : n ≡ NameByte names name = cc in (subst (λ x. Holds x v) same p) (k refl)
name_chosen false names name n v e k p = cc

metric_chosen : (test : Bool) (name : List ℕ) (n : Rule) (v : SeriesValue) → (if test then Some (MetricByte name) else None) ≡ Some n → Holds n v → Fits [] v
metric_chosen true name n v e p = let same : n ≡ MetricByte name = cc in subst (λ x. Holds x v) same p
metric_chosen false name n v e p = cc

step : (n : Rule) {v : SeriesValue} → Meets IsSeen Holds (production n) v → Holds n v
step Series (by_left (by_choice {t = letter k b} s e p)) = metric_chosen (is_metric_letter_kind k) (b ∷ []) _ _ e p
step Series (by_right (by_rule p)) = p
step (MetricByte name) (by_pair x (by_rule p)) = p
step (MetricRest name) (by_left (by_choice {t = letter k b} s e p)) = metric_chosen (is_metric_kind k) (name ++ b ∷ []) _ _ e p
step (MetricRest name) (by_right (by_pair {w = w} by_nothing (by_rule p))) = metric_first name w p
step Tail (by_left (by_rule p)) = p
step Tail (by_right by_nothing) = no_labels (metric_label ∷ [])
step Listed (by_pair x (by_rule p)) = p
step (Braces names) (by_pair x (by_rule p)) = p
step (Items names) (by_pair x (by_rule p)) = p
step (Item names) (by_left (by_pair x by_nothing)) = no_labels names
step (Item names) (by_right (by_choice {t = letter k b} s e p)) = name_chosen (is_letter_kind k) names (b ∷ []) _ _ e (λ h. first_name b (ap is_letter_kind (sym s) ∙ h)) p
step (NameByte names name) (by_pair x (by_rule p)) = p
step (NameRest names name) (by_left (by_choice {t = letter k b} s e p)) = λ known. name_chosen (is_label_kind k) names (name ++ b ∷ []) _ _ e (λ h. more_name name b known (ap is_label_kind (sym s) ∙ h)) p
step (NameRest names name) (by_right (by_rule p)) = λ known. p known refl
step (Named true names name) (by_token s e) = λ known once. cc
step (Named false names name) (by_pair x (by_pair y (by_pair z (by_pair {v = v} {w = w} u (by_rule p))))) = λ known once. next_label names name v w known once p
step (After names) (by_pair x (by_rule p)) = p
step (Next names) (by_left (by_pair x (by_rule p))) = p
step (Next names) (by_right (by_pair x by_nothing)) = no_labels names
step (InString n) x = tt

rule_holds : {n : Rule} {v : SeriesValue} → Meets IsSeen Holds (rule n) v → Holds n v
rule_holds (by_rule p) = p

pub series_faultless : (text : List ℕ) (pairs : List Pair) → ReadsSeries text pairs → first_fault pairs ≡ None
series_faultless text pairs d = (rule_holds {n = Series} {v = listed pairs} (by_rules production IsSeen Holds (λ n v m. step n m) d (each_seen text))) [] refl

-- what a series text reads makes a label set
pub read_is_set : (text : List ℕ) (ls : List Pair) → ReadsLabels text ls → IsLabelSet ls
read_is_set text ls r = subst IsLabelSet (sym r.are) (made_is_set r.pairs (series_faultless text r.pairs r.reads))
