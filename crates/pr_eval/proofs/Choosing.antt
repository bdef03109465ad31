-- The series that meet all matchers are among those that have what is asked for by `=`.
use Rattle.std.proofs.Common.{◌≡◌, Bool, true, false, cond, ◌&&◌, is_some, List, [], ◌∷◌, ◌++◌, map, filter, Option, Some, None, ℕ, ◌<◌, length, refl, sym, ap, subst, ◌∙◌}
use Rattle.std.specs.List.{All, filter_map, list_all, cons_option}
use Rattle.std.proofs.lemmas.List.Elements.{All-filter}
use Rattle.pr_labels.specs.declared.pair.Pair.{Pair}
use Rattle.pr_labels.specs.LabelSet.{metric_label, pair_of, text_at}
use Rattle.pr_labels.specs.Rising.{IsBelowFirstSet, IsRising, is_among}
use Rattle.pr_labels.proofs.LabelOrder.{among_filter, labels_total, same_rising, both}
use Rattle.pr_labels.specs.Order.{labels_cmp}
use Rattle.std.specs.declared.cmp.Ordering.TheVariants.{Less}
use Rattle.pr_range.specs.spec_history.declared.entry.Entry.{Entry}
use Rattle.pr_range.specs.spec_history.Series.{chosen}
use Rattle.pr_range.specs.spec_history.private.Laws.{has_values}
use Rattle.pr_range.proofs.HistoryChoosing.{chosen_among, chosen_rising}
use Rattle.pr_fn.specs.pr_match.Matcher.{LabelTest, meets, meets_all, passes}
use Rattle.pr_fn.specs.pr_match.declared.op.MatchOp.TheVariants as op
use Rattle.pr_range.specs.pr_head.private.Stored.{Stored}
use Rattle.pr_range.specs.pr_head.private.Holds.{Holds, arrivals, labels_at}
use Rattle.pr_eval.specs.private.Choosing.{is_met_by, labels_of_series}
use Rattle.pr_ast.specs.declared.selector.Selector.{Selector}
use Rattle.pr_ast.specs.declared.selector.MatchText.{MatchText}
use Rattle.pr_ast.specs.declared.selector.MatchSign.{MatchSign}
use Rattle.pr_ast.specs.declared.selector.MatchSign.TheVariants.{Equal, NotEqual, Like, NotLike}
use Rattle.spec_meaning.specs.pr_types.Selectors.{match_op, name_tests, test_of, tests_of}
use Rattle.spec_meaning.specs.Selection.{chosen_by}
use Rattle.pr_eval.specs.private.Equalities.{asked_pair, asked_pairs, is_asked, name_pairs, pair_by}

abbrev Series : Type 0
Series = List Pair × Stored

-- a conjunction of which both parts hold

together : (a b : Bool) → a ≡ true → b ≡ true → (a && b) ≡ true
together true b h k = k
together false b h k = h

-- a matcher that is met has its pair, where it asks for one
pair_met : (sign : MatchSign) (m : MatchText) (labels : List Pair) (rest : List Pair) → passes (match_op sign) m.text (text_at labels m.label) ≡ true → has_values rest labels ≡ true
    → has_values (cons_option (pair_by sign (pair_of m.label m.text)) rest) labels ≡ true
pair_met Equal m labels rest h k = together _ (has_values rest labels) h k
pair_met NotEqual m labels rest h k = k
pair_met Like m labels rest h k = k
pair_met NotLike m labels rest h k = k

pairs_met : (labels : List Pair) (ms : List MatchText) → list_all (λ test. meets test labels) (map test_of ms) ≡ true → has_values (filter_map asked_pair ms) labels ≡ true
unfolding meets
pairs_met labels [] h = refl
pairs_met labels (m ∷ ms) h =
    let parts = both (meets (test_of m) labels) (list_all (λ test. meets test labels) (map test_of ms)) h in
    pair_met m.op m labels (filter_map asked_pair ms) parts.0 (pairs_met labels ms parts.1)

named_met : (labels : List Pair) (name : Option (List ℕ)) (ms : List MatchText) → list_all (λ test. meets test labels) (name_tests name ++ map test_of ms) ≡ true
    → has_values (name_pairs name ++ filter_map asked_pair ms) labels ≡ true
unfolding meets
named_met labels None ms h = pairs_met labels ms h
named_met labels (Some name) ms h =
    let parts = both _ (list_all (λ test. meets test labels) (map test_of ms)) h in
    together _ (has_values (filter_map asked_pair ms) labels) parts.0 (pairs_met labels ms parts.1)

asked_met : (s : Selector) (labels : List Pair) → meets_all (tests_of s) labels ≡ true → has_values (asked_pairs s) labels ≡ true
unfolding meets_all
asked_met s labels h = named_met labels s.name s.matchers h

-- what a filter leaves of a rising list rises
below_next : (l first : List Pair) (rest : List (List Pair)) → labels_cmp l first ≡ Less → IsBelowFirstSet first rest → IsBelowFirstSet l rest
below_next l first [] h k = tt
below_next l first (second ∷ rest) h k = labels_total.trans l first second h k

below_filter : (test : List Pair → Bool) (l : List Pair) (sets : List (List Pair)) → IsBelowFirstSet l sets → IsRising sets → IsBelowFirstSet l (filter test sets)
below_filter test l [] h k = tt
below_filter test l (first ∷ rest) h k = by (test first) (below_filter test l rest (below_next l first rest h k.0) k.1) where
  by : (b : Bool) → IsBelowFirstSet l (filter test rest) → IsBelowFirstSet l (cond b (first ∷ filter test rest) (filter test rest))
  by true more = h
  by false more = more

pub rising_filter : (test : List Pair → Bool) (sets : List (List Pair)) → IsRising sets → IsRising (filter test sets)
rising_filter test [] h = tt
rising_filter test (first ∷ rest) h = by (test first) (rising_filter test rest h.1) where
  by : (b : Bool) → IsRising (filter test rest) → IsRising (cond b (first ∷ filter test rest) (filter test rest))
  by true more = (below_filter test first rest h.0 h.1, more)
  by false more = more

-- a test that is the stronger one makes the other needless
absorbed : (t h x : Bool) → (t ≡ true → h ≡ true) → (t && (h && x)) ≡ (t && x)
absorbed true h x k = ap (λ b. b && x) (k refl)
absorbed false h x k = refl

pub chosen_is : (history : List Entry) (s : Selector) → filter (meets_all (tests_of s)) (chosen (has_values (asked_pairs s)) history) ≡ chosen_by s history
chosen_is history s =
    let test = meets_all (tests_of s) in
    let pairs = has_values (asked_pairs s) in
    same_rising (filter test (chosen pairs history)) (chosen test history) (rising_filter test (chosen pairs history) (chosen_rising pairs history)) (chosen_rising test history)
    (λ one. among_filter test one (chosen pairs history) ∙ ap (λ b. test one && b) (chosen_among pairs history one)
    ∙ absorbed (test one) (pairs one) (is_among one (map (λ e. e.labels) history)) (asked_met s one) ∙ sym (chosen_among test history one))

-- a filter by what is made of the elements
pub filter_made : {A : Type 0} (f : A → List Pair) (test : List Pair → Bool) (xs : List A) → map f (filter (λ x. test (f x)) xs) ≡ filter test (map f xs)
filter_made f test [] = refl
filter_made f test (x ∷ xs) = by (test (f x)) (filter_made f test xs) where
  by : (b : Bool) → map f (filter (λ y. test (f y)) xs) ≡ filter test (map f xs)
      → map f (cond b (x ∷ filter (λ y. test (f y)) xs) (filter (λ y. test (f y)) xs)) ≡ cond b (f x ∷ filter test (map f xs)) (filter test (map f xs))
  by true more = ap (λ l. f x ∷ l) more
  by false more = more

-- the series of a head that meet all matchers
pub known_met : (tests : List LabelTest) (head : List Series) (places left : List ℕ) → left ≡ filter (is_met_by tests head) places → All (λ i. i < length head) places
    → All (λ i. i < length head) left
known_met tests head places left is known = subst (All (λ i. i < length head)) (sym is) (All-filter (is_met_by tests head) (λ i. i < length head) places known)

pub rising_met : (tests : List LabelTest) (head : List Series) (places left : List ℕ) → left ≡ filter (is_met_by tests head) places → IsRising (map (labels_of_series head) places)
    → IsRising (map (labels_of_series head) left)
rising_met tests head places left is rising =
    subst (λ l. IsRising (map (labels_of_series head) l)) (sym is)
    (subst IsRising (sym (filter_made (labels_of_series head) (meets_all tests) places)) (rising_filter (meets_all tests) (map (labels_of_series head) places) rising))

pub chosen_met : (s : Selector) (tests : List LabelTest) (pairs : List Pair) (head : List Series) (history : List Entry) (places left : List ℕ) → tests ≡ tests_of s → pairs ≡ asked_pairs s
    → left ≡ filter (is_met_by tests head) places → Holds head history → map (labels_at (arrivals history)) places ≡ chosen (has_values pairs) history
    → map (labels_of_series head) left ≡ chosen_by s history
chosen_met s tests pairs head history places left named asked is holds found =
    ap (map (labels_of_series head)) is ∙ filter_made (labels_of_series head) (meets_all tests) places
    ∙ ap (λ sets. filter (meets_all tests) (map (labels_at sets) places)) holds.numbered
    ∙ ap (filter (meets_all tests)) found
    ∙ ap (λ l. filter (meets_all l) (chosen (has_values pairs) history)) named
    ∙ ap (λ l. filter (meets_all (tests_of s)) (chosen (has_values l) history)) asked
    ∙ chosen_is history s

-- a selector that asks by `=` alone asks for its pairs and no more
pair_alone : (sign : MatchSign) (m : MatchText) (labels : List Pair) (rest : List Pair) (x : Bool) → is_some (pair_by sign (pair_of m.label m.text)) ≡ true → has_values rest labels ≡ x
    → has_values (cons_option (pair_by sign (pair_of m.label m.text)) rest) labels ≡ (passes (match_op sign) m.text (text_at labels m.label) && x)
pair_alone Equal m labels rest x h k = ap (λ b. passes op.Equal m.text (text_at labels m.label) && b) k
pair_alone NotEqual m labels rest x h k = cc
pair_alone Like m labels rest x h k = cc
pair_alone NotLike m labels rest x h k = cc

pairs_alone : (labels : List Pair) (ms : List MatchText) → list_all is_asked ms ≡ true → has_values (filter_map asked_pair ms) labels ≡ list_all (λ test. meets test labels) (map test_of ms)
unfolding meets
pairs_alone labels [] h = refl
pairs_alone labels (m ∷ ms) h =
    let parts = both (is_asked m) (list_all is_asked ms) h in
    pair_alone m.op m labels (filter_map asked_pair ms) (list_all (λ test. meets test labels) (map test_of ms)) parts.0 (pairs_alone labels ms parts.1)

named_alone : (labels : List Pair) (name : Option (List ℕ)) (ms : List MatchText) → list_all is_asked ms ≡ true
    → has_values (name_pairs name ++ filter_map asked_pair ms) labels ≡ list_all (λ test. meets test labels) (name_tests name ++ map test_of ms)
unfolding meets
named_alone labels None ms h = pairs_alone labels ms h
named_alone labels (Some name) ms h = ap (λ b. passes op.Equal name (text_at labels metric_label) && b) (pairs_alone labels ms h)

met_alone : (s : Selector) (labels : List Pair) → list_all is_asked s.matchers ≡ true → has_values (asked_pairs s) labels ≡ meets_all (tests_of s) labels
unfolding meets_all
met_alone s labels h = named_alone labels s.name s.matchers h

pub asked_alone : (s : Selector) (head : List Series) (history : List Entry) (places : List ℕ) → list_all is_asked s.matchers ≡ true → Holds head history
    → map (labels_at (arrivals history)) places ≡ chosen (has_values (asked_pairs s)) history → map (labels_of_series head) places ≡ chosen_by s history
asked_alone s head history places alone holds found =
    ap (λ sets. map (labels_at sets) places) holds.numbered ∙ found ∙ ap (λ test. chosen test history) (λ j labels. met_alone s labels alone j)
