-- Series by their numbers.
use Rattle.std.proofs.Common.{◌≡◌, ℕ, ◌<◌, ◌||◌, ◌&&◌, ◌==◌, Bool, true, false, cond, List, [], ◌∷◌, ◌++◌, append-nil, append_assoc, length, get_or, map, slice_get, Some, refl, sym, ap, ◌∙◌, arith}
use Rattle.std.proofs.lemmas.Grind.{common_steps}
use Rattle.std.specs.List.{position_or_len}
use Rattle.std.proofs.lemmas.Option.{slice_get-get_or, slice_get_within}
use borrow.Author.Tests.{eqb-true}
use Rattle.pr_ast.specs.pr_labels.declared.pair.Pair.{Pair}
use Rattle.pr_ast.specs.pr_labels.Order.{labels_eq}
use Rattle.pr_ast.specs.pr_labels.Rising.{is_among}
use Rattle.pr_rule.specs.spec_history.declared.entry.Entry.{Entry}
use Rattle.pr_rule.proofs.HistoryChoosing.{chosen_among}
use Rattle.pr_rule.proofs.HistoryLawful.{by_entries}
use Rattle.pr_ast.specs.declared.selector.Selector.{Selector}
use Rattle.pr_rule.specs.pr_match.Matcher.{meets_all}
use Rattle.pr_rule.specs.pr_types.Selectors.{tests_of}
use Rattle.pr_rule.specs.pr_head.private.Holds.{arrivals, labels_at}
use Rattle.pr_rule.proofs.HeadArrivals.{among_arrivals, arrivals_more, eq_from, eq_same}
use Rattle.pr_rule.specs.spec_meaning.Selection.{chosen_by}
use Rattle.pr_rule.specs.pr_eval.private.RangeCallsAsking.{is_number_among, series_number}
use Rattle.pr_group.proofs.Lists.{first_passes, first_stays, first_within, front_get, or_true}

both_true : (a b : Bool) → (a && b) ≡ true → b ≡ true
both_true true b h = h
both_true false b h = absurd (cc)

-- what a selector chooses are series of the history
pub chosen_arrived : (s : Selector) (history : List Entry) (labels : List Pair) → is_among labels (chosen_by s history) ≡ true → is_among labels (arrivals history) ≡ true
chosen_arrived s history labels h =
    among_arrivals labels history ∙ both_true (meets_all (tests_of s) labels) (is_among labels (map (λ e. e.labels) history)) (sym (chosen_among (meets_all (tests_of s)) history labels) ∙ h)

-- the labels of the number of a series
pub labels_back : (history : List Entry) (labels : List Pair) → is_among labels (arrivals history) ≡ true → labels_at (arrivals history) (series_number history labels) ≡ labels
labels_back history labels h =
    let sets = arrivals history in
    let n = series_number history labels in
    let there : slice_get sets n ≡ Some (get_or sets n []) = slice_get-get_or sets n [] (first_within (labels_eq labels) sets h) in
    sym (eq_from labels (get_or sets n []) (first_passes (labels_eq labels) sets (get_or sets n []) there))

same_number : (m n : ℕ) → m ≡ n → (m == n) ≡ true
same_number m n h = grind (arith, common_steps)

-- the number of a series of some is one of their numbers
pub number_among : (history : List Entry) (sets : List (List Pair)) (labels : List Pair) → is_among labels sets ≡ true → is_number_among (series_number history labels) (map (series_number history) sets) ≡ true
number_among history [] labels h = absurd (cc)
number_among history (l ∷ sets) labels h = by (labels_eq labels l) refl h (λ k. number_among history sets labels k) where
  by : (b : Bool) → labels_eq labels l ≡ b → (b || is_among labels sets) ≡ true → (is_among labels sets ≡ true → is_number_among (series_number history labels) (map (series_number history) sets) ≡ true)
      → is_number_among (series_number history labels) (map (series_number history) (l ∷ sets)) ≡ true
  by true e k more =
      let same : labels ≡ l = eq_from labels l e in
      let one : (series_number history l == series_number history labels) ≡ true = same_number (series_number history l) (series_number history labels) (sym (ap (series_number history) same)) in
      ap (λ b. b || is_number_among (series_number history labels) (map (series_number history) sets)) one
  by false e k more = ap (λ b. (series_number history l == series_number history labels) || b) (more k) ∙ or_true (series_number history l == series_number history labels)

-- the numbers of series of the history are those that it has
numbers_there : (history : List Entry) (sets : List (List Pair)) (n : ℕ) → ((l : List Pair) → is_among l sets ≡ true → is_among l (arrivals history) ≡ true)
    → is_number_among n (map (series_number history) sets) ≡ true → n < length (arrivals history)
numbers_there history [] n all h = absurd (cc)
numbers_there history (l ∷ sets) n all h = by (series_number history l == n) refl h (λ k. numbers_there history sets n (λ m there. all m (ap (λ b. labels_eq m l || b) there ∙ or_true (labels_eq m l))) k) where
  by : (b : Bool) → (series_number history l == n) ≡ b → (b || is_number_among n (map (series_number history) sets)) ≡ true → (is_number_among n (map (series_number history) sets) ≡ true → n < length (arrivals history))
      → n < length (arrivals history)
  by true e k more =
      let same : series_number history l ≡ n = eqb-true (series_number history l) n e in
      let there : series_number history l < length (arrivals history) = first_within (labels_eq l) (arrivals history) (all l (ap (λ b. b || is_among l sets) (eq_same l))) in
      omega arith
  by false e k more = more k

pub chosen_there : (s : Selector) (history : List Entry) (n : ℕ) → is_number_among n (map (series_number history) (chosen_by s history)) ≡ true → n < length (arrivals history)
chosen_there s history n h = numbers_there history (chosen_by s history) n (λ l there. chosen_arrived s history l there) h

-- a later history has more series behind those of before
pub arrivals_grow : (history more : List Entry) → (ys : List (List Pair)) × (arrivals (history ++ more) ≡ arrivals history ++ ys)
arrivals_grow history more = by_entries (λ h. (ys : List (List Pair)) × (arrivals h ≡ arrivals history ++ ys)) step history more ([], sym (append-nil (arrivals history))) where
  step : (h : List Entry) (e : Entry) → (ys : List (List Pair)) × (arrivals h ≡ arrivals history ++ ys) → (ys : List (List Pair)) × (arrivals (h ++ e ∷ []) ≡ arrivals history ++ ys)
  step h e is = by (is_among e.labels (arrivals h)) (arrivals_more h e) where
    by : (b : Bool) → arrivals (h ++ e ∷ []) ≡ cond b (arrivals h) (arrivals h ++ e.labels ∷ []) → (ys : List (List Pair)) × (arrivals (h ++ e ∷ []) ≡ arrivals history ++ ys)
    by true k = (is.0, k ∙ is.1)
    by false k = (is.0 ++ e.labels ∷ [], k ∙ ap (λ l. l ++ e.labels ∷ []) is.1 ∙ append_assoc (arrivals history) is.0 (e.labels ∷ []))

pub number_stays : (history more : List Entry) (labels l : List Pair) → slice_get (arrivals history) (series_number history labels) ≡ Some l → series_number (history ++ more) labels ≡ series_number history labels
number_stays history more labels l there =
    let grown = arrivals_grow history more in
    ap (position_or_len (labels_eq labels)) grown.1 ∙ first_stays (labels_eq labels) (arrivals history) grown.0 (slice_get_within (arrivals history) (series_number history labels) l there)

pub named_stays : (history more : List Entry) (n : ℕ) (l : List Pair) → slice_get (arrivals history) n ≡ Some l → slice_get (arrivals (history ++ more)) n ≡ Some l
named_stays history more n l there = let grown = arrivals_grow history more in ap (λ sets. slice_get sets n) grown.1 ∙ front_get (arrivals history) grown.0 n l there
