-- What is kept stays true when the history grows.
use Rattle.std.proofs.Common.{◌≡◌, ◌≤◌, ℤ, ℕ, List, [], ◌∷◌, ◌++◌, filter, length, take, true, sym, ap, subst, ◌∙◌}
use Rattle.std.specs.List.{list_all, filter_map}
use Rattle.std.proofs.Math.Nat.{le_trans, le-add_right}
use Rattle.std.proofs.lemmas.List.{length-append, take-append-le}
use Rattle.std.proofs.lemmas.List.Elements.{filter-append}
use Rattle.pr_head.specs.pr_labels.declared.pair.Pair.{Pair}
use Rattle.pr_head.specs.spec_history.declared.entry.Entry.{Entry}
use Rattle.pr_head.specs.spec_history.declared.spot.Spot.{Spot}
use Rattle.pr_head.specs.spec_history.private.Laws.{entries_of}
use Rattle.pr_head.specs.spec_history.Admission.{is_of}
use Rattle.pr_head.specs.spec_history.Lookback.{is_after, is_until, spot_in}
use Rattle.pr_head.proofs.Arrivals.{named_more}
use Rattle.pr_slide.specs.private.Kinds.{kept_in}
use Rattle.pr_slide.specs.private.Windows.{AreWindowsOf, IsWindow, Nodes}

longer : {X : Type 0} (n : ℕ) (xs ys : List X) → n ≤ length xs → n ≤ length (xs ++ ys)
longer n xs ys h = subst (λ k. n ≤ k) (sym (length-append xs ys)) (le_trans h (le-add_right (length xs) (length ys)))

window_more : (history : List Entry) (e : Entry) (labels : List Pair) (a b : ℤ) (passed : ℕ) (spots : List Spot) → IsWindow history labels a b passed spots → IsWindow (history ++ e ∷ []) labels a b passed spots
window_more history e labels a b passed spots h =
    let grown : entries_of labels (history ++ e ∷ []) ≡ entries_of labels history ++ filter (is_of labels) (e ∷ []) = filter-append (is_of labels) history (e ∷ []) in
    let front : take passed (entries_of labels (history ++ e ∷ [])) ≡ take passed (entries_of labels history) =
    ap (take passed) grown ∙ take-append-le passed (entries_of labels history) (filter (is_of labels) (e ∷ [])) h.passed in
    record {
      passed = subst (λ l. passed ≤ length l) (sym grown) (longer passed (entries_of labels history) (filter (is_of labels) (e ∷ [])) h.passed);
      until = subst (λ l. list_all (λ x. is_until b x.time) l ≡ true) (sym front) h.until;
      spots = h.spots ∙ ap (λ l. filter_map spot_in (filter (λ x. is_after a x.time) l)) (sym front);
    }

pub fits_more : (nodes : Nodes) (history : List Entry) (e : Entry) → AreWindowsOf nodes history → AreWindowsOf nodes (history ++ e ∷ [])
fits_more nodes history e h = λ node series w at.
    let has = h node series w at in
    record { labels = has.labels; named = named_more history e series has.labels has.named; window = window_more history e has.labels w.from w.to w.passed (kept_in w.spots) has.window; told = has.told }
