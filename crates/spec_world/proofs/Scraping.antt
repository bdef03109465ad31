-- What entries that are put one after another add, in parts.
use Rattle.std.proofs.Common.{◌≡◌, ℕ, ◌+◌, Bool, true, false, cond, List, [], ◌∷◌, ◌++◌, length, map, filter, refl, sym, ap, ◌∙◌, append_assoc, append-nil}
use Rattle.std.specs.List.{zip}
use Rattle.pr_ast.specs.pr_labels.declared.pair.Pair.{Pair}
use Rattle.pr_ast.specs.pr_labels.Rising.{IsRising}
use Rattle.pr_ast.proofs.LabelsLabelOrder.{rising_fold}
use Rattle.spec_vectors.specs.spec_history.Admission.{admit, put, put_all}
use Rattle.spec_vectors.specs.spec_history.declared.entry.Entry.{Entry}
use Rattle.spec_vectors.specs.spec_history.Puts.{admissions}
use Rattle.spec_vectors.proofs.HistoryPutting.{picks}
pub use Rattle.spec_vectors.proofs.HistoryPutting.{admitted_counted, admitted_first, admitted_parts, answer_to, answers_parts, counts_parts, one_admitted, puts_admitted, puts_parts}
use Rattle.spec_world.specs.declared.scraped.Offer.{Offer}
use Rattle.spec_world.specs.Scrapes.{offered_entries, is_tracked, kept_sets, tracked_after}

pub kept_first : (history : List Entry) (o : Offer) (os : List Offer)
    → kept_sets history (o ∷ os) ≡ cond (is_tracked (o, answer_to history o.entry)) (o.entry.labels ∷ []) [] ++ kept_sets (put history o.entry) os
kept_first history o os = picks is_tracked (λ p. p.0.entry.labels) (o, answer_to history o.entry) (zip os (admissions (put history o.entry) (offered_entries os)))

pub kept_parts : (history : List Entry) (os more : List Offer) → kept_sets history (os ++ more) ≡ kept_sets history os ++ kept_sets (put_all history (offered_entries os)) more
kept_parts history [] more = refl
kept_parts history (o ∷ os) more =
    let one = cond (is_tracked (o, answer_to history o.entry)) (o.entry.labels ∷ []) [] in
    kept_first history o (os ++ more)
    ∙ ap (λ (l : List (List Pair)). one ++ l) (kept_parts (put history o.entry) os more)
    ∙ sym (append_assoc one (kept_sets (put history o.entry) os) (kept_sets (put_all (put history o.entry) (offered_entries os)) more))
    ∙ ap (λ (l : List (List Pair)). l ++ kept_sets (put_all (put history o.entry) (offered_entries os)) more) (sym (kept_first history o os))

-- tracked sets are in label order
pub tracked_rises : (history : List Entry) (offered : List Offer) → IsRising (tracked_after history offered)
tracked_rises history offered = rising_fold [] (kept_sets history offered) tt
