-- The samples of a body, in parts.
use Rattle.std.proofs.Common.{◌≡◌, ℕ, ◌+◌, Result, OnOk, OnErr, zero-add, Bool, cond, not, Option, List, [], ◌∷◌, ◌++◌, sym, ap, ◌∙◌, subst, append_assoc, append-nil, add_assoc, arith}
use Rattle.std.specs.Prelude.{count_by, is_none}
use Rattle.std.specs.List.{cons_option}
use Rattle.std.specs.declared.result.Result.TheVariants.{Ok, Err}
use Rattle.pr_head.specs.private.Intake.{HasTakenFront, Puts, Series}
use Rattle.std.proofs.lemmas.List.{map-append}
use Rattle.std.proofs.lemmas.List.Elements.{filter_map-append}
use Rattle.pr_labels.specs.declared.pair.Pair.{Pair}
use Rattle.pr_head.specs.spec_history.declared.append.Append.{Append}
use Rattle.pr_head.specs.spec_history.declared.entry.Entry.{Entry}
use Rattle.pr_head.specs.spec_history.Admission.{put_all}
use Rattle.pr_manager.specs.pr_expo.declared.exposition.Line.{Line}
use Rattle.pr_manager.specs.spec_world.declared.scraped.Offer.{Offer}
use Rattle.pr_manager.specs.spec_world.Scrapes.{admissions, dropped_count, offered_entries, is_shown, is_tracked, kept_sets, offer_of, offers, refused_count}
use Rattle.pr_manager.proofs.WorldScraping.{answer_to, answers_parts, counts_parts, kept_first, kept_parts}
use Rattle.pr_engine.specs.private.Tallying.{Tallies}
use Rattle.pr_engine.specs.declared.scrape.tally.Tally.{Tally}

pub offers_parts : (target : List Pair) (now : ℕ) (xs ys : List Line) → offers target now (xs ++ ys) ≡ offers target now xs ++ offers target now ys
offers_parts target now xs ys = filter_map-append (offer_of target now) xs ys

pub offered_parts : (target : List Pair) (now : ℕ) (xs ys : List Line)
    → offered_entries (offers target now (xs ++ ys)) ≡ offered_entries (offers target now xs) ++ offered_entries (offers target now ys)
offered_parts target now xs ys =
    ap offered_entries (offers_parts target now xs ys) ∙ map-append (λ (o : Offer). o.entry) (offers target now xs) (offers target now ys)

-- what is refused of entries in parts
refused_parts : (history es more : List Entry) → refused_count history (es ++ more) ≡ refused_count history es + refused_count (put_all history es) more
refused_parts history es more =
    ap (λ (l : List Append). count_by (λ a. not (is_shown a)) l) (answers_parts history es more)
    ∙ counts_parts (λ a. not (is_shown a)) (admissions history es) (admissions (put_all history es) more)

swapped : (a b c d : ℕ) → (a + b) + (c + d) ≡ (a + c) + (b + d)
swapped a b c d = omega arith

pub dropped_parts : (target : List Pair) (now : ℕ) (xs ys : List Line) (history : List Entry)
    → dropped_count target now (xs ++ ys) history ≡ dropped_count target now xs history + dropped_count target now ys (put_all history (offered_entries (offers target now xs)))
dropped_parts target now xs ys history =
    let es = offered_entries (offers target now xs) in
    let more = offered_entries (offers target now ys) in
    let out : Line → Bool = λ line. is_none (offer_of target now line) in
    ap (λ (n : ℕ). n + refused_count history (offered_entries (offers target now (xs ++ ys)))) (counts_parts out xs ys)
    ∙ ap (λ (l : List Entry). (count_by out xs + count_by out ys) + refused_count history l) (offered_parts target now xs ys)
    ∙ ap (λ (n : ℕ). (count_by out xs + count_by out ys) + n) (refused_parts history es more)
    ∙ swapped (count_by out xs) (count_by out ys) (refused_count history es) (refused_count (put_all history es) more)

pub tallies_then : (a b c : Tally) (target : List Pair) (now : ℕ) (xs ys : List Line) (history : List Entry)
    → Tallies a b target now xs history → Tallies b c target now ys (put_all history (offered_entries (offers target now xs))) → Tallies a c target now (xs ++ ys) history
tallies_then a b c target now xs ys history p q =
    let after = put_all history (offered_entries (offers target now xs)) in
    record {
      dropped = q.dropped
          ∙ ap (λ (n : ℕ). n + dropped_count target now ys after) p.dropped
          ∙ add_assoc a.dropped (dropped_count target now xs history) (dropped_count target now ys after)
          ∙ ap (λ (n : ℕ). a.dropped + n) (sym (dropped_parts target now xs ys history));
      kept = q.kept
          ∙ ap (λ (l : List (List Pair)). l ++ kept_sets after (offers target now ys)) p.kept
          ∙ append_assoc a.kept.items (kept_sets history (offers target now xs)) (kept_sets after (offers target now ys))
          ∙ ap (λ (l : List (List Pair)). a.kept.items ++ l) (sym (kept_parts history (offers target now xs) (offers target now ys)) ∙ ap (kept_sets history) (sym (offers_parts target now xs ys)));
    }

-- one offer
pub kept_one : (history : List Entry) (o : Offer) → kept_sets history (o ∷ []) ≡ cond (is_tracked (o, answer_to history o.entry)) (o.entry.labels ∷ []) []
kept_one history o = kept_first history o [] ∙ append-nil (cond (is_tracked (o, answer_to history o.entry)) (o.entry.labels ∷ []) [])

-- the offer of one line, where a call answers Ok
pub one_puts : {T E : Type 0} (res : Result T E) (o : Option Offer) (target : List Pair) (now : ℕ) (line : Line) → o ≡ offer_of target now line
    → (a b : Series) (r s history : List Entry) → OnOk res (Puts a b r s history (offered_entries (cons_option o []))) → OnOk res (Puts a b r s history (offered_entries (offers target now (line ∷ []))))
one_puts res o target now line is a b r s history p = subst (λ (x : Option Offer). OnOk res (Puts a b r s history (offered_entries (cons_option x [])))) is p

pub one_front : {T E : Type 0} (res : Result T E) (o : Option Offer) (target : List Pair) (now : ℕ) (line : Line) → o ≡ offer_of target now line
    → (a b : Series) (history : List Entry) → OnErr res (HasTakenFront a b history (offered_entries (cons_option o []))) → OnErr res (HasTakenFront a b history (offered_entries (offers target now (line ∷ []))))
one_front res o target now line is a b history p = subst (λ (x : Option Offer). OnErr res (HasTakenFront a b history (offered_entries (cons_option x [])))) is p

one_tally : (old new : Tally) (target : List Pair) (now : ℕ) (line : Line) (history : List Entry)
    → new.dropped ≡ old.dropped + (cond (is_none (offer_of target now line)) 1 0 + refused_count history (offered_entries (cons_option (offer_of target now line) [])))
    → new.kept.items ≡ old.kept.items ++ (kept_sets history (cons_option (offer_of target now line) []))
    → Tallies old new target now (line ∷ []) history
one_tally old new target now line history d k = record {
  dropped = d ∙ ap (λ (n : ℕ). old.dropped + (n + refused_count history (offered_entries (cons_option (offer_of target now line) [])))) (sym (zero-add (cond (is_none (offer_of target now line)) 1 0)));
  kept = k;
}

pub one_tallies : {T E : Type 0} (res : Result T E) (o : Option Offer) (target : List Pair) (now : ℕ) (line : Line) → o ≡ offer_of target now line
    → (old new : Tally) (history : List Entry)
    → OnOk res (new.dropped ≡ old.dropped + (cond (is_none o) 1 0 + refused_count history (offered_entries (cons_option o []))))
    → OnOk res (new.kept.items ≡ old.kept.items ++ (kept_sets history (cons_option o [])))
    → OnOk res (Tallies old new target now (line ∷ []) history)
one_tallies (Err e) o target now line is old new history d k = tt
one_tallies (Ok v) o target now line is old new history d k =
    one_tally old new target now line history
    (subst (λ (x : Option Offer). new.dropped ≡ old.dropped + (cond (is_none x) 1 0 + refused_count history (offered_entries (cons_option x [])))) is d)
    (subst (λ (x : Option Offer). new.kept.items ≡ old.kept.items ++ (kept_sets history (cons_option x []))) is k)
