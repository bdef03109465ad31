-- Samples that are put in parts.
use Rattle.std.proofs.Common.{◌≡◌, ℕ, Bool, true, false, cond, List, [], ◌∷◌, ◌++◌, refl, sym, ap, ◌∙◌, subst, append_assoc, append-nil}
use Rattle.std.specs.List.{zip}
use Rattle.std.proofs.lemmas.List.{map-append}
use Rattle.pr_ast.specs.pr_num.declared.value.Num.{Num}
use Rattle.pr_labels.specs.declared.item.Item.{Item}
use Rattle.pr_labels.specs.declared.pair.Pair.{Pair}
use Rattle.spec_rules.specs.spec_history.declared.append.Append.{Append}
use Rattle.spec_rules.specs.spec_history.declared.entry.Entry.{Entry}
use Rattle.spec_rules.specs.spec_history.Admission.{put, put_all}
use Rattle.spec_rules.specs.spec_history.Puts.{admissions, is_shown, label_sets_of, shown_entries}
use Rattle.spec_rules.proofs.HistoryPutting.{answer_to, picks}
use Rattle.spec_rules.specs.declared.report.Put.{Put}
use Rattle.spec_rules.specs.Evaluations.{sample_entry, put_of}
use Rattle.pr_eval.specs.pr_head.private.Intake.{PutsIf, Series}
use Rattle.pr_rule.specs.private.Written.{Writes, entries_of, told_of, wrote_of}
use Rattle.pr_eval.proofs.HeadIntakeIntake.{puts_if_then}

pub entries_parts : (now : ℕ) (xs ys : List (Item Num)) → entries_of now (xs ++ ys) ≡ entries_of now xs ++ entries_of now ys
entries_parts now xs ys = map-append (sample_entry now) xs ys

pub told_parts : (history : List Entry) (now : ℕ) (xs ys : List (Item Num))
    → told_of history now (xs ++ ys) ≡ told_of history now xs ++ told_of (put_all history (entries_of now xs)) now ys
told_parts history now [] ys = refl
told_parts history now (x ∷ xs) ys =
    ap (λ (l : List Put). put_of (x, answer_to history (sample_entry now x)) ∷ l) (told_parts (put history (sample_entry now x)) now xs ys)

abbrev pub one_shown : Append → List Pair → List (List Pair)
one_shown answer labels = cond (is_shown answer) (labels ∷ []) []

shown_in : (b : Bool) (e : Entry) → label_sets_of (cond b (e ∷ []) []) ≡ cond b (e.labels ∷ []) []
shown_in true e = refl
shown_in false e = refl

pub wrote_first : (history : List Entry) (now : ℕ) (x : Item Num) (xs : List (Item Num))
    → wrote_of history now (x ∷ xs) ≡ one_shown (answer_to history (sample_entry now x)) x.labels ++ wrote_of (put history (sample_entry now x)) now xs
wrote_first history now x xs =
    let e = sample_entry now x in
    let first : List Entry = cond (is_shown (answer_to history e)) (e ∷ []) [] in
    let rest : List Entry = shown_entries (put history e) (entries_of now xs) in
    ap label_sets_of (picks (λ p. is_shown p.1) (λ p. p.0) (e, answer_to history e) (zip (entries_of now xs) (admissions (put history e) (entries_of now xs))))
    ∙ map-append (λ (f : Entry). f.labels) first rest
    ∙ ap (λ (l : List (List Pair)). l ++ label_sets_of rest) (shown_in (is_shown (answer_to history e)) e)

pub wrote_parts : (history : List Entry) (now : ℕ) (xs ys : List (Item Num))
    → wrote_of history now (xs ++ ys) ≡ wrote_of history now xs ++ wrote_of (put_all history (entries_of now xs)) now ys
wrote_parts history now [] ys = refl
wrote_parts history now (x ∷ xs) ys =
    let e = sample_entry now x in
    let one = one_shown (answer_to history e) x.labels in
    wrote_first history now x (xs ++ ys)
    ∙ ap (λ (l : List (List Pair)). one ++ l) (wrote_parts (put history e) now xs ys)
    ∙ sym (append_assoc one (wrote_of (put history e) now xs) (wrote_of (put_all (put history e) (entries_of now xs)) now ys))
    ∙ ap (λ (l : List (List Pair)). l ++ wrote_of (put_all (put history e) (entries_of now xs)) now ys) (sym (wrote_first history now x xs))

pub writes_one : (tells : Bool) (a b : Series) (r s : List Entry) (t u : List Put) (v w : List (List Pair)) (history : List Entry) (now : ℕ) (x : Item Num)
    → PutsIf tells a b r s history (sample_entry now x ∷ []) → (tells ≡ true → u ≡ t ++ put_of (x, answer_to history (sample_entry now x)) ∷ [])
    → w ≡ v ++ one_shown (answer_to history (sample_entry now x)) x.labels → Writes tells a b r s t u v w history now (x ∷ [])
writes_one tells a b r s t u v w history now x p told wrote = record {
  puts = p;
  told = told;
  wrote = wrote ∙ ap (λ (l : List (List Pair)). v ++ l) (sym (wrote_first history now x [] ∙ append-nil (one_shown (answer_to history (sample_entry now x)) x.labels)));
}

pub writes_none : (tells : Bool) (a : Series) (r : List Entry) (t : List Put) (v : List (List Pair)) (history : List Entry) (now : ℕ) (p : PutsIf tells a a r r history []) → Writes tells a a r r t t v v history now []
writes_none tells a r t v history now p = record { puts = p; told = λ told. sym (append-nil t); wrote = sym (append-nil v) }

joined : {X : Type 0} (t u m xs ys : List X) → u ≡ m ++ ys → m ≡ t ++ xs → u ≡ t ++ (xs ++ ys)
joined {X} t u m xs ys h k = h ∙ ap (λ (l : List X). l ++ ys) k ∙ append_assoc t xs ys

pub writes_then : (tells : Bool) (a m b : Series) (r q s : List Entry) (t n u : List Put) (v o w : List (List Pair)) (history : List Entry) (now : ℕ) (xs ys : List (Item Num))
    → Writes tells a m r q t n v o history now xs → Writes tells m b q s n u o w (put_all history (entries_of now xs)) now ys → Writes tells a b r s t u v w history now (xs ++ ys)
writes_then tells a m b r q s t n u v o w history now xs ys f g = record {
  puts = subst (λ (l : List Entry). PutsIf tells a b r s history l) (sym (entries_parts now xs ys))
      (puts_if_then tells a m b r q s history (entries_of now xs) (entries_of now ys) f.puts g.puts);
  told = λ told. joined t u n (told_of history now xs) (told_of (put_all history (entries_of now xs)) now ys) (g.told told) (f.told told)
      ∙ ap (λ (l : List Put). t ++ l) (sym (told_parts history now xs ys));
  wrote = joined v w o (wrote_of history now xs) (wrote_of (put_all history (entries_of now xs)) now ys) g.wrote f.wrote
      ∙ ap (λ (l : List (List Pair)). v ++ l) (sym (wrote_parts history now xs ys));
}
