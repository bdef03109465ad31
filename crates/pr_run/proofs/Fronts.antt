-- What a run has written and kept when it is cut short.
use Rattle.std.proofs.Common.{◌≡◌, ◌≢◌, ℕ, ◌+◌, ◌≤◌, true, List, [], ◌∷◌, ◌++◌, refl, sym, ap, ◌∙◌, subst, append_assoc, append-nil, length, length-append, zero, suc, take, take_all, arith}
use Rattle.std.specs.Prelude.{flat_map}
use Rattle.std.proofs.Math.Seq.{take-append-add}
use Rattle.std.proofs.lemmas.List.{take-append-le}
use Rattle.std.specs.declared.option.Option.{Option}
use Rattle.std.specs.Io.KnownBytes.{Appends}
use Rattle.pr_queue.specs.spec_history.declared.entry.Entry.{Entry}
use Rattle.pr_outside.specs.Asks.{Asks, AsksAt, asked_by}
use Rattle.pr_outside.specs.Ends.{StopPlace, at_input, at_file, at_store, at_row, at_output, anywhere}
use Rattle.pr_outside.specs.Outside.{Outside}
use Rattle.pr_outside.proofs.StatusStreams.{appends_on}
use Rattle.pr_run.specs.Front.{IsFront, IsPromptAt, is_between}
use Rattle.pr_outside.specs.Stores.{AreKept}
use Rattle.pr_run.specs.Told.{OrderAnswer, asks_of, kept_after, told_of}
use Rattle.pr_run.proofs.Turns.{asked_front, asked_more, asked_next, steps_of, told_more}

-- fronts of lists
front_of : (done rest : List OrderAnswer) → take (length done) (done ++ rest) ≡ done
front_of [] rest = refl
front_of (x ∷ done) rest = ap (λ (l : List OrderAnswer). x ∷ l) (front_of done rest)

shorter_texts : (history : List Entry) (before done : List OrderAnswer) → length (told_of history before) ≤ length (told_of history (before ++ done))
shorter_texts history before [] = omega (arith, ap (λ (l : List OrderAnswer). length (told_of history l)) (append-nil before))
shorter_texts history before (a ∷ done) =
    omega (
      arith,
      shorter_texts history (before ++ a ∷ []) done,
      ap length (told_more history before a),
      length-append (told_of history before) a.text,
      ap (λ (l : List OrderAnswer). length (told_of history l)) (append_assoc before (a ∷ []) done),
    )

drop_of : (k : ℕ) (done : List OrderAnswer) → (rest : List OrderAnswer) × (take k done ++ rest ≡ done)
drop_of zero done = (done, refl)
drop_of (suc k) [] = ([], refl)
drop_of (suc k) (x ∷ done) = let on = drop_of k done in (on.0, ap (λ (l : List OrderAnswer). x ∷ l) on.1)

told_shorter : (history : List Entry) (k : ℕ) (done : List OrderAnswer) → length (told_of history (take k done)) ≤ length (told_of history done)
told_shorter history k done =
    let on = drop_of k done in
    omega (arith, shorter_texts history (take k done) on.0, ap (λ (l : List OrderAnswer). length (told_of history l)) on.1)

no_order : (P : ℕ → Type 0) (k : ℕ) → k + 1 ≡ 0 → P k
no_order P k h = absurd (omega arith)

-- a part of the first line was written, or nothing
pub front_opening : (bytes : List ℕ) (history : List Entry) (all : List OrderAnswer) (place : StopPlace) (before now : Outside) (n : ℕ)
    → Appends before.out.taken now.out.taken (take n (told_of history [])) → (is_between place 0 ≡ true → ⊥) → IsPromptAt place bytes now.input.left 0
    → AreKept history now.store → Asks before.files.calls now.files.calls 0 → AsksAt place (steps_of all) 0 0
    → IsFront bytes place history all before now
front_opening bytes history all place before now n p within prompt kept asks at = record {
  answered = 0;
  within = omega arith;
  count = n;
  text = p;
  whole = λ k h. no_order (λ k. length (told_of history (take k all)) ≤ n) k h;
  between = λ is. absurd (within is);
  kept = subst (λ (h : List Entry). AreKept h now.store) (sym (append-nil history)) kept;
  prompt = prompt;
  asked = 0;
  asks = asks;
  asks_at = at;
}

-- these answers were written whole, and so many files were asked for
pub front_at : (bytes : List ℕ) (history : List Entry) (done rest : List OrderAnswer) (place : StopPlace) (before now : Outside) (asked : ℕ)
    → Appends before.out.taken now.out.taken (told_of history done) → IsPromptAt place bytes now.input.left (length done)
    → AreKept (kept_after history done) now.store → Asks before.files.calls now.files.calls asked → AsksAt place (steps_of (done ++ rest)) (length done) asked
    → IsFront bytes place history (done ++ rest) before now
front_at bytes history done rest place before now asked p prompt kept asks at =
    let text : List ℕ = told_of history done in
    let e : text ≡ take (length text) (told_of history (take (length done) (done ++ rest))) =
    sym (take_all (length text) text (omega arith)) ∙ ap (λ (ys : List OrderAnswer). take (length text) (told_of history ys)) (sym (front_of done rest)) in
    record {
      answered = length done;
      within = omega (arith, length-append done rest);
      count = length text;
      text = subst (Appends before.out.taken now.out.taken) e p;
      whole = λ k h. let le : k ≤ length done = omega arith in
          subst (λ (ys : List OrderAnswer). length (told_of history ys) ≤ length text) (sym (take-append-le k done rest le)) (told_shorter history k done);
      between = λ is. omega (arith, ap (λ (ys : List OrderAnswer). length (told_of history ys)) (front_of done rest));
      kept = subst (λ (ys : List OrderAnswer). AreKept (kept_after history ys) now.store) (sym (front_of done rest)) kept;
      prompt = prompt;
      asked = asked;
      asks = asks;
      asks_at = at;
    }

-- and of one more a part
pub front_in : (bytes : List ℕ) (history : List Entry) (done rest : List OrderAnswer) (a : OrderAnswer) (place : StopPlace) (mid : Option (List ℕ)) (before now : Outside) (n asked : ℕ)
    → Appends before.out.taken mid (told_of history done) → Appends mid now.out.taken (take n a.text) → (is_between place (length done + 1) ≡ true → ⊥)
    → IsPromptAt place bytes now.input.left (length done + 1) → AreKept (kept_after history (done ++ a ∷ [])) now.store
    → Asks before.files.calls now.files.calls asked → AsksAt place (steps_of (done ++ a ∷ rest)) (length done + 1) asked
    → IsFront bytes place history (done ++ a ∷ rest) before now
front_in bytes history done rest a place mid before now n asked p q within prompt kept asks at =
    let text : List ℕ = told_of history done in
    let here : take (length done + 1) (done ++ a ∷ rest) ≡ done ++ a ∷ [] = take-append-add done (a ∷ rest) 1 in
    let e : text ++ take n a.text ≡ take (length text + n) (told_of history (take (length done + 1) (done ++ a ∷ rest))) =
    sym (take-append-add text a.text n) ∙ ap (take (length text + n)) (sym (told_more history done a))
    ∙ ap (λ (ys : List OrderAnswer). take (length text + n) (told_of history ys)) (sym here) in
    record {
      answered = length done + 1;
      within = omega (arith, length-append done (a ∷ rest));
      count = length text + n;
      text = subst (Appends before.out.taken now.out.taken) e (appends_on before.out.taken mid now.out.taken text (take n a.text) p q);
      whole = λ k h. let le : k ≤ length done = omega arith in
          let short : length (told_of history (take k done)) ≤ length text + n = omega (arith, told_shorter history k done) in
          subst (λ (ys : List OrderAnswer). length (told_of history ys) ≤ length text + n) (sym (take-append-le k done (a ∷ rest) le)) short;
      between = λ is. absurd (within is);
      kept = subst (λ (ys : List OrderAnswer). AreKept (kept_after history ys) now.store) (sym here) kept;
      prompt = prompt;
      asked = asked;
      asks = asks;
      asks_at = at;
    }

-- How many files were asked for between two orders, and within one.
pub asks_between : (place : StopPlace) (done rest : List OrderAnswer) → place ≢ at_file → AsksAt place (steps_of (done ++ rest)) (length done) (length (asks_of done))
asks_between at_input done rest other = sym (asked_front done rest)
asks_between at_file done rest other = absurd (other refl)
asks_between at_store done rest other = (omega (arith, asked_front done rest), asked_more done rest)
asks_between (at_row index) done rest other = (omega (arith, asked_front done rest), asked_more done rest)
asks_between at_output done rest other = sym (asked_front done rest)
asks_between anywhere done rest other = asked_more done rest

pub asks_file : (done rest : List OrderAnswer) (a : OrderAnswer) (n : ℕ) → 1 ≤ n → n ≤ length a.asks → AsksAt at_file (steps_of (done ++ a ∷ rest)) (length done) (length (asks_of done) + n)
asks_file done rest a n some le = (omega (arith, asked_front done (a ∷ rest), some), omega (arith, asked_next done rest a, le))

pub asks_store : (done rest : List OrderAnswer) (a : OrderAnswer) (n : ℕ) → n ≤ length a.asks → AsksAt at_store (steps_of (done ++ a ∷ rest)) (length done) (length (asks_of done) + n)
asks_store done rest a n le = (omega (arith, asked_front done (a ∷ rest)), omega (arith, asked_next done rest a, le))

pub asks_anywhere : (done rest : List OrderAnswer) (a : OrderAnswer) (n : ℕ) → n ≤ length a.asks → AsksAt anywhere (steps_of (done ++ a ∷ rest)) (length done) (length (asks_of done) + n)
asks_anywhere done rest a n le = omega (arith, asked_next done rest a, le)

pub asks_output : (done rest : List OrderAnswer) (a : OrderAnswer) → AsksAt at_output (steps_of (done ++ a ∷ rest)) (length done + 1) (length (asks_of done) + length a.asks)
asks_output done rest a = sym (asked_next done rest a)

all_more : (done rest : List OrderAnswer) (a : OrderAnswer) → length (asks_of done) + length a.asks ≤ asked_by (length done + 1 + 1) (steps_of (done ++ a ∷ rest))
all_more [] [] a = omega (arith, length-append a.asks [])
all_more [] (b ∷ rest) a = omega (arith, length-append a.asks (b.asks ++ []))
all_more (x ∷ done) rest a =
    let one : length (x ∷ done) + 1 + 1 ≡ suc (length done + 1 + 1) = omega arith in
    let steps : List (List ℕ) = flat_map (λ (asks : List (List ℕ)). asks) (take (length done + 1 + 1) (steps_of (done ++ a ∷ rest))) in
    subst (λ (k : ℕ). length (asks_of (x ∷ done)) + length a.asks ≤ asked_by k (x.asks ∷ steps_of (done ++ a ∷ rest))) (sym one)
    (omega (arith, all_more done rest a, length-append x.asks steps, length-append x.asks (asks_of done)))

pub asks_written : (done rest : List OrderAnswer) (a : OrderAnswer) → AsksAt anywhere (steps_of (done ++ a ∷ rest)) (length done + 1) (length (asks_of done) + length a.asks)
asks_written done rest a = all_more done rest a
