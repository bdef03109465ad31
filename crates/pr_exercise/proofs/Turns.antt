-- What rounds keep small, what their events have, and one round after another.
use Rattle.std.proofs.Common.{◌≡◌, ℕ, suc, ◌+◌, ◌-◌, ◌*◌, ◌<◌, ◌≤◌, ◌%◌, Bool, true, false, List, [], ◌∷◌, ◌++◌, refl, sym, ap, ◌∙◌, arith, rules, length, length-append}
use Rattle.std.proofs.lemmas.Fmt.{decimal_nonempty}
use Rattle.std.specs.Prelude.{if◌then◌else◌, codes, decimal, nat_lt, ◌&&◌, ◌^◌}
use Rattle.std.specs.List.{IsDistinct}
use Rattle.pr_text.specs.pr_labels.declared.pair.Pair.{Pair}
use Rattle.pr_text.specs.pr_labels.Edits.{labels_of}
use Rattle.pr_text.specs.pr_labels.LabelSet.{pair_of}
use Rattle.pr_text.specs.spec_world.declared.event.Event.{Event}
use Rattle.pr_text.specs.spec_world.declared.event.Event.TheVariants.{Scrape, Fail, Restart}
use Rattle.pr_text.specs.spec_world.private.Laws.{HasDistinctFiles}
use Rattle.pr_exercise.specs.Exercise.{count_after, divides, drawn, eval_at, exercise_events, next_number, opening, reload_at, target, targets_from, turn_at, turn_events, turns_from}
use Rattle.pr_exercise.specs.private.Turns.{AreWithin, HaveDistinctFiles}

few_by : (a b : Bool) (count more : ℕ) → more ≤ 99 → (if a then count else (if b then 0 else count + more)) ≤ count + 99
few_by true b count more h = omega arith
few_by false true count more h = omega arith
few_by false false count more h = omega arith

pub few : (count r : ℕ) → count_after count r ≤ count + 99
few count r = few_by (divides 50 r) (divides 97 r) count (r % 100) (omega arith)

pub within_after : (time j x rounds : ℕ) (counts : List ℕ) → AreWithin rounds counts → AreWithin (rounds + 1) (targets_from time j x counts).counts
within_after time j x rounds [] w = tt
within_after time j x rounds (count ∷ counts) w =
    (omega (arith, w.0, few count (drawn (next_number x))), within_after time (j + 1) (next_number x) rounds counts w.1)

-- files of events

one_target : (b : Bool) (time : ℕ) (labels : List Pair) (body : List ℕ) → HasDistinctFiles (if b then Fail time labels else Scrape time labels body)
one_target true time labels body = tt
one_target false time labels body = tt

both : (xs ys : List Event) → HaveDistinctFiles xs → HaveDistinctFiles ys → HaveDistinctFiles (xs ++ ys)
both [] ys p q = q
both (x ∷ xs) ys p q = (p.0, both xs ys p.1 q)

pub one_file : (time : ℕ) → HasDistinctFiles (reload_at time)
unfolding IsDistinct
one_file time = search rules

of_targets : (time j x : ℕ) (counts : List ℕ) → HaveDistinctFiles (targets_from time j x counts).events
of_targets time j x [] = tt
of_targets time j x (count ∷ counts) =
    (one_target (divides 50 (drawn (next_number x))) time (target j) _, of_targets time (j + 1) (next_number x) counts)

opening_by : (a b : Bool) (time : ℕ) → HaveDistinctFiles (if a then Restart time ∷ reload_at time ∷ [] else (if b then reload_at time ∷ [] else []))
opening_by true b time = (tt, (one_file time, tt))
opening_by false true time = (one_file time, tt)
opening_by false false time = tt

pub round_files : (i x : ℕ) (counts : List ℕ) → HaveDistinctFiles (turn_events i (turn_at i x counts))
round_files i x counts =
    both (opening i (30000 * i)) ((turn_at i x counts).events ++ eval_at (30000 * i) ∷ []) (opening_by _ _ (30000 * i))
    (both (turn_at i x counts).events (eval_at (30000 * i) ∷ []) (of_targets (30000 * i) 0 x counts) (tt, tt))

-- how many events there are

targets_many : (time j x : ℕ) (counts : List ℕ) → length (targets_from time j x counts).events ≡ length counts
targets_many time j x [] = refl
targets_many time j x (count ∷ counts) = omega (arith, targets_many time (j + 1) (next_number x) counts)

pub counts_many : (time j x : ℕ) (counts : List ℕ) → length (targets_from time j x counts).counts ≡ length counts
counts_many time j x [] = refl
counts_many time j x (count ∷ counts) = omega (arith, counts_many time (j + 1) (next_number x) counts)

few_first : (a b : Bool) (time : ℕ) → length (if a then Restart time ∷ reload_at time ∷ [] else (if b then reload_at time ∷ [] else [])) ≤ 2
few_first true b time = omega arith
few_first false true time = omega arith
few_first false false time = omega arith

pub few_events : (i x : ℕ) (counts : List ℕ) → length counts ≡ 4 → length (turn_events i (turn_at i x counts)) ≤ 7
few_events i x counts four =
    let time = 30000 * i in
    let es = (turn_at i x counts).events in
    let first : length (opening i time) ≤ 2 = few_first (nat_lt 0 i && divides 1000 i) (nat_lt 0 i && divides 100 i) time in
    omega (arith, four, first, targets_many time 0 x counts, length-append es (eval_at time ∷ []), length-append (opening i time) (es ++ eval_at time ∷ []))

-- rounds, one after another

pub no_round : (i n x : ℕ) (counts : List ℕ) → n ≡ 0 → turns_from i n x counts ≡ []
no_round i n x counts is = ap (λ (k : ℕ). turns_from i k x counts) is

pub events_are : (n : ℕ) → exercise_events n ≡ (reload_at 0 ∷ []) ++ turns_from 0 n n (0 ∷ 0 ∷ 0 ∷ 0 ∷ [])
unfolding exercise_events
events_are n = refl

pub next_round : (i n m x : ℕ) (counts : List ℕ) → n ≡ suc m
    → turns_from i n x counts ≡ turn_events i (turn_at i x counts) ++ turns_from (i + 1) m (turn_at i x counts).number (turn_at i x counts).counts
next_round i n m x counts is = ap (λ (k : ℕ). turns_from i k x counts) is

-- the labels of a target

labels_by : (value : List ℕ) → 0 < length value
    → labels_of (pair_of (codes "instance") value ∷ pair_of (codes "job") (codes "e") ∷ []) ≡ pair_of (codes "instance") value ∷ pair_of (codes "job") (codes "e") ∷ []
labels_by [] some = absurd (omega (arith, some))
labels_by (b ∷ bytes) some = refl

pub labels_are : (j : ℕ) → j < 2 ^ 64 → labels_of (target j) ≡ target j
labels_are j fits = labels_by (decimal j) (decimal_nonempty j fits)

-- the events of a round come first, and then those of the rounds behind it
pub round_is : (i n x y : ℕ) (counts after : List ℕ) (es : List Event) → i < n → es ≡ turn_events i (turn_at i x counts) → y ≡ (turn_at i x counts).number → after ≡ (turn_at i x counts).counts
    → turns_from i (n - i) x counts ≡ es ++ turns_from (i + 1) (n - (i + 1)) y after
round_is i n x y counts after es less events number later =
    let more : n - i ≡ suc (n - (i + 1)) = omega arith in
    next_round i (n - i) (n - (i + 1)) x counts more
    ∙ ap (λ (l : List Event). l ++ turns_from (i + 1) (n - (i + 1)) (turn_at i x counts).number (turn_at i x counts).counts) (sym events)
    ∙ ap (λ (k : ℕ). es ++ turns_from (i + 1) (n - (i + 1)) k (turn_at i x counts).counts) (sym number)
    ∙ ap (λ (cs : List ℕ). es ++ turns_from (i + 1) (n - (i + 1)) y cs) (sym later)

-- the first reload, and then the rounds
pub first_is : (n x : ℕ) (counts : List ℕ) (e : Event) → e ≡ reload_at 0 → x ≡ n → counts ≡ 0 ∷ 0 ∷ 0 ∷ 0 ∷ [] → (e ∷ []) ++ turns_from 0 (n - 0) x counts ≡ exercise_events n
first_is n x counts e event number none =
    let all : n - 0 ≡ n = omega arith in
    ap (λ (f : Event). (f ∷ []) ++ turns_from 0 (n - 0) x counts) event
    ∙ ap (λ (k : ℕ). (reload_at 0 ∷ []) ++ turns_from 0 k x counts) all
    ∙ ap (λ (y : ℕ). (reload_at 0 ∷ []) ++ turns_from 0 n y counts) number
    ∙ ap (λ (cs : List ℕ). (reload_at 0 ∷ []) ++ turns_from 0 n n cs) none
    ∙ sym (events_are n)

pub rounds_behind : (n : ℕ) (e : Event) → e ≡ reload_at 0 → (e ∷ []) ++ turns_from 0 n n (0 ∷ 0 ∷ 0 ∷ 0 ∷ []) ≡ exercise_events n
rounds_behind n e event = ap (λ (f : Event). (f ∷ []) ++ turns_from 0 n n (0 ∷ 0 ∷ 0 ∷ 0 ∷ [])) event ∙ sym (events_are n)

pub no_rounds : (i n x : ℕ) (counts : List ℕ) → n ≤ i → turns_from i (n - i) x counts ≡ []
no_rounds i n x counts end = let none : n - i ≡ 0 = omega arith in no_round i (n - i) x counts none
