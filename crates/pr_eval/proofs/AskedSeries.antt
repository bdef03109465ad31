-- Series that are asked one after another.
use Rattle.std.proofs.Common.{◌≡◌, ℕ, zero, suc, ◌+◌, ◌≤◌, ◌<◌, ◌==◌, Bool, true, false, not, cond, ◌&&◌, ◌||◌, List, [], ◌∷◌, ◌++◌, length, get_or, take, drop, map, slice_get, Option, Some, None, Result, Ok, Err, OnOk, is_err, refl, sym, ap, subst, ◌∙◌, arith, append_assoc, append-nil}
use Rattle.std.specs.List.{All}
use Rattle.std.proofs.lemmas.List.Elements.{All-append}
use Rattle.std.specs.Option.{option_to_list}
use Rattle.std.proofs.lemmas.List.{drop_more, take_more, length-map, map-append}
use Rattle.std.proofs.lemmas.List.Folds.{list_any-append}
use Rattle.std.proofs.lemmas.List.Sums.{sum_by-cons}
use Rattle.std.proofs.lemmas.Option.{slice_get-get_or}
use Rattle.std.specs.Ordering.{ordering_reverse}
use Rattle.std.specs.declared.cmp.Ordering.TheVariants.{Less, Greater}
use borrow.Author.Tests.{eqb-true}
use Rattle.pr_num.specs.declared.value.Num.{Num}
use Rattle.pr_labels.specs.declared.pair.Pair.{Pair}
use Rattle.pr_labels.specs.Order.{labels_cmp}
use Rattle.pr_labels.specs.Rising.{IsBelowFirstSet, IsRising}
use Rattle.pr_labels.proofs.LabelOrder.{labels_total}
use Rattle.pr_range.specs.spec_history.declared.entry.Entry.{Entry}
use Rattle.pr_range.specs.spec_history.private.Laws.{entries_until}
use Rattle.pr_range.specs.pr_head.private.Stored.{Stored}
use Rattle.pr_range.specs.pr_head.private.Holds.{arrivals, labels_at, sets_of}
use Rattle.pr_range.proofs.HeadSimulation.{entry_at}
use Rattle.pr_range.specs.spec_vectors.declared.range.Ask.{Ask}
use Rattle.pr_range.specs.spec_vectors.declared.range.AskFault.{AskFault}
use Rattle.pr_range.specs.spec_vectors.declared.range.AskFault.TheVariants as fault
use Rattle.pr_range.specs.declared.fault.RangeFault.{RangeFault}
use Rattle.pr_range.specs.declared.fault.RangeFault.TheVariants.{TooWide, RangeTooLong, Memory}
use Rattle.pr_range.specs.private.Answers.{AnswersAsk}
use Rattle.pr_range.specs.spec_vectors.private.Laws.{ask_cost}
use Rattle.pr_range.specs.private.Asks.{AreMoved, IsLater, IsReadyToAsk, LastAsk, LastAsks, MayAsk, Passed, keeps_passed, passed_for, remembered}
use Rattle.pr_eval.specs.declared.range_calls.asking.RangeAnswer.{RangeAnswer}
use Rattle.pr_eval.specs.private.Answering.{FaultIs, after, answer, answers_of, one_answer}
use Rattle.pr_eval.specs.private.RangeCallsAsking.{AreAsked, AreOnce, MayAskEach, is_asked, is_number_among, numbers_cost}

abbrev Head : Type 0
Head = List (List Pair × Stored)

-- no series asked
asked_of_none : (keeps outside same : Bool) → (keeps && (outside && (same && false))) ≡ false
asked_of_none true true true = refl
asked_of_none true true false = refl
asked_of_none true false same = refl
asked_of_none false outside same = refl

pub asked_none : (history : List Entry) (keeps : Bool) (node : ℕ) (a : Ask) (last : LastAsks) (passed : Passed) → AreAsked history keeps node a [] last last passed passed
asked_none history keeps node a last passed = record {
  asks = λ k s. sym (ap (λ b. cond b (Some (remembered a)) (last k s)) (asked_of_none keeps (not a.inside) (node == k)));
  passing = λ k s. sym (ap (λ b. cond b (entries_until history (labels_at (arrivals history) s) a.to) (passed k s)) (asked_of_none keeps (not a.inside) (node == k)));
}

-- one more series asked
one_or_more : {A : Type 0} (keeps outside same before this : Bool) (x y : A) → cond (keeps && (outside && (same && this))) x (cond (keeps && (outside && (same && before))) x y)
    ≡ cond (keeps && (outside && (same && (before || (this || false))))) x y
one_or_more true true true true true x y = refl
one_or_more true true true true false x y = refl
one_or_more true true true false true x y = refl
one_or_more true true true false false x y = refl
one_or_more true true false before this x y = refl
one_or_more true false same before this x y = refl
one_or_more false outside same before this x y = refl

not_this : {A : Type 0} (keeps outside same : Bool) (x y z : A) → cond (keeps && (outside && (same && false))) x z ≡ cond (keeps && (outside && (same && false))) y z
not_this keeps outside same x y z = ap (λ b. cond b x z) (asked_of_none keeps outside same) ∙ sym (ap (λ b. cond b y z) (asked_of_none keeps outside same))

by_number : {A : Type 0} (f : ℕ → A) (keeps outside same : Bool) (s t : ℕ) (z : A) → cond (keeps && (outside && (same && (s == t)))) (f s) z ≡ cond (keeps && (outside && (same && (s == t)))) (f t) z
by_number f keeps outside same s t z = by (s == t) refl where
  by : (b : Bool) → (s == t) ≡ b → cond (keeps && (outside && (same && b))) (f s) z ≡ cond (keeps && (outside && (same && b))) (f t) z
  by true e = ap (λ n. cond (keeps && (outside && (same && true))) (f n) z) (eqb-true s t e)
  by false e = not_this keeps outside same (f s) (f t) z

among_more : (t s : ℕ) (numbers : List ℕ) → is_number_among t (numbers ++ s ∷ []) ≡ (is_number_among t numbers || ((s == t) || false))
among_more t s numbers = list_any-append (λ n. n == t) numbers (s ∷ [])

pub asked_more : (history : List Entry) (keeps : Bool) (node s : ℕ) (a : Ask) (numbers : List ℕ) (last last' last'' : LastAsks) (passed passed' passed'' : Passed)
    → AreAsked history keeps node a numbers last last' passed passed'
    → AreMoved keeps node s a (entries_until history (labels_at (arrivals history) s) a.to) last' last'' passed' passed''
    → AreAsked history keeps node a (numbers ++ s ∷ []) last last'' passed passed''
asked_more history keeps node s a numbers last last' last'' passed passed' passed'' h moved = record {
  asks = λ k t.
      moved.asks k t ∙ ap (λ l. cond (keeps_passed keeps a node s k t) (Some (remembered a)) l) (h.asks k t)
      ∙ one_or_more keeps (not a.inside) (node == k) (is_number_among t numbers) (s == t) (Some (remembered a)) (last k t)
      ∙ ap (λ b. cond (keeps && (not a.inside && ((node == k) && b))) (Some (remembered a)) (last k t)) (sym (among_more t s numbers));
  passing = λ k t.
      moved.passing k t
      ∙ by_number (λ n. entries_until history (labels_at (arrivals history) n) a.to) keeps (not a.inside) (node == k) s t (passed' k t)
      ∙ ap (λ l. cond (keeps_passed keeps a node s k t) (entries_until history (labels_at (arrivals history) t) a.to) l) (h.passing k t)
      ∙ one_or_more keeps (not a.inside) (node == k) (is_number_among t numbers) (s == t) (entries_until history (labels_at (arrivals history) t) a.to) (passed k t)
      ∙ ap (λ b. cond (keeps && (not a.inside && ((node == k) && b))) (entries_until history (labels_at (arrivals history) t) a.to) (passed k t)) (sym (among_more t s numbers));
}

pub asked_next : (history : List Entry) (keeps : Bool) (node i : ℕ) (a : Ask) (numbers : List ℕ) (last last' last'' : LastAsks) (passed passed' passed'' : Passed) → i < length numbers
    → AreAsked history keeps node a (take i numbers) last last' passed passed'
    → AreMoved keeps node (get_or numbers i 0) a (entries_until history (labels_at (arrivals history) (get_or numbers i 0)) a.to) last' last'' passed' passed''
    → AreAsked history keeps node a (take (i + 1) numbers) last last'' passed passed''
asked_next history keeps node i a numbers last last' last'' passed passed' passed'' within h moved =
    subst (λ l. AreAsked history keeps node a l last last'' passed passed'') (sym (take_more numbers i 0 within))
    (asked_more history keeps node (get_or numbers i 0) a (take i numbers) last last' last'' passed passed' passed'' h moved)

-- what is known of a series that was not asked is as it was
not_asked : (keeps outside same among : Bool) → among ≡ false → (keeps && (outside && (same && among))) ≡ false
not_asked keeps outside same among h = ap (λ b. keeps && (outside && (same && b))) h ∙ asked_of_none keeps outside same

module _ (history : List Entry) (keeps : Bool) (node s : ℕ) (a : Ask) (numbers : List ℕ) (last last' : LastAsks) (passed passed' : Passed) (h : AreAsked history keeps node a numbers last last' passed passed') where
  pub last_still : is_number_among s numbers ≡ false → last' node s ≡ last node s
  last_still apart = h.asks node s ∙ ap (λ b. cond b (Some (remembered a)) (last node s)) (not_asked keeps (not a.inside) (node == node) (is_number_among s numbers) apart)

  pub passed_still : is_number_among s numbers ≡ false → passed' node s ≡ passed node s
  passed_still apart =
      h.passing node s ∙ ap (λ b. cond b (entries_until history (labels_at (arrivals history) s) a.to) (passed node s)) (not_asked keeps (not a.inside) (node == node) (is_number_among s numbers) apart)

  -- a series that was not asked yet may be asked
  pub still_ready : IsReadyToAsk last node s a → is_number_among s numbers ≡ false → IsReadyToAsk last' node s a
  still_ready ready apart = λ outside.
      let later : IsLater last node s a = ready outside in
      record {
        same = λ t b is. by later t b (is_asked keeps a node numbers node t) (sym is ∙ h.asks node t);
        from = λ b is. later.from b (sym (last_still apart) ∙ is);
        to = λ b is. later.to b (sym (last_still apart) ∙ is);
      } where
        by : IsLater last node s a → (t : ℕ) (b : LastAsk) (c : Bool) → Some b ≡ cond c (Some (remembered a)) (last node t) → b.func ≡ a.func
        by later t b true is = let same : b ≡ remembered a = cc in ap (λ (x : LastAsk). x.func) same
        by later t b false is = later.same t b (sym is)

-- a number comes once
either : (a b : Bool) → (a || b) ≡ false → (a ≡ false) × (b ≡ false)
either true b h = cc
either false b h = (refl, h)

eqb_turned : (a b : ℕ) → (a == b) ≡ false → (b == a) ≡ false
eqb_turned a b h = by (b == a) refl where
  by : (t : Bool) → (b == a) ≡ t → (b == a) ≡ false
  by true e = let same : b ≡ a = eqb-true b a e in cc (ap (λ x. x == b) same, ap (λ x. a == x) same, h, e)
  by false e = e

among_later : (n : ℕ) (numbers : List ℕ) (i : ℕ) → i < length numbers → is_number_among n numbers ≡ false → (get_or numbers i 0 == n) ≡ false
among_later n [] i h k = absurd (omega arith)
among_later n (m ∷ numbers) zero h k = (either (m == n) (is_number_among n numbers) k).0
among_later n (m ∷ numbers) (suc i) h k = among_later n numbers i (omega arith) (either (m == n) (is_number_among n numbers) k).1

pub once_at : (numbers : List ℕ) (i : ℕ) → AreOnce numbers → i < length numbers → is_number_among (get_or numbers i 0) (take i numbers) ≡ false
once_at [] i h k = absurd (omega arith)
once_at (n ∷ numbers) zero h k = refl
once_at (n ∷ numbers) (suc i) h k =
    let first = eqb_turned (get_or numbers i 0) n (among_later n numbers i (omega arith) h.0) in
    ap (λ b. b || is_number_among (get_or numbers i 0) (take i numbers)) first ∙ once_at numbers i h.1 (omega arith)

not_below_itself : (l : List Pair) → labels_cmp l l ≡ Less → ⊥
not_below_itself l h = let e : Less ≡ Greater = sym h ∙ labels_total.antisymm l l ∙ ap ordering_reverse h in cc

apart_from_rising : (f : ℕ → List Pair) (n : ℕ) (numbers : List ℕ) → IsRising (f n ∷ map f numbers) → is_number_among n numbers ≡ false
apart_from_rising f n [] h = refl
apart_from_rising f n (m ∷ numbers) h = by (m == n) refl (apart_from_rising f n numbers (skip (map f numbers) h)) where
  skip : (rest : List (List Pair)) → IsRising (f n ∷ f m ∷ rest) → IsRising (f n ∷ rest)
  skip [] r = (tt, tt)
  skip (l ∷ rest) r = (labels_total.trans (f n) (f m) l r.0 r.1.0, r.1.1)

  by : (b : Bool) → (m == n) ≡ b → is_number_among n numbers ≡ false → (b || is_number_among n numbers) ≡ false
  by true e more = let same : m ≡ n = eqb-true m n e in absurd (not_below_itself (f n) (subst (λ k. labels_cmp (f n) (f k) ≡ Less) same h.0))
  by false e more = more

pub once_from_rising : (f : ℕ → List Pair) (numbers : List ℕ) → IsRising (map f numbers) → AreOnce numbers
once_from_rising f [] h = tt
once_from_rising f (n ∷ numbers) h = (apart_from_rising f n numbers h, once_from_rising f numbers h.1)

-- a series may be asked where all may
pub may_ask : (head : Head) (history : List Entry) (a : Ask) (Fits : Type 0) (last : LastAsks) (node series : ℕ) → MayAskEach head history a Fits last node → series < length head
    → MayAsk head history series (labels_at (arrivals history) series) a
may_ask head history a Fits last node series may h =
    let named : slice_get (sets_of head) series ≡ Some (labels_at (sets_of head) series) = slice_get-get_or (sets_of head) series [] (omega (arith, length-map head (λ (e : List Pair × Stored). e.0))) in
    let labels = labels_at (arrivals history) series in
    let there : slice_get (sets_of head) series ≡ Some labels = named ∙ ap (λ l. Some (labels_at l series)) may.holds.numbered in
    let found = entry_at head series labels there in
    record {
      lawful = may.lawful;
      holds = may.holds;
      named = there;
      whole = λ e at. subst (λ l. e.1.first ≤ entries_until history l a.from) (same_labels e (labels, found.0) (sym at ∙ found.1)) (may.whole series e at);
    } where
      same_labels : (e f : List Pair × Stored) → Some e ≡ Some f → e.0 ≡ f.0
      same_labels e f is = let same : e ≡ f = cc in ap (λ (p : List Pair × Stored). p.0) same

-- the reads of one more series
pub reads_step : (history : List Entry) (a : Ask) (p p' : ℕ → ℕ) (numbers : List ℕ) (i before reads after : ℕ) → i < length numbers → p' (get_or numbers i 0) ≡ p (get_or numbers i 0)
    → reads + numbers_cost history a p (drop i numbers) ≤ before + numbers_cost history a p numbers
    → after ≤ reads + ask_cost history (labels_at (arrivals history) (get_or numbers i 0)) a (passed_for a (p' (get_or numbers i 0)))
    → after + numbers_cost history a p (drop (i + 1) numbers) ≤ before + numbers_cost history a p numbers
reads_step history a p p' numbers i before reads after within same so_far more =
    let n = get_or numbers i 0 in
    let cost : ℕ → ℕ = λ m. ask_cost history (labels_at (arrivals history) m) a (passed_for a (p m)) in
    let step : numbers_cost history a p (drop i numbers) ≡ cost n + numbers_cost history a p (drop (i + 1) numbers) =
    ap (numbers_cost history a p) (drop_more numbers i 0 within) ∙ sum_by-cons cost n (drop (i + 1) numbers) in
    let read : after ≤ reads + cost n = subst (λ k. after ≤ reads + ask_cost history (labels_at (arrivals history) n) a (passed_for a k)) same more in
    omega arith

-- the answers with one more series
pub answers_step : (f : ℕ → Result (Option Num) AskFault) (numbers : List ℕ) (i : ℕ) (done : List RangeAnswer) (given : Option Num) → i < length numbers → f (get_or numbers i 0) ≡ Ok given
    → after (done ++ map (answer (get_or numbers i 0)) (option_to_list given)) (answers_of f (drop (i + 1) numbers)) ≡ after done (answers_of f (drop i numbers))
answers_step f numbers i done given within is =
    by given (answers_of f (drop (i + 1) numbers))
    ∙ ap (λ r. after done (one_answer (answer n) r (answers_of f (drop (i + 1) numbers)))) (sym is)
    ∙ ap (λ l. after done (answers_of f l)) (sym (drop_more numbers i 0 within)) where
      n : ℕ
      n = get_or numbers i 0

      by : (o : Option Num) (m : Result (List RangeAnswer) AskFault) → after (done ++ map (answer (get_or numbers i 0)) (option_to_list o)) m ≡ after done (one_answer (answer (get_or numbers i 0)) (Ok o) m)
      by None m = ap (λ l. after l m) (append-nil done)
      by (Some v) (Ok xs) = ap Ok (append_assoc done (answer (get_or numbers i 0) v ∷ []) xs)
      by (Some v) (Err e) = refl

pub answers_fault : (f : ℕ → Result (Option Num) AskFault) (numbers : List ℕ) (i : ℕ) (done : List RangeAnswer) (e : AskFault) → i < length numbers → f (get_or numbers i 0) ≡ Err e
    → after done (answers_of f (drop i numbers)) ≡ Err e
answers_fault f numbers i done e within is =
    ap (λ l. after done (answers_of f l)) (drop_more numbers i 0 within)
    ∙ ap (λ r. after done (one_answer (answer (get_or numbers i 0)) r (answers_of f (drop (i + 1) numbers)))) is

pub answers_none : (m : Result (List RangeAnswer) AskFault) → after [] m ≡ m
answers_none (Ok xs) = refl
answers_none (Err e) = refl

-- what is left of rising label sets rises
below_after : (x l : List Pair) (ys : List (List Pair)) → labels_cmp x l ≡ Less → IsBelowFirstSet l ys → IsBelowFirstSet x ys
below_after x l [] h k = tt
below_after x l (y ∷ ys) h k = labels_total.trans x l y h k

pub rising_without : (xs : List (List Pair)) (l : List Pair) (ys : List (List Pair)) → IsRising (xs ++ l ∷ ys) → IsRising (xs ++ ys)
rising_without [] l ys h = h.1
rising_without (x ∷ []) l ys h = (below_after x l ys h.0 h.1.0, h.1.1)
rising_without (x ∷ y ∷ xs) l ys h = (h.0, rising_without (y ∷ xs) l ys h.1)

made_more : (f : ℕ → List Pair) (done : List RangeAnswer) (n : ℕ) (v : Num) (rest : List (List Pair))
    → map (λ (x : RangeAnswer). f x.series) (done ++ answer n v ∷ []) ++ rest ≡ map (λ (x : RangeAnswer). f x.series) done ++ (f n ∷ rest)
made_more f done n v rest =
    ap (λ l. l ++ rest) (map-append (λ (x : RangeAnswer). f x.series) done (answer n v ∷ []))
    ∙ append_assoc (map (λ (x : RangeAnswer). f x.series) done) (f n ∷ []) rest

pub rising_step : (f : ℕ → List Pair) (numbers : List ℕ) (i : ℕ) (done : List RangeAnswer) (given : Option Num) → i < length numbers
    → IsRising (map (λ (x : RangeAnswer). f x.series) done ++ map f (drop i numbers))
    → IsRising (map (λ (x : RangeAnswer). f x.series) (done ++ map (answer (get_or numbers i 0)) (option_to_list given)) ++ map f (drop (i + 1) numbers))
rising_step f numbers i done given within h = by given (subst (λ l. IsRising (map (λ (x : RangeAnswer). f x.series) done ++ map f l)) (drop_more numbers i 0 within) h) where
  by : (o : Option Num) → IsRising (map (λ (x : RangeAnswer). f x.series) done ++ (f (get_or numbers i 0) ∷ map f (drop (i + 1) numbers)))
      → IsRising (map (λ (x : RangeAnswer). f x.series) (done ++ map (answer (get_or numbers i 0)) (option_to_list o)) ++ map f (drop (i + 1) numbers))
  by None k =
      subst (λ l. IsRising (map (λ (x : RangeAnswer). f x.series) l ++ map f (drop (i + 1) numbers))) (sym (append-nil done))
      (rising_without (map (λ (x : RangeAnswer). f x.series) done) (f (get_or numbers i 0)) (map f (drop (i + 1) numbers)) k)
  by (Some v) k = subst IsRising (sym (made_more f done (get_or numbers i 0) v (map f (drop (i + 1) numbers)))) k

-- the first fault
pub fault_here : (f : ℕ → Result (Option Num) AskFault) (numbers : List ℕ) (i : ℕ) (done : List RangeAnswer) (e : RangeFault) → i < length numbers → AnswersAsk (f (get_or numbers i 0)) (Err e)
    → after done (answers_of f (drop i numbers)) ≡ answers_of f numbers → FaultIs (answers_of f numbers) e
fault_here f numbers i done TooWide within is so_far = sym so_far ∙ answers_fault f numbers i done fault.TooWide within is
fault_here f numbers i done (RangeTooLong have) within is so_far = sym so_far ∙ answers_fault f numbers i done (fault.RangeTooLong have) within is
fault_here f numbers i done Memory within is so_far = tt

-- all series answered
pub all_answered : (f : ℕ → Result (Option Num) AskFault) (numbers left : List ℕ) (done : List RangeAnswer) → left ≡ [] → after done (answers_of f left) ≡ answers_of f numbers → answers_of f numbers ≡ Ok done
all_answered f numbers left done none so_far = sym so_far ∙ ap (λ l. after done (answers_of f l)) none ∙ ap Ok (append-nil done)

pub all_rising : (f : ℕ → List Pair) (left : List ℕ) (done : List RangeAnswer) → left ≡ [] → IsRising (map (λ (x : RangeAnswer). f x.series) done ++ map f left) → IsRising (map (λ (x : RangeAnswer). f x.series) done)
all_rising f left done none h =
    subst IsRising (append-nil (map (λ (x : RangeAnswer). f x.series) done)) (subst (λ l. IsRising (map (λ (x : RangeAnswer). f x.series) done ++ map f l)) none h)

-- what a call that succeeded ensures
pub on_ok : {V E : Type 0} (P : Type 0) (r : Result V E) → is_err r ≡ false → OnOk r P → P
on_ok P (Ok v) h k = k
on_ok P (Err e) h k = cc

known_one : (m : ℕ) (x : RangeAnswer) → x.series < m → All (λ (y : RangeAnswer). y.series < m) (x ∷ [])
known_one m x h zero d within = h
known_one m x h (suc k) d within = absurd (omega arith)

pub known_step : (m : ℕ) (done : List RangeAnswer) (n : ℕ) (given : Option Num) → n < m → All (λ (x : RangeAnswer). x.series < m) done → All (λ (x : RangeAnswer). x.series < m) (done ++ map (answer n) (option_to_list given))
known_step m done n None h known = subst (All (λ (x : RangeAnswer). x.series < m)) (sym (append-nil done)) known
known_step m done n (Some v) h known = All-append (λ (x : RangeAnswer). x.series < m) done (answer n v ∷ []) known (known_one m (answer n v) h)
