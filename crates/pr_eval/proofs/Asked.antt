-- Parts that are evaluated one after another: what they read and ask together.
use Rattle.std.proofs.Common.{◌≡◌, ℕ, ◌+◌, ◌<◌, ◌≤◌, ◌⊎◌, inl, inr, ◌&&◌, Bool, true, false, cond, List, [], ◌∷◌, ◌++◌, length, take, Option, Some, None, refl, sym, ap, subst, ◌∙◌, length-append, arith}
use Rattle.pr_range.specs.spec_history.declared.entry.Entry.{Entry}
use Rattle.pr_range.specs.spec_history.private.Laws.{entries_until}
use Rattle.pr_range.specs.pr_head.private.Holds.{arrivals, labels_at}
use Rattle.pr_range.specs.private.Asks.{LastAsk}
use Rattle.pr_eval.specs.private.Asking.{Sought}
use Rattle.pr_eval.specs.private.Evaluated.{AreAllAsked, AreReady, AreRowsAsked, IsAsked, IsReadyFor, IsSame, KeptOfRanges, MayFollow}
use Rattle.pr_eval.proofs.Each.{both_each, front_each, map_each, none_each, rest_each}

pub still : (k : ℕ) (kept : KeptOfRanges) → IsSame k kept kept
still k kept = record { last = refl; passed = refl }

pub same_then : (k : ℕ) (a b c : KeptOfRanges) → IsSame k a b → IsSame k b c → IsSame k a c
same_then k a b c f g = record { last = g.last ∙ f.last; passed = g.passed ∙ f.passed }

take_all : (ns : List ℕ) → take (length ns) ns ≡ ns
take_all [] = refl
take_all (n ∷ ns) = ap (λ ms. n ∷ ms) (take_all ns)

module _ (keeps : Bool) (history : List Entry) where
  -- what is known where all were asked is known where some were
  weaker : (whole : Bool) (before after : KeptOfRanges) (k : ℕ) (q : Option Sought) → IsAsked keeps history true before after k q → IsAsked keeps history whole before after k q
  weaker true before after k q h = h
  weaker false before after k None h = h
  weaker false before after k (Some q) h =
      (length q.numbers, subst (λ ns. AreRowsAsked keeps history q.ask ns (before.last k) (after.last k) (before.passed k) (after.passed k)) (sym (take_all q.numbers)) h)

  none_kept : {A : Type 0} (b : Bool) (x y : A) → y ≡ cond (b && false) x y
  none_kept true x y = refl
  none_kept false x y = refl

  -- nothing asked is some asked
  same_asked : (before after : KeptOfRanges) (k : ℕ) (q : Option Sought) → IsSame k before after → IsAsked keeps history false before after k q
  same_asked before after k None h = h
  same_asked before after k (Some q) h = (
    0,
    record {
      asks = λ s. (λ i. h.last i s) ∙ none_kept keeps (Some q.ask) (before.last k s);
      passing = λ s. (λ i. h.passed i s) ∙ none_kept keeps (entries_until history (labels_at (arrivals history) s) q.ask.to) (before.passed k s);
    },
  )

  -- what others were asked in the meantime does not matter
  rows_before : (q : LastAsk) (ns : List ℕ) (a b c : KeptOfRanges) (k : ℕ) → IsSame k b c → AreRowsAsked keeps history q ns (a.last k) (b.last k) (a.passed k) (b.passed k) → AreRowsAsked keeps history q ns (a.last k) (c.last k) (a.passed k) (c.passed k)
  rows_before q ns a b c k same h =
      subst (λ l. AreRowsAsked keeps history q ns (a.last k) l (a.passed k) (c.passed k)) (sym same.last)
      (subst (λ p. AreRowsAsked keeps history q ns (a.last k) (b.last k) (a.passed k) p) (sym same.passed) h)

  rows_behind : (q : LastAsk) (ns : List ℕ) (a b c : KeptOfRanges) (k : ℕ) → IsSame k a b → AreRowsAsked keeps history q ns (b.last k) (c.last k) (b.passed k) (c.passed k) → AreRowsAsked keeps history q ns (a.last k) (c.last k) (a.passed k) (c.passed k)
  rows_behind q ns a b c k same h =
      subst (λ l. AreRowsAsked keeps history q ns l (c.last k) (a.passed k) (c.passed k)) same.last
      (subst (λ p. AreRowsAsked keeps history q ns (b.last k) (c.last k) p (c.passed k)) same.passed h)

  asked_before : (whole : Bool) (a b c : KeptOfRanges) (k : ℕ) (q : Option Sought) → IsSame k b c → IsAsked keeps history whole a b k q → IsAsked keeps history whole a c k q
  asked_before whole a b c k None same h = same_then k a b c h same
  asked_before true a b c k (Some q) same h = rows_before q.ask q.numbers a b c k same h
  asked_before false a b c k (Some q) same h = (h.0, rows_before q.ask (take h.0 q.numbers) a b c k same h.1)

  asked_behind : (whole : Bool) (a b c : KeptOfRanges) (k : ℕ) (q : Option Sought) → IsSame k a b → IsAsked keeps history whole b c k q → IsAsked keeps history whole a c k q
  asked_behind whole a b c k None same h = same_then k a b c same h
  asked_behind true a b c k (Some q) same h = rows_behind q.ask q.numbers a b c k same h
  asked_behind false a b c k (Some q) same h = (h.0, rows_behind q.ask (take h.0 q.numbers) a b c k same h.1)

  pub weaker_all : (whole : Bool) (asks : List (Option Sought)) (node : ℕ) (a b : KeptOfRanges) → AreAllAsked keeps history true asks node a b → AreAllAsked keeps history whole asks node a b
  weaker_all whole asks node a b h = record {
    others = h.others;
    own = map_each (IsAsked keeps history true a b) (IsAsked keeps history whole a b) node asks (λ k q low high g. weaker whole a b k q g) h.own;
  }

  module _ (xs ys : List (Option Sought)) (n m : ℕ) (is : m ≡ n + length xs) where
    low_of : (k : ℕ) → (k < n) ⊎ (n + length (xs ++ ys) ≤ k) → (k < n) ⊎ (n + length xs ≤ k)
    low_of k (inl h) = inl h
    low_of k (inr h) = let all : length (xs ++ ys) ≡ length xs + length ys = length-append xs ys in inr (omega (arith, all, h))

    high_of : (k : ℕ) → (k < n) ⊎ (n + length (xs ++ ys) ≤ k) → (k < m) ⊎ (m + length ys ≤ k)
    high_of k (inl h) = inl (omega (arith, is))
    high_of k (inr h) = let all : length (xs ++ ys) ≡ length xs + length ys = length-append xs ys in inr (omega (arith, all, h, is))

    -- the first part, then the second
    pub asked_both : (whole : Bool) (a b c : KeptOfRanges) → AreAllAsked keeps history true xs n a b → AreAllAsked keeps history whole ys m b c → AreAllAsked keeps history whole (xs ++ ys) n a c
    asked_both whole a b c first second = record {
      others = λ k h. same_then k a b c (first.others k (low_of k h)) (second.others k (high_of k h));
      own = both_each (IsAsked keeps history whole a c) n m xs ys is
          (map_each (IsAsked keeps history true a b) (IsAsked keeps history whole a c) n xs
          (λ k q low high g. asked_before whole a b c k q (second.others k (inl (omega (arith, is, high)))) (weaker whole a b k q g)) first.own)
          (map_each (IsAsked keeps history whole b c) (IsAsked keeps history whole a c) m ys
          (λ k q low high g. asked_behind whole a b c k q (first.others k (inr (omega (arith, is, low)))) g) second.own);
    }

    -- the second part, then the first
    pub asked_turned : (whole : Bool) (a b c : KeptOfRanges) → AreAllAsked keeps history true ys m a b → AreAllAsked keeps history whole xs n b c → AreAllAsked keeps history whole (xs ++ ys) n a c
    asked_turned whole a b c first second = record {
      others = λ k h. same_then k a b c (first.others k (high_of k h)) (second.others k (low_of k h));
      own = both_each (IsAsked keeps history whole a c) n m xs ys is
          (map_each (IsAsked keeps history whole b c) (IsAsked keeps history whole a c) n xs
          (λ k q low high g. asked_behind whole a b c k q (first.others k (inl (omega (arith, is, high)))) g) second.own)
          (map_each (IsAsked keeps history true a b) (IsAsked keeps history whole a c) m ys
          (λ k q low high g. asked_before whole a b c k q (second.others k (inr (omega (arith, is, low)))) (weaker whole a b k q g)) first.own);
    }

    -- the first part alone, which a fault ended
    pub asked_first : (a b : KeptOfRanges) → AreAllAsked keeps history false xs n a b → AreAllAsked keeps history false (xs ++ ys) n a b
    asked_first a b first = record {
      others = λ k h. first.others k (low_of k h);
      own = both_each (IsAsked keeps history false a b) n m xs ys is first.own
          (λ i q e. same_asked a b (m + i) q (first.others (m + i) (inr (omega (arith, is)))));
    }

    -- the second part alone
    pub asked_second : (a b : KeptOfRanges) → AreAllAsked keeps history false ys m a b → AreAllAsked keeps history false (xs ++ ys) n a b
    asked_second a b second = record {
      others = λ k h. second.others k (high_of k h);
      own = both_each (IsAsked keeps history false a b) n m xs ys is
          (map_each (λ k q. Unit {0}) (IsAsked keeps history false a b) n xs (λ k q low high u. same_asked a b k q (second.others k (inl (omega (arith, is, high))))) (λ i q e. tt))
          second.own;
    }

    -- what may be asked
    pub ready_first : (a : KeptOfRanges) → AreReady a.last n (xs ++ ys) → AreReady a.last n xs
    ready_first a h = front_each (IsReadyFor a.last) n xs ys h

    pub ready_second : (a : KeptOfRanges) → AreReady a.last n (xs ++ ys) → AreReady a.last m ys
    ready_second a h = rest_each (IsReadyFor a.last) n m xs ys is h

  -- asks that others do not change may come still
  follow_moved : (before after : KeptOfRanges) (k : ℕ) (q : Option Sought) → IsSame k before after → IsReadyFor before.last k q → IsReadyFor after.last k q
  follow_moved before after k None same h = h
  follow_moved before after k (Some q) same h = subst (λ l. MayFollow q.ask l) (sym same.last) h

  pub ready_moved : (whole : Bool) (xs ys : List (Option Sought)) (n m : ℕ) (a b : KeptOfRanges) → ((k : ℕ) → m ≤ k → k < m + length ys → (k < n) ⊎ (n + length xs ≤ k)) → AreAllAsked keeps history whole xs n a b
      → AreReady a.last m ys → AreReady b.last m ys
  ready_moved whole xs ys n m a b apart asked h =
      map_each (IsReadyFor a.last) (IsReadyFor b.last) m ys (λ k q low high g. follow_moved a b k q (asked.others k (apart k low high)) g) h

  pub nothing_asked : (whole : Bool) (node : ℕ) (a : KeptOfRanges) → AreAllAsked keeps history whole [] node a a
  nothing_asked whole node a = record { others = λ k h. still k a; own = none_each (IsAsked keeps history whole a a) node }
