-- Label order is a total order that ties equal label sets alone; what it makes of lists of label
-- sets.
use Rattle.std.proofs.Common.{◌≡◌, Bool, true, false, cond, ◌&&◌, ◌||◌, List, [], ◌∷◌, refl, sym, ap, ◌∙◌, filter, fold}
use Rattle.std.specs.Bool.{Decides}
use Rattle.std.specs.Str.{bytes_eq}
use Rattle.std.specs.Cmp.{IsTotalOrder, nat_cmp_total, then_total, on_total}
use Rattle.std.specs.Cmp.Lexicographic.{lists_total, pointwise_decides, bytes_decides}
use Rattle.std.specs.Ordering.{ordering_reverse, is_eq}
use Rattle.std.specs.declared.cmp.Ordering.{Ordering}
use Rattle.std.specs.declared.cmp.Ordering.TheVariants.{Less, Equal, Greater}
use Rattle.pr_labels.specs.declared.pair.Pair.{Pair}
use Rattle.pr_labels.specs.Order.{labels_cmp, labels_eq, labels_tie, pair_cmp, pair_eq, pair_ties}
use Rattle.pr_labels.specs.Rising.{IsBelowFirstSet, IsRising, is_among, placed, with_labels}

pub pair_total : IsTotalOrder pair_cmp
pair_total = then_total (on_total (λ p. p.name) (lists_total nat_cmp_total)) (on_total (λ p. p.value) (lists_total nat_cmp_total))

pub labels_total : IsTotalOrder labels_cmp
labels_total = lists_total pair_total

-- both parts of a conjunction hold
pub both : (a b : Bool) → (a && b) ≡ true → (a ≡ true) × (b ≡ true)
both true b h = (refl, h)
both false b h = cc

pair_is : (p q : Pair) → p.name ≡ q.name → p.value ≡ q.value → p ≡ q
pair_is p q e f = λ i. record { name = e i; value = f i }

pub pair_decides : (p q : Pair) → Decides (pair_eq p q) (p ≡ q)
pair_decides p q = (
  λ h. let parts = both (bytes_eq p.name q.name) (bytes_eq p.value q.value) h in
      pair_is p q ((bytes_decides p.name q.name).0 parts.0) ((bytes_decides p.value q.value).0 parts.1),
  λ e. let name : bytes_eq p.name q.name ≡ true = (bytes_decides p.name q.name).1 (ap (λ (r : Pair). r.name) e) in
      let value : bytes_eq p.value q.value ≡ true = (bytes_decides p.value q.value).1 (ap (λ (r : Pair). r.value) e) in
      rw (name, value) refl,
)

-- the order of pairs ties equal pairs alone
pub pair_tied : (p q : Pair) → pair_cmp p q ≡ Equal → p ≡ q
pair_tied p q e = (pair_decides p q).0 (pair_ties p q ∙ ap is_eq e)

pub labels_decide : (a b : List Pair) → Decides (labels_eq a b) (a ≡ b)
labels_decide = pointwise_decides pair_decides

-- label order ties equal label sets alone
pub tied : (a b : List Pair) → labels_cmp a b ≡ Equal → a ≡ b
tied a b e = (labels_decide a b).0 (labels_tie a b ∙ ap is_eq e)

pub turned : (a b : List Pair) → labels_cmp a b ≡ Greater → labels_cmp b a ≡ Less
turned a b e = labels_total.antisymm b a ∙ ap ordering_reverse e

-- a label set below the first of a rising list is below the one behind it
pub below_next : (labels first : List Pair) (rest : List (List Pair)) → IsBelowFirstSet labels (first ∷ rest) → IsBelowFirstSet first rest → IsBelowFirstSet labels rest
below_next labels first [] h k = tt
below_next labels first (second ∷ rest) h k = labels_total.trans labels first second h k

-- one more label set leaves them rising
below_placed : (first labels next : List Pair) (rest : List (List Pair)) (o : Ordering) → labels_cmp first labels ≡ Less → labels_cmp first next ≡ Less
    → IsBelowFirstSet first (placed o labels next rest (with_labels rest labels))
below_placed first labels next rest Less h k = h
below_placed first labels next rest Equal h k = k
below_placed first labels next rest Greater h k = k

below_with : (first labels : List Pair) (rest : List (List Pair)) → labels_cmp first labels ≡ Less → IsBelowFirstSet first rest → IsBelowFirstSet first (with_labels rest labels)
below_with first labels [] h k = h
below_with first labels (next ∷ rest) h k = below_placed first labels next rest (labels_cmp labels next) h k

rising_placed : (labels first : List Pair) (rest : List (List Pair)) (o : Ordering) → labels_cmp labels first ≡ o → IsRising (first ∷ rest) → IsRising (with_labels rest labels)
    → IsRising (placed o labels first rest (with_labels rest labels))
rising_placed labels first rest Less e h more = (e, h)
rising_placed labels first rest Equal e h more = h
rising_placed labels first rest Greater e h more = (below_with first labels rest (turned labels first e) h.0, more)

pub rising_with : (labels : List Pair) (sets : List (List Pair)) → IsRising sets → IsRising (with_labels sets labels)
rising_with labels [] h = (tt, tt)
rising_with labels (first ∷ rest) h = rising_placed labels first rest (labels_cmp labels first) refl h (rising_with labels rest h.1)

pub rising_fold : (sets more : List (List Pair)) → IsRising sets → IsRising (fold with_labels sets more)
rising_fold sets [] h = h
rising_fold sets (labels ∷ more) h = rising_fold (with_labels sets labels) more (rising_with labels sets h)

-- one more label set is one of them
again : (a r : Bool) → (a || r) ≡ (a || (a || r))
again true r = refl
again false r = refl

swapped : (a b r : Bool) → (a || (b || r)) ≡ (b || (a || r))
swapped true true r = refl
swapped true false r = refl
swapped false true r = refl
swapped false false r = refl

among_placed : (one labels first : List Pair) (rest : List (List Pair)) (o : Ordering) → labels_cmp labels first ≡ o
    → is_among one (with_labels rest labels) ≡ (labels_eq one labels || is_among one rest)
    → is_among one (placed o labels first rest (with_labels rest labels)) ≡ (labels_eq one labels || (labels_eq one first || is_among one rest))
among_placed one labels first rest Less e h = refl
among_placed one labels first rest Equal e h =
    again (labels_eq one first) (is_among one rest) ∙ ap (λ (l : List Pair). labels_eq one l || (labels_eq one first || is_among one rest)) (sym (tied labels first e))
among_placed one labels first rest Greater e h =
    ap (λ (r : Bool). labels_eq one first || r) h ∙ swapped (labels_eq one first) (labels_eq one labels) (is_among one rest)

pub among_with : (one labels : List Pair) (sets : List (List Pair)) → is_among one (with_labels sets labels) ≡ (labels_eq one labels || is_among one sets)
among_with one labels [] = refl
among_with one labels (first ∷ rest) = among_placed one labels first rest (labels_cmp labels first) refl (among_with one labels rest)

moved : (a b r : Bool) → ((a || b) || r) ≡ (b || (a || r))
moved true true r = refl
moved true false r = refl
moved false true r = refl
moved false false r = refl

pub among_fold : (one : List Pair) (sets more : List (List Pair)) → is_among one (fold with_labels sets more) ≡ (is_among one sets || is_among one more)
among_fold one sets [] = none (is_among one sets) where
  none : (b : Bool) → b ≡ (b || false)
  none true = refl
  none false = refl
among_fold one sets (labels ∷ more) =
    among_fold one (with_labels sets labels) more ∙ ap (λ (b : Bool). b || is_among one more) (among_with one labels sets)
    ∙ moved (labels_eq one labels) (is_among one sets) (is_among one more)

-- a filter keeps those that pass
spread : (b r : Bool) → (b && (false || r)) ≡ (b && r)
spread b r = refl

pub among_filter : (test : List Pair → Bool) (one : List Pair) (sets : List (List Pair)) → is_among one (filter test sets) ≡ (test one && is_among one sets)
among_filter test one [] = none (test one) where
  none : (b : Bool) → false ≡ (b && false)
  none true = refl
  none false = refl
among_filter test one (labels ∷ sets) = by_tests (test labels) (labels_eq one labels) refl refl (among_filter test one sets) where
  by_tests : (t e : Bool) → test labels ≡ t → labels_eq one labels ≡ e → is_among one (filter test sets) ≡ (test one && is_among one sets)
      → is_among one (cond t (labels ∷ filter test sets) (filter test sets)) ≡ (test one && (e || is_among one sets))
  by_tests true true p q h = let same : one ≡ labels = (labels_decide one labels).0 q in let passes : test one ≡ true = ap test same ∙ p in rw (q, passes) refl
  by_tests true false p q h = rw q h
  by_tests false true p q h = let same : one ≡ labels = (labels_decide one labels).0 q in let fails : test one ≡ false = ap test same ∙ p in h ∙ rw fails refl
  by_tests false false p q h = h

-- what is below a label set is none of those from it on
apart_from_higher : (one first : List Pair) → labels_cmp one first ≡ Less → labels_eq one first ≡ false
apart_from_higher one first e = labels_tie one first ∙ ap is_eq e

none_of_higher : (one : List Pair) (sets : List (List Pair)) → IsRising sets → IsBelowFirstSet one sets → is_among one sets ≡ false
none_of_higher one [] r b = refl
none_of_higher one (first ∷ rest) r b = rw (apart_from_higher one first b) (none_of_higher one rest r.1 (below_next one first rest b r.0))
  where
    below_next : (one first : List Pair) (rest : List (List Pair)) → labels_cmp one first ≡ Less → IsBelowFirstSet first rest → IsBelowFirstSet one rest
    below_next one first [] h k = tt
    below_next one first (next ∷ rest) h k = labels_total.trans one first next h k

itself_among : (first : List Pair) (rest : List (List Pair)) → is_among first (first ∷ rest) ≡ true
itself_among first rest = rw ((labels_decide first first).1 refl) refl

-- lists with the same label sets begin with the same one
first_of_both : (x y : List Pair) (xs ys : List (List Pair)) (o : Ordering) → labels_cmp x y ≡ o → IsRising (x ∷ xs) → IsRising (y ∷ ys)
    → ((one : List Pair) → is_among one (x ∷ xs) ≡ is_among one (y ∷ ys)) → x ≡ y
first_of_both x y xs ys Less e r s h =
    let none : is_among x (y ∷ ys) ≡ false = none_of_higher x (y ∷ ys) s e in
    let some : is_among x (x ∷ xs) ≡ true = itself_among x xs in
    let both : is_among x (x ∷ xs) ≡ is_among x (y ∷ ys) = h x in
    absurd (apart (sym some ∙ both ∙ none))
  where
    apart : true ≡ false → ⊥
    apart e = cc
first_of_both x y xs ys Equal e r s h = tied x y e
first_of_both x y xs ys Greater e r s h =
    let none : is_among y (x ∷ xs) ≡ false = none_of_higher y (x ∷ xs) r (turned x y e) in
    let some : is_among y (y ∷ ys) ≡ true = itself_among y ys in
    let both : is_among y (x ∷ xs) ≡ is_among y (y ∷ ys) = h y in
    absurd (apart (sym some ∙ sym both ∙ none))
  where
    apart : true ≡ false → ⊥
    apart e = cc

-- and go on with the same ones
among_rest : (one x y : List Pair) (xs ys : List (List Pair)) (b : Bool) → labels_eq one x ≡ b → x ≡ y → IsRising (x ∷ xs) → IsRising (y ∷ ys)
    → is_among one (x ∷ xs) ≡ is_among one (y ∷ ys) → is_among one xs ≡ is_among one ys
among_rest one x y xs ys true e same r s h =
    let here : one ≡ x = (labels_decide one x).0 e in
    let left : is_among x xs ≡ false = none_of_higher x xs r.1 r.0 in
    let right : is_among y ys ≡ false = none_of_higher y ys s.1 s.0 in
    ap (λ (l : List Pair). is_among l xs) here ∙ left ∙ sym (ap (λ (l : List Pair). is_among l ys) (here ∙ same) ∙ right)
among_rest one x y xs ys false e same r s h =
    let other : labels_eq one y ≡ false = ap (labels_eq one) (sym same) ∙ e in
    rw (e, other) at h

-- rising lists with the same label sets are one list
pub same_rising : (xs ys : List (List Pair)) → IsRising xs → IsRising ys → ((one : List Pair) → is_among one xs ≡ is_among one ys) → xs ≡ ys
same_rising [] [] r s h = refl
same_rising [] (y ∷ ys) r s h = let e : false ≡ is_among y (y ∷ ys) = h y in let f : is_among y (y ∷ ys) ≡ true = itself_among y ys in cc
same_rising (x ∷ xs) [] r s h = let e : is_among x (x ∷ xs) ≡ false = h x in let f : is_among x (x ∷ xs) ≡ true = itself_among x xs in cc
same_rising (x ∷ xs) (y ∷ ys) r s h =
    let same : x ≡ y = first_of_both x y xs ys (labels_cmp x y) refl r s h in
    let rest : xs ≡ ys = same_rising xs ys r.1 s.1 (λ one. among_rest one x y xs ys (labels_eq one x) refl same r s (h one)) in
    λ i. same i ∷ rest i
