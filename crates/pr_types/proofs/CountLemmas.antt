-- Counts of parts together.
use Rattle.std.proofs.Common.{◌≡◌, ◌≤◌, ◌<◌, ◌+◌, ◌-◌, ◌^◌, ℕ, min, Bool, true, false, cond, List, [], ◌∷◌, ◌++◌, length, refl, ap, sym, ◌∙◌, add-zero, arith}
use Rattle.std.proofs.lemmas.List.{length-append, append-nil}
use Rattle.pr_match.specs.Matcher.{LabelTest}
use Rattle.pr_ast.specs.declared.place.Place.{Place}
use Rattle.pr_ast.specs.declared.names.Func.{Func}
use Rattle.pr_ast.specs.Tree.{Tree, number, text, select, range, sub, neg, binary, call, aggregate, none, more}
use Rattle.pr_types.specs.declared.counting.SelectorCounts.{SelectorCounts}
use Rattle.pr_types.specs.Typed.{replaces, content_at}
use Rattle.pr_types.specs.private.Built.{tests_in, patterns_in, own_patterns}
use Rattle.pr_types.specs.private.Numbers.{ranges_in, at_most_word, counted, counts_in, counts_together, exact_counts}

same_counts : (a b c x y z : ℕ) → a ≡ x → b ≡ y → c ≡ z → (let one : SelectorCounts = record { selectors = a; ranges = b; patterns = c } in one) ≡ record { selectors = x; ranges = y; patterns = z }
same_counts a b c x y z e f g = rw (e, f, g) refl

word_sum : (a b : ℕ) → min (min a (2 ^ 64 - 1) + min b (2 ^ 64 - 1)) (2 ^ 64 - 1) ≡ min (a + b) (2 ^ 64 - 1)
word_sum a b = omega arith

length_sum : {A : Type 0} (xs ys : List A) → at_most_word (at_most_word (length xs) + at_most_word (length ys)) ≡ at_most_word (length (xs ++ ys))
length_sum xs ys = word_sum (length xs) (length ys) ∙ ap at_most_word (sym (length-append xs ys))

-- the counts of two parts together
pub joined_counted : (xs ys : List (List LabelTest)) (m n : ℕ) (ps qs : List (List ℕ)) → counts_together (counted xs m ps) (counted ys n qs) ≡ counted (xs ++ ys) (m + n) (ps ++ qs)
joined_counted xs ys m n ps qs = same_counts _ _ _ _ _ _ (length_sum xs ys) (word_sum m n) (length_sum ps qs)

pub ranges_are_selectors : (t : Tree) → ranges_in t ≤ length (tests_in t)
ranges_are_selectors (number p n) = omega arith
ranges_are_selectors (text p x) = omega arith
ranges_are_selectors (select p s) = omega arith
ranges_are_selectors (range p s span) = omega arith
ranges_are_selectors (sub p t span step offset) = ranges_are_selectors t
ranges_are_selectors (neg p t) = ranges_are_selectors t
ranges_are_selectors (binary p o b m l r) = rw (length-append (tests_in l) (tests_in r)) (omega (arith, ranges_are_selectors l, ranges_are_selectors r))
ranges_are_selectors (call p f ts) = ranges_are_selectors ts
ranges_are_selectors (aggregate p o g ts) = ranges_are_selectors ts
ranges_are_selectors none = omega arith
ranges_are_selectors (more ts t) = rw (length-append (tests_in ts) (tests_in t)) (omega (arith, ranges_are_selectors ts, ranges_are_selectors t))

word_exact : (n : ℕ) → n < 2 ^ 64 → min n (2 ^ 64 - 1) ≡ n
word_exact n h = omega arith

pub counts_exact : (t : Tree) → (exact_counts t).selectors < 2 ^ 64 → (exact_counts t).patterns < 2 ^ 64 → counts_in t ≡ exact_counts t
counts_exact t s p = same_counts _ _ _ _ _ _ (word_exact (length (tests_in t)) s) (word_exact (ranges_in t) (omega (arith, ranges_are_selectors t))) (word_exact (length (patterns_in t)) p)

-- what both parts of a tree have, where the tree has just what they have
pub counts_both : (whole l r : Tree) (a b n : SelectorCounts) → counts_in whole ≡ counted (tests_in l ++ tests_in r) (ranges_in l + ranges_in r) (patterns_in l ++ patterns_in r) →
    a ≡ counts_in l → b ≡ counts_in r → n ≡ counts_together a b → n ≡ counts_in whole
counts_both whole l r a b n h e f k =
    k ∙ ap (λ x. counts_together x b) e ∙ ap (λ y. counts_together (counts_in l) y) f ∙ joined_counted (tests_in l) (tests_in r) (ranges_in l) (ranges_in r) (patterns_in l) (patterns_in r) ∙ sym h

-- one more argument
pub counts_more : (now before t : Tree) (a b n : SelectorCounts) → now ≡ more before t → a ≡ counts_in before → b ≡ counts_in t → n ≡ counts_together a b → n ≡ counts_in now
counts_more now before t a b n h e f k = counts_both (more before t) before t a b n refl e f k ∙ ap counts_in (sym h)

-- a call has what its arguments have, and its own pattern
pub counts_call : (p : Place) (f : Func) (ts : Tree) (a b n : SelectorCounts) → a ≡ counts_in ts → b ≡ counted [] 0 (own_patterns f ts) → n ≡ counts_together a b → n ≡ counts_in (call p f ts)
counts_call p f ts a b n e g k =
    k ∙ ap (λ x. counts_together x b) e ∙ ap (λ y. counts_together (counts_in ts) y) g ∙ joined_counted (tests_in ts) [] (ranges_in ts) 0 (patterns_in ts) (own_patterns f ts)
    ∙ same_counts _ _ _ _ _ _ (ap (λ xs. at_most_word (length xs)) (append-nil (tests_in ts))) (ap at_most_word (add-zero (ranges_in ts))) refl

own_counts : (r : Bool) (pattern : List ℕ) → (let x : SelectorCounts = record { selectors = 0; ranges = 0; patterns = cond r 1 0 } in x) ≡ counted [] 0 (cond r (pattern ∷ []) [])
own_counts true pattern = refl
own_counts false pattern = refl

pub own_is : (f : Func) (ts : Tree) → (let x : SelectorCounts = record { selectors = 0; ranges = 0; patterns = cond (replaces f) 1 0 } in x) ≡ counted [] 0 (own_patterns f ts)
own_is f ts = own_counts (replaces f) (content_at ts 4)

-- exact numbers of selectors and patterns bound that of ranges
pub exact_of : (t : Tree) (s p : ℕ) (n : SelectorCounts) → s ≡ length (tests_in t) → p ≡ length (patterns_in t) → s < 2 ^ 64 → n ≡ counts_in t →
    (let x : SelectorCounts = record { selectors = s; ranges = n.ranges; patterns = p } in x) ≡ exact_counts t
exact_of t s p n e f lt h =
    same_counts _ _ _ _ _ _ e (ap (λ x. x.ranges) h ∙ word_exact (ranges_in t) (omega (arith, ranges_are_selectors t))) f
