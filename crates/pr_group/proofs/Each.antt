-- What holds of each ask of two parts.
use Rattle.std.proofs.Common.{◌≡◌, ℕ, suc, ◌+◌, Bool, true, List, [], ◌∷◌, ◌++◌, length, length-append, slice_get, refl, ap, subst, ◌∙◌, arith}
use Rattle.pr_rule.specs.spec_history.declared.entry.Entry.{Entry}
use Rattle.pr_ast.specs.Tree.{Tree, number, text, select, range, sub, neg, binary, call, aggregate, none, more}
use Rattle.pr_rule.specs.pr_types.private.Numbers.{ranges_in}
use Rattle.pr_rule.specs.spec_vectors.declared.range.RangeFn.{RangeFn}
use Rattle.pr_rule.specs.pr_eval.private.Asking.{asked_for, asks_in}
use Rattle.pr_rule.specs.pr_eval.private.Each.{EachAt}
use Rattle.pr_group.proofs.Lists.{front_get}

rest_get : {A : Type 0} (xs ys : List A) (i : ℕ) → slice_get (xs ++ ys) (length xs + i) ≡ slice_get ys i
rest_get [] ys i = let same : 0 + i ≡ i = omega arith in ap (slice_get ys) same
rest_get (x ∷ xs) ys i = let same : length (x ∷ xs) + i ≡ suc (length xs + i) = omega arith in ap (slice_get ((x ∷ xs) ++ ys)) same ∙ rest_get xs ys i

pub front_each : {A : Type 0} (P : ℕ → A → Type 0) (n : ℕ) (xs ys : List A) → EachAt P n (xs ++ ys) → EachAt P n xs
front_each P n xs ys h = λ i x e. h i x (front_get xs ys i x e)

pub rest_each : {A : Type 0} (P : ℕ → A → Type 0) (n m : ℕ) (xs ys : List A) → m ≡ n + length xs → EachAt P n (xs ++ ys) → EachAt P m ys
rest_each P n m xs ys is h = λ i x e.
    let same : n + (length xs + i) ≡ m + i = omega arith in subst (λ k. P k x) same (h (length xs + i) x (rest_get xs ys i ∙ e))

pub first_of_one : {A : Type 0} (P : ℕ → A → Type 0) (n : ℕ) (x : A) → EachAt P n (x ∷ []) → P n x
first_of_one P n x h = let same : n + 0 ≡ n = omega arith in subst (λ k. P k x) same (h 0 x refl)

-- as many are asked as there are range selectors
pub asks_length : (inside : Bool) (history : List Entry) (func : RangeFn) (t : Tree) (time : ℕ) → length (asks_in inside history func t time) ≡ ranges_in t
asks_length inside history func (range p s d) time = refl
asks_length inside history func (sub p t d i o) time = asks_length true history func t time
asks_length inside history func (neg p t) time = asks_length inside history func t time
asks_length inside history func (binary p o b m l r) time =
    let left = asks_length inside history func l time in
    let right = asks_length inside history func r time in
    length-append (asks_in inside history func l time) (asks_in inside history func r time) ∙ ap (λ n. n + length (asks_in inside history func r time)) left ∙ ap (λ n. ranges_in l + n) right
asks_length inside history func (call p f ts) time = asks_length inside history (asked_for f) ts time
asks_length inside history func (aggregate p o g ts) time = asks_length inside history func ts time
asks_length inside history func (more ts t) time =
    let left = asks_length inside history func ts time in
    let right = asks_length inside history func t time in
    length-append (asks_in inside history func ts time) (asks_in inside history func t time) ∙ ap (λ n. n + length (asks_in inside history func t time)) left ∙ ap (λ n. ranges_in ts + n) right
asks_length inside history func (number p v) time = refl
asks_length inside history func (text p t) time = refl
asks_length inside history func (select p s) time = refl
asks_length inside history func none time = refl
