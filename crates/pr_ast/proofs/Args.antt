-- Arguments, one more at a time.
use Rattle.std.proofs.Common.{◌≡◌, ℕ, zero, suc, false, List, [], ◌∷◌, ◌++◌, take, drop, map, length, get_or, ◌<◌, ◌-◌, ◌^◌, max, min, refl, ap, sym, ◌∙◌, arith}
use Rattle.pr_ast.specs.declared.tree.Expr.{Expr}
use Rattle.pr_ast.specs.Tree.{Tree, more, more_from, none, tree_of, trees_of}
use Rattle.pr_ast.specs.private.Print.{comma_text, comma_unless, tree_text}
use Rattle.pr_ast.specs.Reach.{reads_back, reach}

more_from-push : (es : List Expr) (e : Expr) (before : Tree) → more_from before (map tree_of (es ++ e ∷ [])) ≡ more (more_from before (map tree_of es)) (tree_of e)
more_from-push [] e before = refl
more_from-push (x ∷ es) e before = more_from-push es e (more before (tree_of x))

pub trees_of-push : (es : List Expr) (e : Expr) → trees_of (es ++ e ∷ []) ≡ more (trees_of es) (tree_of e)
trees_of-push es e = more_from-push es e none

take_next : {A : Type 0} (i : ℕ) (xs : List A) (x : A) → i < length xs → x ≡ get_or xs i x → take (suc i) xs ≡ take i xs ++ x ∷ []
take_next i [] x lt e = absurd (omega arith)
take_next zero (y ∷ ys) x lt e = ap (λ z. z ∷ []) (sym e)
take_next (suc i) (y ∷ ys) x lt e = ap (λ zs. y ∷ zs) (take_next i ys x (omega arith) e)

-- the arguments up to one more place
pub trees_of-next : (i j : ℕ) (es : List Expr) (e : Expr) → j ≡ suc i → i < length es → e ≡ get_or es i e → trees_of (take j es) ≡ more (trees_of (take i es)) (tree_of e)
trees_of-next i j es e k lt h = ap (λ n. trees_of (take n es)) k ∙ ap trees_of (take_next i es e lt h) ∙ trees_of-push (take i es) e

assoc : {A : Type 0} (xs ys zs : List A) → (xs ++ ys) ++ zs ≡ xs ++ (ys ++ zs)
assoc [] ys zs = refl
assoc (x ∷ xs) ys zs = ap (λ ws. x ∷ ws) (assoc xs ys zs)

-- the text of one more argument
pub args_text : (more_ts ts e : Tree) (base old mid new comma : List ℕ) → more_ts ≡ more ts e → comma_text ts ≡ comma → old ≡ base ++ tree_text ts → mid ≡ old ++ comma → new ≡ mid ++ tree_text e →
    new ≡ base ++ tree_text more_ts
args_text more_ts ts e base old mid new comma h i j k l =
    l ∙ ap (λ x. x ++ tree_text e) (k ∙ ap (λ x. x ++ comma) j) ∙ assoc (base ++ tree_text ts) comma (tree_text e) ∙ assoc base (tree_text ts) (comma ++ tree_text e)
    ∙ ap (λ x. base ++ (tree_text ts ++ (x ++ tree_text e))) (sym i) ∙ ap (λ t. base ++ tree_text t) (sym h)

pub comma_after : (more_ts ts e : Tree) → more_ts ≡ more ts e → comma_text more_ts ≡ comma_unless false
comma_after more_ts ts e h = ap comma_text h

-- how far back one more argument reads
pub reach_more : (more_ts ts e : Tree) (g r m : ℕ) → more_ts ≡ more ts e → g ≡ reach ts → r ≡ reach e → m ≡ max g r → m ≡ reach more_ts
reach_more more_ts ts e g r m h i j k = k ∙ ap (λ x. max x r) i ∙ ap (λ x. max (reach ts) x) j ∙ bounded (reads_back ts) (reads_back e) (2 ^ 64 - 1) ∙ ap reach (sym h)
  where
    bounded : (a b c : ℕ) → max (min a c) (min b c) ≡ min (max a b) c
    bounded a b c = omega arith

-- all arguments are the rest, from those so far and one more
pub split_from : (i : ℕ) (es : List Expr) (e : Expr) (before : Tree) → i < length es → e ≡ get_or es i e →
    more_from before (map tree_of es) ≡ more_from (more (more_from before (map tree_of (take i es))) (tree_of e)) (map tree_of (drop (suc i) es))
split_from i [] e before lt h = absurd (omega arith)
split_from zero (x ∷ es) e before lt h = ap (λ y. more_from (more before (tree_of y)) (map tree_of es)) (sym h)
split_from (suc i) (x ∷ es) e before lt h = split_from i es e (more before (tree_of x)) (omega arith) h
