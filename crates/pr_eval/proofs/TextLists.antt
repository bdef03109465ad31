-- The texts of arguments, as a list.
use Rattle.std.proofs.Common.{◌≡◌, ◌<◌, List, [], ◌∷◌, ◌++◌, map, drop, length, refl, ap, sym, ◌∙◌, append_assoc, length-drop, take, ◌-◌, arith}
use Rattle.std.proofs.lemmas.List.{append-nil}
use Rattle.std.proofs.Math.Seq.{take-length}
use Rattle.pr_ast.specs.declared.tree.Expr.{Expr}
use Rattle.pr_ast.specs.Tree.{Tree, none, more, more_from, tree_of, trees_of}
use Rattle.spec_meaning.specs.pr_types.Typed.{content, contents}

contents_from : (es : List Expr) (before : Tree) → contents (more_from before (map tree_of es)) ≡ contents before ++ map (λ e. content (tree_of e)) es
contents_from [] before = sym (append-nil (contents before))
contents_from (e ∷ es) before = contents_from es (more before (tree_of e)) ∙ append_assoc (contents before) (content (tree_of e) ∷ []) (map (λ x. content (tree_of x)) es)

pub contents_of : (es : List Expr) → contents (trees_of es) ≡ map (λ e. content (tree_of e)) es
contents_of es = contents_from es none

-- the texts behind the first three
pub texts_behind : (es : List Expr) → drop 3 (contents (trees_of es)) ≡ map (λ e. content (tree_of e)) (drop 3 es)
texts_behind es = ap (drop 3) (contents_of es) ∙ by es where
  by : (xs : List Expr) → drop 3 (map (λ e. content (tree_of e)) xs) ≡ map (λ e. content (tree_of e)) (drop 3 xs)
  by [] = refl
  by (a ∷ []) = refl
  by (a ∷ b ∷ []) = refl
  by (a ∷ b ∷ d ∷ xs) = refl

pub few_behind : (es : List Expr) → length es < 3 → drop 3 es ≡ []
few_behind [] h = refl
few_behind (a ∷ []) h = refl
few_behind (a ∷ b ∷ []) h = refl
few_behind (a ∷ b ∷ d ∷ xs) h = absurd (omega arith)

pub whole_rest : (es : List Expr) → take (length es - 3) (drop 3 es) ≡ drop 3 es
whole_rest es = ap (λ k. take k (drop 3 es)) (sym (length-drop 3 es)) ∙ take-length (drop 3 es)
