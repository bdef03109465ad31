-- The ways of an operand, by its first token, and one more argument.
use Rattle.std.proofs.Common.{◌≡◌, ℕ, List, [], ◌∷◌, ◌++◌, Some, false, length, map, refl, ap, ◌∙◌, subst, arith, String, Global}
use Rattle.std.specs.Prelude.{string_bytes}
use Rattle.pr_forms.specs.Form.{token, rule}
use Rattle.pr_forms.specs.Table.{is_next}
use Rattle.pr_forms.specs.Run.{Runs, good, bad, run_rule, run_left, run_right, run_token, run_other, run_end, run_pair, run_first, run_second}
use Rattle.pr_forms.proofs.Steps.{next_pair}
use Rattle.pr_forms.proofs.Ways.{take_side, take_side_bad}
use Rattle.test_forms.specs.declared.parser.Part.{Part}
use Rattle.test_forms.specs.declared.tree.Place.{Place}
use Rattle.test_forms.specs.declared.tree.Token.{Token}
use Rattle.test_forms.specs.declared.tree.Expr.{Expr}
use Rattle.test_forms.specs.declared.tree.TokenKind.{TokenKind}
use Rattle.test_forms.specs.declared.tree.TokenKind.TheVariants.{Number, Name, Sign}
use Rattle.test_forms.specs.declared.tree.Sign.{Sign as SignKind}
use Rattle.test_forms.specs.declared.tree.Sign.TheVariants.{Open}
use Rattle.test_forms.specs.private.Tree.{Seen, number_token, name_token, sign_token, seen_kind, seen, number, Tree, more, more_from, none, tree_of, trees_of}
use Rattle.test_forms.specs.private.Grammar.{production, table, Primary, Tail, Value, part, at, word, called, opened_by, sign_at, sign, number_at, HasTree}
use Rattle.pr_forms.specs.Language.{Gives, Takes, Lacks}
use Rattle.test_forms.specs.private.Reader.{sums, group, value_of}

-- the first token as the grammar sees it
front : (ts rest : List Token) (t : Token) (k : TokenKind) → ts ≡ t ∷ rest → t.kind ≡ k → seen ts ≡ seen_kind t.place k ∷ seen rest
front ts rest t k e h = ap seen e ∙ ap (λ x. seen_kind t.place x ∷ seen rest) h

pub primary_number : (ts rest : List Token) (t : Token) (n : ℕ) → ts ≡ t ∷ rest → t.kind ≡ Number n → Gives sums (rule Primary) ts (good (part t.place (number t.place n)) (seen rest))
primary_number ts rest t n e h = rw (front ts rest t (Number n) e h) (run_rule (run_left refl (run_token refl)))

pub primary_name : (ts rest : List Token) (after : List Seen) (t : Token) (s : String Global) (text : List ℕ) (v : Value) → ts ≡ t ∷ rest → t.kind ≡ Name s → text ≡ string_bytes s →
    Gives sums (rule Tail) rest (good v after) → Gives sums (rule Primary) ts (good (called (word t.place text) v) after)
primary_name ts rest after t s text v e h k g = rw (k, front ts rest t (Name s) e h) (run_rule (run_right refl (run_right refl (run_pair (run_token refl) g))))

pub primary_name_bad : (ts rest : List Token) (after : List Seen) (t : Token) (s : String Global) → ts ≡ t ∷ rest → t.kind ≡ Name s →
    Gives sums (rule Tail) rest (bad after) → Gives sums (rule Primary) ts (bad after)
primary_name_bad ts rest after t s e h g = rw (front ts rest t (Name s) e h) (run_rule (run_right refl (run_right refl (run_second (run_token refl) g))))

-- a sign is no number
no_number_at : (wanted : SignKind) (t : Seen) (v : Value) → sign_at wanted t ≡ Some v → is_next {V = Value} table (token number_at) (t ∷ []) ≡ false
no_number_at wanted (number_token p n) v e = cc
no_number_at wanted (name_token p n) v e = cc
no_number_at wanted (sign_token s p) v e = refl

no_number : (wanted : SignKind) {ts rest : List Seen} {v : Value} → Runs production table (sign wanted) ts (good v rest) → is_next {V = Value} table (token number_at) ts ≡ false
no_number wanted {v = v} (run_token {t = t} e) = no_number_at wanted t v e

pub primary_open : (ts mid : List Token) (after : List Seen) (p : Place) (v : Value) → Takes sums (sign Open) ts (at p) mid → Gives sums group mid (good v after) → Gives sums (rule Primary) ts (good (opened_by (at p) v) after)
primary_open ts mid after p v x g = run_rule (run_right (no_number Open x.gives) (take_side x g))

pub primary_open_bad : (ts mid : List Token) (after : List Seen) (p : Place) → Takes sums (sign Open) ts (at p) mid → Gives sums group mid (bad after) → Gives sums (rule Primary) ts (bad after)
primary_open_bad ts mid after p x g = run_rule (run_right (no_number Open x.gives) (take_side_bad x g))

pub primary_end : (ts : List Token) → length ts ≡ 0 → Gives sums (rule Primary) ts (bad (seen ts))
primary_end [] e = run_rule (run_right refl (run_right refl (run_first run_end)))
primary_end (t ∷ ts) e = absurd (omega arith)

other_sign : (us r : List Seen) (s : SignKind) (p : Place) → us ≡ sign_token s p ∷ r → is_next table (sign Open) us ≡ false → Runs production table (rule Primary) us (bad us)
other_sign us r s p e h = let k = rw e at h in rw e (run_rule (run_right refl (run_right (next_pair table opened_by (sign Open) group (sign_token s p ∷ r) false refl k) (run_first (run_other refl)))))

pub primary_sign : (ts rest : List Token) (t : Token) (s : SignKind) → ts ≡ t ∷ rest → t.kind ≡ Sign s → Lacks sums (sign Open) ts → Gives sums (rule Primary) ts (bad (seen ts))
primary_sign ts rest t s e h l = other_sign (seen ts) (seen rest) s t.place (front ts rest t (Sign s) e h) l.next

more_from-push : (es : List Expr) (e : Expr) (before : Tree) → more_from before (map tree_of (es ++ e ∷ [])) ≡ more (more_from before (map tree_of es)) (tree_of e)
more_from-push [] e before = refl
more_from-push (x ∷ es) e before = more_from-push es e (more before (tree_of x))

pub trees_of-push : (es : List Expr) (e : Expr) → trees_of (es ++ e ∷ []) ≡ more (trees_of es) (tree_of e)
trees_of-push es e = more_from-push es e none

pub has_tree : (v : Value) (x : Part) → value_of x ≡ v → HasTree v (tree_of x.expr)
has_tree v x e = subst (λ w. HasTree w (tree_of x.expr)) e refl
