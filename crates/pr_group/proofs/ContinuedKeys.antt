-- One key is one printed text under one function.
use Rattle.std.proofs.Common.{◌≡◌, ℕ, ◌&&◌, Bool, true, false, List, ◌++◌, drop, length, Option, Some, None, refl, sym, ap, ◌∙◌}
use Rattle.std.specs.Prelude.{codes}
use Rattle.std.specs.Str.{bytes_eq}
use Rattle.std.proofs.Math.Seq.{drop-append_seam}
use Rattle.pr_ast.specs.declared.names.Func.{Func}
use Rattle.pr_ast.specs.declared.names.Func.TheVariants.{Abs}
use Rattle.pr_ast.specs.Names.{func_text}
use Rattle.pr_rule.specs.spec_rules.private.Carried.{RangeUse, func_name, same_use}
use Rattle.pr_group.specs.private.Waiting.{key_of}
use Rattle.pr_group.proofs.Ranges.{Lacks, before_first, before_is}
use Rattle.pr_group.proofs.Taking.{equal_bytes, same_bytes}

func_lacks : (f : Func) → Lacks 40 (func_text f)
unfolding func_text
func_lacks Abs = refl
func_lacks _ = refl

name_lacks : (f : Option Func) → Lacks 40 (func_name f)
name_lacks None = refl
name_lacks (Some f) = func_lacks f

names_same : (a b : RangeUse) → key_of a ≡ key_of b → func_name a.func ≡ func_name b.func
names_same a b e =
    sym (before_is 40 (func_name a.func) a.printed (name_lacks a.func)) ∙ ap (before_first 40) e ∙ before_is 40 (func_name b.func) b.printed (name_lacks b.func)

behind : (xs ys : List ℕ) → drop (length xs) (xs ++ ys) ≡ ys
behind xs ys = drop-append_seam xs ys

printed_same : (a b : RangeUse) → key_of a ≡ key_of b → a.printed ≡ b.printed
printed_same a b e =
    let names = names_same a b e in
    let tails : codes "(" ++ a.printed ≡ codes "(" ++ b.printed =
    sym (behind (func_name a.func) (codes "(" ++ a.printed)) ∙ ap (drop (length (func_name a.func))) e ∙ ap (λ n. drop (length n) (key_of b)) names ∙ behind (func_name b.func) (codes "(" ++ b.printed) in
    ap (drop 1) tails

pub same_keys : (a b : RangeUse) → same_use a b ≡ bytes_eq (key_of a) (key_of b)
same_keys a b = by (bytes_eq a.printed b.printed) (bytes_eq (func_name a.func) (func_name b.func)) (bytes_eq (key_of a) (key_of b)) refl refl refl where
  by : (s t k : Bool) → bytes_eq a.printed b.printed ≡ s → bytes_eq (func_name a.func) (func_name b.func) ≡ t → bytes_eq (key_of a) (key_of b) ≡ k → (s && t) ≡ k
  by true true k p n e =
      sym (equal_bytes (key_of a) (key_of b) (ap (λ x. x ++ (codes "(" ++ a.printed)) (same_bytes (func_name a.func) (func_name b.func) n) ∙ ap (λ x. func_name b.func ++ (codes "(" ++ x)) (same_bytes a.printed b.printed p))) ∙ e
  by true false true p n e = absurd (cc (n, equal_bytes (func_name a.func) (func_name b.func) (names_same a b (same_bytes (key_of a) (key_of b) e))))
  by true false false p n e = refl
  by false t true p n e = absurd (cc (p, equal_bytes a.printed b.printed (printed_same a b (same_bytes (key_of a) (key_of b) e))))
  by false t false p n e = refl
