-- How deep tokens are is the height of the whole text when all its parts are closed, at most.
use Rattle.std.proofs.Common.{ℕ, ◌+◌, ◌≤◌, max, Bool, true, false, List, [], ◌∷◌, length, arith}
use Rattle.std.specs.Prelude.{if◌then◌else◌}
use Rattle.pr_ast.specs.declared.lex.token.Sign.TheVariants.{LeftBrace, RightBrace, LeftParen, RightParen, Comma}
use Rattle.pr_parse.specs.declared.grammar.kind.TokenClass.{TokenClass}
use Rattle.pr_parse.specs.declared.grammar.kind.TokenClass.TheVariants.{Sign}
use Rattle.pr_parse.specs.private.Open.{Open}
use Rattle.pr_parse.specs.Deep.{is_counted, close, close_and_open, count, after_kind, after_kinds, greatest_from, operators, depth_now, depth_from}

-- the height of the whole text, were all parts closed now, the innermost with a part of this height
-- inside
abbrev pub total : ℕ → List Open → ℕ
total h [] = h
total h (p ∷ ps) = total (1 + p.operators + max h p.closed) ps

total_more : (ps : List Open) (h k : ℕ) → h ≤ k → total h ps ≤ total k ps
total_more [] h k e = e
total_more (p ∷ ps) h k e = total_more ps (1 + p.operators + max h p.closed) (1 + p.operators + max k p.closed) (omega arith)

total_least : (ps : List Open) (h : ℕ) → length ps + operators ps + h ≤ total h ps
total_least [] h = omega arith
total_least (p ∷ ps) h = let r = total_least ps (1 + p.operators + max h p.closed) in omega (arith, r)

greatest_total : (ps : List Open) (h : ℕ) → greatest_from h ps ≤ total h ps
greatest_total [] h = omega arith
greatest_total (p ∷ ps) h =
    let a = total_least ps (1 + p.operators + max h p.closed) in
    let b = greatest_total ps (max h p.closed) in
    let c = total_more ps (max h p.closed) (1 + p.operators + max h p.closed) (omega arith) in
    omega (arith, a, b, c)

now_total : (ps : List Open) → depth_now ps ≤ total 0 ps
now_total ps = let a = greatest_total ps 0 in let b = total_least ps 0 in omega (arith, a, b)

-- it never falls
close_grows : (ps : List Open) → total 0 ps ≤ total 0 (close ps)
close_grows [] = omega arith
close_grows (p ∷ []) = omega arith
close_grows (p ∷ q ∷ ps) = total_more ps (1 + q.operators + max (1 + p.operators + max 0 p.closed) q.closed) (1 + q.operators + max 0 (max q.closed (1 + p.operators + p.closed))) (omega arith)

open_grows : (ps : List Open) → total 0 ps ≤ total 0 (close_and_open ps)
open_grows [] = omega arith
open_grows (p ∷ []) = omega arith
open_grows (p ∷ q ∷ ps) = total_more ps (1 + q.operators + max (1 + p.operators + max 0 p.closed) q.closed) (1 + q.operators + max (1 + 0 + max 0 0) (max q.closed (1 + p.operators + p.closed))) (omega arith)

counting_grows : (p : Open) (ps : List Open) (b : Bool) → total 0 (p ∷ ps) ≤ total 0 ((if b then p else record { braces = p.braces; operators = p.operators + 1; closed = p.closed }) ∷ ps)
counting_grows p ps true = omega arith
counting_grows p ps false = total_more ps (1 + p.operators + max 0 p.closed) (1 + (p.operators + 1) + max 0 p.closed) (omega arith)

count_grows : (ps : List Open) → total 0 ps ≤ total 0 (count ps)
count_grows [] = omega arith
count_grows (p ∷ ps) = counting_grows p ps p.braces

counted_grows : (ps : List Open) (b : Bool) → total 0 ps ≤ total 0 (if b then count ps else ps)
counted_grows ps true = count_grows ps
counted_grows ps false = omega arith

kind_grows : (ps : List Open) (k : TokenClass) → total 0 ps ≤ total 0 (after_kind ps k)
kind_grows ps (Sign LeftParen) = total_more ps 0 (1 + 0 + max 0 0) (omega arith)
kind_grows ps (Sign LeftBrace) = total_more ps 0 (1 + 0 + max 0 0) (omega arith)
kind_grows ps (Sign RightParen) = close_grows ps
kind_grows ps (Sign RightBrace) = close_grows ps
kind_grows ps (Sign Comma) = open_grows ps
kind_grows ps k = counted_grows ps (is_counted k)

kinds_grow : (ps : List Open) (ks : List TokenClass) → total 0 ps ≤ total 0 (after_kinds ps ks)
kinds_grow ps [] = omega arith
kinds_grow ps (k ∷ ks) = let a = kind_grows ps k in let b = kinds_grow (after_kind ps k) ks in omega (arith, a, b)

pub depth_total : (ps : List Open) (ks : List TokenClass) → depth_from ps ks ≤ total 0 (after_kinds ps ks)
depth_total ps [] = now_total ps
depth_total ps (k ∷ ks) =
    let a = now_total ps in let b = kind_grows ps k in let c = kinds_grow (after_kind ps k) ks in let d = depth_total (after_kind ps k) ks in
    omega (arith, a, b, c, d)
