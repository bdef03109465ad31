-- A line that is no text is refused where it stands.
use Rattle.std.proofs.Common.{◌≡◌, ℕ, ◌+◌, Bool, true, false, cond, List, [], ◌∷◌, ◌++◌, Some, None, refl, ap, ◌∙◌, length, arith}
use Rattle.std.specs.Prelude.{filter_map, Option}
use Rattle.std.specs.List.{cons_option}
use Rattle.std.specs.Str.{IsUtf8, is_utf8}
use Rattle.std.proofs.lemmas.Str.{is_utf8-from_IsUtf8}
use Rattle.pr_text.specs.declared.script.order.Numbered.{Numbered}
use Rattle.pr_text.specs.declared.script.order.Order.TheVariants.{Bad}
use Rattle.pr_text.specs.Orders.{Block, body_at, behind_body, with_line, blocks_by, block_order, order_of, orders_after}
use Rattle.pr_text.specs.Script.{is_passed_over, takes_body, is_body_line}
use Rattle.pr_text.proofs.EventTexts.{no_text_is_bad, taking_text, body_line_text, passed_text}

no_text : (line : List ℕ) → is_utf8 line ≡ false → IsUtf8 line → ⊥
no_text line h u = let is : is_utf8 line ≡ true = is_utf8-from_IsUtf8 line u in cc

not_so : (b : Bool) → (b ≡ true → ⊥) → b ≡ false
not_so true n = absurd (n refl)
not_so false n = refl

pub no_order : (line body : List ℕ) → is_utf8 line ≡ false → order_of line body ≡ Bad
no_order line body h = no_text_is_bad line body (no_text line h)

pub not_passed : (line : List ℕ) → is_utf8 line ≡ false → is_passed_over line ≡ false
not_passed line h = not_so (is_passed_over line) (λ is. no_text line h (passed_text line is))

pub not_of_body : (line : List ℕ) → is_utf8 line ≡ false → is_body_line line ≡ false
not_of_body line h = not_so (is_body_line line) (λ is. no_text line h (body_line_text line is))

takes_none : (line : List ℕ) → is_utf8 line ≡ false → takes_body line ≡ false
takes_none line h = not_so (takes_body line) (λ is. no_text line h (taking_text line is))

-- Blocks before a line that is of no body, and that line

module _ (line : List ℕ) (other : is_body_line line ≡ false) where
  abbrev alone : ℕ → Block
  alone n = record { number = n; line = line; body = [] }

  body_before : (n : ℕ) (xs ys : List Block) → body_at (xs ++ (alone n ∷ ys)) ≡ body_at xs
  body_before n [] ys = rw other refl
  body_before n (x ∷ xs) ys = ap (λ (ls : List (List ℕ)). cond (is_body_line x.line) (x.line ∷ ls) []) (body_before n xs ys)

  behind_by : (test : Bool) (x : Block) (zs xs ys : List Block) (b : Block) → zs ≡ behind_body xs ++ (b ∷ ys)
      → cond test zs (x ∷ (xs ++ (b ∷ ys))) ≡ cond test (behind_body xs) (x ∷ xs) ++ (b ∷ ys)
  behind_by true x zs xs ys b e = e
  behind_by false x zs xs ys b e = refl

  behind_before : (n : ℕ) (xs ys : List Block) → behind_body (xs ++ (alone n ∷ ys)) ≡ behind_body xs ++ (alone n ∷ ys)
  behind_before n [] ys = rw other refl
  behind_before n (x ∷ xs) ys = behind_by (is_body_line x.line) x (behind_body (xs ++ (alone n ∷ ys))) xs ys (alone n) (behind_before n xs ys)

  with_before : (takes : Bool) (n m : ℕ) (first : List ℕ) (xs ys : List Block) → with_line takes n first (xs ++ (alone m ∷ ys)) ≡ with_line takes n first xs ++ (alone m ∷ ys)
  with_before true n m first xs ys =
      ap (λ (ls : List (List ℕ)). record { number = n; line = first; body = ls } ∷ behind_body (xs ++ (alone m ∷ ys))) (body_before m xs ys)
      ∙ ap (λ (bs : List Block). record { number = n; line = first; body = body_at xs } ∷ bs) (behind_before m xs ys)
  with_before false n m first xs ys = refl

  blocks_before : (n m : ℕ) (before after : List (List ℕ)) → takes_body line ≡ false → m ≡ n + length before + 1
      → blocks_by takes_body n (before ++ (line ∷ after)) ≡ blocks_by takes_body n before ++ (alone m ∷ blocks_by takes_body m after)
  blocks_before n m [] after none is =
      let next : n + 1 ≡ m = omega arith in
      ap (λ (t : Bool). with_line t (n + 1) line (blocks_by takes_body (n + 1) after)) none ∙ ap (λ (k : ℕ). alone k ∷ blocks_by takes_body k after) next
  blocks_before n m (first ∷ before) after none is =
      let next : m ≡ n + 1 + length before + 1 = omega arith in
      ap (with_line (takes_body first) (n + 1) first) (blocks_before (n + 1) m before after none next)
      ∙ with_before (takes_body first) (n + 1) m first (blocks_by takes_body (n + 1) before) (blocks_by takes_body m after)

-- Orders

kept : (test : Bool) (o : Numbered) (os : List Numbered) → test ≡ false → cons_option (cond test None (Some o)) os ≡ o ∷ os
kept true o os e = absurd (cc)
kept false o os e = refl

cons_before : (o : Option Numbered) (xs ys : List Numbered) → cons_option o (xs ++ ys) ≡ cons_option o xs ++ ys
cons_before None xs ys = refl
cons_before (Some o) xs ys = refl

filter_before : (xs ys : List Block) → filter_map block_order (xs ++ ys) ≡ filter_map block_order xs ++ filter_map block_order ys
filter_before [] ys = refl
filter_before (x ∷ xs) ys = ap (cons_option (block_order x)) (filter_before xs ys) ∙ cons_before (block_order x) (filter_map block_order xs) (filter_map block_order ys)

pub refused : (n m : ℕ) (before after : List (List ℕ)) (line : List ℕ) → is_utf8 line ≡ false → m ≡ n + length before + 1
    → orders_after n (before ++ (line ∷ after)) ≡ orders_after n before ++ (record { number = m; order = Bad } ∷ orders_after m after)
unfolding orders_after
refused n m before after line h is =
    let other = not_of_body line h in
    let bad : order_of line [] ≡ Bad = no_order line [] h in
    ap (filter_map block_order) (blocks_before line other n m before after (takes_none line h) is)
    ∙ filter_before (blocks_by takes_body n before) (alone line other m ∷ blocks_by takes_body m after)
    ∙ ap (λ (os : List Numbered). filter_map block_order (blocks_by takes_body n before) ++ os)
    (kept (is_passed_over line) (record { number = m; order = order_of line [] }) (filter_map block_order (blocks_by takes_body m after)) (not_passed line h)
    ∙ ap (λ o. (record { number = m; order = o }) ∷ filter_map block_order (blocks_by takes_body m after)) bad)
