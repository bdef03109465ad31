-- The orders of lines, block by block.
use Rattle.std.proofs.Common.{◌≡◌, ℕ, ◌+◌, ◌≤◌, Bool, true, false, not, ◌&&◌, ◌||◌, eqb, cond, List, [], ◌∷◌, ◌++◌, Some, None, refl, sym, ap, ◌∙◌, subst, length, zero, suc, take, arith, eqb-true}
use Rattle.std.specs.Prelude.{filter_map, is_some, codes, reverse, ◌-◌}
use Rattle.std.specs.List.{cons_option, list_all, position_or_len}
use Rattle.std.specs.Str.{bytes_eq, is_utf8}
use Rattle.pr_words.specs.Fields.{first_field, after_field, is_field_byte}
use Rattle.pr_words.specs.Bytes.{is_blank}
use Rattle.pr_text.specs.declared.script.order.Numbered.{Numbered}
use Rattle.pr_text.specs.Orders.{Block, body_at, behind_body, with_line, blocks_by, block_order, order_of, orders_after}
use Rattle.pr_text.specs.Script.{is_passed_over, occasion_of, takes_by, takes_body, is_body_line, body_of}
use Rattle.pr_text.specs.private.Started.{ends_body}

pub both_left : (a b : Bool) → (a && b) ≡ true → a ≡ true
both_left true b h = refl
both_left false b h = h

pub both_right : (a b : Bool) → (a && b) ≡ true → b ≡ true
both_right true b h = h
both_right false b h = cc

is_false : (b : Bool) → not b ≡ true → b ≡ false
is_false true h = cc
is_false false h = refl

-- Which lines take no body

-- whether the front of a line is a scrape
abbrev scrapes : ℕ → List ℕ → Bool
scrapes n line = takes_by (first_field (take n line)) (after_field (take n line))

one_more : (n : ℕ) → 1 + n ≡ suc n
one_more n = omega arith

some_bytes : (n : ℕ) → eqb (suc n) 0 ≡ false
some_bytes n = grind arith

-- a field that begins otherwise is another word
other_word : (b n : ℕ) (bytes : List ℕ) (about : Bool) → eqb b 115 ≡ false → (bytes_eq (take (1 + n) (b ∷ bytes)) (codes "scrape") && about) ≡ false
other_word b n bytes about differs =
    subst (λ (k : ℕ). (bytes_eq (take k (b ∷ bytes)) (codes "scrape") && about) ≡ false) (sym (one_more n)) (rw differs refl)

sign_alone : (n : ℕ) (bytes : List ℕ) → scrapes n (35 ∷ bytes) ≡ false
sign_alone zero bytes = refl
sign_alone (suc n) bytes =
    other_word 35 (position_or_len is_blank (take n bytes)) (take n bytes) (is_some (occasion_of (after_field (35 ∷ take n bytes)))) refl

bar_alone : (n : ℕ) (bytes : List ℕ) → scrapes n (124 ∷ bytes) ≡ false
bar_alone zero bytes = refl
bar_alone (suc n) bytes =
    other_word 124 (position_or_len is_blank (take n bytes)) (take n bytes) (is_some (occasion_of (after_field (124 ∷ take n bytes)))) refl

passed_by : (n b : ℕ) (bytes : List ℕ) (text : Bool) → (eqb (length (take n (b ∷ bytes))) 0 || (eqb b 35 && text)) ≡ true → scrapes n (b ∷ bytes) ≡ false
passed_by zero b bytes text h = refl
passed_by (suc n) b bytes text h =
    let sign : (eqb b 35 && text) ≡ true = subst (λ (t : Bool). (t || (eqb b 35 && text)) ≡ true) (some_bytes (length (take n bytes))) h in
    let is : b ≡ 35 = eqb-true b 35 (both_left (eqb b 35) text sign) in
    subst (λ (x : ℕ). scrapes (suc n) (x ∷ bytes) ≡ false) (sym is) (sign_alone (suc n) bytes)

pub passed_takes_none : (line : List ℕ) → is_passed_over line ≡ true → takes_body line ≡ false
unfolding takes_body
passed_takes_none [] h = refl
passed_takes_none (b ∷ bytes) h =
    passed_by (length (b ∷ bytes) - position_or_len is_field_byte (reverse (b ∷ bytes))) b bytes (is_utf8 (b ∷ bytes)) h

bar_by : (n b : ℕ) (bytes : List ℕ) (text : Bool) → (eqb b 124 && text) ≡ true → scrapes n (b ∷ bytes) ≡ false
bar_by n b bytes text h =
    let is : b ≡ 124 = eqb-true b 124 (both_left (eqb b 124) text h) in
    subst (λ (x : ℕ). scrapes n (x ∷ bytes) ≡ false) (sym is) (bar_alone n bytes)

pub body_takes_none : (line : List ℕ) → is_body_line line ≡ true → takes_body line ≡ false
unfolding takes_body
body_takes_none [] h = refl
body_takes_none (b ∷ bytes) h = bar_by (length (b ∷ bytes) - position_or_len is_field_byte (reverse (b ∷ bytes))) b bytes (is_utf8 bytes) h

-- Line by line

-- the order of a line with body lines
abbrev pub numbered : ℕ → List ℕ → List (List ℕ) → Numbered
numbered n line body = record { number = n; order = order_of line (body_of body) }

pick : (b : Bool) (o : Numbered) (os : List Numbered) → cons_option (cond b None (Some o)) os ≡ cond b os (o ∷ os)
pick true o os = refl
pick false o os = refl

pub orders_none : (n : ℕ) → orders_after n [] ≡ []
unfolding orders_after
orders_none n = refl

orders_alone : (n : ℕ) (line : List ℕ) (lines : List (List ℕ)) → takes_body line ≡ false
    → orders_after n (line ∷ lines) ≡ cond (is_passed_over line) (orders_after (n + 1) lines) (numbered (n + 1) line [] ∷ orders_after (n + 1) lines)
unfolding orders_after
orders_alone n line lines none =
    ap (λ (t : Bool). filter_map block_order (with_line t (n + 1) line (blocks_by takes_body (n + 1) lines))) none
    ∙ pick (is_passed_over line) (numbered (n + 1) line []) (filter_map block_order (blocks_by takes_body (n + 1) lines))

-- a line that asks for nothing
pub orders_pass : (n : ℕ) (line : List ℕ) (lines : List (List ℕ)) → is_passed_over line ≡ true
    → orders_after n (line ∷ lines) ≡ orders_after (n + 1) lines
orders_pass n line lines h =
    orders_alone n line lines (passed_takes_none line h)
    ∙ ap (λ (b : Bool). cond b (orders_after (n + 1) lines) (numbered (n + 1) line [] ∷ orders_after (n + 1) lines)) h

-- a line that is an order by itself
pub orders_take : (n : ℕ) (line : List ℕ) (lines : List (List ℕ)) → takes_body line ≡ false → is_passed_over line ≡ false
    → orders_after n (line ∷ lines) ≡ numbered (n + 1) line [] ∷ orders_after (n + 1) lines
orders_take n line lines none h =
    orders_alone n line lines none
    ∙ ap (λ (b : Bool). cond b (orders_after (n + 1) lines) (numbered (n + 1) line [] ∷ orders_after (n + 1) lines)) h

-- Bodies

first_ends : (t : Bool) (n : ℕ) (line : List ℕ) (blocks : List Block) → is_body_line line ≡ false
    → (body_at (with_line t n line blocks) ≡ []) × (behind_body (with_line t n line blocks) ≡ with_line t n line blocks)
first_ends true n line blocks other = (
  ap (λ (b : Bool). cond b (line ∷ body_at (behind_body blocks)) []) other,
  ap (λ (b : Bool). cond b (behind_body (behind_body blocks)) (record { number = n; line = line; body = body_at blocks } ∷ behind_body blocks)) other,
)
first_ends false n line blocks other = (
  ap (λ (b : Bool). cond b (line ∷ body_at blocks) []) other,
  ap (λ (b : Bool). cond b (behind_body blocks) (record { number = n; line = line; body = [] } ∷ blocks)) other,
)

ended : (n : ℕ) (rest : List (List ℕ)) → ends_body rest ≡ true
    → (body_at (blocks_by takes_body n rest) ≡ []) × (behind_body (blocks_by takes_body n rest) ≡ blocks_by takes_body n rest)
ended n [] h = (refl, refl)
ended n (line ∷ lines) h = first_ends (takes_body line) (n + 1) line (blocks_by takes_body (n + 1) lines) (is_false (is_body_line line) h)

first_goes_on : (t : Bool) (n : ℕ) (line : List ℕ) (blocks : List Block) → t ≡ false → is_body_line line ≡ true
    → (body_at (with_line t n line blocks) ≡ line ∷ body_at blocks) × (behind_body (with_line t n line blocks) ≡ behind_body blocks)
first_goes_on true n line blocks none is = absurd (cc)
first_goes_on false n line blocks none is = (
  ap (λ (b : Bool). cond b (line ∷ body_at blocks) []) is,
  ap (λ (b : Bool). cond b (behind_body blocks) (record { number = n; line = line; body = [] } ∷ blocks)) is,
)

-- body lines, and lines that end the body
bodies : (n m : ℕ) (body rest : List (List ℕ)) → list_all is_body_line body ≡ true → ends_body rest ≡ true → m ≡ n + length body
    → (body_at (blocks_by takes_body n (body ++ rest)) ≡ body) × (behind_body (blocks_by takes_body n (body ++ rest)) ≡ blocks_by takes_body m rest)
bodies n m [] rest all ends is =
    let same : m ≡ n = omega arith in
    let e = ended n rest ends in
    (e.0, e.1 ∙ ap (λ (k : ℕ). blocks_by takes_body k rest) (sym same))
bodies n m (line ∷ body) rest all ends is =
    let one : is_body_line line ≡ true = both_left (is_body_line line) (list_all is_body_line body) all in
    let here = first_goes_on (takes_body line) (n + 1) line (blocks_by takes_body (n + 1) (body ++ rest)) (body_takes_none line one) one in
    let next : m ≡ n + 1 + length body = omega arith in
    let on = bodies (n + 1) m body rest (both_right (is_body_line line) (list_all is_body_line body) all) ends next in
    (here.0 ∙ ap (λ (l : List (List ℕ)). line ∷ l) on.0, here.1 ∙ on.1)

-- a line that takes a body
pub orders_body : (n m : ℕ) (line : List ℕ) (body rest : List (List ℕ)) → takes_body line ≡ true → is_passed_over line ≡ false
    → list_all is_body_line body ≡ true → ends_body rest ≡ true → m ≡ n + 1 + length body
    → orders_after n (line ∷ (body ++ rest)) ≡ numbered (n + 1) line body ∷ orders_after m rest
unfolding orders_after
orders_body n m line body rest takes over all ends is =
    let on = bodies (n + 1) m body rest all ends is in
    ap (λ (t : Bool). filter_map block_order (with_line t (n + 1) line (blocks_by takes_body (n + 1) (body ++ rest)))) takes
    ∙ pick (is_passed_over line) (numbered (n + 1) line (body_at (blocks_by takes_body (n + 1) (body ++ rest))))
    (filter_map block_order (behind_body (blocks_by takes_body (n + 1) (body ++ rest))))
    ∙ ap (λ (b : Bool). cond b (filter_map block_order (behind_body (blocks_by takes_body (n + 1) (body ++ rest))))
    (numbered (n + 1) line (body_at (blocks_by takes_body (n + 1) (body ++ rest))) ∷ filter_map block_order (behind_body (blocks_by takes_body (n + 1) (body ++ rest))))) over
    ∙ ap (λ (l : List (List ℕ)). numbered (n + 1) line l ∷ filter_map block_order (behind_body (blocks_by takes_body (n + 1) (body ++ rest)))) on.0
    ∙ ap (λ (bs : List Block). numbered (n + 1) line body ∷ filter_map block_order bs) on.1

-- More lines hold no fewer orders.

abbrev count : List Block → ℕ
count blocks = length (filter_map block_order blocks)

count_pick : (b : Bool) (o : Numbered) (os : List Numbered) → length (cons_option (cond b None (Some o)) os) ≡ cond b 0 1 + length os
count_pick true o os = omega arith
count_pick false o os = omega arith

count_cons : (b : Block) (blocks : List Block) → count (b ∷ blocks) ≡ cond (is_passed_over b.line) 0 1 + count blocks
count_cons b blocks =
    count_pick (is_passed_over b.line) (record { number = b.number; order = order_of b.line (body_of b.body) }) (filter_map block_order blocks)

again_by : (t : Bool) (b : Block) (blocks : List Block) → is_body_line b.line ≡ t → behind_body (behind_body blocks) ≡ behind_body blocks
    → behind_body (cond t (behind_body blocks) (b ∷ blocks)) ≡ cond t (behind_body blocks) (b ∷ blocks)
again_by true b blocks is on = on
again_by false b blocks is on = ap (λ (t : Bool). cond t (behind_body blocks) (b ∷ blocks)) is

behind_again : (blocks : List Block) → behind_body (behind_body blocks) ≡ behind_body blocks
behind_again [] = refl
behind_again (b ∷ blocks) = again_by (is_body_line b.line) b blocks refl (behind_again blocks)

-- how many orders begin with a line
abbrev one_at : List ℕ → ℕ
one_at line = cond (is_passed_over line) 0 1

behind_more : (t : Bool) (b c : Block) (xs ys : List Block) → b.line ≡ c.line → count xs ≤ count ys → count (behind_body xs) ≤ count (behind_body ys)
    → count (cond t (behind_body xs) (b ∷ xs)) ≤ count (cond t (behind_body ys) (c ∷ ys))
behind_more true b c xs ys same le behind = behind
behind_more false b c xs ys same le behind =
    let one : one_at b.line ≡ one_at c.line = ap one_at same in
    omega (arith, count_cons b xs, count_cons c ys, one)

line_more : (t : Bool) (n : ℕ) (line : List ℕ) (xs ys : List Block) → count xs ≤ count ys → count (behind_body xs) ≤ count (behind_body ys)
    → (count (with_line t n line xs) ≤ count (with_line t n line ys)) × (count (behind_body (with_line t n line xs)) ≤ count (behind_body (with_line t n line ys)))
line_more true n line xs ys le behind =
    let b : Block = record { number = n; line = line; body = body_at xs } in
    let c : Block = record { number = n; line = line; body = body_at ys } in
    let again : count (behind_body (behind_body xs)) ≤ count (behind_body (behind_body ys)) =
    omega (arith, behind, ap count (behind_again xs), ap count (behind_again ys)) in (
      omega (arith, count_cons b (behind_body xs), count_cons c (behind_body ys), behind),
      behind_more (is_body_line line) b c (behind_body xs) (behind_body ys) refl behind again,
    )
line_more false n line xs ys le behind =
    let b : Block = record { number = n; line = line; body = [] } in (
      omega (arith, count_cons b xs, count_cons b ys, le),
      behind_more (is_body_line line) b b xs ys refl le behind,
    )

blocks_more : (n : ℕ) (xs ys : List (List ℕ))
    → (count (blocks_by takes_body n xs) ≤ count (blocks_by takes_body n (xs ++ ys)))
    × (count (behind_body (blocks_by takes_body n xs)) ≤ count (behind_body (blocks_by takes_body n (xs ++ ys))))
blocks_more n [] ys = (omega arith, omega arith)
blocks_more n (line ∷ xs) ys =
    let on = blocks_more (n + 1) xs ys in
    line_more (takes_body line) (n + 1) line (blocks_by takes_body (n + 1) xs) (blocks_by takes_body (n + 1) (xs ++ ys)) on.0 on.1

pub orders_more : (n : ℕ) (xs ys : List (List ℕ)) → length (orders_after n xs) ≤ length (orders_after n (xs ++ ys))
unfolding orders_after
orders_more n xs ys = (blocks_more n xs ys).0
