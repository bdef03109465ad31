-- The sign that a text begins with is the longest one.
use Rattle.std.proofs.Common.{◌≡◌, ℕ, ◌≤◌, List, [], ◌∷◌, Option, Some, None, Result, Ok, Err, Bool, true, false, length, take, refl, ap, sym, ◌∙◌, subst, arith, inl, inr}
use Rattle.std.specs.Prelude.{◌⊎◌, ◌==◌, if◌then◌else◌}
use Rattle.std.proofs.lemmas.Bool.Decides.{nat_tests}
use Rattle.pr_ast.specs.declared.lex.token.Sign.{Sign}
use Rattle.pr_ast.specs.declared.lex.token.Sign.TheVariants.{LeftBrace, RightBrace, LeftParen, RightParen, LeftBracket, RightBracket, Comma, Colon, Assign, NotEqual, Like, NotLike, Equal, Less, LessEqual, Greater, GreaterEqual, Plus, Minus, Star, Slash, Percent}
use Rattle.pr_ast.specs.SignAt.{two_byte_sign, one_byte_sign, mark_sign, bracket_sign, arithmetic_sign, or_else, longer_sign, shorter_sign, longest_sign, sign_at}
use Rattle.pr_ast.specs.Signs.{sign_text, BeginsWithSign, IsLongestSign}

pub is_byte : (a k : ℕ) → (a == k) ≡ true → a ≡ k
is_byte a k h = grind (arith, nat_tests)

branch_by : (x : Bool) (X Y : Option Sign) (s : Sign) → (if x then X else Y) ≡ Some s → ((x ≡ true) × (X ≡ Some s)) ⊎ (Y ≡ Some s)
branch_by true X Y s e = inl (refl, e)
branch_by false X Y s e = inr e

branch : (a k : ℕ) (X Y : Option Sign) (s : Sign) → (if a == k then X else Y) ≡ Some s → ((a ≡ k) × (X ≡ Some s)) ⊎ (Y ≡ Some s)
branch a k X Y s e = elim (branch_by (a == k) X Y s e) [ inl x ↦ inl (is_byte a k x.0, x.1) | inr y ↦ inr y ]

same_some : (t s : Sign) → Some t ≡ Some s → t ≡ s
same_some t s e = cc

none_is : {A : Type 0} (s : Sign) → None ≡ Some s → A
none_is s e = absurd (cc)

-- a sign of one byte, from its test
alone : (a k : ℕ) (t s : Sign) → a ≡ k → sign_text t ≡ k ∷ [] → Some t ≡ Some s → sign_text s ≡ a ∷ []
alone a k t s e h i = ap sign_text (sym (same_some t s i)) ∙ (h ∙ ap (λ x. x ∷ []) (sym e))

pair : (a b k j : ℕ) (t s : Sign) → a ≡ k → b ≡ j → sign_text t ≡ k ∷ j ∷ [] → Some t ≡ Some s → sign_text s ≡ a ∷ b ∷ []
pair a b k j t s e f h i = ap sign_text (sym (same_some t s i)) ∙ (h ∙ (ap (λ x. x ∷ j ∷ []) (sym e) ∙ ap (λ x. a ∷ x ∷ []) (sym f)))

mark_text : (a : ℕ) (s : Sign) → mark_sign a ≡ Some s → sign_text s ≡ a ∷ []
mark_text a s e = elim (branch a 44 _ _ s e) [ inl x0 ↦ alone a 44 Comma s x0.0 refl x0.1 | inr y0 ↦ elim (branch a 58 _ _ s y0) [ inl x1 ↦ alone a 58 Colon s x1.0 refl x1.1 | inr y1 ↦ elim (branch a 61 _ _ s y1) [ inl x2 ↦ alone a 61 Assign s x2.0 refl x2.1 | inr y2 ↦ elim (branch a 60 _ _ s y2) [ inl x3 ↦ alone a 60 Less s x3.0 refl x3.1 | inr y3 ↦ elim (branch a 62 _ _ s y3) [ inl x4 ↦ alone a 62 Greater s x4.0 refl x4.1 | inr y4 ↦ none_is s y4 ] ] ] ] ]

bracket_text : (a : ℕ) (s : Sign) → bracket_sign a ≡ Some s → sign_text s ≡ a ∷ []
bracket_text a s e = elim (branch a 123 _ _ s e) [ inl x0 ↦ alone a 123 LeftBrace s x0.0 refl x0.1 | inr y0 ↦ elim (branch a 125 _ _ s y0) [ inl x1 ↦ alone a 125 RightBrace s x1.0 refl x1.1 | inr y1 ↦ elim (branch a 40 _ _ s y1) [ inl x2 ↦ alone a 40 LeftParen s x2.0 refl x2.1 | inr y2 ↦ elim (branch a 41 _ _ s y2) [ inl x3 ↦ alone a 41 RightParen s x3.0 refl x3.1 | inr y3 ↦ elim (branch a 91 _ _ s y3) [ inl x4 ↦ alone a 91 LeftBracket s x4.0 refl x4.1 | inr y4 ↦ elim (branch a 93 _ _ s y4) [ inl x5 ↦ alone a 93 RightBracket s x5.0 refl x5.1 | inr y5 ↦ none_is s y5 ] ] ] ] ] ]

arithmetic_text : (a : ℕ) (s : Sign) → arithmetic_sign a ≡ Some s → sign_text s ≡ a ∷ []
arithmetic_text a s e = elim (branch a 43 _ _ s e) [ inl x0 ↦ alone a 43 Plus s x0.0 refl x0.1 | inr y0 ↦ elim (branch a 45 _ _ s y0) [ inl x1 ↦ alone a 45 Minus s x1.0 refl x1.1 | inr y1 ↦ elim (branch a 42 _ _ s y1) [ inl x2 ↦ alone a 42 Star s x2.0 refl x2.1 | inr y2 ↦ elim (branch a 47 _ _ s y2) [ inl x3 ↦ alone a 47 Slash s x3.0 refl x3.1 | inr y3 ↦ elim (branch a 37 _ _ s y3) [ inl x4 ↦ alone a 37 Percent s x4.0 refl x4.1 | inr y4 ↦ none_is s y4 ] ] ] ] ]

either_sign : (o p : Option Sign) (s : Sign) → or_else o p ≡ Some s → (o ≡ Some s) ⊎ (p ≡ Some s)
either_sign None p s e = inr e
either_sign (Some t) p s e = inl e

one_text : (a : ℕ) (s : Sign) → one_byte_sign a ≡ Some s → sign_text s ≡ a ∷ []
one_text a s e = elim (either_sign (mark_sign a) _ s e) [
  | inl x ↦ mark_text a s x
  | inr y ↦ elim (either_sign (bracket_sign a) _ s y) [ inl x ↦ bracket_text a s x | inr z ↦ arithmetic_text a s z ]
]

two_text : (a b : ℕ) (s : Sign) → two_byte_sign a b ≡ Some s → sign_text s ≡ a ∷ b ∷ []
two_text a b s e = elim (branch a 33 _ _ s e) [
  | inl x ↦ elim (branch b 61 _ _ s x.1) [
    | inl u ↦ pair a b 33 61 NotEqual s x.0 u.0 refl u.1
    | inr v ↦ elim (branch b 126 _ _ s v) [ inl u ↦ pair a b 33 126 NotLike s x.0 u.0 refl u.1 | inr w ↦ none_is s w ]
  ]
  | inr y ↦ elim (branch a 61 _ _ s y) [
    | inl x ↦ elim (branch b 61 _ _ s x.1) [
      | inl u ↦ pair a b 61 61 Equal s x.0 u.0 refl u.1
      | inr v ↦ elim (branch b 126 _ _ s v) [ inl u ↦ pair a b 61 126 Like s x.0 u.0 refl u.1 | inr w ↦ none_is s w ]
    ]
    | inr z ↦ elim (branch a 60 _ _ s z) [
      | inl x ↦ elim (branch b 61 _ _ s x.1) [ inl u ↦ pair a b 60 61 LessEqual s x.0 u.0 refl u.1 | inr w ↦ none_is s w ]
      | inr t ↦ elim (branch a 62 _ _ s t) [
        | inl x ↦ elim (branch b 61 _ _ s x.1) [ inl u ↦ pair a b 62 61 GreaterEqual s x.0 u.0 refl u.1 | inr w ↦ none_is s w ]
        | inr w ↦ none_is s w
      ]
    ]
  ]
]

-- each sign is one that the tests find
found_two : (a b : ℕ) (s : Sign) → a ∷ b ∷ [] ≡ sign_text s → two_byte_sign a b ≡ Some s
found_two a b LeftBrace e = cc
found_two a b RightBrace e = cc
found_two a b LeftParen e = cc
found_two a b RightParen e = cc
found_two a b LeftBracket e = cc
found_two a b RightBracket e = cc
found_two a b Comma e = cc
found_two a b Colon e = cc
found_two a b Assign e = cc
found_two a b NotEqual e = let x : a ≡ 33 = cc in let y : b ≡ 61 = cc in rw (x, y) refl
found_two a b Like e = let x : a ≡ 61 = cc in let y : b ≡ 126 = cc in rw (x, y) refl
found_two a b NotLike e = let x : a ≡ 33 = cc in let y : b ≡ 126 = cc in rw (x, y) refl
found_two a b Equal e = let x : a ≡ 61 = cc in let y : b ≡ 61 = cc in rw (x, y) refl
found_two a b Less e = cc
found_two a b LessEqual e = let x : a ≡ 60 = cc in let y : b ≡ 61 = cc in rw (x, y) refl
found_two a b Greater e = cc
found_two a b GreaterEqual e = let x : a ≡ 62 = cc in let y : b ≡ 61 = cc in rw (x, y) refl
found_two a b Plus e = cc
found_two a b Minus e = cc
found_two a b Star e = cc
found_two a b Slash e = cc
found_two a b Percent e = cc

found_one : (a : ℕ) (s : Sign) → a ∷ [] ≡ sign_text s → one_byte_sign a ≡ Some s
found_one a LeftBrace e = let x : a ≡ 123 = cc in rw x refl
found_one a RightBrace e = let x : a ≡ 125 = cc in rw x refl
found_one a LeftParen e = let x : a ≡ 40 = cc in rw x refl
found_one a RightParen e = let x : a ≡ 41 = cc in rw x refl
found_one a LeftBracket e = let x : a ≡ 91 = cc in rw x refl
found_one a RightBracket e = let x : a ≡ 93 = cc in rw x refl
found_one a Comma e = let x : a ≡ 44 = cc in rw x refl
found_one a Colon e = let x : a ≡ 58 = cc in rw x refl
found_one a Assign e = let x : a ≡ 61 = cc in rw x refl
found_one a NotEqual e = cc
found_one a Like e = cc
found_one a NotLike e = cc
found_one a Equal e = cc
found_one a Less e = let x : a ≡ 60 = cc in rw x refl
found_one a LessEqual e = cc
found_one a Greater e = let x : a ≡ 62 = cc in rw x refl
found_one a GreaterEqual e = cc
found_one a Plus e = let x : a ≡ 43 = cc in rw x refl
found_one a Minus e = let x : a ≡ 45 = cc in rw x refl
found_one a Star e = let x : a ≡ 42 = cc in rw x refl
found_one a Slash e = let x : a ≡ 47 = cc in rw x refl
found_one a Percent e = let x : a ≡ 37 = cc in rw x refl

-- a sign has one byte or two
pub data Size (s : Sign) : Type 0 where
  one : length (sign_text s) ≡ 1 → Size s
  two : length (sign_text s) ≡ 2 → Size s

size : (s : Sign) → Size s
size LeftBrace = one refl
size RightBrace = one refl
size LeftParen = one refl
size RightParen = one refl
size LeftBracket = one refl
size RightBracket = one refl
size Comma = one refl
size Colon = one refl
size Assign = one refl
size NotEqual = two refl
size Like = two refl
size NotLike = two refl
size Equal = two refl
size Less = one refl
size LessEqual = two refl
size Greater = one refl
size GreaterEqual = two refl
size Plus = one refl
size Minus = one refl
size Star = one refl
size Slash = one refl
size Percent = one refl

at_most_two : (s : Sign) → length (sign_text s) ≤ 2
at_most_two s = elim (size s) [ one e ↦ omega (arith, e) | two e ↦ omega (arith, e) ]

no_empty : (s : Sign) → [] ≡ sign_text s → ⊥
no_empty s e = elim (size s) [ one h ↦ let k : 0 ≡ length (sign_text s) = ap length e in omega (arith, h, k) | two h ↦ let k : 0 ≡ length (sign_text s) = ap length e in omega (arith, h, k) ]

first_of : (a n : ℕ) (rest : List ℕ) → n ≡ 1 → take n (a ∷ rest) ≡ a ∷ []
first_of a n rest e = rw e refl

first_two : (a b n : ℕ) (rest : List ℕ) → n ≡ 2 → take n (a ∷ b ∷ rest) ≡ a ∷ b ∷ []
first_two a b n rest e = rw e refl

only_one : (a n : ℕ) → n ≡ 2 → take n (a ∷ []) ≡ a ∷ []
only_one a n e = rw e refl

-- what begins a text is found by the tests
begins_one : (a : ℕ) (rest : List ℕ) (s : Sign) → length (sign_text s) ≡ 1 → BeginsWithSign (a ∷ rest) s → one_byte_sign a ≡ Some s
begins_one a rest s e h = found_one a s (sym (first_of a _ rest e) ∙ h)

begins_two : (a : ℕ) (rest : List ℕ) (s : Sign) → length (sign_text s) ≡ 2 → BeginsWithSign (a ∷ rest) s → longer_sign a rest ≡ Some s
begins_two a (b ∷ rest) s e h = found_two a b s (sym (first_two a b _ rest e) ∙ h)
begins_two a [] s e h = let k : 1 ≡ length (sign_text s) = ap length (sym (only_one a _ e) ∙ h) in absurd (omega (arith, e, k))

long_sign : (a b : ℕ) (rest : List ℕ) (s : Sign) → two_byte_sign a b ≡ Some s → IsLongestSign (a ∷ b ∷ rest) s
long_sign a b rest s e = let t = two_text a b s e in let n : length (sign_text s) ≡ 2 = ap length t in record {
  begins = first_two a b _ rest n ∙ sym t;
  longest = λ other h. let k = at_most_two other in omega (arith, k, n);
}

short_sign : (a : ℕ) (rest : List ℕ) (s : Sign) → longer_sign a rest ≡ None → one_byte_sign a ≡ Some s → IsLongestSign (a ∷ rest) s
short_sign a rest s none e = let t = one_text a s e in let n : length (sign_text s) ≡ 1 = ap length t in record {
  begins = first_of a _ rest n ∙ sym t;
  longest = λ other h. elim (size other) [ one k ↦ omega (arith, k, n) | two k ↦ none_is other (sym none ∙ begins_two a rest other k h) ];
}

same_sign : (s t : Sign) (n m : ℕ) → ◌≡◌ {A = Result (Sign × ℕ) ℕ} (Ok (s, n)) (Ok (t, m)) → (s ≡ t) × (n ≡ m)
same_sign s t n m e = let p : ◌≡◌ {A = Sign × ℕ} (s, n) (t, m) = cc in (ap (λ x. x.0) p, ap (λ x. x.1) p)

abbrev IsTaken : List ℕ → Sign → ℕ → Type 0
IsTaken text s n = (n ≡ length (sign_text s)) × IsLongestSign text s

by_shorter : (a : ℕ) (rest : List ℕ) (o : Option Sign) (s : Sign) (n : ℕ) → longer_sign a rest ≡ None → one_byte_sign a ≡ o → shorter_sign a o ≡ Ok (s, n) → IsTaken (a ∷ rest) s n
by_shorter a rest (Some t) s n none e h =
    let p = same_sign t s 1 n h in
    let k = subst (λ x. one_byte_sign a ≡ Some x) p.0 e in
    (sym p.1 ∙ sym (ap length (one_text a s k)), short_sign a rest s none k)
by_shorter a rest None s n none e h = cc

by_longer : (a b : ℕ) (rest : List ℕ) (o : Option Sign) (s : Sign) (n : ℕ) → two_byte_sign a b ≡ o → longest_sign a o ≡ Ok (s, n) → IsTaken (a ∷ b ∷ rest) s n
by_longer a b rest (Some t) s n e h =
    let p = same_sign t s 2 n h in
    let k = subst (λ x. two_byte_sign a b ≡ Some x) p.0 e in
    (sym p.1 ∙ sym (ap length (two_text a b s k)), long_sign a b rest s k)
by_longer a b rest None s n e h = by_shorter a (b ∷ rest) (one_byte_sign a) s n e refl h

pub taken : (text : List ℕ) (s : Sign) (n : ℕ) → sign_at text ≡ Ok (s, n) → IsTaken text s n
taken [] s n e = cc
taken (a ∷ []) s n e = by_shorter a [] (one_byte_sign a) s n refl refl e
taken (a ∷ b ∷ rest) s n e = by_longer a b rest (two_byte_sign a b) s n refl e

bad_shorter : (a place : ℕ) (o : Option Sign) → shorter_sign a o ≡ Err place → o ≡ None
bad_shorter a place (Some t) e = cc
bad_shorter a place None e = refl

bad_longer : (a place : ℕ) (o : Option Sign) → longest_sign a o ≡ Err place → (o ≡ None) × (one_byte_sign a ≡ None)
bad_longer a place (Some t) e = cc
bad_longer a place None e = (refl, bad_shorter a place (one_byte_sign a) e)

nothing_taken : (n k : ℕ) → n ≡ k → take {A = ℕ} k [] ≡ [] → take {A = ℕ} n [] ≡ []
nothing_taken n k e h = rw e h

pub not_taken : (text : List ℕ) (place : ℕ) → sign_at text ≡ Err place → (other : Sign) → BeginsWithSign text other → ⊥
not_taken [] place e other h = elim (size other) [ one k ↦ no_empty other (sym (nothing_taken _ 1 k refl) ∙ h) | two k ↦ no_empty other (sym (nothing_taken _ 2 k refl) ∙ h) ]
not_taken (a ∷ rest) place e other h =
    let b = bad_longer a place (longer_sign a rest) e in
    elim (size other) [ one k ↦ none_is other (sym b.1 ∙ begins_one a rest other k h) | two k ↦ none_is other (sym b.0 ∙ begins_two a rest other k h) ]
