-- A carriage return before each line feed changes neither the lines that kinds of faults look at
-- nor the last line.
use Rattle.std.proofs.Common.{◌≡◌, ℕ, zero, suc, ◌+◌, ◌-◌, ◌<◌, ◌≤◌, ◌==◌, Bool, true, false, cond, if◌then◌else◌, List, [], ◌∷◌, Option, Some, None, length, get_or, take, refl, sym, subst, ap, ◌∙◌, arith, length-take, take-take}
use Prim.Native.Char.{code}
use Rattle.std.specs.Prelude.{slice_get, count_by}
use Rattle.std.specs.List.{slice_split, onto_first, list_all}
use Rattle.std.specs.Str.{is_utf8}
use Rattle.std.proofs.lemmas.List.Sums.{sum_by-cons}
use Rattle.pr_words.specs.Lines.{is_feed, without_return, ended, text_lines}
use Rattle.pr_words.specs.Bytes.{is_blank}
use Rattle.pr_yaml.specs.Bytes.{without_mark}
use Rattle.pr_yaml.specs.private.YamlScanWorked.{has_return, with_returns}
use Rattle.pr_yaml.specs.private.Rising.{StandsIn, AllStandIn}
use Rattle.pr_yaml.specs.Scan.{scanned_places}
use Rattle.pr_yaml.specs.declared.yaml_scan.token.Token.{Token}
use Rattle.pr_yaml.specs.declared.yaml_scan.fault.BadPlace.{BadPlace}
use Rattle.pr_yaml.proofs.ScanLoop.{seen_whole}
use Rattle.pr_yaml.proofs.ScanLaws.{is_function}
use Rattle.pr_yaml.proofs.TokenPlaces.{tokens_stand}
use Rattle.pr_yaml.proofs.Returns.{same_lines, same_places, mark_returns, return_mark}
use Rattle.pr_yaml.specs.Tree.{Tree}
use Rattle.pr_yaml.specs.Grammar.{letters}
use Rattle.pr_yaml.specs.Trees.{levels, stop, tree_in}
use Rattle.pr_yaml.specs.Faults.{from_line, is_first_of_line, token_kind, end_line_of}
use Rattle.pr_yaml.specs.Read.{at_end, at_stop, read_tokens, read_of}

-- the front of a line, as it stands in the text
first_front : (column : ℕ) (text : List ℕ) → column ≤ length (get_or (slice_split is_feed text) 0 []) → take column text ≡ take column (get_or (slice_split is_feed text) 0 [])
first_front column [] h = refl
first_front zero (b ∷ text) h = refl
first_front (suc column) (b ∷ text) h = by_test (is_feed b) (slice_split is_feed text) h (first_front column text) where
  by_test : (x : Bool) (ls : List (List ℕ)) → suc column ≤ length (get_or (cond x ([] ∷ ls) (onto_first b ls)) 0 []) → (column ≤ length (get_or ls 0 []) → take column text ≡ take column (get_or ls 0 [])) →
      b ∷ take column text ≡ take (suc column) (get_or (cond x ([] ∷ ls) (onto_first b ls)) 0 [])
  by_test true ls h again = absurd (omega (arith, h))
  by_test false [] h again = ap (λ l. b ∷ l) (again (omega (arith, h)))
  by_test false (l ∷ ls) h again = ap (λ l. b ∷ l) (again (omega (arith, h)))

split_front : (n column : ℕ) (text : List ℕ) → column ≤ length (get_or (slice_split is_feed text) n []) → take column (from_line n text) ≡ take column (get_or (slice_split is_feed text) n [])
unfolding from_line
split_front zero column text h = first_front column text h
split_front (suc n) column [] h = refl
split_front (suc n) column (b ∷ text) h = by_test (is_feed b) (slice_split is_feed text) h (split_front n column text) (split_front (suc n) column text) where
  by_test : (x : Bool) (ls : List (List ℕ)) → column ≤ length (get_or (cond x ([] ∷ ls) (onto_first b ls)) (suc n) []) →
      (column ≤ length (get_or ls n []) → take column (from_line n text) ≡ take column (get_or ls n [])) →
      (column ≤ length (get_or ls (suc n) []) → take column (from_line (suc n) text) ≡ take column (get_or ls (suc n) [])) →
      take column (if x then from_line n text else from_line (suc n) text) ≡ take column (get_or (cond x ([] ∷ ls) (onto_first b ls)) (suc n) [])
  by_test true ls h below beside = below h
  by_test false [] h below beside = beside h
  by_test false (l ∷ ls) h below beside = beside h

return_front : (column : ℕ) (l : List ℕ) → column ≤ length (without_return l) → (take column (without_return l) ≡ take column l) × (column ≤ length l)
return_front column l h = by_test (get_or l (length l - 1) 0 == code "\r") h where
  by_test : (x : Bool) → column ≤ length (if x then take (length l - 1) l else l) → (take column (if x then take (length l - 1) l else l) ≡ take column l) × (column ≤ length l)
  by_test true h = let size = length-take (length l - 1) l in (take-take column (length l - 1) l (omega (arith, h, size)), omega (arith, h, size))
  by_test false h = (refl, h)

ended_front : (n column : ℕ) (ls : List (List ℕ)) → column ≤ length (get_or (ended ls) n []) → (take column (get_or (ended ls) n []) ≡ take column (get_or ls n [])) × (column ≤ length (get_or ls n []))
ended_front n column [] h = (refl, h)
ended_front n column (l ∷ []) h = (refl, h)
ended_front zero column (l ∷ (m ∷ more)) h = return_front column l h
ended_front (suc n) column (l ∷ (m ∷ more)) h = ended_front n column (m ∷ more) h

line_front : (n column : ℕ) (text : List ℕ) → column ≤ length (get_or (text_lines text) n []) → take column (from_line n text) ≡ take column (get_or (text_lines text) n [])
unfolding text_lines
line_front n column text h =
    let front = ended_front n column (slice_split is_feed text) h in
    split_front n column text front.1 ∙ sym front.0

first_same : (n column : ℕ) (text : List ℕ) → has_return text ≡ false → column ≤ length (get_or (text_lines text) n []) → take column (from_line n (with_returns text)) ≡ take column (from_line n text)
first_same n column text none h =
    let e = same_lines text none in
    line_front n column (with_returns text) (subst (λ ls. column ≤ length (get_or ls n [])) (sym e) h) ∙ (ap (λ ls. take column (get_or ls n [])) e ∙ sym (line_front n column text h))

-- the line of the last byte
abbrev but_last : List ℕ → List ℕ
but_last l = take (length l - 1) l

last_more : (b : ℕ) (l : List ℕ) → 0 < length l → but_last (b ∷ l) ≡ b ∷ but_last l
last_more b [] h = absurd (omega (arith, h))
last_more b (c ∷ l) h = let e : suc (suc (length l)) - 1 ≡ suc (suc (length l) - 1) = omega arith in rw e refl

counted : (b : ℕ) (l : List ℕ) → count_by is_feed (b ∷ l) ≡ cond (is_feed b) 1 0 + count_by is_feed l
counted b l = sum_by-cons (λ x. cond (is_feed x) 1 0) b l

returns_some : (b : ℕ) (l : List ℕ) → 0 < length (with_returns (b ∷ l))
returns_some b l = by_test (is_feed b) where
  by_test : (x : Bool) → 0 < length (if x then code "\r" ∷ (b ∷ with_returns l) else b ∷ with_returns l)
  by_test true = omega arith
  by_test false = omega arith

same_feeds : (text : List ℕ) → count_by is_feed (but_last (with_returns text)) ≡ count_by is_feed (but_last text)
same_feeds [] = refl
same_feeds (b ∷ []) = by_test (is_feed b) where
  by_test : (x : Bool) → count_by is_feed (but_last (if x then code "\r" ∷ (b ∷ []) else b ∷ [])) ≡ 0
  by_test true = refl
  by_test false = refl
same_feeds (b ∷ (c ∷ rest)) = by_test (is_feed b) (same_feeds (c ∷ rest)) where
  here : count_by is_feed (but_last (b ∷ (c ∷ rest))) ≡ cond (is_feed b) 1 0 + count_by is_feed (but_last (c ∷ rest))
  here = ap (count_by is_feed) (last_more b (c ∷ rest) (omega arith)) ∙ counted b (but_last (c ∷ rest))

  there : count_by is_feed (but_last (b ∷ with_returns (c ∷ rest))) ≡ cond (is_feed b) 1 0 + count_by is_feed (but_last (with_returns (c ∷ rest)))
  there = ap (count_by is_feed) (last_more b (with_returns (c ∷ rest)) (returns_some c rest)) ∙ counted b (but_last (with_returns (c ∷ rest)))

  before : count_by is_feed (but_last (code "\r" ∷ (b ∷ with_returns (c ∷ rest)))) ≡ 0 + count_by is_feed (but_last (b ∷ with_returns (c ∷ rest)))
  before = ap (count_by is_feed) (last_more (code "\r") (b ∷ with_returns (c ∷ rest)) (omega arith)) ∙ counted (code "\r") (but_last (b ∷ with_returns (c ∷ rest)))

  by_test : (x : Bool) → count_by is_feed (but_last (with_returns (c ∷ rest))) ≡ count_by is_feed (but_last (c ∷ rest)) →
      count_by is_feed (but_last (if x then code "\r" ∷ (b ∷ with_returns (c ∷ rest)) else b ∷ with_returns (c ∷ rest))) ≡ count_by is_feed (but_last (b ∷ (c ∷ rest)))
  by_test true again = omega (arith, here, there, before, again)
  by_test false again = omega (arith, here, there, again)

same_end_line : (text : List ℕ) → end_line_of (with_returns text) ≡ end_line_of text
unfolding end_line_of
same_end_line text = ap (λ n. 1 + n) (same_feeds text)

-- a token among those that stand in a text
one_stands : (lines : List (List ℕ)) (tokens : List Token) (place : ℕ) (t : Token) → AllStandIn lines tokens → slice_get tokens place ≡ Some t → StandsIn lines t
one_stands lines [] place t h e = absurd cc
one_stands lines (u ∷ more) zero t h e = let same : u ≡ t = cc in subst (StandsIn lines) same h.0
one_stands lines (u ∷ more) (suc place) t h e = one_stands lines more place t h.1 e

module _ (text : List ℕ) (none : has_return text ≡ false) (u : is_utf8 (without_mark text) ≡ true) where
  same_first : (line column : ℕ) → column ≤ length (get_or (text_lines (without_mark text)) (line - 1) []) → is_first_of_line (with_returns text) line column ≡ is_first_of_line text line column
  unfolding is_first_of_line
  same_first line column h = ap (list_all is_blank) (ap (λ w. take column (from_line (line - 1) w)) (mark_returns text) ∙ first_same (line - 1) column (without_mark text) (return_mark text none) h)

  same_kind : (tokens : List Token) (place : ℕ) (t : Token) → StandsIn (text_lines (without_mark text)) t → token_kind (with_returns text) tokens place t ≡ token_kind text tokens place t
  unfolding token_kind
  same_kind tokens place t s = rw (same_first t.line t.column (let h = s.within in omega (arith, h))) refl

  same_at_end : (tokens : List Token) (bad : Option BadPlace) (found : Option Tree) → at_end (with_returns text) tokens bad found ≡ at_end text tokens bad found
  same_at_end tokens (Some bad) found = refl
  same_at_end tokens None (Some tree) = refl
  same_at_end tokens None None = rw (same_end_line text) refl

  same_at_stop : (tokens : List Token) (bad : Option BadPlace) (place : ℕ) (o : Option Token) → ((t : Token) → o ≡ Some t → StandsIn (text_lines (without_mark text)) t) →
      at_stop (with_returns text) tokens bad place o ≡ at_stop text tokens bad place o
  same_at_stop tokens bad place (Some t) h = rw (same_kind tokens place t (h t refl)) refl
  same_at_stop tokens bad place None h = same_at_end tokens bad (tree_in true levels (letters tokens))

  all_stand : AllStandIn (text_lines (without_mark text)) (scanned_places text).0
  all_stand = subst (λ w. AllStandIn (text_lines w) (scanned_places text).0) (seen_whole (without_mark text) u)
      (tokens_stand text (scanned_places text).0 (scanned_places text).1 ((is_function text (scanned_places text).0 (scanned_places text).1).0 refl))

  same_read : (tokens : List Token) (bad : Option BadPlace) → AllStandIn (text_lines (without_mark text)) tokens → read_tokens (with_returns text) tokens bad ≡ read_tokens text tokens bad
  unfolding read_tokens
  same_read tokens bad h =
      let place = stop true levels (letters tokens) in
      same_at_stop tokens bad place (slice_get tokens place) (λ t e. one_stands (text_lines (without_mark text)) tokens place t h e)

  pub same_reading : read_of (with_returns text) ≡ read_of text
  unfolding read_of
  same_reading = ap (λ x. read_tokens (with_returns text) x.0 x.1) (same_places text none u) ∙ same_read (scanned_places text).0 (scanned_places text).1 all_stand
