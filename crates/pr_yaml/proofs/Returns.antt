-- A carriage return before each line feed changes no line.
use Rattle.std.proofs.Common.{◌≡◌, ℕ, zero, suc, ◌-◌, ◌<◌, Bool, true, false, cond, ◌||◌, if◌then◌else◌, List, [], ◌∷◌, ◌++◌, length, get_or, drop, refl, sym, subst, ap, ◌∙◌, arith, length-append, append_assoc, ◌==◌, ◌&&◌, lit<}
use Rattle.std.specs.Str.{IsUtf8, is_utf8}
use Rattle.std.proofs.lemmas.Str.{IsUtf8-append, IsUtf8-from_is_utf8, is_utf8-from_IsUtf8}
use Rattle.std.proofs.lemmas.Bool.Decides.{nat_tests}
use Rattle.pr_words.specs.Lines.{is_feed, without_return, ended, text_lines}
use Rattle.pr_words.proofs.StringUtf8.{before_byte, after_byte, byte_text}
use Prim.Native.Char.{code}
use Rattle.std.specs.List.{slice_split, onto_first}
use Rattle.std.proofs.Math.Seq.{take-append_seam, get_or-append_seam}
use Rattle.pr_yaml.specs.private.YamlScanWorked.{tokens_of, is_return, has_return, with_returns}
use Rattle.pr_yaml.specs.Bytes.{marked, without_mark, legible}
use Rattle.pr_yaml.specs.Scan.{scanned_places}
use Rattle.pr_yaml.proofs.Shorter.{equal_of}
use Rattle.pr_yaml.proofs.QuotedLines.{first_true, second_true}
use Rattle.pr_yaml.proofs.ScanLoop.{seen_whole}
use Rattle.pr_yaml.proofs.Lines.{split_some, ended_some}

-- the lines but the last one with a carriage return at their end
abbrev returned : List (List ℕ) → List (List ℕ)
returned [] = []
returned (l ∷ []) = l ∷ []
returned (l ∷ (m ∷ more)) = (l ++ code "\r" ∷ []) ∷ returned (m ∷ more)

returned_some : (l : List ℕ) (ls : List (List ℕ)) → 0 < length ls → returned (l ∷ ls) ≡ (l ++ code "\r" ∷ []) ∷ returned ls
returned_some l [] h = absurd (omega arith)
returned_some l (m ∷ more) h = refl

returned_onto : (b : ℕ) (ls : List (List ℕ)) → onto_first b (returned ls) ≡ returned (onto_first b ls)
returned_onto b [] = refl
returned_onto b (l ∷ []) = refl
returned_onto b (l ∷ (m ∷ more)) = refl

split_returns : (text : List ℕ) → slice_split is_feed (with_returns text) ≡ returned (slice_split is_feed text)
split_returns [] = refl
split_returns (b ∷ rest) = by_test (is_feed b) refl (split_returns rest) where
  by_test : (t : Bool) → is_feed b ≡ t → slice_split is_feed (with_returns rest) ≡ returned (slice_split is_feed rest) →
      slice_split is_feed (if t then code "\r" ∷ (b ∷ with_returns rest) else b ∷ with_returns rest) ≡ returned (cond t ([] ∷ slice_split is_feed rest) (onto_first b (slice_split is_feed rest)))
  by_test true e again = rw (e, again) (sym (returned_some [] (slice_split is_feed rest) (split_some is_feed rest)))
  by_test false e again = rw (e, again) (returned_onto b (slice_split is_feed rest))

-- no line has one
abbrev Bare : List (List ℕ) → Type 0
Bare [] = Unit {0}
Bare (l ∷ ls) = (has_return l ≡ false) × Bare ls

or_left : (a b : Bool) → a || b ≡ false → a ≡ false
or_left true b e = cc
or_left false b e = refl

or_right : (a b : Bool) → a || b ≡ false → b ≡ false
or_right true b e = cc
or_right false b e = e

bare_onto : (b : ℕ) (ls : List (List ℕ)) → is_return b ≡ false → Bare ls → Bare (onto_first b ls)
bare_onto b [] e h = (rw e refl, tt)
bare_onto b (l ∷ ls) e h = (rw (e, h.0) refl, h.1)

bare_lines : (text : List ℕ) → has_return text ≡ false → Bare (slice_split is_feed text)
bare_lines [] h = (refl, tt)
bare_lines (b ∷ rest) h = by_test (is_feed b) (slice_split is_feed rest) (bare_lines rest (or_right (is_return b) (has_return rest) h)) where
  by_test : (t : Bool) (ls : List (List ℕ)) → Bare ls → Bare (cond t ([] ∷ ls) (onto_first b ls))
  by_test true ls again = (refl, again)
  by_test false ls again = bare_onto b ls (or_left (is_return b) (has_return rest) h) again

no_return_at : (l : List ℕ) (n : ℕ) → has_return l ≡ false → is_return (get_or l n 0) ≡ false
no_return_at [] n h = refl
no_return_at (b ∷ l) zero h = or_left (is_return b) (has_return l) h
no_return_at (b ∷ l) (suc n) h = no_return_at l n (or_right (is_return b) (has_return l) h)

kept : (l : List ℕ) → has_return l ≡ false → without_return l ≡ l
kept l h = rw (no_return_at l (length l - 1) h) refl

cut : (l : List ℕ) → without_return (l ++ code "\r" ∷ []) ≡ l
cut l =
    let n : length (l ++ code "\r" ∷ []) - 1 ≡ length l = omega (arith, length-append l (code "\r" ∷ [])) in
    rw (n, get_or-append_seam l (code "\r") [] 0) (take-append_seam l (code "\r" ∷ []))

same_ended : (ls : List (List ℕ)) → Bare ls → ended (returned ls) ≡ ended ls
same_ended [] h = refl
same_ended (l ∷ []) h = refl
same_ended (l ∷ (m ∷ more)) h = with_rest (returned (m ∷ more)) (returned_more m more) (same_ended (m ∷ more) h.1) where
  returned_more : (m : List ℕ) (more : List (List ℕ)) → 0 < length (returned (m ∷ more))
  returned_more m [] = omega arith
  returned_more m (k ∷ more) = omega arith

  with_rest : (rs : List (List ℕ)) → 0 < length rs → ended rs ≡ ended (m ∷ more) → ended ((l ++ code "\r" ∷ []) ∷ rs) ≡ without_return l ∷ ended (m ∷ more)
  with_rest rs some e = ended_some (l ++ code "\r" ∷ []) rs some ∙ rw (cut l, kept l h.0, e) refl

pub same_lines : (text : List ℕ) → has_return text ≡ false → text_lines (with_returns text) ≡ text_lines text
unfolding text_lines
same_lines text h = ap ended (split_returns text) ∙ same_ended (slice_split is_feed text) (bare_lines text h)

pub same_tokens : (text : List ℕ) → has_return text ≡ false → tokens_of (with_returns text) ≡ tokens_of text
same_tokens text h = rw (same_lines text h) refl

-- so it is with all that is read of a text
returns_text : (t text : List ℕ) → IsUtf8 (t ++ text) → IsUtf8 (t ++ with_returns text)
returns_text t [] u = u
returns_text t (b ∷ rest) u = by_test (is_feed b) refl (λ v. returns_text [] rest v) (λ v. returns_text (t ++ b ∷ []) rest v) where
  by_test : (x : Bool) → is_feed b ≡ x → (IsUtf8 rest → IsUtf8 (with_returns rest)) → (IsUtf8 ((t ++ b ∷ []) ++ rest) → IsUtf8 ((t ++ b ∷ []) ++ with_returns rest)) →
      IsUtf8 (t ++ (if x then code "\r" ∷ (b ∷ with_returns rest) else b ∷ with_returns rest))
  by_test true e below beside =
      let small : b < 128 = grind (arith, nat_tests) in
      IsUtf8-append t (code "\r" ∷ (b ∷ with_returns rest)) (before_byte t rest b small u) (IsUtf8-append (code "\r" ∷ []) (b ∷ with_returns rest) (byte_text 13 (lit< tt))
      (IsUtf8-append (b ∷ []) (with_returns rest) (byte_text b small) (below (after_byte t rest b small u))))
  by_test false e below beside = subst IsUtf8 (append_assoc t (b ∷ []) (with_returns rest)) (beside (subst IsUtf8 (sym (append_assoc t (b ∷ []) rest)) u))

and_false : (x : Bool) → (x && false) ≡ false
and_false true = refl
and_false false = refl

unmarked : (text : List ℕ) → marked text ≡ false → marked (with_returns text) ≡ false
unmarked [] e = refl
unmarked (a ∷ []) e = by_test (is_feed a) where
  by_test : (x : Bool) → marked (if x then code "\r" ∷ (a ∷ []) else a ∷ []) ≡ false
  by_test true = refl
  by_test false = refl
unmarked (a ∷ (b ∷ [])) e = by_test (is_feed a) (is_feed b) where
  by_test : (x y : Bool) → marked (if x then code "\r" ∷ (a ∷ (if y then code "\r" ∷ (b ∷ []) else b ∷ [])) else a ∷ (if y then code "\r" ∷ (b ∷ []) else b ∷ [])) ≡ false
  by_test true true = refl
  by_test true false = refl
  by_test false true = and_false (a == 0xEF)
  by_test false false = refl
unmarked (a ∷ (b ∷ (c ∷ rest))) e = by_test (is_feed a) (is_feed b) (is_feed c) where
  by_test : (x y z : Bool) → marked (if x then code "\r" ∷ (a ∷ (if y then code "\r" ∷ (b ∷ (if z then code "\r" ∷ (c ∷ with_returns rest) else c ∷ with_returns rest)) else b ∷ (if z then code "\r" ∷ (c ∷ with_returns rest) else c ∷ with_returns rest)))
      else a ∷ (if y then code "\r" ∷ (b ∷ (if z then code "\r" ∷ (c ∷ with_returns rest) else c ∷ with_returns rest)) else b ∷ (if z then code "\r" ∷ (c ∷ with_returns rest) else c ∷ with_returns rest))) ≡ false
  by_test true true z = refl
  by_test true false z = refl
  by_test false true z = and_false (a == 0xEF)
  by_test false false true = ap (λ x. (a == 0xEF) && x) (and_false (b == 0xBB)) ∙ and_false (a == 0xEF)
  by_test false false false = e

still_marked : (text : List ℕ) → marked text ≡ true → without_mark (with_returns text) ≡ with_returns (drop 3 text)
still_marked [] e = absurd cc
still_marked (a ∷ []) e = absurd cc
still_marked (a ∷ (b ∷ [])) e = absurd cc
still_marked (a ∷ (b ∷ (c ∷ rest))) e =
    let first = first_true (a == 0xEF) ((b == 0xBB) && (c == 0xBF)) e in
    let rest_marked = second_true (a == 0xEF) ((b == 0xBB) && (c == 0xBF)) e in
    let second = first_true (b == 0xBB) (c == 0xBF) rest_marked in
    let third = second_true (b == 0xBB) (c == 0xBF) rest_marked in
    rw (equal_of a 0xEF first, equal_of b 0xBB second, equal_of c 0xBF third) refl

pub mark_returns : (text : List ℕ) → without_mark (with_returns text) ≡ with_returns (without_mark text)
mark_returns text = by_test (marked text) refl where
  by_test : (x : Bool) → marked text ≡ x → without_mark (with_returns text) ≡ with_returns (if x then drop 3 text else text)
  by_test true e = still_marked text e
  by_test false e = rw (unmarked text e) refl

return_drop : (n : ℕ) (text : List ℕ) → has_return text ≡ false → has_return (drop n text) ≡ false
return_drop zero text h = h
return_drop (suc n) [] h = h
return_drop (suc n) (b ∷ text) h = return_drop n text (or_right (is_return b) (has_return text) h)

pub return_mark : (text : List ℕ) → has_return text ≡ false → has_return (without_mark text) ≡ false
return_mark text h = by_test (marked text) where
  by_test : (x : Bool) → has_return (if x then drop 3 text else text) ≡ false
  by_test true = return_drop 3 text h
  by_test false = h

pub same_places : (text : List ℕ) → has_return text ≡ false → is_utf8 (without_mark text) ≡ true → scanned_places (with_returns text) ≡ scanned_places text
unfolding scanned_places
same_places text h u =
    let w = without_mark text in
    let there = seen_whole (with_returns w) (is_utf8-from_IsUtf8 (with_returns w) (returns_text [] w (IsUtf8-from_is_utf8 w u))) in
    ap tokens_of (ap legible (mark_returns text) ∙ there) ∙ (same_tokens w (return_mark text h) ∙ ap tokens_of (sym (seen_whole w u)))
