-- Bytes of a text are written as a text.
use Rattle.std.proofs.Common.{◌≡◌, ℕ, ◌<◌, ◌==◌, List, [], ◌∷◌, ◌++◌, Bool, true, false, cond, refl, subst, sym, arith, append_assoc, lit<}
use Rattle.std.specs.Prelude.{codes, flat_map}
use Rattle.std.specs.Str.{IsUtf8}
use Rattle.std.proofs.lemmas.Bool.Decides.{nat_tests}
use Rattle.std.proofs.lemmas.Str.{IsUtf8-append}
use Rattle.pr_words.specs.Quoted.{escaped_byte, quoted_text}
use Rattle.pr_words.proofs.StringUtf8.{before_byte, after_byte, byte_text}

small : (b n : ℕ) → (b == n) ≡ true → n < 128 → b < 128
small b n h lt = grind (arith, nat_tests)

quote_text : IsUtf8 (34 ∷ [])
quote_text = byte_text 34 (lit< tt)

-- a byte, and what is written of it and of the bytes after it
module _ (front bytes : List ℕ) (b : ℕ) (u : IsUtf8 (front ++ b ∷ bytes)) (rest : IsUtf8 bytes → IsUtf8 (flat_map escaped_byte bytes)) (plain : IsUtf8 (front ++ ((b ∷ []) ++ flat_map escaped_byte bytes))) where
  -- where the byte is ASCII, the text may be cut around it
  escape : (m : ℕ) → m < 128 → b < 128 → IsUtf8 (front ++ ((92 ∷ m ∷ []) ++ flat_map escaped_byte bytes))
  escape m k lt =
      IsUtf8-append front ((92 ∷ m ∷ []) ++ flat_map escaped_byte bytes) (before_byte front bytes b lt u)
      (IsUtf8-append (92 ∷ m ∷ []) (flat_map escaped_byte bytes) (IsUtf8-append (92 ∷ []) (m ∷ []) (byte_text 92 (lit< tt)) (byte_text m k)) (rest (after_byte front bytes b lt u)))

  feed : (test : Bool) → (b == 10) ≡ test → IsUtf8 (front ++ (cond test (codes "\\n") (b ∷ []) ++ flat_map escaped_byte bytes))
  feed true h = escape 110 (lit< tt) (small b 10 h (lit< tt))
  feed false h = plain

  quote : (test : Bool) → (b == 34) ≡ test → IsUtf8 (front ++ (cond test (codes "\\\"") (cond (b == 10) (codes "\\n") (b ∷ [])) ++ flat_map escaped_byte bytes))
  quote true h = escape 34 (lit< tt) (small b 34 h (lit< tt))
  quote false h = feed (b == 10) refl

  backslash : (test : Bool) → (b == 92) ≡ test → IsUtf8 (front ++ (cond test (codes "\\\\") (cond (b == 34) (codes "\\\"") (cond (b == 10) (codes "\\n") (b ∷ []))) ++ flat_map escaped_byte bytes))
  backslash true h = escape 92 (lit< tt) (small b 92 h (lit< tt))
  backslash false h = quote (b == 34) refl

escaped_utf8 : (front bytes : List ℕ) → IsUtf8 (front ++ bytes) → IsUtf8 (front ++ flat_map escaped_byte bytes)
escaped_utf8 front [] u = u
escaped_utf8 front (b ∷ bytes) u =
    let plain = subst IsUtf8 (append_assoc front (b ∷ []) (flat_map escaped_byte bytes)) (escaped_utf8 (front ++ b ∷ []) bytes (subst IsUtf8 (sym (append_assoc front (b ∷ []) bytes)) u)) in
    backslash front bytes b u (λ v. escaped_utf8 [] bytes v) plain (b == 92) refl

pub quoted_utf8 : (bytes : List ℕ) → IsUtf8 bytes → IsUtf8 (quoted_text bytes)
quoted_utf8 bytes u =
    IsUtf8-append (34 ∷ []) (flat_map escaped_byte bytes ++ 34 ∷ []) quote_text (IsUtf8-append (flat_map escaped_byte bytes) (34 ∷ []) (escaped_utf8 [] bytes u) quote_text)

pub goes_on : (old bytes new : List ℕ) → new ≡ old ++ quoted_text bytes → IsUtf8 bytes → IsUtf8 old → IsUtf8 new
goes_on old bytes new e u v = subst IsUtf8 (sym e) (IsUtf8-append old (quoted_text bytes) v (quoted_utf8 bytes u))
