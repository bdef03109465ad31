-- Whether bytes are a text, by what reading them answers.
use Rattle.std.proofs.Common.{◌≡◌, ℕ, Bool, true, false, List, [], ◌∷◌, length, ◌==◌, Some, None, sym, refl}
use Rattle.std.specs.Str.{IsUtf8, is_utf8}
use Rattle.spec_world.specs.pr_labels.SeriesReading.{series_labels}
use Rattle.pr_text.specs.Script.{some_text, series_of}
use Rattle.std.proofs.lemmas.Str.{IsUtf8-from_is_utf8, is_utf8-from_IsUtf8}

pub is_text : (bytes : List ℕ) → IsUtf8 bytes → true ≡ is_utf8 bytes
is_text bytes h = sym (is_utf8-from_IsUtf8 bytes h)

by_test : (test : Bool) (bytes : List ℕ) → is_utf8 bytes ≡ test → (IsUtf8 bytes → ⊥) → false ≡ test
by_test true bytes h n = absurd (n (IsUtf8-from_is_utf8 bytes h))
by_test false bytes h n = refl

pub not_text : (bytes : List ℕ) → (IsUtf8 bytes → ⊥) → false ≡ is_utf8 bytes
not_text bytes n = by_test (is_utf8 bytes) bytes refl n

-- a series is read from a text alone
pub text_series : (bytes : List ℕ) → IsUtf8 bytes → series_labels bytes ≡ series_of bytes
text_series bytes h = rw (is_utf8-from_IsUtf8 bytes h) refl

pub no_text_series : (bytes : List ℕ) → (IsUtf8 bytes → ⊥) → None ≡ series_of bytes
no_text_series bytes n = rw (sym (not_text bytes n)) refl

-- and an expression
pub text_some : (bytes : List ℕ) → (length bytes == 0) ≡ false → IsUtf8 bytes → Some bytes ≡ some_text bytes
text_some [] some h = absurd cc
text_some (b ∷ bytes) some h = rw (is_utf8-from_IsUtf8 (b ∷ bytes) h) refl

pub no_text_some : (bytes : List ℕ) → (IsUtf8 bytes → ⊥) → None ≡ some_text bytes
no_text_some [] n = refl
no_text_some (b ∷ bytes) n = rw (sym (not_text (b ∷ bytes) n)) refl
