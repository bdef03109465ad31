-- Facts of what a token function calls.
use Rattle.std.proofs.Common.{◌≡◌, ℕ, ◌-◌, List, Result, Ok, Err, length, drop, refl, ap, sym, ◌∙◌, subst, take, take_all, arith, length-drop}
use Rattle.std.proofs.lemmas.List.{length-map, drop-map}
use Rattle.std.specs.Prelude.{MatchResult}
use Rattle.std.specs.Result.{IsOk}
use Rattle.std.specs.Str.{IsUtf8}
use Rattle.pr_time.proofs.FormsSuffixes.{reads_suffix, suffix_drop}
use Rattle.pr_time.specs.pr_forms.Form.{Reads, rule}
use Rattle.pr_labels.specs.pr_words.Strings.{production, Text, letter_of, seen, IsString}
use Rattle.pr_labels.specs.pr_words.Strings.{content as content_value}

-- bytes that are UTF-8 are a text
pub text_is_ok : {X E : Type 0} (P : X → Type 0) (Q : E → Type 0) (r : Result X E) (bytes : List ℕ) → MatchResult r P (λ e. ¬ (IsUtf8 bytes) × Q e) → IsUtf8 bytes → IsOk r
text_is_ok P Q (Ok x) bytes h u = refl
text_is_ok P Q (Err e) bytes h u = absurd (h.0 u)

-- what follows a string stands after its length
same_rest : (n m : ℕ) (text rest : List ℕ) → n ≡ m → drop m (seen text) ≡ seen rest → seen rest ≡ seen (drop n text)
same_rest n m text rest e h = sym h ∙ (ap (λ k. drop k (seen text)) (sym e) ∙ drop-map letter_of n text)

pub string_rest : (text content rest : List ℕ) (n : ℕ) → n ≡ length text - length rest → IsString text content rest → IsString text content (drop n text)
string_rest text content rest n e d =
    let h = suffix_drop (reads_suffix d) in
    let m : n ≡ length (seen text) - length (seen rest) = rw (length-map text letter_of, length-map rest letter_of) e in
    string_at (same_rest n (length (seen text) - length (seen rest)) text rest m h)
  where
    string_at : seen rest ≡ seen (drop n text) → IsString text content (drop n text)
    string_at k = subst (λ r. Reads production (rule Text) (seen text) (content_value content) r) k d

-- the bytes of a text from a place on
pub from_place : (text : List ℕ) (place : ℕ) → take (length text - place) (drop place text) ≡ drop place text
from_place text place = take_all (length text - place) (drop place text) (omega (arith, length-drop place text))
