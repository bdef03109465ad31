-- Where the characters of a text lead, one at a time.
use Rattle.std.proofs.Common.{◌≡◌, refl, sym, ap, ◌∙◌, ℕ, List, [], ◌∷◌, ◌++◌, length, Some, None, encode_utf8, arith}
use Rattle.std.specs.Str.{IsUtf8, chars}
use Rattle.std.proofs.lemmas.Str.{IsUtf8-past_char, chars_past_char, chars-nil}
use Rattle.pr_expo.specs.declared.expo_line.place.LineCursor.{LineCursor}
use Rattle.pr_expo.specs.declared.expo_line.place.ExpoKind.{ExpoKind}
use Rattle.pr_expo.specs.Line.{goes, fault_at, Way, way, way_on, comes, stops}

-- a character leads to the next place
pub goes_on : (place next : LineCursor) (c : ℕ) (text rest : List ℕ) (w : Way) → IsUtf8 text → text ≡ encode_utf8 c ++ rest →
    way place (chars text) ≡ w → goes place c ≡ Some next → IsUtf8 rest × (way next (chars rest) ≡ w)
goes_on place next c text rest w u parts h to =
    (IsUtf8-past_char _ _ c u parts, ap (λ o. way_on o (fault_at place) (λ p. way p (chars rest))) (sym to) ∙ ap (way place) (sym (chars_past_char _ _ c u parts)) ∙ h)

-- no line goes on with a character
pub stops_at : (place : LineCursor) (kind : ExpoKind) (c : ℕ) (text rest : List ℕ) (w : Way) → IsUtf8 text → text ≡ encode_utf8 c ++ rest →
    way place (chars text) ≡ w → goes place c ≡ None → kind ≡ fault_at place → w ≡ stops kind
stops_at place kind c text rest w u parts h to is =
    sym h ∙ ap (way place) (chars_past_char _ _ c u parts) ∙ ap (λ o. way_on o (fault_at place) (λ p. way p (chars rest))) to ∙ ap stops (sym is)

no_bytes : (text : List ℕ) → length text ≡ 0 → text ≡ []
no_bytes [] e = refl
no_bytes (b ∷ bs) e = absurd (omega arith)

-- no character is left
pub comes_to : (place : LineCursor) (text : List ℕ) (w : Way) → length text ≡ 0 → way place (chars text) ≡ w → w ≡ comes place
comes_to place text w none h = sym h ∙ ap (way place) (ap chars (no_bytes text none) ∙ chars-nil)
