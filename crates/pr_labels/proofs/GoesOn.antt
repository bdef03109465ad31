-- A text that goes on with a text is a text.
use Rattle.std.proofs.Common.{◌≡◌, ℕ, List, [], ◌∷◌, ◌++◌, Result, Ok, Err, subst, sym, lit<}
use Rattle.std.specs.Prelude.{OnOk, is_ok, if◌then◌else◌}
use Rattle.std.specs.Str.{IsUtf8}
use Rattle.std.proofs.lemmas.Str.{IsUtf8-append}
use Rattle.pr_words.specs.private.Reader.{KeepsText}
use Rattle.pr_words.proofs.StringUtf8.{byte_text}

pub goes_on : (old more new : List ℕ) → new ≡ old ++ more → IsUtf8 more → KeepsText old new
goes_on old more new e u v = subst IsUtf8 (sym e) (IsUtf8-append old more v u)

-- also where it may not have been appended
pub goes_on_if : {X E : Type 0} (r : Result X E) (old more new : List ℕ) → new ≡ (if is_ok r then old ++ more else old) → IsUtf8 more → KeepsText old new
goes_on_if (Ok x) old more new e u = goes_on old more new e u
goes_on_if (Err x) old more new e u = λ v. subst IsUtf8 (sym e) v

-- the signs of a label list
pub open_text : IsUtf8 (123 ∷ [])
open_text = byte_text 123 (lit< tt)

pub close_text : IsUtf8 (125 ∷ [])
close_text = byte_text 125 (lit< tt)

pub comma_text : IsUtf8 (44 ∷ [])
comma_text = byte_text 44 (lit< tt)

pub equals_text : IsUtf8 (61 ∷ [])
equals_text = byte_text 61 (lit< tt)

pub on_ok : {X E : Type 0} (r : Result X E) (P : Type 0) → P → OnOk r P
on_ok (Ok x) P h = h
on_ok (Err e) P h = tt
