-- Bytes below 128 are a text.
use Rattle.std.proofs.Common.{◌≡◌, ℕ, true, List, nat_lt, ltb-true}
use Rattle.std.specs.Str.{is_utf8}
use Rattle.std.specs.List.{list_all}
use Rattle.std.proofs.lemmas.List.Sums.{AllPass-from_list_all}
use Rattle.std.proofs.lemmas.Str.{is_utf8-from_IsUtf8, IsUtf8-from_ascii}
use Rattle.std.proofs.lemmas.Str.Ascii.{IsAscii-from_all}

pub plain_text : (text : List ℕ) → list_all (λ b. nat_lt b 128) text ≡ true → is_utf8 text ≡ true
plain_text text h =
    is_utf8-from_IsUtf8 text (IsUtf8-from_ascii text (IsAscii-from_all text (λ k d lt. ltb-true _ 128 (AllPass-from_list_all (λ b. nat_lt b 128) text h k d lt))))
