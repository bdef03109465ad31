-- Digits of an escape go on exactly while a character can still come.
use Rattle.std.proofs.Common.{◌≡◌, ℕ, ◌+◌, ◌*◌, ◌^◌, ◌<◌, ◌≤◌, Bool, true, arith, inl, inr}
use Rattle.std.specs.Prelude.{◌&&◌, not, nat_le}
use Rattle.std.proofs.lemmas.Bool.{cases_lt}
use Rattle.std.proofs.lemmas.Bool.Decides.{nat_tests}
use Rattle.std.proofs.Math.Nat.{one-le-pow}
use Rattle.pr_words.specs.Strings.{fits}
use Rattle.pr_words.specs.private.Escapes.{IsLimit, IsCharacter, CanBecomeCharacter}

-- the number and the count of those that it can become, as numbers alone
record Comes (limit least width : ℕ) : Type 0 where
  value : ℕ
  from : least ≤ value
  below : value < least + width
  limited : value ≤ limit
  character : IsCharacter value

abbrev test : ℕ → ℕ → ℕ → Bool
test limit least width = nat_le least limit && not (nat_le 0xD800 least && nat_le (least + width) 0xE000)

limit_small : (limit : ℕ) → IsLimit limit → limit ≤ 0x10FFFF
limit_small limit (inl e) = omega (arith, e)
limit_small limit (inr e) = omega (arith, e)

limit_wide : (limit least : ℕ) → IsLimit limit → 0xD800 ≤ least → least ≤ limit → 0xE000 ≤ limit
limit_wide limit least (inl e) h k = omega (arith, e, h, k)
limit_wide limit least (inr e) h k = omega (arith, e)

within : (limit least width : ℕ) → test limit least width ≡ true → least ≤ limit
within limit least width h = grind (arith, nat_tests)

goes_past : (limit least width : ℕ) → test limit least width ≡ true → 0xD800 ≤ least → 0xE000 < least + width
goes_past limit least width h k = grind (arith, nat_tests)

comes : (limit least width : ℕ) → IsLimit limit → 1 ≤ width → test limit least width ≡ true → Comes limit least width
comes limit least width l some h =
    let le = within limit least width h in
    let small = limit_small limit l in
    elim (cases_lt least 0xD800) [
      | inl lt ↦ record { value = least; from = omega arith; below = omega (arith, some); limited = le; character = inl lt }
      | inr ge ↦
          let past = goes_past limit least width h ge in
          let wide = limit_wide limit least l ge le in
          elim (cases_lt least 0xE000) [
            | inl lt ↦ record { value = 0xE000; from = omega (arith, lt); below = past; limited = wide; character = inr (omega arith, omega arith) }
            | inr above ↦ record { value = least; from = omega arith; below = omega (arith, some); limited = le; character = inr (above, omega (arith, le, small)) }
          ]
    ]

passes : (limit least width value : ℕ) → least ≤ value → value < least + width → value ≤ limit → IsCharacter value → test limit least width ≡ true
passes limit least width value from below limited (inl lt) = grind (arith, nat_tests)
passes limit least width value from below limited (inr x) = let a = x.0 in let b = x.1 in grind (arith, nat_tests)

pub fits_is : (limit left number : ℕ) → IsLimit limit → (fits limit left number ≡ true → CanBecomeCharacter limit left number) × (CanBecomeCharacter limit left number → fits limit left number ≡ true)
fits_is limit left number l = (to, of)
  where
    to : fits limit left number ≡ true → CanBecomeCharacter limit left number
    to h =
        let x = comes limit (number * 16 ^ left) (16 ^ left) l (one-le-pow left 16 (omega arith)) h in
        record { value = x.value; from = x.from; below = x.below; limited = x.limited; character = x.character }

    of : CanBecomeCharacter limit left number → fits limit left number ≡ true
    of x = passes limit (number * 16 ^ left) (16 ^ left) x.value x.from x.below x.limited x.character
