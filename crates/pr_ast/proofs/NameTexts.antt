-- The bytes of a name are ASCII, and so they are a text.
use Rattle.std.proofs.Common.{◌≡◌, ℕ, ◌<◌, List, true, false, Bool, take, arith, All}
use Rattle.std.specs.List.{list_all}
use Rattle.std.specs.Str.{IsUtf8}
use Rattle.std.proofs.lemmas.Str.{IsUtf8-from_ascii}
use Rattle.std.proofs.lemmas.Str.Ascii.{IsAscii-from_all}
use Rattle.std.proofs.lemmas.List.Sums.{AllPass-from_list_all}
use Rattle.std.proofs.lemmas.Bool.Decides.{nat_tests}
use Rattle.pr_num.proofs.Digits.{front_passes}
use Rattle.pr_ast.specs.declared.lex.part.Class.TheVariants.{Name, NameInBrackets}
use Rattle.pr_ast.specs.Bytes.{is_of, name_class, front_len}

below_name : (b : ℕ) → is_of Name b ≡ true → b < 128
below_name b h = grind (arith, nat_tests)

below_bracketed : (b : ℕ) → is_of NameInBrackets b ≡ true → b < 128
below_bracketed b h = grind (arith, nat_tests)

below : (inside : Bool) (b : ℕ) → is_of (name_class inside) b ≡ true → b < 128
below true b h = below_bracketed b h
below false b h = below_name b h

all_below : (inside : Bool) (bytes : List ℕ) → list_all (is_of (name_class inside)) bytes ≡ true → All (λ b. b < 128) bytes
all_below inside bytes h = λ k d lt. below inside _ (AllPass-from_list_all (is_of (name_class inside)) bytes h k d lt)

pub name_is_text : (inside : Bool) (text : List ℕ) → IsUtf8 (take (front_len (name_class inside) text) text)
name_is_text inside text =
    let name : List ℕ = take (front_len (name_class inside) text) text in
    IsUtf8-from_ascii name (IsAscii-from_all name (all_below inside name (front_passes (is_of (name_class inside)) text)))
