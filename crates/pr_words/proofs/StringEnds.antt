-- The grammar of strings ends: each rule comes to a byte in a few steps.
use Rattle.std.proofs.Common.{◌≡◌, ℕ, zero, suc, ◌+◌, ◌*◌, nat_le, Option, Some, None, Bool, true, false, refl}
use Rattle.std.specs.Prelude.{if◌then◌else◌}
use Rattle.pr_forms.specs.Reading.{EndsIn, Ends}
use Rattle.pr_words.specs.declared.strings.kind.StringByte.{StringByte}
use Rattle.pr_words.specs.declared.strings.kind.StringByte.TheVariants.{X, Short, Long}
use Rattle.pr_words.specs.Strings.{production, fits, reached, numbered, numbered_by, digit_of, Letter, letter, Rule, Text, Quoted, Escape, Digits, Then}
use Rattle.pr_words.specs.StringTable.{table, rank, steps}

-- the rule that a digit or a letter chooses reads a byte
byte_ends : (test : Bool) (limit left n : ℕ) (k : Rule) → (if test then Some (Then limit left n) else None) ≡ Some k → (table.empty k ≡ false) × (nat_le (rank k) 2 ≡ true)
byte_ends true limit left n k e = let same : k ≡ Then limit left n = cc in (rw same refl, rw same refl)
byte_ends false limit left n k e = absurd (cc)

reached_ends : (limit left n : ℕ) (o : Option ℕ) (k : Rule) → reached limit left n o ≡ Some k → (table.empty k ≡ false) × (nat_le (rank k) 2 ≡ true)
reached_ends limit left n None k e = absurd (cc)
reached_ends limit left n (Some d) k e = byte_ends (fits limit left (n * 16 + d)) limit left (n * 16 + d) k e

numbered_ends : (kind : StringByte) (k : Rule) → numbered_by kind ≡ Some k → (table.empty k ≡ false) × (nat_le (rank k) 2 ≡ true)
numbered_ends X k e = byte_ends true 127 2 0 k e
numbered_ends Short k e = byte_ends true 1114111 4 0 k e
numbered_ends Long k e = byte_ends true 1114111 8 0 k e
numbered_ends _ k e = absurd (cc)

ends_known : (n : Rule) → EndsIn table rank steps (rank n) (production n)
ends_known Text = ((tt, refl), ((tt, refl), (tt, refl)))
ends_known (Quoted m) = ((tt, (tt, refl)), tt)
ends_known (Escape m) = (tt, escape_ends)
  where
    escape_ends : (t : Letter) (k : Rule) → numbered t ≡ Some k → (table.empty k ≡ false) × (nat_le (rank k) 2 ≡ true)
    escape_ends (letter kind b) k e = numbered_ends kind k e
ends_known (Digits limit zero n) = tt
ends_known (Digits limit (suc left) n) = λ t k e. reached_ends limit left n (digit_of t) k e
ends_known (Then limit left n) = (tt, refl)

below_known : (n : Rule) → nat_le (suc (rank n)) steps ≡ true
below_known Text = refl
below_known (Quoted m) = refl
below_known (Escape m) = refl
below_known (Digits limit left n) = refl
below_known (Then limit left n) = refl

pub ends : Ends production table rank steps
ends = record { some = refl; below = below_known; ends = ends_known }
