-- The text from a line on, byte by byte.
use Rattle.std.proofs.Common.{◌≡◌, ℕ, zero, suc, ◌-◌, ◌<◌, List, [], ◌∷◌, Bool, true, false, refl, arith, sym}
use Rattle.std.specs.Prelude.{if◌then◌else◌}
use Rattle.pr_words.specs.Lines.{is_feed}
use Rattle.pr_yaml.specs.Faults.{from_line}

pub at_the_end : (n : ℕ) → from_line n [] ≡ []
unfolding from_line
at_the_end zero = refl
at_the_end (suc n) = refl

step : (n : ℕ) (b : ℕ) (rest : List ℕ) (t : Bool) → is_feed b ≡ t → from_line (suc n) (b ∷ rest) ≡ (if t then from_line n rest else from_line (suc n) rest)
unfolding from_line
step n b rest t e = rw e refl

pub past_feed : (n m : ℕ) (b : ℕ) (text rest : List ℕ) → 0 < n → m ≡ n - 1 → text ≡ b ∷ rest → is_feed b ≡ true → from_line m rest ≡ from_line n text
past_feed zero m b text rest lt e h f = absurd (omega arith)
past_feed (suc n) m b text rest lt e h f = let k : m ≡ n = omega arith in rw (k, h) (sym (step n b rest true f))

pub past_byte : (n : ℕ) (b : ℕ) (text rest : List ℕ) → 0 < n → text ≡ b ∷ rest → is_feed b ≡ false → from_line n rest ≡ from_line n text
past_byte zero b text rest lt h f = absurd (omega arith)
past_byte (suc n) b text rest lt h f = rw h (sym (step n b rest false f))

pub no_lines : (text : List ℕ) → from_line 0 text ≡ text
unfolding from_line
no_lines text = refl
