-- A plain text, one line further.
use Rattle.std.proofs.Common.{◌≡◌, ℕ, ◌+◌, ◌<◌, ◌≤◌, Bool, true, false, List, [], ◌∷◌, ◌++◌, Option, length, refl, arith}
use Rattle.pr_yaml.specs.Bytes.{is_bare, blanks_len}
use Rattle.pr_yaml.specs.private.Spots.{IsBelow}
use Rattle.pr_yaml.specs.Lines.{Cursor, along, folded_break}
use Rattle.pr_yaml.specs.Plain.{plain_below, goes_on, plain_part, plain_ending, indented, by_ending}
use Rattle.pr_yaml.specs.declared.yaml_scan.scalar.Scalar.TheVariants.{Found}
use Rattle.pr_yaml.specs.declared.yaml_scan.plain.Ending.{Ending}

-- the lines below get fewer
pub fewer : (p q : Cursor) → IsBelow p q → length q.below < length p.below
fewer p q b = rw b.below (omega arith)

module _ (inside : Bool) (parent : Option ℕ) (text : List ℕ) (end : Cursor) (k : ℕ) (p : Cursor) where
  pub over : p.below ≡ [] → plain_below inside parent text end k (p.line + 1) p.below ≡ Found text end
  unfolding plain_below
  over e = rw e refl

  pub past_bare : (q : Cursor) → IsBelow p q → is_bare q.here ≡ true → plain_below inside parent text end k (p.line + 1) p.below ≡ plain_below inside parent text end (k + 1) (q.line + 1) q.below
  unfolding plain_below
  past_bare q b e = rw (b.below, e, b.line) refl

  pub ends_before : (q : Cursor) → IsBelow p q → is_bare q.here ≡ false → goes_on inside parent q.here ≡ false → plain_below inside parent text end k (p.line + 1) p.below ≡ Found text end
  unfolding plain_below
  ends_before q b e g = rw (b.below, e, g) refl

  -- with a line that goes on: what it has, what that ends before and where, and the text with it
  pub with_line : (q : Cursor) (part more : List ℕ) (ending : Ending) (after : Cursor) → IsBelow p q → is_bare q.here ≡ false → goes_on inside parent q.here ≡ true →
      part ≡ plain_part inside (indented q.here) → ending ≡ plain_ending inside (indented q.here) →
      after ≡ along (blanks_len q.here + length (plain_part inside (indented q.here))) q → more ≡ text ++ (folded_break k ++ part) →
      plain_below inside parent text end k (p.line + 1) p.below ≡ by_ending ending (plain_below inside parent more after 0 (q.line + 1) q.below) q.line more after
  unfolding plain_below
  with_line q part more ending after b e g x y z m = rw (b.below, e, g, m, x, y, z, b.line, b.column) refl

-- a line that is not bare has a byte
pub not_bare : (l : List ℕ) → is_bare l ≡ false → 1 ≤ length l
unfolding is_bare
not_bare [] e = absurd cc
not_bare (b ∷ l) e = omega arith
