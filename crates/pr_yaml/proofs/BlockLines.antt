-- A block scalar, one line further.
use Rattle.std.proofs.Common.{◌≡◌, ℕ, ◌+◌, ◌-◌, ◌<◌, ◌≤◌, ◌==◌, min, Bool, true, false, not, ◌&&◌, if◌then◌else◌, List, [], ◌∷◌, ◌++◌, Option, Some, None, length, refl, arith}
use Rattle.std.proofs.lemmas.Bool.Decides.{nat_tests}
use Rattle.pr_yaml.specs.Bytes.{is_spaces, has_no_text, spaces_len}
use Rattle.pr_yaml.specs.private.Spots.{IsBelow}
use Rattle.pr_yaml.specs.Lines.{Cursor, line_start, is_deeper}
use Rattle.pr_yaml.specs.Block.{indentation, ends_block, belongs, row_of, begins_with_blank, earlier_of, row_break, last_feeds, chomped, block_lines, block_below}
use Rattle.pr_yaml.specs.declared.yaml_scan.block.Style.{Style}
use Rattle.pr_yaml.specs.declared.yaml_scan.block.Chomp.{Chomp}
use Rattle.pr_yaml.specs.declared.yaml_scan.block.Earlier.{Earlier}
use Rattle.pr_yaml.specs.declared.yaml_scan.block.Earlier.TheVariants.{Nothing}
use Rattle.pr_yaml.specs.declared.yaml_scan.scalar.Scalar.TheVariants.{Found, Broken}
use Rattle.pr_yaml.specs.declared.yaml_scan.fault.YamlKind.TheVariants.{NotText}

pub not_clean : (l : List ℕ) → has_no_text l ≡ true → 1 ≤ length l
unfolding has_no_text
not_clean [] e = absurd cc
not_clean (b ∷ l) e = omega arith

pub is_zero : (n : ℕ) → (n == 0) ≡ true → n ≡ 0
is_zero n e = grind (arith, nat_tests)

pub is_some : (n : ℕ) → (n == 0) ≡ false → 0 < n
is_some n e = grind (arith, nat_tests)

module _ (inside : Bool) (parent : Option ℕ) (p : Cursor) where
  pub no_text_line : p.below ≡ [] → None ≡ indentation inside parent p.below
  unfolding indentation
  no_text_line e = rw e refl

  pub bare_line : (q : Cursor) → IsBelow p q → is_spaces q.here ≡ true → indentation inside parent q.below ≡ indentation inside parent p.below
  unfolding indentation
  bare_line q b e = rw (b.below, e) refl

  pub text_line : (q : Cursor) → IsBelow p q → is_spaces q.here ≡ false →
      (if is_deeper parent (spaces_len q.here) && not (ends_block inside q.here) then Some (spaces_len q.here) else None) ≡ indentation inside parent p.below
  unfolding indentation
  text_line q b e = rw (b.below, e) refl

module _ (style : Style) (chomp : Chomp) (inside : Bool) (indent : Option ℕ) (text : List ℕ) (earlier : Earlier) (k : ℕ) (p : Cursor) where
  pub over : p.below ≡ [] → block_lines style chomp inside indent text earlier k (p.line + 1) p.below ≡ Found (text ++ chomped chomp earlier (last_feeds earlier k - 1)) (line_start 0 [])
  unfolding block_lines
  over e = rw e refl

  pub ends_before : (q : Cursor) → IsBelow p q → belongs inside indent q.here ≡ false →
      block_lines style chomp inside indent text earlier k (p.line + 1) p.below ≡ Found (text ++ chomped chomp earlier (last_feeds earlier k)) q
  unfolding block_lines
  ends_before q b e = rw (b.below, e, ← b.line, ← b.column) refl

  pub broken : (q : Cursor) → IsBelow p q → belongs inside indent q.here ≡ true → has_no_text q.here ≡ true →
      block_lines style chomp inside indent text earlier k (p.line + 1) p.below ≡ Broken q.line NotText
  unfolding block_lines
  broken q b e f = rw (b.below, e, f, b.line) refl

  pub empty_row : (q : Cursor) (row : List ℕ) → IsBelow p q → belongs inside indent q.here ≡ true → has_no_text q.here ≡ false → row ≡ row_of indent q.here → length row ≡ 0 →
      block_lines style chomp inside indent text earlier k (p.line + 1) p.below ≡ block_lines style chomp inside indent text earlier (k + 1) (q.line + 1) q.below
  unfolding block_lines
  empty_row q [] b e f r z = rw (b.below, e, f, ← r, b.line) refl
  empty_row q (x ∷ row) b e f r z = absurd (omega arith)

  pub full_row : (q : Cursor) (row more : List ℕ) → IsBelow p q → belongs inside indent q.here ≡ true → has_no_text q.here ≡ false → row ≡ row_of indent q.here → 0 < length row →
      more ≡ text ++ (row_break style earlier k (begins_with_blank row) ++ row) →
      block_lines style chomp inside indent text earlier k (p.line + 1) p.below ≡ block_lines style chomp inside indent more (earlier_of row) 0 (q.line + 1) q.below
  unfolding block_lines
  full_row q [] more b e f r z m = absurd (omega arith)
  full_row q (x ∷ row) more b e f r z m = rw (b.below, e, f, ← r, m, b.line) refl

-- at the start
pub begin : (style : Style) (chomp : Chomp) (inside : Bool) (parent indent : Option ℕ) (text : List ℕ) (p q : Cursor) → indent ≡ indentation inside parent p.below → text ≡ [] → q ≡ p →
    block_lines style chomp inside indent text Nothing 0 (q.line + 1) q.below ≡ block_below style chomp inside parent p
begin style chomp inside parent indent text p q i t e = rw (i, t, e) refl

pub less_one : (n : ℕ) → n - min n 1 ≡ n - 1
less_one n = omega arith
