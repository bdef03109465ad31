-- What the reader relies on, and no rule of the format: what stands on a line before its first byte
-- that is no text is UTF-8.
use Rattle.std.specs.Prelude.{ℕ, List, [], ◌∷◌, if◌then◌else◌}
use Rattle.std.specs.Str.{IsUtf8}
use Rattle.pr_yaml.specs.Bytes.{no_text}
use Rattle.pr_yaml.specs.Lines.{Cursor}
use Rattle.pr_yaml.specs.declared.yaml_scan.scalar.Scalar.{Scalar}
use Rattle.pr_yaml.specs.declared.yaml_scan.scalar.Scalar.TheVariants.{Found, Broken}

abbrev pub legible_part : List ℕ → List ℕ
legible_part [] = []
legible_part (b ∷ rest) = if no_text b then [] else b ∷ legible_part rest

abbrev pub IsLegible : List ℕ → Type 0
IsLegible line = IsUtf8 (legible_part line)

abbrev pub AreLegible : List (List ℕ) → Type 0
AreLegible [] = Unit {0}
AreLegible (l ∷ more) = IsLegible l × AreLegible more

pub record IsLegiblePlace (p : Cursor) : Type 0 where
  pub here : IsLegible p.here
  pub below : AreLegible p.below

-- the text of a scalar
abbrev pub HasUtf8 : Scalar → Type 0
HasUtf8 (Found text after) = IsUtf8 text
HasUtf8 (Broken line kind) = Unit {0}
