-- Kinds that choose no operand.
use Rattle.std.proofs.Common.{◌≡◌, ℕ, None, refl}
use Rattle.pr_tmpl.specs.declared.kind.TemplateByte.{TemplateByte}
use Rattle.pr_tmpl.specs.declared.kind.TemplateByte.TheVariants.{SmallV, SmallL, SmallE, CapitalV, CapitalL, CapitalE, CapitalU, Quote, Dollar, Point, CapitalP, CapitalD}
use Rattle.pr_tmpl.specs.Pieces.{plain}
use Rattle.pr_tmpl.specs.TemplateText.{dollar_rule, dot_rule, external_rule, operand_rule, scale_rule}

pub no_dollared : (k : TemplateByte) (b : ℕ) → (k ≡ SmallV → ⊥) → (k ≡ SmallL → ⊥) → (k ≡ SmallE → ⊥) → dollar_rule (plain k b) ≡ None
no_dollared SmallV b v l e = absurd (v refl)
no_dollared SmallL b v l e = absurd (l refl)
no_dollared SmallE b v l e = absurd (e refl)
no_dollared _ b v l e = refl

pub no_dotted : (k : TemplateByte) (b : ℕ) → (k ≡ CapitalV → ⊥) → (k ≡ CapitalL → ⊥) → (k ≡ CapitalE → ⊥) → dot_rule (plain k b) ≡ None
no_dotted CapitalV b v l e = absurd (v refl)
no_dotted CapitalL b v l e = absurd (l refl)
no_dotted CapitalE b v l e = absurd (e refl)
no_dotted _ b v l e = refl

pub no_external : (k : TemplateByte) (b : ℕ) → (k ≡ CapitalL → ⊥) → (k ≡ CapitalU → ⊥) → external_rule (plain k b) ≡ None
no_external CapitalL b l u = absurd (l refl)
no_external CapitalU b l u = absurd (u refl)
no_external _ b l u = refl

pub no_operand : (k : TemplateByte) (b : ℕ) → (k ≡ Quote → ⊥) → (k ≡ Dollar → ⊥) → (k ≡ Point → ⊥) → operand_rule (plain k b) ≡ None
no_operand Quote b q d p = absurd (q refl)
no_operand Dollar b q d p = absurd (d refl)
no_operand Point b q d p = absurd (p refl)
no_operand _ b q d p = refl

pub no_scale : (k : TemplateByte) (b : ℕ) → (k ≡ CapitalP → ⊥) → (k ≡ CapitalD → ⊥) → scale_rule (plain k b) ≡ None
no_scale CapitalP b p d = absurd (p refl)
no_scale CapitalD b p d = absurd (d refl)
no_scale _ b p d = refl
