-- What a text that is no template is answered.
use Rattle.std.specs.Prelude.{◌≡◌, ℕ, None, List}
use Rattle.pr_tmpl.specs.declared.parse.TmplError.{TmplError}
use Rattle.pr_tmpl.specs.declared.parse.TmplError.TheVariants.{BadTemplate, Memory}
use Rattle.pr_tmpl.specs.TemplateReading.{template_parts, bad_template_place}

-- The text is no template, and the fault tells the first byte with which none goes on. Nothing is
-- said where memory runs out.
abbrev pub IsNoTemplate : List ℕ → TmplError → Type 0
IsNoTemplate text (BadTemplate at) = (template_parts text ≡ None) × (at ≡ bad_template_place text)
IsNoTemplate text Memory = Unit {0}
