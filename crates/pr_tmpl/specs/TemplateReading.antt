-- What a text is read as, as a function of it: the parts of the template, or the first bad place.
use Rattle.std.specs.Prelude.{ℕ, Option, Some, None, List, length, take}
use Rattle.pr_labels.specs.pr_forms.Form.{rule}
use Rattle.pr_labels.specs.pr_forms.Reading.{reading, bad_place}
use Rattle.pr_tmpl.specs.declared.template.Part.{Part}
use Rattle.pr_tmpl.specs.Pieces.{raw_text, pieces}
use Rattle.pr_tmpl.specs.TemplateText.{TemplateValue, parts, Text, production}
use Rattle.pr_tmpl.specs.TemplateTable.{table, steps}

abbrev pub parts_in : Option TemplateValue → Option (List Part)
parts_in (Some (parts ps)) = Some ps
parts_in _ = None

-- The parts of a text as a function of it, where it is a template; the first bad piece, and its
-- place in bytes.
unfoldable pub template_parts : List ℕ → Option (List Part)
template_parts text = parts_in (reading production table steps (rule Text) (pieces text))

unfoldable pub bad_piece : List ℕ → ℕ
bad_piece text = bad_place production table steps (rule Text) (pieces text)

unfoldable pub bad_template_place : List ℕ → ℕ
bad_template_place text = length (raw_text (take (bad_piece text) (pieces text)))
