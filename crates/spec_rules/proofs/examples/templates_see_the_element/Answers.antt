use Rattle.std.proofs.Common.{refl}
use Rattle.std.specs.Fmt.{digits}
use Rattle.pr_ast.specs.pr_forms.Reading.{bad_place, reading}
use Rattle.pr_num.specs.Shown.{fraction_text, shown}
use Rattle.pr_ast.specs.pr_words.StringAnswer.{bad_string_place, string_of}
use lib.Utf8.{encode}
use Rattle.pr_tmpl.specs.Expansion.{expansion, through}
use Rattle.pr_tmpl.specs.Pieces.{pieces}
use Rattle.pr_tmpl.specs.TemplateReading.{template_parts}
use Rattle.spec_rules.proofs.examples.templates_see_the_element.Goals as goal

pub returns-clause-labels : goal.returns-clause-labels
unfolding template_parts pieces string_of bad_string_place reading bad_place encode expansion through shown fraction_text digits
returns-clause-labels c = refl

pub returns-clause-notes : goal.returns-clause-notes
unfolding template_parts pieces string_of bad_string_place reading bad_place encode expansion through shown fraction_text digits
returns-clause-notes c = refl
