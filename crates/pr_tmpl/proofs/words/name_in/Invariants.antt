use Rattle.std.proofs.Common.{◌≤◌, length}
use Rattle.std.specs.Prelude.{string_bytes}
use Rattle.pr_labels.specs.pr_forms.Form.{rule}
use Rattle.pr_labels.specs.pr_words.private.Reader.{KeepsText}
use Rattle.pr_tmpl.specs.TemplateText.{Name, NameRest}
use Rattle.pr_tmpl.specs.private.Reader.{Leads}
use Rattle.pr_tmpl.proofs.words.name_in.Given as goal

abbrev pub invariant-loop-byte : goal.invariant-loop-byte
invariant-loop-byte l = record { leads : Leads (rule Name) l.text (rule (NameRest (string_bytes l.name))) l.rest; shorter : length l.rest ≤ length l.text; text : KeepsText l.text l.rest }

abbrev pub decreases-loop-byte : goal.decreases-loop-byte
decreases-loop-byte l = length l.rest
