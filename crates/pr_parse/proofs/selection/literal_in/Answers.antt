use Rattle.std.proofs.Common.{◌≡◌, Some, None, ap, ◌∙◌, sym}
use Rattle.std.specs.Option.{option_map}
use Rattle.pr_forms.proofs.Steps.{seen_takes, seen_lacks, seen_end_lacks}
use Rattle.pr_parse.specs.Seen.{see}
use Rattle.pr_parse.specs.Grammar.{production, literal_at}
use Rattle.pr_parse.specs.GrammarTable.{table}
use Rattle.pr_parse.specs.private.Reader.{value_of}
use Rattle.pr_parse.proofs.selection.literal_in.Goals as goal

pub returns-in_default-clause-read : goal.returns-in_default-clause-read
returns-in_default-clause-read c = seen_end_lacks see production table literal_at _ c.in_default.ensures.cases

pub returns-in-Some-2-clause-read : goal.returns-in-Some-2-clause-read
returns-in-Some-2-clause-read c = seen_takes see production table literal_at _ c.in-Some.rest.now c.in-Some.first.now _ c.in-Some.ensures.cases.0 (sym c.in_ok-part.ensures ∙ ap (option_map value_of) c.in-Some-2.is)

pub returns-in-None-clause-read : goal.returns-in-None-clause-read
returns-in-None-clause-read c = seen_lacks see production table literal_at _ c.in-Some.rest.now c.in-Some.first.now c.in-Some.ensures.cases.0 (sym c.in_ok-part.ensures ∙ ap (option_map value_of) c.in-None.is)
