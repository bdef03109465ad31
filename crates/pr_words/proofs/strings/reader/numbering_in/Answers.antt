use Rattle.pr_words.specs.Strings.{numbered}
use Rattle.pr_words.proofs.StringReading.{chosen_end, numbers, no_numbering}
use Rattle.pr_words.proofs.StringUtf8.{numbering_text}
use Rattle.pr_words.proofs.strings.reader.numbering_in.Goals as goal

pub returns-in_default-clause-read : goal.returns-in_default-clause-read
returns-in_default-clause-read c = chosen_end numbered _ c.in_default.ensures.cases

pub returns-in-Some-numbering_of-clause-read : goal.returns-in-Some-numbering_of-clause-read
returns-in-Some-numbering_of-clause-read c =
    numbers _ c.in-Some.rest.now c.in-Some.first.now c.in-Some-numbering_of.numbering.0 c.in-Some-numbering_of.numbering.1 c.kind_of.result c.in-Some.ensures.cases.0 c.kind_of.ensures
    c.in-Some-numbering_of.ensures.value

pub returns-in-None-clause-read : goal.returns-in-None-clause-read
returns-in-None-clause-read c = no_numbering _ c.in-Some.rest.now c.in-Some.first.now c.kind_of.result c.in-Some.ensures.cases.0 c.kind_of.ensures c.in-None.ensures.value

pub returns-in-Some-numbering_of-clause-text : goal.returns-in-Some-numbering_of-clause-text
returns-in-Some-numbering_of-clause-text c =
    numbering_text _ c.in-Some.rest.now c.in-Some.first.now c.in-Some-numbering_of.numbering.0 c.in-Some-numbering_of.numbering.1 c.kind_of.result c.in-Some.ensures.cases.0 c.kind_of.ensures
    c.in-Some-numbering_of.ensures.value
