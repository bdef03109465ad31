use Rattle.pr_words.proofs.StringReading.{opening_end, opens, unopened}
use Rattle.pr_words.proofs.StringOpen.{no_opening}
use Rattle.pr_words.proofs.StringUtf8.{opening_text}
use Rattle.pr_words.proofs.strings.reader.opening_in.Goals as goal

pub returns-in_default-clause-read : goal.returns-in_default-clause-read
returns-in_default-clause-read c = opening_end _ c.in_default.ensures.cases

pub returns-in-Quote-clause-read : goal.returns-in-Quote-clause-read
returns-in-Quote-clause-read c = opens _ c.in-Some.rest.now c.in-Some.first.now c.kind_of.result c.in-Quote.mark c.in-Some.ensures.cases.0 c.kind_of.ensures c.in-Quote.is

pub returns-in_default-kind_of : goal.returns-in_default-kind_of
returns-in_default-kind_of c = record { opens = no_opening _ c.in-Some.rest.now c.in-Some.first.now c.kind_of.result c.in-Some.ensures.cases.0 c.kind_of.ensures c.in_default-kind_of.not-Quote; read = unopened _ c.in-Some.rest.now c.in-Some.first.now c.kind_of.result c.in-Some.ensures.cases.0 c.kind_of.ensures c.in_default-kind_of.not-Quote; shorter = tt; text = tt }

pub returns-in-Quote-clause-text : goal.returns-in-Quote-clause-text
returns-in-Quote-clause-text c = opening_text _ c.in-Some.rest.now c.in-Some.first.now c.kind_of.result c.in-Quote.mark c.in-Some.ensures.cases.0 c.kind_of.ensures c.in-Quote.is
