use Rattle.pr_words.proofs.StringReading.{escape_named, escape_other}
use Rattle.pr_words.proofs.StringUtf8.{named_text, digits_text}
use Rattle.pr_words.proofs.strings.reader.escape_in.Goals as goal

pub returns-in-Some-clause-read : goal.returns-in-Some-clause-read
returns-in-Some-clause-read c = escape_named c.args.mark _ _ _ c.in-Some.ensures.read

pub returns-in_default-numbering_in-clause-read : goal.returns-in_default-numbering_in-clause-read
returns-in_default-numbering_in-clause-read c = escape_other c.args.mark _ _ c.in_default.ensures.read c.in_default-numbering_in.ensures.read

pub returns-in-Ok-clause-read : goal.returns-in-Ok-clause-read
returns-in-Ok-clause-read c = escape_other c.args.mark _ _ c.in_default.ensures.read (c.in-Some-numbering_in.ensures.read.reads _ _ c.in-Ok.ensures.read)

pub returns-in-Err-clause-read : goal.returns-in-Err-clause-read
returns-in-Err-clause-read c = escape_other c.args.mark _ _ c.in_default.ensures.read (c.in-Some-numbering_in.ensures.read.fails _ c.in-Err.ensures.read)

pub returns-in-Some-clause-text : goal.returns-in-Some-clause-text
returns-in-Some-clause-text c = named_text c.args.mark _ _ c.in-Some.byte c.in-Some.ensures.read

pub returns-in-Ok-clause-text : goal.returns-in-Ok-clause-text
returns-in-Ok-clause-text c = digits_text _ c.in-Some-numbering_in.after.now _ c.in-Ok.character c.in-Some-numbering_in.ensures.text c.in-Ok.ensures.text c.in-Ok.ensures.scalar
