use Rattle.pr_words.proofs.StringReading.{piece_plain, piece_none, piece_escape, piece_breaks}
use Rattle.pr_words.specs.private.Reader.{bytes_of}
use Rattle.pr_words.proofs.StringUtf8.{plain_text, escape_text}
use Rattle.pr_words.proofs.strings.reader.piece_in.Goals as goal

pub returns-in-Some-clause-read : goal.returns-in-Some-clause-read
returns-in-Some-clause-read c = piece_plain c.args.mark _ _ c.in-Some.byte c.in-Some.ensures.read

pub returns-in_default-backslash_in-clause-read : goal.returns-in_default-backslash_in-clause-read
returns-in_default-backslash_in-clause-read c = piece_none c.args.mark _ c.in_default.ensures.read c.in_default-backslash_in.ensures.read

pub returns-in-Ok-clause-read : goal.returns-in-Ok-clause-read
returns-in-Ok-clause-read c =
    piece_escape c.args.mark _ c.in-Some-backslash_in.after.now c.in-Ok.rest.now _ c.in_default.ensures.read c.in-Some-backslash_in.ensures.read c.in-Ok.ensures.read

pub returns-in-Err-clause-read : goal.returns-in-Err-clause-read
returns-in-Err-clause-read c =
    piece_breaks c.args.mark _ c.in-Some-backslash_in.after.now c.in-Err.rest.now c.in_default.ensures.read c.in-Some-backslash_in.ensures.read c.in-Err.ensures.read

pub returns-in-Some-clause-text : goal.returns-in-Some-clause-text
returns-in-Some-clause-text c = plain_text c.args.mark _ _ c.in-Some.byte c.in-Some.ensures.read

pub returns-in-Ok-clause-text : goal.returns-in-Ok-clause-text
returns-in-Ok-clause-text c =
    escape_text c.args.mark _ c.in-Some-backslash_in.after.now (bytes_of c.in-Ok.piece) c.in-Ok.rest.now c.in-Some-backslash_in.ensures.read c.in-Ok.ensures.text
