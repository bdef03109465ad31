use Rattle.std.proofs.Common.{◌≡◌, codes, true, refl}
use Rattle.std.specs.Str.{is_utf8}
use Rattle.pr_words.proofs.PlainTexts.{plain_text}
use Rattle.pr_text.proofs.script.examples.receivers_are_named_so.Goals as goal

pub returns-clause-receiver : goal.returns-clause-receiver
returns-clause-receiver c = let name : is_utf8 (codes "a") ≡ true = plain_text (codes "a") refl in rw name refl

pub returns-clause-flush : goal.returns-clause-flush
returns-clause-flush c = let name : is_utf8 (codes "a") ≡ true = plain_text (codes "a") refl in rw name refl
