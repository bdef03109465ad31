use Rattle.std.proofs.Common.{◌≡◌, codes, true, refl}
use Rattle.std.specs.Str.{is_utf8}
use Rattle.pr_words.proofs.PlainTexts.{plain_text}
use Rattle.pr_text.proofs.script.examples.a_body_belongs_to_its_line.Goals as goal

pub returns : goal.returns
returns c =
    let a : is_utf8 (codes "a") ≡ true = plain_text (codes "a") refl in
    let b : is_utf8 (codes "b") ≡ true = plain_text (codes "b") refl in
    record { whole = rw (a, b) refl; ended = rw a refl; twice = rw b refl }
