use Rattle.std.proofs.Common.{◌≡◌, codes, true, refl}
use Rattle.std.specs.Str.{is_utf8}
use Rattle.pr_words.proofs.PlainTexts.{plain_text}
use Rattle.pr_text.proofs.script.examples.groups_are_asked_for_so.Goals as goal

pub returns-clause-eval : goal.returns-clause-eval
returns-clause-eval c =
    let file : is_utf8 (codes "r.yml") ≡ true = plain_text (codes "r.yml") refl in
    let group : is_utf8 (codes "the g") ≡ true = plain_text (codes "the g") refl in
    rw (file, group) refl
