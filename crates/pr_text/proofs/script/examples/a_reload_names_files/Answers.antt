use Rattle.std.proofs.Common.{◌≡◌, codes, true, refl}
use Rattle.std.specs.Str.{is_utf8}
use Rattle.pr_words.proofs.PlainTexts.{plain_text}
use Rattle.pr_text.specs.Reloads.{files_in}
use Rattle.pr_text.proofs.script.examples.a_reload_names_files.Goals as goal

pub returns-clause-files : goal.returns-clause-files
unfolding files_in
returns-clause-files c =
    let first : is_utf8 (codes "a.yml") ≡ true = plain_text (codes "a.yml") refl in
    let name : is_utf8 (codes "b") ≡ true = plain_text (codes "b") refl in
    let file : is_utf8 (codes "c=d") ≡ true = plain_text (codes "c=d") refl in
    rw (first, name, file) refl

pub returns-clause-none : goal.returns-clause-none
unfolding files_in
returns-clause-none c = refl

pub returns-clause-twice : goal.returns-clause-twice
unfolding files_in
returns-clause-twice c =
    let name : is_utf8 (codes "b") ≡ true = plain_text (codes "b") refl in
    let file : is_utf8 (codes "c") ≡ true = plain_text (codes "c") refl in
    rw (name, file) refl
