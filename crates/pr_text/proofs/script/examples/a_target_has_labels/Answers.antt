use Rattle.std.proofs.Common.{◌≡◌, codes, true, refl}
use Rattle.std.specs.Str.{is_utf8}
use Rattle.spec_world.proofs.LabelsSeriesExamples.{metric, none}
use Rattle.pr_text.proofs.Targets.{a_is_b}
use Rattle.pr_words.proofs.PlainTexts.{plain_text}
use Rattle.pr_text.proofs.script.examples.a_target_has_labels.Goals as goal

pub returns : goal.returns
returns c =
    let labels : is_utf8 (codes "{a='b'}") ≡ true = plain_text (codes "{a='b'}") refl in
    let braces : is_utf8 (codes "{}") ≡ true = plain_text (codes "{}") refl in
    let name : is_utf8 (codes "m") ≡ true = plain_text (codes "m") refl in
    record { fail = rw (labels, a_is_b) refl; gone = rw (labels, a_is_b) refl; empty = rw (braces, none) refl; metric = rw (name, metric) refl }
