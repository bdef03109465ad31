use Rattle.std.proofs.Common.{◌≡◌, [], ◌∷◌, codes, true, refl, lit<, decimal}
use Rattle.std.proofs.lemmas.Fmt.{decimal_digit}
use Rattle.std.specs.Str.{is_utf8}
use Rattle.pr_outside.proofs.WordsPlainTexts.{plain_text}
use Rattle.pr_text.specs.Orders.{orders_after}
use Rattle.pr_text.specs.Script.{takes_body}
use Rattle.pr_text.specs.Printed.{shown_report}
use Rattle.pr_run.specs.Told.{told_of, turn}
use Rattle.pr_run.proofs.examples.a_receiver_is_told_what_waits.Goals as goal

pub returns : goal.returns
unfolding shown_report orders_after takes_body told_of turn
returns c =
    let zero : decimal 0 ≡ 48 ∷ [] = decimal_digit 0 (lit< tt) in
    let a : is_utf8 (codes "a") ≡ true = plain_text (codes "a") refl in
    let b : is_utf8 (codes "b") ≡ true = plain_text (codes "b") refl in
    record { told = rw (a, b, zero) refl; fine = rw a refl; known = rw a refl; unknown = rw a refl }
