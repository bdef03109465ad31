use Rattle.std.proofs.Common.{◌≡◌, codes, [], true, refl}
use Rattle.std.specs.Str.{is_utf8}
use Rattle.pr_text.specs.Orders.{orders_after}
use Rattle.pr_text.specs.Script.{takes_body}
use Rattle.pr_text.proofs.Targets.{a_is_b}
use Rattle.pr_words.proofs.PlainTexts.{plain_text}
use Rattle.pr_text.proofs.script.examples.a_scrape_has_its_body.Goals as goal

pub returns : goal.returns
unfolding orders_after takes_body
returns c =
    let labels : is_utf8 (codes "{a='b'}") ≡ true = plain_text (codes "{a='b'}") refl in
    let first : is_utf8 (codes "m 1 ") ≡ true = plain_text (codes "m 1 ") refl in
    let second : is_utf8 [] ≡ true = plain_text [] refl in
    rw (labels, a_is_b, first, second, labels, a_is_b) refl
