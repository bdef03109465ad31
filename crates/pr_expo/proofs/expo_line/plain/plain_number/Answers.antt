use Rattle.std.proofs.Common.{◌≡◌, ◌<◌, ap, ◌∙◌, sym, subst, take, drop, length, not, rules}
use Rattle.std.specs.Char.{is_ascii_digit}
use Rattle.std.specs.List.{position_or_len}
use Rattle.pr_expo.proofs.PlainFronts.{digits_lead}
use Rattle.pr_expo.proofs.expo_line.plain.plain_number.Goals as goal

pub returns : goal.returns
returns c =
    let text = c.args.text.now in
    let at : c.digits.result ≡ position_or_len (λ b. not (is_ascii_digit b)) text = c.digits.ensures ∙ ap (position_or_len (λ b. not (is_ascii_digit b))) c.as_bytes.ensures.value in
    let some : 0 < length c.split_at.result.0.now = search rules in
    digits_lead c.args.head text c.in_ok-number.number c.split_at.result.1.now c.utf8.text
    (c.in_ok-number.ensures ∙ c.split_at.ensures.front ∙ ap (λ n. take n text) at)
    (c.split_at.ensures.back ∙ ap (λ n. drop n text) at)
    (subst (λ xs. 0 < length xs) (sym c.in_ok-number.ensures) some)
