use Rattle.std.proofs.Common.{◌≡◌, arith, subst}
use Rattle.pr_tmpl.proofs.Tens.{rest_left, digits_left, digits_done}
use Rattle.std.specs.Prelude.{string_bytes, ◌++◌}
use Rattle.pr_tmpl.specs.Decimals.{digits_text}
use Rattle.pr_tmpl.proofs.humanize.digits.push_digits.Goals as goal

pub loop-left-preserved : goal.loop-left-preserved
loop-left-preserved c = record {
  few = omega (arith, c.loop-left.invariant.few);
  small = rest_left c.loop-left.left c.loop-left.rest c.power_of_ten-power.result c.power_of_ten-power.ensures.value;
  text = digits_left c.loop-left.left c.loop-left.rest c.power_of_ten-power.result _ _ _ c.loop-left-test.true c.power_of_ten-power.ensures.value c.in_ok-push_byte.ensures c.loop-left.invariant.text;
}

pub returns : goal.returns
returns c =
    let none : c.loop-left.left ≡ 0 = omega (arith, c.loop-left-test.false) in
    digits_done c.loop-left.rest _ _ (subst (λ n. string_bytes c.loop-left.out ++ digits_text n c.loop-left.rest ≡ string_bytes c.args.out.now ++ digits_text c.args.places c.args.number) none c.loop-left.invariant.text)
