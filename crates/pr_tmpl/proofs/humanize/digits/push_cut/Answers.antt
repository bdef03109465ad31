use Rattle.std.proofs.Common.{arith}
use Rattle.pr_tmpl.proofs.Tens.{some_left, digit_left, rest_left, cut_left, cut_done}
use Rattle.pr_tmpl.proofs.humanize.digits.push_cut.Goals as goal

pub overflow_cast-rest : goal.overflow_cast-rest
overflow_cast-rest c =
    let left = some_left c.loop-rest.left c.loop-rest.rest c.loop-rest.invariant.small (λ z. omega (arith, z, c.loop-rest-test.true)) in
    omega (arith, digit_left c.loop-rest.left c.loop-rest.rest c.power_of_ten-power.result left c.loop-rest.invariant.small c.power_of_ten-power.ensures.value)

pub overflow_add-rest : goal.overflow_add-rest
overflow_add-rest c =
    let left = some_left c.loop-rest.left c.loop-rest.rest c.loop-rest.invariant.small (λ z. omega (arith, z, c.loop-rest-test.true)) in
    omega (arith, digit_left c.loop-rest.left c.loop-rest.rest c.power_of_ten-power.result left c.loop-rest.invariant.small c.power_of_ten-power.ensures.value)

pub push_byte-requires : goal.push_byte-requires
push_byte-requires c =
    let left = some_left c.loop-rest.left c.loop-rest.rest c.loop-rest.invariant.small (λ z. omega (arith, z, c.loop-rest-test.true)) in
    omega (arith, digit_left c.loop-rest.left c.loop-rest.rest c.power_of_ten-power.result left c.loop-rest.invariant.small c.power_of_ten-power.ensures.value)

pub loop-rest-preserved : goal.loop-rest-preserved
loop-rest-preserved c =
    let left = some_left c.loop-rest.left c.loop-rest.rest c.loop-rest.invariant.small (λ z. omega (arith, z, c.loop-rest-test.true)) in
    record {
      few = omega (arith, c.loop-rest.invariant.few);
      small = rest_left c.loop-rest.left c.loop-rest.rest c.power_of_ten-power.result c.power_of_ten-power.ensures.value;
      text = cut_left c.loop-rest.left c.loop-rest.rest c.power_of_ten-power.result _ _ _ (λ z. omega (arith, z, c.loop-rest-test.true)) left c.power_of_ten-power.ensures.value c.in_ok-push_byte.ensures c.loop-rest.invariant.text;
    }

pub returns : goal.returns
returns c = cut_done c.loop-rest.left c.loop-rest.rest _ _ (omega (arith, c.loop-rest-test.false)) c.loop-rest.invariant.text
