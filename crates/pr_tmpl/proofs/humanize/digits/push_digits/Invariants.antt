use Rattle.std.proofs.Common.{◌≡◌, ◌^◌, ◌<◌, ◌≤◌, ◌++◌, string_bytes}
use Rattle.pr_tmpl.specs.Decimals.{digits_text}
use Rattle.pr_tmpl.proofs.humanize.digits.push_digits.Given as goal

abbrev pub invariant-loop-left : goal.invariant-loop-left
invariant-loop-left l = record {
  few : l.left ≤ 30;
  small : l.rest < 10 ^ l.left;
  text : string_bytes l.out ++ digits_text l.left l.rest ≡ string_bytes l.initial.out ++ digits_text l.places l.number;
}

abbrev pub decreases-loop-left : goal.decreases-loop-left
decreases-loop-left l = l.left
