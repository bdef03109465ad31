use Rattle.std.proofs.Common.{◌≡◌, ◌^◌, ◌<◌, ◌≤◌, ◌++◌, string_bytes}
use Rattle.pr_tmpl.specs.Decimals.{cut_text}
use Rattle.pr_tmpl.proofs.humanize.digits.push_cut.Given as goal

abbrev pub invariant-loop-rest : goal.invariant-loop-rest
invariant-loop-rest l = record {
  few : l.left ≤ 30;
  small : l.rest < 10 ^ l.left;
  text : string_bytes l.out ++ cut_text l.left l.rest ≡ string_bytes l.initial.out ++ cut_text l.places l.number;
}

abbrev pub decreases-loop-rest : goal.decreases-loop-rest
decreases-loop-rest l = l.left
