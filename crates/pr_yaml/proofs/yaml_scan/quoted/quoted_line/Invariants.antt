use Rattle.std.proofs.Common.{◌≡◌, ℕ, ◌≤◌, ◌<◌, ◌-◌, ◌+◌, false, length, drop}
use Rattle.pr_yaml.specs.Bytes.{is_bare}
use Rattle.pr_yaml.specs.Quoted.{quoted_line, after_bytes}
use Rattle.pr_yaml.specs.declared.yaml_scan.quoted.Within.TheVariants.{InText}
use Rattle.pr_yaml.specs.private.Inner.{IsSmall}
use Rattle.pr_yaml.proofs.yaml_scan.quoted.quoted_line.Given as goal

abbrev pub invariant-loop-at : goal.invariant-loop-at
invariant-loop-at l = record {
  within_line : l.at ≤ length l.line;
  solid : (k : ℕ) → k < l.solid → is_bare (drop k l.line) ≡ false;
  small : IsSmall l.within;
  value : after_bytes l.text.items (l.from + l.at) (quoted_line l.quote l.within (drop l.at l.line)) ≡ after_bytes l.fn.text.items l.from (quoted_line l.quote InText l.line);
}

abbrev pub decreases-loop-at : goal.decreases-loop-at
decreases-loop-at l = length l.line - l.at
