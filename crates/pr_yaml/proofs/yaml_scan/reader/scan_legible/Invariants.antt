use Rattle.std.proofs.Common.{◌≡◌, ◌≤◌, ◌++◌, [], List, Option, reverse, vec_len}
use Rattle.pr_yaml.specs.declared.yaml_scan.token.Token.{Token}
use Rattle.pr_yaml.specs.declared.yaml_scan.fault.BadPlace.{BadPlace}
use Rattle.pr_yaml.specs.Tokens.{Scans, first_state}
use Rattle.pr_yaml.specs.private.Inner.{counts_of}
use Rattle.pr_yaml.specs.Scan.{left}
use Rattle.pr_yaml.specs.private.Legible.{IsLegiblePlace}
use Rattle.pr_yaml.proofs.yaml_scan.reader.scan_legible.Given as goal

abbrev pub invariant-reading : goal.invariant-reading
invariant-reading l = record {
  legible : IsLegiblePlace l.state.place;
  counts : l.counts ≡ counts_of (reverse l.tokens.items);
  opened : l.counts.opened ≤ vec_len l.tokens;
  closed : l.counts.closed ≤ vec_len l.tokens;
  found : (ts : List Token) (end : Option BadPlace) → Scans (reverse l.tokens.items) l.state ts end → Scans [] (first_state l.text) (l.tokens.items ++ ts) end;
}

abbrev pub decreases-reading : goal.decreases-reading
decreases-reading l = left l.state.place
