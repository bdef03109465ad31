use Rattle.std.proofs.Common.{◌≡◌, ◌+◌, length}
use Rattle.std.specs.Option.{option_map}
use Rattle.pr_manager.specs.private.Finding.{place_of}
use Rattle.pr_manager.specs.private.Naming.{is_kept_named}
use Rattle.pr_manager.proofs.finding.place_of.Given as goal

abbrev pub invariant-finding : goal.invariant-finding
invariant-finding g l = record {
  same : place_of (is_kept_named l.file l.name) l.groups ≡ option_map (λ m. l.place + m) (place_of (is_kept_named l.file l.name) l.rest);
  count : l.place + length l.rest ≡ length l.groups;
}

abbrev pub decreases-finding : goal.decreases-finding
decreases-finding g l = length l.rest
