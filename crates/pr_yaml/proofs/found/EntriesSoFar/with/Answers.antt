use Rattle.std.proofs.Common.{ap, sym, ◌∙◌}
use Rattle.pr_yaml.proofs.Keys.{known_more}
use Rattle.pr_yaml.proofs.found.EntriesSoFar.with.Goals as goal

pub invariant_of-result : goal.invariant_of-result
invariant_of-result c = record {
  known = known_more c.args.self.keys c.insert.new.self c.as_bytes.result c.args.self.entries.items c.push.new.self.items c.in_ok-entry.entry c.in_ok-insert.ensures.updates (ap (λ e. e.key) c.in_ok-entry.ensures ∙ sym c.as_bytes.ensures.value) c.args.self.known c.in_ok-push.ensures.items;
}
