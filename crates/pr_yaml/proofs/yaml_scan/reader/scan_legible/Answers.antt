use Rattle.std.proofs.Common.{sym, subst, ◌∙◌, ap, arith, reverse, vec_len, false, ◌≤◌}
use Rattle.pr_yaml.specs.private.Inner.{counts_of}
use Rattle.pr_yaml.specs.private.Legible.{IsLegiblePlace}
use Rattle.pr_yaml.proofs.LegibleParts.{first_legible, next_legible, token_legible}
use Rattle.pr_yaml.specs.declared.yaml_scan.state.Document.TheVariants.{Implied}
use Rattle.pr_yaml.specs.declared.yaml_scan.state.Part.TheVariants.{Over, Gap, Token as TokenPart, Fault}
use Rattle.pr_yaml.proofs.ScanLoop.{the_part, less_left, less_left_token, at_first, after_gap, after_token, at_end, at_fault, counts_more, opened_more, closed_more}
use Rattle.pr_yaml.proofs.yaml_scan.reader.scan_legible.Goals as goal

pub reading-init : goal.reading-init
reading-init c =
    let few : c.first-counts.result.opened ≤ 0 = rw c.first-counts.ensures (omega arith) in
    let closed_few : c.first-counts.result.closed ≤ 0 = rw c.first-counts.ensures (omega arith) in
    record {
      legible = subst IsLegiblePlace (sym c.first.ensures) (first_legible c.args.text.now c.requires.legible);
      counts = c.first-counts.ensures ∙ ap (λ ts. counts_of (reverse ts)) (sym c.new-tokens.ensures.items);
      opened = omega (arith, few);
      closed = omega (arith, closed_few);
      found = at_first c.args.text.now c.new-tokens.result.items _ c.new-tokens.ensures.items (ap (λ p. record { place = p; dashed = false; document = Implied }) c.first.ensures);
    }

pub returns-in-Over : goal.returns-in-Over
returns-in-Over c = at_end c.args.text.now c.reading.tokens.items c.reading.state (the_part c.reading.tokens.items c.reading.counts c.known.result c.reading.state c.in_ok-part_at.field-0 Over c.reading.invariant.counts c.known.ensures c.in_ok-part_at.ensures c.in-Over.is) c.reading.invariant.found

pub returns-in-Fault : goal.returns-in-Fault
returns-in-Fault c = at_fault c.args.text.now c.reading.tokens.items c.reading.state c.in-Fault.place (the_part c.reading.tokens.items c.reading.counts c.known.result c.reading.state c.in_ok-part_at.field-0 (Fault c.in-Fault.place) c.reading.invariant.counts c.known.ensures c.in_ok-part_at.ensures c.in-Fault.is) c.reading.invariant.found

pub reading-smaller-in-Gap : goal.reading-smaller-in-Gap
reading-smaller-in-Gap c = less_left c.reading.state c.in-Gap.next c.known.result c.in_ok-part_at.field-0 c.in_ok-part_at.ensures c.in-Gap.is

pub reading-smaller : goal.reading-smaller
reading-smaller c = less_left_token c.reading.state c.in-Token.next c.in-Token.token c.known.result c.in_ok-part_at.field-0 c.in_ok-part_at.ensures c.in-Token.is

pub reading-preserved-in-Gap : goal.reading-preserved-in-Gap
reading-preserved-in-Gap c = record {
  legible = next_legible c.known.result c.reading.state c.in-Gap.next c.in_ok-part_at.field-0 c.in_ok-part_at.ensures c.in-Gap.is c.reading.invariant.legible;
  counts = c.reading.invariant.counts;
  opened = c.reading.invariant.opened;
  closed = c.reading.invariant.closed;
  found = after_gap c.args.text.now c.reading.tokens.items c.reading.state c.in-Gap.next (the_part c.reading.tokens.items c.reading.counts c.known.result c.reading.state c.in_ok-part_at.field-0 (Gap c.in-Gap.next) c.reading.invariant.counts c.known.ensures c.in_ok-part_at.ensures c.in-Gap.is) c.reading.invariant.found;
}

pub reading-preserved : goal.reading-preserved
reading-preserved c = record {
  legible = token_legible c.known.result c.reading.state c.in-Token.next c.in-Token.token c.in_ok-part_at.field-0 c.in_ok-part_at.ensures c.in-Token.is c.reading.invariant.legible;
  counts = counts_more c.reading.tokens.items c.push.new.self.items c.reading.counts c.after-counts.result c.in-Token.token c.in_ok-push-in-Token.ensures.items c.reading.invariant.counts c.after-counts.ensures;
  opened = opened_more c.reading.counts c.after-counts.result c.in-Token.token (vec_len c.reading.tokens) (vec_len c.push.new.self) c.after-counts.ensures c.reading.invariant.opened c.in_ok-push-in-Token.ensures.len;
  closed = closed_more c.reading.counts c.after-counts.result c.in-Token.token (vec_len c.reading.tokens) (vec_len c.push.new.self) c.after-counts.ensures c.reading.invariant.closed c.in_ok-push-in-Token.ensures.len;
  found = after_token c.args.text.now c.reading.tokens.items c.reading.state c.in-Token.token c.in-Token.next c.push.new.self.items (the_part c.reading.tokens.items c.reading.counts c.known.result c.reading.state c.in_ok-part_at.field-0 (TokenPart c.in-Token.token c.in-Token.next) c.reading.invariant.counts c.known.ensures c.in_ok-part_at.ensures c.in-Token.is) c.in_ok-push-in-Token.ensures.items c.reading.invariant.found;
}

pub part_at-requires : goal.part_at-requires
part_at-requires c = c.reading.invariant.legible
