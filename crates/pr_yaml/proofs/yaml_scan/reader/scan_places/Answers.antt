use Rattle.std.proofs.Common.{◌∙◌, ap, sym, subst, take}
use Rattle.std.specs.Str.{IsUtf8}
use Rattle.pr_yaml.specs.Bytes.{legible}
use Rattle.pr_yaml.proofs.ScanLoop.{is_whole, is_front, of_legible, only_places}
use Rattle.pr_yaml.proofs.LegibleLines.{whole_lines}
use Rattle.pr_yaml.proofs.LegibleParts.{front_of}
use Rattle.pr_yaml.proofs.yaml_scan.reader.scan_places.Goals as goal

pub returns-in-Ok-clause-scan : goal.returns-in-Ok-clause-scan
returns-in-Ok-clause-scan c = of_legible c.args.bytes.now c.without_mark-text.result.now c.scan_legible.result (is_whole c.without_mark-text.result.now c.in-Ok.ensures.cases.1 ∙ ap legible c.without_mark-text.ensures) c.scan_legible.ensures

pub returns-in-Ok-clause-only : goal.returns-in-Ok-clause-only
returns-in-Ok-clause-only c = only_places c.args.bytes.now c.scan_legible.result (returns-in-Ok-clause-scan c)

pub returns-in_ok-push-in-Err-clause-scan : goal.returns-in_ok-push-in-Err-clause-scan
returns-in_ok-push-in-Err-clause-scan c = of_legible c.args.bytes.now c.deref.result.now c.scan_legible-in-Err.result
    (c.deref.ensures.value ∙ (is_front c.without_mark-text.result.now c.in_ok-legible-in-Err.legible.items c.push.new.self.items c.valid_up_to.result c.in-Err.ensures.cases.0 (c.valid_up_to.ensures ∙ c.in-Err.ensures.valid_len)
    c.in_ok-legible-in-Err.ensures.items c.in_ok-push-in-Err.ensures.items ∙ ap legible c.without_mark-text.ensures)) c.scan_legible-in-Err.ensures

pub returns-in_ok-push-in-Err-clause-only : goal.returns-in_ok-push-in-Err-clause-only
returns-in_ok-push-in-Err-clause-only c = only_places c.args.bytes.now c.scan_legible-in-Err.result (returns-in_ok-push-in-Err-clause-scan c)

pub scan_legible-requires-clause-legible : goal.scan_legible-requires-clause-legible
scan_legible-requires-clause-legible c = whole_lines c.without_mark-text.result.now c.in-Ok.ensures.cases.1

pub scan_legible-requires-in-Err-clause-legible : goal.scan_legible-requires-in-Err-clause-legible
scan_legible-requires-in-Err-clause-legible c = front_of c.without_mark-text.result.now c.in_ok-legible-in-Err.legible.items c.deref.result.now c.valid_up_to.result c.in_ok-legible-in-Err.ensures.items
    (subst (λ n. IsUtf8 (take n c.without_mark-text.result.now)) (sym c.valid_up_to.ensures) c.in-Err.ensures.cases.1.front) (c.deref.ensures.value ∙ c.in_ok-push-in-Err.ensures.items)
