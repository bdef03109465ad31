use Rattle.std.proofs.Common.{sym, ap, ◌∙◌, arith}
use Rattle.pr_yaml.proofs.PlainLines.{over, past_bare, ends_before, with_line, not_bare}
use Rattle.pr_yaml.specs.declared.yaml_scan.scalar.Scalar.TheVariants.{Broken}
use Rattle.pr_yaml.specs.declared.yaml_scan.fault.YamlKind.TheVariants.{Colon, NotText}
use Rattle.pr_yaml.specs.declared.yaml_scan.plain.Ending.TheVariants.{LineEnd, AtColon, AtNoText, AtOther}
use Rattle.pr_yaml.proofs.yaml_scan.plain.plain_below.Goals as goal
use Rattle.pr_yaml.proofs.yaml_scan.plain.plain_below.Goals.{in-Some+else-is_bare+then-goes_on+in_ok-push_part+in-AtOther, in-Some+else-is_bare+else-goes_on, in_default}

pub overflow_add-empty : goal.overflow_add-empty
overflow_add-empty c = omega (arith, c.loop-next.invariant.few, c.in-Some.ensures.small, c.in-Some.ensures.next.line)

pub line_number-requires : goal.line_number-requires
line_number-requires c = not_bare c.in-Some.next.here (sym c.if-is_bare.ensures)

pub line_number-requires-in-AtNoText : goal.line_number-requires-in-AtNoText
line_number-requires-in-AtNoText c = not_bare c.in-Some.next.here (sym c.if-is_bare.ensures)

pub loop-next-preserved-then-is_bare : goal.loop-next-preserved-then-is_bare
loop-next-preserved-then-is_bare c = record {
  few = omega (arith, c.loop-next.invariant.few, c.in-Some.ensures.next.line);
  value = sym (past_bare c.args.inside c.args.parent c.loop-next.text.items c.loop-next.end c.loop-next.empty c.loop-next.last c.in-Some.next c.in-Some.ensures.next (sym c.if-is_bare.ensures))
      ∙ c.loop-next.invariant.value;
}

pub loop-next-preserved : goal.loop-next-preserved
loop-next-preserved c = record {
  few = omega arith;
  value = sym (with_line c.args.inside c.args.parent c.loop-next.text.items c.loop-next.end c.loop-next.empty c.loop-next.last c.in-Some.next _ c.push_part.new.text.items LineEnd c.plain_part_of-ending.result.2 c.in-Some.ensures.next
      (sym c.if-is_bare.ensures) (sym c.if-goes_on.ensures) c.plain_part_of-ending.ensures.part (sym c.in-LineEnd.is ∙ c.plain_part_of-ending.ensures.ending) c.plain_part_of-ending.ensures.end c.in_ok-push_part.ensures) ∙ c.loop-next.invariant.value;
}

pub returns-in-AtColon : goal.returns-in-AtColon
returns-in-AtColon c = ap (λ n. Broken n Colon) c.line_number.ensures
    ∙ (sym (with_line c.args.inside c.args.parent c.loop-next.text.items c.loop-next.end c.loop-next.empty c.loop-next.last c.in-Some.next _ c.push_part.new.text.items AtColon c.plain_part_of-ending.result.2 c.in-Some.ensures.next
    (sym c.if-is_bare.ensures) (sym c.if-goes_on.ensures) c.plain_part_of-ending.ensures.part (sym c.in-AtColon.is ∙ c.plain_part_of-ending.ensures.ending) c.plain_part_of-ending.ensures.end c.in_ok-push_part.ensures) ∙ c.loop-next.invariant.value)

pub returns-in-AtNoText : goal.returns-in-AtNoText
returns-in-AtNoText c = ap (λ n. Broken n NotText) c.line_number-in-AtNoText.ensures
    ∙ (sym (with_line c.args.inside c.args.parent c.loop-next.text.items c.loop-next.end c.loop-next.empty c.loop-next.last c.in-Some.next _ c.push_part.new.text.items AtNoText c.plain_part_of-ending.result.2 c.in-Some.ensures.next
    (sym c.if-is_bare.ensures) (sym c.if-goes_on.ensures) c.plain_part_of-ending.ensures.part (sym c.in-AtNoText.is ∙ c.plain_part_of-ending.ensures.ending) c.plain_part_of-ending.ensures.end c.in_ok-push_part.ensures) ∙ c.loop-next.invariant.value)

pub returns : goal.returns
returns c = elim c.match-line_below.branch [
  | in-Some+else-is_bare+then-goes_on+in_ok-push_part+in-AtOther w ↦ rw (c.new.ensures, w.text-is, w.end-is) (sym (with_line c.args.inside c.args.parent c.loop-next.text.items c.loop-next.end
      c.loop-next.empty c.loop-next.last w.in-Some.next _ w.push_part.new.text.items AtOther w.plain_part_of-ending.result.2 w.in-Some.ensures.next (sym w.if-is_bare.ensures) (sym w.if-goes_on.ensures)
      w.plain_part_of-ending.ensures.part (sym w.in-AtOther.is ∙ w.plain_part_of-ending.ensures.ending) w.plain_part_of-ending.ensures.end w.in_ok-push_part.ensures) ∙ c.loop-next.invariant.value)
  | in-Some+else-is_bare+else-goes_on w ↦ rw (c.new.ensures, w.text-is, w.end-is) (sym (ends_before c.args.inside c.args.parent c.loop-next.text.items c.loop-next.end c.loop-next.empty c.loop-next.last
      w.in-Some.next w.in-Some.ensures.next (sym w.if-is_bare.ensures) (sym w.if-goes_on.ensures)) ∙ c.loop-next.invariant.value)
  | in_default w ↦ rw (c.new.ensures, w.text-is, w.end-is) (sym (over c.args.inside c.args.parent c.loop-next.text.items c.loop-next.end c.loop-next.empty c.loop-next.last w.in_default.ensures.next)
      ∙ c.loop-next.invariant.value)
]
