use Rattle.std.proofs.Common.{sym, ◌∙◌, ap, arith, length}
use Rattle.pr_yaml.specs.declared.yaml_scan.scalar.Scalar.TheVariants.{Broken}
use Rattle.pr_yaml.specs.declared.yaml_scan.fault.YamlKind.TheVariants.{NotText}
use Rattle.pr_yaml.specs.Block.{last_feeds}
use Rattle.pr_yaml.proofs.BlockLines.{less_one, begin, is_zero, is_some, over, ends_before, broken, empty_row, full_row, not_clean}
use Rattle.pr_yaml.proofs.yaml_scan.block.block_below.Goals as goal

pub loop-next-init : goal.loop-next-init
loop-next-init c = record {
  few = omega arith;
  small = omega arith;
  value = begin c.args.style c.args.chomp c.args.inside c.args.parent c.indentation-indent.result c.new-text.result.items c.args.p.now c.copy-last.result c.indentation-indent.ensures c.new-text.ensures.items
      c.copy-last.ensures;
}

pub last_feeds-requires : goal.last_feeds-requires
last_feeds-requires c = omega (arith, c.loop-next.invariant.small)

pub push_row-requires : goal.push_row-requires
push_row-requires c = omega (arith, c.loop-next.invariant.small)

pub last_feeds-feeds-requires : goal.last_feeds-feeds-requires
last_feeds-feeds-requires c = omega (arith, c.loop-next.invariant.small)

pub overflow_add-empty : goal.overflow_add-empty
overflow_add-empty c = omega (arith, c.loop-next.invariant.small)

pub line_number-requires : goal.line_number-requires
line_number-requires c = not_clean c.in-Some.next.here (sym c.if-is_broken.ensures)

pub returns-then-is_broken : goal.returns-then-is_broken
returns-then-is_broken c = ap (λ n. Broken n NotText) c.line_number.ensures ∙ (sym (broken c.args.style c.args.chomp c.args.inside c.indentation-indent.result c.loop-next.text.items c.loop-next.earlier c.loop-next.empty c.loop-next.last c.in-Some.next c.in-Some.ensures.next (sym c.if-belongs.ensures) (sym c.if-is_broken.ensures)) ∙ c.loop-next.invariant.value)

pub loop-next-preserved-then-is_empty : goal.loop-next-preserved-then-is_empty
loop-next-preserved-then-is_empty c = record {
  few = omega (arith, c.loop-next.invariant.few, c.in-Some.ensures.next.line);
  small = omega (arith, c.loop-next.invariant.few, c.in-Some.ensures.next.line, c.in-Some.ensures.small);
  value = sym (empty_row c.args.style c.args.chomp c.args.inside c.indentation-indent.result c.loop-next.text.items c.loop-next.earlier c.loop-next.empty c.loop-next.last c.in-Some.next c.row_of-row.result.now c.in-Some.ensures.next (sym c.if-belongs.ensures) (sym c.if-is_broken.ensures) c.row_of-row.ensures (is_zero (length c.row_of-row.result.now) (sym c.if-is_empty.ensures))) ∙ c.loop-next.invariant.value;
}

pub loop-next-preserved : goal.loop-next-preserved
loop-next-preserved c = record {
  few = omega arith;
  small = omega arith;
  value = rw c.earlier_of-earlier.ensures (sym (full_row c.args.style c.args.chomp c.args.inside c.indentation-indent.result c.loop-next.text.items c.loop-next.earlier c.loop-next.empty c.loop-next.last c.in-Some.next c.row_of-row.result.now c.push_row.new.text.items c.in-Some.ensures.next (sym c.if-belongs.ensures)
      (sym c.if-is_broken.ensures) c.row_of-row.ensures (is_some (length c.row_of-row.result.now) (sym c.if-is_empty.ensures)) c.in_ok-push_row.ensures) ∙ c.loop-next.invariant.value);
}

pub returns-else-belongs : goal.returns-else-belongs
returns-else-belongs c = rw (c.new.ensures, c.in_ok-push_chomped.ensures, c.last_feeds.ensures) (sym (ends_before c.args.style c.args.chomp c.args.inside c.indentation-indent.result c.loop-next.text.items c.loop-next.earlier c.loop-next.empty c.loop-next.last c.in-Some.next c.in-Some.ensures.next (sym c.if-belongs.ensures)) ∙ c.loop-next.invariant.value)

pub returns : goal.returns
returns c = rw (c.new-2.ensures, c.in_ok-push_chomped-2.ensures, c.end.ensures, c.min.ensures, c.last_feeds-feeds.ensures, less_one (last_feeds c.loop-next.earlier c.loop-next.empty))
    (sym (over c.args.style c.args.chomp c.args.inside c.indentation-indent.result c.loop-next.text.items c.loop-next.earlier c.loop-next.empty c.loop-next.last c.in_default.ensures.next) ∙ c.loop-next.invariant.value)
