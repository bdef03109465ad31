use Rattle.std.proofs.Common.{◌+◌, length, arith}
use Rattle.pr_text.proofs.BadLines.{no_order, not_passed, not_of_body, refused}
use Rattle.pr_text.proofs.script.laws.lines_that_are_no_text_are_refused.Goals as goal

pub returns : goal.returns
returns c = record {
  alone = λ line body h. no_order line body h;
  passed = λ line h. not_passed line h;
  body = λ line h. not_of_body line h;
  order = λ before after line h. refused 0 (length before + 1) before after line h (omega arith);
}
