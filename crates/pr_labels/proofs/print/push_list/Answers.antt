use Rattle.pr_labels.proofs.GoesOn.{goes_on, goes_on_if, open_text, close_text}
use Rattle.pr_labels.proofs.print.push_list.Goals as goal

pub returns-in_err-push_pairs-clause-text : goal.returns-in_err-push_pairs-clause-text
returns-in_err-push_pairs-clause-text c =
    let opens = goes_on c.args.out.now.items _ c.extend_from_slice.new.self.items c.in_ok-extend_from_slice.ensures.items open_text in
    λ u. c.in_err-push_pairs.ensures.text (opens u)

pub returns-clause-text : goal.returns-clause-text
returns-clause-text c =
    let opens = goes_on c.args.out.now.items _ c.extend_from_slice.new.self.items c.in_ok-extend_from_slice.ensures.items open_text in
    let closes = goes_on_if c.extend_from_slice-2.result c.push_pairs.new.out.items _ c.extend_from_slice-2.new.self.items c.extend_from_slice-2.ensures.items close_text in
    λ u. closes (c.in_ok-push_pairs.ensures.text (opens u))
