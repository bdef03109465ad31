use Rattle.pr_labels.proofs.GoesOn.{goes_on}
use Rattle.pr_labels.proofs.print.push_named.Goals as goal

pub returns-clause-text : goal.returns-clause-text
returns-clause-text c =
    let name = goes_on c.args.out.now.items _ c.extend_from_slice.new.self.items c.in_ok-extend_from_slice.ensures.items c.as_bytes.ensures.utf8 in
    λ u. c.push_rest.ensures.text (name u)
