use Rattle.pr_labels.proofs.GoesOn.{goes_on, goes_on_if, equals_text}
use Rattle.pr_labels.proofs.print.push_pair.Goals as goal

pub returns-in_err-extend_from_slice-2-clause-text : goal.returns-in_err-extend_from_slice-2-clause-text
returns-in_err-extend_from_slice-2-clause-text c =
    let name = goes_on c.args.out.now.items _ c.extend_from_slice.new.self.items c.in_ok-extend_from_slice.ensures.items c.as_bytes.ensures.utf8 in
    let equals = goes_on_if c.extend_from_slice-2.result c.extend_from_slice.new.self.items _ c.extend_from_slice-2.new.self.items c.extend_from_slice-2.ensures.items equals_text in
    λ u. equals (name u)

pub returns-clause-text : goal.returns-clause-text
returns-clause-text c =
    let name = goes_on c.args.out.now.items _ c.extend_from_slice.new.self.items c.in_ok-extend_from_slice.ensures.items c.as_bytes.ensures.utf8 in
    let equals = goes_on c.extend_from_slice.new.self.items _ c.extend_from_slice-2.new.self.items c.in_ok-extend_from_slice-2.ensures.items equals_text in
    λ u. c.write_string.ensures.text c.as_bytes-2.ensures.utf8 (equals (name u))
