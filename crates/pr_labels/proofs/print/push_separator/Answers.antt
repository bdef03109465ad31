use Rattle.pr_labels.proofs.GoesOn.{goes_on_if, open_text, comma_text}
use Rattle.pr_labels.proofs.print.push_separator.Goals as goal

pub returns-then-started-clause-text : goal.returns-then-started-clause-text
returns-then-started-clause-text c = goes_on_if c.extend_from_slice.result c.args.out.now.items _ c.extend_from_slice.new.self.items c.extend_from_slice.ensures.items comma_text

pub returns-else-started-clause-text : goal.returns-else-started-clause-text
returns-else-started-clause-text c = goes_on_if c.extend_from_slice-else-started.result c.args.out.now.items _ c.extend_from_slice-else-started.new.self.items c.extend_from_slice-else-started.ensures.items open_text
