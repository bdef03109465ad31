use Rattle.std.proofs.Common.{◌+◌, true, false}
use Rattle.pr_yaml.specs.Lines.{end_line}
use Rattle.pr_yaml.proofs.LegibleParts.{closed_text, open_text, joined_text, quoted_text, cut_text}
use Rattle.pr_yaml.proofs.yaml_scan.reader.quoted_at.Goals as goal

pub closed_at-requires-clause-text : goal.closed_at-requires-clause-text
closed_at-requires-clause-text c = closed_text c.args.quote c.args.p.now.here c.requires.some c.requires.legible.0 c.in_ok-text.field-0 c.in_ok-text.ensures.value c.in-Closed.text c.in-Closed.taken c.in-Closed.is

pub takes_text-requires-clause-text : goal.takes_text-requires-clause-text
takes_text-requires-clause-text c =
    let p = c.args.p.now in
    quoted_text c.in_ok-found-in-OpenEnd.found c.args.quote c.in-OpenEnd.text c.into_vec.result.items false (end_line p.line p.here p.below) (p.line + 1) p.below c.in_ok-found-in-OpenEnd.ensures c.into_vec.ensures
    (open_text c.args.quote p.here c.requires.some c.requires.legible.0 c.in_ok-text.field-0 c.in_ok-text.ensures.value c.in-OpenEnd.text c.in-OpenEnd.is) c.requires.legible.1

pub takes_text-requires-in-JoinedEnd-clause-text : goal.takes_text-requires-in-JoinedEnd-clause-text
takes_text-requires-in-JoinedEnd-clause-text c =
    let p = c.args.p.now in
    quoted_text c.in_ok-found-in-JoinedEnd.found c.args.quote c.in-JoinedEnd.text c.into_vec-in-JoinedEnd.result.items true (end_line p.line p.here p.below) (p.line + 1) p.below c.in_ok-found-in-JoinedEnd.ensures c.into_vec-in-JoinedEnd.ensures
    (joined_text c.args.quote p.here c.requires.some c.requires.legible.0 c.in_ok-text.field-0 c.in_ok-text.ensures.value c.in-JoinedEnd.text c.in-JoinedEnd.is) c.requires.legible.1

pub takes_text-requires-in-CutEnd-clause-text : goal.takes_text-requires-in-CutEnd-clause-text
takes_text-requires-in-CutEnd-clause-text c = let p = c.args.p.now in cut_text c.cut_fault.result (end_line p.line p.here p.below) p.line p.below c.cut_fault.ensures
