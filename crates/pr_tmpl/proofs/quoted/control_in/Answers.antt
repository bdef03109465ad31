use Rattle.std.proofs.Common.{◌∙◌, ap}
use Rattle.pr_tmpl.specs.private.Quotes.{first_byte}
use Rattle.pr_tmpl.proofs.TextKept.{kind_text, any_kind, escape_control}
use Rattle.pr_tmpl.proofs.quoted.control_in.Goals as goal

pub returns-in-Plain-clause-text : goal.returns-in-Plain-clause-text
returns-in-Plain-clause-text c =
    let plain = rw (c.in-Some.is, c.in-Plain.is) at c.in_ok-letter.ensures.read in
    kind_text c.in-Plain.kind c.args.text.now c.in-Some.rest.now c.in-Plain.byte plain.bytes_are plain.kind_is

pub returns-in-Escape-clause-read : goal.returns-in-Escape-clause-read
returns-in-Escape-clause-read c =
    let escape = rw (c.in-Some.is, c.in-Escape.is) at c.in_ok-letter.ensures.read in
    escape_control c.args.text.now c.in-Some.rest.now c.in-Escape.means.items c.in-Escape.kind c.first_of.result escape (c.first_of.ensures ∙ ap first_byte c.deref.ensures.value)

pub returns-in-Escape-clause-text : goal.returns-in-Escape-clause-text
returns-in-Escape-clause-text c =
    let kept = rw (c.in-Some.is, c.in-Escape.is) at c.in_ok-letter.ensures.text in
    any_kind c.in-Escape.kind c.args.text.now c.in-Some.rest.now kept.1
