use Rattle.std.proofs.Common.{sym, ◌∙◌}
use Rattle.pr_tmpl.proofs.Letters.{whole, the_place, read_before, unread_string}
use Rattle.pr_tmpl.proofs.letter.string_in.Goals as goal

pub returns-then-is_empty-clause-read : goal.returns-then-is_empty-clause-read
returns-then-is_empty-clause-read c = whole _ c.in-Ok.bytes.items c.in-Ok.rest.now c.in-Ok.ensures.tree (sym (c.if-is_empty.true) ∙ c.is_empty.ensures)

pub returns-else-is_empty-clause-read : goal.returns-else-is_empty-clause-read
returns-else-is_empty-clause-read c = record { is = read_before _ c.in-Ok.bytes.items c.in-Ok.rest.now c.in-Ok.ensures.read (sym (c.if-is_empty.false) ∙ c.is_empty.ensures); place_is = the_place _ _ c.in-Ok.ensures.place }

pub returns-in-Err-Bad-clause-read : goal.returns-in-Err-Bad-clause-read
returns-in-Err-Bad-clause-read c = let q = rw c.in-Err-Bad.field-0-is at c.in-Err-Bad.ensures.read in record { is = unread_string c.args.text.now c.in-Err-Bad.rest.now q; place_is = the_place c.args.text.now _ (rw c.in-Err-Bad.field-0-is at c.in-Err-Bad.ensures.place) }
