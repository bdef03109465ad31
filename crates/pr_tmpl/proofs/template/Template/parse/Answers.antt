use Rattle.pr_tmpl.proofs.TextWays.{is_template, is_none, rest_short}
use Rattle.pr_tmpl.proofs.template.Template.parse.Goals as goal

pub place_of-requires : goal.place_of-requires
place_of-requires c = rest_short c.as_bytes-bytes.result.now c.in-Err-Bad.rest.now (rw c.in-Err-Bad.field-0-is at c.in-Err-Bad.ensures)

pub returns-in-Ok : goal.returns-in-Ok
returns-in-Ok c = is_template c.args.text.now c.as_bytes-bytes.result.now c.in-Ok.parts.items c.new.result c.as_bytes-bytes.ensures.value c.in-Ok.ensures c.new.ensures

pub returns-in-Err-Bad : goal.returns-in-Err-Bad
returns-in-Err-Bad c = is_none c.args.text.now c.as_bytes-bytes.result.now c.in-Err-Bad.rest.now c.place_of.result c.as_bytes-bytes.ensures.value (rw c.in-Err-Bad.field-0-is at c.in-Err-Bad.ensures) c.place_of.ensures
