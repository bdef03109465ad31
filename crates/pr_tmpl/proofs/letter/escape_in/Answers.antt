use Rattle.std.proofs.Common.{arith, ap, ◌∙◌}
use Rattle.pr_tmpl.specs.Pieces.{kind_of_all}
use Rattle.pr_tmpl.proofs.TextKept.{quoted_text, escape_keeps}
use Rattle.pr_tmpl.proofs.Letters.{follows_escape}
use Rattle.pr_tmpl.proofs.letter.escape_in.Goals as goal

pub returns-in-Ok-Ok-clause-read : goal.returns-in-Ok-Ok-clause-read
returns-in-Ok-Ok-clause-read c = let s = rw (c.deref.ensures.value, c.in-Ok-Ok.field-0-is) at c.in-Ok-Ok.ensures.read in follows_escape c.args.text.now c.in_ok-quoted.quoted.items c.skip.result.now c.in-Ok-Ok.means.items c.kind_of_all.result c.len-taken.result c.in_ok-quoted.ensures (omega (arith, c.len-taken.ensures, c.in_ok-quoted.quoted.ok)) s (c.kind_of_all.ensures ∙ ap kind_of_all c.deref-in-Ok-Ok.ensures.value) c.skip.ensures

pub returns-in-Ok-Ok-clause-text : goal.returns-in-Ok-Ok-clause-text
returns-in-Ok-Ok-clause-text c = let s = rw (c.deref.ensures.value, c.in-Ok-Ok.field-0-is) at c.in-Ok-Ok.ensures.read in let t = rw (c.deref.ensures.value, c.in-Ok-Ok.field-0-is) at c.in-Ok-Ok.ensures.text in let f = follows_escape c.args.text.now c.in_ok-quoted.quoted.items c.skip.result.now c.in-Ok-Ok.means.items c.kind_of_all.result c.len-taken.result c.in_ok-quoted.ensures (omega (arith, c.len-taken.ensures, c.in_ok-quoted.quoted.ok)) s (c.kind_of_all.ensures ∙ ap kind_of_all c.deref-in-Ok-Ok.ensures.value) c.skip.ensures in (t (quoted_text c.args.text.now c.in_ok-quoted.quoted.items c.in_ok-quoted.ensures), escape_keeps c.args.text.now c.skip.result.now f.2)
