use Rattle.std.proofs.Common.{ap, ◌∙◌}
use Rattle.pr_ast.specs.declared.lex.token.TokenKind.TheVariants.{Text as TextKind}
use Rattle.pr_ast.proofs.Rests.{string_rest}
use Rattle.pr_ast.proofs.lex.reader.text_in.Goals as goal

pub returns-in-Ok-clause-read : goal.returns-in-Ok-clause-read
returns-in-Ok-clause-read c =
    let ok = rw c.unwrap.ensures at c.from_utf8.ensures.ok in
    record {
      longest = rw c.place_of.ensures c.in-Ok.ensures.place;
      content = c.in-Ok.bytes.items;
      whole = string_rest c.args.text.now c.in-Ok.bytes.items c.in-Ok.rest.now c.place_of.result c.place_of.ensures c.in-Ok.ensures.tree;
      is = ap TextKind (c.new-content.ensures ∙ ap (λ v. v.items) ok);
    }
