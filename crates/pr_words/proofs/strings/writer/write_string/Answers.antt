use Rattle.std.proofs.Common.{rules, ◌≡◌, ◌++◌}
use Rattle.pr_words.specs.Quoted.{quoted_text}
use Rattle.pr_words.proofs.WrittenUtf8.{goes_on}
use Rattle.pr_words.proofs.strings.writer.write_string.Goals as goal

pub returns-else-is_err-clause-text : goal.returns-else-is_err-clause-text
returns-else-is_err-clause-text c =
    let written : c.push_quoted-written.new.out.items ≡ c.args.out.now.items ++ quoted_text c.args.bytes.now = search rules in
    λ u v. goes_on c.args.out.now.items c.args.bytes.now c.push_quoted-written.new.out.items written u v
