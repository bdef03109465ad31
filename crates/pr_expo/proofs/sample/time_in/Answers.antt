use Rattle.std.proofs.Common.{◌≡◌, Ok, rules, subst}
use Rattle.std.specs.Str.Parse.{ParsesSigned, signed_digits_value}
use mir.Syntax.{w64}
use Rattle.pr_expo.proofs.Times.{time_parses}
use Rattle.pr_expo.proofs.sample.time_in.Goals as goal

pub returns : goal.returns
returns c =
    let r : c.parse.result ≡ Ok (signed_digits_value 10 c.args.text.now) =
    time_parses c.args.text.now c.requires.0 c.parse.result c.requires.1.0 c.requires.1.1 (subst (λ t. ParsesSigned w64 10 t c.parse.result) c.as_str.ensures c.parse.ensures.value.0) in
    search (rules, r)
