use Rattle.std.proofs.Common.{◌≡◌, ℕ, suc, ◌-◌, List, sym, ◌∙◌, refl, arith}
use Rattle.pr_parse.specs.declared.grammar.kind.TokenClass.{TokenClass}
use Rattle.pr_parse.specs.Seen.{kinds_of}
use Rattle.pr_parse.specs.Faults.{kind_before, second_before}
use Rattle.pr_parse.proofs.kinds.second_before.Goals as goal

second_known : (ks : List TokenClass) (n m : ℕ) → n ≡ suc m → second_before ks n ≡ kind_before ks m
second_known ks n m e = rw e refl

pub returns-else-place-eq0 : goal.returns-else-place-eq0
returns-else-place-eq0 c = c.kind_before.ensures ∙ sym (second_known (kinds_of c.args.tokens.now) c.args.place (c.args.place - 1) (omega arith))
