use Rattle.std.proofs.Common.{rules, ◌≡◌, ◌+◌, ℕ, List, Option, Some, IfSome, String, Global, length, sym, subst}
use Rattle.pr_outside.specs.private.Words.{IsWord}
use Rattle.pr_outside.proofs.WordTexts.{AreTaken, words_more}
use Rattle.pr_outside.proofs.status.words.words_of.Goals as goal

pub taking-preserved : goal.taking-preserved
taking-preserved g c =
    let told = g.L.CommandLine.words c.args.line.now in
    let words = c.taking.words.items in
    let count : c.len.result ≡ length words = search rules in
    let word : IfSome told (λ (all : List (List ℕ)). IsWord all (length words + 1) (Some c.in-Some.word)) =
    subst (λ (o : Option (String Global)). IfSome told (λ (all : List (List ℕ)). IsWord all (length words + 1) o)) c.in-Some.is
    (subst (λ (n : ℕ). IfSome told (λ (all : List (List ℕ)). IsWord all (n + 1) c.in_ok-word.field-0)) count c.in_ok-word.ensures) in
    subst (λ (l : List (String Global)). IfSome told (AreTaken l)) (sym c.in_ok-push.ensures.items) (words_more told words c.in-Some.word c.taking.invariant word)
