use Rattle.std.proofs.Common.{ℤ, ◌≤ℤ◌, ap, sym, subst, ◌∙◌, w64}
use Rattle.std.proofs.lemmas.Int.{to_z-of_z}
use Rattle.spec_history.specs.Lookback.{is_after}
use Rattle.pr_head.specs.private.Stored.{trimmed}
use Rattle.pr_head.specs.private.Holds.{IsWhole}
use Rattle.pr_head.specs.private.Oldest.{AreSince}
use Rattle.pr_head.proofs.Oldest.{untouched}
use Rattle.pr_head.proofs.Trimming.{whole_trimmed}
use Rattle.pr_head.proofs.head.Head.trim.Goals as goal

pub returns-then-is_later-clause-later : goal.returns-then-is_later-clause-later
returns-then-is_later-clause-later c =
    let time = to_z-of_z w64 c.args.before c.ranges.before in
    let later = sym (ap (λ b. is_after b c.self.inside.oldest) time) ∙ sym c.is_later.ensures ∙ c.if-is_later.true in
    sym (untouched c.args.before c.self.inside.oldest c.args.self.now later (subst (AreSince c.self.inside.oldest) c.self.view_is c.self.invariant.1))

pub returns-then-is_later-clause-whole : goal.returns-then-is_later-clause-whole
returns-then-is_later-clause-whole c = λ history x y lawful holds whole low lower.
    subst (λ h. IsWhole h history y) (sym (returns-then-is_later-clause-later c)) (whole_trimmed c.args.self.now history c.args.before x y lawful holds whole low lower)

pub returns-clause-later : goal.returns-clause-later
returns-clause-later c = c.trim_each.ensures.later ∙ ap (λ b. trimmed b c.args.self.now) (to_z-of_z w64 c.args.before c.ranges.before)

pub returns-clause-whole : goal.returns-clause-whole
returns-clause-whole c = λ history x y lawful holds whole low lower.
    c.trim_each.ensures.whole history x y lawful holds whole low (subst (λ (b : ℤ). b ≤ℤ y) (sym (to_z-of_z w64 c.args.before c.ranges.before)) lower)
