use Rattle.pr_words.proofs.StringPublic.{tree, only, place, no_longer, opened, unread, unread_place}
use Rattle.pr_words.proofs.strings.reader.read_string.Goals as goal

pub returns-in-Some-clause-tree : goal.returns-in-Some-clause-tree
returns-in-Some-clause-tree c =
    tree (λ x. x.0.items) (λ x. x.1.now) _ c.quoted_in.result (opened (λ x. x.0.items) (λ x. x.1.now) _ c.quoted_in.result c.in-Some.mark c.in-Some.after.now c.in-Some.ensures.read c.quoted_in.ensures.read)

pub returns-in-Some-clause-only : goal.returns-in-Some-clause-only
returns-in-Some-clause-only c =
    only (λ x. x.0.items) (λ x. x.1.now) _ c.quoted_in.result (opened (λ x. x.0.items) (λ x. x.1.now) _ c.quoted_in.result c.in-Some.mark c.in-Some.after.now c.in-Some.ensures.read c.quoted_in.ensures.read)

pub returns-in-Some-clause-place : goal.returns-in-Some-clause-place
returns-in-Some-clause-place c =
    place (λ x. x.0.items) (λ x. x.1.now) _ c.quoted_in.result (opened (λ x. x.0.items) (λ x. x.1.now) _ c.quoted_in.result c.in-Some.mark c.in-Some.after.now c.in-Some.ensures.read c.quoted_in.ensures.read)

pub returns-in-None-clause-only : goal.returns-in-None-clause-only
returns-in-None-clause-only c = λ v left d. unread _ c.args.text.now c.in-None.ensures.read v left d

pub returns-in-None-clause-place : goal.returns-in-None-clause-place
returns-in-None-clause-place c = unread_place _ c.args.text.now c.in-None.ensures.read

pub returns-in-Some-clause-within : goal.returns-in-Some-clause-within
returns-in-Some-clause-within c =
    no_longer (λ x. x.0.items) (λ x. x.1.now) _ c.quoted_in.result (opened (λ x. x.0.items) (λ x. x.1.now) _ c.quoted_in.result c.in-Some.mark c.in-Some.after.now c.in-Some.ensures.read c.quoted_in.ensures.read)
