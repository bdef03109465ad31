use Rattle.std.proofs.Common.{◌≡◌, ◌<◌, ℕ, List, length, sym, subst, arith}
use Rattle.pr_parse.specs.declared.grammar.kind.Lexed.{Lexed}
use Rattle.pr_parse.specs.Seen.{seen}
use Rattle.pr_parse.specs.private.Front.{HasFront}
use Rattle.pr_parse.proofs.Fronts.{HasSeen, short_front, seen_tree, seen_only, seen_fault}
use Rattle.pr_parse.proofs.parsing.read_text.Goals as goal

-- the tokens that came are all
all : (text : List ℕ) (front ts : List Lexed) → HasFront text 4096 (seen front) → ts ≡ front → length front < 4096 → HasSeen text (seen ts)
all text front ts f e h = subst (λ us. HasSeen text (seen us)) (sym e) (short_front text 4096 front f h)

pub returns-then-len-lt-FRONT-clause-tree : goal.returns-then-len-lt-FRONT-clause-tree
returns-then-len-lt-FRONT-clause-tree c =
    seen_tree c.args.text.now (seen c.deref.result.now)
    (all c.args.text.now c.in_ok-front.front.items c.deref.result.now c.in_ok-front.ensures.tree c.deref.ensures.value (omega (arith, c.len.ensures, c.if-len-lt-FRONT.true)))
    c.tree_at.result c.tree_at.ensures.tree

pub returns-then-len-lt-FRONT-clause-only : goal.returns-then-len-lt-FRONT-clause-only
returns-then-len-lt-FRONT-clause-only c =
    seen_only c.args.text.now (seen c.deref.result.now)
    (all c.args.text.now c.in_ok-front.front.items c.deref.result.now c.in_ok-front.ensures.tree c.deref.ensures.value (omega (arith, c.len.ensures, c.if-len-lt-FRONT.true)))
    c.tree_at.result c.tree_at.ensures.only

pub returns-then-len-lt-FRONT-clause-fault : goal.returns-then-len-lt-FRONT-clause-fault
returns-then-len-lt-FRONT-clause-fault c =
    seen_fault c.args.text.now (seen c.deref.result.now)
    (all c.args.text.now c.in_ok-front.front.items c.deref.result.now c.in_ok-front.ensures.tree c.deref.ensures.value (omega (arith, c.len.ensures, c.if-len-lt-FRONT.true)))
    c.tree_at.result c.tree_at.ensures.fault
