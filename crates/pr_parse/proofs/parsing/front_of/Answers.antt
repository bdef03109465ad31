use Rattle.std.proofs.lemmas.Result.{err_from_is_err_and}
use Rattle.pr_parse.specs.Seen.{seen}
use Rattle.pr_parse.proofs.Fronts.{token_refuses, token_misses, seen_first}
use Rattle.pr_parse.proofs.parsing.front_of.Goals as goal

pub returns-in_err-found-clause-only : goal.returns-in_err-found-clause-only
returns-in_err-found-clause-only c =
    let p = err_from_is_err_and c.from_residual.result c.from_residual.ensures.1 in
    rw p.1 (λ ts d. token_misses c.in_err-found.field-0.0 p.0 p.2 (c.in_err-found.ensures.only ts d))

pub returns-in_err-found-clause-fault : goal.returns-in_err-found-clause-fault
returns-in_err-found-clause-fault c =
    let p = err_from_is_err_and c.from_residual.result c.from_residual.ensures.1 in
    rw p.1 (token_refuses c.args.text.now c.in_err-found.field-0.0 p.0 p.2 c.in_err-found.ensures.fault)

pub returns-clause-tree : goal.returns-clause-tree
returns-clause-tree c = seen_first c.args.text.now c.args.most c.in_ok-found.found.items (seen c.in_ok-with_kinds.field-0.items) c.in_ok-found.ensures.tree c.in_ok-with_kinds.ensures
