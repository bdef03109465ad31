use Rattle.std.proofs.Common.{arith, sym, drop, length-drop}
use Rattle.pr_ast.proofs.Rests.{from_place}
use Rattle.pr_ast.proofs.Firsts.{gap_within}
use Rattle.pr_ast.proofs.TextStarts.{has_text}
use Rattle.pr_ast.proofs.TokensLoop.{gap_found, token_found, is_over, all_found, only_found, fault_found, no_tokens}
use Rattle.pr_ast.proofs.lex.reader.read_tokens.Goals as goal

pub overflow_add-place : goal.overflow_add-place
overflow_add-place c =
    let part = rw (from_place c.as_bytes-bytes.result.now c.loop-place.place) at c.in-Gap.ensures in
    let n = gap_within c.loop-place.inside (drop c.loop-place.place c.as_bytes-bytes.result.now) c.in-Gap.length (sym part) in
    omega (arith, n, length-drop c.loop-place.place c.as_bytes-bytes.result.now, c.loop-place.invariant.within, c.as_bytes-bytes.ensures.len)

pub loop-place-preserved-in-Gap : goal.loop-place-preserved-in-Gap
loop-place-preserved-in-Gap c =
    let part = rw (from_place c.as_bytes-bytes.result.now c.loop-place.place) at c.in-Gap.ensures in
    let n = gap_within c.loop-place.inside (drop c.loop-place.place c.as_bytes-bytes.result.now) c.in-Gap.length (sym part) in
    record {
      within = omega (arith, n, length-drop c.loop-place.place c.as_bytes-bytes.result.now, c.loop-place.invariant.within);
      found = gap_found _ c.args.most c.loop-place.inside c.loop-place.place c.in-Gap.length c.loop-place.found.items (sym part) c.loop-place.invariant.found;
    }

pub token_in-requires-clause-text : goal.token_in-requires-clause-text
token_in-requires-clause-text c =
    let k = from_place c.as_bytes-bytes.result.now c.loop-place.place in
    let part = rw k at c.in-Token.ensures in
    rw k (has_text c.loop-place.inside c.as_bytes-bytes.result.now c.loop-place.place c.in-Token.lexeme c.as_bytes-bytes.ensures.utf8 c.loop-place-test.true (sym part))

pub loop-place-preserved : goal.loop-place-preserved
loop-place-preserved c =
    let k = from_place c.as_bytes-bytes.result.now c.loop-place.place in
    let part = rw k at c.in-Token.ensures in
    let read = rw k at c.in-Ok.ensures.read in
    let n = rw k at c.in-Ok.ensures.within in
    record {
      within = omega (arith, n, length-drop c.loop-place.place c.as_bytes-bytes.result.now, c.loop-place.invariant.within);
      found = token_found _ c.args.most c.loop-place.inside c.inside_after-inside.result c.loop-place.place c.in-Ok.length c.loop-place.found.items c.keep.new.found.items c.in-Token.lexeme c.in-Ok.kind (sym part) read
          c.inside_after-inside.ensures (λ all e. c.in_ok-keep-in-Ok.ensures.kept all e) c.loop-place.invariant.found;
    }

pub returns-in-Err-clause-fault : goal.returns-in-Err-clause-fault
returns-in-Err-clause-fault c =
    rw (c.moved.ensures, ← c.as_bytes-bytes.ensures.value)
    (fault_found _ c.args.most c.loop-place.inside c.loop-place.place c.loop-place.found.items c.in-Token.lexeme c.in-Err.fault _ (from_place c.as_bytes-bytes.result.now c.loop-place.place) (sym c.in-Token.ensures)
    c.in-Err.ensures.read c.loop-place.invariant.found)

pub returns-in-Err-clause-only : goal.returns-in-Err-clause-only
returns-in-Err-clause-only c = λ ts d. no_tokens _ c.moved.result (returns-in-Err-clause-fault c) ts d

pub returns-clause-tree : goal.returns-clause-tree
returns-clause-tree c =
    rw (← c.as_bytes-bytes.ensures.value)
    (all_found _ c.args.most c.loop-place.inside c.loop-place.place c.loop-place.found.items (is_over _ c.args.most c.loop-place.inside c.loop-place.place c.loop-place-test.false) c.loop-place.invariant.found)

pub returns-clause-only : goal.returns-clause-only
returns-clause-only c =
    rw (← c.as_bytes-bytes.ensures.value)
    (only_found _ c.args.most c.loop-place.inside c.loop-place.place c.loop-place.found.items (is_over _ c.args.most c.loop-place.inside c.loop-place.place c.loop-place-test.false) c.loop-place.invariant.found)
