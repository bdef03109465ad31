use Rattle.std.proofs.Common.{◌≡◌, ◌+◌, ◌∷◌, [], false, take, suc, ap, sym, ◌∙◌, refl, subst, arith}
use Rattle.pr_parse.specs.Seen.{kinds_of}
use Rattle.pr_parse.specs.declared.grammar.kind.Lexed.{Lexed}
use Rattle.pr_parse.specs.Deep.{fresh, after_kind, depth_now, depth_from}
use Rattle.pr_parse.specs.private.DeepReader.{parts_of}
use Rattle.pr_parse.proofs.Depths.{kinds_next, parts_step, low_height, is_over, is_low, becomes_deep, stays_low, kinds_length}
use Rattle.pr_parse.proofs.depth.too_deep_at.Goals as goal

pub loop-at-init : goal.loop-at-init
loop-at-init c = record { within = omega arith; low = omega arith; parts = c.whole_text-parts.ensures }

pub after_kind-requires : goal.after_kind-requires
after_kind-requires c = low_height (fresh false ∷ []) (parts_of c.loop-at.parts) (take c.loop-at.at (kinds_of c.args.tokens.now)) c.loop-at.invariant.parts c.loop-at.invariant.low

pub returns-then-is_deep : goal.returns-then-is_deep
returns-then-is_deep c =
    let front = take c.loop-at.at (kinds_of c.args.tokens.now) in
    let back = take (suc c.loop-at.at) (kinds_of c.args.tokens.now) in
    let next = kinds_next c.loop-at.at (suc c.loop-at.at) c.args.tokens.now c.index-tokens-at.result refl c.loop-at-test.true c.index-tokens-at.is in
    let parts = parts_step (fresh false ∷ []) (parts_of c.loop-at.parts) (parts_of c.in_ok-parts.parts) front back c.index-tokens-at.result.kind next c.loop-at.invariant.parts (c.in_ok-parts.ensures ∙ ap (λ (x : Lexed). after_kind (parts_of c.loop-at.parts) x.kind) (sym c.index-tokens-at.is)) in
    record {
      within = let e = kinds_length c.args.tokens.now in let h = c.loop-at-test.true in omega (arith, e, h);
      before = c.loop-at.invariant.low;
      after = becomes_deep (fresh false ∷ []) (parts_of c.in_ok-parts.parts) front back c.index-tokens-at.result.kind next parts (is_over (depth_now (parts_of c.in_ok-parts.parts)) c.is_deep.result c.is_deep.ensures c.if-is_deep.true);
    }

pub loop-at-preserved : goal.loop-at-preserved
loop-at-preserved c =
    let front = take c.loop-at.at (kinds_of c.args.tokens.now) in
    let back = take (c.loop-at.at + 1) (kinds_of c.args.tokens.now) in
    let next = kinds_next c.loop-at.at (c.loop-at.at + 1) c.args.tokens.now c.index-tokens-at.result (omega arith) c.loop-at-test.true c.index-tokens-at.is in
    let parts = parts_step (fresh false ∷ []) (parts_of c.loop-at.parts) (parts_of c.in_ok-parts.parts) front back c.index-tokens-at.result.kind next c.loop-at.invariant.parts (c.in_ok-parts.ensures ∙ ap (λ (x : Lexed). after_kind (parts_of c.loop-at.parts) x.kind) (sym c.index-tokens-at.is)) in
    record {
      within = let h = c.loop-at-test.true in omega (arith, h);
      low = stays_low (fresh false ∷ []) (parts_of c.in_ok-parts.parts) front back c.index-tokens-at.result.kind next parts c.loop-at.invariant.low (is_low (depth_now (parts_of c.in_ok-parts.parts)) c.is_deep.result c.is_deep.ensures c.if-is_deep.false);
      parts = parts;
    }
