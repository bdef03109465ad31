use Rattle.std.proofs.Common.{◌≡◌, ◌+◌, ◌-◌, false, length, sym, ap, ◌∙◌}
use Rattle.pr_manager.specs.spec_world.Scrapes.{exported, free_within, is_free}
use Rattle.pr_engine.specs.private.ByName.{labels_in}
use Rattle.pr_engine.proofs.Names.{tried_taken}
use Rattle.pr_engine.proofs.scrape.named.free_name.Goals as goal

pub loop-try-preserved : goal.loop-try-preserved
loop-try-preserved c =
    let target = c.args.target.now in
    let labels = labels_in c.args.named.now.entries in
    let i = c.loop-try._try in
    let n = length c.pairs.result.now + c.len.result in
    let taken : is_free target labels c.loop-try.free ≡ false = sym c.is_free.ensures ∙ c.if-is_free.false in
    c.loop-try.invariant
    ∙ tried_taken target labels i n c.loop-try.free c.loop-try-test.true taken
    ∙ ap (free_within target labels (n - (i + 1))) (ap exported (sym c.as_str-in-loop-try.ensures) ∙ sym c.in_ok-free-2.ensures)
