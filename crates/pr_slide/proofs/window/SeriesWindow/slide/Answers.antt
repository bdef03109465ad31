use Rattle.std.proofs.Common.{◌≡◌, ◌++◌, max, ap, ◌∙◌, arith, w64, to_z, of_z}
use Rattle.std.proofs.lemmas.Int.{to_z-of_z}
use Rattle.pr_head.specs.private.Stored.{position_of}
use Rattle.pr_range.specs.private.Spots.{samples_between, spots_of}
use Rattle.pr_slide.specs.private.Kinds.{kept_in}
use Rattle.pr_slide.specs.private.Later.{later}
use Rattle.pr_slide.proofs.window.SeriesWindow.slide.Goals as goal

pub returns-in_err-push_between-clause-reads : goal.returns-in_err-push_between-clause-reads
returns-in_err-push_between-clause-reads g c = λ e at.
    let start : to_z w64 (of_z w64 c.args.ask.now.from) ≡ c.args.ask.now.from = grind (arith, to_z-of_z) in
    let end : to_z w64 (of_z w64 c.args.ask.now.to) ≡ c.args.ask.now.to = grind (arith, to_z-of_z) in
    let to : c.position_near-to.result ≡ position_of e.1 c.args.ask.now.to = c.position_near-to.ensures.known e at ∙ ap (position_of e.1) end in
    let low : c.position_not_before-from.result ≡ max (position_of e.1 c.args.ask.now.from) c.args.self.now.passed = c.position_not_before-from.ensures.known e at ∙ ap (λ t. max (position_of e.1 t) c.args.self.now.passed) start in
    let reads = c.in_err-push_between.ensures.reads in
    omega arith

pub returns-clause-passed : goal.returns-clause-passed
returns-clause-passed g c = λ e at.
    let end : to_z w64 (of_z w64 c.args.ask.now.to) ≡ c.args.ask.now.to = grind (arith, to_z-of_z) in
    c.position_near-to.ensures.known e at ∙ ap (position_of e.1) end

pub returns-clause-spots : goal.returns-clause-spots
returns-clause-spots g c = λ e at first last.
    let start : to_z w64 (of_z w64 c.args.ask.now.from) ≡ c.args.ask.now.from = grind (arith, to_z-of_z) in
    let end : to_z w64 (of_z w64 c.args.ask.now.to) ≡ c.args.ask.now.to = grind (arith, to_z-of_z) in
    let to : c.position_near-to.result ≡ position_of e.1 c.args.ask.now.to = c.position_near-to.ensures.known e at ∙ ap (position_of e.1) end in
    let low : c.position_not_before-from.result ≡ max (position_of e.1 c.args.ask.now.from) c.args.self.now.passed = c.position_not_before-from.ensures.known e at ∙ ap (λ t. max (position_of e.1 t) c.args.self.now.passed) start in
    let read = c.in_ok-push_between.ensures.spots e at (omega arith) (omega arith) in
    read ∙ ap (λ l. l ++ spots_of (samples_between e.1 c.position_not_before-from.result c.position_near-to.result)) (c.drop_until.ensures.items ∙ ap (λ t. later t (kept_in c.args.self.now.spots)) start)
    ∙ (λ i. later c.args.ask.now.from (kept_in c.args.self.now.spots) ++ spots_of (samples_between e.1 (low i) (to i)))

pub returns-clause-reads : goal.returns-clause-reads
returns-clause-reads g c = λ e at.
    let start : to_z w64 (of_z w64 c.args.ask.now.from) ≡ c.args.ask.now.from = grind (arith, to_z-of_z) in
    let end : to_z w64 (of_z w64 c.args.ask.now.to) ≡ c.args.ask.now.to = grind (arith, to_z-of_z) in
    let to : c.position_near-to.result ≡ position_of e.1 c.args.ask.now.to = c.position_near-to.ensures.known e at ∙ ap (position_of e.1) end in
    let low : c.position_not_before-from.result ≡ max (position_of e.1 c.args.ask.now.from) c.args.self.now.passed = c.position_not_before-from.ensures.known e at ∙ ap (λ t. max (position_of e.1 t) c.args.self.now.passed) start in
    let reads = c.in_ok-push_between.ensures.reads in
    omega arith
