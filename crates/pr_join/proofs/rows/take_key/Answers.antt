use Rattle.std.proofs.Common.{◌≡◌, ◌∙◌, ap, sym, refl, Bool, true, false, List, length, slice_get, Some}
use Rattle.std.proofs.lemmas.Option.{slice_get_read}
use Rattle.spec_vectors.specs.pr_labels.declared.pair.Pair.{Pair}
use Rattle.spec_vectors.specs.declared.match_fault.MatchFault.TheVariants as fault
use Rattle.spec_vectors.specs.Matching.{key_of}
use Rattle.pr_join.specs.private.Rows.{is_one_to_one}
use Rattle.pr_join.proofs.Taken.{taken_more, taken_twice}
use Rattle.pr_join.proofs.rows.take_key.Goals as goal

pub returns-then-index-clause-taken : goal.returns-then-index-clause-taken
returns-then-index-clause-taken c = λ ones before k key only h _.
    let how = c.args.how.now in
    let taken = c.args.taken.now.items in
    let mark = c.index.result.now in
    let once : is_one_to_one how.card ≡ true = sym c.if-not-is_one_to_one.ensures in
    let at : slice_get taken c.args.place ≡ Some true = slice_get_read taken (length taken) c.args.place mark refl c.requires c.index.ensures ∙ ap (λ (b : Bool). Some b) c.if-index.true in
    taken_twice how ones before k taken h (key_of how c.args.many.now) c.args.place once key only at ∙ ap (λ (q : List Pair). Some (fault.ManyToMany q)) (sym c.in_ok-key.ensures)

pub returns-clause-taken : goal.returns-clause-taken
returns-clause-taken c = λ ones before k key only h.
    let how = c.args.how.now in
    let taken = c.args.taken.now.items in
    let mark = c.index.result.now in
    let once : is_one_to_one how.card ≡ true = sym c.if-not-is_one_to_one.ensures in
    let at : slice_get taken c.args.place ≡ Some false = slice_get_read taken (length taken) c.args.place mark refl c.requires c.index.ensures ∙ ap (λ (b : Bool). Some b) c.if-index.false in
    taken_more how ones before k taken h (key_of how c.args.many.now) c.args.place once key only at c.requires
