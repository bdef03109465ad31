use Rattle.std.proofs.Common.{refl}
use Rattle.pr_words.specs.pr_forms.Form.{rule}
use Rattle.pr_labels.specs.SeriesGrammar.{Item, Next}
use Rattle.pr_labels.specs.private.SeriesReader.{names_of}
use Rattle.pr_labels.proofs.SeriesReading.{first_item, at_next, at_item, item_closes, next_closes}
use Rattle.pr_labels.proofs.series.series.list_in.Goals as goal

pub loop-found-init : goal.loop-found-init
loop-found-init c = record {
  read = λ f whole r. first_item f whole c.args.before.pairs.items (names_of c.args.before.pairs.items) _ c.blanks_in-rest.result.now r c.blanks_in-rest.ensures.read;
  text = c.blanks_in-rest.ensures.text c.requires;
}

pub returns-in_default-sign_in : goal.returns-in_default-sign_in
returns-in_default-sign_in c = λ f whole r.
    let found = rw c.in-Some.is at c.in_ok-pair.ensures.read in
    c.closed.ensures f (rule (Next (names_of c.add.new.self.pairs.items))) whole
    (at_next f whole c.loop-found.found.pairs.items (names_of c.loop-found.found.pairs.items) c.in-Some.pair c.add.new.self.pairs.items c.loop-found.rest.now c.in-Some.after_pair.now c.blanks_in-next.result.now
    (c.loop-found.invariant.read f whole r) found c.blanks_in-next.ensures.read refl c.in_ok-add.ensures)
    (next_closes (names_of c.add.new.self.pairs.items) _ c.in_default-sign_in.ensures.read)

pub loop-found-preserved : goal.loop-found-preserved
loop-found-preserved c =
    let found = rw c.in-Some.is at c.in_ok-pair.ensures.read in
    let kept = rw c.in-Some.is at c.in_ok-pair.ensures.text in
    record {
      read = λ f whole r. at_item f whole c.add.new.self.pairs.items (names_of c.add.new.self.pairs.items) c.blanks_in-next.result.now c.in-Some-sign_in.after_comma.now c.blanks_in-rest-in-Some.result.now
          (at_next f whole c.loop-found.found.pairs.items (names_of c.loop-found.found.pairs.items) c.in-Some.pair c.add.new.self.pairs.items c.loop-found.rest.now c.in-Some.after_pair.now c.blanks_in-next.result.now
          (c.loop-found.invariant.read f whole r) found c.blanks_in-next.ensures.read refl c.in_ok-add.ensures)
          c.in-Some-sign_in.ensures.read c.blanks_in-rest-in-Some.ensures.read;
      text = c.blanks_in-rest-in-Some.ensures.text (c.in-Some-sign_in.ensures.text (c.blanks_in-next.ensures.text kept));
    }

pub returns : goal.returns
returns c = λ f whole r.
    let none = rw c.in_default.is at c.in_ok-pair.ensures.read in
    c.closed-2.ensures f (rule (Item (names_of c.loop-found.found.pairs.items))) whole (c.loop-found.invariant.read f whole r) (item_closes (names_of c.loop-found.found.pairs.items) _ none)
