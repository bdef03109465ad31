use Rattle.std.proofs.Common.{◌≡◌, ℕ, List, IfOk, filter, ap, subst, sym, ◌∙◌}
use Rattle.std.specs.Map.{values_of}
use Rattle.pr_labels.specs.declared.pair.Pair.{Pair}
use Rattle.spec_history.specs.private.Laws.{has_values}
use Rattle.pr_head.specs.private.Listings.{numbers_in}
use Rattle.pr_head.proofs.listing.Listing.chosen.Goals as goal

pub returns-in-Many : goal.returns-in-Many
returns-in-Many c =
    let entries : c.in-Many.numbers.entries ≡ c.args.self.now = sym (ap numbers_in c.in-Many.is) ∙ c.self.view_is in
    subst (λ (l : List (List Pair × ℕ)). IfOk c.chosen_in.result (λ v. v.items ≡ values_of (filter (λ e. has_values c.args.equal.now e.0) l))) entries c.chosen_in.ensures
