use Rattle.std.proofs.Common.{List, ap, sym, ◌∙◌}
use Rattle.std.specs.Map.{keys_of}
use Rattle.pr_match.specs.pr_labels.declared.pair.Pair.{Pair}
use Rattle.pr_match.specs.pr_labels.Order.{labels_cmp}
use Rattle.spec_vectors.specs.declared.bucket.Bucket.{Bucket}
use Rattle.pr_fn.specs.private.Gathered.{with_key}
use Rattle.pr_fn.proofs.Gathering.{keys_inserted}
use Rattle.pr_fn.proofs.Known.{known_some}
use Rattle.pr_fn.proofs.histograms.add_bucket.Goals as goal

pub returns-then-known-clause-known : goal.returns-then-known-clause-known
returns-then-known-clause-known c =
    c.in_ok-known.ensures.keys c.if-known.true ∙ sym (known_some c.args.parts.now.entries c.args.labels c.requires (sym c.in_ok-known.ensures.pushed ∙ c.if-known.true))

pub returns-clause-known : goal.returns-clause-known
returns-clause-known c =
    ap keys_of c.in_ok-insert.ensures.entries ∙ keys_inserted labels_cmp c.push_known.new.parts.entries c.args.labels c.push.new.self
    ∙ ap (λ (es : List (List Pair × List Bucket)). with_key labels_cmp (keys_of es) c.args.labels) (c.in_ok-known.ensures.same c.if-known.false)
