use Rattle.std.proofs.Common.{List, ℕ, subst, sym}
use Rattle.std.specs.Str.{IsAscii}
use Rattle.std.proofs.lemmas.Str.{IsUtf8-from_ascii}
use Rattle.pr_agg.proofs.Answered.{text_is_ok}
use Rattle.pr_agg.proofs.counts.set_to_value.Goals as goal

pub unwrap-printed-requires : goal.unwrap-printed-requires
unwrap-printed-requires c = text_is_ok _ _ c.from_utf8.result _ c.from_utf8.ensures.cases
    (IsUtf8-from_ascii _ (subst (λ (bytes : List ℕ). IsAscii bytes) (sym c.write-length.ensures.text) c.write-length.ensures.ascii))
