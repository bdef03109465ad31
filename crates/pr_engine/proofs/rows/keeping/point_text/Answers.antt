use Rattle.std.proofs.Common.{List, ℕ, subst, sym}
use Rattle.std.specs.Str.{IsAscii}
use Rattle.std.proofs.lemmas.Str.{IsUtf8-from_ascii}
use Rattle.pr_ast.proofs.Rests.{text_is_ok}
use Rattle.pr_engine.proofs.rows.keeping.point_text.Goals as goal

pub unwrap-requires : goal.unwrap-requires
unwrap-requires c = text_is_ok _ _ c.from_utf8.result _ c.from_utf8.ensures.cases
    (IsUtf8-from_ascii _ (subst (λ (bytes : List ℕ). IsAscii bytes) (sym c.write_point-length.ensures.text) c.write_point-length.ensures.ascii))
