use Rattle.std.proofs.Common.{◌≡◌, ℕ, zero, suc, List, [], ◌∷◌, take, None, Option, refl, ap, ◌∙◌}
use Rattle.std.specs.Prelude.{slice_get}
use Rattle.pr_parse.specs.declared.grammar.kind.TokenClass.{TokenClass}
use Rattle.pr_parse.specs.declared.grammar.kind.Lexed.{Lexed}
use Rattle.pr_parse.specs.declared.fault.Names.{Names}
use Rattle.pr_parse.specs.declared.fault.Names.TheVariants.{Elsewhere}
use Rattle.pr_parse.specs.Seen.{kinds_of}
use Rattle.pr_parse.specs.Faults.{names_from, kind_by, kind_before, second_before, kind_at}
use Rattle.pr_parse.proofs.kinds.kind_at.Goals as goal

kinds_of_front : (n : ℕ) (ts : List Lexed) → kinds_of (take n ts) ≡ take n (kinds_of ts)
kinds_of_front zero ts = refl
kinds_of_front (suc n) [] = refl
kinds_of_front (suc n) (t ∷ ts) = ap (λ ks. t.kind ∷ ks) (kinds_of_front n ts)

kind_known : (ts : List Lexed) (n : ℕ) (names : Names) (before second here : Option TokenClass) → names ≡ names_from Elsewhere None (kinds_of (take n ts)) → before ≡ kind_before (kinds_of ts) n →
    second ≡ second_before (kinds_of ts) n → here ≡ slice_get (kinds_of ts) n → kind_by names before second here ≡ kind_at (kinds_of ts) n
kind_known ts n names before second here e f g h = rw (e, f, g, h, kinds_of_front n ts) refl

pub returns : goal.returns
returns c =
    c.kind_by.ensures ∙ kind_known c.args.tokens.now c.args.place c.names_in.result c.kind_before.result c.second_before.result c.kind_in.result c.names_in.ensures c.kind_before.ensures c.second_before.ensures c.kind_in.ensures
