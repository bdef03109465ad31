-- Rule files, of which no two have one name.
use Rattle.std.proofs.Common.{◌≡◌, ◌<◌, List, [], ◌∷◌, map, length, false, sym, arith, slice_index_or}
use Rattle.std.specs.List.{IsDistinct}
use Rattle.std.specs.Str.{bytes_eq}
use Rattle.pr_top.specs.spec_world.declared.event.NamedFile.{NamedFile}

-- fewer than two
pub few_names : (files : List NamedFile) → length files < 2 → IsDistinct bytes_eq (map (λ (f : NamedFile). f.name) files)
unfolding IsDistinct
few_names [] few = tt
few_names (file ∷ []) few = (tt, tt)
few_names (one ∷ other ∷ files) few = absurd (omega arith)

-- two, of which one is not the other
pub two_names : (files : List NamedFile) (one other : NamedFile) → length files < 3 → one ≡ slice_index_or files 0 one → other ≡ slice_index_or files 1 other → bytes_eq one.name other.name ≡ false → IsDistinct bytes_eq (map (λ (f : NamedFile). f.name) files)
unfolding IsDistinct
two_names [] one other few first second apart = tt
two_names (file ∷ []) one other few first second apart = (tt, tt)
two_names (a ∷ b ∷ []) one other few first second apart =
    let named : bytes_eq a.name b.name ≡ false = rw (sym first) (rw (sym second) apart) in ((named, tt), (tt, tt))
two_names (a ∷ b ∷ c ∷ files) one other few first second apart = absurd (omega arith)
