-- One file has a name of its own.
use Rattle.std.proofs.Common.{◌≡◌, List, [], ◌∷◌, map, sym, subst}
use Rattle.std.specs.List.{IsDistinct}
use Rattle.std.specs.Str.{bytes_eq}
use Rattle.spec_world.specs.declared.event.NamedFile.{NamedFile}

alone : (file : NamedFile) → IsDistinct bytes_eq (map (λ (f : NamedFile). f.name) (file ∷ []))
unfolding IsDistinct
alone file = (tt, tt)

pub one_name : (files : List NamedFile) (file : NamedFile) → files ≡ file ∷ [] → IsDistinct bytes_eq (map (λ (f : NamedFile). f.name) files)
one_name files file is = subst (λ (fs : List NamedFile). IsDistinct bytes_eq (map (λ (f : NamedFile). f.name) fs)) (sym is) (alone file)
