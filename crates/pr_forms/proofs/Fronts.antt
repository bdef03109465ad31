-- The front of a text, where nothing may go on after the form: it is read in one way or in none.
use Rattle.std.proofs.Common.{◌≡◌, List, [], ◌∷◌, true, false, refl}
use Rattle.pr_forms.specs.Form.{Form, Reads}
use Rattle.pr_forms.specs.Table.{Table, more_of, is_more, Decides, IsDecided}
use Rattle.pr_forms.specs.Run.{Runs, good, bad}
use Rattle.pr_forms.proofs.Decided.{Agrees, same, goes_on, agrees}

module _ {T N V : Type 0} (G : N → Form T N V) (S : Table T N) (known : IsDecided G S) where
  module _ {f : Form T N V} (decides : Decides S f) (closed : (t : T) → more_of S f t ≡ false) where
    nothing_more : (ts : List T) → is_more S f ts ≡ true → ⊥
    nothing_more [] h = cc
    nothing_more (t ∷ ts) h = let e = closed t in cc

    same_front : {v w : V} {r s : List T} → Agrees S f (good v r) w s → (w ≡ v) × (s ≡ r)
    same_front same = (refl, refl)
    same_front (goes_on m) = absurd (nothing_more _ m.is)

    no_front : {w : V} {r s : List T} → Agrees S f (bad r) w s → ⊥
    no_front (goes_on m) = nothing_more _ m.is

    -- what was read is all that can be read
    pub same_good : {ts r s : List T} {v w : V} → Runs G S f ts (good v r) → Reads G f ts w s → (w ≡ v) × (s ≡ r)
    same_good q d = same_front (agrees G S known decides q d)

    -- where the reader failed, nothing can be read
    pub none_good : {ts r s : List T} {w : V} → Runs G S f ts (bad r) → Reads G f ts w s → ⊥
    none_good q d = no_front (agrees G S known decides q d)
