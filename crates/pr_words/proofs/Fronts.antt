-- What stood before what was appended stays, also where the appending broke off.
use Rattle.std.proofs.Common.{◌≡◌, ℕ, ◌≤◌, List, ◌++◌, length, take, drop, ap, sym, ◌∙◌, append_assoc}
use Rattle.std.proofs.Math.Seq.{take-append_seam}
use Rattle.std.proofs.lemmas.List.{take-append-le, take-append-drop}

pub front_stays : (old now more all : List ℕ) → now ++ more ≡ old ++ all → length old ≤ length now → take (length old) now ≡ old
front_stays old now more all e le = sym (take-append-le (length old) now more le) ∙ (ap (take (length old)) e ∙ take-append_seam old all)

pub front_after : (old new mid now : List ℕ) → mid ≡ old ++ new → take (length mid) now ≡ mid → take (length old) now ≡ old
front_after old new mid now e h =
    let is : now ≡ (old ++ new) ++ drop (length mid) now = sym (take-append-drop (length mid) now) ∙ ap (λ t. t ++ drop (length mid) now) (h ∙ e) in
    ap (take (length old)) (is ∙ append_assoc old new (drop (length mid) now)) ∙ take-append_seam old (new ++ drop (length mid) now)

-- also where more was appended after it
pub front_on : (old mid new : List ℕ) → take (length old) mid ≡ old → take (length mid) new ≡ mid → take (length old) new ≡ old
front_on old mid new h k =
    let at : mid ≡ old ++ drop (length old) mid = sym (take-append-drop (length old) mid) ∙ ap (λ t. t ++ drop (length old) mid) h in
    let is : new ≡ (old ++ drop (length old) mid) ++ drop (length mid) new = sym (take-append-drop (length mid) new) ∙ ap (λ t. t ++ drop (length mid) new) (k ∙ at) in
    ap (take (length old)) (is ∙ append_assoc old (drop (length old) mid) (drop (length mid) new)) ∙ take-append_seam old (drop (length old) mid ++ drop (length mid) new)
