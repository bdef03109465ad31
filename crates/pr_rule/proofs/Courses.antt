-- What follows from the definition of an episode.
use Rattle.std.specs.Prelude.{◌≡◌, Bool, true, false, ◌&&◌, ◌||◌, cond, List, [], ◌∷◌, Option, Some, None, is_some}
use Rattle.std.specs.Option.{option_or}
use Rattle.std.proofs.Common.{refl, sym, ◌∙◌, ap}
use Rattle.spec_rules.specs.spec_alerts.declared.found.RuleElement.{RuleElement}
use Rattle.spec_rules.specs.spec_alerts.Sights.{Sight}
use Rattle.spec_rules.specs.spec_alerts.Episodes.{course, course_by, episode, fired_at, first_sight, gap, is_found, is_kept, is_within, missing_since, newest_found}

pub course_in : (ss : List Sight) (e : Sight) (es : List Sight) → episode ss ≡ e ∷ es → course ss ≡ record { last = e ∷ es; after = [] }
course_in [] e es h = cc
course_in (s ∷ earlier) e es h = ap (λ p. course_by p s (course earlier)) h

pub course_out : (s : Sight) (earlier : List Sight) → episode (s ∷ earlier) ≡ []
    → course (s ∷ earlier) ≡ record { last = (course earlier).last; after = s ∷ (course earlier).after }
course_out s earlier h = ap (λ p. course_by p s (course earlier)) h

-- an episode is not empty where it has fired
kept_in : (ep : List Sight) (w : Bool) → (is_some (fired_at ep) && w) ≡ true → (e : Sight) × ((es : List Sight) × (ep ≡ e ∷ es))
kept_in [] w h = cc
kept_in (e ∷ es) w h = (e, (es, refl))

gap_by : (s : Sight) (earlier ep : List Sight) (b k : Bool) (e : Sight) (es : List Sight) → is_found s ≡ b → (k ≡ true → gap ep ≡ gap earlier)
    → cond (b || k) (s ∷ ep) [] ≡ e ∷ es → gap (cond (b || k) (s ∷ ep) []) ≡ gap (s ∷ earlier)
gap_by s earlier ep true k e es is same h = simp is
gap_by s earlier ep false true e es is same h = simp (is, same refl)
gap_by s earlier ep false false e es is same h = cc

-- the gap at the end of an episode is that of the sights
pub gap_episode : (ss : List Sight) (e : Sight) (es : List Sight) → episode ss ≡ e ∷ es → gap (episode ss) ≡ gap ss
gap_episode [] e es h = refl
gap_episode (s ∷ earlier) e es h =
    gap_by s earlier (episode earlier) (is_found s) (is_kept s earlier (episode earlier)) e es refl
    (λ k. let p = kept_in (episode earlier) (is_within s (missing_since (s ∷ earlier))) k in gap_episode earlier p.0 p.1.0 p.1.1) h

pub first_some : (s : Sight) (es : List Sight) → (x : Sight) × (first_sight (s ∷ es) ≡ Some x)
first_some s [] = (s, refl)
first_some s (y ∷ ys) = let p = first_some y ys in (p.0, ap (λ o. option_or o (Some s)) p.1)

found_by : (s : Sight) (ep : List Sight) (o : Option RuleElement) (k : Bool) → s.found ≡ o
    → (k ≡ true → (g : RuleElement) × (newest_found ep ≡ Some g))
    → (e : Sight) (es : List Sight) → cond (is_some o || k) (s ∷ ep) [] ≡ e ∷ es → (g : RuleElement) × (newest_found (e ∷ es) ≡ Some g)
found_by s ep (Some f) k is more e es h = (f, let p : s ∷ ep ≡ e ∷ es = h in ap newest_found (sym p) ∙ ap (λ o. option_or o (newest_found ep)) is)
found_by s ep None true is more e es h =
    let p : s ∷ ep ≡ e ∷ es = h in
    let m = more refl in
    (m.0, ap newest_found (sym p) ∙ (ap (λ o. option_or o (newest_found ep)) is ∙ m.1))
found_by s ep None false is more e es h = absurd (let q : [] ≡ e ∷ es = h in cc)

-- an episode has an element
pub found_some : (ss : List Sight) (e : Sight) (es : List Sight) → episode ss ≡ e ∷ es → (g : RuleElement) × (newest_found (e ∷ es) ≡ Some g)
found_some [] e es h = absurd (cc)
found_some (s ∷ earlier) e es h =
    found_by s (episode earlier) s.found (is_kept s earlier (episode earlier)) refl
    (λ k. let p = kept_in (episode earlier) (is_within s (missing_since (s ∷ earlier))) k in
    let m = found_some earlier p.0 p.1.0 p.1.1 in (m.0, ap newest_found p.1.1 ∙ m.1)) e es h
