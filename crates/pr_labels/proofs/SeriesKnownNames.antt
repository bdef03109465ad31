-- The names of found labels: what one more name does, and names that stand in the text.
use Rattle.std.proofs.Common.{◌≡◌, ℕ, ◌≤◌, ◌<◌, List, [], ◌∷◌, ◌++◌, Bool, true, false, ◌||◌, length, take, drop, refl, ap, sym, ◌∙◌, append_assoc, arith, length-append}
use Rattle.std.proofs.lemmas.List.{map-append, take-append-drop, drop-append-le, drop_all}
use Rattle.std.proofs.lemmas.List.Folds.{list_any-append}
use Rattle.std.specs.BTreeSet.{BTreeSet, Updates}
use Rattle.std.specs.Borrow.{Bor}
use Rattle.std.specs.List.{list_any}
use Rattle.std.specs.Prelude.{if◌then◌else◌}
use Rattle.std.specs.Str.{bytes_eq}
use Rattle.pr_words.specs.Names.{knows, is_among}
use Rattle.pr_labels.specs.declared.pair.Pair.{Pair}
use Rattle.pr_labels.proofs.KnownNames.{more_known, name_cmp}
use Rattle.pr_labels.specs.declared.series.series.Part.{Part}
use Rattle.pr_labels.specs.private.SeriesReader.{names_of, BeginsWith, GoesOn, name_over, name_more, IsPart}

or_none : (a b : Bool) → (a || b) ≡ (a || (b || false))
or_none true b = refl
or_none false true = refl
or_none false false = refl

among_append : (name : List ℕ) (xs ys : List Pair) → is_among name (names_of (xs ++ ys)) ≡ (is_among name (names_of xs) || is_among name (names_of ys))
among_append name xs ys = ap (is_among name) (map-append (λ q. q.name) xs ys) ∙ list_any-append (λ n. bytes_eq n name) (names_of xs) (names_of ys)

-- a name stands among the first few labels or among those after them
pub among_parts : (n : ℕ) (pairs : List Pair) (name : List ℕ) → (is_among name (names_of (take n pairs)) || is_among name (names_of (drop n pairs))) ≡ is_among name (names_of pairs)
among_parts n pairs name = sym (among_append name (take n pairs) (drop n pairs)) ∙ ap (λ ps. is_among name (names_of ps)) (take-append-drop n pairs)

among_pairs : (name : List ℕ) (pairs : List Pair) → list_any (λ p. bytes_eq p.name name) pairs ≡ is_among name (names_of pairs)
among_pairs name [] = refl
among_pairs name (p ∷ ps) = ap (λ b. bytes_eq p.name name || b) (among_pairs name ps)

pub among_all : (name : List ℕ) (pairs all : List Pair) (r : Bool) → all ≡ pairs → r ≡ list_any (λ p. bytes_eq p.name name) all → r ≡ is_among name (names_of pairs)
among_all name pairs all r t e = e ∙ among_pairs name all ∙ ap (λ ps. is_among name (names_of ps)) t

-- a name that is not among the first few
pub among_later : (n : ℕ) (later : BTreeSet (Bor (List ℕ))) (pairs all : List Pair) (name : List ℕ) (a b : Bool) → all ≡ pairs → a ≡ list_any (λ p. bytes_eq p.name name) (take n all) → a ≡ false →
    b ≡ knows later name → ((name : List ℕ) → knows later name ≡ is_among name (names_of (drop n pairs))) → b ≡ is_among name (names_of pairs)
among_later n later pairs all name a b t e z f h =
    let early : a ≡ is_among name (names_of (take n pairs)) = e ∙ among_pairs name (take n all) ∙ ap (λ ps. is_among name (names_of (take n ps))) t in
    (λ i. sym z i || b) ∙ (λ i. early i || (f ∙ h name) i) ∙ among_parts n pairs name

-- one more label among the first few changes nothing of those after them
pub known_few : (n : ℕ) (later : BTreeSet (Bor (List ℕ))) (pairs all : List Pair) (p : Pair) → length pairs < n →
    ((name : List ℕ) → knows later name ≡ is_among name (names_of (drop n pairs))) → all ≡ pairs ++ p ∷ [] → (name : List ℕ) → knows later name ≡ is_among name (names_of (drop n all))
known_few n later pairs all p few h i name =
    let none : drop n pairs ≡ [] = drop_all n pairs (omega arith) in
    let still : drop n all ≡ [] = drop_all n all (omega (arith, ap length i, length-append pairs (p ∷ []))) in
    h name ∙ ap (λ ps. is_among name (names_of ps)) (none ∙ sym still)

-- one more label after the first few
pub known_more : (n : ℕ) (old new : BTreeSet (Bor (List ℕ))) (key : Bor (List ℕ)) (pairs all : List Pair) (p : Pair) → n ≤ length pairs → Updates name_cmp old new key true → key.now ≡ p.name →
    ((name : List ℕ) → knows old name ≡ is_among name (names_of (drop n pairs))) → all ≡ pairs ++ p ∷ [] → (name : List ℕ) → knows new name ≡ is_among name (names_of (drop n all))
known_more n old new key pairs all p many u e h i name =
    let rest : drop n all ≡ drop n pairs ++ p ∷ [] = ap (drop n) i ∙ drop-append-le n pairs (p ∷ []) many in
    more_known old new key name u ∙ (λ j. h name j || bytes_eq (e j) name) ∙ or_none (is_among name (names_of (drop n pairs))) (bytes_eq p.name name)
    ∙ sym (ap (λ ps. is_among name (names_of ps)) rest ∙ among_append name (drop n pairs) (p ∷ []))

-- the same of a push that may fail
pub known_pushed : (n : ℕ) (later : BTreeSet (Bor (List ℕ))) (pairs all : List Pair) (p : Pair) (r : Bool) → length pairs < n →
    ((name : List ℕ) → knows later name ≡ is_among name (names_of (drop n pairs))) → all ≡ (if r then pairs ++ p ∷ [] else pairs) → (name : List ℕ) → knows later name ≡ is_among name (names_of (drop n all))
known_pushed n later pairs all p true few h i name = known_few n later pairs all p few h i name
known_pushed n later pairs all p false few h i name = h name ∙ ap (λ ps. is_among name (names_of (drop n ps))) (sym i)

-- a push that does not fail
pub pushed : (old kept all : List Pair) (p : Pair) (r : Bool) → r ≡ true → kept ≡ old → all ≡ (if r then kept ++ p ∷ [] else kept) → all ≡ old ++ p ∷ []
pushed old kept all p r e k i = i ∙ ap (λ b. if b then kept ++ p ∷ [] else kept) e ∙ ap (λ ps. ps ++ p ∷ []) k

-- a name stands in the text before what follows it
pub name_stands : (part : Part) (start text name rest : List ℕ) → GoesOn part start text name rest → start ++ text ≡ name ++ rest
name_stands part start text name rest (name_over x) = refl
name_stands part start text name rest (name_more {mid = mid} {b = b} x g) =
    ap (λ t. start ++ t) x.is ∙ (sym (append_assoc start (b ∷ []) mid) ∙ name_stands part (start ++ b ∷ []) mid name rest g)

pub begins_with : (part first : Part) (text after name rest : List ℕ) (b : ℕ) → IsPart first text b after → GoesOn part (b ∷ []) after name rest → BeginsWith text name
begins_with part first text after name rest b x g = record { more = rest; is = x.is ∙ name_stands part (b ∷ []) after name rest g }

pub name_within : (text name : List ℕ) → BeginsWith text name → length name ≤ length text
name_within text name b = omega (arith, ap length b.is, length-append name b.more)
