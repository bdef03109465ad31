-- What is absent: a call that has not one argument tells no labels, and matchers tell each name once.
use Rattle.std.proofs.Common.{◌≡◌, ◌<◌, ◌≤◌, ℕ, Bool, true, false, not, ◌&&◌, ◌||◌, cond, List, [], ◌∷◌, ◌++◌, None, length, map, refl, sym, ap, ◌∙◌, arith}
use Rattle.std.specs.List.{AllByRecursion, list_any}
use Rattle.std.specs.Str.{bytes_eq}
use Rattle.std.proofs.lemmas.Bool.{and_parts, both_ways, not-true, or_parts}
use Rattle.std.proofs.lemmas.Slice.Eq.{bytes_eq-Decides}
use Rattle.pr_ast.specs.declared.selector.MatchText.{MatchText}
use Rattle.pr_ast.specs.declared.tree.Expr.{Expr}
use Rattle.pr_ast.specs.Tree.{Tree, none, more, more_from, tree_of, trees_of}
use Rattle.pr_labels.specs.declared.pair.Pair.{Pair}
use Rattle.pr_labels.specs.Edits.{fault_after, first_fault, pair_fault}
use Rattle.pr_labels.specs.LabelSet.{has_name, metric_label, pair_of}
use Rattle.pr_labels.specs.Names.{is_label_name}
use Rattle.spec_meaning.specs.Absence.{is_equality, is_on, labels_of_argument, tells, told_pairs}

of_many : (es : List Expr) (before t u : Tree) → labels_of_argument (more_from (more (more before t) u) (map tree_of es)) ≡ []
of_many [] before t u = refl
of_many (e ∷ es) before t u = of_many es (more before t) u (tree_of e)

pub none_told : (es : List Expr) → length es < 1 → labels_of_argument (trees_of es) ≡ []
none_told [] h = refl
none_told (e ∷ es) h = absurd (omega arith)

pub many_told : (es : List Expr) → 2 ≤ length es → labels_of_argument (trees_of es) ≡ []
many_told [] h = absurd (omega arith)
many_told (e ∷ []) h = absurd (omega arith)
many_told (d ∷ e ∷ es) h = of_many es none (tree_of d) (tree_of e)

-- Each pair that a matcher tells has a label name, which no other has.

other_way : (a b : List ℕ) → bytes_eq a b ≡ false → bytes_eq b a ≡ false
other_way a b h = by (bytes_eq b a) refl where
  by : (t : Bool) → bytes_eq b a ≡ t → t ≡ false
  by true e = absurd (both_ways (bytes_eq a b) h ((bytes_eq-Decides a b).1 (sym ((bytes_eq-Decides b a).0 e))))
  by false e = refl

-- a matcher that tells a label
record Tells (m : MatchText) (after : List MatchText) : Type 0 where
  named : is_label_name m.label ≡ true
  last : list_any (is_on m.label) after ≡ false

tells_so : (before : List MatchText) (m : MatchText) (after : List MatchText) → tells before m after ≡ true → Tells m after
tells_so before m after h =
    let alone = and_parts (is_equality m.op && is_label_name m.label && not (bytes_eq m.label metric_label) && not (list_any (is_on m.label) after)) _ h in
    let last = and_parts (is_equality m.op && is_label_name m.label && not (bytes_eq m.label metric_label)) _ alone.0 in
    let other = and_parts (is_equality m.op && is_label_name m.label) _ last.0 in
    let named = and_parts (is_equality m.op) _ other.0 in
    record { named = named.1; last = not-true (list_any (is_on m.label) after) last.1 }

-- no matcher is on the name of one of the pairs
abbrev AreOver : List Pair → List MatchText → Type 0
AreOver pairs ms = AllByRecursion (λ (p : Pair). list_any (is_on p.name) ms ≡ false) pairs

over_fewer : (pairs : List Pair) (m : MatchText) (after : List MatchText) → AreOver pairs (m ∷ after) → AreOver pairs after
over_fewer [] m after h = tt
over_fewer (p ∷ ps) m after h = ((or_parts (is_on p.name m) (list_any (is_on p.name) after) h.0).1, over_fewer ps m after h.1)

over_more : (pairs : List Pair) (p : Pair) (ms : List MatchText) → AreOver pairs ms → list_any (is_on p.name) ms ≡ false → AreOver (pairs ++ p ∷ []) ms
over_more [] p ms h k = (k, tt)
over_more (q ∷ qs) p ms h k = (h.0, over_more qs p ms h.1 k)

not_yet : (pairs : List Pair) (m : MatchText) (after : List MatchText) → AreOver pairs (m ∷ after) → list_any (has_name m.label) pairs ≡ false
not_yet [] m after h = refl
not_yet (p ∷ ps) m after h =
    let here : bytes_eq p.name m.label ≡ false = other_way m.label p.name (or_parts (is_on p.name m) (list_any (is_on p.name) after) h.0).0 in
    ap (λ (t : Bool). t || list_any (has_name m.label) ps) here ∙ not_yet ps m after h.1

no_fault : (pairs : List Pair) (p : Pair) → is_label_name p.name ≡ true → list_any (has_name p.name) pairs ≡ false → pair_fault pairs p ≡ None
no_fault pairs p named new = rw (named, new) refl

told_after : (before ms : List MatchText) (pairs : List Pair) → AreOver pairs ms → fault_after pairs (told_pairs before ms) ≡ None
told_after before [] pairs h = refl
told_after before (m ∷ after) pairs h = by (tells before m after) refl (told_after (before ++ m ∷ []) after) where
  by : (t : Bool) → tells before m after ≡ t
      → ((more : List Pair) → AreOver more after → fault_after more (told_pairs (before ++ m ∷ []) after) ≡ None)
      → fault_after pairs (cond t (pair_of m.label m.text ∷ told_pairs (before ++ m ∷ []) after) (told_pairs (before ++ m ∷ []) after)) ≡ None
  by false e rest = rest pairs (over_fewer pairs m after h)
  by true e rest =
      let so = tells_so before m after e in
      let p = pair_of m.label m.text in
      rw (no_fault pairs p so.named (not_yet pairs m after h)) (rest (pairs ++ p ∷ []) (over_more pairs p after (over_fewer pairs m after h) so.last))

pub told_once : (ms : List MatchText) (pairs : List Pair) → pairs ≡ told_pairs [] ms → first_fault pairs ≡ None
told_once ms pairs h = rw h (told_after [] ms [] tt)
