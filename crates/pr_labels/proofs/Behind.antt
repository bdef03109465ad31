-- What is put behind entries that rise, and before them.
use Rattle.std.proofs.Common.{◌≡◌, ℕ, zero, suc, ◌-◌, true, false, List, [], ◌∷◌, ◌++◌, length, map, slice_get, is_some, Option, Some, None, Result, Ok, Err, IfOk, OnErr, refl, sym, ap, ◌∙◌, subst, append_assoc, arith}
use Rattle.std.proofs.lemmas.List.{map-append}
use Rattle.std.specs.Map.{keys_of, lookup}
use Rattle.std.specs.Ordering.{is_lt, ordering_reverse}
use Rattle.std.specs.declared.cmp.Ordering.{Ordering}
use Rattle.std.specs.declared.cmp.Ordering.TheVariants.{Less, Equal, Greater}
use Rattle.std.specs.BTreeMap.{insert_entry, is_at}
use Rattle.pr_labels.specs.declared.pair.Pair.{Pair}
use Rattle.pr_labels.specs.declared.item.Item.{Item}
use Rattle.pr_labels.specs.Order.{labels_cmp}
use Rattle.pr_labels.specs.Rising.{IsBelowFirstSet, IsRising}
use Rattle.pr_labels.proofs.LabelOrder.{labels_total, below_next, rising_with}
use Rattle.pr_labels.proofs.LabelMaps.{keys_insert}
use Rattle.pr_labels.specs.private.Entries.{AreBelow, IsPut, entries_of, entry_item, is_known, item_entries, item_entry, items_of, label_sets_of}

pub less_of : (o : Ordering) → is_lt o ≡ true → o ≡ Less
less_of Less h = refl
less_of Equal h = cc
less_of Greater h = cc

above : (a b : List Pair) → labels_cmp a b ≡ Less → labels_cmp b a ≡ Greater
above a b h = labels_total.antisymm b a ∙ ap ordering_reverse h

-- those that rise are below what the last of them is below
below_from : {X : Type 0} (labels : List Pair) (items : List (Item X)) (i : ℕ) (last : Item X) → suc i ≡ length items → slice_get items i ≡ Some last → labels_cmp last.labels labels ≡ Less
    → IsRising (keys_of (item_entries items)) → AreBelow labels (keys_of (item_entries items))
below_from labels [] i last n at h r = tt
below_from {X} labels (first ∷ []) zero last n at h r = (let same : first ≡ last = cc in ap (λ (x : Item X). labels_cmp x.labels labels) same ∙ h, tt)
below_from labels (first ∷ []) (suc i) last n at h r = absurd (too_long i n) where
  too_long : (i : ℕ) → suc (suc i) ≡ 1 → ⊥
  too_long i e = omega arith
below_from {X} labels (first ∷ next ∷ rest) zero last n at h r = absurd (too_short (length rest) n) where
  too_short : (k : ℕ) → 1 ≡ suc (suc k) → ⊥
  too_short k e = omega arith
below_from labels (first ∷ next ∷ rest) (suc i) last n at h r =
    let behind : AreBelow labels (keys_of (item_entries (next ∷ rest))) = below_from labels (next ∷ rest) i last (omega arith) at h r.1 in
    (labels_total.trans first.labels next.labels labels r.0 behind.0, behind)

pub below_last : {X : Type 0} (labels : List Pair) (items : List (Item X)) (last : Item X) → slice_get items (length items - 1) ≡ Some last → labels_cmp last.labels labels ≡ Less
    → IsRising (keys_of (item_entries items)) → AreBelow labels (keys_of (item_entries items))
below_last labels [] last at h r = tt
below_last {X} labels (first ∷ rest) last at h r =
    let one : length rest ≡ length (first ∷ rest) - 1 = omega arith in
    below_from labels (first ∷ rest) (length rest) last refl (ap (λ (k : ℕ). slice_get (first ∷ rest) k) one ∙ at) h r

-- an entry goes behind those with labels below
put_behind : {X : Type 0} (labels : List Pair) (v : X) (es : List (List Pair × X)) → AreBelow labels (keys_of es) → insert_entry labels_cmp es labels v ≡ es ++ (labels, v) ∷ []
put_behind labels v [] h = refl
put_behind {X} labels v (e ∷ es) h = rw (above e.0 labels h.0) (ap (λ (r : List (List Pair × X)). e ∷ r) (put_behind labels v es h.1))

none_behind : {X : Type 0} (labels : List Pair) (es : List (List Pair × X)) → AreBelow labels (keys_of es) → is_known labels es ≡ false
none_behind labels [] h = refl
none_behind labels (e ∷ es) h = rw (above e.0 labels h.0) (none_behind labels es h.1)

-- and before those with labels above
put_before : {X : Type 0} (labels : List Pair) (v : X) (es : List (List Pair × X)) → IsBelowFirstSet labels (keys_of es) → insert_entry labels_cmp es labels v ≡ (labels, v) ∷ es
put_before labels v [] h = refl
put_before labels v (e ∷ es) h = rw h refl

-- one taken out of those that rise leaves them rising
pub rising_without : {X : Type 0} (front : List (List Pair × X)) (e : List Pair × X) (rest : List (List Pair × X)) → IsRising (keys_of (front ++ e ∷ rest)) → IsRising (keys_of (front ++ rest))
rising_without [] e rest h = h.1
rising_without (x ∷ []) e rest h = (below_next x.0 e.0 (keys_of rest) h.0 h.1.0, h.1.1)
rising_without (x ∷ next ∷ front) e rest h = (h.0, rising_without (next ∷ front) e rest h.1)

rising_back : {X : Type 0} (front : List (List Pair × X)) (es : List (List Pair × X)) → IsRising (keys_of (front ++ es)) → IsRising (keys_of es)
rising_back [] es h = h
rising_back (e ∷ front) es h = rising_back front es h.1

-- and one more
rising_put : {X : Type 0} (labels : List Pair) (v : X) (es : List (List Pair × X)) → IsRising (keys_of es) → IsRising (keys_of (insert_entry labels_cmp es labels v))
rising_put labels v es h = subst (λ (ks : List (List Pair)). IsRising ks) (sym (keys_insert es labels v)) (rising_with labels (keys_of es) h)

-- the last item that rises is the first of the rest
pub last_moved : {X : Type 0} (rising : List (Item X)) (item : Item X) (placed : List (List Pair × X)) → entries_of (rising ++ item ∷ []) placed ≡ entries_of rising (item_entry item ∷ placed)
last_moved {X} rising item placed = ap (λ (es : List (List Pair × X)). es ++ placed) (map-append item_entry rising (item ∷ [])) ∙ append_assoc (item_entries rising) (item_entry item ∷ []) placed

-- so it goes to the front of the map
pub moved_one : {X : Type 0} (rising : List (Item X)) (item : Item X) (placed more : List (List Pair × X)) → IsRising (keys_of (entries_of (rising ++ item ∷ []) placed))
    → more ≡ insert_entry labels_cmp placed item.labels item.value → entries_of rising more ≡ entries_of (rising ++ item ∷ []) placed
moved_one {X} rising item placed more h e =
    let apart : IsRising (keys_of (item_entries rising ++ item_entry item ∷ placed)) = subst (λ (es : List (List Pair × X)). IsRising (keys_of es)) (last_moved rising item placed) h in
    let first : IsRising (keys_of (item_entry item ∷ placed)) = rising_back (item_entries rising) (item_entry item ∷ placed) apart in
    ap (λ (es : List (List Pair × X)). entries_of rising es) (e ∙ put_before item.labels item.value placed first.0) ∙ sym (last_moved rising item placed)

nothing_more : {X : Type 0} (xs : List X) → xs ++ [] ≡ xs
nothing_more [] = refl
nothing_more {X} (x ∷ xs) = ap (λ (r : List X). x ∷ r) (nothing_more xs)

-- a push behind those that rise is a put
pub pushed_put : {X : Type 0} (rising : List (Item X)) (placed : List (List Pair × X)) (labels : List Pair) (v : X) → placed ≡ [] → AreBelow labels (keys_of (item_entries rising))
    → IsPut None labels v (entries_of rising placed) (entries_of (rising ++ record { labels = labels; value = v } ∷ []) placed)
pushed_put {X} rising placed labels v none below =
    let alone : entries_of rising placed ≡ item_entries rising = ap (λ (p : List (List Pair × X)). item_entries rising ++ p) none ∙ nothing_more (item_entries rising) in (
      ap (λ (es : List (List Pair × X)). is_known labels es) alone ∙ none_behind labels (item_entries rising) below,
      last_moved rising (record { labels = labels; value = v }) placed ∙ ap (λ (p : List (List Pair × X)). item_entries rising ++ (labels, v) ∷ p) none
          ∙ sym (put_behind labels v (item_entries rising) below) ∙ ap (λ (es : List (List Pair × X)). insert_entry labels_cmp es labels v) (sym alone),
    )

-- the items that rise, without a map
pub rising_alone : {X : Type 0} (rising : List (Item X)) (placed : List (List Pair × X)) → placed ≡ [] → IsRising (keys_of (entries_of rising placed)) → IsRising (keys_of (item_entries rising))
rising_alone {X} rising placed none h =
    subst (λ (es : List (List Pair × X)). IsRising (keys_of es)) (ap (λ (p : List (List Pair × X)). item_entries rising ++ p) none ∙ nothing_more (item_entries rising)) h

-- what a put leaves rises
pub rising_after : {X E : Type 0} (r : Result (Option (List Pair)) E) (labels : List Pair) (v : X) (old new : List (List Pair × X)) → IfOk r (λ again. IsPut again labels v old new) → OnErr r (new ≡ old)
    → IsRising (keys_of old) → IsRising (keys_of new)
rising_after {X} (Ok None) labels v old new h same k = subst (λ (es : List (List Pair × X)). IsRising (keys_of es)) (sym h.1) (rising_put labels v old k)
rising_after {X} (Ok (Some again)) labels v old new h same k = subst (λ (es : List (List Pair × X)). IsRising (keys_of es)) (sym h.1.1) k
rising_after {X} (Err e) labels v old new h same k = subst (λ (es : List (List Pair × X)). IsRising (keys_of es)) (sym same) k

-- where all stand in the map
pub moved_put : {X E : Type 0} (r : Result (Option (List Pair)) E) (labels : List Pair) (v : X) (old placed new : List (List Pair × X)) (rising : List (Item X)) → rising ≡ [] → placed ≡ old
    → IfOk r (λ again. IsPut again labels v placed new) → IfOk r (λ again. IsPut again labels v old (entries_of rising new))
moved_put {X} r labels v old placed new rising none moved h =
    subst (λ (k : List (Item X)). IfOk r (λ again. IsPut again labels v old (entries_of k new))) (sym none)
    (subst (λ (es : List (List Pair × X)). IfOk r (λ again. IsPut again labels v es new)) moved h)

-- items and entries are the same
items_back : {X : Type 0} (items : List (Item X)) → items_of (item_entries items) ≡ items
items_back [] = refl
items_back {X} (i ∷ items) = ap (λ (r : List (Item X)). i ∷ r) (items_back items)

pub all_items : {X : Type 0} (rising : List (Item X)) (placed : List (List Pair × X)) → items_of (entries_of rising placed) ≡ rising ++ items_of placed
all_items {X} rising placed = map-append entry_item (item_entries rising) placed ∙ ap (λ (r : List (Item X)). r ++ items_of placed) (items_back rising)

sets_of_items : {X : Type 0} (es : List (List Pair × X)) → label_sets_of (items_of es) ≡ keys_of es
sets_of_items [] = refl
sets_of_items (e ∷ es) = ap (λ (r : List (List Pair)). e.0 ∷ r) (sets_of_items es)

pub rising_items : {X E A : Type 0} (r : Result A E) (items : A → List (Item X)) (es : List (List Pair × X)) → IfOk r (λ v. items v ≡ items_of es) → IsRising (keys_of es) → IfOk r (λ v. IsRising (label_sets_of (items v)))
rising_items (Ok v) items es e h = subst (λ (ks : List (List Pair)). IsRising ks) (sym (ap label_sets_of e ∙ sets_of_items es)) h
rising_items (Err x) items es e h = tt

-- a step of the move
pub moved_step : {X : Type 0} (before rising : List (Item X)) (item : Item X) (placed more whole : List (List Pair × X)) → before ≡ rising ++ item ∷ [] → entries_of before placed ≡ whole → IsRising (keys_of whole)
    → more ≡ insert_entry labels_cmp placed item.labels item.value → entries_of rising more ≡ whole
moved_step {X} before rising item placed more whole b w h e =
    let all : whole ≡ entries_of (rising ++ item ∷ []) placed = sym w ∙ ap (λ (xs : List (Item X)). entries_of xs placed) b in
    moved_one rising item placed more (subst (λ (es : List (List Pair × X)). IsRising (keys_of es)) all h) e ∙ sym all

pub lost_step : {X : Type 0} (before rising : List (Item X)) (item : Item X) (placed more whole : List (List Pair × X)) → before ≡ rising ++ item ∷ [] → entries_of before placed ≡ whole → IsRising (keys_of whole)
    → more ≡ placed → IsRising (keys_of (entries_of rising more))
lost_step {X} before rising item placed more whole b w h e =
    let all : whole ≡ item_entries rising ++ item_entry item ∷ placed = sym w ∙ ap (λ (xs : List (Item X)). entries_of xs placed) b ∙ last_moved rising item placed in
    subst (λ (es : List (List Pair × X)). IsRising (keys_of (entries_of rising es))) (sym e)
    (rising_without (item_entries rising) (item_entry item) placed (subst (λ (es : List (List Pair × X)). IsRising (keys_of es)) all h))

-- a push behind the items that rise, which are borrowed for the test
pub pushed_whole : {X : Type 0} (slice rising pushed : List (Item X)) (placed whole : List (List Pair × X)) (labels : List Pair) (v : X) → slice ≡ rising → pushed ≡ rising ++ record { labels = labels; value = v } ∷ [] → placed ≡ []
    → (IsRising (keys_of (item_entries slice)) → AreBelow labels (keys_of (item_entries slice))) → IsRising (keys_of (entries_of rising placed)) → entries_of rising placed ≡ whole
    → IsPut None labels v whole (entries_of pushed placed)
pushed_whole {X} slice rising pushed placed whole labels v same e none below h w =
    let under : AreBelow labels (keys_of (item_entries rising)) =
    subst (λ (xs : List (Item X)). IsRising (keys_of (item_entries xs)) → AreBelow labels (keys_of (item_entries xs))) same below (rising_alone rising placed none h) in
    subst (λ (es : List (List Pair × X)). IsPut None labels v es (entries_of pushed placed)) w
    (subst (λ (xs : List (Item X)). IsPut None labels v (entries_of rising placed) (entries_of xs placed)) (sym e) (pushed_put rising placed labels v none under))

pub pushed_rising : {X : Type 0} (slice rising pushed : List (Item X)) (placed : List (List Pair × X)) (labels : List Pair) (v : X) → slice ≡ rising → pushed ≡ rising ++ record { labels = labels; value = v } ∷ [] → placed ≡ []
    → (IsRising (keys_of (item_entries slice)) → AreBelow labels (keys_of (item_entries slice))) → IsRising (keys_of (entries_of rising placed)) → IsRising (keys_of (entries_of pushed placed))
pushed_rising {X} slice rising pushed placed labels v same e none below h =
    let put = pushed_whole slice rising pushed placed (entries_of rising placed) labels v same e none below h refl in
    subst (λ (es : List (List Pair × X)). IsRising (keys_of es)) (sym put.1) (rising_put labels v (entries_of rising placed) h)

pub placed_rising : {X E : Type 0} (r : Result (Option (List Pair)) E) (labels : List Pair) (v : X) (rising : List (Item X)) (placed new whole : List (List Pair × X)) → rising ≡ [] → placed ≡ whole
    → IfOk r (λ again. IsPut again labels v placed new) → OnErr r (new ≡ placed) → IsRising (keys_of whole) → IsRising (keys_of (entries_of rising new))
placed_rising {X} r labels v rising placed new whole none moved put same h =
    subst (λ (xs : List (Item X)). IsRising (keys_of (entries_of xs new))) (sym none)
    (rising_after r labels v placed new put same (subst (λ (es : List (List Pair × X)). IsRising (keys_of es)) (sym moved) h))

-- all as items
pub items_whole : {X E A : Type 0} (r : Result A E) (items : A → List (Item X)) (rising : List (Item X)) (placed whole : List (List Pair × X)) → entries_of rising placed ≡ whole
    → IfOk r (λ v. items v ≡ rising ++ items_of placed) → IfOk r (λ v. items v ≡ items_of whole)
items_whole {X} (Ok v) items rising placed whole w e = e ∙ sym (all_items rising placed) ∙ ap (λ (es : List (List Pair × X)). items_of es) w
items_whole (Err x) items rising placed whole w e = tt

pub rising_whole : {X E A : Type 0} (r : Result A E) (items : A → List (Item X)) (rising : List (Item X)) (placed whole : List (List Pair × X)) → entries_of rising placed ≡ whole → IsRising (keys_of (entries_of rising placed))
    → IfOk r (λ v. items v ≡ items_of whole) → IfOk r (λ v. IsRising (label_sets_of (items v)))
rising_whole {X} r items rising placed whole w h e = rising_items r items whole e (subst (λ (es : List (List Pair × X)). IsRising (keys_of es)) w h)
