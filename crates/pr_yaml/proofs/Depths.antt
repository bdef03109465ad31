-- What is read is not deep: each map and each list takes one of the rooms that are left.
use Rattle.std.proofs.Common.{◌≡◌, ◌≤◌, ℕ, zero, suc, ◌-◌, max, List, [], ◌∷◌, Bool, true, false, ◌&&◌, Some, None, refl, sym, subst, arith}
use Rattle.std.specs.Prelude.{if◌then◌else◌, not, nat_eq, nat_le, ◌+◌}
use Rattle.pr_words.specs.pr_forms.Form.{rule}
use Rattle.pr_words.proofs.FormsByRules.{Each, Meets, by_token, by_nothing, by_pair, by_left, by_right, by_choice, by_rule, by_rules}
use Rattle.pr_yaml.specs.Tree.{Tree, text_node, trees_from, entries_from}
use Rattle.pr_yaml.specs.Grammar.{Letter, text_at, key_at, letters, YamlValue, tree, at, entry, items, entries, absent, mark, or_absent, is_taken, entry_of, entry_before, item_of, item_before, map_on, list_on, flow_map_of, flow_list_of, leaf_in, is_allowed, dash_at, list_open, list_close, map_open, map_close, comma_at, node_from, value_from, list_from, entry_from, pair_from, Rule, Whole, Node, Leaf, Map, Entries, Entry, MoreEntries, Under, Items, Dashes, MoreDashes, FlowList, Values, AfterValue, FlowMap, Pairs, Pair, PairValue, AfterPair, production}
use Rattle.pr_yaml.specs.private.Depth.{height, trees_height, entries_height}
use Rattle.pr_yaml.specs.private.Derived.{IsTree}
use Rattle.pr_yaml.specs.Trees.{levels}
use Rattle.pr_yaml.specs.private.Reader.{maybe_node}
use Rattle.pr_yaml.proofs.TreeTable.{cond_some}

-- a value is no deeper than so
abbrev Low : ℕ → YamlValue → Type 0
Low n (tree t) = height t ≤ n
Low n (items ts) = trees_height (trees_from ts) ≤ n
Low n (entries es) = entries_height (entries_from es) ≤ n
Low n (entry e) = height e.value ≤ n
Low n _ = Unit {0}

-- and the values of each rule: a node with its room, a map or a list one more than what stands in
-- it
abbrev depth : Rule → ℕ
depth (Whole r) = r
depth (Node k r) = r
depth Leaf = zero
depth (Map l k r) = suc r
depth (Entries k r ks) = r
depth (Entry k r ks key) = r
depth (MoreEntries k r ks) = r
depth (Under k r) = r
depth (Items l k r) = suc r
depth (Dashes k r) = r
depth (MoreDashes k r) = r
depth (FlowList r) = suc r
depth (Values r) = r
depth (AfterValue r) = r
depth (FlowMap r) = suc r
depth (Pairs r ks) = r
depth (Pair r ks key) = r
depth (PairValue r) = r
depth (AfterPair r ks) = r

abbrev Holds : Rule → YamlValue → Type 0
Holds n v = Low (depth n) v

abbrev Any : Letter → Type 0
Any t = Unit {0}

abbrev M : Rule → YamlValue → Type 0
M n v = Meets Any Holds (production true n) v

-- a value that may be absent
low_or_absent : (n line : ℕ) (v : YamlValue) → Low n v → height (or_absent line v) ≤ n
low_or_absent n line (tree t) h = h
low_or_absent n line (at l) h = omega arith
low_or_absent n line (entry e) h = omega arith
low_or_absent n line (items ts) h = omega arith
low_or_absent n line (entries es) h = omega arith
low_or_absent n line absent h = omega arith
low_or_absent n line mark h = omega arith

both : (a b n : ℕ) → a ≤ n → b ≤ n → max a b ≤ n
both a b n h k = omega (arith, h, k)

up : (a n : ℕ) → a ≤ n → suc a ≤ suc n
up a n h = omega (arith, h)

low_entry : (n : ℕ) (key : List ℕ) (u v w : YamlValue) → Low n v → Low n w → Low n (entry_before (entry_of key u v) w)
low_entry n key (at line) v (entries es) h k = both (height (or_absent line v)) (entries_height (entries_from es)) n (low_or_absent n line v h) k
low_entry n key (at line) v (tree t) h k = tt
low_entry n key (at line) v (at l) h k = tt
low_entry n key (at line) v (entry e) h k = tt
low_entry n key (at line) v (items ts) h k = tt
low_entry n key (at line) v absent h k = tt
low_entry n key (at line) v mark h k = tt
low_entry n key (tree t) v w h k = tt
low_entry n key (entry e) v w h k = tt
low_entry n key (items ts) v w h k = tt
low_entry n key (entries es) v w h k = tt
low_entry n key absent v w h k = tt
low_entry n key mark v w h k = tt

low_items : (n : ℕ) (v w : YamlValue) → Low n v → Low n w → Low n (item_before v w)
low_items n (tree t) (items ts) h k = both (height t) (trees_height (trees_from ts)) n h k
low_items n (tree t) (tree u) h k = tt
low_items n (tree t) (at l) h k = tt
low_items n (tree t) (entry e) h k = tt
low_items n (tree t) (entries es) h k = tt
low_items n (tree t) absent h k = tt
low_items n (tree t) mark h k = tt
low_items n (at l) w h k = tt
low_items n (entry e) w h k = tt
low_items n (items ts) w h k = tt
low_items n (entries es) w h k = tt
low_items n absent w h k = tt
low_items n mark w h k = tt

low_item : (n : ℕ) (u v : YamlValue) → Low n v → Low n (item_of u v)
low_item n (at line) v h = low_or_absent n line v h
low_item n (tree t) v h = tt
low_item n (entry e) v h = tt
low_item n (items ts) v h = tt
low_item n (entries es) v h = tt
low_item n absent v h = tt
low_item n mark v h = tt

low_map : (n line : ℕ) (u v : YamlValue) → Low n v → Low (suc n) (map_on line u v)
low_map n line u (entries es) h = up (entries_height (entries_from es)) n h
low_map n line u (tree t) h = tt
low_map n line u (at l) h = tt
low_map n line u (entry e) h = tt
low_map n line u (items ts) h = tt
low_map n line u absent h = tt
low_map n line u mark h = tt

low_list : (n line : ℕ) (u v : YamlValue) → Low n v → Low (suc n) (list_on line u v)
low_list n line u (items ts) h = up (trees_height (trees_from ts)) n h
low_list n line u (tree t) h = tt
low_list n line u (at l) h = tt
low_list n line u (entry e) h = tt
low_list n line u (entries es) h = tt
low_list n line u absent h = tt
low_list n line u mark h = tt

low_flow_map : (n : ℕ) (u v : YamlValue) → Low n v → Low (suc n) (flow_map_of u v)
low_flow_map n (at line) v h = low_map n line mark v h
low_flow_map n (tree t) v h = tt
low_flow_map n (entry e) v h = tt
low_flow_map n (items ts) v h = tt
low_flow_map n (entries es) v h = tt
low_flow_map n absent v h = tt
low_flow_map n mark v h = tt

low_flow_list : (n : ℕ) (u v : YamlValue) → Low n v → Low (suc n) (flow_list_of u v)
low_flow_list n (at line) v h = low_list n line mark v h
low_flow_list n (tree t) v h = tt
low_flow_list n (entry e) v h = tt
low_flow_list n (items ts) v h = tt
low_flow_list n (entries es) v h = tt
low_flow_list n absent v h = tt
low_flow_list n mark v h = tt

-- where there is room, a rule inside has one less
deeper : (r : ℕ) (v : YamlValue) → is_allowed r ≡ true → Low (suc (r - 1)) v → Low r v
deeper zero v e h = absurd cc
deeper (suc r) v e h = subst (λ m. Low m v) (let same : suc (suc r - 1) ≡ suc r = omega arith in same) h

more : (r : ℕ) (v : YamlValue) → Low zero v → Low r v
more r (tree t) h = omega (arith, h)
more r (at n) h = tt
more r (entry e) h = omega (arith, h)
more r (items ts) h = omega (arith, h)
more r (entries es) h = omega (arith, h)
more r absent h = tt
more r mark h = tt

left_of : (x y : Bool) → x && y ≡ true → x ≡ true
left_of true y e = refl
left_of false y e = absurd cc

chosen_entry : (k r : ℕ) (ks : List (List ℕ)) (t : Letter) (n : Rule) (v : YamlValue) → entry_from true k r ks t ≡ Some n → Holds n v → Low r v
chosen_entry k r ks (key_at l c x) n v e h =
    let p = cond_some (nat_eq k c && not (is_taken true x ks)) (Entry k r ks x) n e in
    subst (λ m. Holds m v) (sym p.1) h
chosen_entry k r ks _ n v e h = absurd cc

chosen_pair : (r : ℕ) (ks : List (List ℕ)) (t : Letter) (n : Rule) (v : YamlValue) → pair_from true r ks t ≡ Some n → Holds n v → Low r v
chosen_pair r ks (key_at l c x) n v e h =
    let p = cond_some (not (is_taken true x ks)) (Pair r ks x) n e in
    subst (λ m. Holds m v) (sym p.1) h
chosen_pair r ks _ n v e h = absurd cc

cond_none : (x : Bool) (n : Rule) → (if x then None else None) ≡ Some n → ⊥
cond_none true n e = cc
cond_none false n e = cc

-- a rule that is chosen where there is room: its values are no deeper than the room
inside : (r : ℕ) (x y : Rule) (b : Bool) (v : YamlValue) → depth x ≡ suc (r - 1) → (if is_allowed r && b then Some x else None) ≡ Some y → Holds y v → Low r v
inside r x y b v d e h =
    let p = cond_some (is_allowed r && b) x y e in
    deeper r v (left_of (is_allowed r) b p.0) (subst (λ m. Low m v) d (subst (λ m. Holds m v) (sym p.1) h))

leaf : (r : ℕ) (y : Rule) (b : Bool) (v : YamlValue) → (if b then Some Leaf else None) ≡ Some y → Holds y v → Low r v
leaf r y b v e h = more r v (subst (λ m. Holds m v) (sym (cond_some b Leaf y e).1) h)

chosen_node : (c r : ℕ) (t : Letter) (n : Rule) (v : YamlValue) → node_from c r t ≡ Some n → Holds n v → Low r v
chosen_node c r (text_at l k x q) n v e h = leaf r n (is_allowed r && nat_le c k) v e h
chosen_node c r (key_at l k x) n v e h = inside r (Map l k (r - 1)) n (nat_le c k) v refl e h
chosen_node c r (dash_at l k) n v e h = inside r (Items l k (r - 1)) n (nat_le c k) v refl e h
chosen_node c r (list_open l k) n v e h = inside r (FlowList (r - 1)) n (nat_le c k) v refl e h
chosen_node c r (map_open l k) n v e h = inside r (FlowMap (r - 1)) n (nat_le c k) v refl e h
chosen_node c r (list_close l k) n v e h = absurd (cond_none (is_allowed r && nat_le c k) n e)
chosen_node c r (map_close l k) n v e h = absurd (cond_none (is_allowed r && nat_le c k) n e)
chosen_node c r (comma_at l k) n v e h = absurd (cond_none (is_allowed r && nat_le c k) n e)

chosen_list : (k r : ℕ) (t : Letter) (n : Rule) (v : YamlValue) → list_from k r t ≡ Some n → Holds n v → Low r v
chosen_list k r (dash_at l c) n v e h = inside r (Items l k (r - 1)) n (nat_eq k c) v refl e h
chosen_list k r _ n v e h = absurd cc

-- the same in flows, where the place of a value is of no matter
within : (r : ℕ) (x y : Rule) (v : YamlValue) → depth x ≡ suc (r - 1) → (if is_allowed r then Some x else None) ≡ Some y → Holds y v → Low r v
within r x y v d e h =
    let p = cond_some (is_allowed r) x y e in
    deeper r v p.0 (subst (λ m. Low m v) d (subst (λ m. Holds m v) (sym p.1) h))

chosen_value : (r : ℕ) (t : Letter) (n : Rule) (v : YamlValue) → value_from r t ≡ Some n → Holds n v → Low r v
chosen_value r (text_at l k x q) n v e h = leaf r n (is_allowed r) v e h
chosen_value r (list_open l k) n v e h = within r (FlowList (r - 1)) n v refl e h
chosen_value r (map_open l k) n v e h = within r (FlowMap (r - 1)) n v refl e h
chosen_value r (key_at l k x) n v e h = absurd (cond_none (is_allowed r) n e)
chosen_value r (dash_at l k) n v e h = absurd (cond_none (is_allowed r) n e)
chosen_value r (list_close l k) n v e h = absurd (cond_none (is_allowed r) n e)
chosen_value r (map_close l k) n v e h = absurd (cond_none (is_allowed r) n e)
chosen_value r (comma_at l k) n v e h = absurd (cond_none (is_allowed r) n e)

leaf_low : (t : Letter) (v : YamlValue) → leaf_in t ≡ Some v → Low zero v
leaf_low (text_at l k x q) v e = subst (Low zero) (let same : tree (text_node l x q) ≡ v = cc in same) (omega arith)
leaf_low _ v e = absurd cc

-- each production keeps it
keeps : (n : Rule) (v : YamlValue) → M n v → Holds n v
keeps (Whole r) v (by_left (by_rule h)) = h
keeps (Whole r) v (by_right by_nothing) = tt
keeps (Node c r) v (by_choice {t = t} {n = n} a e h) = chosen_node c r t n v e h
keeps Leaf v (by_token {t = t} a e) = leaf_low t v e
keeps (Map l k r) _ (by_pair {v = u} {w = w} a (by_rule h)) = low_map r l u w h
keeps (Entries k r ks) v (by_choice {t = t} {n = n} a e h) = chosen_entry k r ks t n v e h
keeps (Entry k r ks key) _ (by_pair {w = w} (by_pair {v = u} {w = v} a (by_rule h)) (by_rule j)) = low_entry r key u v w h j
keeps (MoreEntries k r ks) v (by_left (by_rule h)) = h
keeps (MoreEntries k r ks) v (by_right by_nothing) = omega arith
keeps (Under k r) v (by_left (by_rule h)) = h
keeps (Under k r) v (by_right (by_left (by_choice {t = t} {n = n} a e h))) = chosen_list k r t n v e h
keeps (Under k r) v (by_right (by_right by_nothing)) = tt
keeps (Items l k r) _ (by_pair {v = u} {w = w} a (by_rule h)) = low_list r l u w h
keeps (Dashes k r) _ (by_pair {w = w} (by_pair {v = u} {w = v} a b) (by_rule j)) = low_items r (item_of u v) w (low_item r u v (after b)) j
  where
    after : {x : YamlValue} → Meets Any Holds (maybe_node (k + 1) r) x → Low r x
    after (by_left (by_rule h)) = h
    after (by_right by_nothing) = tt
keeps (MoreDashes k r) v (by_left (by_rule h)) = h
keeps (MoreDashes k r) v (by_right by_nothing) = omega arith
keeps (FlowList r) _ (by_pair {v = u} a (by_pair {v = w} (by_rule h) b)) = low_flow_list r u w h
keeps (Values r) _ (by_left (by_pair {v = u} {w = w} (by_choice {t = t} {n = n} a e h) (by_rule j))) = low_items r u w (chosen_value r t n u e h) j
keeps (Values r) v (by_right by_nothing) = omega arith
keeps (AfterValue r) _ (by_left (by_pair a (by_rule h))) = h
keeps (AfterValue r) v (by_right by_nothing) = omega arith
keeps (FlowMap r) _ (by_pair {v = u} a (by_pair {v = w} (by_rule h) b)) = low_flow_map r u w h
keeps (Pairs r ks) v (by_left (by_choice {t = t} {n = n} a e h)) = chosen_pair r ks t n v e h
keeps (Pairs r ks) v (by_right by_nothing) = omega arith
keeps (Pair r ks key) _ (by_pair {w = w} (by_pair {v = u} {w = v} a (by_rule h)) (by_rule j)) = low_entry r key u v w h j
keeps (PairValue r) v (by_left (by_choice {t = t} {n = n} a e h)) = chosen_value r t n v e h
keeps (PairValue r) v (by_right by_nothing) = tt
keeps (AfterPair r ks) _ (by_left (by_pair a (by_rule h))) = h
keeps (AfterPair r ks) v (by_right by_nothing) = omega arith

each_any : (ts : List Letter) → Each Any ts
each_any [] = tt
each_any (t ∷ ts) = (tt, each_any ts)

whole_low : (r : ℕ) (v : YamlValue) → Meets Any Holds (rule (Whole r)) v → Low r v
whole_low r v (by_rule h) = h

pub low_tree : (text : List ℕ) (t : Tree) → IsTree text t → height t ≤ levels
low_tree text t h =
    let low = whole_low levels h.value (by_rules (production true) Any Holds keeps h.whole (each_any (letters h.tokens))) in
    subst (λ u. height u ≤ levels) h.is (low_or_absent levels 1 h.value low)
