-- What is read has maps with distinct keys.
use Rattle.std.proofs.Common.{◌≡◌, ℕ, List, [], ◌∷◌, ◌++◌, Bool, true, false, ◌&&◌, Some, refl, sym, subst}
use Rattle.std.specs.Prelude.{not, nat_eq, nat_le, ◌+◌}
use Rattle.pr_words.specs.Names.{is_among}
use Rattle.pr_words.specs.pr_forms.Form.{rule}
use Rattle.pr_words.proofs.FormsByRules.{Each, Meets, by_token, by_nothing, by_pair, by_left, by_right, by_choice, by_rule, by_rules}
use Rattle.pr_yaml.specs.Tree.{Tree, text_node, trees_from, entries_from}
use Rattle.pr_yaml.specs.Grammar.{Letter, text_at, key_at, letters, YamlValue, tree, at, entry, items, entries, absent, mark, or_absent, is_taken, entry_of, entry_before, item_of, item_before, map_on, list_on, flow_map_of, flow_list_of, leaf_in, is_allowed, dash_at, list_open, list_close, map_open, map_close, comma_at, node_from, value_from, list_from, entry_from, pair_from, Rule, Whole, Node, Leaf, Map, Entries, Entry, MoreEntries, Under, Items, Dashes, MoreDashes, FlowList, Values, AfterValue, FlowMap, Pairs, Pair, PairValue, AfterPair, production}
use Rattle.pr_yaml.specs.private.Distinct.{has_distinct_keys, have_distinct_keys, are_distinct}
use Rattle.pr_yaml.specs.private.Derived.{IsTree}
use Rattle.pr_yaml.specs.Trees.{levels}
use Rattle.pr_yaml.specs.private.Reader.{maybe_node}
use Rattle.pr_yaml.proofs.TreeTable.{cond_some, cond_none, right_of}

-- what is so of a value, after entries with these keys
abbrev Fine : List (List ℕ) → YamlValue → Type 0
Fine keys (tree t) = has_distinct_keys t ≡ true
Fine keys (items ts) = have_distinct_keys (trees_from ts) ≡ true
Fine keys (entries es) = are_distinct keys (entries_from es) ≡ true
Fine keys (entry e) = has_distinct_keys e.value ≡ true
Fine keys _ = Unit {0}

-- and of the values of each rule
abbrev Holds : Rule → YamlValue → Type 0
Holds (Entries k r ks) v = Fine ks v
Holds (Entry k r ks key) v = is_among key ks ≡ false → Fine ks v
Holds (MoreEntries k r ks) v = Fine ks v
Holds (Pairs r ks) v = Fine ks v
Holds (Pair r ks key) v = is_among key ks ≡ false → Fine ks v
Holds (AfterPair r ks) v = Fine ks v
Holds _ v = Fine [] v

abbrev Any : Letter → Type 0
Any t = Unit {0}

abbrev M : Rule → YamlValue → Type 0
M n v = Meets Any Holds (production true n) v

both : (a b : Bool) → a ≡ true → b ≡ true → a && b ≡ true
both a b e h = rw (e, h) refl

-- a value that may be absent
fine_or_absent : (line : ℕ) (v : YamlValue) → Fine [] v → has_distinct_keys (or_absent line v) ≡ true
fine_or_absent line (tree t) h = h
fine_or_absent line (at n) h = refl
fine_or_absent line (entry e) h = refl
fine_or_absent line (items ts) h = refl
fine_or_absent line (entries es) h = refl
fine_or_absent line absent h = refl
fine_or_absent line mark h = refl

fine_entry : (ks : List (List ℕ)) (key : List ℕ) (u v w : YamlValue) → is_among key ks ≡ false → Fine [] v → Fine (ks ++ key ∷ []) w → Fine ks (entry_before (entry_of key u v) w)
fine_entry ks key (at line) v (entries es) a h k = both (not (is_among key ks)) _ (rw a refl) (both (has_distinct_keys (or_absent line v)) _ (fine_or_absent line v h) k)
fine_entry ks key (at line) v (tree t) a h k = tt
fine_entry ks key (at line) v (at n) a h k = tt
fine_entry ks key (at line) v (entry e) a h k = tt
fine_entry ks key (at line) v (items ts) a h k = tt
fine_entry ks key (at line) v absent a h k = tt
fine_entry ks key (at line) v mark a h k = tt
fine_entry ks key (tree t) v w a h k = tt
fine_entry ks key (entry e) v w a h k = tt
fine_entry ks key (items ts) v w a h k = tt
fine_entry ks key (entries es) v w a h k = tt
fine_entry ks key absent v w a h k = tt
fine_entry ks key mark v w a h k = tt

fine_items : (v w : YamlValue) → Fine [] v → Fine [] w → Fine [] (item_before v w)
fine_items (tree t) (items ts) h k = both (has_distinct_keys t) _ h k
fine_items (tree t) (tree u) h k = tt
fine_items (tree t) (at n) h k = tt
fine_items (tree t) (entry e) h k = tt
fine_items (tree t) (entries es) h k = tt
fine_items (tree t) absent h k = tt
fine_items (tree t) mark h k = tt
fine_items (at n) w h k = tt
fine_items (entry e) w h k = tt
fine_items (items ts) w h k = tt
fine_items (entries es) w h k = tt
fine_items absent w h k = tt
fine_items mark w h k = tt

fine_item : (u v : YamlValue) → Fine [] v → Fine [] (item_of u v)
fine_item (at line) v h = fine_or_absent line v h
fine_item (tree t) v h = tt
fine_item (entry e) v h = tt
fine_item (items ts) v h = tt
fine_item (entries es) v h = tt
fine_item absent v h = tt
fine_item mark v h = tt

fine_map : (line : ℕ) (u v : YamlValue) → Fine [] v → Fine [] (map_on line u v)
fine_map line u (entries es) h = h
fine_map line u (tree t) h = tt
fine_map line u (at n) h = tt
fine_map line u (entry e) h = tt
fine_map line u (items ts) h = tt
fine_map line u absent h = tt
fine_map line u mark h = tt

fine_list : (line : ℕ) (u v : YamlValue) → Fine [] v → Fine [] (list_on line u v)
fine_list line u (items ts) h = h
fine_list line u (tree t) h = tt
fine_list line u (at n) h = tt
fine_list line u (entry e) h = tt
fine_list line u (entries es) h = tt
fine_list line u absent h = tt
fine_list line u mark h = tt

fine_flow_map : (u v : YamlValue) → Fine [] v → Fine [] (flow_map_of u v)
fine_flow_map (at line) v h = fine_map line mark v h
fine_flow_map (tree t) v h = tt
fine_flow_map (entry e) v h = tt
fine_flow_map (items ts) v h = tt
fine_flow_map (entries es) v h = tt
fine_flow_map absent v h = tt
fine_flow_map mark v h = tt

fine_flow_list : (u v : YamlValue) → Fine [] v → Fine [] (flow_list_of u v)
fine_flow_list (at line) v h = fine_list line mark v h
fine_flow_list (tree t) v h = tt
fine_flow_list (entry e) v h = tt
fine_flow_list (items ts) v h = tt
fine_flow_list (entries es) v h = tt
fine_flow_list absent v h = tt
fine_flow_list mark v h = tt

-- a key that is chosen stands not among those before it
not_taken : (key : List ℕ) (ks : List (List ℕ)) (b : Bool) → b ≡ is_taken true key ks → not b ≡ true → is_among key ks ≡ false
not_taken key ks true e h = absurd cc
not_taken key ks false e h = sym e

chosen_entry : (k r : ℕ) (ks : List (List ℕ)) (t : Letter) (n : Rule) (v : YamlValue) → entry_from true k r ks t ≡ Some n → Holds n v → Fine ks v
chosen_entry k r ks (key_at l c x) n v e h =
    let p = cond_some (nat_eq k c && not (is_taken true x ks)) (Entry k r ks x) n e in
    subst (λ m. Holds m v) (sym p.1) h (not_taken x ks (is_taken true x ks) refl (right_of (nat_eq k c) _ p.0))
chosen_entry k r ks _ n v e h = absurd cc

chosen_pair : (r : ℕ) (ks : List (List ℕ)) (t : Letter) (n : Rule) (v : YamlValue) → pair_from true r ks t ≡ Some n → Holds n v → Fine ks v
chosen_pair r ks (key_at l c x) n v e h =
    let p = cond_some (not (is_taken true x ks)) (Pair r ks x) n e in
    subst (λ m. Holds m v) (sym p.1) h (not_taken x ks (is_taken true x ks) refl p.0)
chosen_pair r ks _ n v e h = absurd cc

chosen_node : (c r : ℕ) (t : Letter) (n : Rule) (v : YamlValue) → node_from c r t ≡ Some n → Holds n v → Fine [] v
chosen_node c r (text_at l k x q) n v e h = subst (λ m. Holds m v) (sym (cond_some (is_allowed r && nat_le c k) _ n e).1) h
chosen_node c r (key_at l k x) n v e h = subst (λ m. Holds m v) (sym (cond_some (is_allowed r && nat_le c k) _ n e).1) h
chosen_node c r (dash_at l k) n v e h = subst (λ m. Holds m v) (sym (cond_some (is_allowed r && nat_le c k) _ n e).1) h
chosen_node c r (list_open l k) n v e h = subst (λ m. Holds m v) (sym (cond_some (is_allowed r && nat_le c k) _ n e).1) h
chosen_node c r (map_open l k) n v e h = subst (λ m. Holds m v) (sym (cond_some (is_allowed r && nat_le c k) _ n e).1) h
chosen_node c r (list_close l k) n v e h = absurd (cond_none (is_allowed r && nat_le c k) n e)
chosen_node c r (map_close l k) n v e h = absurd (cond_none (is_allowed r && nat_le c k) n e)
chosen_node c r (comma_at l k) n v e h = absurd (cond_none (is_allowed r && nat_le c k) n e)

chosen_value : (r : ℕ) (t : Letter) (n : Rule) (v : YamlValue) → value_from r t ≡ Some n → Holds n v → Fine [] v
chosen_value r (text_at l k x q) n v e h = subst (λ m. Holds m v) (sym (cond_some (is_allowed r) _ n e).1) h
chosen_value r (list_open l k) n v e h = subst (λ m. Holds m v) (sym (cond_some (is_allowed r) _ n e).1) h
chosen_value r (map_open l k) n v e h = subst (λ m. Holds m v) (sym (cond_some (is_allowed r) _ n e).1) h
chosen_value r (key_at l k x) n v e h = absurd (cond_none (is_allowed r) n e)
chosen_value r (dash_at l k) n v e h = absurd (cond_none (is_allowed r) n e)
chosen_value r (list_close l k) n v e h = absurd (cond_none (is_allowed r) n e)
chosen_value r (map_close l k) n v e h = absurd (cond_none (is_allowed r) n e)
chosen_value r (comma_at l k) n v e h = absurd (cond_none (is_allowed r) n e)

chosen_list : (k r : ℕ) (t : Letter) (n : Rule) (v : YamlValue) → list_from k r t ≡ Some n → Holds n v → Fine [] v
chosen_list k r (dash_at l c) n v e h = subst (λ m. Holds m v) (sym (cond_some (is_allowed r && nat_eq k c) _ n e).1) h
chosen_list k r _ n v e h = absurd cc

leaf_fine : (t : Letter) (v : YamlValue) → leaf_in t ≡ Some v → Fine [] v
leaf_fine (text_at l k x q) v e = subst (Fine []) (let same : tree (text_node l x q) ≡ v = cc in same) refl
leaf_fine _ v e = absurd cc

-- each production keeps it
keeps : (n : Rule) (v : YamlValue) → M n v → Holds n v
keeps (Whole r) v (by_left (by_rule h)) = h
keeps (Whole r) v (by_right by_nothing) = tt
keeps (Node c r) v (by_choice {t = t} {n = n} a e h) = chosen_node c r t n v e h
keeps Leaf v (by_token {t = t} a e) = leaf_fine t v e
keeps (Map l k r) _ (by_pair {v = u} {w = w} a (by_rule h)) = fine_map l u w h
keeps (Entries k r ks) v (by_choice {t = t} {n = n} a e h) = chosen_entry k r ks t n v e h
keeps (Entry k r ks key) _ (by_pair {w = w} (by_pair {v = u} {w = v} a (by_rule h)) (by_rule j)) = λ f. fine_entry ks key u v w f h j
keeps (MoreEntries k r ks) v (by_left (by_rule h)) = h
keeps (MoreEntries k r ks) v (by_right by_nothing) = refl
keeps (Under k r) v (by_left (by_rule h)) = h
keeps (Under k r) v (by_right (by_left (by_choice {t = t} {n = n} a e h))) = chosen_list k r t n v e h
keeps (Under k r) v (by_right (by_right by_nothing)) = tt
keeps (Items l k r) _ (by_pair {v = u} {w = w} a (by_rule h)) = fine_list l u w h
keeps (Dashes k r) _ (by_pair {w = w} (by_pair {v = u} {w = v} a b) (by_rule j)) = fine_items (item_of u v) w (fine_item u v (after b)) j
  where
    after : {x : YamlValue} → Meets Any Holds (maybe_node (k + 1) r) x → Fine [] x
    after (by_left (by_rule h)) = h
    after (by_right by_nothing) = tt
keeps (MoreDashes k r) v (by_left (by_rule h)) = h
keeps (MoreDashes k r) v (by_right by_nothing) = refl
keeps (FlowList r) _ (by_pair {v = u} a (by_pair {v = w} (by_rule h) b)) = fine_flow_list u w h
keeps (Values r) _ (by_left (by_pair {v = u} {w = w} (by_choice {t = t} {n = n} a e h) (by_rule j))) = fine_items u w (chosen_value r t n u e h) j
keeps (Values r) v (by_right by_nothing) = refl
keeps (AfterValue r) _ (by_left (by_pair a (by_rule h))) = h
keeps (AfterValue r) v (by_right by_nothing) = refl
keeps (FlowMap r) _ (by_pair {v = u} a (by_pair {v = w} (by_rule h) b)) = fine_flow_map u w h
keeps (Pairs r ks) v (by_left (by_choice {t = t} {n = n} a e h)) = chosen_pair r ks t n v e h
keeps (Pairs r ks) v (by_right by_nothing) = refl
keeps (Pair r ks key) _ (by_pair {w = w} (by_pair {v = u} {w = v} a (by_rule h)) (by_rule j)) = λ f. fine_entry ks key u v w f h j
keeps (PairValue r) v (by_left (by_choice {t = t} {n = n} a e h)) = chosen_value r t n v e h
keeps (PairValue r) v (by_right by_nothing) = tt
keeps (AfterPair r ks) _ (by_left (by_pair a (by_rule h))) = h
keeps (AfterPair r ks) v (by_right by_nothing) = refl

each_any : (ts : List Letter) → Each Any ts
each_any [] = tt
each_any (t ∷ ts) = (tt, each_any ts)

whole_fine : (r : ℕ) (v : YamlValue) → Meets Any Holds (rule (Whole r)) v → Fine [] v
whole_fine r v (by_rule h) = h

pub distinct_keys : (text : List ℕ) (t : Tree) → IsTree text t → has_distinct_keys t ≡ true
distinct_keys text t h =
    let fine = whole_fine levels h.value (by_rules (production true) Any Holds keeps h.whole (each_any (letters h.tokens))) in
    subst (λ u. has_distinct_keys u ≡ true) h.is (fine_or_absent 1 h.value fine)
