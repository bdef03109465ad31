-- The grammar of trees ends: so what a text is, is a function of it.
use Rattle.std.proofs.Common.{◌≡◌, ℕ, suc, nat_le, Bool, true, false, List, refl, subst, Some}
use Rattle.std.specs.Prelude.{nat_eq, ◌&&◌, not}
use Rattle.pr_words.specs.pr_forms.Reading.{EndsIn, Ends}
use Rattle.pr_yaml.specs.Grammar.{Letter, text_at, key_at, dash_at, list_open, list_close, map_open, map_close, comma_at, Rule, Whole, Node, Leaf, Map, Entries, Entry, MoreEntries, Under, Items, Dashes, MoreDashes, FlowList, Values, AfterValue, FlowMap, Pairs, Pair, PairValue, AfterPair, production, is_allowed, is_taken, node_from, value_from, list_from, entry_from, pair_from}
use Rattle.pr_yaml.specs.GrammarTable.{table, empty_rule, rank, steps}
use Rattle.pr_yaml.proofs.TreeTable.{cond_some, cond_none}

-- a chosen rule reads a token, and is reached in time
abbrev IsReached : ℕ → Rule → Type 0
IsReached b n = (empty_rule n ≡ false) × (nat_le (rank n) b ≡ true)

reached : (b : ℕ) (a n : Rule) → a ≡ n → IsReached b a → IsReached b n
reached b a n e h = subst (IsReached b) e h

node_reached : (b r : ℕ) (t : Letter) (n : Rule) → node_from b r t ≡ Some n → IsReached 6 n
node_reached b r (text_at l c x q) n e = reached 6 _ n (cond_some (is_allowed r && nat_le b c) _ n e).1 (refl, refl)
node_reached b r (key_at l c x) n e = reached 6 _ n (cond_some (is_allowed r && nat_le b c) _ n e).1 (refl, refl)
node_reached b r (dash_at l c) n e = reached 6 _ n (cond_some (is_allowed r && nat_le b c) _ n e).1 (refl, refl)
node_reached b r (list_open l c) n e = reached 6 _ n (cond_some (is_allowed r && nat_le b c) _ n e).1 (refl, refl)
node_reached b r (list_close l c) n e = absurd (cond_none (is_allowed r && nat_le b c) n e)
node_reached b r (map_open l c) n e = reached 6 _ n (cond_some (is_allowed r && nat_le b c) _ n e).1 (refl, refl)
node_reached b r (map_close l c) n e = absurd (cond_none (is_allowed r && nat_le b c) n e)
node_reached b r (comma_at l c) n e = absurd (cond_none (is_allowed r && nat_le b c) n e)

value_reached : (r : ℕ) (t : Letter) (n : Rule) → value_from r t ≡ Some n → IsReached 2 n
value_reached r (text_at l c x q) n e = reached 2 _ n (cond_some (is_allowed r) _ n e).1 (refl, refl)
value_reached r (key_at l c x) n e = absurd (cond_none (is_allowed r) n e)
value_reached r (dash_at l c) n e = absurd (cond_none (is_allowed r) n e)
value_reached r (list_open l c) n e = reached 2 _ n (cond_some (is_allowed r) _ n e).1 (refl, refl)
value_reached r (list_close l c) n e = absurd (cond_none (is_allowed r) n e)
value_reached r (map_open l c) n e = reached 2 _ n (cond_some (is_allowed r) _ n e).1 (refl, refl)
value_reached r (map_close l c) n e = absurd (cond_none (is_allowed r) n e)
value_reached r (comma_at l c) n e = absurd (cond_none (is_allowed r) n e)

list_reached : (k r : ℕ) (t : Letter) (n : Rule) → list_from k r t ≡ Some n → IsReached 6 n
list_reached k r (dash_at l c) n e = reached 6 _ n (cond_some (is_allowed r && nat_eq k c) _ n e).1 (refl, refl)
list_reached k r _ n e = absurd cc

entry_reached : (d : Bool) (k r : ℕ) (ks : List (List ℕ)) (t : Letter) (n : Rule) → entry_from d k r ks t ≡ Some n → IsReached 3 n
entry_reached d k r ks (key_at l c x) n e = reached 3 _ n (cond_some (nat_eq k c && not (is_taken d x ks)) _ n e).1 (refl, refl)
entry_reached d k r ks _ n e = absurd cc

pair_reached : (d : Bool) (r : ℕ) (ks : List (List ℕ)) (t : Letter) (n : Rule) → pair_from d r ks t ≡ Some n → IsReached 3 n
pair_reached d r ks (key_at l c x) n e = reached 3 _ n (cond_some (not (is_taken d x ks)) _ n e).1 (refl, refl)
pair_reached d r ks _ n e = absurd cc

ends_known : (d : Bool) (n : Rule) → EndsIn (table d) rank steps (rank n) (production d n)
ends_known d (Whole r) = (refl, tt)
ends_known d (Node b r) = node_reached b r
ends_known d Leaf = tt
ends_known d (Map l k r) = (tt, refl)
ends_known d (Entries k r ks) = entry_reached d k r ks
ends_known d (Entry k r ks y) = ((tt, refl), refl)
ends_known d (MoreEntries k r ks) = (refl, tt)
ends_known d (Under k r) = (refl, (list_reached k r, tt))
ends_known d (Items l k r) = (tt, refl)
ends_known d (Dashes k r) = ((tt, (refl, tt)), refl)
ends_known d (MoreDashes k r) = (refl, tt)
ends_known d (FlowList r) = (tt, (refl, tt))
ends_known d (Values r) = ((value_reached r, refl), tt)
ends_known d (AfterValue r) = ((tt, refl), tt)
ends_known d (FlowMap r) = (tt, (refl, tt))
ends_known d (Pairs r ks) = (pair_reached d r ks, tt)
ends_known d (Pair r ks y) = ((tt, refl), refl)
ends_known d (PairValue r) = (value_reached r, tt)
ends_known d (AfterPair r ks) = ((tt, refl), tt)

below_known : (n : Rule) → nat_le (suc (rank n)) steps ≡ true
below_known (Whole r) = refl
below_known (Node b r) = refl
below_known Leaf = refl
below_known (Map l k r) = refl
below_known (Entries k r ks) = refl
below_known (Entry k r ks y) = refl
below_known (MoreEntries k r ks) = refl
below_known (Under k r) = refl
below_known (Items l k r) = refl
below_known (Dashes k r) = refl
below_known (MoreDashes k r) = refl
below_known (FlowList r) = refl
below_known (Values r) = refl
below_known (AfterValue r) = refl
below_known (FlowMap r) = refl
below_known (Pairs r ks) = refl
below_known (Pair r ks y) = refl
below_known (PairValue r) = refl
below_known (AfterPair r ks) = refl

pub ends : (d : Bool) → Ends (production d) (table d) rank steps
ends d = record { some = refl; below = below_known; ends = ends_known d }
