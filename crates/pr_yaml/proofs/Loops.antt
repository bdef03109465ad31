-- What the functions of the reader of trees hand on, from what their calls say.
use Rattle.std.proofs.Common.{◌≡◌, ℕ, ◌+◌, ◌≤◌, ◌<◌, List, [], ◌∷◌, ◌++◌, length, map, Bool, Result, Ok, Err, refl, ap, sym, ◌∙◌, subst, arith}
use Rattle.std.proofs.lemmas.List.{map-append}
use Rattle.std.specs.Borrow.{Bor}
use Rattle.std.specs.Prelude.{MatchResult, IfOk}
use Rattle.pr_words.specs.pr_forms.Form.{Form, token, rule}
use Rattle.pr_words.specs.pr_forms.Run.{good, bad, Takes, Lacks}
use Rattle.pr_words.specs.pr_forms.Carries.{Chooses, ChoosesNone}
use Rattle.pr_words.specs.pr_forms.Language.{Gives, FailsAt}
use Rattle.pr_words.specs.pr_forms.declared.reader.Fault.{Fault}
use Rattle.pr_words.specs.pr_forms.declared.reader.Fault.TheVariants.{Bad, Memory}
use Rattle.pr_yaml.specs.declared.yaml_scan.token.Token.{Token}
use Rattle.pr_yaml.specs.declared.node.Node.{Node}
use Rattle.pr_yaml.specs.declared.node.MapEntry.{MapEntry}
use Rattle.pr_yaml.specs.Tree.{Tree, EntryTree, tree_of, entry_tree_of}
use Rattle.pr_yaml.specs.Grammar.{Letter, letters, YamlValue, tree, at, items, entries, mark, or_absent, Rule, MoreEntries, Under, MoreDashes, Values, Pairs, PairValue, value_from, dash_in, comma_in, production}
use Rattle.pr_yaml.specs.GrammarTable.{table, yaml}
use Rattle.pr_yaml.specs.private.Reader.{IsEntry, NoEntry, IsPair, NoPair, maybe_node, keys_in, GivesValue, HasRead}
use Rattle.pr_yaml.proofs.Keys.{keys_more}
use Rattle.pr_yaml.proofs.Ways.{R, C, letters_shorter, one_more, all_read, last_read, entry_step, entries_over, dash_step, dashes_over, value_step, value_last, values_over, pair_step, pair_last, pairs_over}

-- a node that was begun is the value of a form that its first token chooses
pub started_value : (d : Bool) (f : Form Letter Rule YamlValue) (line : ℕ) (ts : List Token) (n : Rule) (r : Result (Node × Bor (List Token)) (Fault Token)) →
    MatchResult r (λ x. Gives (yaml d) (production d n) ts (good (tree (tree_of x.0)) (letters x.1.now))) (FailsAt (yaml d) (production d n) ts) → IfOk r (λ x. length x.1.now < length ts) →
    ((end : List Letter) (v : YamlValue) → length end < length (letters ts) → R d (production d n) (letters ts) (good v end) → R d f (letters ts) (good v end)) →
    ((end : List Letter) → R d (production d n) (letters ts) (bad end) → R d f (letters ts) (bad end)) →
    MatchResult r (λ x. GivesValue d f line ts x.0 x.1.now) (FailsAt (yaml d) f ts)
started_value d f line ts n (Ok x) g s taken refused = (tree (tree_of x.0), (taken (letters x.1.now) (tree (tree_of x.0)) (letters_shorter x.1.now ts s) g, refl))
started_value d f line ts n (Err (Bad rest)) g s taken refused = refused (letters rest.now) g
started_value d f line ts n (Err Memory) g s taken refused = tt

-- an equal tree
pub equal_tree : (d : Bool) (f : Form Letter Rule YamlValue) (ts end : List Letter) (t u : Tree) → u ≡ t → R d f ts (good (tree t) end) → R d f ts (good (tree u) end)
equal_tree d f ts end t u e h = subst (λ x. R d f ts (good (tree x) end)) (sym e) h

-- an entry with the value that was read
made_entry : (line : ℕ) (key : List ℕ) (v : YamlValue) (node : Node) → or_absent line v ≡ tree_of node → (es all : List EntryTree) → all ≡ es ++ record { key = key; line = line; value = tree_of node } ∷ [] →
    all ≡ es ++ record { key = key; line = line; value = or_absent line v } ∷ []
made_entry line key v node e es all h = rw e h

pub map_more : (d : Bool) (k r : ℕ) (tokens before following after : List Token) (old new : List MapEntry) (line : ℕ) (key : List ℕ) (node : Node) →
    HasRead d (rule (MoreEntries k r [])) tokens entries (map entry_tree_of old) (rule (MoreEntries k r (keys_in old))) before → IsEntry d k (keys_in old) line key (letters before) (letters following) →
    GivesValue d (rule (Under k r)) line following node after → map entry_tree_of new ≡ map entry_tree_of old ++ record { key = key; line = line; value = tree_of node } ∷ [] →
    length following < length before → length after ≤ length following → HasRead d (rule (MoreEntries k r [])) tokens entries (map entry_tree_of new) (rule (MoreEntries k r (keys_in new))) after
map_more d k r tokens before following after old new line key node h i v e lt le =
    let all : map entry_tree_of new ≡ map entry_tree_of old ++ record { key = key; line = line; value = or_absent line v.0 } ∷ [] = made_entry line key v.0 node v.1.1 (map entry_tree_of old) (map entry_tree_of new) e in
    let keys : keys_in new ≡ keys_in old ++ key ∷ [] = keys_more (map entry_tree_of old) (map entry_tree_of new) _ e in
    record {
      carries = subst (λ ks. C d (rule (MoreEntries k r [])) (letters tokens) (λ xs. entries (map entry_tree_of new ++ xs)) (rule (MoreEntries k r ks)) (letters after) entries) (sym keys)
          (one_more d entries (map entry_tree_of old) (map entry_tree_of new) _ all h.carries (entry_step d k r i v.1.0));
      shorter = let s = h.shorter in omega (arith, s, lt, le);
    }

pub map_over : (d : Bool) (k r : ℕ) (tokens before : List Token) (old : List MapEntry) → HasRead d (rule (MoreEntries k r [])) tokens entries (map entry_tree_of old) (rule (MoreEntries k r (keys_in old))) before →
    NoEntry d k (keys_in old) (letters before) → R d (rule (MoreEntries k r [])) (letters tokens) (good (entries (map entry_tree_of old)) (letters before))
map_over d k r tokens before old h i = all_read d entries (map entry_tree_of old) h.carries (entries_over d k r (keys_in old) (letters before) i)

pub trees_more : (old new : List Node) (node : Node) → new ≡ old ++ node ∷ [] → map tree_of new ≡ map tree_of old ++ tree_of node ∷ []
trees_more old new node e = ap (map tree_of) e ∙ map-append tree_of old (node ∷ [])

pub list_more : (d : Bool) (k r : ℕ) (tokens before following after : List Token) (old new : List Node) (line : ℕ) (node : Node) →
    HasRead d (rule (MoreDashes k r)) tokens items (map tree_of old) (rule (MoreDashes k r)) before → Takes (production d) (table d) (token (dash_in k)) (letters before) (at line) (letters following) →
    GivesValue d (maybe_node (k + 1) r) line following node after → new ≡ old ++ node ∷ [] →
    length following < length before → length after ≤ length following → HasRead d (rule (MoreDashes k r)) tokens items (map tree_of new) (rule (MoreDashes k r)) after
list_more d k r tokens before following after old new line node h i v e lt le =
    let all : map tree_of new ≡ map tree_of old ++ or_absent line v.0 ∷ [] = trees_more old new node e ∙ ap (λ t. map tree_of old ++ t ∷ []) (sym v.1.1) in
    record { carries = one_more d items (map tree_of old) (map tree_of new) _ all h.carries (dash_step d k r i v.1.0); shorter = let s = h.shorter in omega (arith, s, lt, le) }

pub list_over : (d : Bool) (k r : ℕ) (tokens before : List Token) (old : List Node) → HasRead d (rule (MoreDashes k r)) tokens items (map tree_of old) (rule (MoreDashes k r)) before →
    Lacks (production d) (table d) (token (dash_in k)) (letters before) → R d (rule (MoreDashes k r)) (letters tokens) (good (items (map tree_of old)) (letters before))
list_over d k r tokens before old h i = all_read d items (map tree_of old) h.carries (dashes_over d k r i)

module _ (d : Bool) (r : ℕ) (n : Rule) (tokens before after : List Token) (some : List Letter) (old new : List Node) (node : Node)
    (h : HasRead d (rule (Values r)) tokens items (map tree_of old) (rule (Values r)) before) (i : Chooses (value_from r) n (letters before) some)
    (v : R d (production d n) (letters before) (good (tree (tree_of node)) (letters after))) (e : new ≡ old ++ node ∷ []) (lt : length after < length before) where
  pub values_more : (next : List Token) → Takes (production d) (table d) (token comma_in) (letters after) mark (letters next) → length next < length after → HasRead d (rule (Values r)) tokens items (map tree_of new) (rule (Values r)) next
  values_more next c less = record {
    carries = one_more d items (map tree_of old) (map tree_of new) (tree_of node) (trees_more old new node e) h.carries (value_step d r i (letters_shorter after before lt) v c);
    shorter = let s = h.shorter in omega (arith, s, lt, less);
  }

  pub values_last : Lacks (production d) (table d) (token comma_in) (letters after) → R d (rule (Values r)) (letters tokens) (good (items (map tree_of new)) (letters after))
  values_last c = last_read d items (map tree_of old) (map tree_of new) (tree_of node) (trees_more old new node e) h.carries (value_last d r i (letters_shorter after before lt) v c)

pub values_end : (d : Bool) (r : ℕ) (tokens before : List Token) (old : List Node) → HasRead d (rule (Values r)) tokens items (map tree_of old) (rule (Values r)) before → ChoosesNone (value_from r) (letters before) →
    R d (rule (Values r)) (letters tokens) (good (items (map tree_of old)) (letters before))
values_end d r tokens before old h i = all_read d items (map tree_of old) h.carries (values_over d r i)

module _ (d : Bool) (r : ℕ) (tokens before following after : List Token) (old new : List MapEntry) (line : ℕ) (key : List ℕ) (node : Node)
    (h : HasRead d (rule (Pairs r [])) tokens entries (map entry_tree_of old) (rule (Pairs r (keys_in old))) before) (i : IsPair d (keys_in old) line key (letters before) (letters following))
    (v : GivesValue d (rule (PairValue r)) line following node after) (e : map entry_tree_of new ≡ map entry_tree_of old ++ record { key = key; line = line; value = tree_of node } ∷ []) where
  all_pairs : map entry_tree_of new ≡ map entry_tree_of old ++ record { key = key; line = line; value = or_absent line v.0 } ∷ []
  all_pairs = made_entry line key v.0 node v.1.1 (map entry_tree_of old) (map entry_tree_of new) e

  pub pairs_more : (next : List Token) → Takes (production d) (table d) (token comma_in) (letters after) mark (letters next) → length following < length before → length after ≤ length following → length next < length after →
      HasRead d (rule (Pairs r [])) tokens entries (map entry_tree_of new) (rule (Pairs r (keys_in new))) next
  pairs_more next c lt le less =
      let keys : keys_in new ≡ keys_in old ++ key ∷ [] = keys_more (map entry_tree_of old) (map entry_tree_of new) _ e in
      record {
        carries = subst (λ ks. C d (rule (Pairs r [])) (letters tokens) (λ xs. entries (map entry_tree_of new ++ xs)) (rule (Pairs r ks)) (letters next) entries) (sym keys)
            (one_more d entries (map entry_tree_of old) (map entry_tree_of new) _ all_pairs h.carries (pair_step d r i v.1.0 c));
        shorter = let s = h.shorter in omega (arith, s, lt, le, less);
      }

  pub pairs_last : Lacks (production d) (table d) (token comma_in) (letters after) → R d (rule (Pairs r [])) (letters tokens) (good (entries (map entry_tree_of new)) (letters after))
  pairs_last c = last_read d entries (map entry_tree_of old) (map entry_tree_of new) _ all_pairs h.carries (pair_last d r i v.1.0 c)

pub pairs_end : (d : Bool) (r : ℕ) (tokens before : List Token) (old : List MapEntry) → HasRead d (rule (Pairs r [])) tokens entries (map entry_tree_of old) (rule (Pairs r (keys_in old))) before → NoPair d (keys_in old) (letters before) →
    R d (rule (Pairs r [])) (letters tokens) (good (entries (map entry_tree_of old)) (letters before))
pairs_end d r tokens before old h i = all_read d entries (map entry_tree_of old) h.carries (pairs_over d r (keys_in old) (letters before) i)
