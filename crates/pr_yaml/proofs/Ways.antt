-- The ways of the reader of trees through its rules.
use Rattle.std.proofs.Common.{◌≡◌, ℕ, ◌+◌, ◌≤◌, ◌<◌, List, [], ◌∷◌, ◌++◌, length, Bool, true, false, Option, Some, refl, ap, sym, ◌∙◌, subst, arith, append_assoc}
use Rattle.std.proofs.lemmas.List.{length-map}
use Rattle.std.proofs.lemmas.Bool.Decides.{nat_tests}
use Rattle.std.specs.Prelude.{is_some}
use Rattle.pr_words.specs.pr_forms.Form.{Form, token, pair, rule, chosen}
use Rattle.pr_words.specs.pr_forms.Table.{is_next, empty_of}
use Rattle.pr_words.specs.pr_forms.Run.{Runs, ReaderOutcome, good, bad, run_token, run_nothing, run_pair, run_first, run_second, run_left, run_right, run_chosen, run_chosen_bad, run_rule, Takes, Lacks}
use Rattle.pr_words.specs.pr_forms.Carries.{Carries, Chooses, ChoosesNone, no_token, no_rule}
use Rattle.pr_words.proofs.FormsCarrying.{carry_with, carry_made}
use Rattle.pr_words.proofs.FormsChoosing.{chosen_next, none_next, none_chosen}
use Rattle.pr_words.proofs.FormsDecided.{shrinks}
use Rattle.pr_words.proofs.FormsSteps.{next_pair}
use Rattle.pr_words.proofs.FormsEnding.{consumes}
use Rattle.pr_words.proofs.FormsSound.{meets, reads}
use Rattle.pr_yaml.proofs.TreeTable.{known}
use Rattle.pr_words.proofs.FormsWays.{take_side, take_side_bad, other_side}
use Rattle.pr_yaml.specs.declared.yaml_scan.token.Token.{Token}
use Rattle.pr_yaml.specs.Tree.{Tree, map_node, list_node, EntryTree, trees_from, entries_from}
use Rattle.pr_yaml.specs.Grammar.{Letter, letters, letter_of, key_at, YamlValue, tree, at, entry, entries, items, absent, mark, or_absent, entry_of, item_before, Rule, Node, Map, Entries, Entry, MoreEntries, Under, Items, Dashes, MoreDashes, Values, AfterValue, Pairs, Pair, PairValue, node_from, value_from, list_from, entry_from, pair_from, key_in, any_key_in, dash_in, comma_in, production, is_item_more, is_in_map, no_more}
use Rattle.pr_yaml.specs.GrammarTable.{table}
use Rattle.pr_yaml.specs.private.Reader.{IsEntry, NoEntry, IsPair, NoPair, maybe_node}
use Rattle.pr_yaml.proofs.KeyTokens.{entry_chosen, pair_chosen}

abbrev pub R : Bool → Form Letter Rule YamlValue → List Letter → ReaderOutcome Letter YamlValue → Type 0
R d f ts o = Runs (production d) (table d) f ts o

abbrev pub C : {X : Type 0} → Bool → Form Letter Rule YamlValue → List Letter → (X → YamlValue) → Form Letter Rule YamlValue → List Letter → (X → YamlValue) → Type 0
C d f ts made g rest given = Carries (production d) (table d) f ts made g rest given

-- the lengths of lists of tokens are those of their letters
pub letters_shorter : (ts us : List Token) → length ts < length us → length (letters ts) < length (letters us)
letters_shorter ts us h = omega (arith, length-map ts letter_of, length-map us letter_of, h)

-- a form that reads something leaves fewer tokens
pub fewer_left : (d : Bool) (n : Rule) (ts rest : List Token) (v : YamlValue) → (table d).empty n ≡ false → R d (production d n) (letters ts) (good v (letters rest)) → length rest < length ts
fewer_left d n ts rest v e h =
    let lt = consumes (production d) (table d) (known d) (reads (meets h)) (empty_known d n e) in
    omega (arith, length-map ts letter_of, length-map rest letter_of, lt)
  where
    empty_known : (d : Bool) (n : Rule) → (table d).empty n ≡ false → empty_of (table d) (production d n) ≡ false
    empty_known d n e = (known d).empty n ∙ e

-- a rule that the next token chooses, which reads it
module _ (d : Bool) {q : Letter → Option Rule} {m : Letter → Bool} {n : Rule} where
  pub chosen_good : {ts rest end : List Letter} {v : YamlValue} → Chooses q n ts rest → length end < length ts → R d (production d n) ts (good v end) → R d (chosen q m) ts (good v end)
  chosen_good {ts} {rest} {end} {v} h lt k = subst (λ us. R d (chosen q m) us (good v end)) (sym h.is) (run_chosen h.has (omega (arith, lt, ap length h.is)) (subst (λ us. R d (production d n) us (good v end)) h.is k))

  pub chosen_bad : {ts rest end : List Letter} → Chooses q n ts rest → R d (production d n) ts (bad end) → R d (chosen q m) ts (bad end)
  chosen_bad {ts} {rest} {end} h k = subst (λ us. R d (chosen q m) us (bad end)) (sym h.is) (run_chosen_bad h.has (subst (λ us. R d (production d n) us (bad end)) h.is k))

-- whether a node comes next
node_next : (d : Bool) (c r : ℕ) {n : Rule} {ts rest : List Letter} → Chooses (node_from c r) n ts rest → is_next {V = YamlValue} (table d) (rule (Node c r)) ts ≡ true
node_next d c r {n} {ts} h = subst (λ us. is_next {V = YamlValue} (table d) (rule (Node c r)) us ≡ true) (sym h.is) (ap is_some h.has)

no_node_next : (d : Bool) (c r : ℕ) {ts : List Letter} → ChoosesNone (node_from c r) ts → is_next {V = YamlValue} (table d) (rule (Node c r)) ts ≡ false
no_node_next d c r no_token = refl
no_node_next d c r (no_rule e) = ap is_some e

-- a node or none
module _ (d : Bool) (c r : ℕ) where
  pub node_good : {n : Rule} {ts rest end : List Letter} {v : YamlValue} → Chooses (node_from c r) n ts rest → length end < length ts → R d (production d n) ts (good v end) → R d (maybe_node c r) ts (good v end)
  node_good h lt k = run_left (node_next d c r h) (run_rule (chosen_good d h lt k))

  pub node_bad : {n : Rule} {ts rest end : List Letter} → Chooses (node_from c r) n ts rest → R d (production d n) ts (bad end) → R d (maybe_node c r) ts (bad end)
  node_bad h k = run_left (node_next d c r h) (run_rule (chosen_bad d h k))

  pub node_none : {ts : List Letter} → ChoosesNone (node_from c r) ts → R d (maybe_node c r) ts (good absent ts)
  node_none h = run_right (no_node_next d c r h) run_nothing

-- what stands under a key
module _ (d : Bool) (k r : ℕ) where
  pub under_good : {n : Rule} {ts rest end : List Letter} {v : YamlValue} → Chooses (node_from (k + 1) r) n ts rest → length end < length ts → R d (production d n) ts (good v end) → R d (rule (Under k r)) ts (good v end)
  under_good h lt j = run_rule (run_left (node_next d (k + 1) r h) (run_rule (chosen_good d h lt j)))

  pub under_bad : {n : Rule} {ts rest end : List Letter} → Chooses (node_from (k + 1) r) n ts rest → R d (production d n) ts (bad end) → R d (rule (Under k r)) ts (bad end)
  under_bad h j = run_rule (run_left (node_next d (k + 1) r h) (run_rule (chosen_bad d h j)))

  pub list_good : {n : Rule} {ts rest end : List Letter} {v : YamlValue} → ChoosesNone (node_from (k + 1) r) ts → Chooses (list_from k r) n ts rest → length end < length ts → R d (production d n) ts (good v end) → R d (rule (Under k r)) ts (good v end)
  list_good e h lt j = run_rule (run_right (no_node_next d (k + 1) r e) (run_left (chosen_next YamlValue (table d) (list_from k r) (is_item_more k) h) (chosen_good d h lt j)))

  pub list_bad : {n : Rule} {ts rest end : List Letter} → ChoosesNone (node_from (k + 1) r) ts → Chooses (list_from k r) n ts rest → R d (production d n) ts (bad end) → R d (rule (Under k r)) ts (bad end)
  list_bad e h j = run_rule (run_right (no_node_next d (k + 1) r e) (run_left (chosen_next YamlValue (table d) (list_from k r) (is_item_more k) h) (chosen_bad d h j)))

  pub under_none : {ts : List Letter} → ChoosesNone (node_from (k + 1) r) ts → ChoosesNone (list_from k r) ts → R d (rule (Under k r)) ts (good absent ts)
  under_none e h = run_rule (run_right (no_node_next d (k + 1) r e) (run_right (none_next YamlValue (table d) (list_from k r) (is_item_more k) h) run_nothing))

-- the value of a pair in a flow
module _ (d : Bool) (r : ℕ) where
  pub pair_value_good : {n : Rule} {ts rest end : List Letter} {v : YamlValue} → Chooses (value_from r) n ts rest → length end < length ts → R d (production d n) ts (good v end) → R d (rule (PairValue r)) ts (good v end)
  pair_value_good h lt k = run_rule (run_left (chosen_next YamlValue (table d) (value_from r) no_more h) (chosen_good d h lt k))

  pub pair_value_bad : {n : Rule} {ts rest end : List Letter} → Chooses (value_from r) n ts rest → R d (production d n) ts (bad end) → R d (rule (PairValue r)) ts (bad end)
  pair_value_bad h k = run_rule (run_left (chosen_next YamlValue (table d) (value_from r) no_more h) (chosen_bad d h k))

  pub pair_value_none : {ts : List Letter} → ChoosesNone (value_from r) ts → R d (rule (PairValue r)) ts (good absent ts)
  pair_value_none h = run_rule (run_right (none_next YamlValue (table d) (value_from r) no_more h) run_nothing)

-- A loop has read some parts of a list, and reads one more.
pub one_more : {A : Type 0} (d : Bool) {f g h : Form Letter Rule YamlValue} {ts mid rest : List Letter} (mk : List A → YamlValue) (done all : List A) (x : A) → all ≡ done ++ x ∷ [] →
    C d f ts (λ xs. mk (done ++ xs)) g mid mk → C d g mid (λ xs. mk (x ∷ xs)) h rest mk → C d f ts (λ xs. mk (all ++ xs)) h rest mk
one_more d mk done all x e a b = carry_made (λ xs. ap mk (sym (append_assoc done (x ∷ []) xs) ∙ ap (λ ys. ys ++ xs) (sym e))) (carry_with (λ xs. x ∷ xs) a b)

append_none : {A : Type 0} (xs : List A) → xs ++ [] ≡ xs
append_none [] = refl
append_none (x ∷ xs) = ap (λ ys. x ∷ ys) (append_none xs)

-- and has read them all, where nothing more comes, or one more does
pub all_read : {A : Type 0} (d : Bool) {f g : Form Letter Rule YamlValue} {ts mid end : List Letter} (mk : List A → YamlValue) (done : List A) →
    C d f ts (λ xs. mk (done ++ xs)) g mid mk → R d g mid (good (mk []) end) → R d f ts (good (mk done) end)
all_read {A} d {f} {g} {ts} {mid} {end} mk done a k = subst (λ xs. R d f ts (good (mk xs) end)) (append_none done) (a.reads [] end k)

pub last_read : {A : Type 0} (d : Bool) {f g : Form Letter Rule YamlValue} {ts mid end : List Letter} (mk : List A → YamlValue) (done all : List A) (x : A) → all ≡ done ++ x ∷ [] →
    C d f ts (λ xs. mk (done ++ xs)) g mid mk → R d g mid (good (mk (x ∷ [])) end) → R d f ts (good (mk all) end)
last_read {A} d {f} {g} {ts} {mid} {end} mk done all x e a k = subst (λ xs. R d f ts (good (mk xs) end)) (sym e) (a.reads (x ∷ []) end k)

-- nothing has been read yet
pub none_read : {A : Type 0} (d : Bool) {f : Form Letter Rule YamlValue} {ts : List Letter} (mk : List A → YamlValue) (done : List A) → done ≡ [] → C d f ts (λ xs. mk (done ++ xs)) f ts mk
none_read {A} d {f} {ts} mk done e = subst (λ ys. C d f ts (λ xs. mk (ys ++ xs)) f ts mk) (sym e) (record { reads = λ xs end k. k; fails = λ end k. k })

-- the entries of a map in a block
key_is : (k n : ℕ) (x : List ℕ) → key_in k (key_at n k x) ≡ Some (at n)
key_is k n x = grind (arith, nat_tests)

module _ (d : Bool) (k r : ℕ) {ks : List (List ℕ)} {line : ℕ} {key : List ℕ} where
  key_chooses : {ts rest : List Letter} → IsEntry d k ks line key ts rest → Chooses (entry_from d k r ks) (Entry k r ks key) ts rest
  key_chooses h = record { first = key_at line k key; is = h.is; has = entry_chosen d k r ks line key h.fresh }

  entries_next : {ts rest : List Letter} → IsEntry d k ks line key ts rest → is_next {V = YamlValue} (table d) (rule (Entries k r ks)) ts ≡ true
  entries_next {ts} h = subst (λ us. is_next {V = YamlValue} (table d) (rule (Entries k r ks)) us ≡ true) (sym h.is) (ap is_some (entry_chosen d k r ks line key h.fresh))

  pub entry_step : {ts rest after : List Letter} {v : YamlValue} → IsEntry d k ks line key ts rest → R d (rule (Under k r)) rest (good v after) →
      C d (rule (MoreEntries k r ks)) ts (λ es. entries (record { key = key; line = line; value = or_absent line v } ∷ es)) (rule (MoreEntries k r (ks ++ key ∷ []))) after entries
  entry_step {ts} {rest} {after} {v} h u = record {
    reads = λ es end j. run_rule (run_left (entries_next h) (run_rule (chosen_good d (key_chooses h) (short end (shrinks u).is (shrinks j).is) (whole end (run_pair (run_pair (run_token (key_is k line key)) u) j)))));
    fails = λ end j. run_rule (run_left (entries_next h) (run_rule (chosen_bad d (key_chooses h) (broken end (run_second (run_pair (run_token (key_is k line key)) u) j)))));
  }
    where
      short : (end : List Letter) → length after ≤ length rest → length end ≤ length after → length end < length ts
      short end a b = omega (arith, a, b, ap length h.is)

      whole : {w : YamlValue} (end : List Letter) → R d (production d (Entry k r ks key)) (key_at line k key ∷ rest) (good w end) → R d (production d (Entry k r ks key)) ts (good w end)
      whole {w} end j = subst (λ us. R d (production d (Entry k r ks key)) us (good w end)) (sym h.is) j

      broken : (end : List Letter) → R d (production d (Entry k r ks key)) (key_at line k key ∷ rest) (bad end) → R d (production d (Entry k r ks key)) ts (bad end)
      broken end j = subst (λ us. R d (production d (Entry k r ks key)) us (bad end)) (sym h.is) j

  pub entry_fails : {ts rest end : List Letter} → IsEntry d k ks line key ts rest → R d (rule (Under k r)) rest (bad end) → R d (rule (MoreEntries k r ks)) ts (bad end)
  entry_fails {ts} {rest} {end} h u = run_rule (run_left (entries_next h) (run_rule (chosen_bad d (key_chooses h)
      (subst (λ us. R d (production d (Entry k r ks key)) us (bad end)) (sym h.is) (run_first (run_second (run_token (key_is k line key)) u))))))

  pub map_good : {l : ℕ} {ts rest end : List Letter} {es : List EntryTree} → ks ≡ [] → IsEntry d k ks line key ts rest → R d (rule (MoreEntries k r [])) ts (good (entries es) end) → R d (production d (Map l k r)) ts (good (tree (map_node l (entries_from es))) end)
  map_good {l} {ts} {rest} {end} {es} e h j = run_pair run_nothing (started j)
    where
      next : is_next {V = YamlValue} (table d) (rule (Entries k r [])) ts ≡ true
      next = subst (λ xs. is_next {V = YamlValue} (table d) (rule (Entries k r xs)) ts ≡ true) e (entries_next h)

      started : R d (rule (MoreEntries k r [])) ts (good (entries es) end) → R d (rule (Entries k r [])) ts (good (entries es) end)
      started (run_rule (run_left a b)) = b
      started (run_rule (run_right a b)) = absurd (let x : true ≡ false = sym next ∙ a in cc)

  pub map_bad : {l : ℕ} {ts rest end : List Letter} → ks ≡ [] → IsEntry d k ks line key ts rest → R d (rule (MoreEntries k r [])) ts (bad end) → R d (production d (Map l k r)) ts (bad end)
  map_bad {l} {ts} {rest} {end} e h j = run_second run_nothing (started j)
    where
      next : is_next {V = YamlValue} (table d) (rule (Entries k r [])) ts ≡ true
      next = subst (λ xs. is_next {V = YamlValue} (table d) (rule (Entries k r xs)) ts ≡ true) e (entries_next h)

      started : R d (rule (MoreEntries k r [])) ts (bad end) → R d (rule (Entries k r [])) ts (bad end)
      started (run_rule (run_left a b)) = b
      started (run_rule (run_right a b)) = absurd (let x : true ≡ false = sym next ∙ a in cc)

no_entries_next : (d : Bool) (k r : ℕ) (ks : List (List ℕ)) {ts : List Letter} → ChoosesNone (entry_from d k r ks) ts → is_next {V = YamlValue} (table d) (rule (Entries k r ks)) ts ≡ false
no_entries_next d k r ks no_token = refl
no_entries_next d k r ks (no_rule e) = ap is_some e

pub entries_over : (d : Bool) (k r : ℕ) (ks : List (List ℕ)) (ts : List Letter) → NoEntry d k ks ts → R d (rule (MoreEntries k r ks)) ts (good (entries []) ts)
entries_over d k r ks ts h = run_rule (run_right (no_entries_next d k r ks (h r)) run_nothing)

pub no_map : (d : Bool) (l k r : ℕ) (ks : List (List ℕ)) (ts : List Letter) → ks ≡ [] → NoEntry d k ks ts → R d (production d (Map l k r)) ts (bad ts)
no_map d l k r ks ts e h = run_second run_nothing (run_rule (none_chosen (subst (λ xs. ChoosesNone (entry_from d k r xs) ts) e (h r))))

-- the items of a list in a block
module _ (d : Bool) (k r : ℕ) where
  dashes_start : {b : Bool} (ts : List Letter) → is_next {V = YamlValue} (table d) (token (dash_in k)) ts ≡ b → is_next {V = YamlValue} (table d) (rule (Dashes k r)) ts ≡ b
  dashes_start [] h = h
  dashes_start (t ∷ ts) h = h

  pub dash_step : {line : ℕ} {ts rest after : List Letter} {v : YamlValue} → Takes (production d) (table d) (token (dash_in k)) ts (at line) rest → R d (maybe_node (k + 1) r) rest (good v after) →
      C d (rule (MoreDashes k r)) ts (λ xs. items (or_absent line v ∷ xs)) (rule (MoreDashes k r)) after items
  dash_step {ts = ts} h u = record {
    reads = λ xs end j. run_rule (run_left (dashes_start ts h.next) (run_rule (run_pair (run_pair h.gives u) j)));
    fails = λ end j. run_rule (run_left (dashes_start ts h.next) (run_rule (run_second (run_pair h.gives u) j)));
  }

  pub dash_fails : {line : ℕ} {ts rest end : List Letter} → Takes (production d) (table d) (token (dash_in k)) ts (at line) rest → R d (maybe_node (k + 1) r) rest (bad end) → R d (rule (MoreDashes k r)) ts (bad end)
  dash_fails {ts = ts} h u = run_rule (run_left (dashes_start ts h.next) (run_rule (run_first (run_second h.gives u))))

  pub dashes_over : {ts : List Letter} → Lacks (production d) (table d) (token (dash_in k)) ts → R d (rule (MoreDashes k r)) ts (good (items []) ts)
  dashes_over {ts} h = run_rule (run_right (dashes_start ts h.next) run_nothing)

  dashes_begin : {ts : List Letter} {o : ReaderOutcome Letter YamlValue} → is_next {V = YamlValue} (table d) (rule (Dashes k r)) ts ≡ true → R d (rule (MoreDashes k r)) ts o → R d (rule (Dashes k r)) ts o
  dashes_begin e (run_rule (run_left a b)) = b
  dashes_begin e (run_rule (run_right a b)) = absurd (let x : true ≡ false = sym e ∙ a in cc)

  pub block_list_good : {l line : ℕ} {ts rest end : List Letter} {xs : List Tree} → Takes (production d) (table d) (token (dash_in k)) ts (at line) rest → R d (rule (MoreDashes k r)) ts (good (items xs) end) →
      R d (production d (Items l k r)) ts (good (tree (list_node l (trees_from xs))) end)
  block_list_good {ts = ts} h j = run_pair run_nothing (dashes_begin (dashes_start ts h.next) j)

  pub block_list_bad : {l line : ℕ} {ts rest end : List Letter} → Takes (production d) (table d) (token (dash_in k)) ts (at line) rest → R d (rule (MoreDashes k r)) ts (bad end) → R d (production d (Items l k r)) ts (bad end)
  block_list_bad {ts = ts} h j = run_second run_nothing (dashes_begin (dashes_start ts h.next) j)

  pub no_block_list : {l : ℕ} {ts : List Letter} → Lacks (production d) (table d) (token (dash_in k)) ts → R d (production d (Items l k r)) ts (bad ts)
  no_block_list h = run_second run_nothing (run_rule (run_first (run_first h.gives)))

-- the values of a list in brackets
module _ (d : Bool) (r : ℕ) where
  value_next : {n : Rule} {ts rest : List Letter} → Chooses (value_from r) n ts rest → is_next (table d) (pair item_before (chosen (value_from r) no_more) (rule (AfterValue r))) ts ≡ true
  value_next {ts = ts} h = next_pair (table d) item_before (chosen (value_from r) no_more) (rule (AfterValue r)) ts true refl (chosen_next YamlValue (table d) (value_from r) no_more h)

  pub value_step : {n : Rule} {t : Tree} {ts some mid rest : List Letter} → Chooses (value_from r) n ts some → length mid < length ts → R d (production d n) ts (good (tree t) mid) →
      Takes (production d) (table d) (token comma_in) mid mark rest → C d (rule (Values r)) ts (λ xs. items (t ∷ xs)) (rule (Values r)) rest items
  value_step h lt k c = record {
    reads = λ xs end j. run_rule (run_left (value_next h) (run_pair (chosen_good d h lt k) (run_rule (take_side c j))));
    fails = λ end j. run_rule (run_left (value_next h) (run_second (chosen_good d h lt k) (run_rule (take_side_bad c j))));
  }

  pub value_last : {n : Rule} {t : Tree} {ts some mid : List Letter} → Chooses (value_from r) n ts some → length mid < length ts → R d (production d n) ts (good (tree t) mid) →
      Lacks (production d) (table d) (token comma_in) mid → R d (rule (Values r)) ts (good (items (t ∷ [])) mid)
  value_last h lt k c = run_rule (run_left (value_next h) (run_pair (chosen_good d h lt k) (run_rule (other_side c run_nothing))))

  pub value_fails : {n : Rule} {ts some end : List Letter} → Chooses (value_from r) n ts some → R d (production d n) ts (bad end) → R d (rule (Values r)) ts (bad end)
  value_fails h k = run_rule (run_left (value_next h) (run_first (chosen_bad d h k)))

  pub values_over : {ts : List Letter} → ChoosesNone (value_from r) ts → R d (rule (Values r)) ts (good (items []) ts)
  values_over {ts} h = run_rule (run_right (next_pair (table d) item_before (chosen (value_from r) no_more) (rule (AfterValue r)) ts false refl (none_next YamlValue (table d) (value_from r) no_more h)) run_nothing)

-- the pairs of a map in braces
module _ (d : Bool) (r : ℕ) {ks : List (List ℕ)} {line : ℕ} {key : List ℕ} where
  pair_chooses : {ts rest : List Letter} → IsPair d ks line key ts rest → Chooses (pair_from d r ks) (Pair r ks key) ts rest
  pair_chooses h = record { first = key_at line h.column key; is = h.is; has = pair_chosen d r ks line h.column key h.fresh }

  pair_next : {ts rest : List Letter} → IsPair d ks line key ts rest → is_next {V = YamlValue} (table d) (chosen (pair_from d r ks) is_in_map) ts ≡ true
  pair_next h = chosen_next YamlValue (table d) (pair_from d r ks) is_in_map (pair_chooses h)

  first_pair : {ts rest after : List Letter} {v : YamlValue} → (h : IsPair d ks line key ts rest) → R d (rule (PairValue r)) rest (good v after) →
      R d (pair (entry_of key) (token any_key_in) (rule (PairValue r))) (key_at line h.column key ∷ rest) (good (entry (record { key = key; line = line; value = or_absent line v })) after)
  first_pair h u = run_pair (run_token refl) u

  whole_pair : {ts rest end : List Letter} {w : YamlValue} (h : IsPair d ks line key ts rest) → R d (production d (Pair r ks key)) (key_at line h.column key ∷ rest) (good w end) → R d (production d (Pair r ks key)) ts (good w end)
  whole_pair {end = end} {w = w} h j = subst (λ us. R d (production d (Pair r ks key)) us (good w end)) (sym h.is) j

  broken_pair : {ts rest end : List Letter} (h : IsPair d ks line key ts rest) → R d (production d (Pair r ks key)) (key_at line h.column key ∷ rest) (bad end) → R d (production d (Pair r ks key)) ts (bad end)
  broken_pair {end = end} h j = subst (λ us. R d (production d (Pair r ks key)) us (bad end)) (sym h.is) j

  short : {ts rest : List Letter} (after end : List Letter) → IsPair d ks line key ts rest → length after ≤ length rest → length end ≤ length after → length end < length ts
  short after end h a b = omega (arith, a, b, ap length h.is)

  pub pair_step : {ts rest after next : List Letter} {v : YamlValue} → IsPair d ks line key ts rest → R d (rule (PairValue r)) rest (good v after) → Takes (production d) (table d) (token comma_in) after mark next →
      C d (rule (Pairs r ks)) ts (λ es. entries (record { key = key; line = line; value = or_absent line v } ∷ es)) (rule (Pairs r (ks ++ key ∷ []))) next entries
  pair_step h u c = record {
    reads = λ es end j. run_rule (run_left (pair_next h) (chosen_good d (pair_chooses h) (short _ _ h (shrinks u).is (let a = (shrinks j).is in let b = c.shorter in omega (arith, a, b))) (whole_pair h (run_pair (first_pair h u) (run_rule (take_side c j))))));
    fails = λ end j. run_rule (run_left (pair_next h) (chosen_bad d (pair_chooses h) (broken_pair h (run_second (first_pair h u) (run_rule (take_side_bad c j))))));
  }

  pub pair_last : {ts rest after : List Letter} {v : YamlValue} → IsPair d ks line key ts rest → R d (rule (PairValue r)) rest (good v after) → Lacks (production d) (table d) (token comma_in) after →
      R d (rule (Pairs r ks)) ts (good (entries (record { key = key; line = line; value = or_absent line v } ∷ [])) after)
  pair_last h u c = run_rule (run_left (pair_next h) (chosen_good d (pair_chooses h) (short _ _ h (shrinks u).is (omega arith)) (whole_pair h (run_pair (first_pair h u) (run_rule (other_side c run_nothing))))))

  pub pair_fails : {ts rest end : List Letter} → IsPair d ks line key ts rest → R d (rule (PairValue r)) rest (bad end) → R d (rule (Pairs r ks)) ts (bad end)
  pair_fails h u = run_rule (run_left (pair_next h) (chosen_bad d (pair_chooses h) (broken_pair h (run_first (run_second (run_token refl) u)))))

pub pairs_over : (d : Bool) (r : ℕ) (ks : List (List ℕ)) (ts : List Letter) → NoPair d ks ts → R d (rule (Pairs r ks)) ts (good (entries []) ts)
pairs_over d r ks ts h = run_rule (run_right (none_next YamlValue (table d) (pair_from d r ks) is_in_map (h r)) run_nothing)
