-- The keys of entries: what one more key does.
use Rattle.std.proofs.Common.{◌≡◌, ℕ, List, [], ◌∷◌, ◌++◌, Bool, true, false, cond, ◌||◌, map, ap, sym, ◌∙◌}
use Rattle.std.proofs.lemmas.List.{map-append}
use Rattle.std.proofs.lemmas.List.Folds.{list_any-append}
use Rattle.std.specs.BTreeSet.{BTreeSet, Updates}
use Rattle.std.specs.Borrow.{Bor}
use Rattle.std.specs.Cmp.Lexicographic.{slice_cmp, texts_ties}
use Rattle.std.specs.Ordering.{nat_cmp, is_eq}
use Rattle.std.specs.declared.cmp.Ordering.{Ordering}
use Rattle.std.specs.Str.{bytes_eq}
use Rattle.pr_words.specs.Names.{is_among, knows}
use Rattle.pr_yaml.specs.declared.node.MapEntry.{MapEntry}
use Rattle.pr_yaml.specs.Tree.{EntryTree, entry_tree_of}
use Rattle.pr_yaml.specs.private.Reader.{keys_of, keys_in}

abbrev key_cmp : Bor (List ℕ) → Bor (List ℕ) → Ordering
key_cmp x y = slice_cmp nat_cmp x.now y.now

one_more : (new old : Bool) (b : Bool) → new ≡ cond b true old → new ≡ (old || (b || false))
one_more new true true e = e
one_more new false true e = e
one_more new true false e = e
one_more new false false e = e

-- the entries with one more
pub entries_more : (es all : List MapEntry) (e : MapEntry) → all ≡ es ++ e ∷ [] → map entry_tree_of all ≡ map entry_tree_of es ++ entry_tree_of e ∷ []
entries_more es all e h = ap (map entry_tree_of) h ∙ map-append entry_tree_of es (e ∷ [])

pub keys_more : (es all : List EntryTree) (e : EntryTree) → all ≡ es ++ e ∷ [] → keys_of all ≡ keys_of es ++ e.key ∷ []
keys_more es all e h = ap keys_of h ∙ map-append (λ x. x.key) es (e ∷ [])

pub known_more : (old new : BTreeSet (Bor (List ℕ))) (key : Bor (List ℕ)) (es all : List MapEntry) (e : MapEntry) → Updates key_cmp old new key true → (entry_tree_of e).key ≡ key.now →
    ((name : List ℕ) → knows old name ≡ is_among name (keys_in es)) → all ≡ es ++ e ∷ [] → (name : List ℕ) → knows new name ≡ is_among name (keys_in all)
known_more old new key es all e u h known i name =
    let asked : Bor (List ℕ) = record { ref_ptr = (0, 0); now = name } in
    let step : knows new name ≡ cond (is_eq (slice_cmp nat_cmp key.now name)) true (knows old name) = u.0 asked in
    let tie : bytes_eq (entry_tree_of e).key name ≡ is_eq (slice_cmp nat_cmp key.now name) = texts_ties (entry_tree_of e).key name ∙ ap (λ n. is_eq (slice_cmp nat_cmp n name)) h in
    let more : knows new name ≡ (knows old name || (is_eq (slice_cmp nat_cmp key.now name) || false)) = one_more (knows new name) (knows old name) (is_eq (slice_cmp nat_cmp key.now name)) step in
    let names : keys_in all ≡ keys_in es ++ (entry_tree_of e).key ∷ [] = keys_more (map entry_tree_of es) (map entry_tree_of all) (entry_tree_of e) (entries_more es all e i) in
    more ∙ (λ j. known name j || (sym tie j || false)) ∙ sym (ap (is_among name) names ∙ list_any-append (λ n. bytes_eq n name) (keys_in es) ((entry_tree_of e).key ∷ []))
