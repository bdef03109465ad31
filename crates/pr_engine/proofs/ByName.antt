-- What a map of labels by name holds after a step, as a label set.
use Rattle.std.proofs.Common.{◌≡◌, ℕ, List, [], ◌∷◌, Bool, true, false, fold, length, is_some, None, refl, sym, ap, ◌∙◌, arith}
use Rattle.std.specs.BTreeMap.{insert_entry, is_at}
use Rattle.std.specs.Map.{lookup, remove_entry}
use Rattle.std.specs.Cmp.Lexicographic.{slice_cmp, texts_ties}
use Rattle.std.specs.Ordering.{nat_cmp, is_eq, match_ordering, ordering_reverse}
use Rattle.std.specs.Str.{bytes_eq}
use Rattle.std.specs.declared.cmp.Ordering.{Ordering}
use Rattle.std.specs.declared.cmp.Ordering.TheVariants.{Less, Equal, Greater}
use Rattle.std.proofs.lemmas.Cmp.{nat_list_eq_equiv}
use Rattle.pr_labels.specs.declared.pair.Pair.{Pair}
use Rattle.pr_labels.specs.Edits.{first_fault, labels_of, set_label, set_pair, without_name}
use Rattle.pr_labels.specs.LabelSet.{IsLabel, IsLabelSet, pair_of, value_of}
use Rattle.pr_labels.proofs.LabelLaws.{remove_stays, same_names, set_stays}
use Rattle.pr_labels.proofs.Places.{turned_round}
use Rattle.pr_labels.proofs.Putting.{all_above, by_order, put_in, set_pair_is_put}
use Rattle.pr_labels.proofs.SetValues.{faultless, set_again}
use Rattle.pr_manager.specs.spec_world.Scrapes.{has}
use Rattle.pr_engine.specs.private.ByName.{labels_in}

abbrev order : List ℕ → List ℕ → Ordering
order = slice_cmp nat_cmp

abbrev Entries : Type 0
Entries = List (List ℕ × List ℕ)

-- a key is found where it is the name
found_at : (name key : List ℕ) → is_at (order name) key ≡ bytes_eq key name
found_at name key = sym (texts_ties name key) ∙ nat_list_eq_equiv.symm name key

-- a look-up finds the value of the name
value_at : (name : List ℕ) (es : Entries) → lookup (is_at (order name)) es ≡ value_of (labels_in es) name
value_at name [] = refl
value_at name (e ∷ es) = by (bytes_eq e.0 name) refl (value_at name es) where
  by : (b : Bool) → bytes_eq e.0 name ≡ b → lookup (is_at (order name)) es ≡ value_of (labels_in es) name → lookup (is_at (order name)) (e ∷ es) ≡ value_of (labels_in (e ∷ es)) name
  by true tie again = rw (found_at name e.0, tie) refl
  by false tie again = rw (found_at name e.0, tie) again

pub found : (name : List ℕ) (es : Entries) → is_some (lookup (is_at (order name)) es) ≡ has (labels_in es) name
found name es = ap is_some (value_at name es)

-- what a removal leaves are the other labels
pub taken_out : (name : List ℕ) (es : Entries) → IsLabelSet (labels_in es) → labels_in (remove_entry (is_at (order name)) es) ≡ without_name (labels_in es) name
taken_out name [] s = refl
taken_out name (e ∷ es) s = by (bytes_eq e.0 name) refl (taken_out name es s.2) where
  by : (b : Bool) → bytes_eq e.0 name ≡ b → labels_in (remove_entry (is_at (order name)) es) ≡ without_name (labels_in es) name →
      labels_in (remove_entry (is_at (order name)) (e ∷ es)) ≡ without_name (labels_in (e ∷ es)) name
  by true tie again = rw (found_at name e.0, tie) (sym (ap (without_name (labels_in es)) (sym (same_names e.0 name tie)) ∙ (all_above e.0 (labels_in es) s.2 s.1).others))
  by false tie again = rw (found_at name e.0, tie) (ap (λ ls. pair_of e.0 e.1 ∷ ls) again)

pub set_stays_taken : (name : List ℕ) (es : Entries) → IsLabelSet (labels_in es) → IsLabelSet (labels_in (remove_entry (is_at (order name)) es))
set_stays_taken name es s = rw (taken_out name es s) (remove_stays (labels_in es) name s)

-- an entry that is put in is the label that is put in
put_at : (o : Ordering) (name value : List ℕ) (e : List ℕ × List ℕ) (es more : Entries) (rest : List Pair) → order e.0 name ≡ o → labels_in more ≡ rest →
    labels_in (match_ordering (ordering_reverse o) ((name, value) ∷ e ∷ es) ((e.0, value) ∷ es) (e ∷ more)) ≡ by_order o (pair_of e.0 e.1) (labels_in es) (pair_of name value ∷ []) rest
put_at Less name value e es more rest is h = ap (λ ls. pair_of e.0 e.1 ∷ ls) h
put_at Equal name value e es more rest is h = ap (λ n. pair_of n value ∷ labels_in es) (same_names e.0 name (texts_ties e.0 name ∙ ap is_eq is))
put_at Greater name value e es more rest is h = refl

put_between : (name value : List ℕ) (es : Entries) → labels_in (insert_entry order es name value) ≡ put_in name (pair_of name value ∷ []) (labels_in es)
put_between name value [] = refl
put_between name value (e ∷ es) =
    rw (turned_round e.0 name (order e.0 name) refl) (put_at (order e.0 name) name value e es (insert_entry order es name value) (put_in name (pair_of name value ∷ []) (labels_in es)) refl (put_between name value es))

pub put_in_map : (name value : List ℕ) (es : Entries) → IsLabelSet (labels_in es) → IsLabel (pair_of name value) → labels_in (insert_entry order es name value) ≡ set_label (labels_in es) name value
put_in_map name value es s l = put_between name value es ∙ set_pair_is_put (pair_of name value) (labels_in es) s l

pub set_stays_put : (name value : List ℕ) (es : Entries) → IsLabelSet (labels_in es) → IsLabel (pair_of name value) → IsLabelSet (labels_in (insert_entry order es name value))
set_stays_put name value es s l = rw (put_in_map name value es s l) (set_stays (labels_in es) name value l.name s)

-- where the labels of a set were all put in, they are there
pub all_put : (rest ps ls : List Pair) → length rest ≡ 0 → IsLabelSet ls → fold set_pair ps rest ≡ labels_of ls → ps ≡ ls
all_put [] ps ls n s e = e ∙ sym (set_again ls s)
all_put (p ∷ rest) ps ls n s e = absurd (omega arith)

-- and they make the set
pub made_faultless : (ps ls : List Pair) → ps ≡ ls → IsLabelSet ls → first_fault ps ≡ None
made_faultless ps ls e s = ap first_fault e ∙ faultless ls s

pub made_same : (ps ls : List Pair) → ps ≡ ls → IsLabelSet ls → labels_of ps ≡ ls
made_same ps ls e s = ap labels_of e ∙ sym (set_again ls s)
