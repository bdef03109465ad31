-- Renaming loses no label: each stands under its own name, or under a free one.
use Rattle.std.proofs.Common.{◌≡◌, refl, sym, ap, ◌∙◌, subst, ℕ, zero, suc, Bool, true, false, cond, not, ◌&&◌, ◌||◌, List, [], ◌∷◌, ◌++◌, Option, Some, None, is_some, append_assoc, append-nil, filter, fold}
use Rattle.std.specs.Char.{is_ascii_digit}
use Rattle.std.specs.List.{list_all, list_any}
use Rattle.std.specs.List.Sorted.{IsPermutation}
use Rattle.std.specs.Option.{option_or}
use Rattle.std.specs.Str.{bytes_eq}
use Rattle.std.proofs.lemmas.List.Folds.{list_all-append}
use Rattle.pr_rulefile.specs.pr_words.Bytes.{is_label_byte, is_letter}
use Rattle.pr_ast.specs.pr_labels.declared.pair.Pair.{Pair}
use Rattle.pr_ast.specs.pr_labels.Edits.{fault_after, first_fault, has_value, labels_of, pair_fault, set_label, set_pair, value_if_any, without_name}
use Rattle.pr_ast.specs.pr_labels.LabelSet.{IsLabelSet, has_name, pair_of, value_of}
use Rattle.pr_ast.specs.pr_labels.Names.{is_label_name}
use Rattle.pr_ast.proofs.LabelsLabelLaws.{alike, first_none, made_is_set, none_above, remove_stays, same_names, set_stays, union_stays, value_hit, value_miss, value_remove, value_set, value_union}
use Rattle.pr_ast.proofs.LabelsPermuted.{made_of_all, new_name}
use Rattle.pr_ast.proofs.LabelsSetValues.{faultless, same_values}
use Rattle.pr_expo.proofs.Sound.{fault_more, new_fault}
use Rattle.spec_world.specs.private.Renaming.{HasAllLabels, Renames, exported_times, keeps, moves, nothing}
use Rattle.spec_world.specs.Scrapes.{exported, free_name, has, renamed, scraped_labels, with_free_name}
use Rattle.spec_world.proofs.Renaming.{first_free}

-- Values of pairs
or_assoc : (a b c : Option (List ℕ)) → option_or (option_or a b) c ≡ option_or a (option_or b c)
or_assoc None b c = refl
or_assoc (Some x) b c = refl

value_append : (ps qs : List Pair) (n : List ℕ) → value_of (ps ++ qs) n ≡ option_or (value_of ps n) (value_of qs n)
value_append [] qs n = refl
value_append (p ∷ ps) qs n = by (bytes_eq p.name n) refl (value_append ps qs n) where
  by : (b : Bool) → bytes_eq p.name n ≡ b → value_of (ps ++ qs) n ≡ option_or (value_of ps n) (value_of qs n) → value_of (p ∷ (ps ++ qs)) n ≡ option_or (value_of (p ∷ ps) n) (value_of qs n)
  by true e again = value_hit p (ps ++ qs) n e ∙ ap (λ v. option_or v (value_of qs n)) (sym (value_hit p ps n e))
  by false e again = value_miss p (ps ++ qs) n e ∙ again ∙ ap (λ v. option_or v (value_of qs n)) (sym (value_miss p ps n e))

no_value : (v : Option (List ℕ)) → is_some v ≡ false → v ≡ None
no_value None h = refl
no_value (Some x) h = cc

has_not : (ps : List Pair) (n : List ℕ) → value_of ps n ≡ None → has ps n ≡ false
has_not ps n h = ap is_some h

or_none : (a b : Option (List ℕ)) → option_or a b ≡ None → (a ≡ None) × (b ≡ None)
or_none None b h = (refl, h)
or_none (Some x) b h = cc

-- the value of the first pair, and none
not_first : (p : Pair) (ps : List Pair) (n : List ℕ) → value_of (p ∷ ps) n ≡ None → (bytes_eq p.name n ≡ false) × (value_of ps n ≡ None)
not_first p ps n h = by (bytes_eq p.name n) refl where
  by : (b : Bool) → bytes_eq p.name n ≡ b → (bytes_eq p.name n ≡ false) × (value_of ps n ≡ None)
  by true e = let k : Some p.value ≡ None = sym (value_hit p ps n e) ∙ h in absurd cc
  by false e = (e, sym (value_miss p ps n e) ∙ h)

none_listed : (ps : List Pair) (n : List ℕ) → value_of ps n ≡ None → list_any (has_name n) ps ≡ false
none_listed [] n h = refl
none_listed (p ∷ ps) n h = let k = not_first p ps n h in ap (λ b. b || list_any (has_name n) ps) k.0 ∙ none_listed ps n k.1

any_append : (test : Pair → Bool) (xs ys : List Pair) → list_any test (xs ++ ys) ≡ (list_any test xs || list_any test ys)
any_append test [] ys = refl
any_append test (x ∷ xs) ys = ap (λ b. test x || b) (any_append test xs ys) ∙ assoc (test x) (list_any test xs) (list_any test ys) where
  assoc : (a b c : Bool) → (a || (b || c)) ≡ ((a || b) || c)
  assoc true b c = refl
  assoc false b c = refl

other_name : (a b : List ℕ) → bytes_eq a b ≡ false → bytes_eq b a ≡ false
other_name a b h = by (bytes_eq b a) refl where
  by : (e : Bool) → bytes_eq b a ≡ e → e ≡ false
  by true e = absurd (let k : false ≡ true = sym h ∙ ap (bytes_eq a) (same_names b a e) ∙ alike a in cc)
  by false e = refl

-- one more pair behind the target's and those that stand so far
next_fault : (target done : List Pair) (p : Pair) → first_fault (target ++ done) ≡ None → is_label_name p.name ≡ true → value_of target p.name ≡ None → value_of done p.name ≡ None →
    first_fault (target ++ (done ++ p ∷ [])) ≡ None
next_fault target done p f n t d =
    ap first_fault (sym (append_assoc target done (p ∷ [])))
    ∙ fault_more [] (target ++ done) p f (new_fault (target ++ done) p n (none_listed (target ++ done) p.name (value_append target done p.name ∙ (λ i. option_or (t i) (d i)))))

-- the names of the labels that wait stand apart from those that stand so far
abbrev Apart : List Pair → List Pair → Type 0
Apart done [] = Unit {0}
Apart done (q ∷ qs) = (value_of done q.name ≡ None) × Apart done qs

apart_none : (ps : List Pair) → Apart [] ps
apart_none [] = tt
apart_none (p ∷ ps) = (refl, apart_none ps)

apart_more : (done : List Pair) (y : Pair) (ps : List Pair) → Apart done ps → value_of ps y.name ≡ None → Apart (done ++ y ∷ []) ps
apart_more done y [] a h = tt
apart_more done y (q ∷ qs) a h =
    let k = not_first q qs y.name h in (
      value_append done (y ∷ []) q.name ∙ (λ i. option_or (a.0 i) (value_miss y [] q.name (other_name q.name y.name k.0) i)),
      apart_more done y qs a.1 k.1,
    )

-- a name with `exported_` before it is a label's name
name_bytes : (n : List ℕ) → is_label_name n ≡ true → list_all is_label_byte n ≡ true
name_bytes [] h = cc
name_bytes (b ∷ bs) h = by (is_letter b) refl h where
  by : (l : Bool) → is_letter b ≡ l → (l && list_all is_label_byte bs) ≡ true → list_all is_label_byte (b ∷ bs) ≡ true
  by true e k = ap (λ x. (x || is_ascii_digit b) && list_all is_label_byte bs) e ∙ k
  by false e k = cc

exported_name : (n : List ℕ) → is_label_name n ≡ true → is_label_name (exported n) ≡ true
exported_name n h = name_bytes n h

times_name : (times : ℕ) (n : List ℕ) → is_label_name n ≡ true → is_label_name (exported_times times n) ≡ true
times_name zero n h = h
times_name (suc times) n h = times_name times (exported n) (exported_name n h)

-- What is kept of the labels that wait
record Kept (target done rest result : List Pair) : Type 0 where
  new : List Pair
  renames : Renames target rest new
  apart : first_fault (target ++ (done ++ new)) ≡ None
  values : (n : List ℕ) → value_of result n ≡ value_of (done ++ new) n
  set : IsLabelSet result

-- of a label that stands behind those so far as another pair
kept_next : (target done : List Pair) (p y : Pair) (ps result : List Pair) → ((new : List Pair) → Renames target ps new → Renames target (p ∷ ps) (y ∷ new)) →
    Kept target (done ++ y ∷ []) ps result → Kept target done (p ∷ ps) result
kept_next target done p y ps result f k = record {
  new = y ∷ k.new;
  renames = f k.new k.renames;
  apart = ap (λ x. first_fault (target ++ x)) (sym (append_assoc done (y ∷ []) k.new)) ∙ k.apart;
  values = λ n. k.values n ∙ ap (λ x. value_of x n) (append_assoc done (y ∷ []) k.new);
  set = k.set;
}

some_value : (v : List ℕ) → (v ≡ [] → ⊥) → value_if_any v ≡ Some v
some_value [] h = absurd (h refl)
some_value (b ∷ bs) h = refl

-- the values after a label got another name
moved_values : (done acc ps : List Pair) (p : Pair) (x n : List ℕ) → ((m : List ℕ) → value_of acc m ≡ value_of (done ++ p ∷ ps) m) → value_if_any p.value ≡ Some p.value →
    value_of done p.name ≡ None → value_of ps p.name ≡ None → value_of done x ≡ None →
    value_of (set_label (without_name acc p.name) x p.value) n ≡ value_of ((done ++ pair_of x p.value ∷ []) ++ ps) n
moved_values done acc ps p x n h v d r s = value_set (without_name acc p.name) x p.value n ∙ by (bytes_eq x n) refl ∙ sym right where
  y : Pair
  y = pair_of x p.value

  right : value_of ((done ++ y ∷ []) ++ ps) n ≡ option_or (value_of done n) (value_of (y ∷ ps) n)
  right = ap (λ t. value_of t n) (append_assoc done (y ∷ []) ps) ∙ value_append done (y ∷ ps) n

  old : (b : Bool) → bytes_eq p.name n ≡ b → cond b None (value_of acc n) ≡ option_or (value_of done n) (value_of ps n)
  old true e =
      let same = sym (same_names p.name n e) in
      let gone : option_or (value_of done n) (value_of ps n) ≡ None = λ i. option_or ((ap (value_of done) same ∙ d) i) ((ap (value_of ps) same ∙ r) i) in sym gone
  old false e = h n ∙ value_append done (p ∷ ps) n ∙ ap (option_or (value_of done n)) (value_miss p ps n e)

  by : (b : Bool) → bytes_eq x n ≡ b → cond b (value_if_any p.value) (value_of (without_name acc p.name) n) ≡ option_or (value_of done n) (value_of (y ∷ ps) n)
  by true e =
      let none : value_of done n ≡ None = ap (value_of done) (sym (same_names x n e)) ∙ s in
      v ∙ sym (λ i. option_or (none i) (value_hit y ps n e i))
  by false e = value_remove acc p.name n ∙ old (bytes_eq p.name n) refl ∙ ap (option_or (value_of done n)) (sym (value_miss y ps n e))

free_both : (a b : Bool) → (not a && not b) ≡ true → (a ≡ false) × (b ≡ false)
free_both true b h = cc
free_both false true h = cc
free_both false false h = (refl, refl)

-- one label after another
kept : (target done acc rest : List Pair) → IsLabelSet rest → IsLabelSet acc → first_fault (target ++ done) ≡ None → ((n : List ℕ) → value_of acc n ≡ value_of (done ++ rest) n) → Apart done rest →
    Kept target done rest (fold (with_free_name target) acc rest)
kept target done acc [] r a f v apart = record { new = []; renames = nothing; apart = ap (λ x. first_fault (target ++ x)) (append-nil done) ∙ f; values = v; set = a }
kept target done acc (p ∷ ps) r a f v apart =
    by (has target p.name) refl (λ done2 acc2 b g w z. kept target done2 acc2 ps r.2 b g w z) where
      gone : value_of ps p.name ≡ None
      gone = none_above p.name ps r.2 r.1

      by : (b : Bool) → has target p.name ≡ b →
          ((done2 acc2 : List Pair) → IsLabelSet acc2 → first_fault (target ++ done2) ≡ None → ((n : List ℕ) → value_of acc2 n ≡ value_of (done2 ++ ps) n) → Apart done2 ps →
          Kept target done2 ps (fold (with_free_name target) acc2 ps)) →
          Kept target done (p ∷ ps) (fold (with_free_name target) (cond b (set_label (without_name acc p.name) (free_name target acc p.name) p.value) acc) ps)
      by false e again =
          kept_next target done p p ps (fold (with_free_name target) acc ps) (λ new k. keeps p ps new e k)
          (again (done ++ p ∷ []) acc a (next_fault target done p f r.0.name (no_value (value_of target p.name) e) apart.0)
          (λ n. v n ∙ ap (λ t. value_of t n) (sym (append_assoc done (p ∷ []) ps))) (apart_more done p ps apart.1 gone))
      by true e again =
          let x = free_name target acc p.name in
          let h = first_free target acc p.name in
          let free = free_both (has target x) (has acc x) h.free in
          let absent = or_none (value_of done x) (value_of (p ∷ ps) x) (sym (value_append done (p ∷ ps) x) ∙ sym (v x) ∙ no_value (value_of acc x) free.1) in
          let y = pair_of x p.value in
          let named : is_label_name x ≡ true = ap is_label_name h.is ∙ times_name (suc h.times) p.name r.0.name in
          let result = fold (with_free_name target) (set_label (without_name acc p.name) x p.value) ps in
          let same : pair_of (exported_times (suc h.times) p.name) p.value ≡ y = ap (λ n. pair_of n p.value) (sym h.is) in
          kept_next target done p y ps result (λ new k. subst (λ z. Renames target (p ∷ ps) (z ∷ new)) same (moves p h.times ps new e (ap (has target) (sym h.is) ∙ free.0) k))
          (again (done ++ y ∷ []) (set_label (without_name acc p.name) x p.value) (set_stays (without_name acc p.name) x p.value named (remove_stays acc p.name a))
          (next_fault target done y f named (no_value (value_of target x) free.0) absent.0)
          (λ n. moved_values done acc ps p x n v (some_value p.value r.0.value) apart.0 gone absent.0)
          (apart_more done y ps apart.1 (not_first p ps x absent.1).1))

-- Pairs that all have values, and the set that they make
valued_set : (ps : List Pair) → IsLabelSet ps → list_all has_value ps ≡ true
valued_set [] s = refl
valued_set (p ∷ ps) s = ap (λ v. is_some v && list_all has_value ps) (some_value p.value s.0.value) ∙ valued_set ps s.2

both : (a b : Bool) → (a && b) ≡ true → (a ≡ true) × (b ≡ true)
both true b h = (refl, h)
both false b h = cc

valued_new : (target ps qs : List Pair) → Renames target ps qs → list_all has_value ps ≡ true → list_all has_value qs ≡ true
valued_new target ps qs nothing h = refl
valued_new target ps qs (keeps p os rs e k) h = let b = both (has_value p) (list_all has_value os) h in λ i. b.0 i && valued_new target os rs k b.1 i
valued_new target ps qs (moves p times os rs e f k) h = let b = both (has_value p) (list_all has_value os) h in λ i. b.0 i && valued_new target os rs k b.1 i

filter_all : (ps : List Pair) → list_all has_value ps ≡ true → filter has_value ps ≡ ps
filter_all [] h = refl
filter_all (p ∷ ps) h = let b = both (has_value p) (list_all has_value ps) h in ap (λ x. cond x (p ∷ filter has_value ps) (filter has_value ps)) b.0 ∙ ap (λ x. p ∷ x) (filter_all ps b.1)

-- a name that stands before is none of a faultless rest
distinct_after : (before ps : List Pair) (n : List ℕ) → fault_after before ps ≡ None → list_any (has_name n) before ≡ true → value_of ps n ≡ None
distinct_after before [] n f h = refl
distinct_after before (q ∷ qs) n f h =
    let g = first_none (pair_fault before q) (fault_after (before ++ q ∷ []) qs) f in
    let new : list_any (has_name q.name) before ≡ false = new_name (is_label_name q.name) (list_any (has_name q.name) before) _ _ g.0 in
    by new (bytes_eq q.name n) refl (distinct_after (before ++ q ∷ []) qs n g.1 (any_append (has_name n) before (q ∷ []) ∙ ap (λ b. b || list_any (has_name n) (q ∷ [])) h)) where
      by : list_any (has_name q.name) before ≡ false → (b : Bool) → bytes_eq q.name n ≡ b → value_of qs n ≡ None → value_of (q ∷ qs) n ≡ None
      by new true e again = let k : true ≡ false = sym h ∙ ap (λ m. list_any (has_name m) before) (sym (same_names q.name n e)) ∙ new in absurd cc
      by new false e again = value_miss q qs n e ∙ again

or_true : (a : Bool) → (a || true) ≡ true
or_true true = refl
or_true false = refl

set_values : (before acc ps : List Pair) (n : List ℕ) → fault_after before ps ≡ None → list_all has_value ps ≡ true → value_of (fold set_pair acc ps) n ≡ option_or (value_of ps n) (value_of acc n)
set_values before acc [] n f h = refl
set_values before acc (p ∷ ps) n f h =
    set_values (before ++ p ∷ []) (set_pair acc p) ps n g.1 b.1 ∙ ap (option_or (value_of ps n)) (value_set acc p.name p.value n) ∙ by (bytes_eq p.name n) refl where
      g : (pair_fault before p ≡ None) × (fault_after (before ++ p ∷ []) ps ≡ None)
      g = first_none (pair_fault before p) (fault_after (before ++ p ∷ []) ps) f

      b : (has_value p ≡ true) × (list_all has_value ps ≡ true)
      b = both (has_value p) (list_all has_value ps) h

      there : list_any (has_name p.name) (before ++ p ∷ []) ≡ true
      there = any_append (has_name p.name) before (p ∷ []) ∙ ap (λ x. list_any (has_name p.name) before || (x || false)) (alike p.name) ∙ or_true (list_any (has_name p.name) before)

      own : (v : List ℕ) → is_some (value_if_any v) ≡ true → value_if_any v ≡ Some v
      own [] k = cc
      own (c ∷ cs) k = refl

      by : (e : Bool) → bytes_eq p.name n ≡ e → option_or (value_of ps n) (cond e (value_if_any p.value) (value_of acc n)) ≡ option_or (value_of (p ∷ ps) n) (value_of acc n)
      by true e =
          let none : value_of ps n ≡ None = ap (value_of ps) (sym (same_names p.name n e)) ∙ distinct_after (before ++ p ∷ []) ps p.name g.1 there in
          (λ i. option_or (none i) (own p.value b.0 i)) ∙ ap (λ v. option_or v (value_of acc n)) (sym (value_hit p ps n e))
      by false e = ap (λ v. option_or v (value_of acc n)) (sym (value_miss p ps n e))

-- The labels of a sample are those of its target and its own, under their new names.
pub all_labels : (target labels : List Pair) → IsLabelSet target → IsLabelSet labels → HasAllLabels target labels (scraped_labels target labels)
all_labels target labels t l =
    let k = kept target [] labels labels l l (ap first_fault (append-nil target) ∙ faultless target t) (λ n. refl) (apart_none labels) in
    let valued : list_all has_value (target ++ k.new) ≡ true = list_all-append has_value target k.new ∙ (λ i. valued_set target t i && valued_new target labels k.new k.renames (valued_set labels l) i) in
    let made = labels_of (target ++ k.new) in
    let same : made ≡ scraped_labels target labels =
    same_values made (scraped_labels target labels) (made_is_set (target ++ k.new) k.apart) (union_stays (renamed target labels) target k.set t)
    (λ n. set_values [] [] (target ++ k.new) n k.apart valued ∙ or_last (value_of (target ++ k.new) n) ∙ value_append target k.new n ∙ ap (option_or (value_of target n)) (sym (k.values n)) ∙ sym (value_union (renamed target labels) target n t)) in
    record {
      new = k.new;
      renames = k.renames;
      apart = k.apart;
      all = subst (IsPermutation (target ++ k.new)) same (subst (λ x. IsPermutation x made) (filter_all (target ++ k.new) valued) (made_of_all (target ++ k.new) k.apart));
    } where
      or_last : (v : Option (List ℕ)) → option_or v None ≡ v
      or_last None = refl
      or_last (Some x) = refl
