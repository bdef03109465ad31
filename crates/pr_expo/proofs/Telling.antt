-- What is kept of the lines before a line, and after it.
use Rattle.std.proofs.Common.{◌≡◌, refl, sym, ap, ◌∙◌, subst, ℕ, suc, ◌+◌, ◌<◌, ◌≤◌, ◌^◌, eqb-true, List, [], ◌∷◌, ◌++◌, length, Bool, true, false, cond, not, ◌&&◌, ◌||◌, Option, Some, None, append_assoc, append-nil, length-append, arith, map, filter, fold, codes}
use Rattle.std.specs.Prelude.{flat_map, unwrap_or, ◌==◌, if◌then◌else◌}
use Rattle.std.specs.List.{list_any, position_or_len}
use Rattle.std.specs.Map.{lookup, keys_of}
use Rattle.std.specs.Option.{option_or}
use Rattle.std.specs.Str.{bytes_eq}
use Rattle.std.proofs.lemmas.List.Concat.{flat_map-append}
use Rattle.std.proofs.lemmas.List.Elements.{filter-append}
use Rattle.std.proofs.lemmas.List.Folds.{list_any-append}
use Rattle.std.proofs.lemmas.List.Sums.{fold-append}
use Rattle.std.proofs.lemmas.Slice.Eq.{bytes_eq-Decides}
use Rattle.pr_labels.specs.pr_words.Names.{is_among}
use Rattle.pr_labels.proofs.LabelLaws.{alike}
use Rattle.pr_expo.specs.declared.expo_line.place.FamilyKind.{FamilyKind}
use Rattle.pr_expo.specs.declared.expo_line.place.Measured.{Measured}
use Rattle.pr_expo.specs.declared.expo_line.place.Read.{Read}
use Rattle.pr_expo.specs.declared.expo_line.place.Read.TheVariants.{Nothing, Help, Typed, Sample}
use Rattle.pr_expo.specs.declared.exposition.Line.{Line}
use Rattle.pr_expo.specs.declared.known.Known.{Known}
use Rattle.pr_expo.specs.Families.{Arrival, arrivals, arrivals_after, arrived, ends_in, family_by, family_by_kinds, family_names, family_of, first_type, has_late_type, has_parts, is_help, is_late, is_sample, is_sampled, is_type, kind_of, mentioned, mentioned_after, mentions, sample_at, sample_of, samples_after, samples_by, type_at, types_of, whole_of, without_ending}
use Rattle.pr_expo.specs.private.Keeping.{AreApart, Entries, HasRoom, Tells, entries_after, family_from, kept_family, kept_kind, known_by, known_of, nothing_known, put, samples_kept, with_help, with_sample, with_type}
use Rattle.pr_expo.proofs.Marking.{or_false}
use Rattle.pr_expo.proofs.Endings.{not_true}

-- names are the same, or not
same_name : (a b : List ℕ) → bytes_eq a b ≡ true → a ≡ b
same_name a b h = (bytes_eq-Decides a b).0 h

turned : (a b : List ℕ) → bytes_eq a b ≡ false → bytes_eq b a ≡ false
turned a b h = not_true (bytes_eq b a) (λ t. let p : true ≡ false = sym (alike a) ∙ ap (bytes_eq a) (sym (same_name b a t)) ∙ h in cc)

swapped : (a b : List ℕ) → bytes_eq a b ≡ bytes_eq b a
swapped a b = by (bytes_eq a b) refl where
  by : (t : Bool) → bytes_eq a b ≡ t → t ≡ bytes_eq b a
  by true e = sym (ap (λ x. bytes_eq x a) (sym (same_name a b e)) ∙ alike a)
  by false e = sym (turned a b e)

or_none : (a b : Bool) → (a || b) ≡ false → (a ≡ false) × (b ≡ false)
or_none true b h = cc
or_none false b h = (refl, h)

-- a line more
more_arrivals : (b xs : List Read) (r : Read) → arrivals_after b (xs ++ r ∷ []) ≡ arrivals_after b xs ++ record { before = b ++ xs; line = r } ∷ []
more_arrivals b [] r = ap (λ (x : List Read). let a : Arrival = record { before = x; line = r } in a ∷ []) (sym (append-nil b))
more_arrivals b (x ∷ xs) r =
    ap (λ ys. record { before = b; line = x } ∷ ys)
    (more_arrivals (b ++ x ∷ []) xs r ∙ ap (λ (y : List Read). let a : Arrival = record { before = y; line = r } in arrivals_after (b ++ x ∷ []) xs ++ a ∷ []) (append_assoc b (x ∷ []) xs))

arrival : List Read → Read → Arrival
arrival before r = record { before = before; line = r }

module _ (before : List Read) (r : Read) where
  flat_more : {X : Type 0} (f : Arrival → List X) → flat_map f (arrivals (before ++ r ∷ [])) ≡ flat_map f (arrivals before) ++ f (record { before = before; line = r })
  flat_more f =
      ap (flat_map f) (more_arrivals [] before r) ∙ flat_map-append f (arrivals before) (record { before = before; line = r } ∷ [])
      ∙ ap (λ x. flat_map f (arrivals before) ++ x) (append-nil (f (record { before = before; line = r })))

  any_more : (p : Arrival → Bool) → list_any p (arrivals (before ++ r ∷ [])) ≡ (list_any p (arrivals before) || p (record { before = before; line = r }))
  any_more p =
      ap (list_any p) (more_arrivals [] before r) ∙ list_any-append p (arrivals before) (record { before = before; line = r } ∷ [])
      ∙ ap (λ x. list_any p (arrivals before) || x) (or_false (p (record { before = before; line = r })))

  names_more : family_names (before ++ r ∷ []) ≡ fold arrived (family_names before) (mentioned_after before r)
  names_more = ap (fold arrived []) (flat_more mentioned) ∙ fold-append arrived [] (mentions before) (mentioned_after before r)

  samples_more : (names : List (List ℕ)) → samples_by names (before ++ r ∷ []) ≡ samples_by names before ++ samples_after names before r
  samples_more names = flat_more (sample_at names)

  types_more : (name : List ℕ) → types_of (before ++ r ∷ []) name ≡ types_of before name ++ type_at name r
  types_more name = flat_map-append (type_at name) before (r ∷ []) ∙ ap (λ x. types_of before name ++ x) (append-nil (type_at name r))

  helps_more : (name : List ℕ) → length (filter (is_help name) (before ++ r ∷ [])) ≡ length (filter (is_help name) before) + length (filter (is_help name) (r ∷ []))
  helps_more name = ap length (filter-append (is_help name) before (r ∷ [])) ∙ length-append (filter (is_help name) before) (filter (is_help name) (r ∷ []))

  late_more : (name : List ℕ) → has_late_type (before ++ r ∷ []) name ≡ (has_late_type before name || (is_type name r && is_sampled before name))
  late_more name = any_more (is_late name)

  sampled_more : (name : List ℕ) → is_sampled (before ++ r ∷ []) name ≡ (is_sampled before name || is_sample name (record { before = before; line = r }))
  sampled_more name = any_more (is_sample name)

-- what is known, by its parts
same_known : {kind kind' : FamilyKind} {helps helps' types types' : ℕ} {late late' sampled sampled' : Bool} → kind ≡ kind' → helps ≡ helps' → types ≡ types' → late ≡ late' → sampled ≡ sampled' →
    (let k : Known = record { kind = kind; helps = helps; types = types; late_type = late; sampled = sampled } in k) ≡ record { kind = kind'; helps = helps'; types = types'; late_type = late'; sampled = sampled' }
same_known k h t l s = λ i. record { kind = k i; helps = h i; types = t i; late_type = l i; sampled = s i }

-- what is known after a line
abbrev known_after : List Read → List ℕ → Read → Known
known_after before name Nothing = known_by before name
known_after before name (Help family) = cond (bytes_eq name family) (with_help (known_by before name)) (known_by before name)
known_after before name (Typed family kind) = cond (bytes_eq name family) (with_type (known_by before name) kind) (known_by before name)
known_after before name (Sample m time) = cond (bytes_eq name (family_of before m.head.name)) (with_sample (known_by before name)) (known_by before name)

plus_none : (n : ℕ) → n + 0 ≡ n
plus_none n = omega arith

first_with : (kinds : List FamilyKind) (kind : FamilyKind) → first_type (kinds ++ kind ∷ []) ≡ (if length kinds == 0 then kind else first_type kinds)
first_with [] kind = refl
first_with (k ∷ kinds) kind = by (length (k ∷ kinds) == 0) refl where
  by : (b : Bool) → (length (k ∷ kinds) == 0) ≡ b → k ≡ (if b then kind else k)
  by true e = let z : length (k ∷ kinds) ≡ 0 = eqb-true (length (k ∷ kinds)) 0 e in absurd (omega arith)
  by false e = refl

or_true : (a : Bool) → (a || true) ≡ true
or_true true = refl
or_true false = refl

module _ (before : List Read) (name : List ℕ) where
  nothing_more : known_by (before ++ Nothing ∷ []) name ≡ known_by before name
  nothing_more =
      same_known (ap first_type (types_more before Nothing name ∙ append-nil (types_of before name))) (helps_more before Nothing name ∙ plus_none (length (filter (is_help name) before)))
      (ap length (types_more before Nothing name ∙ append-nil (types_of before name))) (late_more before Nothing name ∙ or_false (has_late_type before name)) (sampled_more before Nothing name ∙ or_false (is_sampled before name))

  help_more : (family : List ℕ) (b : Bool) → bytes_eq name family ≡ b → known_by (before ++ Help family ∷ []) name ≡ cond b (with_help (known_by before name)) (known_by before name)
  help_more family b e = by b (helps_more before (Help family) name ∙ ap (λ t. length (filter (is_help name) before) + length (cond t (Help family ∷ []) [])) e) where
    by : (b : Bool) → length (filter (is_help name) (before ++ Help family ∷ [])) ≡ length (filter (is_help name) before) + length (cond b (Help family ∷ []) []) →
        known_by (before ++ Help family ∷ []) name ≡ cond b (with_help (known_by before name)) (known_by before name)
    by true h =
        same_known (ap first_type (types_more before (Help family) name ∙ append-nil (types_of before name))) h
        (ap length (types_more before (Help family) name ∙ append-nil (types_of before name))) (late_more before (Help family) name ∙ or_false (has_late_type before name)) (sampled_more before (Help family) name ∙ or_false (is_sampled before name))
    by false h =
        same_known (ap first_type (types_more before (Help family) name ∙ append-nil (types_of before name))) (h ∙ plus_none (length (filter (is_help name) before)))
        (ap length (types_more before (Help family) name ∙ append-nil (types_of before name))) (late_more before (Help family) name ∙ or_false (has_late_type before name)) (sampled_more before (Help family) name ∙ or_false (is_sampled before name))

  type_more : (family : List ℕ) (kind : FamilyKind) (b : Bool) → bytes_eq name family ≡ b → known_by (before ++ Typed family kind ∷ []) name ≡ cond b (with_type (known_by before name) kind) (known_by before name)
  type_more family kind b e =
      by b (types_more before (Typed family kind) name ∙ ap (λ t. types_of before name ++ cond t (kind ∷ []) []) e)
      (late_more before (Typed family kind) name ∙ ap (λ t. has_late_type before name || (t && is_sampled before name)) e) where
        by : (b : Bool) → types_of (before ++ Typed family kind ∷ []) name ≡ types_of before name ++ cond b (kind ∷ []) [] →
            has_late_type (before ++ Typed family kind ∷ []) name ≡ (has_late_type before name || (b && is_sampled before name)) →
            known_by (before ++ Typed family kind ∷ []) name ≡ cond b (with_type (known_by before name) kind) (known_by before name)
        by true t l =
            same_known (ap first_type t ∙ first_with (types_of before name) kind) (helps_more before (Typed family kind) name ∙ plus_none (length (filter (is_help name) before)))
            (ap length t ∙ length-append (types_of before name) (kind ∷ [])) l (sampled_more before (Typed family kind) name ∙ or_false (is_sampled before name))
        by false t l =
            same_known (ap first_type (t ∙ append-nil (types_of before name))) (helps_more before (Typed family kind) name ∙ plus_none (length (filter (is_help name) before)))
            (ap length (t ∙ append-nil (types_of before name))) (l ∙ or_false (has_late_type before name)) (sampled_more before (Typed family kind) name ∙ or_false (is_sampled before name))

  sample_more : (m : Measured) (time : Option (List ℕ)) (b : Bool) → bytes_eq name (family_of before m.head.name) ≡ b →
      known_by (before ++ Sample m time ∷ []) name ≡ cond b (with_sample (known_by before name)) (known_by before name)
  sample_more m time b e = by b (sampled_more before (Sample m time) name ∙ ap (λ t. is_sampled before name || t) e) where
    by : (b : Bool) → is_sampled (before ++ Sample m time ∷ []) name ≡ (is_sampled before name || b) →
        known_by (before ++ Sample m time ∷ []) name ≡ cond b (with_sample (known_by before name)) (known_by before name)
    by true h =
        same_known (ap first_type (types_more before (Sample m time) name ∙ append-nil (types_of before name))) (helps_more before (Sample m time) name ∙ plus_none (length (filter (is_help name) before)))
        (ap length (types_more before (Sample m time) name ∙ append-nil (types_of before name))) (late_more before (Sample m time) name ∙ or_false (has_late_type before name)) (h ∙ or_true (is_sampled before name))
    by false h =
        same_known (ap first_type (types_more before (Sample m time) name ∙ append-nil (types_of before name))) (helps_more before (Sample m time) name ∙ plus_none (length (filter (is_help name) before)))
        (ap length (types_more before (Sample m time) name ∙ append-nil (types_of before name))) (late_more before (Sample m time) name ∙ or_false (has_late_type before name)) (h ∙ or_false (is_sampled before name))

-- what is put under a name is known of it, and of other names what was
put_known : (es : Entries) (f : List ℕ) (v : Known) (name : List ℕ) → known_of (put es f v) name ≡ cond (bytes_eq name f) v (known_of es name)
put_known [] f v name = by (bytes_eq name f) where
  by : (b : Bool) → unwrap_or (cond b (Some v) None) nothing_known ≡ cond b v nothing_known
  by true = refl
  by false = refl
put_known (e ∷ es) f v name = by (bytes_eq f e.0) refl (put_known es f v name) where
  same : (b c : Bool) (o : Option Known) → b ≡ c → unwrap_or (cond b (Some v) o) nothing_known ≡ cond c v (unwrap_or (cond b (Some e.1) o) nothing_known)
  same true true o h = refl
  same true false o h = cc
  same false true o h = cc
  same false false o h = refl

  other : (b c : Bool) (x y : Option Known) → (b ≡ true → c ≡ false) → unwrap_or x nothing_known ≡ cond c v (unwrap_or y nothing_known) →
      unwrap_or (cond b (Some e.1) x) nothing_known ≡ cond c v (unwrap_or (cond b (Some e.1) y) nothing_known)
  other true true x y n h = let k : true ≡ false = n refl in cc
  other true false x y n h = refl
  other false c x y n h = h

  by : (b : Bool) → bytes_eq f e.0 ≡ b → known_of (put es f v) name ≡ cond (bytes_eq name f) v (known_of es name) →
      known_of (if b then (e.0, v) ∷ es else e ∷ put es f v) name ≡ cond (bytes_eq name f) v (known_of (e ∷ es) name)
  by true h again = same (bytes_eq name e.0) (bytes_eq name f) (lookup (bytes_eq name) es) (ap (bytes_eq name) (sym (same_name f e.0 h)))
  by false h again =
      other (bytes_eq name e.0) (bytes_eq name f) (lookup (bytes_eq name) (put es f v)) (lookup (bytes_eq name) es)
      (λ t. ap (λ x. bytes_eq x f) (same_name name e.0 t) ∙ turned f e.0 h) again

put_names : (es : Entries) (f : List ℕ) (v : Known) → keys_of (put es f v) ≡ arrived (keys_of es) f
put_names [] f v = refl
put_names (e ∷ es) f v =
    by (bytes_eq f e.0) (put_names es f v) ∙ ap (λ b. cond (b || is_among f (keys_of es)) (e.0 ∷ keys_of es) (e.0 ∷ (keys_of es ++ f ∷ []))) (swapped f e.0) where
      after : (b : Bool) → e.0 ∷ cond b (keys_of es) (keys_of es ++ f ∷ []) ≡ cond b (e.0 ∷ keys_of es) (e.0 ∷ (keys_of es ++ f ∷ []))
      after true = refl
      after false = refl

      by : (b : Bool) → keys_of (put es f v) ≡ arrived (keys_of es) f →
          keys_of (if b then (e.0, v) ∷ es else e ∷ put es f v) ≡ cond (b || is_among f (keys_of es)) (e.0 ∷ keys_of es) (e.0 ∷ (keys_of es ++ f ∷ []))
      by true again = refl
      by false again = ap (λ ns. e.0 ∷ ns) again ∙ after (is_among f (keys_of es))

-- names that are mentioned later stand after those before
record Longer (names more : List (List ℕ)) : Type 0 where
  rest : List (List ℕ)
  is : more ≡ names ++ rest

longer : (names more : List (List ℕ)) → Longer names (fold arrived names more)
longer names [] = record { rest = []; is = sym (append-nil names) }
longer names (m ∷ ms) = by (is_among m names) (λ ns. longer ns ms) where
  by : (b : Bool) → ((ns : List (List ℕ)) → Longer ns (fold arrived ns ms)) → Longer names (fold arrived (cond b names (names ++ m ∷ [])) ms)
  by true again = again names
  by false again = let l = again (names ++ m ∷ []) in record { rest = m ∷ l.rest; is = l.is ∙ append_assoc names (m ∷ []) l.rest }

place_kept : (f : List ℕ) (names rest : List (List ℕ)) → is_among f names ≡ true → position_or_len (bytes_eq f) (names ++ rest) ≡ position_or_len (bytes_eq f) names
place_kept f [] rest h = cc
place_kept f (n ∷ ns) rest h = by (bytes_eq f n) (ap (λ b. b || is_among f ns) (swapped f n) ∙ h) (place_kept f ns rest) where
  by : (b : Bool) → (b || is_among f ns) ≡ true → (is_among f ns ≡ true → position_or_len (bytes_eq f) (ns ++ rest) ≡ position_or_len (bytes_eq f) ns) → cond (not b) (1 + position_or_len (bytes_eq f) (ns ++ rest)) 0 ≡ cond (not b) (1 + position_or_len (bytes_eq f) ns) 0
  by true k again = refl
  by false k again = ap (λ x. 1 + x) (again k)

place_new : (f : List ℕ) (names rest : List (List ℕ)) → is_among f names ≡ false → position_or_len (bytes_eq f) (names ++ f ∷ rest) ≡ position_or_len (bytes_eq f) names
place_new f [] rest h = ap (λ b. cond (not b) (1 + position_or_len (bytes_eq f) rest) 0) (alike f)
place_new f (n ∷ ns) rest h = by (bytes_eq f n) (ap (λ b. b || is_among f ns) (swapped f n) ∙ h) (place_new f ns rest) where
  by : (b : Bool) → (b || is_among f ns) ≡ false → (is_among f ns ≡ false → position_or_len (bytes_eq f) (ns ++ f ∷ rest) ≡ position_or_len (bytes_eq f) ns) → cond (not b) (1 + position_or_len (bytes_eq f) (ns ++ f ∷ rest)) 0 ≡ cond (not b) (1 + position_or_len (bytes_eq f) ns) 0
  by true k again = cc
  by false k again = ap (λ x. 1 + x) (again k)

-- the place of a family stays
place_stays : (f : List ℕ) (names more : List (List ℕ)) → position_or_len (bytes_eq f) (fold arrived (arrived names f) more) ≡ position_or_len (bytes_eq f) names
place_stays f names more = by (is_among f names) refl where
  by : (b : Bool) → is_among f names ≡ b → position_or_len (bytes_eq f) (fold arrived (cond b names (names ++ f ∷ [])) more) ≡ position_or_len (bytes_eq f) names
  by true e = let l = longer names more in ap (position_or_len (bytes_eq f)) l.is ∙ place_kept f names l.rest e
  by false e =
      let l = longer (names ++ f ∷ []) more in
      ap (position_or_len (bytes_eq f)) (l.is ∙ append_assoc names (f ∷ []) l.rest) ∙ place_new f names l.rest e

-- the family of a sample
whole_same : (k j : List ℕ → FamilyKind) (b : Bool) (ending name : List ℕ) → ((n : List ℕ) → k n ≡ j n) → whole_of k b ending name ≡ whole_of j b ending name
whole_same k j b ending name h = ap (λ x. cond (ends_in ending name) (cond (has_parts b x) (Some (without_ending ending name)) None) None) (h (without_ending ending name))

family_same : (k j : List ℕ → FamilyKind) (name : List ℕ) → ((n : List ℕ) → k n ≡ j n) → family_by_kinds k name ≡ family_by_kinds j name
family_same k j name h =
    let bucket = whole_same k j false (codes "_bucket") name h in
    let sum = whole_same k j true (codes "_sum") name h in
    let count = whole_same k j true (codes "_count") name h in
    λ i. unwrap_or (option_or (bucket i) (option_or (sum i) (count i))) name

kept_same : (es : Entries) (lines : List Line) (before : List Read) (name : List ℕ) → Tells es lines before → kept_family es name ≡ family_of before name
kept_same es lines before name t = family_same (kept_kind es) (kind_of before) name (λ n. ap (λ (k : Known). k.kind) (t.each n))

-- what is put for a line that mentions a family
put_tells : (es : Entries) (lines samples : List Line) (before : List Read) (r : Read) (f : List ℕ) (v : Known) → Tells es lines before →
    mentioned_after before r ≡ f ∷ [] → ((name : List ℕ) → known_by (before ++ r ∷ []) name ≡ cond (bytes_eq name f) v (known_by before name)) →
    ((more : List (List ℕ)) → samples ≡ samples_after (fold arrived (arrived (family_names before) f) more) before r) →
    Tells (put es f v) (lines ++ samples) (before ++ r ∷ [])
put_tells es lines samples before r f v t m k s = record {
  names = put_names es f v ∙ ap (λ ns. arrived ns f) t.names ∙ sym named;
  each = λ name. put_known es f v name ∙ ap (cond (bytes_eq name f) v) (t.each name) ∙ sym (k name);
  samples = λ more.
      (λ i. t.samples (f ∷ more) i ++ s more i) ∙ sym (samples_more before r (fold arrived (arrived (family_names before) f) more))
      ∙ ap (λ ns. samples_by (fold arrived ns more) (before ++ r ∷ [])) (sym named);
} where
  named : family_names (before ++ r ∷ []) ≡ arrived (family_names before) f
  named = names_more before r ∙ ap (fold arrived (family_names before)) m

empty_after : (xs : List Line) → xs ++ [] ≡ xs
empty_after xs = append-nil xs

-- A line more is told.
pub tells_more : (es : Entries) (lines : List Line) (before : List Read) (r : Read) → Tells es lines before → Tells (entries_after es r) (lines ++ samples_kept es r) (before ++ r ∷ [])
tells_more es lines before Nothing t = record {
  names = t.names ∙ sym (names_more before Nothing);
  each = λ name. t.each name ∙ sym (nothing_more before name);
  samples = λ more.
      empty_after lines ∙ t.samples more ∙ sym (empty_after (samples_by (fold arrived (family_names before) more) before))
      ∙ sym (samples_more before Nothing (fold arrived (family_names before) more))
      ∙ ap (λ ns. samples_by (fold arrived ns more) (before ++ Nothing ∷ [])) (sym (names_more before Nothing));
}
tells_more es lines before (Help family) t =
    put_tells es lines [] before (Help family) family (with_help (known_of es family)) t refl (λ name. known name (bytes_eq name family) refl) (λ more. refl) where
      known : (name : List ℕ) (b : Bool) → bytes_eq name family ≡ b → known_by (before ++ Help family ∷ []) name ≡ cond (bytes_eq name family) (with_help (known_of es family)) (known_by before name)
      known name true e =
          help_more before name family true e ∙ ap with_help (ap (known_by before) (same_name name family e) ∙ sym (t.each family)) ∙ ap (λ b. cond b (with_help (known_of es family)) (known_by before name)) (sym e)
      known name false e = help_more before name family false e ∙ ap (λ b. cond b (with_help (known_of es family)) (known_by before name)) (sym e)
tells_more es lines before (Typed family kind) t =
    put_tells es lines [] before (Typed family kind) family (with_type (known_of es family) kind) t refl (λ name. known name (bytes_eq name family) refl) (λ more. refl) where
      known : (name : List ℕ) (b : Bool) → bytes_eq name family ≡ b → known_by (before ++ Typed family kind ∷ []) name ≡ cond (bytes_eq name family) (with_type (known_of es family) kind) (known_by before name)
      known name true e =
          type_more before name family kind true e ∙ ap (λ k. with_type k kind) (ap (known_by before) (same_name name family e) ∙ sym (t.each family))
          ∙ ap (λ b. cond b (with_type (known_of es family) kind) (known_by before name)) (sym e)
      known name false e = type_more before name family kind false e ∙ ap (λ b. cond b (with_type (known_of es family) kind) (known_by before name)) (sym e)
tells_more es lines before (Sample m time) t =
    put_tells es lines (samples_kept es (Sample m time)) before (Sample m time) kept (with_sample (known_of es kept)) t (ap (λ f. f ∷ []) (sym is)) (λ name. known name (bytes_eq name kept) refl) samples where
      kept : List ℕ
      kept = kept_family es m.head.name

      is : kept ≡ family_of before m.head.name
      is = kept_same es lines before m.head.name t

      known : (name : List ℕ) (b : Bool) → bytes_eq name kept ≡ b → known_by (before ++ Sample m time ∷ []) name ≡ cond (bytes_eq name kept) (with_sample (known_of es kept)) (known_by before name)
      known name true e =
          sample_more before name m time true (ap (bytes_eq name) (sym is) ∙ e) ∙ ap with_sample (ap (known_by before) (same_name name kept e) ∙ sym (t.each kept))
          ∙ ap (λ b. cond b (with_sample (known_of es kept)) (known_by before name)) (sym e)
      known name false e =
          sample_more before name m time false (ap (bytes_eq name) (sym is) ∙ e) ∙ ap (λ b. cond b (with_sample (known_of es kept)) (known_by before name)) (sym e)

      samples : (more : List (List ℕ)) → samples_kept es (Sample m time) ≡ samples_after (fold arrived (arrived (family_names before) kept) more) before (Sample m time)
      samples more =
          ap (λ n. sample_of m time n ∷ [])
          (ap (position_or_len (bytes_eq kept)) t.names ∙ sym (place_stays kept (family_names before) more)
          ∙ ap (λ f. position_or_len (bytes_eq f) (fold arrived (arrived (family_names before) kept) more)) is)

-- Nothing is told at first.
pub tells_nothing : Tells [] [] []
tells_nothing = record { names = refl; each = λ name. refl; samples = λ more. refl }

-- no name stands twice
apart_more : (names : List (List ℕ)) (f : List ℕ) → AreApart names → is_among f names ≡ false → AreApart (names ++ f ∷ [])
apart_more [] f a h = (refl, tt)
apart_more (n ∷ ns) f a h =
    let k = or_none (bytes_eq n f) (is_among f ns) h in (
      list_any-append (λ m. bytes_eq m n) ns (f ∷ []) ∙ ap (λ b. b || (bytes_eq f n || false)) a.0 ∙ ap (λ b. b || false) (turned n f k.0),
      apart_more ns f a.1 k.1,
    )

apart_arrived : (names more : List (List ℕ)) → AreApart names → AreApart (fold arrived names more)
apart_arrived names [] a = a
apart_arrived names (m ∷ ms) a = by (is_among m names) refl (λ ns. apart_arrived ns ms) where
  by : (b : Bool) → is_among m names ≡ b → ((ns : List (List ℕ)) → AreApart ns → AreApart (fold arrived ns ms)) → AreApart (fold arrived (cond b names (names ++ m ∷ [])) ms)
  by true e again = again names a
  by false e again = again (names ++ m ∷ []) (apart_more names m a e)

names_apart : (all : List Read) → AreApart (family_names all)
names_apart all = apart_arrived [] (mentions all) tt

-- an entry is what is known of its name
found_name : (es : Entries) (name : List ℕ) (k : Known) → lookup (bytes_eq name) es ≡ Some k → is_among name (keys_of es) ≡ true
found_name [] name k h = cc
found_name (e ∷ es) name k h = ap (λ b. b || is_among name (keys_of es)) (swapped e.0 name) ∙ by (bytes_eq name e.0) h (found_name es name k) where
  by : (b : Bool) → cond b (Some e.1) (lookup (bytes_eq name) es) ≡ Some k → (lookup (bytes_eq name) es ≡ Some k → is_among name (keys_of es) ≡ true) → (b || is_among name (keys_of es)) ≡ true
  by true j again = refl
  by false j again = again j

all_families : (es : Entries) (g : List ℕ → Known) → AreApart (keys_of es) → ((name : List ℕ) (k : Known) → lookup (bytes_eq name) es ≡ Some k → k ≡ g name) →
    map family_from es ≡ map (λ name. family_from (name, g name)) (keys_of es)
all_families [] g a h = refl
all_families (e ∷ es) g a h =
    λ i. family_from (e.0, h e.0 e.1 (ap (λ b. cond b (Some e.1) (lookup (bytes_eq e.0) es)) (alike e.0)) i) ∷ all_families es g a.1 (λ name k f. h name k (later name k f (bytes_eq name e.0) refl)) i where
      later : (name : List ℕ) (k : Known) → lookup (bytes_eq name) es ≡ Some k → (b : Bool) → bytes_eq name e.0 ≡ b → cond (bytes_eq name e.0) (Some e.1) (lookup (bytes_eq name) es) ≡ Some k
      later name k f true t =
          let p : true ≡ false = sym (found_name es name k f) ∙ ap (λ n. is_among n (keys_of es)) (same_name name e.0 t) ∙ a.0 in cc
      later name k f false t = ap (λ b. cond b (Some e.1) (lookup (bytes_eq name) es)) t ∙ f

-- The families that are kept are those of the lines.
pub families_told : (es : Entries) (lines : List Line) (all : List Read) → Tells es lines all → map family_from es ≡ map (family_by all) (family_names all)
families_told es lines all t =
    all_families es (known_by all) (subst AreApart (sym t.names) (names_apart all)) (λ name k f. sym (ap (λ o. unwrap_or o nothing_known) f) ∙ t.each name)
    ∙ ap (map (family_by all)) t.names

-- as many types and help texts as lines, at most
few_helps : (name : List ℕ) (all : List Read) → length (filter (is_help name) all) ≤ length all
few_helps name [] = omega arith
few_helps name (r ∷ rs) = by (is_help name r) (few_helps name rs) where
  by : (b : Bool) → length (filter (is_help name) rs) ≤ length rs → length (cond b (r ∷ filter (is_help name) rs) (filter (is_help name) rs)) ≤ suc (length rs)
  by true again = omega arith
  by false again = omega arith

one_type : (name : List ℕ) (r : Read) → length (type_at name r) ≤ 1
one_type name Nothing = omega arith
one_type name (Help family) = omega arith
one_type name (Typed family kind) = by (bytes_eq name family) where
  by : (b : Bool) → length (cond b (kind ∷ []) []) ≤ 1
  by true = omega arith
  by false = omega arith
one_type name (Sample m time) = omega arith

few_types : (name : List ℕ) (all : List Read) → length (types_of all name) ≤ length all
few_types name [] = omega arith
few_types name (r ∷ rs) = omega (arith, few_types name rs, one_type name r, length-append (type_at name r) (types_of rs name))

pub has_room : (es : Entries) (lines : List Line) (before : List Read) → Tells es lines before → length before + 1 < 2 ^ 32 → HasRoom es
has_room es lines before t h = λ name. (
  subst (λ (k : Known). k.helps + 1 < 2 ^ 32) (sym (t.each name)) (omega (arith, few_helps name before)),
  subst (λ (k : Known). k.types + 1 < 2 ^ 32) (sym (t.each name)) (omega (arith, few_types name before)),
)
