-- One more bucket, and what all of them give.
use Rattle.std.proofs.Common.{◌≡◌, ℕ, suc, ◌+◌, ◌<◌, ◌≤◌, ◌^◌, Bool, true, false, cond, List, [], ◌∷◌, ◌++◌, length, map, filter, fold, Option, Some, None, Result, Ok, Err, IfOk, MatchResult, OnOk, is_some, unwrap_or, refl, sym, ap, ◌∙◌, subst, arith, append-nil, append_assoc, slice_get}
use Rattle.std.proofs.lemmas.List.{map-append}
use Rattle.std.proofs.lemmas.List.Elements.{filter-append}
use Rattle.std.proofs.lemmas.List.Sums.{length-filter, count_by-le-length}
use Rattle.std.proofs.lemmas.Map.Entries.{btree_map_get_place}
use Rattle.std.specs.Map.{keys_of}
use Rattle.std.specs.Option.{IfSome}
use Rattle.std.specs.Ordering.{is_eq, match_ordering}
use Rattle.std.specs.declared.cmp.Ordering.{Ordering}
use Rattle.std.specs.declared.cmp.Ordering.TheVariants.{Less, Equal, Greater}
use Rattle.std.specs.BTreeMap.{BTreeMap, IsOrdered, get, is_at, keys, Updates}
use Rattle.pr_num.specs.declared.value.Num.{Num}
use Rattle.pr_num.specs.declared.value.Num.TheVariants.{Finite, NaN, PosInf, NegInf}
use Rattle.pr_num.specs.declared.value.TooWide.{TooWide}
use Rattle.pr_num.specs.Arithmetic.{too_wide}
use Rattle.pr_num.specs.Order.{order_of}
use Rattle.pr_num.specs.Total.{Tally, joined, one_value, total_of, value_of}
use Rattle.pr_num.proofs.Algebra.{order_is_total, order_tells_apart, joined_lists, nothing_joined_left, nothing_joined_right}
use Rattle.pr_match.specs.pr_labels.declared.pair.Pair.{Pair}
use Rattle.pr_match.specs.pr_labels.declared.item.Item.{Item}
use Rattle.pr_match.specs.pr_labels.Order.{labels_cmp}
use Rattle.pr_match.proofs.LabelsLabelOrder.{labels_total}
use Rattle.pr_match.proofs.LabelsLabelMaps.{tie, same_labels}
use Rattle.pr_match.proofs.LabelsSorted.{equal_of}
use Rattle.spec_vectors.specs.declared.bucket.Bucket.{Bucket}
use Rattle.spec_vectors.specs.declared.function_fault.FunctionFault.{FunctionFault}
use Rattle.spec_vectors.specs.private.Laws.{IsVector}
use Rattle.spec_vectors.specs.Histogram.{bound_of, bound_placed, bucket, bucket_of, buckets_in, count_at, counted_at, elements_by, histogram_labels, histogram_quantiles, histogram_value, is_bucket, merged, next_bucket, quantile_in, quantile_of_merged, next_element, with_bound}
use Rattle.pr_fn.specs.private.Buckets.{before_buckets, before_elements, bound_in, buckets_of, buckets_with, count_in, counted_entries, tally_of, tally_with, valued_entries}
use Rattle.pr_fn.specs.private.Gathered.{AreGathered, of_key, with_key}
use Rattle.pr_fn.proofs.Gathering.{gathered_more}
use Rattle.pr_fn.proofs.LabelKeys.{labels_key}

same_value : (a b : Num) → is_eq (order_of a b) ≡ true → a ≡ b
same_value a b h = (order_tells_apart a b).0 (equal_of (order_of a b) h)

-- counts added up
tally_more : (xs : List Bucket) (x : Bucket) → Some (tally_with (tally_of xs) x.count) ≡ tally_of (xs ++ x ∷ [])
tally_more [] x = ap (λ (t : Tally). Some t) (nothing_joined_left (one_value x.count) ∙ sym (nothing_joined_right (one_value x.count)))
tally_more (y ∷ ys) x =
    ap (λ (t : Tally). Some t)
    (ap (joined (total_of (map count_in (y ∷ ys)))) (sym (nothing_joined_right (one_value x.count)))
    ∙ sym (joined_lists (map count_in (y ∷ ys)) (x.count ∷ []))
    ∙ ap total_of (sym (map-append count_in (y ∷ ys) (x ∷ []))))

one_counted : (v : Num) → (one_value v).count ≡ 1
one_counted (Finite a) = refl
one_counted NaN = refl
one_counted PosInf = refl
one_counted NegInf = refl

all_counted : (bs : List Bucket) → (total_of (map count_in bs)).count ≡ length bs
all_counted [] = refl
all_counted (b ∷ bs) = omega (arith, one_counted b.count, all_counted bs)

some_counted : (bs : List Bucket) (n : ℕ) → length bs ≤ n → IfSome (tally_of bs) (λ t. t.count ≤ n)
some_counted [] n h = tt
some_counted (b ∷ bs) n h = omega (arith, all_counted (b ∷ bs), h)

pub tally_small : (front : List Bucket) (m : BTreeMap Num Tally) (q : Num) → AreGathered order_of bound_in tally_of front m → IfSome (get order_of m q) (λ t. t.count ≤ length front)
tally_small front m q h =
    subst (λ (o : Option Tally). IfSome o (λ t. t.count ≤ length front)) (sym (h.at q))
    (some_counted (of_key order_of bound_in q front) (length front) (omega (arith, length-filter (λ (b : Bucket). is_at (order_of (bound_in b)) q) front, count_by-le-length (λ (b : Bucket). is_at (order_of (bound_in b)) q) front)))

pub room_for_one : (o : Option Tally) (n : ℕ) → suc n < 2 ^ 64 → IfSome o (λ t. t.count ≤ n) → IfSome o (λ t. t.count + 1 < 2 ^ 64)
room_for_one None n h k = tt
room_for_one (Some t) n h k = omega (arith, h, k)

pub tallies_more : (front : List Bucket) (x : Bucket) (m n : BTreeMap Num Tally) (w : Tally) → w ≡ tally_with (get order_of m x.bound) x.count
    → keys n ≡ with_key order_of (keys m) x.bound → Updates order_of m n x.bound (Some w) → IsOrdered order_of n
    → AreGathered order_of bound_in tally_of front m → AreGathered order_of bound_in tally_of (front ++ x ∷ []) n
tallies_more front x m n w is known u ordered h =
    gathered_more order_of same_value bound_in tally_of front x m n w
    (ap (λ (t : Tally). Some t) (is ∙ ap (λ (o : Option Tally). tally_with o x.count) (h.at x.bound)) ∙ tally_more (of_key order_of bound_in x.bound front) x)
    known u ordered h

-- buckets in their histograms
buckets_more : (es : List (Item Num)) (x : Item Num) → Some (buckets_with (buckets_of es) (bucket_of x)) ≡ buckets_of (es ++ x ∷ [])
buckets_more [] x = refl
buckets_more (e ∷ es) x = ap (λ (bs : List Bucket). Some bs) (sym (map-append bucket_of (e ∷ es) (x ∷ [])))

filter_one : (front : List (Item Num)) (x : Item Num) (b : Bool) → is_bucket x ≡ b → filter is_bucket (front ++ x ∷ []) ≡ filter is_bucket front ++ cond b (x ∷ []) []
filter_one front x b h = filter-append is_bucket front (x ∷ []) ∙ ap (λ (c : Bool). filter is_bucket front ++ cond c (x ∷ []) []) h

pub no_bucket_more : (front : List (Item Num)) (x : Item Num) (m : BTreeMap (List Pair) (List Bucket)) → is_bucket x ≡ false
    → AreGathered labels_cmp histogram_labels buckets_of (filter is_bucket front) m → AreGathered labels_cmp histogram_labels buckets_of (filter is_bucket (front ++ x ∷ [])) m
no_bucket_more front x m h g =
    subst (λ (es : List (Item Num)). AreGathered labels_cmp histogram_labels buckets_of es m) (sym (filter_one front x false h ∙ append-nil (filter is_bucket front))) g

pub bucket_more : (front : List (Item Num)) (x : Item Num) (m n : BTreeMap (List Pair) (List Bucket)) (w : List Bucket) → is_bucket x ≡ true
    → w ≡ buckets_with (get labels_cmp m (histogram_labels x)) (bucket_of x)
    → keys n ≡ with_key labels_cmp (keys m) (histogram_labels x) → Updates labels_cmp m n (histogram_labels x) (Some w) → IsOrdered labels_cmp n
    → AreGathered labels_cmp histogram_labels buckets_of (filter is_bucket front) m → AreGathered labels_cmp histogram_labels buckets_of (filter is_bucket (front ++ x ∷ [])) n
bucket_more front x m n w present is known u ordered h =
    subst (λ (es : List (Item Num)). AreGathered labels_cmp histogram_labels buckets_of es n) (sym (filter_one front x true present))
    (gathered_more labels_cmp same_labels histogram_labels buckets_of (filter is_bucket front) x m n w
    (ap (λ (bs : List Bucket). Some bs) (is ∙ ap (λ (o : Option (List Bucket)). buckets_with o (bucket_of x)) (h.at (histogram_labels x))) ∙ buckets_more (of_key labels_cmp histogram_labels (histogram_labels x) (filter is_bucket front)) x)
    known u ordered h)

-- loops over entries
pub before_no_buckets : (r : Result (List Bucket) TooWide) → before_buckets [] r ≡ r
before_no_buckets (Ok rest) = refl
before_no_buckets (Err e) = refl

pub before_next_bucket : (front : List Bucket) (bound count : Num) (r : Result (List Bucket) TooWide) → before_buckets (front ++ bucket bound count ∷ []) r ≡ before_buckets front (next_bucket bound (Ok count) r)
before_next_bucket front bound count (Ok rest) = ap (λ (bs : List Bucket). Ok bs) (append_assoc front (bucket bound count ∷ []) rest)
before_next_bucket front bound count (Err e) = refl

pub before_no_elements : (r : Result (List (Item Num)) FunctionFault) → before_elements [] r ≡ r
before_no_elements (Ok rest) = refl
before_no_elements (Err e) = refl

pub before_next_element : (front : List (Item Num)) (x : Item Num) (r : Result (List (Item Num)) FunctionFault) → before_elements (front ++ x ∷ []) r ≡ before_elements front (next_element x.labels (Ok x.value) r)
before_next_element front x (Ok rest) = ap (λ (es : List (Item Num)). Ok es) (append_assoc front (x ∷ []) rest)
before_next_element front x (Err e) = refl

-- keys put in order
bound_put : (o : Ordering) (bound first : Num) (rest more other : List Num) → more ≡ other → bound_placed o bound first rest more ≡ match_ordering o (bound ∷ first ∷ rest) (first ∷ rest) (first ∷ other)
bound_put Less bound first rest more other h = refl
bound_put Equal bound first rest more other h = refl
bound_put Greater bound first rest more other h = ap (λ (r : List Num). first ∷ r) h

bound_key : (known : List Num) (bound : Num) → with_bound known bound ≡ with_key order_of known bound
bound_key [] bound = refl
bound_key (first ∷ rest) bound = bound_put (order_of bound first) bound first rest (with_bound rest bound) (with_key order_of rest bound) (bound_key rest bound)

-- the sums of a histogram are its merged buckets
total_is : (bs : List Bucket) (t : Tally) → tally_of bs ≡ Some t → total_of (map count_in bs) ≡ t
total_is [] t h = cc
total_is (b ∷ bs) t h = cc

count_is : (buckets : List Bucket) (e : Num × Tally) → tally_of (of_key order_of bound_in e.0 buckets) ≡ Some e.1 → count_at buckets e.0 ≡ value_of e.1
count_is buckets e h = ap value_of (total_is (of_key order_of bound_in e.0 buckets) e.1 h)

counted_is : (buckets : List Bucket) (es : List (Num × Tally)) → ((i : ℕ) (e : Num × Tally) → slice_get es i ≡ Some e → tally_of (of_key order_of bound_in e.0 buckets) ≡ Some e.1)
    → counted_at (count_at buckets) (keys_of es) ≡ counted_entries es
counted_is buckets [] h = refl
counted_is buckets (e ∷ es) h = λ j. next_bucket e.0 (count_is buckets e (h 0 e refl) j) (counted_is buckets es (λ i x s. h (suc i) x s) j)

pub merged_is : (buckets : List Bucket) (m : BTreeMap Num Tally) → AreGathered order_of bound_in tally_of buckets m → merged buckets ≡ counted_entries m.entries
merged_is buckets m h =
    ap (counted_at (count_at buckets)) ((λ i. fold (λ known bound. bound_key known bound i) [] (map bound_in buckets)) ∙ sym h.known)
    ∙ counted_is buckets m.entries (λ i e s. sym (h.at e.0) ∙ btree_map_get_place order_is_total m i e.0 e.1 h.ordered s)

-- the histograms of a vector
buckets_are : (es : List (Item Num)) (bs : List Bucket) → buckets_of es ≡ Some bs → map bucket_of es ≡ bs
buckets_are [] bs h = cc
buckets_are (e ∷ es) bs h = cc

in_histogram : (items : List (Item Num)) (e : List Pair × List Bucket) → buckets_of (of_key labels_cmp histogram_labels e.0 (filter is_bucket items)) ≡ Some e.1 → buckets_in e.0 items ≡ e.1
in_histogram items e h =
    sym (λ i. map bucket_of (filter (λ x. tie (histogram_labels x) e.0 i) (filter is_bucket items)))
    ∙ buckets_are (of_key labels_cmp histogram_labels e.0 (filter is_bucket items)) e.1 h

valued_is : (phi : Num) (items : List (Item Num)) (es : List (List Pair × List Bucket)) → ((i : ℕ) (e : List Pair × List Bucket) → slice_get es i ≡ Some e → buckets_in e.0 items ≡ e.1)
    → elements_by (λ labels. histogram_value phi (buckets_in labels items)) (keys_of es) ≡ valued_entries phi es
valued_is phi items [] h = refl
valued_is phi items (e ∷ es) h = λ j. next_element e.0 (histogram_value phi (h 0 e refl j)) (valued_is phi items es (λ i x s. h (suc i) x s) j)

pub quantiles_are : (phi : Num) (items : List (Item Num)) (m : BTreeMap (List Pair) (List Bucket)) → AreGathered labels_cmp histogram_labels buckets_of (filter is_bucket items) m
    → histogram_quantiles phi items ≡ valued_entries phi m.entries
quantiles_are phi items m h =
    ap (elements_by (λ labels. histogram_value phi (buckets_in labels items))) ((λ i. fold (λ known labels. labels_key known labels i) [] (map histogram_labels (filter is_bucket items))) ∙ sym h.known)
    ∙ valued_is phi items m.entries (λ i e s. in_histogram items e (sym (h.at e.0) ∙ btree_map_get_place labels_total m i e.0 e.1 h.ordered s))

ok_vector : (r : Result (List (Item Num)) FunctionFault) (items : List (Item Num)) → IfOk r IsVector → r ≡ Ok items → IsVector items
ok_vector (Ok others) items h e = let same : others ≡ items = cc in subst (λ (xs : List (Item Num)). IsVector xs) same h
ok_vector (Err f) items h e = cc

-- a bucket that a call added
pub added_bucket : {E : Type 0} (front : List (Item Num)) (x : Item Num) (m n : BTreeMap (List Pair) (List Bucket)) (r : Result (Unit {0}) E) (bound : Num) (labels : List Pair)
    → bound_of x ≡ Some bound → labels ≡ histogram_labels x
    → OnOk r (Updates labels_cmp m n labels (Some (buckets_with (get labels_cmp m labels) (bucket bound x.value)))) → OnOk r (keys n ≡ with_key labels_cmp (keys m) labels) → OnOk r (IsOrdered labels_cmp n)
    → AreGathered labels_cmp histogram_labels buckets_of (filter is_bucket front) m → OnOk r (AreGathered labels_cmp histogram_labels buckets_of (filter is_bucket (front ++ x ∷ [])) n)
added_bucket front x m n (Ok u) bound labels found is updates known ordered h =
    bucket_more front x m n (buckets_with (get labels_cmp m (histogram_labels x)) (bucket_of x)) (ap is_some found) refl
    (subst (λ (q : List Pair). keys n ≡ with_key labels_cmp (keys m) q) is known)
    (subst (λ (b : Bucket). Updates labels_cmp m n (histogram_labels x) (Some (buckets_with (get labels_cmp m (histogram_labels x)) b))) (ap (λ (o : Option Num). bucket (unwrap_or o NaN) x.value) (sym found))
    (subst (λ (q : List Pair). Updates labels_cmp m n q (Some (buckets_with (get labels_cmp m q) (bucket bound x.value)))) is updates))
    ordered h
added_bucket front x m n (Err e) bound labels found is updates known ordered h = tt

-- the quantile of merged buckets
pub histogram_fault : (phi : Num) (buckets : List Bucket) (m : BTreeMap Num Tally) → AreGathered order_of bound_in tally_of buckets m → counted_entries m.entries ≡ Err too_wide → histogram_value phi buckets ≡ Err too_wide
histogram_fault phi buckets m h e = ap (quantile_of_merged phi) (merged_is buckets m h ∙ e)

pub histogram_is : (phi : Num) (buckets : List Bucket) (m : BTreeMap Num Tally) (merged_buckets : List Bucket) (r : Result Num TooWide) → AreGathered order_of bound_in tally_of buckets m
    → counted_entries m.entries ≡ Ok merged_buckets → quantile_in phi merged_buckets ≡ r → histogram_value phi buckets ≡ r
histogram_is phi buckets m merged_buckets r h e k = ap (quantile_of_merged phi) (merged_is buckets m h ∙ e) ∙ k

pub told_vectors : {V E : Type 0} (r : Result V E) (items : V → List (Item Num)) (told : E → Option FunctionFault) (a : Result (List (Item Num)) FunctionFault) → IfOk a IsVector
    → MatchResult r (λ v. a ≡ Ok (items v)) (λ e. IfSome (told e) (λ fault. a ≡ Err fault)) → IfOk r (λ v. IsVector (items v))
told_vectors (Ok v) items told a h e = ok_vector a (items v) h e
told_vectors (Err x) items told a h e = tt
