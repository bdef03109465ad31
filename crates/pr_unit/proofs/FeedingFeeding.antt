-- The series of a test, one after another.
use Rattle.std.proofs.Common.{◌≡◌, ◌≢◌, ℕ, zero, suc, ◌+◌, ◌*◌, ◌<◌, ◌≤◌, List, [], ◌∷◌, ◌++◌, map, take, length, slice_get, Option, Some, None, ◌⊎◌, inl, inr, refl, sym, ap, subst, ◌∙◌, arith}
use Rattle.std.specs.Prelude.{slice_set, replicate}
use Rattle.std.specs.List.{filter_map, cons_option}
use Rattle.pr_num.specs.declared.value.Point.{Point}
use Rattle.spec_tests.specs.pr_testfile.declared.inputs.input.InputSeries.{InputSeries}
use Rattle.pr_slide.specs.spec_history.declared.entry.Entry.{Entry}
use Rattle.pr_slide.specs.spec_history.Admission.{put_all}
use Rattle.pr_slide.specs.pr_head.private.Intake.{HasTaken, Series}
use Rattle.pr_slide.proofs.HeadIntakeIntake.{taken_then}
use Rattle.spec_tests.specs.pr_testfile.Series.{entries_at, entry_at, entry_by, point_at}
use Rattle.pr_unit.specs.declared.feeding.progress.Progress.{Progress}
use Rattle.pr_unit.specs.private.Feeding.{HasFed, IsAt, IsFeeding}

-- what one series has at a place
pub one_entry : (interval place time : ℕ) (s : InputSeries) (p : Point) → Some p ≡ point_at s.values place → time ≡ place * interval
    → (record { labels = s.labels; time = time; point = p }) ∷ [] ≡ filter_map (entry_at interval place) (s ∷ [])
one_entry interval place time s p is at =
    ap (λ (t : ℕ). cons_option (entry_by s.labels t (Some p)) []) at ∙ ap (λ (o : Option Point). cons_option (entry_by s.labels (place * interval) o) []) is

pub no_entry : (interval place : ℕ) (s : InputSeries) → None ≡ point_at s.values place → [] ≡ filter_map (entry_at interval place) (s ∷ [])
no_entry interval place s is = ap (λ (o : Option Point). cons_option (entry_by s.labels (place * interval) o) []) is

-- parts of a list
cons_joined : {X : Type 0} (o : Option X) (xs ys : List X) → cons_option o (xs ++ ys) ≡ cons_option o xs ++ ys
cons_joined None xs ys = refl
cons_joined (Some x) xs ys = refl

pub parts_kept : {X Y : Type 0} (f : X → Option Y) (xs ys : List X) → filter_map f (xs ++ ys) ≡ filter_map f xs ++ filter_map f ys
parts_kept f [] ys = refl
parts_kept {X} {Y} f (x ∷ xs) ys = ap (cons_option (f x)) (parts_kept f xs ys) ∙ cons_joined (f x) (filter_map f xs) (filter_map f ys)

take_next : {X : Type 0} (xs : List X) (k : ℕ) (x : X) → slice_get xs k ≡ Some x → take (suc k) xs ≡ take k xs ++ x ∷ []
take_next [] k x h = absurd cc
take_next (y ∷ xs) zero x h = let e : y ≡ x = cc in ap (λ z. z ∷ []) e
take_next (y ∷ xs) (suc k) x h = ap (λ l. y ∷ l) (take_next xs k x h)

one_on : (k : ℕ) → k + 1 ≡ suc k
one_on k = omega arith

take_there : {X : Type 0} (xs : List X) (k : ℕ) (x : X) → slice_get xs k ≡ Some x → take (k + 1) xs ≡ take k xs ++ x ∷ []
take_there xs k x h = ap (λ n. take n xs) (one_on k) ∙ take_next xs k x h

take_all : {X : Type 0} (xs : List X) (n : ℕ) → length xs ≤ n → take n xs ≡ xs
take_all [] zero h = refl
take_all [] (suc n) h = refl
take_all (x ∷ xs) zero h = absurd (omega arith)
take_all (x ∷ xs) (suc n) h = ap (λ l. x ∷ l) (take_all xs n (omega arith))

-- an element that is there
pub record IsThere (series : List InputSeries) (k : ℕ) : Type 0 where
  pub element : InputSeries
  pub there : slice_get series k ≡ Some element

pub there_within : (series : List InputSeries) (k : ℕ) → k < length series → IsThere series k
there_within [] k h = absurd (omega arith)
there_within (s ∷ series) zero h = record { element = s; there = refl }
there_within (s ∷ series) (suc k) h = let t = there_within series k (omega arith) in record { element = t.element; there = t.there }

pub taken_all : (a b : Series) (history : List Entry) (interval place n : ℕ) (series : List InputSeries) → length series ≤ n
    → HasTaken a b history (filter_map (entry_at interval place) (take n series)) → HasTaken a b history (entries_at interval series place)
unfolding entries_at
taken_all a b history interval place n series all h = subst (λ (l : List InputSeries). HasTaken a b history (filter_map (entry_at interval place) l)) (take_all series n all) h

pub taken_next : (a b c : Series) (history : List Entry) (f : InputSeries → Option Entry) (series : List InputSeries) (k : ℕ) (s : InputSeries) → slice_get series k ≡ Some s
    → HasTaken a b history (filter_map f (take k series)) → HasTaken b c (put_all history (filter_map f (take k series))) (filter_map f (s ∷ []))
    → HasTaken a c history (filter_map f (take (k + 1) series))
taken_next a b c history f series k s there p q =
    subst (HasTaken a c history) (sym (ap (filter_map f) (take_there series k s there) ∙ parts_kept f (take k series) (s ∷ [])))
    (taken_then a b c history (filter_map f (take k series)) (filter_map f (s ∷ [])) p q)

-- the first place
set_first : (n k : ℕ) (p q : Progress) → slice_get (replicate n p) k ≡ Some q → q ≡ p
set_first zero k p q h = absurd cc
set_first (suc n) zero p q h = cc
set_first (suc n) (suc k) p q h = set_first n k p q h

length_first : (n : ℕ) (p : Progress) → length (replicate n p) ≡ n
length_first zero p = refl
length_first (suc n) p = ap suc (length_first n p)

at_first : (s : InputSeries) (p : Progress) → p ≡ record { stretch = 0; within = 0 } → IsAt s.values 0 p
at_first s p e = subst (IsAt s.values 0) (sym e) (λ i. refl)

pub all_at_first : (series : List InputSeries) (each : List Progress) → each ≡ replicate (length series) (record { stretch = 0; within = 0 }) → HasFed series 0 each
all_at_first series each e = subst (HasFed series 0) (sym e) (record {
  paired = length_first (length series) (record { stretch = 0; within = 0 });
  at = λ k s p there is. at_first s p (set_first (length series) k (record { stretch = 0; within = 0 }) p is);
})

-- one series after another
set_here : {X : Type 0} (xs : List X) (i : ℕ) (x y : X) → slice_get (slice_set xs i y) i ≡ Some x → x ≡ y
set_here [] i x y h = absurd cc
set_here (z ∷ xs) zero x y h = cc
set_here (z ∷ xs) (suc i) x y h = set_here xs i x y h

set_other : {X : Type 0} (xs : List X) (i j : ℕ) (y : X) → j ≢ i → slice_get (slice_set xs i y) j ≡ slice_get xs j
set_other [] i j y h = refl
set_other (z ∷ xs) zero zero y h = absurd (h refl)
set_other (z ∷ xs) zero (suc j) y h = refl
set_other (z ∷ xs) (suc i) zero y h = refl
set_other (z ∷ xs) (suc i) (suc j) y h = set_other xs i j y (λ e. h (ap suc e))

pub mapped_all : {X Y : Type 0} (f : X → Y) (n : ℕ) (x : X) → map f (replicate n x) ≡ replicate n (f x)
mapped_all f zero x = refl
mapped_all f (suc n) x = ap (λ l. f x ∷ l) (mapped_all f n x)

pub mapped_set : {X Y : Type 0} (f : X → Y) (xs : List X) (i : ℕ) (y : X) → map f (slice_set xs i y) ≡ slice_set (map f xs) i (f y)
mapped_set f [] i y = refl
mapped_set f (x ∷ xs) zero y = refl
mapped_set f (x ∷ xs) (suc i) y = ap (λ l. f x ∷ l) (mapped_set f xs i y)

set_length : {X : Type 0} (xs : List X) (i : ℕ) (y : X) → length (slice_set xs i y) ≡ length xs
set_length [] i y = refl
set_length (z ∷ xs) zero y = refl
set_length (z ∷ xs) (suc i) y = ap suc (set_length xs i y)

same_or_not : (i j : ℕ) → (i ≡ j) ⊎ (i ≢ j)
same_or_not zero zero = inl refl
same_or_not zero (suc j) = inr (λ e. absurd (omega arith))
same_or_not (suc i) zero = inr (λ e. absurd (omega arith))
same_or_not (suc i) (suc j) = by (same_or_not i j) where
  by : (i ≡ j) ⊎ (i ≢ j) → (suc i ≡ suc j) ⊎ (suc i ≢ suc j)
  by (inl e) = inl (ap suc e)
  by (inr n) = inr (λ e. n (omega arith))

same_there : {X : Type 0} (xs : List X) (k : ℕ) (x y : X) → slice_get xs k ≡ Some x → slice_get xs k ≡ Some y → x ≡ y
same_there xs k x y h g = let e : Some x ≡ Some y = sym h ∙ g in cc

pub one_fed : (series : List InputSeries) (place n : ℕ) (each : List Progress) (s : InputSeries) (new : Progress) → IsFeeding series place n each → slice_get series n ≡ Some s
    → IsAt s.values (place + 1) new → IsFeeding series place (n + 1) (slice_set each n new)
one_fed series place n each s new h there at = record {
  paired = set_length each n new ∙ h.paired;
  done = λ k x p low is got. by_place k x p low is got (same_or_not k n);
  rest = λ k x p high is got. h.rest k x p (omega arith) is (sym (set_other each n k new (λ e. absurd (omega arith))) ∙ got);
}
  where
    by_place : (k : ℕ) (x : InputSeries) (p : Progress) → k < n + 1 → slice_get series k ≡ Some x → slice_get (slice_set each n new) k ≡ Some p → (k ≡ n) ⊎ (k ≢ n) → IsAt x.values (place + 1) p
    by_place k x p low is got (inl e) =
        let mine : x ≡ s = same_there series n x s (ap (slice_get series) (sym e) ∙ is) there in
        let now : p ≡ new = set_here each n p new (ap (slice_get (slice_set each n new)) (sym e) ∙ got) in
        subst (λ (y : InputSeries). IsAt y.values (place + 1) p) (sym mine) (subst (IsAt s.values (place + 1)) (sym now) at)
    by_place k x p low is got (inr n_) = h.done k x p (omega arith) is (sym (set_other each n k new n_) ∙ got)

pub begins_feeding : (series : List InputSeries) (place : ℕ) (each : List Progress) → HasFed series place each → IsFeeding series place 0 each
begins_feeding series place each h = record {
  paired = h.paired;
  done = λ k s p low is got. absurd (omega arith);
  rest = λ k s p high is got. h.at k s p is got;
}

within_list : {X : Type 0} (xs : List X) (k : ℕ) (x : X) → slice_get xs k ≡ Some x → k < length xs
within_list [] k x h = absurd cc
within_list (y ∷ xs) zero x h = omega arith
within_list (y ∷ xs) (suc k) x h = let m : k < length xs = within_list xs k x h in omega arith

pub all_fed : (series : List InputSeries) (place n : ℕ) (each : List Progress) → length series ≤ n → IsFeeding series place n each → HasFed series (place + 1) each
all_fed series place n each all h = record {
  paired = h.paired;
  at = λ k s p is got. let low : k < length series = within_list series k s is in h.done k s p (omega arith) is got;
}
