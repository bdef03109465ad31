-- What is seen on the samples of each family, at one of them.
use Rattle.std.proofs.Common.{◌≡◌, refl, sym, ap, ◌∙◌, subst, ℕ, ◌<◌, List, [], ◌∷◌, length, Bool, true, false, ◌||◌, arith, ◌⊎◌, inl, inr, ◌++◌, ◌+◌, suc, drop, map}
use Rattle.std.specs.Prelude.{◌==◌, if◌then◌else◌, set, get_or, replicate}
use Rattle.std.proofs.lemmas.Bool.Decides.{nat_tests}
use Rattle.std.proofs.lemmas.List.{get_or-set_same, get_or-set_other, length-set, length-replicate, get_or-replicate}
use Rattle.std.proofs.lemmas.Bool.{cases_eq}
use Rattle.pr_expo.specs.declared.exposition.Line.{Line}
use Rattle.pr_expo.specs.declared.marks.Marks.{Marks}
use Rattle.pr_expo.specs.declared.exposition.Family.{Family}
use Rattle.pr_expo.specs.declared.exposition.LintKind.{LintKind}
use Rattle.pr_expo.specs.declared.exposition.Problem.{Problem}
use Rattle.pr_expo.specs.Lint.{problem, problems_of, problems_from, kinds_by, marks_of, lines_of_family}
use Rattle.pr_expo.specs.private.Marking.{no_marks, mark_of, both, marked, marks_after}

or_assoc : (a b c : Bool) → ((a || b) || c) ≡ (a || (b || c))
or_assoc true b c = refl
or_assoc false b c = refl

both_assoc : (a b c : Marks) → both (both a b) c ≡ both a (both b c)
both_assoc a b c = rw (or_assoc a.le b.le c.le, or_assoc a.quantile b.quantile c.quantile, or_assoc a.wide b.wide c.wide) refl

pub or_false : (a : Bool) → (a || false) ≡ a
or_false true = refl
or_false false = refl

both_none : (a : Marks) → both a (marks_of []) ≡ a
both_none a = rw (or_false a.le, or_false a.quantile, or_false a.wide) refl

same_test : (a b : ℕ) → a ≡ b → (a == b) ≡ true
same_test a b e = grind (arith, nat_tests)

other_test : (a b : ℕ) → (a ≡ b → ⊥) → (a == b) ≡ false
other_test a b n = grind (arith, nat_tests)

-- at a family's place they are those of its samples
marks_step : (ms : List Marks) (l : Line) (ls : List Line) (i : ℕ) → i < length ms → (l.family ≡ i) ⊎ (l.family ≡ i → ⊥) →
    both (get_or (marked ms l) i no_marks) (marks_of (lines_of_family i ls)) ≡ both (get_or ms i no_marks) (marks_of (lines_of_family i (l ∷ ls)))
marks_step ms l ls i h (inl e) =
    ap (λ m. both m (marks_of (lines_of_family i ls))) (ap (λ k. get_or (set ms k (both (get_or ms k no_marks) (mark_of l))) i no_marks) e ∙ get_or-set_same ms i _ no_marks h)
    ∙ both_assoc (get_or ms i no_marks) (mark_of l) (marks_of (lines_of_family i ls))
    ∙ ap (λ x. both (get_or ms i no_marks) (marks_of x)) (sym (ap (λ b. if b then l ∷ lines_of_family i ls else lines_of_family i ls) (same_test _ _ e)))
marks_step ms l ls i h (inr n) =
    ap (λ m. both m (marks_of (lines_of_family i ls))) (get_or-set_other ms l.family i _ no_marks (λ e. n (sym e)))
    ∙ ap (λ x. both (get_or ms i no_marks) (marks_of x)) (sym (ap (λ b. if b then l ∷ lines_of_family i ls else lines_of_family i ls) (other_test _ _ n)))

pub marks_at : (ms : List Marks) (ls : List Line) (i : ℕ) → i < length ms →
    get_or (marks_after ms ls) i no_marks ≡ both (get_or ms i no_marks) (marks_of (lines_of_family i ls))
marks_at ms [] i h = sym (both_none (get_or ms i no_marks))
marks_at ms (l ∷ ls) i h =
    marks_at (marked ms l) ls i (subst (λ n. i < n) (sym (length-set ms l.family _)) h) ∙ marks_step ms l ls i h (cases_eq l.family i)

marks_length : (ms : List Marks) (ls : List Line) → length (marks_after ms ls) ≡ length ms
marks_length ms [] = refl
marks_length ms (l ∷ ls) = marks_length (marked ms l) ls ∙ length-set ms l.family _

pub marks_enough : (n : ℕ) (ls : List Line) → length (marks_after (replicate n no_marks) ls) ≡ n
marks_enough n ls = marks_length (replicate n no_marks) ls ∙ length-replicate n no_marks

pub marks_of_place : (n : ℕ) (ls : List Line) (i : ℕ) → i < n → get_or (marks_after (replicate n no_marks) ls) i no_marks ≡ marks_of (lines_of_family i ls)
marks_of_place n ls i h =
    marks_at (replicate n no_marks) ls i (subst (λ k. i < k) (sym (length-replicate n no_marks)) h)
    ∙ ap (λ m. both m (marks_of (lines_of_family i ls))) (get_or-replicate n i no_marks no_marks h)

append_both : (xs ys zs : List Problem) → (xs ++ ys) ++ zs ≡ xs ++ (ys ++ zs)
append_both [] ys zs = refl
append_both (x ∷ xs) ys zs = ap (λ r. x ∷ r) (append_both xs ys zs)

more : (i : ℕ) → suc i ≡ i + 1
more i = omega arith

-- one family more
pub family_done : (families rest : List Family) (lines : List Line) (i : ℕ) (f : Family) (marks : List Marks) (mark : Marks) (kinds : List LintKind) (done now whole : List Problem) →
    drop i families ≡ f ∷ rest → marks ≡ marks_after (replicate (length families) no_marks) lines → i < length families →
    mark ≡ get_or marks i no_marks → kinds ≡ kinds_by f mark → now ≡ done ++ map (problem f.name) kinds →
    done ++ problems_from lines i (drop i families) ≡ whole → now ++ problems_from lines (i + 1) rest ≡ whole
family_done families rest lines i f marks mark kinds done now whole front are in_range is put said h =
    let seen : mark ≡ marks_of (lines_of_family i lines) = is ∙ ap (λ m. get_or m i no_marks) are ∙ marks_of_place (length families) lines i in_range in
    ap (λ n. n ++ problems_from lines (i + 1) rest) (said ∙ ap (λ k. done ++ map (problem f.name) k) (put ∙ ap (kinds_by f) seen))
    ∙ append_both done (problems_of lines i f) (problems_from lines (i + 1) rest)
    ∙ ap (λ k. done ++ (problems_of lines i f ++ problems_from lines k rest)) (sym (more i))
    ∙ ap (λ fs. done ++ problems_from lines i fs) (sym front) ∙ h
