-- How calls end of which a later one is the last.
use Rattle.std.proofs.Common.{◌≡◌, ℕ, Bool, Result, Ok, Err, IsErrAnd, sym, ◌∙◌, subst}
use Rattle.pr_outside.specs.Ends.{AtInput, Ends, KnowsLength, at_input, place_of, StopsBy}
use Rattle.pr_outside.specs.Courses.{GoesOn, IsInTime}
use Rattle.pr_outside.specs.Outside.{NoneRose, Outside}
use Rattle.pr_outside.proofs.Ended.{in_time_on, stops_on}
use Rattle.pr_outside.specs.declared.status.status.Stop.{Stop}
use Rattle.pr_outside.specs.declared.status.status.Stop.TheVariants as stop
use Rattle.pr_outside.specs.Meant.{Input}
use Rattle.pr_outside.specs.declared.status.status.Stop.TheVariants as stop

-- what is bad or too long by one measure is so by another
pub ends_wider : (T : Type 0) (bad worse : ℕ → Type 0) (long longer : Type 0) (a b : Outside) (r : Result T Stop) → ((index : ℕ) → bad index → worse index) → (long → longer)
    → Ends bad long a b r → Ends worse longer a b r
ends_wider T bad worse long longer a b r f l e = record { cause = more r e.cause; input = e.input; files = e.files; out = e.out }
  where
    more : (r : Result T Stop) → StopsBy bad long a b r → StopsBy worse longer a b r
    more (Ok x) c = c
    more (Err stop.Read) c = c
    more (Err stop.Load) c = c
    more (Err stop.Store) c = c
    more (Err (stop.BadRow index)) c = (c.0, f index c.1)
    more (Err stop.Write) c = c
    more (Err stop.Memory) c = c
    more (Err stop.TooLong) c = (c.0, l c.1)

pub cut_of : (T : Type 0) (P : Type 0) (s : Stop) → AtInput {T = T} (Err s) P → place_of {T = Bool} (Err s) ≡ at_input → P
cut_of T P stop.Read p e = p
cut_of T P stop.Load p e = absurd (cc)
cut_of T P stop.Store p e = absurd (cc)
cut_of T P (stop.BadRow index) p e = absurd (cc)
cut_of T P stop.Write p e = absurd (cc)
cut_of T P stop.Memory p e = absurd (cc)
cut_of T P stop.TooLong p e = p

pub bad_of : (T : Type 0) (bad : ℕ → Type 0) (long : Type 0) (a b : Outside) (s : Stop) (index : ℕ) → s ≡ stop.BadRow index → Ends {T = T} bad long a b (Err s) → bad index
bad_of T bad long a b s index is e = (subst (λ (z : Stop). StopsBy {T = T} bad long a b (Err z)) is e.cause).1

-- what reads no input is not stopped by its length
pub known_answer : (T U : Type 0) (bad : ℕ → Type 0) (first last : Input) (a b : Outside) (r : Result U Stop) (s : Stop) → IsErrAnd r (λ y. y ≡ s)
    → Ends {T = T} bad ⊥ a b (Err s) → KnowsLength first last r
known_answer T U bad first last a b (Ok x) s h e = absurd h
known_answer T U bad first last a b (Err y) s h e = subst (λ (z : Stop). KnowsLength {T = U} first last (Err z)) (sym h) (by s e)
  where
    by : (s : Stop) → Ends {T = T} bad ⊥ a b (Err s) → KnowsLength {T = U} first last (Err s)
    by stop.Read e = tt
    by stop.Load e = tt
    by stop.Store e = tt
    by (stop.BadRow index) e = tt
    by stop.Write e = tt
    by stop.Memory e = tt
    by stop.TooLong e = absurd e.cause.1

-- a bad row is no refused call
pub calm_of : (T : Type 0) (bad : ℕ → Type 0) (long : Type 0) (a b : Outside) (s : Stop) (index : ℕ) → s ≡ stop.BadRow index → Ends {T = T} bad long a b (Err s) → NoneRose a b
calm_of T bad long a b s index is e = (subst (λ (z : Stop). StopsBy {T = T} bad long a b (Err z)) is e.cause).0

pub row_ends : (T : Type 0) (bad : ℕ → Type 0) (long : Type 0) (a b : Outside) (s : Stop) (index : ℕ) → s ≡ stop.BadRow index → NoneRose a b → bad index
    → IsInTime a.input.course b.input.course → IsInTime a.files.course b.files.course → IsInTime a.out.course b.out.course → Ends {T = T} bad long a b (Err s)
row_ends T bad long a b s index is calm worse input files out =
    subst (λ (z : Stop). Ends {T = T} bad long a b (Err z)) (sym is) (record { cause = (calm, worse); input = input; files = files; out = out })

-- the same end of another call
pub ends_as : (T U : Type 0) (bad : ℕ → Type 0) (long : Type 0) (a b : Outside) (s : Stop) → Ends {T = T} bad long a b (Err s) → Ends {T = U} bad long a b (Err s)
ends_as T U bad long a b s e = record { cause = same s e.cause; input = e.input; files = e.files; out = e.out }
  where
    same : (s : Stop) → StopsBy {T = T} bad long a b (Err s) → StopsBy {T = U} bad long a b (Err s)
    same stop.Read c = c
    same stop.Load c = c
    same stop.Store c = c
    same (stop.BadRow index) c = c
    same stop.Write c = c
    same stop.Memory c = c
    same stop.TooLong c = c

-- the files were not asked for in the last part
pub ends_late : (T U : Type 0) (bad : ℕ → Type 0) (long : Type 0) (a b c : Outside) (r : Result T Stop) (e : Stop) → IsErrAnd r (λ y. y ≡ e) → NoneRose a b
    → IsInTime a.input.course c.input.course → IsInTime a.files.course c.files.course → GoesOn a.out.course b.out.course
    → Ends {T = U} bad long b c (Err e) → Ends {T = T} bad long a c r
ends_late T U bad long a b c (Ok x) e h n ti tf go p = absurd h
ends_late T U bad long a b c (Err y) e h n ti tf go p = subst (λ (s : Stop). Ends {T = T} bad long a c (Err s)) (sym h) (record {
  cause = stops_on T U bad long a b c e n p.cause;
  input = ti;
  files = tf;
  out = in_time_on a.out.course b.out.course c.out.course go p.out;
})

pub ends_behind : {T : Type 0} (bad : ℕ → Type 0) (long : Type 0) (a b c : Outside) (r : Result T Stop) → NoneRose a b → IsInTime a.input.course c.input.course
    → GoesOn a.files.course b.files.course → GoesOn a.out.course b.out.course → Ends bad long b c r → Ends bad long a c r
ends_behind {T} bad long a b c (Ok x) n ti gf go p = record {
  cause = (p.cause.0 ∙ n.0, p.cause.1 ∙ n.1, p.cause.2 ∙ n.2, p.cause.3 ∙ n.3);
  input = ti;
  files = λ e. p.files (gf e);
  out = λ e. p.out (go e);
}
ends_behind {T} bad long a b c (Err s) n ti gf go p = record {
  cause = stops_on T T bad long a b c s n p.cause;
  input = ti;
  files = in_time_on a.files.course b.files.course c.files.course gf p.files;
  out = in_time_on a.out.course b.out.course c.out.course go p.out;
}
