-- How a call ends whose last part ends so, where no earlier part was refused anything.
use Rattle.std.proofs.Common.{◌≡◌, ◌≢◌, ℕ, false, [], None, Result, Ok, Err, IsErrAnd, ◌⊎◌, inl, inr, arith, refl, sym, ◌∙◌, subst}
use Rattle.pr_outside.specs.Causes.{Rose, IsCalm}
use Rattle.pr_outside.specs.Courses.{IsInTime, GoesOn}
use Rattle.pr_outside.specs.declared.course.Course.{Course}
use Rattle.pr_outside.specs.declared.course.Course.TheVariants.{Going, Late}
use Rattle.pr_outside.specs.Meant.{Input, Output}
use Rattle.pr_outside.specs.Ends.{AtInput, Ends, KnowsLength, ReadEnds, StopsBy, WriteEnds, no_row}
use Rattle.pr_outside.specs.Outside.{Outside, AreCalm, NoneRose}
use Rattle.pr_outside.specs.Status.{IsTooLong}
use Rattle.pr_outside.specs.declared.status.status.Stop.{Stop}
use Rattle.pr_outside.specs.declared.status.status.Stop.TheVariants.{Read, Load, Store, BadRow, Write, Memory, TooLong}

-- some objects of which nothing is told
abbrev pub quiet : Outside
quiet = record {
  input = record { left = None; taken = 0; faults = 0; course = Going };
  files = record { content = λ name. None; calls = 0; faults = 0; course = Going };
  store = record { rows = None; count = 0; sound = false; paths = []; faults = 0 };
  out = record { taken = None; faults = 0; course = Going };
}

pub stops_on : (T U : Type 0) (bad : ℕ → Type 0) (long : Type 0) (a b c : Outside) (e : Stop) → NoneRose a b → StopsBy {T = U} bad long b c (Err e)
    → StopsBy {T = T} bad long a c (Err e)
stops_on T U bad long a b c Read n p = (subst (λ (k : ℕ). Rose k c.input.faults) n.0 p.0, p.1 ∙ n.1, p.2 ∙ n.2, p.3 ∙ n.3)
stops_on T U bad long a b c Load n p = (p.0 ∙ n.0, subst (λ (k : ℕ). Rose k c.files.faults) n.1 p.1, p.2 ∙ n.2, p.3 ∙ n.3)
stops_on T U bad long a b c Store n p = (p.0 ∙ n.0, p.1 ∙ n.1, subst (λ (k : ℕ). Rose k c.store.faults) n.2 p.2, p.3 ∙ n.3)
stops_on T U bad long a b c (BadRow index) n p = ((p.0.0 ∙ n.0, p.0.1 ∙ n.1, p.0.2 ∙ n.2, p.0.3 ∙ n.3), p.1)
stops_on T U bad long a b c Write n p = (p.0 ∙ n.0, p.1 ∙ n.1, p.2 ∙ n.2, subst (λ (k : ℕ). Rose k c.out.faults) n.3 p.3)
stops_on T U bad long a b c Memory n p = (p.0 ∙ n.0, p.1 ∙ n.1, p.2 ∙ n.2, p.3 ∙ n.3)
stops_on T U bad long a b c TooLong n p = ((p.0.0 ∙ n.0, p.0.1 ∙ n.1, p.0.2 ∙ n.2, p.0.3 ∙ n.3), p.1)

going_late : Going ≢ Late
going_late e = absurd (cc)

pub in_time_same : (a : Course) → IsInTime a a
in_time_same a = λ g l. going_late (sym g ∙ l)

pub in_time_on : (a b c : Course) → GoesOn a b → IsInTime b c → IsInTime a c
in_time_on a b c g t = λ e. t (g e)

-- The first part was refused nothing and left the calls of the files and of the output going on,
-- and the last part ends so.
pub ends_on : (T U : Type 0) (bad : ℕ → Type 0) (long : Type 0) (a b c : Outside) (r : Result T Stop) (e : Stop) → IsErrAnd r (λ y. y ≡ e) → NoneRose a b
    → IsInTime a.input.course c.input.course → GoesOn a.files.course b.files.course → GoesOn a.out.course b.out.course
    → Ends {T = U} bad long b c (Err e) → Ends {T = T} bad long a c r
ends_on T U bad long a b c (Ok x) e h n ti gf go p = absurd h
ends_on T U bad long a b c (Err y) e h n ti gf go p = subst (λ (s : Stop). Ends {T = T} bad long a c (Err s)) (sym h) (record {
  cause = stops_on T U bad long a b c e n p.cause;
  input = ti;
  files = in_time_on a.files.course b.files.course c.files.course gf p.files;
  out = in_time_on a.out.course b.out.course c.out.course go p.out;
})

-- Where no call was refused, and no row is bad, only want of memory stops anything, or an input that
-- is too long.
no_rise : (before now : ℕ) → IsCalm before now → Rose before now → ⊥
no_rise before now calm rose = omega (arith, calm.same, calm.below, rose)

pub calm_stop : (T : Type 0) (long : Type 0) (before now : Outside) (e : Stop) → AreCalm before now → StopsBy {T = T} no_row long before now (Err e)
    → (e ≡ Memory) ⊎ ((e ≡ TooLong) × long)
calm_stop T long before now Read calm c = absurd (no_rise before.input.faults now.input.faults calm.input c.0)
calm_stop T long before now Load calm c = absurd (no_rise before.files.faults now.files.faults calm.files c.1)
calm_stop T long before now Store calm c = absurd (no_rise before.store.faults now.store.faults calm.store c.2)
calm_stop T long before now (BadRow index) calm c = absurd c.1
calm_stop T long before now Write calm c = absurd (no_rise before.out.faults now.out.faults calm.out c.3)
calm_stop T long before now Memory calm c = inl refl
calm_stop T long before now TooLong calm c = inr (refl, c.1)

-- A write stops by a refusal or for want of memory.
zero_rose : Rose 0 0 → ⊥
zero_rose r = omega (arith, r)

pub write_stop : (T : Type 0) (x y : Output) (e : Stop) → WriteEnds {T = T} x y (Err e) → (e ≡ Write) ⊎ (e ≡ Memory)
write_stop T x y Read w = absurd (zero_rose (w quiet).cause.0)
write_stop T x y Load w = absurd (zero_rose (w quiet).cause.1)
write_stop T x y Store w = absurd (zero_rose (w quiet).cause.2)
write_stop T x y (BadRow index) w = absurd (w quiet).cause.1
write_stop T x y Write w = inl refl
write_stop T x y Memory w = inr refl
write_stop T x y TooLong w = absurd (w quiet).cause.1

-- what is so after either holds after a write that was stopped
pub written_by : (T U : Type 0) (P : Result U Stop → Type 0) (x y : Output) (r : Result U Stop) (e : Stop) → IsErrAnd r (λ s. s ≡ e) → WriteEnds {T = T} x y (Err e)
    → P (Err Write) → P (Err Memory) → P r
written_by T U P x y (Ok v) e h w p q = absurd h
written_by T U P x y (Err s) e h w p q = elim (write_stop T x y e w) [
  | inl is ↦ subst (λ (z : Stop). P (Err z)) (sym (h ∙ is)) p
  | inr is ↦ subst (λ (z : Stop). P (Err z)) (sym (h ∙ is)) q
]

-- want of memory, where nothing was asked of any object
pub ends_memory : (T : Type 0) (bad : ℕ → Type 0) (long : Type 0) (a : Outside) → Ends {T = T} bad long a a (Err Memory)
ends_memory T bad long a = record {
  cause = (refl, refl, refl, refl);
  input = in_time_same a.input.course;
  files = in_time_same a.files.course;
  out = in_time_same a.out.course;
}

-- an input that is too long by one measure is so by another
pub ends_longer : (T : Type 0) (long longer : Type 0) (a b : Outside) (e : Stop) → (long → longer) → Ends {T = T} no_row long a b (Err e)
    → Ends {T = T} no_row longer a b (Err e)
ends_longer T long longer a b e f p = record { cause = more e p.cause; input = p.input; files = p.files; out = p.out }
  where
    more : (e : Stop) → StopsBy {T = T} no_row long a b (Err e) → StopsBy {T = T} no_row longer a b (Err e)
    more Read c = c
    more Load c = c
    more Store c = c
    more (BadRow index) c = c
    more Write c = c
    more Memory c = c
    more TooLong c = (c.0, f c.1)

-- what reads nothing is never too long
pub ends_more : (T : Type 0) (long : Type 0) (a b : Outside) (e : Stop) → Ends {T = T} no_row ⊥ a b (Err e) → Ends {T = T} no_row long a b (Err e)
ends_more T long a b e p = ends_longer T ⊥ long a b e (λ never. absurd never) p

-- a read that was stopped since the input is too long says so
pub known_stop : (T U : Type 0) (first x y : Input) (r : Result U Stop) (e : Stop) → IsErrAnd r (λ s. s ≡ e)
    → ReadEnds {T = T} (IsTooLong first y) x y (Err e) → KnowsLength first y r
known_stop T U first x y (Ok v) e h w = absurd h
known_stop T U first x y (Err s) e h w = subst (λ (z : Stop). KnowsLength {T = U} first y (Err z)) (sym h) (by e w)
  where
    by : (e : Stop) → ReadEnds {T = T} (IsTooLong first y) x y (Err e) → KnowsLength {T = U} first y (Err e)
    by Read w = tt
    by Load w = tt
    by Store w = tt
    by (BadRow index) w = tt
    by Write w = tt
    by Memory w = tt
    by TooLong w = (w quiet).cause.1

-- Calls of one object alone.

pub calm_read : (T : Type 0) (long : Type 0) (x y : Input) (v : T) → ReadEnds {T = T} long x y (Ok v) → y.faults ≡ x.faults
calm_read T long x y v e = (e quiet).cause.0

pub calm_write : (T : Type 0) (x y : Output) (v : T) → WriteEnds {T = T} x y (Ok v) → y.faults ≡ x.faults
calm_write T x y v e = (e quiet).cause.3

-- the input was read, and what was called was not refused
pub read_done : (T : Type 0) (long : Type 0) (x y : Input) (v : T) → y.faults ≡ x.faults → IsInTime x.course y.course → ReadEnds {T = T} long x y (Ok v)
read_done T long x y v calm t = λ others. record { cause = (calm, refl, refl, refl); input = t; files = λ e. e; out = λ e. e }

-- the last read stopped it, by a cause that is one of all that is read
pub read_on : (T U : Type 0) (long longer : Type 0) (x y z : Input) (r : Result T Stop) (e : Stop) → IsErrAnd r (λ s. s ≡ e) → y.faults ≡ x.faults
    → IsInTime x.course z.course → (long → longer) → ReadEnds {T = U} long y z (Err e) → ReadEnds {T = T} longer x z r
read_on T U long longer x y z r e h calm t f p = λ others.
    let b : Outside = record others { input = y } in
    let c : Outside = record others { input = z } in
    ends_on T U no_row longer (record others { input = x }) b c r e h (calm, refl, refl, refl) t (λ going. going) (λ going. going)
    (ends_longer U long longer b c e f (p others))

-- want of memory, after reads that were not refused
pub read_memory : (T : Type 0) (long : Type 0) (x y : Input) (r : Result T Stop) → IsErrAnd r (λ s. s ≡ Memory) → y.faults ≡ x.faults → IsInTime x.course y.course
    → ReadEnds {T = T} long x y r
read_memory T long x y (Ok v) h calm t = absurd h
read_memory T long x y (Err s) h calm t = λ others.
    subst (λ (k : Stop). Ends {T = T} no_row long (record others { input = x }) (record others { input = y }) (Err k)) (sym h) (record {
      cause = (calm, refl, refl, refl);
      input = t;
      files = in_time_same others.files.course;
      out = in_time_same others.out.course;
    })

-- a read stops by a refusal, for want of memory, or since the input is too long
pub read_stop : (T : Type 0) (long : Type 0) (x y : Input) (e : Stop) → ReadEnds {T = T} long x y (Err e) → (e ≡ Read) ⊎ ((e ≡ Memory) ⊎ (e ≡ TooLong))
read_stop T long x y Read w = inl refl
read_stop T long x y Load w = absurd (zero_rose (w quiet).cause.1)
read_stop T long x y Store w = absurd (zero_rose (w quiet).cause.2)
read_stop T long x y (BadRow index) w = absurd (w quiet).cause.1
read_stop T long x y Write w = absurd (zero_rose (w quiet).cause.3)
read_stop T long x y Memory w = inr (inl refl)
read_stop T long x y TooLong w = inr (inr refl)

-- what is so after each holds after reads that were stopped, where `here` is what is known where the
-- input stopped them
pub read_by : (T U : Type 0) (P : Result U Stop → Type 0) (long here : Type 0) (x y : Input) (r : Result U Stop) (e : Stop) → IsErrAnd r (λ s. s ≡ e)
    → ReadEnds {T = T} long x y (Err e) → AtInput {T = T} (Err e) here → (here → P (Err Read)) → P (Err Memory) → (here → P (Err TooLong)) → P r
read_by T U P long here x y (Ok v) e h w at p q l = absurd h
read_by T U P long here x y (Err s) e h w at p q l = elim (read_stop T long x y e w) [
  | inl is ↦ subst (λ (z : Stop). P (Err z)) (sym (h ∙ is)) (p (subst (λ (z : Stop). AtInput {T = T} (Err z) here) is at))
  | inr other ↦ elim (other) [
    | inl is ↦ subst (λ (z : Stop). P (Err z)) (sym (h ∙ is)) q
    | inr is ↦ subst (λ (z : Stop). P (Err z)) (sym (h ∙ is)) (l (subst (λ (z : Stop). AtInput {T = T} (Err z) here) is at))
  ]
]

-- the only write that was refused, or that had not the memory, handed on
pub write_on : (T U : Type 0) (x y : Output) (r : Result T Stop) (e : Stop) → IsErrAnd r (λ s. s ≡ e) → WriteEnds {T = U} x y (Err e) → WriteEnds {T = T} x y r
write_on T U x y (Ok v) e h p = absurd h
write_on T U x y (Err s) e h p = λ others.
    let a : Outside = record others { out = x } in
    let c : Outside = record others { out = y } in
    let q = p others in
    subst (λ (k : Stop). Ends {T = T} no_row ⊥ a c (Err k)) (sym h) (record {
      cause = stops_on T U no_row ⊥ a a c e (refl, refl, refl, refl) q.cause;
      input = q.input;
      files = q.files;
      out = q.out;
    })

pub write_memory : (T : Type 0) (x : Output) (r : Result T Stop) → IsErrAnd r (λ s. s ≡ Memory) → WriteEnds {T = T} x x r
write_memory T x (Ok v) h = absurd h
write_memory T x (Err s) h = λ others. subst (λ (k : Stop). Ends {T = T} no_row ⊥ (record others { out = x }) (record others { out = x }) (Err k)) (sym h)
    (ends_memory T no_row ⊥ (record others { out = x }))
