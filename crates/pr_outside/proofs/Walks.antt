-- A walk over names, one after another.
use Rattle.std.proofs.Common.{◌≡◌, ℕ, suc, ◌+◌, ◌<◌, ◌≤◌, List, [], ◌∷◌, Result, Ok, Err, IsErrAnd, refl, sym, ap, ◌∙◌, subst, length, arith}
use Rattle.pr_outside.specs.Meant.{Content, Folder}
use Rattle.pr_outside.specs.private.Schedule.{one_more}
use Rattle.pr_outside.specs.declared.files.FilesError.{FilesError}
use Rattle.pr_outside.specs.declared.files.FilesError.TheVariants as files
use Rattle.pr_outside.specs.Asks.{Asks, AsksBy}
use Rattle.pr_outside.specs.Ends.{LoadEnds, no_row, stop_of_files}
use Rattle.pr_outside.specs.declared.status.status.Stop.{Stop}
use Rattle.pr_outside.specs.declared.status.status.Stop.TheVariants.{Read, Load, Store, BadRow, Write, Memory, TooLong}
use Rattle.pr_outside.specs.Outside.{Held, AreTold, Outside}
use Rattle.pr_outside.proofs.Ended.{ends_on, in_time_same}
use Rattle.pr_outside.specs.Loading.{Holding, Made, goes_on, stops_at, Walk, holding_by, after_ask, walked, walk, Stands, AreAsked}

one_asked : (a b : ℕ) → b ≡ one_more a → Asks a b 1
one_asked a b e = (omega (arith, e), omega (arith, e))

asks_on : (a b c n m : ℕ) → Asks a b n → Asks b c m → Asks a c (n + m)
asks_on a b c n m p q = (omega (arith, p.0, q.0), omega (arith, p.0, p.1, q.0, q.1))

pub starts : {N A : Type 0} (file : N → List ℕ) (make : N → A → Holding → Made A) (held : Held) (names : List N) (first : A) (content : Content) (calls : ℕ)
    → AreTold content held (walk file make held names first).asks → Stands file make held names names first first content calls calls
starts file make held names first content calls told = record {
  done = 0;
  asked = (omega arith, omega arith);
  made = refl;
  count = omega arith;
  told = told;
}

-- the next name goes on
pub goes : {N A : Type 0} (file : N → List ℕ) (make : N → A → Holding → Made A) (held : Held) (names rest : List N) (name : N) (first now next : A) (content : Content)
    (before calls after : ℕ) → Stands file make held names (name ∷ rest) first now content before calls → make name now (holding_by (held (file name))) ≡ goes_on next
    → after ≡ one_more calls → Stands file make held names rest first next content before after
goes file make held names rest name first now next content before calls after s e one =
    let w : walk file make held (name ∷ rest) now ≡ after_ask (file name) (walk file make held rest next) =
    ap (λ (m : Made _). after_ask (file name) (walked (walk file make held rest) m)) e in
    record {
      done = s.done + 1;
      asked = asks_on before calls after s.done 1 s.asked (one_asked calls after one);
      made = s.made ∙ ap (λ (x : Walk _). x.made) w;
      count = omega (arith, s.count, ap (λ (x : Walk _). length x.asks) w);
      told = (subst (λ (x : Walk _). AreTold content held x.asks) w s.told).1;
    }

-- the next name is the last one
pub stops : {N A : Type 0} (file : N → List ℕ) (make : N → A → Holding → Made A) (held : Held) (names rest : List N) (name : N) (first now next : A) (content : Content)
    (before calls after : ℕ) → Stands file make held names (name ∷ rest) first now content before calls → make name now (holding_by (held (file name))) ≡ stops_at next
    → after ≡ one_more calls
    → (next ≡ (walk file make held names first).made) × Asks before after (length (walk file make held names first).asks)
stops file make held names rest name first now next content before calls after s e one =
    let w : walk file make held (name ∷ rest) now ≡ after_ask (file name) (record { made = next; asks = [] }) =
    ap (λ (m : Made _). after_ask (file name) (walked (walk file make held rest) m)) e in
    let n : length (walk file make held names first).asks ≡ s.done + 1 = omega (arith, s.count, ap (λ (x : Walk _). length x.asks) w) in
    (sym (s.made ∙ ap (λ (x : Walk _). x.made) w), subst (Asks before after) (sym n) (asks_on before calls after s.done 1 s.asked (one_asked calls after one)))

-- no name is left
pub ended : {N A : Type 0} (file : N → List ℕ) (make : N → A → Holding → Made A) (held : Held) (names : List N) (first now : A) (content : Content) (before calls : ℕ)
    → Stands file make held names [] first now content before calls
    → (now ≡ (walk file make held names first).made) × Asks before calls (length (walk file make held names first).asks)
ended file make held names first now content before calls s =
    let n : length (walk file make held names first).asks ≡ s.done = omega (arith, s.count) in
    (sym s.made, subst (Asks before calls) (sym n) s.asked)

-- the next name was asked for, which is one of all
pub next_asked : {N A : Type 0} (file : N → List ℕ) (make : N → A → Holding → Made A) (held : Held) (names rest : List N) (name : N) (first now : A) (content : Content)
    (before calls after : ℕ) → Stands file make held names (name ∷ rest) first now content before calls → after ≡ one_more calls
    → (n : ℕ) × Asks before after n × (0 < n) × (n ≤ length (walk file make held names first).asks)
next_asked file make held names rest name first now content before calls after s one =
    (s.done + 1, asks_on before calls after s.done 1 s.asked (one_asked calls after one), omega arith, omega (arith, s.count))

-- all files are asked for: none was so far
pub none_asked : (calls all : ℕ) → AreAsked calls calls all all
none_asked calls all = record { done = 0; asked = (omega arith, omega arith); count = omega arith }

-- the next one was
pub one_more_asked : (before calls after all rest : ℕ) → AreAsked before calls all (suc rest) → after ≡ one_more calls → AreAsked before after all rest
one_more_asked before calls after all rest p one = record {
  done = p.done + 1;
  asked = asks_on before calls after p.done 1 p.asked (one_asked calls after one);
  count = omega (arith, p.count);
}

pub next_of_all : (before calls after all rest : ℕ) → AreAsked before calls all (suc rest) → after ≡ one_more calls
    → (n : ℕ) × Asks before after n × (0 < n) × (n ≤ all)
next_of_all before calls after all rest p one =
    (p.done + 1, asks_on before calls after p.done 1 p.asked (one_asked calls after one), omega arith, omega (arith, p.count))

-- and all of them
pub all_asked : (before calls all rest : ℕ) → rest ≡ 0 → AreAsked before calls all rest → Asks before calls all
all_asked before calls all rest none p = let n : p.done ≡ all = omega (arith, none, p.count) in subst (Asks before calls) n p.asked

-- a load that failed, or had not the memory, was one of so many
pub load_stopped : (before after all : ℕ) (r : Result Unit Stop) (e : FilesError) → IsErrAnd r (λ s. s ≡ stop_of_files e)
    → (n : ℕ) × Asks before after n × (0 < n) × (n ≤ all) → AsksBy before after all r
load_stopped before after all (Ok x) e h n = absurd h
load_stopped before after all (Err s) e h n = subst (λ (z : Stop). AsksBy {T = Unit} before after all (Err z)) (sym h) (by e)
  where
    by : (e : FilesError) → AsksBy {T = Unit} before after all (Err (stop_of_files e))
    by files.Failed = (n.0, n.1, n.2, n.3)
    by files.Memory = (n.0, n.1, n.3)

pub memory_stopped : (before after all : ℕ) (r : Result Unit Stop) → IsErrAnd r (λ s. s ≡ Memory)
    → (n : ℕ) × Asks before after n × (0 < n) × (n ≤ all) → AsksBy before after all r
memory_stopped before after all (Ok x) h n = absurd h
memory_stopped before after all (Err s) h n = subst (λ (z : Stop). AsksBy {T = Unit} before after all (Err z)) (sym h) (n.0, n.1, n.3)

-- what stopped the loading is handed on
pub asked_on : (T U : Type 0) (before after all : ℕ) (r : Result T Stop) (e : Stop) → IsErrAnd r (λ s. s ≡ e) → AsksBy {T = U} before after all (Err e)
    → AsksBy {T = T} before after all r
asked_on T U before after all (Ok x) e h p = absurd h
asked_on T U before after all (Err s) e h p = subst (λ (z : Stop). AsksBy {T = T} before after all (Err z)) (sym h) (by e p)
  where
    by : (e : Stop) → AsksBy {T = U} before after all (Err e) → AsksBy {T = T} before after all (Err e)
    by Read p = p
    by Load p = p
    by Store p = p
    by (BadRow index) p = p
    by Write p = p
    by Memory p = p
    by TooLong p = p

pub stop_on : (T U : Type 0) (x y : Folder) (r : Result T Stop) (e : Stop) → IsErrAnd r (λ s. s ≡ e) → LoadEnds {T = U} x y (Err e) → LoadEnds x y r
stop_on T U x y r e h last = λ others.
    let a : Outside = record others { files = x } in
    let b : Outside = record others { files = y } in
    ends_on T U no_row ⊥ a a b r e h (refl, refl, refl, refl) (in_time_same others.input.course) (λ k. k) (λ k. k) (last others)

pub done_on : (T U : Type 0) (x y : Folder) (v : U) (w : T) → LoadEnds {T = U} x y (Ok v) → LoadEnds {T = T} x y (Ok w)
done_on T U x y v w first = λ others. let p = first others in record { cause = p.cause; input = p.input; files = p.files; out = p.out }
