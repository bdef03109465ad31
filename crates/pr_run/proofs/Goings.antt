-- Where a run stands between two orders, and how it ends.
use Rattle.std.proofs.Common.{◌≡◌, ℕ, ◌+◌, ◌<◌, ◌≤◌, ◌^◌, Bool, true, List, [], ◌∷◌, ◌++◌, None, Some, IfSome, IsSome, refl, sym, ap, ◌∙◌, subst, append_assoc, append-nil, length, length-append, arith}
use Rattle.std.specs.declared.option.Option.{Option}
use Rattle.std.specs.Io.KnownBytes.{Appends}
use Rattle.pr_outside.specs.pr_words.Lines.{lines_of}
use Rattle.pr_queue.specs.spec_history.declared.entry.Entry.{Entry}
use Rattle.pr_outside.specs.Meant.{Input, Store}
use Rattle.pr_text.specs.declared.script.order.Numbered.{Numbered}
use Rattle.pr_text.specs.Orders.{orders_of, orders_after}
use Rattle.pr_text.proofs.Blocks.{orders_none}
use Rattle.pr_outside.specs.Asks.{Asks}
use Rattle.pr_outside.specs.Outside.{AreTold, Held, Outside}
use Rattle.pr_outside.specs.Status.{IsLong, IsReadOut, IsShort, IsTooLong}
use Rattle.pr_outside.proofs.StatusStreams.{appends_on}
use Rattle.pr_text.specs.private.LineReading.{ahead, course_of, CountsBytes, CountsLeft, IsBeyond, KnowsCourse}
use Rattle.pr_text.specs.private.Reading.{HandsOrder, Takes}
use Rattle.pr_text.proofs.Orders.{takes_none, takes_on, follow}
use Rattle.pr_text.specs.spec_world.World.{World}
use Rattle.pr_run.specs.private.Keeping.{KeepsProgress, Progress, Run, unanswered}
use Rattle.pr_outside.specs.Stores.{TellsHistory}
use Rattle.pr_run.specs.private.Standing.{HasGrown, IsGrown, SendsAnswer, RunStands, progress_of}
use Rattle.pr_run.specs.Told.{OrderAnswer, answers, asks_of, begun, told_of, turn}
use Rattle.pr_run.proofs.Loads.{asks_none, asks_on}
use Rattle.pr_run.proofs.Turns.{answers_append, asks_append, progress_on, told_left, told_more, told_right, told_same}

-- the answers to orders over a history, and how far the run has come then
abbrev pub answered : Held → List Entry → List Numbered → List OrderAnswer
answered held history orders = answers held (begun history) orders

abbrev pub come : Held → List Entry → List Numbered → Progress
come held history orders = progress_of held (unanswered history) orders

-- what has become since the first line was written
pub record Going {E : Type 0} (stands_for : E → Store → World → Type 0) (first : Run E) (entry : Outside) (run : Run E) (now : Outside) (ahead : Option (List ℕ)) (number : ℕ) : Type 0 where
  pub orders : List Numbered
  pub taken : Takes entry.input.left ahead 0 number orders
  pub stands : (others : Outside) (held : Held) (history : List Entry) → KeepsProgress stands_for first entry.store (unanswered history)
      → Appends others.out.taken entry.out.taken (told_of history []) → IsSome now.store.rows → AreTold entry.files.content held (asks_of (answered held history orders))
      → RunStands stands_for held history orders run (record others { input = entry.input; files = entry.files }) now
  pub grown : (w : World) → stands_for first.kept entry.store w → IsSome now.store.rows → IsGrown stands_for w.history now.store run.kept

module _ {E : Type 0} (stands_for : E → Store → World → Type 0) (first : Run E) (entry : Outside) where
  pub going_none : (now : Outside) (ahead : Option (List ℕ)) (number : ℕ) → now.store ≡ entry.store → now.files ≡ entry.files → now.out ≡ entry.out
      → ahead ≡ entry.input.left → number ≡ 0 → Going stands_for first entry first now ahead number
  going_none now ahead number store files out left none =
      record {
        orders = [];
        taken = subst (λ (a : Option (List ℕ)). Takes entry.input.left a 0 number []) (sym left) (subst (λ (n : ℕ). Takes entry.input.left entry.input.left 0 n []) (sym none) (takes_none entry.input.left 0));
        stands = λ others held history keeps p some told. record {
          keeps = subst (λ (s : Store). KeepsProgress stands_for first s (unanswered history)) (sym store) keeps;
          told = subst (λ (o : _). Appends others.out.taken o.taken (told_of history [])) (sym out) p;
          asked = subst (λ (f : _). Asks entry.files.calls f.calls 0) (sym files) (asks_none entry.files.calls);
        };
        grown = λ w s some. record { world = w; more = []; stands = subst (λ (x : Store). stands_for first.kept x w) (sym store) s; grown = sym (append-nil w.history) };
      }

  grown_on : (a b : List Entry) (store : Store) (kept : E) (x : List Entry) → b ≡ a ++ x → IsGrown stands_for b store kept → IsGrown stands_for a store kept
  grown_on a b store kept x is g = record {
    world = g.world;
    more = x ++ g.more;
    stands = g.stands;
    grown = g.grown ∙ ap (λ (h : List Entry). h ++ g.more) is ∙ append_assoc a x g.more;
  }

  module _ (run next : Run E) (mid now : Outside) (b c : Option (List ℕ)) (m n : ℕ) (o : Numbered) (here : Going stands_for first entry run mid b m) where
    later_asks : (held : Held) (history : List Entry) → asks_of (answered held history (here.orders ++ o ∷ []))
        ≡ asks_of (answered held history here.orders) ++ (turn held (come held history here.orders).state o).answer.asks
    later_asks held history =
        ap asks_of (answers_append held (unanswered history) here.orders (o ∷ []))
        ∙ asks_append (answered held history here.orders) ((turn held (come held history here.orders).state o).answer ∷ [])
        ∙ ap (λ (l : List (List ℕ)). asks_of (answered held history here.orders) ++ l) (append-nil (turn held (come held history here.orders).state o).answer.asks)

    -- one more order was answered whole
    pub going_on : HandsOrder b c m n (Some o) → (IsSome now.store.rows → IsSome mid.store.rows) → ((other : List ℕ) → mid.files.content other ≡ entry.files.content other)
        → ((held : Held) (p : Progress) → KeepsProgress stands_for run mid.store p → AreTold mid.files.content held (turn held p.state o).answer.asks → IsSome now.store.rows
        → SendsAnswer stands_for held p o (record mid { input = now.input }) now next)
        → ((w : World) → stands_for run.kept mid.store w → IsSome now.store.rows → IsGrown stands_for w.history now.store next.kept)
        → Going stands_for first entry next now c n
    going_on hands back same sends grows = record {
      orders = here.orders ++ o ∷ [];
      taken = takes_on entry.input.left b c 0 m n here.orders (o ∷ []) here.taken hands;
      stands = λ others held history keeps p some told.
          let all = subst (AreTold entry.files.content held) (later_asks held history) told in
          let before = asks_of (answered held history here.orders) in
          let asks = (turn held (come held history here.orders).state o).answer.asks in
          let s = here.stands others held history keeps p (back some) (told_left entry.files.content held before asks all) in
          let t = sends held (come held history here.orders) s.keeps
          (told_same entry.files.content mid.files.content held asks same (told_right entry.files.content held before asks all)) some in
          let whole : answered held history (here.orders ++ o ∷ []) ≡ answered held history here.orders ++ (turn held (come held history here.orders).state o).answer ∷ [] =
          answers_append held (unanswered history) here.orders (o ∷ []) in
          record {
            keeps = subst (KeepsProgress stands_for next now.store) (sym (progress_on held (unanswered history) here.orders o)) t.keeps;
            told = subst (Appends others.out.taken now.out.taken)
                (sym (ap (told_of history) whole ∙ told_more history (answered held history here.orders) (turn held (come held history here.orders).state o).answer))
                (appends_on others.out.taken mid.out.taken now.out.taken (told_of history (answered held history here.orders))
                (turn held (come held history here.orders).state o).answer.text s.told t.told);
            asked = subst (Asks entry.files.calls now.files.calls)
                (sym (ap length (later_asks held history) ∙ length-append before asks))
                (asks_on entry.files.calls mid.files.calls now.files.calls (length before) (length asks) s.asked t.asked);
          };
      grown = λ w s some.
          let g = here.grown w s (back some) in
          grown_on w.history g.world.history now.store next.kept g.more g.grown (grows g.world g.stands some);
    }

-- the orders of all are those so far and those to come
pub split_orders : (bytes : List ℕ) (b : Option (List ℕ)) (m : ℕ) (orders : List Numbered) → Takes (Some bytes) b 0 m orders
    → (later : List Numbered) × (orders_of (lines_of bytes) ≡ orders ++ later)
split_orders bytes None m orders t = absurd t
split_orders bytes (Some y) m orders t = (orders_after m (lines_of y), follow bytes y 0 m orders t)

pub next_orders : (bytes : List ℕ) (b c : Option (List ℕ)) (m n : ℕ) (orders : List Numbered) (o : Numbered) → Takes (Some bytes) b 0 m orders → HandsOrder b c m n (Some o)
    → (later : List Numbered) × (orders_of (lines_of bytes) ≡ orders ++ o ∷ later)
next_orders bytes None c m n orders o t h = absurd t
next_orders bytes (Some y) None m n orders o t h = absurd h
next_orders bytes (Some y) (Some z) m n orders o t h =
    (orders_after n (lines_of z), follow bytes y 0 m orders t ∙ ap (λ (os : List Numbered). orders ++ os) (follow y z m n (o ∷ []) h))

pub last_orders : (bytes unread : List ℕ) (b left : Option (List ℕ)) (m n : ℕ) (orders : List Numbered) → Takes (Some bytes) b 0 m orders
    → HandsOrder b (ahead unread left) m n None → (orders_of (lines_of bytes) ≡ orders) × (left ≡ Some [])
last_orders bytes unread None left m n orders t h = absurd t
last_orders bytes unread (Some y) None m n orders t h = absurd h.0
last_orders bytes unread (Some y) (Some z) m n orders t h = (
  follow bytes y 0 m orders t
      ∙ ap (λ (os : List Numbered). orders ++ os) (follow y (unread ++ z) m n [] h.0 ∙ ap (λ (l : List ℕ). orders_after n (lines_of l)) h.1 ∙ orders_none n)
      ∙ append-nil orders,
  ap Some (no_rest unread z h.1),
)
  where
    no_rest : (xs ys : List ℕ) → xs ++ ys ≡ [] → ys ≡ []
    no_rest [] ys e = e
    no_rest (x ∷ xs) ys e = absurd (cc)

-- an input that was read to its end is short and was read out, and one that is too long is long
pub known_short : (a b left : Option (List ℕ)) (unread : List ℕ) (m n count : ℕ) (orders : List Numbered) → Takes a b 0 m orders → HandsOrder b (ahead unread left) m n None
    → CountsLeft a left 0 count → count < 2 ^ 32 → IsShort a
known_short None b left unread m n count orders t h c lt = tt
known_short (Some bytes) b left unread m n count orders t h c lt =
    let ended : CountsLeft (Some bytes) (Some []) 0 count =
    subst (λ (l : Option (List ℕ)). CountsLeft (Some bytes) l 0 count) (last_orders bytes unread b left m n orders t h).1 c in
    omega (arith, ended, lt)

pub known_out : (a c : Input) (count : ℕ) (ended : Bool) → CountsBytes a c 0 count → count < 2 ^ 32 → KnowsCourse a.course ended c.course → ended ≡ true → IsReadOut a c
known_out a c count ended counts lt over met = record {
  over = λ going. over going ∙ ap course_of met;
  few = omega (arith, counts.took.0, lt);
}

long_left : (a : Option (List ℕ)) → IfSome a (λ rest. 2 ^ 32 ≤ 0 + length rest) → IsLong a
long_left None long = tt
long_left (Some bytes) long = omega (arith, long)

pub known_long : (a c : Input) → IsBeyond a c 0 → IsTooLong a c
known_long a c p = (long_left a.left p.long, omega (arith, p.many))

pub no_more : (o : Option Numbered) → ((x : Numbered) → o ≡ Some x → ⊥) → o ≡ None
no_more None f = refl
no_more (Some x) f = absurd (f x refl)

pub has_grown : {E : Type 0} (stands_for : E → Store → World → Type 0) (tells : (e : E) (store : Store) (w : World) → stands_for e store w → TellsHistory store w.history)
    (history : List Entry) (store : Store) (kept : E) → IsGrown stands_for history store kept → HasGrown history store
has_grown stands_for tells history store kept g =
    record { more = g.more; tells = subst (TellsHistory store) g.grown (tells kept store g.world g.stands) }

pub grown_more : (a b : List Entry) (store : Store) (x : List Entry) → b ≡ a ++ x → HasGrown b store → HasGrown a store
grown_more a b store x is g = record {
  more = x ++ g.more;
  tells = subst (TellsHistory store) (ap (λ (h : List Entry). h ++ g.more) is ∙ append_assoc a x g.more) g.tells;
}
