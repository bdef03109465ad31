-- How a run ends: at its input, within an order, or when all is answered.
use Rattle.std.proofs.Common.{◌≡◌, ◌≢◌, ℕ, ◌+◌, ◌≤◌, Bool, true, List, [], ◌∷◌, ◌++◌, None, Some, IfSome, IsSome, Result, Ok, Err, IsErrAnd, IfOk, refl, sym, ap, ◌∙◌, subst, append_assoc, append-nil, length, arith, inl, inr}
use Rattle.std.specs.declared.option.Option.{Option}
use Rattle.std.specs.Io.KnownBytes.{Appends}
use Rattle.pr_outside.specs.pr_words.Lines.{lines_of}
use Rattle.pr_queue.specs.spec_history.declared.entry.Entry.{Entry}
use Rattle.pr_outside.specs.Meant.{Input, Store}
use Rattle.pr_text.specs.declared.script.order.Numbered.{Numbered}
use Rattle.pr_text.specs.Orders.{orders_of}
use Rattle.pr_outside.specs.Asks.{AsksAt}
use Rattle.pr_outside.specs.Ends.{StopPlace, at_input, at_file, at_store, at_output, anywhere, place_of, ReadEnds}
use Rattle.pr_outside.specs.Outside.{AreTold, Held, Outside}
use Rattle.pr_outside.specs.declared.status.status.Stop.{Stop}
use Rattle.pr_outside.specs.declared.status.status.Stop.TheVariants as stop
use Rattle.pr_outside.specs.Causes.{Rose}
use Rattle.pr_outside.specs.spec_history.declared.row.Row.{Row}
use Rattle.pr_queue.specs.spec_history.Histories.{history_of}
use Rattle.pr_outside.proofs.Ended.{quiet}
use Rattle.pr_outside.proofs.StatusStreams.{appends_on}
use Rattle.pr_text.specs.private.LineReading.{ahead}
use Rattle.pr_text.specs.private.Reading.{HandsOrder, Takes, IsCutAt}
use Rattle.pr_text.specs.Taken.{IsPrompt}
use Rattle.pr_text.proofs.Whole.{prompt_all, prompt_on}
use Rattle.pr_text.specs.spec_world.World.{World}
use Rattle.pr_run.specs.Front.{IsFront, IsPromptAt, is_between}
use Rattle.pr_text.specs.BadRows.{TellsRow, bad_row_text}
use Rattle.pr_run.specs.private.Keeping.{KeepsProgress, Progress, Run, unanswered}
use Rattle.pr_outside.specs.Stores.{TellsHistory, AreKept, IsBadIn}
use Rattle.pr_run.specs.Runs.{EndsOver}
use Rattle.pr_run.specs.private.Standing.{LeavesFront, RunStands, WaitsBehind, WritesTurn}
use Rattle.pr_run.specs.Told.{OrderAnswer, Turn, answers, answers_to, any_refused, asks_of, begun, kept_after, told, told_of, turn}
use Rattle.pr_run.proofs.Fronts.{asks_anywhere, asks_between, asks_file, asks_output, asks_store, asks_written, front_at, front_in}
use Rattle.pr_run.proofs.Goings.{Going, answered, come, last_orders, next_orders, split_orders}
use Rattle.pr_run.proofs.Loads.{asks_on}
use Rattle.pr_outside.proofs.StoredRows.{IsDecoding, kept_by}
use Rattle.pr_run.proofs.Turns.{answer_count, answers_append, asks_append, orders_grow, progress_on, refused_of, steps_of, told_left, told_right, told_same}

-- so many orders are answered, and no order that was complete has come since
prompt_by : (bytes : List ℕ) (b left : Option (List ℕ)) (orders : List Numbered) (m : ℕ) → Takes (Some bytes) b 0 m orders → IsCutAt b left m
    → IfSome left (λ rest. IsPrompt 0 bytes rest (length orders))
prompt_by bytes None left orders m t cut = absurd t
prompt_by bytes (Some y) None orders m t cut = tt
prompt_by bytes (Some y) (Some rest) orders m t cut = subst (IsPrompt 0 bytes rest) (omega arith) (prompt_on 0 m bytes y rest orders 0 t cut)

prompt_ended : (bytes : List ℕ) (left : Option (List ℕ)) (orders : List Numbered) → left ≡ Some [] → orders_of (lines_of bytes) ≡ orders
    → IfSome left (λ rest. IsPrompt 0 bytes rest (length orders))
prompt_ended bytes None orders none all = tt
prompt_ended bytes (Some rest) orders none all = prompt_all 0 bytes rest (length orders) (cc) (omega (arith, ap length all))

-- what may stop a read
abbrev pub IsReadStop : Stop → Type 0
IsReadStop stop.Read = Unit {0}
IsReadStop stop.Load = ⊥
IsReadStop stop.Store = ⊥
IsReadStop (stop.BadRow index) = ⊥
IsReadStop stop.Write = ⊥
IsReadStop stop.Memory = Unit {0}
IsReadStop stop.TooLong = Unit {0}

pub not_row : (s : Stop) (index : ℕ) → IsReadStop s → s ≡ stop.BadRow index → ⊥
not_row s index may e = subst IsReadStop e may

abbrev stopped_by : Stop → Result Bool Stop
stopped_by s = Err s

err_is : (x y : Stop) → stopped_by x ≡ stopped_by y → x ≡ y
err_is x y e = cc

zero_rose : Rose 0 0 → ⊥
zero_rose r = omega (arith, r)

pub read_stop : (T : Type 0) (long : Type 0) (x y : Input) (s : Stop) → ReadEnds {T = T} long x y (Err s) → IsReadStop s
read_stop T long x y stop.Read e = tt
read_stop T long x y stop.Load e = zero_rose (e quiet).cause.1
read_stop T long x y stop.Store e = zero_rose (e quiet).cause.2
read_stop T long x y (stop.BadRow index) e = (e quiet).cause.1
read_stop T long x y stop.Write e = zero_rose (e quiet).cause.3
read_stop T long x y stop.Memory e = tt
read_stop T long x y stop.TooLong e = tt

-- rows that tell a history have no bad one
pub no_bad : (store : Store) (history : List Entry) (index : ℕ) → IsSome store.rows → TellsHistory store history → IsBadIn store index → ⊥
no_bad store history index some tells bad = by store.rows some tells bad
  where
    by : (rows : Option (List Row)) → IsSome rows → IfSome rows (λ rs. history_of rs ≡ Ok history) → IfSome rows (λ rs. history_of rs ≡ Err index) → ⊥
    by None some tells bad = absurd (cc)
    by (Some rs) some tells bad = cc

module _ {E : Type 0} (stands_for : E → Store → World → Type 0) (only : IsDecoding) (tells : (e : E) (store : Store) (w : World) → stands_for e store w → TellsHistory store w.history)
    (first : Run E) (entry others : Outside) (history : List Entry) (bytes : List ℕ) (keeps : KeepsProgress stands_for first entry.store (unanswered history))
    (p : Appends others.out.taken entry.out.taken (told_of history [])) (is : entry.input.left ≡ Some bytes)
    (run : Run E) (mid : Outside) (b : Option (List ℕ)) (m : ℕ) (here : Going stands_for first entry run mid b m) where
  abbrev before : Outside
  before = record others { input = entry.input; files = entry.files }

  abbrev done : Held → List OrderAnswer
  done held = answered held history here.orders

  abbrev taken_of : Takes (Some bytes) b 0 m here.orders
  taken_of = subst (λ (a : Option (List ℕ)). Takes a b 0 m here.orders) is here.taken

  all_of : (held : Held) (later : List Numbered) → orders_of (lines_of bytes) ≡ here.orders ++ later
      → answers_to held history bytes ≡ done held ++ answers held (come held history here.orders).state later
  all_of held later e = ap (answers held (begun history)) e ∙ answers_append held (unanswered history) here.orders later

  stands_of : (held : Held) (rest : List OrderAnswer) → answers_to held history bytes ≡ done held ++ rest → AreTold entry.files.content held (asks_of (answers_to held history bytes))
      → IsSome mid.store.rows → RunStands stands_for held history here.orders run before mid
  stands_of held rest e told some =
      here.stands others held history keeps p some
      (told_left entry.files.content held (asks_of (done held)) (asks_of rest) (subst (AreTold entry.files.content held) (ap asks_of e ∙ asks_append (done held) rest) told))

  history_is : (held : Held) → (come held history here.orders).state.world.history ≡ kept_after history (done held)
  history_is held = orders_grow held (unanswered history) here.orders

  count_is : (held : Held) → length here.orders ≡ length (done held)
  count_is held = sym (answer_count held (begun history) here.orders)

  -- the next order could not be had
  pub front_between : (input : Input) (place : StopPlace) → place ≢ at_file → IsPromptAt place bytes input.left (length here.orders) → IsSome mid.store.rows
      → (held : Held) → AreTold entry.files.content held (asks_of (answers_to held history bytes))
      → IsFront bytes place history (answers_to held history bytes) before (record mid { input = input })
  front_between input place other prompt some held told =
      let t = split_orders bytes b m here.orders taken_of in
      let rest = answers held (come held history here.orders).state t.0 in
      let all : answers_to held history bytes ≡ done held ++ rest = all_of held t.0 t.1 in
      let s = stands_of held rest all told some in
      let rows : AreKept (kept_after history (done held)) mid.store =
      kept_by only mid.store (kept_after history (done held)) (subst (TellsHistory mid.store) (history_is held) (tells run.kept mid.store (come held history here.orders).state.world s.keeps.world)) in
      subst (λ (l : List OrderAnswer). IsFront bytes place history l before (record mid { input = input })) (sym all)
      (front_at bytes history (done held) rest place before (record mid { input = input }) (length (asks_of (done held))) s.told
      (subst (IsPromptAt place bytes input.left) (count_is held) prompt) rows s.asked (asks_between place (done held) rest other))

  pub front_cut : (input : Input) → IsCutAt b input.left m → IsSome mid.store.rows → (held : Held) → AreTold entry.files.content held (asks_of (answers_to held history bytes))
      → IsFront bytes at_input history (answers_to held history bytes) before (record mid { input = input })
  front_cut input cut some held told = front_between input at_input (λ e. absurd (cc)) (prompt_by bytes b input.left here.orders m taken_of cut) some held told

  -- all is answered
  pub ended : (input : Input) (unread : List ℕ) (n : ℕ) → HandsOrder b (ahead unread input.left) m n None → IsSome mid.store.rows
      → EndsOver history bytes before (record mid { input = input }) (Ok run.refused)
  ended input unread n h some =
      let last = last_orders bytes unread b input.left m n here.orders taken_of h in
      let whole : orders_of (lines_of bytes) ≡ here.orders ++ [] = last.0 ∙ sym (append-nil here.orders) in
      let all : (held : Held) → answers_to held history bytes ≡ done held = λ held. ap (answers held (begun history)) last.0 in
      let tail : (held : Held) → answers_to held history bytes ≡ done held ++ [] = λ held. all held ∙ sym (append-nil (done held)) in
      record {
        whole = λ held told.
            let s = stands_of held [] (tail held) told some in
            record {
              written = subst (λ (l : List OrderAnswer). Appends others.out.taken mid.out.taken (told_of history l)) (sym (all held)) s.told;
              refused = s.keeps.refused ∙ refused_of held (unanswered history) here.orders ∙ ap any_refused (sym (all held));
              kept = subst (λ (l : List OrderAnswer). AreKept (kept_after history l) mid.store) (sym (all held))
                  (kept_by only mid.store (kept_after history (done held)) (subst (TellsHistory mid.store) (history_is held) (tells run.kept mid.store (come held history here.orders).state.world s.keeps.world)));
              read = last.1;
            };
        front = λ held told. front_between input at_input (λ e. absurd (cc)) (prompt_ended bytes input.left here.orders last.1 last.0) some held told;
        fine = λ index e. absurd (cc);
      }

  -- the input stopped it, or want of memory
  pub stopped : (input : Input) (r : Result Bool Stop) (s : Stop) → IsErrAnd r (λ y. y ≡ s) → (place_of {T = Bool} (Err s) ≡ at_input → IsCutAt b input.left m) → IsReadStop s → IsSome mid.store.rows
      → EndsOver history bytes before (record mid { input = input }) r
  stopped input (Ok x) s h cut may some = absurd h
  stopped input (Err y) s h cut may some =
      subst (λ (z : Stop). EndsOver history bytes before (record mid { input = input }) (Err z)) (sym h) (by s cut may)
    where
      at_end : (s : Stop) → IsReadStop s
          → ((held : Held) → AreTold entry.files.content held (asks_of (answers_to held history bytes))
          → IsFront bytes (place_of {T = Bool} (Err s)) history (answers_to held history bytes) before (record mid { input = input }))
          → EndsOver history bytes before (record mid { input = input }) (Err s)
      at_end s may f = record { whole = λ held told. tt; front = f; fine = λ index e. not_row s index may (err_is s (stop.BadRow index) e) }

      by : (s : Stop) → (place_of {T = Bool} (Err s) ≡ at_input → IsCutAt b input.left m) → IsReadStop s → EndsOver history bytes before (record mid { input = input }) (Err s)
      by stop.Read cut may = at_end stop.Read tt (front_cut input (cut refl) some)
      by stop.Load cut may = absurd may
      by stop.Store cut may = absurd may
      by (stop.BadRow index) cut may = absurd may
      by stop.Write cut may = absurd may
      by stop.Memory cut may = at_end stop.Memory tt (front_between input anywhere (λ e. absurd (cc)) tt some)
      by stop.TooLong cut may = at_end stop.TooLong tt (front_cut input (cut refl) some)

  -- Within the next order

  module _ (input : Input) (o : Numbered) (c : Option (List ℕ)) (n : ℕ) (hands : HandsOrder b c m n (Some o)) (now : Outside) (held : Held)
      (told : AreTold entry.files.content held (asks_of (answers_to held history bytes))) (some : IsSome mid.store.rows) where
    abbrev middle : Outside
    middle = record mid { input = input }

    abbrev the : Turn
    the = turn held (come held history here.orders).state o

    abbrev later : List Numbered
    later = (next_orders bytes b c m n here.orders o taken_of hands).0

    abbrev rest : List OrderAnswer
    rest = answers held the.state later

    all : answers_to held history bytes ≡ done held ++ the.answer ∷ rest
    all = all_of held (o ∷ later) (next_orders bytes b c m n here.orders o taken_of hands).1

    stood : RunStands stands_for held history here.orders run before mid
    stood = stands_of held (the.answer ∷ rest) all told some

    front_waits : (place : StopPlace) (least : ℕ) → ((k : ℕ) → IsPromptAt place bytes now.input.left k)
        → ((k : ℕ) → least ≤ k → k ≤ length the.answer.asks → AsksAt place (steps_of (done held ++ the.answer ∷ rest)) (length (done held)) (length (asks_of (done held)) + k))
        → WaitsBehind the (come held history here.orders).state.world.history least middle now → IsFront bytes place history (answers_to held history bytes) before now
    front_waits place least prompt at w =
        let text : Appends others.out.taken now.out.taken (told_of history (done held)) =
        subst (Appends others.out.taken now.out.taken) (append-nil (told_of history (done held))) (appends_on others.out.taken mid.out.taken now.out.taken (told_of history (done held)) [] stood.told w.told) in
        subst (λ (l : List OrderAnswer). IsFront bytes place history l before now) (sym all)
        (front_at bytes history (done held) (the.answer ∷ rest) place before now (length (asks_of (done held)) + w.stays.count) text (prompt (length (done held)))
        (kept_by only now.store (kept_after history (done held)) (subst (TellsHistory now.store) (history_is held) w.stays.rows))
        (asks_on entry.files.calls mid.files.calls now.files.calls (length (asks_of (done held))) w.stays.count stood.asked w.stays.asked) (at w.stays.count w.stays.some w.stays.within))

    grown_is : the.state.world.history ≡ kept_after history (done held ++ the.answer ∷ [])
    grown_is =
        ap (λ (q : Progress). q.state.world.history) (sym (progress_on held (unanswered history) here.orders o))
        ∙ orders_grow held (unanswered history) (here.orders ++ o ∷ [])
        ∙ ap (kept_after history) (answers_append held (unanswered history) here.orders (o ∷ []))

    front_writes : (place : StopPlace) → ((k : ℕ) → IsPromptAt place bytes now.input.left k) → (is_between place (length (done held) + 1) ≡ true → ⊥)
        → AsksAt place (steps_of (done held ++ the.answer ∷ rest)) (length (done held) + 1) (length (asks_of (done held)) + length the.answer.asks)
        → WritesTurn the middle now → IsFront bytes place history (answers_to held history bytes) before now
    front_writes place prompt within at w =
        subst (λ (l : List OrderAnswer). IsFront bytes place history l before now) (sym all)
        (front_in bytes history (done held) rest the.answer place mid.out.taken before now w.count (length (asks_of (done held)) + length the.answer.asks) stood.told w.told within
        (prompt (length (done held) + 1))
        (kept_by only now.store (kept_after history (done held ++ the.answer ∷ [])) (subst (TellsHistory now.store) grown_is w.rows))
        (asks_on entry.files.calls mid.files.calls now.files.calls (length (asks_of (done held))) (length the.answer.asks) stood.asked w.asked) at)

    pub front_left : (s : Stop) → LeavesFront the (come held history here.orders).state.world.history middle now s
        → IsFront bytes (place_of {T = Bool} (Err s)) history (answers_to held history bytes) before now
    front_left stop.Read w = absurd w
    front_left stop.Load w = front_waits at_file 1 (λ k. tt) (λ k some le. asks_file (done held) rest the.answer k some le) w
    front_left stop.Store w = front_waits at_store 0 (λ k. tt) (λ k some le. asks_store (done held) rest the.answer k le) w
    front_left (stop.BadRow index) w = absurd w
    front_left stop.Write w = front_writes at_output (λ k. tt) (λ e. absurd (cc)) (asks_output (done held) rest the.answer) w
    front_left stop.Memory (inl w) = front_waits anywhere 0 (λ k. tt) (λ k some le. asks_anywhere (done held) rest the.answer k le) w
    front_left stop.Memory (inr w) = front_writes anywhere (λ k. tt) (λ e. absurd (cc)) (asks_written (done held) rest the.answer) w
    front_left stop.TooLong w = absurd w

    leaves : (r : Result Bool Stop) (s : Stop) → IsErrAnd r (λ y. y ≡ s) → LeavesFront the (come held history here.orders).state.world.history middle now s
        → IsFront bytes (place_of r) history (answers_to held history bytes) before now
    leaves (Ok x) s h w = absurd h
    leaves (Err y) s h w = subst (λ (z : Stop). IsFront bytes (place_of {T = Bool} (Err z)) history (answers_to held history bytes) before now) (sym h) (front_left s w)

    asked : AreTold entry.files.content held the.answer.asks
    asked =
        let whole = subst (AreTold entry.files.content held) (ap asks_of all ∙ asks_append (done held) (the.answer ∷ rest)) told in
        told_left entry.files.content held the.answer.asks (asks_of rest)
        (told_right entry.files.content held (asks_of (done held)) (the.answer.asks ++ asks_of rest) whole)

    -- an answer was stopped
    pub left_over : (r : Result Bool Stop) (s : Stop) → IsErrAnd r (λ y. y ≡ s) → ((other : List ℕ) → mid.files.content other ≡ entry.files.content other)
        → ((p : Progress) → KeepsProgress stands_for run mid.store p → AreTold mid.files.content held (turn held p.state o).answer.asks
        → LeavesFront (turn held p.state o) p.state.world.history middle now s)
        → IsFront bytes (place_of r) history (answers_to held history bytes) before now
    left_over r s h same f = leaves r s h (f (come held history here.orders) stood.keeps (told_same entry.files.content mid.files.content held the.answer.asks same asked))

pub row_of_stop : (r : Result Bool Stop) (s : Stop) (index : ℕ) → IsErrAnd r (λ y. y ≡ s) → r ≡ Err (stop.BadRow index) → s ≡ stop.BadRow index
row_of_stop (Ok x) s index h e = absurd h
row_of_stop (Err y) s index h e = sym h ∙ err_is y (stop.BadRow index) e

pub no_whole : (r : Result Bool Stop) (s : Stop) (P : Bool → Type 0) → IsErrAnd r (λ y. y ≡ s) → IfOk r P
no_whole (Ok x) s P h = absurd h
no_whole (Err y) s P h = tt

-- the line of a row that is written behind other texts
pub row_behind : (a b c : Option (List ℕ)) (at : ℕ) (text : List ℕ) → Appends a b text → Appends b c (bad_row_text at) → TellsRow at a c
row_behind a b c at text p q = record { front = text; text = appends_on a b c text (bad_row_text at) p q }

pub row_after : (a b c : Option (List ℕ)) (at : ℕ) (text : List ℕ) → Appends a b text → TellsRow at b c → TellsRow at a c
row_after a b c at text p t = record {
  front = text ++ t.front;
  text = subst (Appends a c) (sym (append_assoc text t.front (bad_row_text at))) (appends_on a b c text (t.front ++ bad_row_text at) p t.text);
}

-- or alone
pub row_alone : (a b : Option (List ℕ)) (at : ℕ) → Appends a b (bad_row_text at) → TellsRow at a b
row_alone a b at p = record { front = []; text = p }
