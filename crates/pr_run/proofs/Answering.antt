-- What comes of an order, by how its parts end.
use Rattle.std.proofs.Common.{◌≡◌, ℕ, ◌+◌, Bool, true, false, ◌||◌, not, ◌&&◌, List, [], ◌∷◌, ◌++◌, Option, Some, None, Result, Ok, Err, IsErrAnd, IfErr, IfOk, OnOk, OnErr, IsSome, refl, sym, ap, ◌∙◌, subst, append-nil, length, map, nat_lt, arith, inl, inr, true≢false}
use Rattle.std.specs.List.{AllByRecursion, IsDistinct, list_any}
use Rattle.std.specs.Str.{bytes_eq}
use Rattle.std.proofs.lemmas.Slice.Eq.{bytes_eq-Decides}
use Rattle.std.specs.Io.KnownBytes.{Appends}
use Rattle.pr_outside.specs.Causes.{Rose}
use Rattle.pr_outside.specs.Courses.{GoesOn, IsInTime}
use Rattle.pr_outside.specs.Meant.{Folder, Store}
use Rattle.pr_text.specs.FileNames.{have_distinct_names, is_name_of}
use Rattle.pr_text.specs.declared.script.order.Numbered.{Numbered}
use Rattle.pr_text.specs.declared.script.order.Order.{Order}
use Rattle.pr_text.specs.declared.script.order.Order.TheVariants as order
use Rattle.pr_outside.specs.Asks.{Asks, AsksBy}
use Rattle.pr_outside.specs.Ends.{Ends, LoadEnds}
use Rattle.pr_outside.specs.Outside.{AreTold, Held, NoneRose, Outside}
use Rattle.pr_outside.specs.declared.status.status.Stop.{Stop}
use Rattle.pr_outside.specs.declared.status.status.Stop.TheVariants as stop
use Rattle.pr_outside.proofs.Ended.{ends_memory, ends_on, quiet}
use Rattle.pr_outside.proofs.StatusStreams.{appends_none}
use Rattle.pr_queue.specs.private.Standing as waiting
use Rattle.pr_text.specs.Printed.{shown_report}
use Rattle.pr_text.proofs.WorldRefusals.{reload_of_found}
use Rattle.pr_text.specs.spec_world.Loading.{FileToLoad, all_found, found_outcome, reload_asked}
use Rattle.pr_text.specs.spec_world.private.Laws.{IsNotBefore, is_refusal}
use Rattle.pr_text.specs.spec_world.Outcome.{refuse, unless_backwards}
use Rattle.pr_text.specs.spec_world.Settings.{of_a_run}
use Rattle.pr_text.specs.spec_world.Step.{Step, next, step_by}
use Rattle.pr_text.specs.spec_world.World.{World}
use Rattle.pr_text.specs.spec_world.declared.event.Event.{Event}
use Rattle.pr_text.specs.spec_world.declared.event.Event.TheVariants as event
use Rattle.pr_text.specs.spec_world.declared.event.NamedFile.{NamedFile}
use Rattle.pr_text.specs.spec_world.declared.report.Report.{Report}
use Rattle.pr_text.specs.spec_world.declared.report.Report.TheVariants.{Backwards}
use Rattle.pr_outside.specs.Stores.{KeepEnds, TellsHistory}
use Rattle.pr_run.specs.private.Files.{HasNames}
use Rattle.pr_run.specs.private.Keeping.{KeepsProgress, Progress, Run}
use Rattle.pr_run.specs.Replies.{Reply, receivers_after}
use Rattle.pr_run.specs.private.Standing.{AnswersOrder, WorldGives, StoreGrows, LeavesFront, ReceiversReply, StoreStays}
use Rattle.pr_run.specs.Told.{State, Turn, asks_for, asks_in_time, content_by, reply_turn, step_turn, turn, turn_of}
use Rattle.pr_run.proofs.Loads.{asks_none, asks_on}
use Rattle.pr_run.proofs.Stops.{no_bad}
use Rattle.pr_run.proofs.Turns.{event_grows}

zero_rose : Rose 0 0 → ⊥
zero_rose r = omega (arith, r)

module _ {E : Type 0} (stands_for : E → Store → World → Type 0) (w : World) (step : Step) (kept : E) where
  -- an event was handed to what keeps the world
  pub event_gives : (others : Outside) (a b : Store) (r : Result Report Stop) → IsSome b.rows → IfOk r (λ x. x ≡ step.report) → OnOk r (stands_for kept b step.world)
      → OnErr r (TellsHistory b w.history) → KeepEnds a b r → WorldGives stands_for w step 0 (record others { store = a }) (record others { store = b }) kept r
  event_gives others a b (Ok x) some report world h ends = (report, world, asks_none others.files.calls)
  event_gives others a b (Err stop.Read) some report world h ends = zero_rose (ends quiet).cause.0
  event_gives others a b (Err stop.Load) some report world h ends = absurd (zero_rose (ends quiet).cause.1)
  event_gives others a b (Err stop.Store) some report world h ends =
      record { rows = h; count = 0; asked = asks_none others.files.calls; some = omega arith; within = omega arith }
  event_gives others a b (Err (stop.BadRow index)) some report world h ends = no_bad b w.history index some h (ends quiet).cause.1
  event_gives others a b (Err stop.Write) some report world h ends = zero_rose (ends quiet).cause.3
  event_gives others a b (Err stop.Memory) some report world h ends =
      record { rows = h; count = 0; asked = asks_none others.files.calls; some = omega arith; within = omega arith }
  event_gives others a b (Err stop.TooLong) some report world h ends = (ends quiet).cause.1

  -- files were loaded before it
  pub gives_behind : (a b c : Outside) (all : ℕ) (r : Result Report Stop) → Asks a.files.calls b.files.calls all → WorldGives stands_for w step 0 b c kept r
      → WorldGives stands_for w step all a c kept r
  gives_behind a b c all r asks g = by r g
    where
      waits : StoreStays w.history 0 0 b c → StoreStays w.history 0 all a c
      waits s = record {
        rows = s.rows;
        count = all + s.count;
        asked = asks_on a.files.calls b.files.calls c.files.calls all s.count asks s.asked;
        some = omega arith;
        within = omega (arith, s.within);
      }

      by : (r : Result Report Stop) → WorldGives stands_for w step 0 b c kept r → WorldGives stands_for w step all a c kept r
      by (Ok x) g =
          let same : all + 0 ≡ all = omega arith in
          (g.0, g.1, subst (Asks a.files.calls c.files.calls) same (asks_on a.files.calls b.files.calls c.files.calls all 0 asks g.2))
      by (Err stop.Read) g = g
      by (Err stop.Load) g = absurd (omega (arith, g.some, g.within))
      by (Err stop.Store) g = waits g
      by (Err (stop.BadRow index)) g = g
      by (Err stop.Write) g = g
      by (Err stop.Memory) g = waits g
      by (Err stop.TooLong) g = g

  -- a load was stopped
  pub load_gives : (T : Type 0) (others : Outside) (a b : Folder) (store : Store) (all : ℕ) (r : Result Report Stop) (s : Stop) → IsErrAnd r (λ y. y ≡ s) → TellsHistory store w.history
      → AsksBy {T = T} a.calls b.calls all (Err s) → LoadEnds {T = T} a b (Err s)
      → WorldGives stands_for w step all (record others { files = a; store = store }) (record others { files = b; store = store }) kept r
  load_gives T others a b store all (Ok x) s h tells asks ends = absurd h
  load_gives T others a b store all (Err y) s h tells asks ends =
      subst (λ (z : Stop). WorldGives stands_for w step all (record others { files = a; store = store }) (record others { files = b; store = store }) kept (Err z)) (sym h) (by s asks ends)
    where
      by : (s : Stop) → AsksBy {T = T} a.calls b.calls all (Err s) → LoadEnds {T = T} a b (Err s)
          → WorldGives stands_for w step all (record others { files = a; store = store }) (record others { files = b; store = store }) kept (Err s)
      by stop.Read n ends = n
      by stop.Load n ends = record { rows = tells; count = n.0; asked = n.1; some = omega (arith, n.2); within = n.3 }
      by stop.Store n ends = absurd n
      by (stop.BadRow index) n ends = n
      by stop.Write n ends = zero_rose (ends quiet).cause.3
      by stop.Memory n ends = record { rows = tells; count = n.0; asked = n.1; some = omega arith; within = n.2 }
      by stop.TooLong n ends = n

pub event_grown : {E : Type 0} (stands_for : E → Store → World → Type 0) (w : World) (e : Event) (kept : E) (b : Store) (r : Result Report Stop)
    → OnOk r (stands_for kept b (next of_a_run w e).world) → OnErr r (TellsHistory b w.history) → StoreGrows stands_for w.history b kept r
event_grown stands_for w e kept b (Ok x) world h =
    record { world = (next of_a_run w e).world; more = (next of_a_run w e).rows; stands = world; grown = event_grows w e }
event_grown stands_for w e kept b (Err s) world h = record { more = []; tells = subst (TellsHistory b) (sym (append-nil w.history)) h }

-- nothing happened
pub stays_grown : {E T : Type 0} (stands_for : E → Store → World → Type 0) (tells : (e : E) (store : Store) (w : World) → stands_for e store w → TellsHistory store w.history)
    (w : World) (kept : E) (b : Store) (r : Result T Stop) → stands_for kept b w → StoreGrows stands_for w.history b kept r
stays_grown stands_for tells w kept b (Ok x) s = record { world = w; more = []; stands = s; grown = sym (append-nil w.history) }
stays_grown stands_for tells w kept b (Err y) s = record { more = []; tells = subst (TellsHistory b) (sym (append-nil w.history)) (tells kept b w s) }

-- Names

other_way : (a b : List ℕ) → bytes_eq a b ≡ false → bytes_eq b a ≡ false
other_way a b h = by (bytes_eq b a) refl
  where
    by : (x : Bool) → bytes_eq b a ≡ x → x ≡ false
    by true is = let same : b ≡ a = (bytes_eq-Decides b a).0 is in absurd (true≢false (sym (sym h ∙ ap (λ (y : List ℕ). bytes_eq a y) same ∙ (bytes_eq-Decides a a).1 refl)))
    by false is = refl

none_named : (name : List ℕ) (files : List FileToLoad) → is_name_of name files ≡ false
    → AllByRecursion (λ (y : List ℕ). bytes_eq name y ≡ false) (map (λ (f : FileToLoad). f.name) files)
none_named name [] h = tt
none_named name (f ∷ files) h = by (bytes_eq f.name name) refl h (none_named name files)
  where
    by : (b : Bool) → bytes_eq f.name name ≡ b → (b || list_any (λ (x : FileToLoad). bytes_eq x.name name) files) ≡ false
        → (is_name_of name files ≡ false → AllByRecursion (λ (y : List ℕ). bytes_eq name y ≡ false) (map (λ (x : FileToLoad). x.name) files))
        → AllByRecursion (λ (y : List ℕ). bytes_eq name y ≡ false) (map (λ (x : FileToLoad). x.name) (f ∷ files))
    by true is h on = absurd (cc)
    by false is h on = (other_way f.name name is, on h)

left_true : (a b : Bool) → (not a && b) ≡ true → a ≡ false
left_true true b h = absurd (cc)
left_true false b h = refl

right_true : (a b : Bool) → (not a && b) ≡ true → b ≡ true
right_true true b h = absurd (cc)
right_true false b h = h

pub distinct_names : (files : List FileToLoad) → have_distinct_names files ≡ true → IsDistinct bytes_eq (map (λ (f : FileToLoad). f.name) files)
unfolding IsDistinct
distinct_names [] h = tt
distinct_names (f ∷ files) h = (
  none_named f.name files (left_true (is_name_of f.name files) (have_distinct_names files) h),
  distinct_names files (right_true (is_name_of f.name files) (have_distinct_names files) h),
)

pub distinct_loaded : (files : List FileToLoad) (loaded : List NamedFile) → have_distinct_names files ≡ true → HasNames files loaded
    → IsDistinct bytes_eq (map (λ (f : NamedFile). f.name) loaded)
distinct_loaded files loaded h names = subst (IsDistinct bytes_eq) (sym names) (distinct_names files h)

-- Reloads

not_before : (last : Option ℕ) (time : ℕ) (o : _) → IsNotBefore last time → unless_backwards last time o ≡ o
not_before None time o in_time = refl
not_before (Some last) time o in_time = rw in_time refl

pub refused_files : (held : Held) (w : World) (time : ℕ) (files : List FileToLoad) (refusal : Report) → IsNotBefore w.last time → all_found (content_by held) files ≡ Err refusal
    → reload_asked of_a_run w time (content_by held) files ≡ step_by w time (refuse refusal)
unfolding reload_asked
refused_files held w time files refusal in_time e =
    ap (step_by w time) (not_before w.last time (found_outcome of_a_run w time (all_found (content_by held) files)) in_time ∙ ap (found_outcome of_a_run w time) e)

pub found_files : (held : Held) (w : World) (time : ℕ) (files : List FileToLoad) (loaded : List NamedFile) → all_found (content_by held) files ≡ Ok loaded
    → next of_a_run w (event.Reload time loaded) ≡ reload_asked of_a_run w time (content_by held) files
found_files held w time files loaded e = sym (reload_of_found of_a_run w time (content_by held) files loaded e)

pub backwards_files : (held : Held) (w : World) (time last : ℕ) (files : List FileToLoad) → w.last ≡ Some last → nat_lt time last ≡ true
    → (reload_asked of_a_run w time (content_by held) files ≡ step_by w time (refuse (Backwards last time))) × (asks_in_time w.last time (asks_for (content_by held) files) ≡ [])
unfolding reload_asked
backwards_files held w time last files is before = (
  ap (λ (l : Option ℕ). step_by w time (unless_backwards l time (found_outcome of_a_run w time (all_found (content_by held) files)))) is ∙ rw before refl,
  ap (λ (l : Option ℕ). asks_in_time l time (asks_for (content_by held) files)) is ∙ rw before refl,
)

pub in_time_asks : (last : Option ℕ) (time : ℕ) (asks : List (List ℕ)) → IsNotBefore last time → asks_in_time last time asks ≡ asks
in_time_asks None time asks in_time = refl
in_time_asks (Some last) time asks in_time = rw in_time refl

-- Ends, one part behind another

-- Orders

abbrev pub made : ℕ → Order → Numbered
made number o = record { number = number; order = o }

pub order_turn : (held : Held) (s : State) (o : Numbered) (kind : Order) → o.order ≡ kind → turn held s o ≡ turn_of held s o.number kind
unfolding turn
order_turn held s o kind is = ap (turn_of held s o.number) is

-- an event, and files that are to be loaded

pub event_turn : (held : Held) (s : State) (number : ℕ) (e : Event) → turn held s (made number (order.Event e)) ≡ step_turn s (next of_a_run s.world e) []
unfolding turn
event_turn held s number e = refl

pub files_turn : (held : Held) (s : State) (number time : ℕ) (files : List FileToLoad)
    → turn held s (made number (order.Reload time files))
    ≡ step_turn s (reload_asked of_a_run s.world time (content_by held) files) (asks_in_time s.world.last time (asks_for (content_by held) files))
unfolding turn
files_turn held s number time files = refl

pub files_told : (held : Held) (s : State) (number time : ℕ) (files : List FileToLoad) (content : _) → AreTold content held (turn held s (made number (order.Reload time files))).answer.asks
    → AreTold content held (asks_in_time s.world.last time (asks_for (content_by held) files))
files_told held s number time files content t = subst (λ (x : Turn). AreTold content held x.answer.asks) (files_turn held s number time files) t

-- an order that leaves the world as it is
pub reply_answers : {E : Type 0} (stands_for : E → Store → World → Type 0) (held : Held) (p : Progress) (o : Numbered) (before now : Outside) (first run : Run E) (old new : List ℕ)
    (reply : Reply) → turn held p.state o ≡ reply_turn p.state reply → ReceiversReply reply first run old new → KeepsProgress stands_for first before.store p
    → now.store ≡ before.store → now.files ≡ before.files → AnswersOrder stands_for held p o before now run old new
reply_answers stands_for held p o before now first run old new reply is given keeps store files = record {
  text = given.text ∙ ap (λ (x : Turn). old ++ x.answer.text) (sym is);
  keeps = record {
    world = subst (λ (x : Turn). stands_for run.kept now.store x.state.world) (sym is)
        (subst (λ (x : Store). stands_for run.kept x p.state.world) (sym store) (subst (λ (k : _). stands_for k before.store p.state.world) (sym given.kept) keeps.world));
    receivers = subst (λ (x : Turn). waiting.StandsFor run.queues x.state.receivers) (sym is) given.receivers;
    refused = given.refused ∙ ap (λ (b : Bool). b || reply.refused) keeps.refused ∙ ap (λ (x : Turn). p.refused || x.answer.refused) (sym is);
  };
  asked = subst (λ (x : Turn). Asks before.files.calls now.files.calls (length x.answer.asks)) (sym is)
      (subst (λ (f : Folder). Asks before.files.calls f.calls 0) (sym files) (asks_none before.files.calls));
}

-- it could not be answered
pub reply_leaves : {E : Type 0} (stands_for : E → Store → World → Type 0) (held : Held) (p : Progress) (o : Numbered) (now : Outside) (first : Run E) (r : Result Unit Stop)
    (reply : Reply) → turn held p.state o ≡ reply_turn p.state reply → KeepsProgress stands_for first now.store p
    → ((e : E) (store : Store) (w : World) → stands_for e store w → TellsHistory store w.history) → IfErr r (λ y. y ≡ stop.Memory)
    → IfErr r (LeavesFront (turn held p.state o) p.state.world.history now now)
reply_leaves stands_for held p o now first (Ok x) reply is keeps tells h = tt
reply_leaves stands_for held p o now first (Err y) reply is keeps tells h =
    subst (LeavesFront (turn held p.state o) p.state.world.history now now) (sym h)
    (subst (λ (t : Turn). LeavesFront t p.state.world.history now now stop.Memory) (sym is) (inl (record {
      told = appends_none now.out.taken;
      stays = record { rows = tells first.kept now.store p.state.world keeps.world; count = 0; asked = asks_none now.files.calls; some = omega arith; within = omega arith };
    })))

module _ {E : Type 0} (stands_for : E → Store → World → Type 0) (held : Held) (p : Progress) (o : Numbered) (step : Step) (asks : List (List ℕ)) (before now : Outside)
    (is : turn held p.state o ≡ step_turn p.state step asks) where
  -- its report is told
  pub answers_so : (run : Run E) (old new : List ℕ) (report : Report) (first : Bool) → WorldGives stands_for p.state.world step (length asks) before now run.kept (Ok report)
      → is_refusal step.report ≡ step.refused → new ≡ old ++ shown_report report → run.refused ≡ (first || is_refusal report) → first ≡ p.refused
      → waiting.StandsFor run.queues (receivers_after report p.state.receivers) → AnswersOrder stands_for held p o before now run old new
  answers_so run old new report first g told text refused started receivers = record {
    text = text ∙ ap (λ (r : Report). old ++ shown_report r) g.0 ∙ ap (λ (t : _). old ++ t.answer.text) (sym is);
    keeps = record {
      world = subst (λ (t : _). stands_for run.kept now.store t.state.world) (sym is) g.1;
      receivers = subst (λ (t : _). waiting.StandsFor run.queues t.state.receivers) (sym is)
          (subst (λ (r : Report). waiting.StandsFor run.queues (receivers_after r p.state.receivers)) g.0 receivers);
      refused = refused ∙ ap (λ (r : Report). first || is_refusal r) g.0 ∙ ap (λ (b : Bool). first || b) told ∙ ap (λ (b : Bool). b || step.refused) started
          ∙ ap (λ (t : _). p.refused || t.answer.refused) (sym is);
    };
    asked = subst (λ (t : _). Asks before.files.calls now.files.calls (length t.answer.asks)) (sym is) g.2;
  }

  -- it could not be answered
  pub leaves_so : (kept : E) (s : Stop) → Appends before.out.taken now.out.taken [] → WorldGives stands_for p.state.world step (length asks) before now kept (Err s)
      → LeavesFront (turn held p.state o) p.state.world.history before now s
  leaves_so kept s none g = subst (λ (t : _). LeavesFront t p.state.world.history before now s) (sym is) (by s g)
    where
      by : (s : Stop) → WorldGives stands_for p.state.world step (length asks) before now kept (Err s)
          → LeavesFront (step_turn p.state step asks) p.state.world.history before now s
      by stop.Read g = g
      by stop.Load g = record { told = none; stays = g }
      by stop.Store g = record { told = none; stays = g }
      by (stop.BadRow index) g = g
      by stop.Write g = absurd g
      by stop.Memory g = inl (record { told = none; stays = g })
      by stop.TooLong g = g

  -- its report could not be told
  pub leaves_told : (kept : E) (report : Report) (tells : TellsHistory now.store step.world.history) → Appends before.out.taken now.out.taken []
      → WorldGives stands_for p.state.world step (length asks) before now kept (Ok report) → LeavesFront (turn held p.state o) p.state.world.history before now stop.Memory
  leaves_told kept report tells none g =
      subst (λ (t : _). LeavesFront t p.state.world.history before now stop.Memory) (sym is)
      (inr (record { count = 0; told = none; rows = tells; asked = g.2 }))

  pub leaves_by : (kept : E) (r : Result Unit Stop) (s : Stop) → IsErrAnd r (λ y. y ≡ s) → Appends before.out.taken now.out.taken []
      → WorldGives stands_for p.state.world step (length asks) before now kept (Err s) → IfErr r (LeavesFront (turn held p.state o) p.state.world.history before now)
  leaves_by kept (Ok x) s h none g = absurd h
  leaves_by kept (Err y) s h none g = subst (LeavesFront (turn held p.state o) p.state.world.history before now) (sym h) (leaves_so kept s none g)

  pub leaves_memory : (tells : (e : E) (store : Store) (w : World) → stands_for e store w → TellsHistory store w.history) (kept : E) (report : Report) (r : Result Unit Stop)
      → IsErrAnd r (λ y. y ≡ stop.Memory) → Appends before.out.taken now.out.taken []
      → WorldGives stands_for p.state.world step (length asks) before now kept (Ok report) → IfErr r (LeavesFront (turn held p.state o) p.state.world.history before now)
  leaves_memory tells kept report (Ok x) h none g = absurd h
  leaves_memory tells kept report (Err y) h none g =
      subst (LeavesFront (turn held p.state o) p.state.world.history before now) (sym h) (leaves_told kept report (tells kept now.store step.world g.1) none g)

-- want of memory behind a part that was refused nothing
pub memory_on : {T : Type 0} (bad : ℕ → Type 0) (long : Type 0) (a b : Outside) (r : Result T Stop) → IsErrAnd r (λ y. y ≡ stop.Memory) → NoneRose a b
    → IsInTime a.input.course b.input.course → GoesOn a.files.course b.files.course → GoesOn a.out.course b.out.course → Ends bad long a b r
memory_on {T} bad long a b r h n ti gf go = ends_on T T bad long a b b r stop.Memory h n ti gf go (ends_memory T bad long b)

pub on_one : {T : Type 0} (r : Result T Stop) (A C : Type 0) → OnOk r A → (A → C) → OnOk r C
on_one (Ok x) A C a f = f a
on_one (Err s) A C a f = tt
