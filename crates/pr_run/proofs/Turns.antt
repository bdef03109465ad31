-- Orders, one after another: their answers, the histories after them, and the files that they ask for.
use Rattle.std.proofs.Common.{◌≡◌, ℕ, suc, ◌+◌, ◌≤◌, Bool, true, false, ◌||◌, List, [], ◌∷◌, ◌++◌, refl, sym, ap, ◌∙◌, append_assoc, append-nil, length, length-append, map, take, subst, arith}
use Rattle.std.specs.Prelude.{flat_map}
use Rattle.pr_queue.specs.spec_history.declared.entry.Entry.{Entry}
use Rattle.pr_outside.specs.Meant.{Content}
use Rattle.pr_text.specs.spec_world.Outcome.{EventOutcome, refuse, accept, nothing_else, targets_become, groups_become, reloads, begins_anew, unless_backwards}
use Rattle.pr_text.specs.spec_world.Settings.{of_a_run}
use Rattle.pr_text.specs.spec_world.Step.{next, outcome, step_by, time_of}
use Rattle.pr_text.specs.spec_world.Loading.{FileToLoad, all_found, found_outcome, reload_asked}
use Rattle.pr_text.specs.spec_world.World.{World}
use Rattle.pr_text.specs.spec_world.declared.event.Event.{Event}
use Rattle.pr_text.specs.spec_world.declared.report.Report.TheVariants.{Opened}
use Rattle.pr_text.specs.declared.script.order.Numbered.{Numbered}
use Rattle.pr_text.specs.declared.script.order.Order.{Order}
use Rattle.pr_text.specs.declared.script.order.Order.TheVariants as order
use Rattle.pr_text.specs.Printed.{shown_report}
use Rattle.pr_outside.specs.Asks.{asked_by}
use Rattle.pr_outside.specs.Outside.{AreTold, Held}
use Rattle.pr_run.specs.private.Keeping.{Progress, progress_after}
use Rattle.pr_run.specs.private.Standing.{progress_of}
use Rattle.pr_run.specs.Told.{OrderAnswer, State, answers, any_refused, asks_of, content_by, told_of, turn, turn_of}

-- Texts

pub told_none : (history : List Entry) → told_of history [] ≡ shown_report (Opened (length history))
unfolding told_of
told_none history = append-nil (shown_report (Opened (length history)))

text_more : (done : List OrderAnswer) (a : OrderAnswer) → flat_map (λ (x : OrderAnswer). x.text) (done ++ a ∷ []) ≡ flat_map (λ (x : OrderAnswer). x.text) done ++ a.text
text_more [] a = append-nil a.text
text_more (x ∷ done) a =
    ap (λ (l : List ℕ). x.text ++ l) (text_more done a) ∙ sym (append_assoc x.text (flat_map (λ (y : OrderAnswer). y.text) done) a.text)

pub told_more : (history : List Entry) (done : List OrderAnswer) (a : OrderAnswer) → told_of history (done ++ a ∷ []) ≡ told_of history done ++ a.text
unfolding told_of
told_more history done a =
    ap (λ (l : List ℕ). shown_report (Opened (length history)) ++ l) (text_more done a)
    ∙ sym (append_assoc (shown_report (Opened (length history))) (flat_map (λ (x : OrderAnswer). x.text) done) a.text)

-- Answers

pub answers_append : (held : Held) (p : Progress) (xs ys : List Numbered)
    → answers held p.state (xs ++ ys) ≡ answers held p.state xs ++ answers held (progress_of held p xs).state ys
answers_append held p [] ys = refl
answers_append held p (o ∷ xs) ys = ap (λ (l : List OrderAnswer). (turn held p.state o).answer ∷ l) (answers_append held (progress_after held p o) xs ys)

pub progress_on : (held : Held) (p : Progress) (xs : List Numbered) (o : Numbered) → progress_of held p (xs ++ o ∷ []) ≡ progress_after held (progress_of held p xs) o
progress_on held p [] o = refl
progress_on held p (x ∷ xs) o = progress_on held (progress_after held p x) xs o

pub answer_count : (held : Held) (s : State) (orders : List Numbered) → length (answers held s orders) ≡ length orders
answer_count held s [] = refl
answer_count held s (o ∷ orders) = omega (arith, answer_count held (turn held s o).state orders)

or_none : (b : Bool) → b ≡ (b || false)
or_none true = refl
or_none false = refl

or_on : (a b c : Bool) → ((a || b) || c) ≡ (a || (b || c))
or_on true b c = refl
or_on false b c = refl

pub refused_of : (held : Held) (p : Progress) (orders : List Numbered) → (progress_of held p orders).refused ≡ (p.refused || any_refused (answers held p.state orders))
refused_of held p [] = or_none p.refused
refused_of held p (o ∷ orders) =
    refused_of held (progress_after held p o) orders
    ∙ or_on p.refused (turn held p.state o).answer.refused (any_refused (answers held (turn held p.state o).state orders))

-- Histories

step_grows : (w : World) (time : ℕ) (o : EventOutcome) → (step_by w time o).world.history ≡ w.history ++ (step_by w time o).rows
step_grows w time (refuse report) = sym (append-nil w.history)
step_grows w time (accept report entries nothing_else) = refl
step_grows w time (accept report entries (targets_become targets)) = refl
step_grows w time (accept report entries (groups_become groups)) = refl
step_grows w time (accept report entries (reloads groups)) = refl
step_grows w time (accept report entries begins_anew) = refl

pub event_grows : (w : World) (e : Event) → (next of_a_run w e).world.history ≡ w.history ++ (next of_a_run w e).rows
unfolding next
event_grows w e = step_grows w (time_of e) (outcome of_a_run w e)

reload_grows : (held : Held) (w : World) (time : ℕ) (files : List FileToLoad)
    → (reload_asked of_a_run w time (content_by held) files).world.history ≡ w.history ++ (reload_asked of_a_run w time (content_by held) files).rows
unfolding reload_asked
reload_grows held w time files =
    step_grows w time (unless_backwards w.last time (found_outcome of_a_run w time (all_found (content_by held) files)))

by_order : (held : Held) (s : State) (number : ℕ) (o : Order) → (turn_of held s number o).state.world.history ≡ s.world.history ++ (turn_of held s number o).answer.rows
by_order held s number (order.Event e) = event_grows s.world e
by_order held s number (order.Reload time files) = reload_grows held s.world time files
by_order held s number (order.Receiver name) = sym (append-nil s.world.history)
by_order held s number (order.Flush name) = sym (append-nil s.world.history)
by_order held s number order.Bad = sym (append-nil s.world.history)

pub turn_grows : (held : Held) (s : State) (o : Numbered) → (turn held s o).state.world.history ≡ s.world.history ++ (turn held s o).answer.rows
unfolding turn
turn_grows held s o = by_order held s o.number o.order

pub orders_grow : (held : Held) (p : Progress) (orders : List Numbered)
    → (progress_of held p orders).state.world.history ≡ p.state.world.history ++ flat_map (λ (a : OrderAnswer). a.rows) (answers held p.state orders)
orders_grow held p [] = sym (append-nil p.state.world.history)
orders_grow held p (o ∷ orders) =
    let rows : List Entry = (turn held p.state o).answer.rows in
    let more : List Entry = flat_map (λ (a : OrderAnswer). a.rows) (answers held (turn held p.state o).state orders) in
    orders_grow held (progress_after held p o) orders
    ∙ ap (λ (h : List Entry). h ++ more) (turn_grows held p.state o) ∙ append_assoc p.state.world.history rows more

-- Files

pub asks_append : (xs ys : List OrderAnswer) → asks_of (xs ++ ys) ≡ asks_of xs ++ asks_of ys
asks_append [] ys = refl
asks_append (x ∷ xs) ys = ap (λ (l : List (List ℕ)). x.asks ++ l) (asks_append xs ys) ∙ sym (append_assoc x.asks (asks_of xs) (asks_of ys))

pub told_left : (content : Content) (held : Held) (xs ys : List (List ℕ)) → AreTold content held (xs ++ ys) → AreTold content held xs
told_left content held [] ys t = tt
told_left content held (x ∷ xs) ys t = (t.0, told_left content held xs ys t.1)

pub told_right : (content : Content) (held : Held) (xs ys : List (List ℕ)) → AreTold content held (xs ++ ys) → AreTold content held ys
told_right content held [] ys t = t
told_right content held (x ∷ xs) ys t = told_right content held xs ys t.1

pub told_same : (a b : Content) (held : Held) (names : List (List ℕ)) → ((name : List ℕ) → b name ≡ a name) → AreTold a held names → AreTold b held names
told_same a b held [] same t = tt
told_same a b held (name ∷ names) same t = (same name ∙ t.0, told_same a b held names same t.1)

abbrev pub steps_of : List OrderAnswer → List (List (List ℕ))
steps_of all = map (λ (a : OrderAnswer). a.asks) all

pub asked_front : (done rest : List OrderAnswer) → asked_by (length done) (steps_of (done ++ rest)) ≡ length (asks_of done)
asked_front [] rest = refl
asked_front (x ∷ done) rest =
    let steps : List (List ℕ) = flat_map (λ (asks : List (List ℕ)). asks) (take (length done) (steps_of (done ++ rest))) in
    omega (arith, asked_front done rest, length-append x.asks steps, length-append x.asks (asks_of done))

pub asked_next : (done rest : List OrderAnswer) (a : OrderAnswer) → asked_by (length done + 1) (steps_of (done ++ a ∷ rest)) ≡ length (asks_of done) + length a.asks
asked_next [] rest a = omega (arith, length-append a.asks [])
asked_next (x ∷ done) rest a =
    let steps : List (List ℕ) = flat_map (λ (asks : List (List ℕ)). asks) (take (length done + 1) (steps_of (done ++ a ∷ rest))) in
    let one : length (x ∷ done) + 1 ≡ suc (length done + 1) = omega arith in
    ap (λ (k : ℕ). asked_by k (x.asks ∷ steps_of (done ++ a ∷ rest))) one
    ∙ omega (arith, asked_next done rest a, length-append x.asks steps, length-append x.asks (asks_of done))

pub asked_more : (done rest : List OrderAnswer) → length (asks_of done) ≤ asked_by (length done + 1) (steps_of (done ++ rest))
asked_more [] rest = omega arith
asked_more (x ∷ done) rest =
    let steps : List (List ℕ) = flat_map (λ (asks : List (List ℕ)). asks) (take (length done + 1) (steps_of (done ++ rest))) in
    let one : length (x ∷ done) + 1 ≡ suc (length done + 1) = omega arith in
    subst (λ (k : ℕ). length (asks_of (x ∷ done)) ≤ asked_by k (x.asks ∷ steps_of (done ++ rest))) (sym one)
    (omega (arith, asked_more done rest, length-append x.asks steps, length-append x.asks (asks_of done)))
