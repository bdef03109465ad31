-- What the pieces of a plan write, keep and ask for.
use Rattle.std.proofs.Common.{◌≡◌, ℕ, zero, suc, ◌≤◌, true, List, [], ◌∷◌, ◌++◌, length, map, take, flat_map, refl, sym, ap, ◌∙◌, append_assoc, append-nil, arith}
use Rattle.std.proofs.lemmas.List.{length-map, take-append-le, length-append, take-append-drop}
use Rattle.std.proofs.Common.{drop}
use Rattle.pr_engine.specs.spec_history.declared.entry.Entry.{Entry}
use Rattle.pr_backfill.specs.pr_text.spec_rules.Settings.{of_a_run}
use Rattle.pr_run.specs.spec_world.Step.{next, rows_of}
use Rattle.pr_run.specs.spec_world.World.{World}
use Rattle.pr_run.specs.spec_world.declared.event.Event.{Event}
use Rattle.pr_run.specs.Told.{OrderAnswer, told_of}
use Rattle.pr_backfill.specs.Filled.{FillStep, rows_filled}
use Rattle.pr_backfill.specs.Text.{backfilled_line, begun_text, fill_text, step_text}
use Rattle.pr_outside.specs.Checks.{Checked, ends}
use Rattle.pr_outside.specs.FileChecks.{Told, texts, all_asks as asked_of_files}
use Rattle.pr_top.specs.Plan.{Piece, Plan, all_asks, all_rows, all_text, answering, checking, fill_plan, filling, opening, script_plan, stepping, writing}

-- Lists

over_map : {A B C : Type 0} (g : B → List C) (f : A → B) (xs : List A) → flat_map g (map f xs) ≡ flat_map (λ (x : A). g (f x)) xs
over_map g f [] = refl
over_map g f (x ∷ xs) = ap (λ r. g (f x) ++ r) (over_map g f xs)

take_map : {A B : Type 0} (f : A → B) (n : ℕ) (xs : List A) → take n (map f xs) ≡ map f (take n xs)
take_map f zero xs = refl
take_map f (suc n) [] = refl
take_map f (suc n) (x ∷ xs) = ap (λ r. f x ∷ r) (take_map f n xs)

front_of_map : {A B C : Type 0} (g : B → List C) (f : A → B) (n : ℕ) (xs : List A) → flat_map g (take n (map f xs)) ≡ flat_map (λ (x : A). g (f x)) (take n xs)
front_of_map g f n xs = ap (flat_map g) (take_map f n xs) ∙ over_map g f (take n xs)

flat_of_append : {A C : Type 0} (g : A → List C) (xs ys : List A) → flat_map g (xs ++ ys) ≡ flat_map g xs ++ flat_map g ys
flat_of_append g [] ys = refl
flat_of_append g (x ∷ xs) ys = ap (λ r. g x ++ r) (flat_of_append g xs ys) ∙ sym (append_assoc (g x) (flat_map g xs) (flat_map g ys))

-- A script

pub script_text : (history : List Entry) (answers : List OrderAnswer) → all_text (script_plan history answers).pieces ≡ told_of history answers
unfolding told_of
script_text history answers = ap (λ r. (opening history).text ++ r) (over_map (λ (p : Piece). p.text) answering answers)

pub script_front : (history : List Entry) (answers : List OrderAnswer) (n : ℕ) → all_text (take (suc n) (script_plan history answers).pieces) ≡ told_of history (take n answers)
unfolding told_of
script_front history answers n = ap (λ r. (opening history).text ++ r) (front_of_map (λ (p : Piece). p.text) answering n answers)

pub script_rows : (history : List Entry) (answers : List OrderAnswer) → all_rows (script_plan history answers).pieces ≡ flat_map (λ (a : OrderAnswer). a.rows) answers
script_rows history answers = over_map (λ (p : Piece). p.rows) answering answers

pub script_rows_front : (history : List Entry) (answers : List OrderAnswer) (n : ℕ)
    → all_rows (take (suc n) (script_plan history answers).pieces) ≡ flat_map (λ (a : OrderAnswer). a.rows) (take n answers)
script_rows_front history answers n = front_of_map (λ (p : Piece). p.rows) answering n answers

pub script_asks : (history : List Entry) (answers : List OrderAnswer) → all_asks (script_plan history answers).pieces ≡ flat_map (λ (a : OrderAnswer). a.asks) answers
script_asks history answers = over_map (λ (p : Piece). p.asks) answering answers

pub script_length : (history : List Entry) (answers : List OrderAnswer) (n : ℕ) → n ≤ length answers → suc n ≤ length (script_plan history answers).pieces
script_length history answers n h = omega (arith, h, length-map answers answering)

-- Files

pub files_text : (tolds : List Told) → all_text (map checking tolds) ≡ texts tolds
files_text tolds = over_map (λ (p : Piece). p.text) checking tolds

pub files_front : (tolds : List Told) (n : ℕ) → all_text (take n (map checking tolds)) ≡ texts (take n tolds)
files_front tolds n = front_of_map (λ (p : Piece). p.text) checking n tolds

pub files_asks : (tolds : List Told) → all_asks (map checking tolds) ≡ asked_of_files tolds
files_asks tolds = over_map (λ (p : Piece). p.asks) checking tolds

-- A text alone

-- what is told of an input
abbrev pub input_plan : Checked → Plan
input_plan checked = record { pieces = writing checked.text ∷ []; status = ends checked.verdict; reads = true }

pub lone_text : (text : List ℕ) → all_text (writing text ∷ []) ≡ text
lone_text text = append-nil text

-- An exercise

step_text_none : (w : World) (events : List Event) (n : ℕ) → all_text (take n (stepping w events)) ≡ []
step_text_none w events zero = refl
step_text_none w [] (suc n) = refl
step_text_none w (e ∷ events) (suc n) = step_text_none (next of_a_run w e).world events n

no_step_text : (w : World) (events : List Event) → all_text (stepping w events) ≡ []
no_step_text w [] = refl
no_step_text w (e ∷ events) = no_step_text (next of_a_run w e).world events

step_rows : (w : World) (events : List Event) (n : ℕ) → all_rows (take n (stepping w events)) ≡ rows_of of_a_run w (take n events)
step_rows w events zero = refl
step_rows w [] (suc n) = refl
step_rows w (e ∷ events) (suc n) = ap (λ r. (next of_a_run w e).rows ++ r) (step_rows (next of_a_run w e).world events n)

all_step_rows : (w : World) (events : List Event) → all_rows (stepping w events) ≡ rows_of of_a_run w events
all_step_rows w [] = refl
all_step_rows w (e ∷ events) = ap (λ r. (next of_a_run w e).rows ++ r) (all_step_rows (next of_a_run w e).world events)

pub steps_length : (w : World) (events : List Event) → length (stepping w events) ≡ length events
steps_length w [] = refl
steps_length w (e ∷ events) = ap suc (steps_length (next of_a_run w e).world events)

-- so many events, and then a text
abbrev stepped_then : World → List Event → List ℕ → List Piece
stepped_then w events text = stepping w events ++ writing text ∷ []

pub summed_text : (w : World) (events : List Event) (text : List ℕ) → all_text (stepped_then w events text) ≡ text
summed_text w events text =
    flat_of_append (λ (p : Piece). p.text) (stepping w events) (writing text ∷ [])
    ∙ ap (λ r. r ++ (text ++ [])) (no_step_text w events) ∙ append-nil text

pub summed_rows : (w : World) (events : List Event) (text : List ℕ) → all_rows (stepped_then w events text) ≡ rows_of of_a_run w events
summed_rows w events text =
    flat_of_append (λ (p : Piece). p.rows) (stepping w events) (writing text ∷ [])
    ∙ append-nil (all_rows (stepping w events)) ∙ all_step_rows w events

pub summed_asks : (w : World) (events : List Event) (text : List ℕ) → all_asks (stepped_then w events text) ≡ []
summed_asks w [] text = refl
summed_asks w (e ∷ events) text = summed_asks (next of_a_run w e).world events text

front_of_steps : (w : World) (events : List Event) (text : List ℕ) (n : ℕ) → n ≤ length events → take n (stepped_then w events text) ≡ take n (stepping w events)
front_of_steps w events text n h = take-append-le n (stepping w events) (writing text ∷ []) (omega (arith, h, steps_length w events))

pub summed_front_text : (w : World) (events : List Event) (text : List ℕ) (n : ℕ) → n ≤ length events → all_text (take n (stepped_then w events text)) ≡ []
summed_front_text w events text n h = ap all_text (front_of_steps w events text n h) ∙ step_text_none w events n

pub summed_front_rows : (w : World) (events : List Event) (text : List ℕ) (n : ℕ) → n ≤ length events → all_rows (take n (stepped_then w events text)) ≡ rows_of of_a_run w (take n events)
summed_front_rows w events text n h = ap all_rows (front_of_steps w events text n h) ∙ step_rows w events n

pub summed_length : (w : World) (events : List Event) (text : List ℕ) → length (stepped_then w events text) ≡ suc (length events)
summed_length w events text = omega (arith, length-append (stepping w events) (writing text ∷ []), steps_length w events)

-- A backfill

-- what follows the files
abbrev fill_pieces : List Entry → List FillStep → List Piece
fill_pieces history steps = (fill_plan history steps).pieces

pub fill_whole_text : (history : List Entry) (steps : List FillStep) → all_text (fill_pieces history steps) ≡ fill_text (length history) steps
fill_whole_text history steps =
    let last = backfilled_line (length (rows_filled steps)) in
    let opened = (opening history).text in
    ap (λ r. opened ++ r) (flat_of_append (λ (p : Piece). p.text) (map filling steps) (writing last ∷ []))
    ∙ ap (λ r. opened ++ (r ++ (last ++ []))) (over_map (λ (p : Piece). p.text) filling steps)
    ∙ ap (λ r. opened ++ (flat_map step_text steps ++ r)) (append-nil last)
    ∙ sym (append_assoc opened (flat_map step_text steps) last)

pub fill_whole_rows : (history : List Entry) (steps : List FillStep) → all_rows (fill_pieces history steps) ≡ rows_filled steps
fill_whole_rows history steps =
    flat_of_append (λ (p : Piece). p.rows) (map filling steps) (writing (backfilled_line (length (rows_filled steps))) ∷ [])
    ∙ append-nil (all_rows (map filling steps)) ∙ over_map (λ (p : Piece). p.rows) filling steps

fill_front : (history : List Entry) (steps : List FillStep) (n : ℕ) → n ≤ length steps → take (suc n) (fill_pieces history steps) ≡ opening history ∷ take n (map filling steps)
fill_front history steps n h =
    ap (λ r. opening history ∷ r) (take-append-le n (map filling steps) (writing (backfilled_line (length (rows_filled steps))) ∷ []) (omega (arith, h, length-map steps filling)))

pub fill_front_text : (history : List Entry) (steps : List FillStep) (n : ℕ) → n ≤ length steps → all_text (take (suc n) (fill_pieces history steps)) ≡ begun_text (length history) (take n steps)
fill_front_text history steps n h =
    ap all_text (fill_front history steps n h) ∙ ap (λ r. (opening history).text ++ r) (front_of_map (λ (p : Piece). p.text) filling n steps)

pub fill_front_rows : (history : List Entry) (steps : List FillStep) (n : ℕ) → n ≤ length steps → all_rows (take (suc n) (fill_pieces history steps)) ≡ rows_filled (take n steps)
fill_front_rows history steps n h = ap all_rows (fill_front history steps n h) ∙ front_of_map (λ (p : Piece). p.rows) filling n steps

pub fill_length : (history : List Entry) (steps : List FillStep) → length (fill_pieces history steps) ≡ suc (suc (length steps))
fill_length history steps =
    omega (arith, length-append (map filling steps) (writing (backfilled_line (length (rows_filled steps))) ∷ []), length-map steps filling)

no_asks : (steps : List FillStep) (last : List ℕ) → all_asks (map filling steps ++ writing last ∷ []) ≡ []
no_asks [] last = refl
no_asks (s ∷ steps) last = no_asks steps last

pub fill_asks : (history : List Entry) (steps : List FillStep) → all_asks (fill_pieces history steps) ≡ []
fill_asks history steps = no_asks steps (backfilled_line (length (rows_filled steps)))

-- a front of the whole text that is no longer than the text of some evaluations is a front of that
pub begun_front : (history : List Entry) (steps : List FillStep) (n count : ℕ) → count ≤ length (begun_text (length history) (take n steps))
    → take count (fill_text (length history) steps) ≡ take count (begun_text (length history) (take n steps))
begun_front history steps n count h =
    let opened = (opening history).text in
    let last = backfilled_line (length (rows_filled steps)) in
    let front = flat_map step_text (take n steps) in
    let rest = flat_map step_text (drop n steps) in
    ap (take count) (whole opened last) ∙ take-append-le count (opened ++ front) (rest ++ last) h
  where
    whole : (opened last : List ℕ) → (opened ++ flat_map step_text steps) ++ last ≡ (opened ++ flat_map step_text (take n steps)) ++ (flat_map step_text (drop n steps) ++ last)
    whole opened last =
        let front = flat_map step_text (take n steps) in
        let rest = flat_map step_text (drop n steps) in
        ap (λ (ss : List FillStep). (opened ++ flat_map step_text ss) ++ last) (sym (take-append-drop n steps))
        ∙ ap (λ r. (opened ++ r) ++ last) (flat_of_append step_text (take n steps) (drop n steps))
        ∙ ap (λ r. r ++ last) (sym (append_assoc opened front rest)) ∙ append_assoc (opened ++ front) rest last
