-- What the reader of orders hands out, step by step.
use Rattle.std.proofs.Common.{◌≡◌, ◌≢◌, ℕ, ◌+◌, Bool, true, false, true≢false, not, ◌&&◌, List, [], ◌∷◌, ◌++◌, None, Some, refl, sym, ap, ◌∙◌, subst, append_assoc, append-nil, length, length-append, arith}
use Rattle.std.specs.declared.option.Option.{Option}
use Rattle.std.specs.List.{list_all}
use Rattle.std.specs.Io.KnownBytes.{Consumes, IsAtEnd}
use Rattle.pr_words.specs.Lines.{lines_of}
use Rattle.pr_text.specs.declared.script.order.Numbered.{Numbered}
use Rattle.pr_text.specs.declared.script.order.Order.{Order}
use Rattle.pr_text.specs.Orders.{order_of, orders_after}
use Rattle.pr_text.specs.Script.{is_passed_over, takes_body, is_body_line, body_of, body_text}
use Rattle.pr_text.specs.private.Started.{ends_body}
use Rattle.pr_text.proofs.Blocks.{numbered, orders_none, orders_pass, orders_take, orders_body}
use Rattle.pr_text.specs.private.LineReading.{ahead, without_feed, IsLine, IsNext, HandsLine, IsCutLine}
use Rattle.pr_text.specs.private.Reading.{IsWaiting, TakesOrders, Takes, HandsOrder, FinishesOrder, TakesLines, TakesBody, EndsBody, IsCutBehind, IsCutBody, IsCutAt}
use Rattle.pr_text.specs.Taken.{is_no_feed, are_whole_lines, may_go_on, IsPrompt}
use Rattle.pr_text.proofs.Feeds.{first_left, more_left, some_left, line_first, whole_or_unended}
use Rattle.pr_text.proofs.Whole.{Parts, whole_append, lines_append, lines_split, parts, prompt_line, prompt_on}

-- A line that was read ahead

-- nothing was read yet
pub ahead_none : (held : List ℕ) (left : Option (List ℕ)) → held ≡ [] → left ≡ ahead held left
ahead_none held None none = refl
ahead_none held (Some left) none = ap Some (sym (ap (λ (h : List ℕ). h ++ left) none))

pub hands_waiting : (waiting held : List ℕ) (left : Option (List ℕ)) → IsWaiting waiting (ahead held left) → waiting ≢ []
    → HandsLine (ahead (waiting ++ held) left) (ahead held left) true waiting
hands_waiting waiting held None w some = (tt, tt)
hands_waiting waiting held (Some left) w some = (append_assoc waiting held left, w some)

-- Lines that were taken, with the orders that they spell

pub takes_none : (a : Option (List ℕ)) (n : ℕ) → Takes a a n n []
takes_none None n = tt
takes_none (Some bytes) n = record { lines = []; taken = refl; whole = λ some. refl; spelled = λ more later is w. refl }

takes_more : (x y z : List ℕ) (m n k : ℕ) (os ps : List Numbered) → TakesOrders x y m n os → TakesOrders y z n k ps → TakesOrders x z m k (os ++ ps)
takes_more x y z m n k os ps p q = record {
  lines = p.lines ++ q.lines;
  taken = p.taken ∙ ap (λ (l : List ℕ). p.lines ++ l) q.taken ∙ sym (append_assoc p.lines q.lines z);
  whole = λ some. whole_append p.lines q.lines (p.whole (subst (λ (l : List ℕ). l ≢ []) (sym q.taken) (more_left q.lines z some))) (q.whole some);
  spelled = λ more later is w.
      let some : later ≢ [] → z ≢ [] = λ s. subst (λ (l : List ℕ). l ≢ []) (sym is) (more_left more later s) in
      let whole : later ≢ [] → are_whole_lines (q.lines ++ more) ≡ true = λ s. whole_append q.lines more (q.whole (some s)) (w s) in
      let there : y ≡ (q.lines ++ more) ++ later = q.taken ∙ ap (λ (l : List ℕ). q.lines ++ l) is ∙ sym (append_assoc q.lines more later) in
      ap (λ (l : List ℕ). orders_after m (lines_of l)) (append_assoc p.lines q.lines more)
      ∙ p.spelled (q.lines ++ more) later there whole
      ∙ ap (λ (l : List Numbered). os ++ l) (q.spelled more later is w)
      ∙ sym (append_assoc os ps (orders_after k (lines_of more)));
}

pub takes_on : (a b c : Option (List ℕ)) (m n k : ℕ) (os ps : List Numbered) → Takes a b m n os → Takes b c n k ps → Takes a c m k (os ++ ps)
takes_on None b c m n k os ps p q = tt
takes_on (Some x) None c m n k os ps p q = absurd p
takes_on (Some x) (Some y) None m n k os ps p q = absurd q
takes_on (Some x) (Some y) (Some z) m n k os ps p q = takes_more x y z m n k os ps p q

-- the orders of all are those of the lines that were taken, and those of the rest
pub follow : (x y : List ℕ) (m n : ℕ) (os : List Numbered) → TakesOrders x y m n os
    → orders_after m (lines_of x) ≡ os ++ orders_after n (lines_of y)
follow x y m n os t =
    ap (λ (l : List ℕ). orders_after m (lines_of l)) t.taken ∙ t.spelled y [] (sym (append-nil y)) (λ some. absurd (some refl))

-- a line that asks for nothing
pub takes_passed : (b c : Option (List ℕ)) (n : ℕ) (line : List ℕ) → HandsLine b c true line → is_passed_over (without_feed line) ≡ true → Takes b c n (n + 1) []
takes_passed None c n line h over = tt
takes_passed (Some y) None n line h over = absurd h.0
takes_passed (Some y) (Some z) n line h over = record {
  lines = line;
  taken = h.0;
  whole = h.1.whole;
  spelled = λ more later is w. ap (orders_after n) (line_first line z more later h.1 is) ∙ orders_pass n (without_feed line) (lines_of more) over;
}

-- a line, and the rest of its order
pub takes_order : (b c d : Option (List ℕ)) (n m k : ℕ) (line : List ℕ) (o : Numbered) → HandsLine b c true line → m ≡ n + 1
    → FinishesOrder (without_feed line) c d m k o → Takes b d n k (o ∷ [])
takes_order None c d n m k line o h is f = tt
takes_order (Some x) None d n m k line o h is f = absurd h.0
takes_order (Some x) (Some y) None n m k line o h is f = absurd f
takes_order (Some x) (Some y) (Some z) n m k line o h is f = record {
  lines = line ++ f.lines;
  taken = h.0 ∙ ap (λ (l : List ℕ). line ++ l) f.taken ∙ sym (append_assoc line f.lines z);
  whole = λ some. whole_append line f.lines (h.1.whole (subst (λ (l : List ℕ). l ≢ []) (sym f.taken) (more_left f.lines z some))) (f.whole some);
  spelled = λ more later there w.
      let behind : y ≡ (f.lines ++ more) ++ later = f.taken ∙ ap (λ (l : List ℕ). f.lines ++ l) there ∙ sym (append_assoc f.lines more later) in
      ap (λ (l : List ℕ). orders_after n (lines_of l)) (append_assoc line f.lines more)
      ∙ ap (orders_after n) (line_first line y (f.lines ++ more) later h.1 behind)
      ∙ f.spelled n is more later there w;
}

-- an order that is its line
pub finishes_whole : (c : Option (List ℕ)) (m : ℕ) (line : List ℕ) (o : Order) → is_passed_over line ≡ false → takes_body line ≡ false
    → o ≡ order_of line [] → FinishesOrder line c c m m (record { number = m; order = o })
finishes_whole None m line o over none is = tt
finishes_whole (Some y) m line o over none is = record {
  lines = [];
  taken = refl;
  whole = λ some. refl;
  spelled = λ n next more later there w.
      subst (λ (k : ℕ). orders_after n (line ∷ lines_of more) ≡ record { number = k; order = o } ∷ orders_after k (lines_of more)) (sym next)
      (subst (λ (q : Order). orders_after n (line ∷ lines_of more) ≡ record { number = n + 1; order = q } ∷ orders_after (n + 1) (lines_of more)) (sym is)
      (orders_take n line (lines_of more) none over));
}

-- Bodies

pub body_none : (a : Option (List ℕ)) (n : ℕ) → TakesBody a a n n []
body_none None n = tt
body_none (Some bytes) n = record { lines = []; taken = refl; whole = λ some. refl; bodies = refl; gives = refl; number = omega arith }

both_on : (b r t : Bool) → (b && r) ≡ true → (r ≡ true → t ≡ true) → (b && t) ≡ true
both_on true r t h f = f h
both_on false r t h f = h

all_on : (xs ys : List (List ℕ)) → list_all is_body_line xs ≡ true → list_all is_body_line ys ≡ true → list_all is_body_line (xs ++ ys) ≡ true
all_on [] ys h k = k
all_on (x ∷ xs) ys h k = both_on (is_body_line x) (list_all is_body_line xs) (list_all is_body_line (xs ++ ys)) h (λ all. all_on xs ys all k)

all_front : (xs ys : List (List ℕ)) → list_all is_body_line (xs ++ ys) ≡ true → list_all is_body_line xs ≡ true
all_front [] ys h = refl
all_front (x ∷ xs) ys h = both_on (is_body_line x) (list_all is_body_line (xs ++ ys)) (list_all is_body_line xs) h (λ all. all_front xs ys all)

body_on_append : (xs ys : List (List ℕ)) → body_of (xs ++ ys) ≡ body_of xs ++ body_of ys
body_on_append [] ys = refl
body_on_append (x ∷ xs) ys =
    ap (λ (l : List ℕ). body_text x ++ l) (body_on_append xs ys) ∙ sym (append_assoc (body_text x) (body_of xs) (body_of ys))

-- one more body line
body_more : (x y z : List ℕ) (m n : ℕ) (body line : List ℕ) → TakesLines x y m n body → y ≡ line ++ z → IsLine line z
    → is_body_line (without_feed line) ≡ true → TakesLines x z m (n + 1) (body ++ body_text (without_feed line))
body_more x y z m n body line t there l is =
    let whole : are_whole_lines t.lines ≡ true = t.whole (subst (λ (v : List ℕ). v ≢ []) (sym there) (first_left line z l.some)) in
    let one : lines_of line ≡ without_feed line ∷ [] = ap lines_of (sym (append-nil line)) ∙ line_first line z [] z l refl in
    let all : lines_of (t.lines ++ line) ≡ lines_of t.lines ++ without_feed line ∷ [] =
    lines_append t.lines line whole ∙ ap (λ (ls : List (List ℕ)). lines_of t.lines ++ ls) one in
    record {
      lines = t.lines ++ line;
      taken = t.taken ∙ ap (λ (v : List ℕ). t.lines ++ v) there ∙ sym (append_assoc t.lines line z);
      whole = λ some. whole_append t.lines line whole (l.whole some);
      bodies = ap (list_all is_body_line) all ∙ all_on (lines_of t.lines) (without_feed line ∷ []) t.bodies (ap (λ (b : Bool). b && true) is);
      gives = ap (λ (b : List ℕ). b ++ body_text (without_feed line)) t.gives
          ∙ ap (λ (b : List ℕ). body_of (lines_of t.lines) ++ b) (sym (append-nil (body_text (without_feed line))))
          ∙ sym (body_on_append (lines_of t.lines) (without_feed line ∷ [])) ∙ ap body_of (sym all);
      number = omega (arith, t.number, ap length all, length-append (lines_of t.lines) (without_feed line ∷ []));
    }

pub body_on : (a b c : Option (List ℕ)) (m n : ℕ) (body line : List ℕ) → TakesBody a b m n body → HandsLine b c true line
    → is_body_line (without_feed line) ≡ true → TakesBody a c m (n + 1) (body ++ body_text (without_feed line))
body_on None b c m n body line t h is = tt
body_on (Some x) None c m n body line t h is = absurd t
body_on (Some x) (Some y) None m n body line t h is = absurd h.0
body_on (Some x) (Some y) (Some z) m n body line t h is = body_more x y z m n body line t h.0 h.1 is

-- the next line is no body line, and is read ahead
pub ends_at : (held line : List ℕ) (left : Option (List ℕ)) → IsNext line (ahead held left) → is_body_line (without_feed line) ≡ false
    → EndsBody (ahead (line ++ held) left)
ends_at held line None l other = tt
ends_at held line (Some left) l other =
    let is : lines_of ((line ++ held) ++ left) ≡ without_feed line ∷ lines_of (held ++ left) =
    ap lines_of (append_assoc line held left) ∙ line_first line (held ++ left) (held ++ left) [] l (sym (append-nil (held ++ left))) in
    ap ends_body is ∙ ap not other

pub body_again : (a b : Option (List ℕ)) (held line : List ℕ) (left : Option (List ℕ)) (m n : ℕ) (body : List ℕ) → TakesBody a b m n body
    → Consumes b (ahead held left) line → TakesBody a (ahead (line ++ held) left) m n body
body_again None b held line left m n body t h = tt
body_again (Some x) None held line left m n body t h = absurd t
body_again (Some x) (Some y) held line None m n body t h = absurd h
body_again (Some x) (Some y) held line (Some left) m n body t h =
    subst (λ (l : List ℕ). TakesLines x l m n body) (h ∙ sym (append_assoc line held left)) t

-- there is no other line
pub ends_none : (c : Option (List ℕ)) → IsAtEnd c → EndsBody c
ends_none None end = tt
ends_none (Some z) end = ap (λ (l : List ℕ). ends_body (lines_of l)) end

pub body_last : (a b c : Option (List ℕ)) (line : List ℕ) (m n : ℕ) (body : List ℕ) → TakesBody a b m n body → HandsLine b c false line → TakesBody a c m n body
body_last None b c line m n body t h = tt
body_last (Some x) None c line m n body t h = absurd t
body_last (Some x) (Some y) None line m n body t h = absurd h.0
body_last (Some x) (Some y) (Some z) line m n body t h =
    subst (λ (l : List ℕ). TakesLines x l m n body) (h.0 ∙ ap (λ (l : List ℕ). l ++ z) h.2) t

pub takes_last : (a b c : Option (List ℕ)) (line : List ℕ) (m n : ℕ) → Takes a b m n [] → HandsLine b c false line → HandsOrder a c m n None
takes_last None b c line m n t h = (tt, h.1)
takes_last (Some x) None c line m n t h = absurd t
takes_last (Some x) (Some y) None line m n t h = absurd h.0
takes_last (Some x) (Some y) (Some z) line m n t h =
    (subst (λ (l : List ℕ). TakesOrders x l m n []) (h.0 ∙ ap (λ (l : List ℕ). l ++ z) h.2) t, h.1)

-- a front of what ends a body ends it
ends_front : (xs ys : List (List ℕ)) → ends_body (xs ++ ys) ≡ true → ends_body xs ≡ true
ends_front [] ys h = refl
ends_front (x ∷ xs) ys h = h

-- an order with its body
pub finishes_body : (c d : Option (List ℕ)) (m k : ℕ) (line body : List ℕ) (o : Order) → is_passed_over line ≡ false → takes_body line ≡ true
    → o ≡ order_of line body → TakesBody c d m k body → EndsBody d → FinishesOrder line c d m k (record { number = m; order = o })
finishes_body None d m k line body o over takes is t e = tt
finishes_body (Some y) None m k line body o over takes is t e = absurd t
finishes_body (Some y) (Some z) m k line body o over takes is t e = record {
  lines = t.lines;
  taken = t.taken;
  whole = t.whole;
  spelled = λ n next more later there w.
      let ends : ends_body (lines_of more) ≡ true =
      ends_front (lines_of more) (lines_of later)
      (sym (ap ends_body (ap lines_of there ∙ lines_split more later later [] w (sym (append-nil later)))) ∙ e) in
      let count : k ≡ n + 1 + length (lines_of t.lines) = omega (arith, t.number, next) in
      let here : orders_after n (line ∷ (lines_of t.lines ++ lines_of more)) ≡ numbered (n + 1) line (lines_of t.lines) ∷ orders_after k (lines_of more) =
      orders_body n k line (lines_of t.lines) (lines_of more) takes over t.bodies ends count in
      let order_is : order_of line (body_of (lines_of t.lines)) ≡ o = sym (is ∙ ap (λ (b : List ℕ). order_of line b) t.gives) in
      ap (λ (ls : List (List ℕ)). orders_after n (line ∷ ls)) (lines_split t.lines z more later t.whole there)
      ∙ here
      ∙ ap (λ (q : Order). record { number = n + 1; order = q } ∷ orders_after k (lines_of more)) order_is
      ∙ ap (λ (j : ℕ). record { number = j; order = o } ∷ orders_after k (lines_of more)) (sym next);
}

-- Where the input stopped the reader

-- within a line behind body lines
cut_behind : (x y left : List ℕ) (m n : ℕ) (body line : List ℕ) → TakesLines x y m n body → list_all is_no_feed line ≡ true → y ≡ line ++ left → IsCutBehind x left
cut_behind x [] left m n body line t u there =
    let p : Parts t.lines = parts t.lines in
    let none : left ≡ [] = no_rest line left there in
    record {
      lines = p.lines;
      line = p.line;
      taken = t.taken ∙ append-nil t.lines ∙ p.joined ∙ ap (λ (l : List ℕ). p.lines ++ l) (sym (append-nil p.line)) ∙ ap (λ (l : List ℕ). p.lines ++ (p.line ++ l)) (sym none);
      whole = p.whole;
      bodies = all_front (lines_of p.lines) (lines_of p.line)
          (ap (list_all is_body_line) (sym (ap lines_of p.joined ∙ lines_append p.lines p.line p.whole)) ∙ t.bodies);
      unended = p.unended;
    }
  where
    no_rest : (xs ys : List ℕ) → [] ≡ xs ++ ys → ys ≡ []
    no_rest [] ys e = sym e
    no_rest (x ∷ xs) ys e = absurd (cc)
cut_behind x (b ∷ y) left m n body line t u there = record {
  lines = t.lines;
  line = line;
  taken = t.taken ∙ ap (λ (l : List ℕ). t.lines ++ l) there;
  whole = t.whole (some_left b y);
  bodies = t.bodies;
  unended = u;
}

pub body_cut : (a b left : Option (List ℕ)) (m n : ℕ) (body : List ℕ) → TakesBody a b m n body → IsCutLine b left → IsCutBody a left
body_cut None b left m n body t c = tt
body_cut (Some x) None left m n body t c = absurd t
body_cut (Some x) (Some y) None m n body t c = absurd c
body_cut (Some x) (Some y) (Some left) m n body t c = cut_behind x y left m n body c.0 t c.1 c.2

-- within a line behind lines that ask for nothing
pub line_cut_at : (a b left : Option (List ℕ)) (m n : ℕ) → Takes a b m n [] → IsCutLine b left → IsCutAt a left m
line_cut_at None b left m n t c = tt
line_cut_at (Some x) None left m n t c = absurd t
line_cut_at (Some x) (Some y) None m n t c = absurd c
line_cut_at (Some x) (Some y) (Some left) m n t c = prompt_on m n x y left [] 0 t (prompt_line n y c.0 left c.1 c.2)

none_left : (line xs : List ℕ) → (xs ≢ [] → are_whole_lines line ≡ true) → are_whole_lines line ≡ false → xs ≡ []
none_left line [] w other = refl
none_left line (x ∷ xs) w other = absurd (true≢false (sym (w (some_left x xs)) ∙ other))

last_left : (xs ws vs : List ℕ) → [] ≡ ws ++ (vs ++ xs) → xs ≡ []
last_left xs [] [] e = sym e
last_left xs [] (v ∷ vs) e = absurd (cc)
last_left xs (w ∷ ws) vs e = absurd (cc)

-- behind a line that takes a body, and body lines
prompt_body : (n : ℕ) (y z left : List ℕ) (line : List ℕ) → y ≡ line ++ z → IsLine line z → takes_body (without_feed line) ≡ true → IsCutBehind z left → IsPrompt n y left 0
prompt_body n y z left line there l takes c = by (are_whole_lines line) refl
  where
    one : lines_of line ≡ without_feed line ∷ []
    one = ap lines_of (sym (append-nil line)) ∙ line_first line z [] z l refl

    by : (t : Bool) → are_whole_lines line ≡ t → IsPrompt n y left 0
    by true whole =
        let all : lines_of (line ++ c.lines) ≡ without_feed line ∷ lines_of c.lines =
        lines_append line c.lines whole ∙ ap (λ (ls : List (List ℕ)). ls ++ lines_of c.lines) one in
        record {
          lines = [];
          waiting = line ++ c.lines;
          line = c.line;
          taken = there ∙ ap (λ (l : List ℕ). line ++ l) c.taken ∙ sym (append_assoc line c.lines (c.line ++ left));
          whole = refl;
          few = omega (arith, ap length (orders_none n));
          waits = whole_append line c.lines whole c.whole;
          goes_on = ap may_go_on all ∙ ap (λ (t : Bool). t && list_all is_body_line (lines_of c.lines)) takes ∙ c.bodies;
          unended = c.unended;
        }
    by false other =
        let none : z ≡ [] = none_left line z l.whole other in
        prompt_line n y line left (whole_or_unended line l.text other)
        (there ∙ ap (λ (v : List ℕ). line ++ v) (none ∙ sym (last_left left c.lines c.line (sym none ∙ c.taken))))

pub body_cut_at : (a b c left : Option (List ℕ)) (m n : ℕ) (line : List ℕ) → Takes a b m n [] → HandsLine b c true line
    → takes_body (without_feed line) ≡ true → IsCutBody c left → IsCutAt a left m
body_cut_at None b c left m n line t h takes cut = tt
body_cut_at (Some x) None c left m n line t h takes cut = absurd t
body_cut_at (Some x) (Some y) None left m n line t h takes cut = absurd h.0
body_cut_at (Some x) (Some y) (Some z) None m n line t h takes cut = absurd cut
body_cut_at (Some x) (Some y) (Some z) (Some left) m n line t h takes cut =
    prompt_on m n x y left [] 0 t (prompt_body n y z left line h.0 h.1 takes cut)
