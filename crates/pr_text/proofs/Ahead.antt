-- What the reader of lines hands out, step by step.
use Rattle.std.proofs.Common.{◌≡◌, ◌≢◌, ℕ, ◌+◌, ◌-◌, ◌<◌, ◌≤◌, ◌^◌, min, Bool, true, false, true≢false, not, ◌==◌, List, [], ◌∷◌, ◌++◌, None, Some, IfSome, Result, Ok, Err, IsErrAnd, suc, refl, sym, ap, ◌∙◌, subst, append_assoc, length, length-append, arith}
use Rattle.std.specs.declared.option.Option.{Option}
use Rattle.std.specs.List.{list_all}
use Rattle.std.specs.Io.KnownBytes.{Consumes, Keeps, IsAtEnd}
use Rattle.pr_outside.specs.Courses.{IsInTime, course_after}
use Rattle.pr_outside.specs.declared.course.Course.{Course}
use Rattle.pr_outside.specs.declared.course.Course.TheVariants.{Going, Over, Late}
use Rattle.pr_outside.specs.Causes.{WentUp}
use Rattle.pr_outside.specs.Ends.{AtInput}
use Rattle.pr_outside.specs.Meant.{Input}
use Rattle.pr_outside.specs.Status.{Took}
use Rattle.pr_outside.proofs.Ended.{in_time_same}
use Rattle.pr_outside.specs.declared.status.status.Stop.{Stop}
use Rattle.pr_outside.specs.declared.status.status.Stop.TheVariants.{Read, Load, Store, BadRow, Write, Memory, TooLong}
use Rattle.pr_text.specs.Taken.{is_no_feed, TookWithin}
use Rattle.pr_text.specs.private.LineReading.{ahead, TakesPart, IsLine, IsNext, HandsLine, CountsBytes, CountsLeft, IsCutLine, IsBeyond, IsReadOn}
use Rattle.pr_text.proofs.Feeds.{unended-append, some_left, without_feed-fed, unended_line}
use Rattle.pr_text.proofs.Whole.{whole_fed}

-- what holds where the input stopped a run, handed on
pub at_exit : {T : Type 0} (P Q : Type 0) (r : Result T Stop) (e : Stop) → IsErrAnd r (λ y. y ≡ e) → AtInput {T = T} (Err e) P → (P → Q) → AtInput r Q
at_exit P Q (Ok x) e h p f = absurd h
at_exit {T} P Q (Err y) e h p f = subst (λ (s : Stop). AtInput {T = T} (Err s) Q) (sym h) (on e p)
  where
    on : (s : Stop) → AtInput {T = T} (Err s) P → AtInput {T = T} (Err s) Q
    on Read p = f p
    on Load p = tt
    on Store p = tt
    on (BadRow index) p = tt
    on Write p = tt
    on Memory p = tt
    on TooLong p = f p

pub kept : (a : Option (List ℕ)) → Keeps a a
kept None = tt
kept (Some bytes) = refl

-- nothing was taken yet
pub joined_none : (a : Option (List ℕ)) → Consumes a a []
joined_none None = tt
joined_none (Some bytes) = refl

-- all that was held went to the line
pub joined_part : (a left : Option (List ℕ)) (h0 h1 line0 line1 : List ℕ) → Consumes a (ahead h0 left) line0
    → TakesPart false h0 h1 line0 line1 → Consumes a (ahead h1 left) line1
joined_part None left h0 h1 line0 line1 p t = tt
joined_part (Some bytes) None h0 h1 line0 line1 p t = absurd p
joined_part (Some bytes) (Some left) h0 h1 line0 line1 p t =
    let all : h0 ≡ t.part = (t.all refl).0 in
    let none : h1 ≡ [] = (t.all refl).1 in
    p ∙ ap (λ (h : List ℕ). line0 ++ (h ++ left)) all ∙ sym (append_assoc line0 t.part left)
    ∙ ap (λ (l : List ℕ). l ++ left) (sym t.joined) ∙ ap (λ (h : List ℕ). line1 ++ (h ++ left)) (sym none)

pub unended_part : (ended : Bool) (h0 h1 line0 line1 : List ℕ) → list_all is_no_feed line0 ≡ true → TakesPart ended h0 h1 line0 line1
    → list_all is_no_feed line1 ≡ true
unended_part ended h0 h1 line0 line1 u t =
    ap (list_all is_no_feed) t.joined ∙ unended-append line0 t.part u t.unended

-- the next piece was read
pub joined_fill : (a left0 left1 : Option (List ℕ)) (h0 h1 line : List ℕ) → Consumes a (ahead h0 left0) line → h0 ≡ []
    → Consumes left0 left1 h1 → Consumes a (ahead h1 left1) line
joined_fill None left0 left1 h0 h1 line p none c = tt
joined_fill (Some bytes) None left1 h0 h1 line p none c = absurd p
joined_fill (Some bytes) (Some left0) None h0 h1 line p none c = absurd c
joined_fill (Some bytes) (Some left0) (Some left1) h0 h1 line p none c =
    p ∙ ap (λ (h : List ℕ). line ++ (h ++ left0)) none ∙ ap (λ (l : List ℕ). line ++ l) c

-- a line feed came
fed_bytes : (bytes left h0 h1 line0 line1 : List ℕ) → bytes ≡ line0 ++ (h0 ++ left) → TakesPart true h0 h1 line0 line1
    → bytes ≡ line1 ++ 10 ∷ (h1 ++ left)
fed_bytes bytes left h0 h1 line0 line1 p t =
    p ∙ ap (λ (h : List ℕ). line0 ++ (h ++ left)) (t.feed refl) ∙ ap (λ (l : List ℕ). line0 ++ l) (append_assoc t.part (10 ∷ h1) left)
    ∙ sym (append_assoc line0 t.part (10 ∷ (h1 ++ left))) ∙ ap (λ (l : List ℕ). l ++ 10 ∷ (h1 ++ left)) (sym t.joined)

fed_some : (xs : List ℕ) → xs ++ 10 ∷ [] ≢ []
fed_some [] e = absurd (cc)
fed_some (x ∷ xs) e = absurd (cc)

fed_line : (line rest : List ℕ) → list_all is_no_feed line ≡ true → IsLine (line ++ 10 ∷ []) rest
fed_line line rest u = record {
  some = fed_some line;
  text = ap (list_all is_no_feed) (without_feed-fed line) ∙ u;
  whole = λ left. whole_fed line;
}

pub line_fed : (a left : Option (List ℕ)) (h0 h1 line0 line1 line2 : List ℕ) → Consumes a (ahead h0 left) line0 → list_all is_no_feed line0 ≡ true
    → TakesPart true h0 h1 line0 line1 → line2 ≡ line1 ++ 10 ∷ [] → HandsLine a (ahead h1 left) true line2
line_fed a left h0 h1 line0 line1 line2 p u t is =
    subst (λ (l : List ℕ). HandsLine a (ahead h1 left) true l) (sym is) (taken a left p, next left)
  where
    taken : (a left : Option (List ℕ)) → Consumes a (ahead h0 left) line0 → Consumes a (ahead h1 left) (line1 ++ 10 ∷ [])
    taken None left p = tt
    taken (Some bytes) None p = absurd p
    taken (Some bytes) (Some left) p = fed_bytes bytes left h0 h1 line0 line1 p t ∙ sym (append_assoc line1 (10 ∷ []) (h1 ++ left))

    next : (left : Option (List ℕ)) → IsNext (line1 ++ 10 ∷ []) (ahead h1 left)
    next None = tt
    next (Some left) = fed_line line1 (h1 ++ left) (unended_part true h0 h1 line0 line1 u t)

-- the end of the input came
some_bytes : (n : ℕ) → not (suc n == 0) ≡ true
some_bytes n = grind arith

last : (a rest : Option (List ℕ)) (line : List ℕ) (more : Bool) → more ≡ not (length line == 0) → Consumes a rest line → IsAtEnd rest
    → list_all is_no_feed line ≡ true → HandsLine a rest more line
last a rest [] true is p end u = absurd (true≢false is)
last a rest [] false is p end u = (p, end, refl)
last a rest (b ∷ line) true is p end u = (p, next rest end)
  where
    next : (rest : Option (List ℕ)) → IsAtEnd rest → IsNext (b ∷ line) rest
    next None end = tt
    next (Some rest) end = unended_line (b ∷ line) rest (some_left b line) u end
last a rest (b ∷ line) false is p end u = absurd (true≢false (sym (is ∙ some_bytes (length line))))

at_end : (h : List ℕ) (left : Option (List ℕ)) → h ≡ [] → IsAtEnd left → IsAtEnd (ahead h left)
at_end h None none end = tt
at_end h (Some left) none end = ap (λ (l : List ℕ). l ++ left) none ∙ end

pub line_ended : (a left : Option (List ℕ)) (h line : List ℕ) (more : Bool) → Consumes a (ahead h left) line → h ≡ [] → IsAtEnd left
    → list_all is_no_feed line ≡ true → more ≡ not (length line == 0) → HandsLine a (ahead h left) more line
line_ended a left h line more p none end u is = last a (ahead h left) line more is p (at_end h left none end) u

-- the input stopped the reader within the line
pub line_cut : (a left0 left1 : Option (List ℕ)) (h line : List ℕ) → Consumes a (ahead h left0) line → h ≡ [] → Keeps left0 left1
    → list_all is_no_feed line ≡ true → IsCutLine a left1
line_cut None left0 left1 h line p none same u = tt
line_cut (Some bytes) None left1 h line p none same u = absurd p
line_cut (Some bytes) (Some left0) None h line p none same u = absurd same
line_cut (Some bytes) (Some left0) (Some left1) h line p none same u =
    (line, u, p ∙ ap (λ (h : List ℕ). line ++ (h ++ left0)) none ∙ ap (λ (l : List ℕ). line ++ l) (sym same))

-- the bytes that were read, counted
left_none : (a : Option (List ℕ)) (n : ℕ) → CountsLeft a a n n
left_none None n = tt
left_none (Some bytes) n = refl

left_on : (a b c : Option (List ℕ)) (m n o : ℕ) → CountsLeft a b m n → CountsLeft b c n o → CountsLeft a c m o
left_on None b c m n o p q = tt
left_on (Some x) None c m n o p q = absurd p
left_on (Some x) (Some y) None m n o p q = absurd q
left_on (Some x) (Some y) (Some z) m n o p q = p ∙ q

left_fill : (a b : Option (List ℕ)) (xs : List ℕ) (m n : ℕ) → Consumes a b xs → n ≡ m + length xs → CountsLeft a b m n
left_fill None b xs m n c is = tt
left_fill (Some x) None xs m n c is = absurd c
left_fill (Some x) (Some y) xs m n c is = omega (arith, ap length c, length-append xs y, is)

-- the input's count, by the reader's
went_none : (t n : ℕ) → WentUp t t (n - n)
went_none t n = (omega arith, omega arith)

went_on : (a b c m n o : ℕ) → m ≤ n → n ≤ o → WentUp a b (n - m) → WentUp b c (o - n) → WentUp a c (o - m)
went_on a b c m n o le le2 p q = (omega (arith, p.0, q.0), omega (arith, p.1, q.1))

many_now : (t n : ℕ) → 2 ^ 32 ≤ n → min (t + (2 ^ 32 - n)) (2 ^ 64 - 1) ≤ t
many_now t n le = omega arith

many_on : (a b c m n : ℕ) → m ≤ n → WentUp a b (n - m) → min (b + (2 ^ 32 - n)) (2 ^ 64 - 1) ≤ c → min (a + (2 ^ 32 - m)) (2 ^ 64 - 1) ≤ c
many_on a b c m n le p q = omega (arith, p.1, q)

pub counts_none : (a : Input) (n : ℕ) → CountsBytes a a n n
counts_none a n = record { left = left_none a.left n; grew = omega arith; took = went_none a.taken n }

pub counts_on : (a b c : Input) (m n o : ℕ) → CountsBytes a b m n → CountsBytes b c n o → CountsBytes a c m o
counts_on a b c m n o p q = record {
  left = left_on a.left b.left c.left m n o p.left q.left;
  grew = omega (arith, p.grew, q.grew);
  took = went_on a.taken b.taken c.taken m n o p.grew q.grew p.took q.took;
}

pub counts_fill : (a b : Input) (xs : List ℕ) (m n : ℕ) → Consumes a.left b.left xs → n ≡ m + length xs → Took a b (length xs) → CountsBytes a b m n
counts_fill a b xs m n c is t =
    let by : length xs ≡ n - m = omega (arith, is) in
    record { left = left_fill a.left b.left xs m n c is; grew = omega (arith, is); took = subst (λ (k : ℕ). WentUp a.taken b.taken k) by t }

long_now : (a : Option (List ℕ)) (n : ℕ) → 2 ^ 32 ≤ n → IfSome a (λ rest. 2 ^ 32 ≤ n + length rest)
long_now None n le = tt
long_now (Some rest) n le = omega (arith, le)

long_on : (a b : Option (List ℕ)) (m n : ℕ) → CountsLeft a b m n → IfSome b (λ rest. 2 ^ 32 ≤ n + length rest) → IfSome a (λ rest. 2 ^ 32 ≤ m + length rest)
long_on None b m n c le = tt
long_on (Some x) None m n c le = absurd c
long_on (Some x) (Some y) m n c le = omega (arith, c, le)

pub beyond_now : (a : Input) (n : ℕ) → 2 ^ 32 ≤ n → IsBeyond a a n
beyond_now a n le = record { long = long_now a.left n le; many = many_now a.taken n le }

pub beyond_on : (a b c : Input) (m n : ℕ) → CountsBytes a b m n → IsBeyond b c n → IsBeyond a c m
beyond_on a b c m n p q = record {
  long = long_on a.left b.left m n p.left q.long;
  many = many_on a.taken b.taken c.taken m n p.grew p.took q.many;
}

-- no more than the limit and one piece

pub within_done : (a b : Input) (m n : ℕ) → CountsBytes a b m n → n < 2 ^ 32 + 4096 → TookWithin a b m
within_done a b m n p few = omega (arith, p.grew, p.took.0, few)

pub within_on : (a b c : Input) (m n : ℕ) → CountsBytes a b m n → TookWithin b c n → TookWithin a c m
within_on a b c m n p q = omega (arith, p.grew, p.took.0, q)

-- no read yet
pub read_same : (k : Course) (ended : Bool) → IsReadOn k ended k
read_same k ended = record { in_time = in_time_same k; goes_on = λ going e. e }

going_over : Over ≢ Late
going_over e = absurd (cc)

going_late : Going ≢ Late
going_late e = absurd (cc)

-- one more read, where the end was not met
after_in_time : (last : Bool) → course_after Going last ≢ Late
after_in_time true = going_over
after_in_time false = going_late

pub read_in_time : (first before now : Course) (last : Bool) → IsReadOn first false before → now ≡ course_after before last → IsInTime first now
read_in_time first before now last r is = λ going late.
    after_in_time last (ap (λ (k : Course). course_after k last) (sym (r.goes_on refl going)) ∙ sym is ∙ late)

pub read_more : (first before now : Course) (last ended : Bool) → IsReadOn first false before → now ≡ course_after before last → (ended ≡ false → last ≡ false)
    → IsReadOn first ended now
read_more first before now last ended r is same = record {
  in_time = read_in_time first before now last r is;
  goes_on = λ no going. is ∙ ap (λ (k : Course). course_after k last) (r.goes_on refl going) ∙ ap (course_after Going) (same no);
}
