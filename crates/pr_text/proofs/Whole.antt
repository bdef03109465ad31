-- Whole lines, and the orders in them.
use Rattle.std.proofs.Common.{◌≡◌, ◌≢◌, ℕ, ◌+◌, ◌≤◌, Bool, true, false, eqb, cond, List, [], ◌∷◌, ◌++◌, refl, sym, ap, ◌∙◌, subst, append_assoc, append-nil, length, length-append, arith}
use Rattle.std.specs.List.{list_all, onto_first}
use Rattle.pr_words.specs.Lines.{lines_of}
use Rattle.pr_text.specs.Orders.{orders_after}
use Rattle.pr_text.specs.declared.script.order.Numbered.{Numbered}
use Rattle.pr_text.proofs.Blocks.{orders_none, orders_more}
use Rattle.pr_text.specs.private.Reading.{TakesOrders}
use Rattle.pr_text.specs.Taken.{is_no_feed, are_whole_lines, IsPrompt}
use Rattle.pr_text.proofs.Feeds.{first_left, some_left}

-- a line with its line feed
pub whole_fed : (line : List ℕ) → are_whole_lines (line ++ 10 ∷ []) ≡ true
whole_fed [] = refl
whole_fed (b ∷ []) = refl
whole_fed (b ∷ c ∷ bytes) = whole_fed (c ∷ bytes)

pub whole_append : (xs ys : List ℕ) → are_whole_lines xs ≡ true → are_whole_lines ys ≡ true → are_whole_lines (xs ++ ys) ≡ true
whole_append [] ys h k = k
whole_append (b ∷ []) [] h k = h
whole_append (b ∷ []) (y ∷ ys) h k = k
whole_append (b ∷ c ∷ bytes) ys h k = whole_append (c ∷ bytes) ys h k

-- the lines of bytes behind whole lines
first_on : (b c : ℕ) (lines rest : List (List ℕ)) → onto_first b (onto_first c lines ++ rest) ≡ onto_first b (onto_first c lines) ++ rest
first_on b c [] rest = refl
first_on b c (first ∷ more) rest = refl

onto_on : (feed : Bool) (b c : ℕ) (lines rest : List (List ℕ))
    → onto_first b (cond feed ([] ∷ lines) (onto_first c lines) ++ rest) ≡ onto_first b (cond feed ([] ∷ lines) (onto_first c lines)) ++ rest
onto_on true b c lines rest = refl
onto_on false b c lines rest = first_on b c lines rest

line_on : (feed : Bool) (b : ℕ) (all lines rest : List (List ℕ)) → all ≡ lines ++ rest → onto_first b (lines ++ rest) ≡ onto_first b lines ++ rest
    → cond feed ([] ∷ all) (onto_first b all) ≡ cond feed ([] ∷ lines) (onto_first b lines) ++ rest
line_on true b all lines rest is on = ap (λ (l : List (List ℕ)). [] ∷ l) is
line_on false b all lines rest is on = ap (onto_first b) is ∙ on

pub lines_append : (xs ys : List ℕ) → are_whole_lines xs ≡ true → lines_of (xs ++ ys) ≡ lines_of xs ++ lines_of ys
lines_append [] ys h = refl
lines_append (b ∷ []) ys h = rw h refl
lines_append (b ∷ c ∷ bytes) ys h =
    line_on (eqb b 10) b (lines_of ((c ∷ bytes) ++ ys)) (lines_of (c ∷ bytes)) (lines_of ys) (lines_append (c ∷ bytes) ys h)
    (onto_on (eqb c 10) b c (lines_of bytes) (lines_of ys))

-- Any bytes are whole lines and what there is of the next one.
pub record Parts (bytes : List ℕ) : Type 0 where
  pub lines : List ℕ
  pub line : List ℕ
  pub joined : bytes ≡ lines ++ line
  pub whole : are_whole_lines lines ≡ true
  pub unended : list_all is_no_feed line ≡ true

no_feed : (b : ℕ) (line : List ℕ) → eqb b 10 ≡ false → list_all is_no_feed line ≡ true → list_all is_no_feed (b ∷ line) ≡ true
no_feed b line is u = rw is u

one_more : (b : ℕ) (bytes : List ℕ) (feed : Bool) → eqb b 10 ≡ feed → Parts bytes → Parts (b ∷ bytes)
one_more b bytes feed is p = by feed is p.lines p.line p.joined p.whole p.unended
  where
    by : (feed : Bool) → eqb b 10 ≡ feed → (lines line : List ℕ) → bytes ≡ lines ++ line → are_whole_lines lines ≡ true → list_all is_no_feed line ≡ true
        → Parts (b ∷ bytes)
    by true is [] line joined whole u =
        record { lines = b ∷ []; line = line; joined = ap (λ (l : List ℕ). b ∷ l) joined; whole = is; unended = u }
    by false is [] line joined whole u =
        record { lines = []; line = b ∷ line; joined = ap (λ (l : List ℕ). b ∷ l) joined; whole = refl; unended = no_feed b line is u }
    by feed is (c ∷ lines) line joined whole u =
        record { lines = b ∷ c ∷ lines; line = line; joined = ap (λ (l : List ℕ). b ∷ l) joined; whole = whole; unended = u }

pub parts : (bytes : List ℕ) → Parts bytes
parts [] = record { lines = []; line = []; joined = refl; whole = refl; unended = refl }
parts (b ∷ bytes) = one_more b bytes (eqb b 10) refl (parts bytes)

-- what follows whole lines, or nothing, adds its lines
pub lines_split : (xs rest more later : List ℕ) → (rest ≢ [] → are_whole_lines xs ≡ true) → rest ≡ more ++ later
    → lines_of (xs ++ more) ≡ lines_of xs ++ lines_of more
lines_split xs rest [] later w is = ap lines_of (append-nil xs) ∙ sym (append-nil (lines_of xs))
lines_split xs rest (b ∷ more) later w is =
    lines_append xs (b ∷ more) (w (subst (λ (x : List ℕ). x ≢ []) (sym is) (first_left (b ∷ more) later (some_left b more))))

-- all bytes were taken
pub prompt_all : (n : ℕ) (bytes rest : List ℕ) (count : ℕ) → rest ≡ [] → length (orders_after n (lines_of bytes)) ≤ count → IsPrompt n bytes rest count
prompt_all n bytes rest count none le =
    let p = parts bytes in
    record {
      lines = p.lines;
      waiting = [];
      line = p.line;
      taken = p.joined ∙ ap (λ (l : List ℕ). p.lines ++ l) (sym (append-nil p.line)) ∙ ap (λ (l : List ℕ). p.lines ++ (p.line ++ l)) (sym none);
      whole = p.whole;
      few = omega (
        arith,
        le,
        orders_more n (lines_of p.lines) (lines_of p.line),
        ap (λ (l : List ℕ). length (orders_after n (lines_of l))) p.joined,
        ap (λ (l : List (List ℕ)). length (orders_after n l)) (lines_append p.lines p.line p.whole),
      );
      waits = refl;
      goes_on = refl;
      unended = p.unended;
    }

-- within a line
pub prompt_line : (n : ℕ) (bytes line rest : List ℕ) → list_all is_no_feed line ≡ true → bytes ≡ line ++ rest → IsPrompt n bytes rest 0
prompt_line n bytes line rest u is = record {
  lines = [];
  waiting = [];
  line = line;
  taken = is;
  whole = refl;
  few = omega (arith, ap length (orders_none n));
  waits = refl;
  goes_on = refl;
  unended = u;
}

no_rest : (ws xs ys zs : List ℕ) → [] ≡ ws ++ (xs ++ (ys ++ zs)) → zs ≡ []
no_rest [] [] [] zs e = sym e
no_rest [] [] (y ∷ ys) zs e = absurd (cc)
no_rest [] (x ∷ xs) ys zs e = absurd (cc)
no_rest (w ∷ ws) xs ys zs e = absurd (cc)

-- Lines were taken that spell these orders, and then what follows was taken.
pub prompt_on : (m n : ℕ) (all bytes rest : List ℕ) (orders : List Numbered) (count : ℕ) → TakesOrders all bytes m n orders → IsPrompt n bytes rest count
    → IsPrompt m all rest (length orders + count)
prompt_on m n all [] rest orders count t p =
    let spelled : orders_after m (lines_of (t.lines ++ [])) ≡ orders ++ orders_after n [] = t.spelled [] [] refl (λ some. absurd (some refl)) in
    prompt_all m all rest (length orders + count) (no_rest p.lines p.waiting p.line rest p.taken)
    (omega (
      arith,
      ap (λ (l : List ℕ). length (orders_after m (lines_of l))) t.taken,
      ap length spelled,
      length-append orders (orders_after n []),
      ap length (orders_none n),
    ))
prompt_on m n all (b ∷ bytes) rest orders count t p =
    let behind : List ℕ = p.waiting ++ (p.line ++ rest) in
    record {
      lines = t.lines ++ p.lines;
      waiting = p.waiting;
      line = p.line;
      taken = t.taken ∙ ap (λ (l : List ℕ). t.lines ++ l) p.taken ∙ sym (append_assoc t.lines p.lines behind);
      whole = whole_append t.lines p.lines (t.whole (some_left b bytes)) p.whole;
      few = omega (
        arith,
        p.few,
        ap length (t.spelled p.lines behind p.taken (λ some. p.whole)),
        length-append orders (orders_after n (lines_of p.lines)),
      );
      waits = p.waits;
      goes_on = p.goes_on;
      unended = p.unended;
    }
