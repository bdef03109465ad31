-- The places that a reader of a text comes to are places of that text, each further on.
use Rattle.std.proofs.Common.{◌≡◌, ℕ, suc, zero, ◌+◌, ◌-◌, ◌<◌, ◌≤◌, ◌==◌, nat_lt, Bool, true, false, not, ◌&&◌, ◌||◌, if◌then◌else◌, List, [], ◌∷◌, ◌++◌, Option, Some, None, length, drop, get_or, refl, sym, subst, ap, ◌∙◌, arith, drop-drop, length-drop, ◌⊎◌, inl, inr}
use Rattle.std.proofs.lemmas.Bool.{cases_lt}
use Rattle.pr_words.specs.Lines.{text_lines}
use Rattle.pr_yaml.specs.Bytes.{no_text, has_no_text, is_bare, blanks_len, legible, without_mark}
use Rattle.pr_yaml.specs.Scan.{left, lines_size}
use Rattle.pr_yaml.specs.private.Rising.{IsBefore, AreRising, StandsIn, AllStandIn}
use Rattle.pr_yaml.specs.Lines.{Cursor, folded_break, along, line_start, end_line}
use Rattle.pr_yaml.specs.Plain.{plain_below, plain_part, plain_len, plain_ending, goes_on, by_ending, after_part, indented}
use Rattle.pr_yaml.specs.Quoted.{quoted_below, quoted_break, quoted_line, by_line, cut_fault, after_bytes}
use Rattle.pr_yaml.specs.Block.{block_lines, belongs, by_row, row_of, row_break, begins_with_blank, earlier_of, indentation, header_fault, after_chomp, chomp_of}
use Rattle.pr_yaml.specs.Tokens.{takes, takes_text, fault_at, plain_by, closed_by, colon_next, quoted_by, quoted_at, block_by_header, token_at, token_in, after_blanks, by_sign, sign_of, part_at, known_of, may_stand, to_next_line, is_indented_by_tab, form_of, is_fresh, may_be_key, other, Scans, no_more, past_gap, one_more, stopped, first_state, HasPlaces}
use Rattle.pr_yaml.specs.declared.yaml_scan.scalar.Scalar.{Scalar}
use Rattle.pr_yaml.specs.declared.yaml_scan.scalar.Scalar.TheVariants.{Found, Broken}
use Rattle.pr_yaml.specs.declared.yaml_scan.plain.Ending.{Ending}
use Rattle.pr_yaml.specs.declared.yaml_scan.plain.Ending.TheVariants.{LineEnd, AtColon, AtNoText, AtOther}
use Rattle.pr_yaml.specs.declared.yaml_scan.quoted.Quote.{Quote}
use Rattle.pr_yaml.specs.declared.yaml_scan.quoted.Within.TheVariants.{InText}
use Rattle.pr_yaml.specs.declared.yaml_scan.quoted.QuotedLine.{QuotedLine}
use Rattle.pr_yaml.specs.declared.yaml_scan.quoted.QuotedLine.TheVariants.{Closed, OpenEnd, JoinedEnd, CutEnd, BadByte}
use Rattle.pr_yaml.specs.declared.yaml_scan.block.Style.{Style}
use Rattle.pr_yaml.specs.declared.yaml_scan.block.Chomp.{Chomp}
use Rattle.pr_yaml.specs.declared.yaml_scan.block.Earlier.{Earlier}
use Rattle.pr_yaml.specs.declared.yaml_scan.block.Earlier.TheVariants.{Nothing}
use Rattle.pr_yaml.specs.declared.yaml_scan.fault.YamlKind.{YamlKind}
use Rattle.pr_yaml.specs.declared.yaml_scan.fault.YamlKind.TheVariants.{NotText}
use Rattle.pr_yaml.specs.declared.yaml_scan.fault.BadPlace.{BadPlace}
use Rattle.pr_yaml.specs.declared.yaml_scan.first.First.{First}
use Rattle.pr_yaml.specs.declared.yaml_scan.first.First.TheVariants.{FlowSign, QuoteMark, BlockMark, Property, Reserved, DashMark, NoToken, Other}
use Rattle.pr_yaml.specs.declared.yaml_scan.token.Token.{Token}
use Rattle.pr_yaml.specs.declared.yaml_scan.line.DocumentSign.{DocumentSign}
use Rattle.pr_yaml.specs.declared.yaml_scan.state.Known.{Known}
use Rattle.pr_yaml.specs.declared.yaml_scan.state.State.{State}
use Rattle.pr_yaml.specs.declared.yaml_scan.state.Document.{Document}
use Rattle.pr_yaml.specs.declared.yaml_scan.state.Document.TheVariants.{Implied, Begun, Ended}
use Rattle.pr_yaml.specs.declared.yaml_scan.state.Part.{Part}
use Rattle.pr_yaml.specs.declared.yaml_scan.state.Part.TheVariants.{Over, Gap, Token as TokenPart, Fault}
use Rattle.pr_yaml.proofs.Shorter.{IsShorter, part_shorter, token_in_shorter, plain_some, after_blanks_byte}

-- the place p is the end of the text, or a place of these lines
pub record IsIn (lines : List (List ℕ)) (p : Cursor) : Type 0 where
  pub from : 1 ≤ p.line
  pub here : p.here ≡ drop p.column (get_or lines (p.line - 1) [])
  pub below : p.below ≡ drop p.line lines

abbrev pub IsOf : List (List ℕ) → Cursor → Type 0
IsOf lines p = ((p.here ≡ []) × (p.below ≡ [])) ⊎ IsIn lines p

drop_nothing : (n : ℕ) (xs : List ℕ) → xs ≡ [] → drop n xs ≡ []
drop_nothing zero xs e = e
drop_nothing (suc n) [] e = refl
drop_nothing (suc n) (x ∷ xs) e = absurd cc

one_on : (line : ℕ) (lines : List (List ℕ)) (m : List ℕ) (more : List (List ℕ)) → drop line lines ≡ m ∷ more → (get_or lines line [] ≡ m) × (drop (line + 1) lines ≡ more)
one_on zero [] m more e = absurd cc
one_on zero (l ∷ lines) m more e = (cc, cc)
one_on (suc line) [] m more e = absurd cc
one_on (suc line) (l ∷ lines) m more e =
    let again = one_on line lines m more e in
    let n : suc line + 1 ≡ suc (line + 1) = omega arith in
    (again.0, rw n again.1)

module _ (lines : List (List ℕ)) where
  along_of : (n : ℕ) (p : Cursor) → IsOf lines p → IsOf lines (along n p)
  along_of n p (inl h) = inl (drop_nothing n p.here h.0, h.1)
  along_of n p (inr h) = inr (record { from = h.from; here = ap (drop n) h.here ∙ drop-drop n p.column (get_or lines (p.line - 1) []); below = h.below })

  below_of : (line : ℕ) (below : List (List ℕ)) → 1 ≤ line → below ≡ drop line lines → IsOf lines (line_start (line + 1) below)
  below_of line [] h e = inl (refl, refl)
  below_of line (m ∷ more) h e =
      let on = one_on line lines m more (sym e) in
      let n : line + 1 - 1 ≡ line = omega arith in
      inr (record { from = omega arith; here = sym on.0 ∙ ap (λ k. get_or lines k []) (sym n); below = sym on.1 })

  start_of : (p : Cursor) → IsOf lines p → IsOf lines (line_start (p.line + 1) p.below)
  start_of p (inl h) = subst (λ b. IsOf lines (line_start (p.line + 1) b)) (sym h.1) (inl (refl, refl))
  start_of p (inr h) = below_of p.line p.below h.from h.below

  abbrev EndsOf : Scalar → Type 0
  EndsOf (Found text end) = IsOf lines end
  EndsOf (Broken line kind) = Unit {0}

  one_end : (b : Bool) (x y : Scalar) → EndsOf x → EndsOf y → EndsOf (if b then x else y)
  one_end true x y h k = h
  one_end false x y h k = k

  by_ending_of : (e : Ending) (more : Scalar) (line : ℕ) (text : List ℕ) (end : Cursor) → EndsOf more → IsOf lines end → EndsOf (by_ending e more line text end)
  by_ending_of LineEnd more line text end h k = h
  by_ending_of AtColon more line text end h k = tt
  by_ending_of AtNoText more line text end h k = tt
  by_ending_of AtOther more line text end h k = k

  plain_of : (inside : Bool) (parent : Option ℕ) (text : List ℕ) (end : Cursor) (k line : ℕ) (ls : List (List ℕ)) → IsOf lines end → IsOf lines (line_start line ls) → EndsOf (plain_below inside parent text end k line ls)
  unfolding plain_below
  plain_of inside parent text end k line [] h z = h
  plain_of inside parent text end k line (l ∷ more) h z =
      let below = start_of (record { line = line; column = 0; here = l; below = more }) z in
      let here = along_of (blanks_len l + length (plain_part inside (indented l))) (record { line = line; column = 0; here = l; below = more }) z in
      one_end (is_bare l) _ _ (plain_of inside parent text end (k + 1) (line + 1) more h below)
      (one_end (goes_on inside parent l) _ _ (by_ending_of (plain_ending inside (indented l)) _ line _ (after_part inside line l more)
      (plain_of inside parent (text ++ (folded_break k ++ plain_part inside (indented l))) (after_part inside line l more) 0 (line + 1) more here below) here) h)

  by_line_of : (found : QuotedLine) (final line : ℕ) (l : List ℕ) (more : List (List ℕ)) (again : List ℕ → Bool → Scalar) → IsOf lines (line_start line (l ∷ more)) → ((t : List ℕ) (j : Bool) → EndsOf (again t j)) →
      EndsOf (by_line found final line l more again)
  unfolding cut_fault
  by_line_of (Closed text taken) final line l more again z h = along_of taken (record { line = line; column = 0; here = l; below = more }) z
  by_line_of (OpenEnd text) final line l more again z h = h text false
  by_line_of (JoinedEnd text) final line l more again z h = h text true
  by_line_of CutEnd final line l [] again z h = tt
  by_line_of CutEnd final line l (m ∷ more) again z h = tt
  by_line_of (BadByte kind) final line l more again z h = tt

  quoted_of : (q : Quote) (text : List ℕ) (joined : Bool) (k final line : ℕ) (ls : List (List ℕ)) → IsOf lines (line_start line ls) → EndsOf (quoted_below q text joined k final line ls)
  unfolding quoted_below
  quoted_of q text joined k final line [] z = tt
  quoted_of q text joined k final line (l ∷ more) z =
      let below = start_of (record { line = line; column = 0; here = l; below = more }) z in
      one_end (is_bare l) _ _ (quoted_of q text joined (k + 1) final (line + 1) more below)
      (by_line_of (after_bytes (text ++ quoted_break joined k) (blanks_len l) (quoted_line q InText (drop (blanks_len l) l))) final line l more (λ t j. quoted_below q t j 0 final (line + 1) more) z
      (λ t j. quoted_of q t j 0 final (line + 1) more below))

  by_row_of : (row : List ℕ) (x y : Scalar) → EndsOf x → EndsOf y → EndsOf (by_row row x y)
  by_row_of [] x y h k = h
  by_row_of (b ∷ row) x y h k = k

  block_of : (style : Style) (chomp : Chomp) (inside : Bool) (indent : Option ℕ) (text : List ℕ) (earlier : Earlier) (k line : ℕ) (ls : List (List ℕ)) → IsOf lines (line_start line ls) →
      EndsOf (block_lines style chomp inside indent text earlier k line ls)
  unfolding block_lines
  block_of style chomp inside indent text earlier k line [] z = inl (refl, refl)
  block_of style chomp inside indent text earlier k line (l ∷ more) z =
      let below = start_of (record { line = line; column = 0; here = l; below = more }) z in
      one_end (belongs inside indent l) _ _
      (one_end (has_no_text l) _ _ tt (by_row_of (row_of indent l) _ _ (block_of style chomp inside indent text earlier (k + 1) (line + 1) more below)
      (block_of style chomp inside indent (text ++ (row_break style earlier k (begins_with_blank (row_of indent l)) ++ row_of indent l)) (earlier_of (row_of indent l)) 0 (line + 1) more below)))
      z

  -- A part is read: a token stands at p, and what is left is of the text.
  abbrev KeepsAt : Cursor → Part → Type 0
  KeepsAt p (Gap next) = IsOf lines next.place
  KeepsAt p (TokenPart t next) = IsOf lines next.place × ((t.line ≡ p.line) × (t.column ≡ p.column))
  KeepsAt p Over = Unit {0}
  KeepsAt p (Fault f) = Unit {0}

  part_of : (p : Cursor) (b : Bool) (x y : Part) → KeepsAt p x → KeepsAt p y → KeepsAt p (if b then x else y)
  part_of p true x y h k = h
  part_of p false x y h k = k

  text_of : (quoted : Bool) (p : Cursor) (document : Document) (s : Scalar) → EndsOf s → KeepsAt p (takes_text quoted p document s)
  unfolding takes_text takes
  text_of quoted p document (Found text end) h = (h, (refl, refl))
  text_of quoted p document (Broken line kind) h = tt

  plain_at : (e : Ending) (key inside : Bool) (parent : Option ℕ) (p : Cursor) (document : Document) → IsOf lines p → KeepsAt p (plain_by e key inside parent p document)
  unfolding plain_by takes takes_text
  plain_at AtColon key inside parent p document h = part_of p key _ _ (along_of (plain_len inside false p.here + 1) p h, (refl, refl)) tt
  plain_at AtNoText key inside parent p document h = tt
  plain_at AtOther key inside parent p document h = (along_of (length (plain_part inside p.here)) p h, (refl, refl))
  plain_at LineEnd key inside parent p document h = text_of false p document _ (plain_of inside parent (plain_part inside p.here) (along (length (plain_part inside p.here)) p) 0 (p.line + 1) p.below
      (along_of (length (plain_part inside p.here)) p h) (start_of p h))

  closed_at : (key : Bool) (p : Cursor) (document : Document) (text : List ℕ) (taken : ℕ) → IsOf lines p → KeepsAt p (closed_by key p document text (along taken p))
  unfolding closed_by takes takes_text
  closed_at key p document text taken h =
      let after = along_of taken p h in
      part_of p (key && colon_next (along taken p).here) _ _ (along_of 1 (along taken p) after, (refl, refl)) (after, (refl, refl))

  quoted_by_at : (q : Quote) (key : Bool) (p : Cursor) (document : Document) (r : QuotedLine) → IsOf lines p → KeepsAt p (quoted_by q key p document r)
  unfolding quoted_by cut_fault
  quoted_by_at q key p document (Closed text taken) h = closed_at key p document text taken h
  quoted_by_at q key p document (OpenEnd text) h = text_of true p document _ (quoted_of q text false 0 (end_line p.line p.here p.below) (p.line + 1) p.below (start_of p h))
  quoted_by_at q key p document (JoinedEnd text) h = text_of true p document _ (quoted_of q text true 0 (end_line p.line p.here p.below) (p.line + 1) p.below (start_of p h))
  quoted_by_at q key p document CutEnd h = text_of true p document _ (cut p.below) where
    cut : (below : List (List ℕ)) → EndsOf (cut_fault (end_line p.line p.here p.below) p.line below)
    cut [] = tt
    cut (l ∷ more) = tt
  quoted_by_at q key p document (BadByte kind) h = tt

  quoted_form_at : (q : Quote) (key : Bool) (p : Cursor) (document : Document) → IsOf lines p → KeepsAt p (quoted_at q key p document)
  unfolding quoted_at
  quoted_form_at q key p document h = quoted_by_at q key p document (after_bytes [] 1 (quoted_line q InText (drop 1 p.here))) h

  block_at : (o : Option YamlKind) (style : Style) (inside : Bool) (parent : Option ℕ) (p : Cursor) (document : Document) → IsOf lines p → KeepsAt p (block_by_header o style inside parent p document)
  unfolding block_by_header
  block_at (Some kind) style inside parent p document h = tt
  block_at None style inside parent p document h =
      text_of true p document _ (block_of style (chomp_of (drop 1 p.here)) inside (indentation inside parent p.below) [] Nothing 0 (p.line + 1) p.below (start_of p h))

  form_at : (f : First) (k : Known) (s : State) (p : Cursor) → IsOf lines p → KeepsAt p (token_at f k s p)
  unfolding token_at takes
  form_at (FlowSign mark) k s p h = (along_of 1 p h, (refl, refl))
  form_at (QuoteMark q) k s p h = quoted_form_at q (may_be_key k s) p s.document h
  form_at (BlockMark style) k s p h = block_at (header_fault (other k) (after_chomp (drop 1 p.here))) style k.inside k.parent p s.document h
  form_at (Property kind) k s p h = tt
  form_at Reserved k s p h = tt
  form_at DashMark k s p h = part_of p (is_fresh s && not k.inside) _ _ (along_of 1 p h, (refl, refl)) tt
  form_at NoToken k s p h = tt
  form_at Other k s p h = plain_at (plain_ending k.inside p.here) (may_be_key k s) k.inside k.parent p s.document h

  token_in_at : (d : Document) (k : Known) (s : State) (p : Cursor) → IsOf lines p → KeepsAt p (token_in d k s p)
  unfolding token_in
  token_in_at Implied k s p h = part_of p (is_indented_by_tab k s) _ _ tt (form_at (form_of p.here) k s p h)
  token_in_at Begun k s p h = part_of p (is_indented_by_tab k s) _ _ tt (form_at (form_of p.here) k s p h)
  token_in_at Ended k s p h = tt

  -- Where the token stands, a byte is left; and what follows the token is less.
  pub record TokenAt (n : ℕ) (t : Token) (next : State) : Type 0 where
    pub place : Cursor
    pub is : IsOf lines place
    pub some : 1 ≤ length place.here
    pub line : t.line ≡ place.line
    pub column : t.column ≡ place.column
    pub within : left place ≤ n
    pub less : left next.place < left place

  abbrev Reads : ℕ → Part → Type 0
  Reads n (Gap next) = IsOf lines next.place
  Reads n (TokenPart t next) = IsOf lines next.place × TokenAt n t next
  Reads n Over = Unit {0}
  Reads n (Fault f) = Unit {0}

  one_part : (n : ℕ) (b : Bool) (x y : Part) → (b ≡ true → Reads n x) → (b ≡ false → Reads n y) → Reads n (if b then x else y)
  one_part n true x y h k = h refl
  one_part n false x y h k = k refl

  token_reads : (n : ℕ) (p : Cursor) (part : Part) → IsOf lines p → 1 ≤ length p.here → left p ≤ n → KeepsAt p part → IsShorter (left p) part → Reads n part
  token_reads n p (Gap next) h some le k less = k
  token_reads n p (TokenPart t next) h some le k less = (k.0, record { place = p; is = h; some = some; line = k.1.0; column = k.1.1; within = le; less = less })
  token_reads n p Over h some le k less = tt
  token_reads n p (Fault f) h some le k less = tt

  after_reads : (k : Known) (s : State) (rest : List ℕ) → drop (blanks_len s.place.here) s.place.here ≡ rest → IsOf lines s.place → Reads (left s.place) (after_blanks k s rest)
  unfolding after_blanks
  after_reads k s [] e h = one_part (left s.place) (length s.place.below == 0) _ _ (λ _. tt) (λ _. start_of s.place h)
  after_reads k s (b ∷ rest) e h =
      let p = along (blanks_len s.place.here) s.place in
      let bad = fault_at s.place.line NotText in
      let next = Gap (to_next_line s s.document) in
      let within = token_in s.document k s p in
      let some : 1 ≤ length p.here = rw e (omega arith) in
      let n = left s.place in
      one_part n (b == 35 && (s.place.column == 0 || nat_lt 0 (blanks_len s.place.here))) (if has_no_text rest then bad else next) (if no_text b then bad else within)
      (λ _. one_part n (has_no_text rest) bad next (λ _. tt) (λ _. start_of s.place h))
      (λ _. one_part n (no_text b) bad within (λ _. tt) (λ c. token_reads n p within (along_of (blanks_len s.place.here) s.place h) some (omega (arith, length-drop (blanks_len s.place.here) s.place.here))
      (token_in_at s.document k s p (along_of (blanks_len s.place.here) s.place h))
      (token_in_shorter s.document k s p some (rw e (λ f. plain_some k.inside b rest (after_blanks_byte s.place.here b rest e) c f)))))

  by_sign_reads : (o : Option DocumentSign) (k : Known) (s : State) → IsOf lines s.place → Reads (left s.place) (by_sign o k s)
  unfolding by_sign
  by_sign_reads None k s h = after_reads k s (drop (blanks_len s.place.here) s.place.here) refl h
  by_sign_reads (Some sign) k s h = one_part (left s.place) (may_stand sign s.document k) _ _
      (λ _. one_part (left s.place) (has_no_text s.place.here) _ _ (λ _. tt) (λ _. start_of s.place h)) (λ _. tt)

  part_reads : (k : Known) (s : State) → IsOf lines s.place → Reads (left s.place) (part_at k s)
  unfolding part_at
  part_reads k s h = by_sign_reads (sign_of k s) k s h

  -- Tokens with less and less of the text left at them.
  abbrev Falls : ℕ → List Token → Type 0
  Falls n [] = Unit {0}
  Falls n (t ∷ ts) = (p : Cursor) × (IsIn lines p × (1 ≤ length p.here) × ((t.line ≡ p.line) × (t.column ≡ p.column)) × (left p ≤ n) × ((m : ℕ) × ((m < left p) × Falls m ts)))

  stands : (p : Cursor) → IsOf lines p → 1 ≤ length p.here → IsIn lines p
  stands p (inl h) some = absurd (let e = ap length h.0 in omega (arith, e, some))
  stands p (inr h) some = h

  less_falls : (m n : ℕ) (ts : List Token) → m ≤ n → Falls m ts → Falls n ts
  less_falls m n [] le h = tt
  less_falls m n (t ∷ ts) le h = (h.0, (h.1.0, h.1.1, h.1.2, omega (arith, le, h.1.3), h.1.4))

  scans_fall : {before ts : List Token} {s : State} {e : Option BadPlace} → Scans before s ts e → IsOf lines s.place → Falls (left s.place) ts
  scans_fall (no_more a) h = tt
  scans_fall (stopped f a) h = tt
  scans_fall {before = before} {ts = ts} {s = s} (past_gap next a d) h =
      let r : Reads (left s.place) (Gap next) = subst (λ x. Reads (left s.place) x) a (part_reads (known_of before) s h) in
      let less : left next.place < left s.place = subst (λ x. IsShorter (left s.place) x) a (part_shorter (known_of before) s) in
      less_falls (left next.place) (left s.place) ts (omega (arith, less)) (scans_fall d r)
  scans_fall {before = before} {s = s} (one_more t next a d) h =
      let r : Reads (left s.place) (TokenPart t next) = subst (λ x. Reads (left s.place) x) a (part_reads (known_of before) s h) in
      let at = r.1 in
      (at.place, (stands at.place at.is at.some, at.some, (at.line, at.column), at.within, (left next.place, (at.less, scans_fall d r.0))))

  first_falls : (text : List ℕ) → lines ≡ text_lines text → IsOf lines (first_state text).place
  first_falls text e = by_lines (text_lines text) e where
    by_lines : (ls : List (List ℕ)) → lines ≡ ls → IsOf lines (line_start 1 ls)
    by_lines [] f = inl (refl, refl)
    by_lines (l ∷ more) f = inr (record { from = omega arith; here = sym (ap (λ ls. get_or ls 0 []) f); below = sym (ap (drop 1) f) })

-- how much stands below a line
sizes : (a b : ℕ) (ls : List (List ℕ)) → a ≤ b → lines_size (drop b ls) ≤ lines_size (drop a ls)
sizes zero zero ls h = omega arith
sizes zero (suc b) [] h = omega arith
sizes zero (suc b) (l ∷ ls) h = let again = sizes zero b ls (omega arith) in omega (arith, again)
sizes (suc a) zero ls h = absurd (omega (arith, h))
sizes (suc a) (suc b) [] h = omega arith
sizes (suc a) (suc b) (l ∷ ls) h = sizes a b ls (omega (arith, h))

line_size : (n : ℕ) (ls : List (List ℕ)) → 1 ≤ length (get_or ls n []) → lines_size (drop n ls) ≡ 1 + (length (get_or ls n []) + lines_size (drop (suc n) ls))
line_size zero [] h = absurd (omega (arith, h))
line_size zero (l ∷ ls) h = refl
line_size (suc n) [] h = absurd (omega (arith, h))
line_size (suc n) (l ∷ ls) h = line_size n ls h

-- where less is left is further on
module _ (lines : List (List ℕ)) (p q : Cursor) (i : IsIn lines p) (j : IsIn lines q) (some : 1 ≤ length p.here) (less : left q < left p) where
  abbrev l : List ℕ
  l = get_or lines (p.line - 1) []

  size : length p.here ≡ length l - p.column
  size = ap length i.here ∙ length-drop p.column l

  whole : lines_size (drop (p.line - 1) lines) ≡ 1 + (length l + lines_size p.below)
  whole =
      let n : suc (p.line - 1) ≡ p.line = let f = i.from in omega (arith, f) in
      let e = line_size (p.line - 1) lines (omega (arith, some, size)) in
      e ∙ ap (λ b. 1 + (length l + lines_size b)) (ap (λ k. drop k lines) n ∙ sym i.below)

  not_above : q.line < p.line → ⊥
  not_above h =
      let f = i.from in
      let most = sizes q.line (p.line - 1) lines (omega (arith, f, h)) in
      let same : lines_size q.below ≡ lines_size (drop q.line lines) = ap lines_size j.below in
      absurd (omega (arith, most, same, whole, size, less))

  beside : p.line ≡ q.line → p.column < q.column
  beside e =
      let same : lines_size q.below ≡ lines_size p.below = ap lines_size (j.below ∙ (ap (λ k. drop k lines) (sym e) ∙ sym i.below)) in
      let other : length q.here ≡ length l - q.column = ap length j.here ∙ (ap (λ k. length (drop q.column (get_or lines (k - 1) []))) (sym e) ∙ length-drop q.column l) in
      omega (arith, same, other, size, less, some)

  pub further_on : (p.line < q.line) ⊎ ((p.line ≡ q.line) × (p.column < q.column))
  further_on = elim (cases_lt p.line q.line) [ inl lt ↦ inl lt | inr ge ↦ elim (cases_lt q.line p.line) [ inl gt ↦ absurd (not_above gt) | inr le ↦ let e : p.line ≡ q.line = omega (arith, ge, le) in inr (e, beside e) ] ]

before_at : (t u : Token) (p q : Cursor) → t.line ≡ p.line → t.column ≡ p.column → u.line ≡ q.line → u.column ≡ q.column → (p.line < q.line) ⊎ ((p.line ≡ q.line) × (p.column < q.column)) → IsBefore t u
before_at t u p q a b c d (inl lt) = inl (omega (arith, a, c, lt))
before_at t u p q a b c d (inr h) = let e = h.0 in let lt = h.1 in inr (a ∙ (e ∙ sym c), omega (arith, b, d, lt))

falls_rise : (lines : List (List ℕ)) (n : ℕ) (ts : List Token) → Falls lines n ts → AreRising ts
falls_rise lines n [] h = tt
falls_rise lines n (t ∷ []) h = tt
falls_rise lines n (t ∷ (u ∷ more)) h =
    let p = h.0 in
    let m = h.1.4.0 in
    let less = h.1.4.1.0 in
    let below = h.1.4.1.1 in
    let q = below.0 in
    let at_most = below.1.3 in
    (before_at t u p q h.1.2.0 h.1.2.1 below.1.2.0 below.1.2.1 (further_on lines p q h.1.0 below.1.0 h.1.1 (omega (arith, less, at_most))), falls_rise lines m (u ∷ more) below)

falls_stand : (lines : List (List ℕ)) (n : ℕ) (ts : List Token) → Falls lines n ts → AllStandIn lines ts
falls_stand lines n [] h = tt
falls_stand lines n (t ∷ ts) h = (at_byte h.0 h.1.0 h.1.1 h.1.2.0 h.1.2.1, falls_stand lines h.1.4.0 ts h.1.4.1.1) where
  at_byte : (p : Cursor) → IsIn lines p → 1 ≤ length p.here → t.line ≡ p.line → t.column ≡ p.column → StandsIn lines t
  at_byte p i some a b =
      let f = i.from in
      let size = ap length i.here ∙ length-drop p.column (get_or lines (p.line - 1) []) in
      let lt : p.column < length (get_or lines (p.line - 1) []) = omega (arith, some, size) in
      record { from = omega (arith, a, f); within = rw (a, b) lt }

module _ (text : List ℕ) (tokens : List Token) (bad : Option BadPlace) (d : HasPlaces text tokens bad) where
  all : Falls (text_lines (legible (without_mark text))) (left (first_state (legible (without_mark text))).place) tokens
  all = scans_fall (text_lines (legible (without_mark text))) d (first_falls (text_lines (legible (without_mark text))) (legible (without_mark text)) refl)

  pub tokens_rise : AreRising tokens
  tokens_rise = falls_rise (text_lines (legible (without_mark text))) (left (first_state (legible (without_mark text))).place) tokens all

  pub tokens_stand : AllStandIn (text_lines (legible (without_mark text))) tokens
  tokens_stand = falls_stand (text_lines (legible (without_mark text))) (left (first_state (legible (without_mark text))).place) tokens all
