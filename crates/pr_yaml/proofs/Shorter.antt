-- Each part of a text leaves less of it.
use Rattle.std.proofs.Common.{◌≡◌, ℕ, suc, zero, ◌+◌, ◌-◌, ◌<◌, ◌≤◌, ◌==◌, nat_lt, Bool, true, false, not, ◌&&◌, ◌||◌, cond, if◌then◌else◌, List, [], ◌∷◌, ◌++◌, Option, Some, None, length, take, drop, reverse, refl, sym, subst, ◌∙◌, arith, length-drop, length-take}
use Rattle.std.specs.List.{prefix_len, position_or_len}
use Rattle.std.proofs.lemmas.Bool.Decides.{nat_tests}
use Rattle.std.proofs.lemmas.List.{length-reverse, reverse-append}
use Rattle.pr_words.specs.Fields.{is_field_byte, without_trailing}
use Rattle.pr_words.specs.Bytes.{is_blank}
use Rattle.pr_yaml.specs.Bytes.{no_text, has_no_text, is_bare, ends_word, is_flow_sign, blanks_len}
use Rattle.pr_yaml.specs.Scan.{left, lines_size}
use Rattle.pr_yaml.specs.Lines.{Cursor, folded_break, along, line_start, document_sign, is_sign_by, end_line}
use Rattle.pr_yaml.specs.Plain.{plain_below, plain_part, plain_len, plain_ending, goes_on, by_ending, after_part, indented, stops}
use Rattle.pr_yaml.specs.Quoted.{quoted_below, quoted_break, quoted_line, by_line, cut_fault, after_bytes}
use Rattle.pr_yaml.specs.Block.{block_lines, belongs, by_row, row_of, row_break, begins_with_blank, earlier_of, indentation, header_fault, after_chomp, chomp_of}
use Rattle.pr_yaml.specs.Tokens.{takes, takes_text, fault_at, plain_by, closed_by, colon_next, quoted_by, quoted_at, block_by_header, token_at, token_in, after_blanks, by_sign, sign_of, part_at, may_stand, document_after, to_next_line, is_indented_by_tab, form_of, first_by, flow_mark_of, sign_mark_of, word_mark_of, mark_of, is_fresh, may_be_key, other}
use Rattle.pr_yaml.specs.declared.yaml_scan.scalar.Scalar.{Scalar}
use Rattle.pr_yaml.specs.declared.yaml_scan.scalar.Scalar.TheVariants.{Found, Broken}
use Rattle.pr_yaml.specs.declared.yaml_scan.plain.Ending.{Ending}
use Rattle.pr_yaml.specs.declared.yaml_scan.plain.Ending.TheVariants.{LineEnd, AtColon, AtNoText, AtOther}
use Rattle.pr_yaml.specs.declared.yaml_scan.quoted.Quote.{Quote}
use Rattle.pr_yaml.specs.declared.yaml_scan.quoted.Within.TheVariants.{InText}
use Rattle.pr_yaml.specs.declared.yaml_scan.quoted.QuotedLine.{QuotedLine}
use Rattle.pr_yaml.specs.declared.yaml_scan.quoted.QuotedLine.TheVariants.{Closed, OpenEnd, JoinedEnd, CutEnd, BadByte}
use Rattle.pr_yaml.specs.declared.yaml_scan.block.Style.{Style}
use Rattle.pr_yaml.specs.declared.yaml_scan.block.Chomp.{Chomp}
use Rattle.pr_yaml.specs.declared.yaml_scan.block.Earlier.{Earlier}
use Rattle.pr_yaml.specs.declared.yaml_scan.block.Earlier.TheVariants.{Nothing}
use Rattle.pr_yaml.specs.declared.yaml_scan.fault.YamlKind.{YamlKind}
use Rattle.pr_yaml.specs.declared.yaml_scan.fault.YamlKind.TheVariants.{NotText}
use Rattle.pr_yaml.specs.declared.yaml_scan.first.First.{First}
use Rattle.pr_yaml.specs.declared.yaml_scan.first.First.TheVariants.{FlowSign, QuoteMark, BlockMark, Property, Reserved, DashMark, NoToken, Other}
use Rattle.pr_yaml.specs.declared.yaml_scan.first.FlowMark.{FlowMark}
use Rattle.pr_yaml.specs.declared.yaml_scan.line.DocumentSign.{DocumentSign}
use Rattle.pr_yaml.specs.declared.yaml_scan.state.Known.{Known}
use Rattle.pr_yaml.specs.declared.yaml_scan.state.State.{State}
use Rattle.pr_yaml.specs.declared.yaml_scan.state.Document.{Document}
use Rattle.pr_yaml.specs.declared.yaml_scan.state.Document.TheVariants.{Implied, Begun, Ended}
use Rattle.pr_yaml.specs.declared.yaml_scan.state.Part.{Part}
use Rattle.pr_yaml.specs.declared.yaml_scan.state.Part.TheVariants.{Over, Gap, Token as TokenPart, Fault}

abbrev IsAtMost : ℕ → Scalar → Type 0
IsAtMost n (Found text end) = left end ≤ n
IsAtMost n (Broken line kind) = Unit {0}

abbrev pub IsShorter : ℕ → Part → Type 0
IsShorter n (Gap next) = left next.place < n
IsShorter n (TokenPart t next) = left next.place < n
IsShorter n Over = Unit {0}
IsShorter n (Fault f) = Unit {0}

one_of : (n : ℕ) (b : Bool) (x y : Scalar) → IsAtMost n x → IsAtMost n y → IsAtMost n (if b then x else y)
one_of n true x y h k = h
one_of n false x y h k = k

part_of : (n : ℕ) (b : Bool) (x y : Part) → (b ≡ true → IsShorter n x) → (b ≡ false → IsShorter n y) → IsShorter n (if b then x else y)
part_of n true x y h k = h refl
part_of n false x y h k = k refl

further : (m n : ℕ) (p : Part) → m ≤ n → IsShorter m p → IsShorter n p
further m n (Gap next) le h = omega (arith, le, h)
further m n (TokenPart t next) le h = omega (arith, le, h)
further m n Over le h = tt
further m n (Fault f) le h = tt

start_within : (line : ℕ) (lines : List (List ℕ)) (n : ℕ) → lines_size lines ≤ n → left (line_start line lines) ≤ n
start_within line [] n h = omega arith
start_within line (l ∷ more) n h = omega (arith, h)

along_within : (k line column : ℕ) (l : List ℕ) (more : List (List ℕ)) (n : ℕ) → lines_size (l ∷ more) ≤ n → left (along k (record { line = line; column = column; here = l; below = more })) ≤ n
along_within k line column l more n h = omega (arith, h, length-drop k l)

by_ending_within : (n : ℕ) (e : Ending) (onward : Scalar) (line : ℕ) (text : List ℕ) (end : Cursor) → IsAtMost n onward → left end ≤ n → IsAtMost n (by_ending e onward line text end)
by_ending_within n LineEnd onward line text end h k = h
by_ending_within n AtColon onward line text end h k = tt
by_ending_within n AtNoText onward line text end h k = tt
by_ending_within n AtOther onward line text end h k = k

plain_within : (inside : Bool) (parent : Option ℕ) (text : List ℕ) (end : Cursor) (k line : ℕ) (lines : List (List ℕ)) (n : ℕ) → left end ≤ n → lines_size lines ≤ n → IsAtMost n (plain_below inside parent text end k line lines)
unfolding plain_below
plain_within inside parent text end k line [] n h z = h
plain_within inside parent text end k line (l ∷ more) n h z =
    let less : lines_size more ≤ n = omega (arith, z) in
    let here : left (after_part inside line l more) ≤ n = along_within (blanks_len l + length (plain_part inside (indented l))) line 0 l more n z in
    one_of n (is_bare l) _ _ (plain_within inside parent text end (k + 1) (line + 1) more n h less)
    (one_of n (goes_on inside parent l) _ _ (by_ending_within n (plain_ending inside (indented l)) _ line _ (after_part inside line l more)
    (plain_within inside parent (text ++ (folded_break k ++ plain_part inside (indented l))) (after_part inside line l more) 0 (line + 1) more n here less) here) h)

by_line_within : (n : ℕ) (found : QuotedLine) (final line : ℕ) (l : List ℕ) (more : List (List ℕ)) (again : List ℕ → Bool → Scalar) → lines_size (l ∷ more) ≤ n → ((t : List ℕ) (j : Bool) → IsAtMost n (again t j)) →
    IsAtMost n (by_line found final line l more again)
unfolding cut_fault
by_line_within n (Closed text taken) final line l more again z h = along_within taken line 0 l more n z
by_line_within n (OpenEnd text) final line l more again z h = h text false
by_line_within n (JoinedEnd text) final line l more again z h = h text true
by_line_within n CutEnd final line l [] again z h = tt
by_line_within n CutEnd final line l (m ∷ more) again z h = tt
by_line_within n (BadByte kind) final line l more again z h = tt

quoted_within : (q : Quote) (text : List ℕ) (joined : Bool) (k final line : ℕ) (lines : List (List ℕ)) (n : ℕ) → lines_size lines ≤ n → IsAtMost n (quoted_below q text joined k final line lines)
unfolding quoted_below
quoted_within q text joined k final line [] n z = tt
quoted_within q text joined k final line (l ∷ more) n z =
    let less : lines_size more ≤ n = omega (arith, z) in
    one_of n (is_bare l) _ _ (quoted_within q text joined (k + 1) final (line + 1) more n less)
    (by_line_within n (after_bytes (text ++ quoted_break joined k) (blanks_len l) (quoted_line q InText (drop (blanks_len l) l))) final line l more (λ t j. quoted_below q t j 0 final (line + 1) more) z
    (λ t j. quoted_within q t j 0 final (line + 1) more n less))

by_row_within : (n : ℕ) (row : List ℕ) (x y : Scalar) → IsAtMost n x → IsAtMost n y → IsAtMost n (by_row row x y)
by_row_within n [] x y h k = h
by_row_within n (b ∷ row) x y h k = k

block_within : (style : Style) (chomp : Chomp) (inside : Bool) (indent : Option ℕ) (text : List ℕ) (earlier : Earlier) (k line : ℕ) (lines : List (List ℕ)) (n : ℕ) → lines_size lines ≤ n →
    IsAtMost n (block_lines style chomp inside indent text earlier k line lines)
unfolding block_lines
block_within style chomp inside indent text earlier k line [] n z = start_within line [] n z
block_within style chomp inside indent text earlier k line (l ∷ more) n z =
    let less : lines_size more ≤ n = omega (arith, z) in
    one_of n (belongs inside indent l) _ _
    (one_of n (has_no_text l) _ _ tt (by_row_within n (row_of indent l) _ _ (block_within style chomp inside indent text earlier (k + 1) (line + 1) more n less)
    (block_within style chomp inside indent (text ++ (row_break style earlier k (begins_with_blank (row_of indent l)) ++ row_of indent l)) (earlier_of (row_of indent l)) 0 (line + 1) more n less)))
    (start_within line (l ∷ more) n z)

text_shorter : (m n : ℕ) (quoted : Bool) (p : Cursor) (document : Document) (s : Scalar) → m < n → IsAtMost m s → IsShorter n (takes_text quoted p document s)
unfolding takes_text takes
text_shorter m n quoted p document (Found text end) lt h = omega (arith, lt, h)
text_shorter m n quoted p document (Broken line kind) lt h = tt

along_shorter : (n : ℕ) (p : Cursor) → 1 ≤ n → 1 ≤ length p.here → left (along n p) < left p
along_shorter n p h k = omega (arith, h, k, length-drop n p.here)

plain_shorter : (e : Ending) (key inside : Bool) (parent : Option ℕ) (p : Cursor) (document : Document) → 1 ≤ length p.here → 1 ≤ length (plain_part inside p.here) → IsShorter (left p) (plain_by e key inside parent p document)
unfolding plain_by takes takes_text
plain_shorter AtColon key inside parent p document h k = part_of (left p) key _ _ (λ _. along_shorter (plain_len inside false p.here + 1) p (omega arith) h) (λ _. tt)
plain_shorter AtNoText key inside parent p document h k = tt
plain_shorter AtOther key inside parent p document h k = along_shorter (length (plain_part inside p.here)) p k h
plain_shorter LineEnd key inside parent p document h k =
    let less = along_shorter (length (plain_part inside p.here)) p k h in
    text_shorter (left p - 1) (left p) false p document _ (omega (arith, h)) (plain_within inside parent (plain_part inside p.here) (along (length (plain_part inside p.here)) p) 0 (p.line + 1) p.below (left p - 1)
    (omega (arith, less)) (omega (arith, h)))

closed_shorter : (key : Bool) (p : Cursor) (document : Document) (text : List ℕ) (taken : ℕ) → 1 ≤ taken → 1 ≤ length p.here → IsShorter (left p) (closed_by key p document text (along taken p))
unfolding closed_by takes takes_text
closed_shorter key p document text taken h k =
    let less = along_shorter taken p h k in
    part_of (left p) (key && colon_next (along taken p).here) _ _ (λ _. omega (arith, less, length-drop 1 (along taken p).here)) (λ _. less)

quoted_by_shorter : (q : Quote) (key : Bool) (p : Cursor) (document : Document) (r : QuotedLine) (text : List ℕ) → 1 ≤ length p.here → IsShorter (left p) (quoted_by q key p document (after_bytes text 1 r))
unfolding quoted_by cut_fault
quoted_by_shorter q key p document (Closed t taken) text h = closed_shorter key p document (text ++ t) (1 + taken) (omega arith) h
quoted_by_shorter q key p document (OpenEnd t) text h = text_shorter (left p - 1) (left p) true p document _ (omega (arith, h)) (quoted_within q (text ++ t) false 0 (end_line p.line p.here p.below) (p.line + 1) p.below (left p - 1) (omega (arith, h)))
quoted_by_shorter q key p document (JoinedEnd t) text h = text_shorter (left p - 1) (left p) true p document _ (omega (arith, h)) (quoted_within q (text ++ t) true 0 (end_line p.line p.here p.below) (p.line + 1) p.below (left p - 1) (omega (arith, h)))
quoted_by_shorter q key p document CutEnd text h = text_shorter (left p - 1) (left p) true p document _ (omega (arith, h)) (cut p.below) where
  cut : (below : List (List ℕ)) → IsAtMost (left p - 1) (cut_fault (end_line p.line p.here p.below) p.line below)
  cut [] = tt
  cut (l ∷ more) = tt
quoted_by_shorter q key p document (BadByte kind) text h = tt

quoted_shorter : (q : Quote) (key : Bool) (p : Cursor) (document : Document) → 1 ≤ length p.here → IsShorter (left p) (quoted_at q key p document)
unfolding quoted_at
quoted_shorter q key p document h = quoted_by_shorter q key p document (quoted_line q InText (drop 1 p.here)) [] h

block_shorter : (o : Option YamlKind) (style : Style) (inside : Bool) (parent : Option ℕ) (p : Cursor) (document : Document) → 1 ≤ length p.here → IsShorter (left p) (block_by_header o style inside parent p document)
unfolding block_by_header
block_shorter (Some kind) style inside parent p document h = tt
block_shorter None style inside parent p document h = text_shorter (left p - 1) (left p) true p document _ (omega (arith, h))
    (block_within style (chomp_of (drop 1 p.here)) inside (indentation inside parent p.below) [] Nothing 0 (p.line + 1) p.below (left p - 1) (omega (arith, h)))

token_shorter : (f : First) (k : Known) (s : State) (p : Cursor) → 1 ≤ length p.here → (f ≡ Other → 1 ≤ length (plain_part k.inside p.here)) → IsShorter (left p) (token_at f k s p)
unfolding token_at takes
token_shorter (FlowSign mark) k s p h o = along_shorter 1 p (omega arith) h
token_shorter (QuoteMark q) k s p h o = quoted_shorter q (may_be_key k s) p s.document h
token_shorter (BlockMark style) k s p h o = block_shorter (header_fault (other k) (after_chomp (drop 1 p.here))) style k.inside k.parent p s.document h
token_shorter (Property kind) k s p h o = tt
token_shorter Reserved k s p h o = tt
token_shorter DashMark k s p h o = part_of (left p) (is_fresh s && not k.inside) _ _ (λ _. along_shorter 1 p (omega arith) h) (λ _. tt)
token_shorter NoToken k s p h o = tt
token_shorter Other k s p h o = plain_shorter (plain_ending k.inside p.here) (may_be_key k s) k.inside k.parent p s.document h (o refl)

-- the first byte of a plain text stays in it
first_field_byte : (p : ℕ → Bool) (xs : List ℕ) (b : ℕ) → p b ≡ true → position_or_len p (xs ++ b ∷ []) ≤ length xs
first_field_byte p [] b e = rw e (omega arith)
first_field_byte p (x ∷ xs) b e = by_test (p x) (position_or_len p (xs ++ b ∷ [])) (length xs) (first_field_byte p xs b e) where
  by_test : (t : Bool) (n l : ℕ) → n ≤ l → cond (not t) (1 + n) 0 ≤ suc l
  by_test true n l h = omega arith
  by_test false n l h = omega arith

trailing_some : (b : ℕ) (xs : List ℕ) → is_blank b ≡ false → 1 ≤ length (without_trailing (b ∷ xs))
trailing_some b xs e =
    let yes : is_field_byte b ≡ true = rw e refl in
    let h : position_or_len is_field_byte (reverse (b ∷ xs)) ≤ length xs = rw (reverse-append (b ∷ []) xs) (subst (λ n. position_or_len is_field_byte (reverse xs ++ b ∷ []) ≤ n) (length-reverse xs) (first_field_byte is_field_byte (reverse xs) b yes)) in
    omega (arith, h, length-take (length (b ∷ xs) - position_or_len is_field_byte (reverse (b ∷ xs))) (b ∷ xs))

-- a byte that begins a plain text is no sign of a flow, and no colon before a blank
or_false : (a b c : Bool) → a ≡ false → b ≡ false → c ≡ false → a || (b || c) ≡ false
or_false a b c e f g = rw (e, f, g) refl

pub equal_of : (b c : ℕ) → (b == c) ≡ true → b ≡ c
equal_of b c e = grind (arith, nat_tests)

no_colon_alone : (b : ℕ) → sign_mark_of b true ≡ Other → (b == 58) ≡ false
unfolding sign_mark_of word_mark_of mark_of
no_colon_alone b e = by_test (b == 58) refl where
  by_test : (t : Bool) → (b == 58) ≡ t → (b == 58) ≡ false
  by_test true h = let i = equal_of b 58 h in let f : sign_mark_of 58 true ≡ Other = subst (λ x. sign_mark_of x true ≡ Other) i e in absurd cc
  by_test false h = h

no_colon : (b : ℕ) (alone : Bool) → sign_mark_of b alone ≡ Other → (b == 58) && alone ≡ false
no_colon b true e = rw (no_colon_alone b e) refl
no_colon b false e = and_false (b == 58) where
  and_false : (t : Bool) → t && false ≡ false
  and_false true = refl
  and_false false = refl

no_flow_sign : (b : ℕ) → flow_mark_of b ≡ None → is_flow_sign b ≡ false
unfolding is_flow_sign
no_flow_sign b e = chain (b == 91) (b == 93) (b == 123) (b == 125) (b == 44) _ _ _ _ _ e where
  chain : (t u v w x : Bool) (p q r s y : FlowMark) → (if t then Some p else (if u then Some q else (if v then Some r else (if w then Some s else (if x then Some y else None))))) ≡ None → x || (t || (u || (v || w))) ≡ false
  chain true u v w x p q r s y h = absurd cc
  chain false true v w x p q r s y h = absurd cc
  chain false false true w x p q r s y h = absurd cc
  chain false false false true x p q r s y h = absurd cc
  chain false false false false true p q r s y h = absurd cc
  chain false false false false false p q r s y h = refl

starts_plain : (inside : Bool) (b : ℕ) (rest : List ℕ) → no_text b ≡ false → form_of (b ∷ rest) ≡ Other → stops inside false b rest ≡ false
unfolding stops form_of
starts_plain inside b rest n e = by_mark (flow_mark_of b) refl e where
  join : (n a c f i : Bool) → n ≡ false → c ≡ false → f ≡ false → n || ((a && false) || (c || (i && f))) ≡ false
  join n true c f true g h k = rw (g, h, k) refl
  join n true c f false g h k = rw (g, h) refl
  join n false c f true g h k = rw (g, h, k) refl
  join n false c f false g h k = rw (g, h) refl

  by_mark : (m : Option FlowMark) → flow_mark_of b ≡ m → first_by m b (ends_word rest) ≡ Other → no_text b || (((b == 35) && false) || (((b == 58) && ends_word rest) || (inside && is_flow_sign b))) ≡ false
  by_mark (Some m) h g = absurd cc
  by_mark None h g = join (no_text b) (b == 35) ((b == 58) && ends_word rest) (is_flow_sign b) inside n (no_colon b (ends_word rest) g) (no_flow_sign b h)

part_some : (b : ℕ) (rest : List ℕ) (m k : ℕ) → m ≡ suc k → is_blank b ≡ false → 1 ≤ length (without_trailing (take m (b ∷ rest)))
part_some b rest m k e h = rw e (trailing_some b (take k rest) h)

pub plain_some : (inside : Bool) (b : ℕ) (rest : List ℕ) → is_blank b ≡ false → no_text b ≡ false → form_of (b ∷ rest) ≡ Other → 1 ≤ length (plain_part inside (b ∷ rest))
unfolding plain_part plain_len
plain_some inside b rest e n f = part_some b rest (plain_len inside false (b ∷ rest)) (plain_len inside (is_blank b) rest) (rw (starts_plain inside b rest n f) (omega arith)) e

pub one_more : (n x : ℕ) (xs : List ℕ) → drop (1 + n) (x ∷ xs) ≡ drop n xs
one_more n x xs = let e : 1 + n ≡ suc n = omega arith in rw e refl

-- what follows blanks begins with none
pub after_blanks_byte : (here : List ℕ) (b : ℕ) (rest : List ℕ) → drop (blanks_len here) here ≡ b ∷ rest → is_blank b ≡ false
unfolding blanks_len
after_blanks_byte [] b rest e = absurd cc
after_blanks_byte (x ∷ here) b rest e = by_test (is_blank x) refl e (λ h. after_blanks_byte here b rest h) where
  by_test : (t : Bool) → is_blank x ≡ t → drop (cond t (1 + prefix_len is_blank here) 0) (x ∷ here) ≡ b ∷ rest → (drop (prefix_len is_blank here) here ≡ b ∷ rest → is_blank b ≡ false) → is_blank b ≡ false
  by_test true g h again = again (sym (one_more (prefix_len is_blank here) x here) ∙ h)
  by_test false g h again = let i : x ≡ b = cc in subst (λ y. is_blank y ≡ false) i g

some_left : (here : List ℕ) (n : ℕ) (b : ℕ) (rest : List ℕ) → drop n here ≡ b ∷ rest → 1 ≤ length here
some_left [] zero b rest e = absurd cc
some_left [] (suc n) b rest e = absurd cc
some_left (x ∷ here) n b rest e = omega arith

next_shorter : (s : State) (d : Document) → 1 ≤ length s.place.here → left (to_next_line s d).place < left s.place
next_shorter s d h = omega (arith, h, start_within (s.place.line + 1) s.place.below (lines_size s.place.below) (omega arith))

next_line_shorter : (line : ℕ) (here : List ℕ) (below : List (List ℕ)) → (length below == 0) ≡ false → left (line_start line below) < length here + lines_size below
next_line_shorter line here [] e = absurd cc
next_line_shorter line here (l ∷ more) e = omega arith

pub token_in_shorter : (d : Document) (k : Known) (s : State) (p : Cursor) → 1 ≤ length p.here → (form_of p.here ≡ Other → 1 ≤ length (plain_part k.inside p.here)) → IsShorter (left p) (token_in d k s p)
unfolding token_in
token_in_shorter Implied k s p h o = part_of (left p) (is_indented_by_tab k s) _ _ (λ _. tt) (λ _. token_shorter (form_of p.here) k s p h o)
token_in_shorter Begun k s p h o = part_of (left p) (is_indented_by_tab k s) _ _ (λ _. tt) (λ _. token_shorter (form_of p.here) k s p h o)
token_in_shorter Ended k s p h o = tt

after_shorter : (k : Known) (s : State) (rest : List ℕ) → drop (blanks_len s.place.here) s.place.here ≡ rest → IsShorter (left s.place) (after_blanks k s rest)
unfolding after_blanks
after_shorter k s [] e = part_of (left s.place) (length s.place.below == 0) _ _ (λ _. tt) (λ h. next_line_shorter (s.place.line + 1) s.place.here s.place.below h)
after_shorter k s (b ∷ rest) e =
    let some = some_left s.place.here (blanks_len s.place.here) b rest e in
    let bad = fault_at s.place.line NotText in
    let next = Gap (to_next_line s s.document) in
    let within = token_in s.document k s (along (blanks_len s.place.here) s.place) in
    part_of (left s.place) (b == 35 && (s.place.column == 0 || nat_lt 0 (blanks_len s.place.here))) (if has_no_text rest then bad else next) (if no_text b then bad else within)
    (λ _. part_of (left s.place) (has_no_text rest) bad next (λ _. tt) (λ _. next_shorter s s.document some))
    (λ _. part_of (left s.place) (no_text b) bad within (λ _. tt) (λ n. further (left (along (blanks_len s.place.here) s.place)) (left s.place) _ (omega (arith, length-drop (blanks_len s.place.here) s.place.here))
    (token_in_shorter s.document k s (along (blanks_len s.place.here) s.place) (rw e (omega arith)) (rw e (λ f. plain_some k.inside b rest (after_blanks_byte s.place.here b rest e) n f)))))

sign_some : (line : List ℕ) (sign : DocumentSign) → document_sign line ≡ Some sign → 1 ≤ length line
unfolding document_sign is_sign_by
sign_some [] sign e = absurd cc
sign_some (b ∷ line) sign e = omega arith

sign_here : (k : Known) (s : State) (sign : DocumentSign) → sign_of k s ≡ Some sign → 1 ≤ length s.place.here
unfolding sign_of
sign_here k s sign e = by_test (s.place.column == 0 && not k.inside) e where
  by_test : (t : Bool) → (if t then document_sign s.place.here else None) ≡ Some sign → 1 ≤ length s.place.here
  by_test true h = sign_some s.place.here sign h
  by_test false h = absurd cc

by_sign_shorter : (o : Option DocumentSign) (k : Known) (s : State) → ((sign : DocumentSign) → o ≡ Some sign → 1 ≤ length s.place.here) → IsShorter (left s.place) (by_sign o k s)
unfolding by_sign
by_sign_shorter None k s h = after_shorter k s (drop (blanks_len s.place.here) s.place.here) refl
by_sign_shorter (Some sign) k s h = part_of (left s.place) (may_stand sign s.document k) _ _
    (λ _. part_of (left s.place) (has_no_text s.place.here) _ _ (λ _. tt) (λ _. next_shorter s (document_after sign) (h sign refl))) (λ _. tt)

pub part_shorter : (k : Known) (s : State) → IsShorter (left s.place) (part_at k s)
unfolding part_at
part_shorter k s = by_sign_shorter (sign_of k s) k s (λ sign e. sign_here k s sign e)
