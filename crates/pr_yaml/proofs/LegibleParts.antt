-- After each part of a text what is left is legible.
use Rattle.std.proofs.Common.{◌≡◌, ℕ, ◌+◌, ◌≤◌, ◌==◌, nat_lt, Bool, true, false, not, ◌&&◌, ◌||◌, if◌then◌else◌, List, [], ◌∷◌, ◌++◌, Option, Some, None, length, take, drop, refl, sym, subst, ap, ◌∙◌, arith, inl, inr}
use Rattle.std.specs.Str.{IsUtf8}
use Rattle.std.proofs.lemmas.Bool.{cases_lt}
use Rattle.std.proofs.lemmas.Bool.Decides.{nat_tests}
use Rattle.std.proofs.lemmas.Str.{IsUtf8-nil}
use Rattle.pr_words.specs.Lines.{text_lines}
use Rattle.pr_yaml.specs.Bytes.{no_text, has_no_text, blanks_len}
use Rattle.pr_yaml.specs.Lines.{Cursor, along, end_line}
use Rattle.pr_yaml.specs.private.Legible.{IsLegible, AreLegible, IsLegiblePlace, HasUtf8}
use Rattle.pr_yaml.specs.Plain.{plain_part, plain_ending, plain_below}
use Rattle.pr_yaml.specs.Quoted.{quoted_below, quoted_line, cut_fault, after_bytes}
use Rattle.pr_yaml.specs.Block.{block_below, indentation, header_fault, after_chomp, chomp_of}
use Rattle.pr_yaml.specs.Tokens.{takes, takes_text, fault_at, plain_by, closed_by, colon_next, quoted_by, quoted_at, block_by_header, token_at, token_in, after_blanks, by_sign, sign_of, part_at, may_stand, document_after, to_next_line, is_indented_by_tab, form_of, sign_mark_of, word_mark_of, mark_of, is_fresh, may_be_key, other, first_state}
use Rattle.pr_yaml.specs.declared.yaml_scan.scalar.Scalar.{Scalar}
use Rattle.pr_yaml.specs.declared.yaml_scan.scalar.Scalar.TheVariants.{Found, Broken}
use Rattle.pr_yaml.specs.declared.yaml_scan.plain.Ending.{Ending}
use Rattle.pr_yaml.specs.declared.yaml_scan.plain.Ending.TheVariants.{LineEnd, AtColon, AtNoText, AtOther}
use Rattle.pr_yaml.specs.declared.yaml_scan.quoted.Quote.{Quote}
use Rattle.pr_yaml.specs.declared.yaml_scan.quoted.Within.TheVariants.{InText}
use Rattle.pr_yaml.specs.declared.yaml_scan.quoted.QuotedLine.{QuotedLine}
use Rattle.pr_yaml.specs.declared.yaml_scan.quoted.QuotedLine.TheVariants.{Closed, OpenEnd, JoinedEnd, CutEnd, BadByte}
use Rattle.pr_yaml.specs.declared.yaml_scan.block.Style.{Style}
use Rattle.pr_yaml.specs.declared.yaml_scan.block.Chomp.{Chomp}
use Rattle.pr_yaml.specs.declared.yaml_scan.token.Token.{Token}
use Rattle.pr_yaml.specs.declared.yaml_scan.block.Earlier.TheVariants.{Nothing}
use Rattle.pr_yaml.specs.declared.yaml_scan.fault.YamlKind.{YamlKind}
use Rattle.pr_yaml.specs.declared.yaml_scan.fault.YamlKind.TheVariants.{NotText}
use Rattle.pr_yaml.specs.declared.yaml_scan.first.First.{First}
use Rattle.pr_yaml.specs.declared.yaml_scan.first.First.TheVariants.{FlowSign, QuoteMark, BlockMark, Property, Reserved, DashMark, NoToken, Other}
use Rattle.pr_yaml.specs.declared.yaml_scan.line.DocumentSign.{DocumentSign}
use Rattle.pr_yaml.specs.declared.yaml_scan.state.Known.{Known}
use Rattle.pr_yaml.specs.declared.yaml_scan.state.State.{State}
use Rattle.pr_yaml.specs.declared.yaml_scan.state.Document.{Document}
use Rattle.pr_yaml.specs.declared.yaml_scan.state.Document.TheVariants.{Implied, Begun, Ended}
use Rattle.pr_yaml.specs.declared.yaml_scan.state.Part.{Part}
use Rattle.pr_yaml.specs.declared.yaml_scan.state.Part.TheVariants.{Over, Gap, Token as TokenPart, Fault}
use Rattle.pr_yaml.proofs.QuotedLines.{second_true}
use Rattle.pr_yaml.proofs.LegibleLines.{onward, blanks_legible, front_lines}
use Rattle.pr_yaml.proofs.LegibleTexts.{IsSound, sound_text, IsSoundLine, start_legible, line_sound, with_byte, quoted_sound, block_sound, plain_sound, part_text, after_part_legible, colon_legible}

abbrev pub LeavesLegible : Part → Type 0
LeavesLegible (Gap next) = IsLegiblePlace next.place
LeavesLegible (TokenPart t next) = IsLegiblePlace next.place
LeavesLegible Over = Unit {0}
LeavesLegible (Fault f) = Unit {0}

part_of : (b : Bool) (x y : Part) → (b ≡ true → LeavesLegible x) → (b ≡ false → LeavesLegible y) → LeavesLegible (if b then x else y)
part_of true x y h k = h refl
part_of false x y h k = k refl

-- the first byte of a token
byte_small : (f : First) (b : ℕ) (rest : List ℕ) → form_of (b ∷ rest) ≡ f → 128 ≤ b → f ≡ Other
unfolding form_of sign_mark_of word_mark_of mark_of
byte_small f b rest e ge = sym e ∙ grind (arith, nat_tests)

pub first_onward : (here : List ℕ) (f : First) → form_of here ≡ f → (f ≡ Other → ⊥) → IsLegible here → IsLegible (drop 1 here)
first_onward [] f e n u = u
first_onward (b ∷ rest) f e n u = elim (cases_lt b 128) [ inl lt ↦ onward [] rest b lt u | inr ge ↦ absurd (n (byte_small f b rest e ge)) ]

text_leaves : (quoted : Bool) (p : Cursor) (document : Document) (s : Scalar) → IsSound s → LeavesLegible (takes_text quoted p document s)
unfolding takes_text takes
text_leaves quoted p document (Found text end) h = h.1
text_leaves quoted p document (Broken line kind) h = tt

plain_leaves : (e : Ending) (key inside : Bool) (parent : Option ℕ) (p : Cursor) (document : Document) → plain_ending inside p.here ≡ e → IsLegiblePlace p → LeavesLegible (plain_by e key inside parent p document)
unfolding plain_by takes takes_text
plain_leaves AtColon key inside parent p document e h = part_of key _ _ (λ _. record { here = colon_legible inside p.here h.here e; below = h.below }) (λ _. tt)
plain_leaves AtNoText key inside parent p document e h = tt
plain_leaves AtOther key inside parent p document e h = record { here = after_part_legible inside p.here h.here; below = h.below }
plain_leaves LineEnd key inside parent p document e h = text_leaves false p document _ (plain_sound inside parent (plain_part inside p.here) (along (length (plain_part inside p.here)) p) 0 (p.line + 1) p.below
    (part_text inside p.here h.here) (record { here = after_part_legible inside p.here h.here; below = h.below }) h.below)

-- the first line of a quoted text
pub first_sound : (q : Quote) (here : List ℕ) → 1 ≤ length here → IsLegible (drop 1 here) → IsSoundLine [] here (after_bytes [] 1 (quoted_line q InText (drop 1 here)))
first_sound q [] h u = absurd (omega arith)
first_sound q (b ∷ rest) h u = with_byte [] [] b rest (quoted_line q InText rest) (line_sound q InText [] rest u)

after_colon : (here : List ℕ) → colon_next here ≡ true → IsLegible here → IsLegible (drop 1 here)
unfolding colon_next
after_colon [] e u = u
after_colon (b ∷ rest) e u = onward [] rest b (grind (arith, nat_tests)) u

closed_leaves : (key : Bool) (p : Cursor) (document : Document) (text : List ℕ) (taken : ℕ) → IsUtf8 text → IsLegible (drop taken p.here) → AreLegible p.below → LeavesLegible (closed_by key p document text (along taken p))
unfolding closed_by takes takes_text
closed_leaves key p document text taken u v h = part_of (key && colon_next (along taken p).here) _ _
    (λ e. record { here = after_colon (drop taken p.here) (second_true key (colon_next (drop taken p.here)) e) v; below = h }) (λ _. record { here = v; below = h })

quoted_by_leaves : (q : Quote) (key : Bool) (p : Cursor) (document : Document) (r : QuotedLine) → IsSoundLine [] p.here r → AreLegible p.below → LeavesLegible (quoted_by q key p document r)
unfolding quoted_by cut_fault
quoted_by_leaves q key p document (Closed text taken) h b = closed_leaves key p document text taken h.0 h.1 b
quoted_by_leaves q key p document (OpenEnd text) h b = text_leaves true p document _ (quoted_sound q text false 0 (end_line p.line p.here p.below) (p.line + 1) p.below h b)
quoted_by_leaves q key p document (JoinedEnd text) h b = text_leaves true p document _ (quoted_sound q text true 0 (end_line p.line p.here p.below) (p.line + 1) p.below h b)
quoted_by_leaves q key p document CutEnd h b = text_leaves true p document _ (cut p.below) where
  cut : (below : List (List ℕ)) → IsSound (cut_fault (end_line p.line p.here p.below) p.line below)
  cut [] = tt
  cut (l ∷ more) = tt
quoted_by_leaves q key p document (BadByte kind) h b = tt

quoted_leaves : (q : Quote) (key : Bool) (p : Cursor) (document : Document) → 1 ≤ length p.here → IsLegible (drop 1 p.here) → AreLegible p.below → LeavesLegible (quoted_at q key p document)
unfolding quoted_at
quoted_leaves q key p document some u b = quoted_by_leaves q key p document (after_bytes [] 1 (quoted_line q InText (drop 1 p.here))) (first_sound q p.here some u) b

block_leaves : (o : Option YamlKind) (style : Style) (inside : Bool) (parent : Option ℕ) (p : Cursor) (document : Document) → AreLegible p.below → LeavesLegible (block_by_header o style inside parent p document)
unfolding block_by_header
block_leaves (Some kind) style inside parent p document b = tt
block_leaves None style inside parent p document b =
    text_leaves true p document _ (block_sound style (chomp_of (drop 1 p.here)) inside (indentation inside parent p.below) [] Nothing 0 (p.line + 1) p.below IsUtf8-nil b)

token_leaves : (f : First) (k : Known) (s : State) (p : Cursor) → form_of p.here ≡ f → 1 ≤ length p.here → IsLegiblePlace p → LeavesLegible (token_at f k s p)
unfolding token_at takes
token_leaves (FlowSign mark) k s p e some h = record { here = first_onward p.here (FlowSign mark) e (λ x. cc) h.here; below = h.below }
token_leaves (QuoteMark q) k s p e some h = quoted_leaves q (may_be_key k s) p s.document some (first_onward p.here (QuoteMark q) e (λ x. cc) h.here) h.below
token_leaves (BlockMark style) k s p e some h = block_leaves (header_fault (other k) (after_chomp (drop 1 p.here))) style k.inside k.parent p s.document h.below
token_leaves (Property kind) k s p e some h = tt
token_leaves Reserved k s p e some h = tt
token_leaves DashMark k s p e some h = part_of (is_fresh s && not k.inside) _ _ (λ _. record { here = first_onward p.here DashMark e (λ x. cc) h.here; below = h.below }) (λ _. tt)
token_leaves NoToken k s p e some h = tt
token_leaves Other k s p e some h = plain_leaves (plain_ending k.inside p.here) (may_be_key k s) k.inside k.parent p s.document refl h

token_in_leaves : (d : Document) (k : Known) (s : State) (p : Cursor) → 1 ≤ length p.here → IsLegiblePlace p → LeavesLegible (token_in d k s p)
unfolding token_in
token_in_leaves Implied k s p some h = part_of (is_indented_by_tab k s) _ _ (λ _. tt) (λ _. token_leaves (form_of p.here) k s p refl some h)
token_in_leaves Begun k s p some h = part_of (is_indented_by_tab k s) _ _ (λ _. tt) (λ _. token_leaves (form_of p.here) k s p refl some h)
token_in_leaves Ended k s p some h = tt

pub blanks_place : (p : Cursor) → IsLegiblePlace p → IsLegiblePlace (along (blanks_len p.here) p)
blanks_place p h = record { here = blanks_legible p.here h.here; below = h.below }

next_leaves : (s : State) (document : Document) → IsLegiblePlace s.place → LeavesLegible (Gap (to_next_line s document))
next_leaves s document h = start_legible (s.place.line + 1) s.place.below h.below

after_leaves : (k : Known) (s : State) (rest : List ℕ) → drop (blanks_len s.place.here) s.place.here ≡ rest → IsLegiblePlace s.place → LeavesLegible (after_blanks k s rest)
unfolding after_blanks
after_leaves k s [] e h = part_of (length s.place.below == 0) _ _ (λ _. tt) (λ _. next_leaves s s.document h)
after_leaves k s (b ∷ rest) e h =
    let bad = fault_at s.place.line NotText in
    let next = Gap (to_next_line s s.document) in
    let within = token_in s.document k s (along (blanks_len s.place.here) s.place) in
    part_of (b == 35 && (s.place.column == 0 || nat_lt 0 (blanks_len s.place.here))) (if has_no_text rest then bad else next) (if no_text b then bad else within)
    (λ _. part_of (has_no_text rest) bad next (λ _. tt) (λ _. next_leaves s s.document h))
    (λ _. part_of (no_text b) bad within (λ _. tt) (λ _. token_in_leaves s.document k s (along (blanks_len s.place.here) s.place) (rw e (omega arith)) (blanks_place s.place h)))

by_sign_leaves : (o : Option DocumentSign) (k : Known) (s : State) → IsLegiblePlace s.place → LeavesLegible (by_sign o k s)
unfolding by_sign
by_sign_leaves None k s h = after_leaves k s (drop (blanks_len s.place.here) s.place.here) refl h
by_sign_leaves (Some sign) k s h = part_of (may_stand sign s.document k) _ _
    (λ _. part_of (has_no_text s.place.here) _ _ (λ _. tt) (λ _. next_leaves s (document_after sign) h)) (λ _. tt)

pub part_leaves : (k : Known) (s : State) → IsLegiblePlace s.place → LeavesLegible (part_at k s)
unfolding part_at
part_leaves k s h = by_sign_leaves (sign_of k s) k s h

pub first_legible : (text : List ℕ) → AreLegible (text_lines text) → IsLegiblePlace (first_state text).place
first_legible text h = start_legible 1 (text_lines text) h

-- The texts that the reader makes are UTF-8.
pub block_text : (found : Scalar) (style : Style) (chomp : Chomp) (inside : Bool) (parent : Option ℕ) (p : Cursor) → found ≡ block_below style chomp inside parent p → AreLegible p.below → HasUtf8 found
block_text found style chomp inside parent p e b = subst HasUtf8 (sym e) (sound_text (block_below style chomp inside parent p)
    (block_sound style chomp inside (indentation inside parent p.below) [] Nothing 0 (p.line + 1) p.below IsUtf8-nil b))

pub plain_text : (found : Scalar) (inside : Bool) (parent : Option ℕ) (text : List ℕ) (end p : Cursor) → found ≡ plain_below inside parent text end 0 (end.line + 1) end.below → text ≡ plain_part inside p.here →
    end ≡ along (length (plain_part inside p.here)) p → IsLegiblePlace p → HasUtf8 found
plain_text found inside parent text end p e t f h =
    let whole : end ≡ along (length (plain_part inside p.here)) p → IsSound (plain_below inside parent text end 0 (end.line + 1) end.below) =
    (λ g. plain_sound inside parent text end 0 (end.line + 1) end.below (subst IsUtf8 (sym t) (part_text inside p.here h.here))
    (subst IsLegiblePlace (sym g) (record { here = after_part_legible inside p.here h.here; below = h.below })) (subst (λ q. AreLegible q.below) (sym g) h.below)) in
    subst HasUtf8 (sym e) (sound_text (plain_below inside parent text end 0 (end.line + 1) end.below) (whole f))

module _ (q : Quote) (here : List ℕ) (some : 1 ≤ length here) (u : IsLegible (drop 1 here)) (r : QuotedLine) (e : r ≡ after_bytes [] 1 (quoted_line q InText (drop 1 here))) where
  sound : IsSoundLine [] here r
  sound = subst (IsSoundLine [] here) (sym e) (first_sound q here some u)

  pub closed_text : (text : List ℕ) (taken : ℕ) → r ≡ Closed text taken → IsUtf8 text
  closed_text text taken f = (subst (IsSoundLine [] here) f sound).0

  pub open_text : (text : List ℕ) → r ≡ OpenEnd text → IsUtf8 text
  open_text text f = subst (IsSoundLine [] here) f sound

  pub joined_text : (text : List ℕ) → r ≡ JoinedEnd text → IsUtf8 text
  joined_text text f = subst (IsSoundLine [] here) f sound

pub quoted_text : (found : Scalar) (q : Quote) (text all : List ℕ) (joined : Bool) (final line : ℕ) (below : List (List ℕ)) → found ≡ quoted_below q all joined 0 final line below → all ≡ text → IsUtf8 text → AreLegible below → HasUtf8 found
quoted_text found q text all joined final line below e a u b = subst HasUtf8 (sym e) (sound_text (quoted_below q all joined 0 final line below) (quoted_sound q all joined 0 final line below (subst IsUtf8 (sym a) u) b))

pub cut_text : (found : Scalar) (final line : ℕ) (below : List (List ℕ)) → found ≡ cut_fault final line below → HasUtf8 found
unfolding cut_fault
cut_text found final line [] e = subst HasUtf8 (sym e) tt
cut_text found final line (l ∷ more) e = subst HasUtf8 (sym e) tt

pub quote_inside : (q : Quote) (f : First) (p : Cursor) → f ≡ form_of p.here → f ≡ QuoteMark q → IsLegiblePlace p → IsLegible (drop 1 p.here) × AreLegible p.below
quote_inside q f p e g h = (first_onward p.here (QuoteMark q) (sym e ∙ g) (λ x. cc) h.here, h.below)

pub after_their_blanks : (n : ℕ) (p q : Cursor) → n ≡ blanks_len p.here → q ≡ along n p → IsLegiblePlace p → IsLegiblePlace q
after_their_blanks n p q e f h = subst IsLegiblePlace (sym (f ∙ ap (λ k. along k p) e)) (blanks_place p h)

pub next_legible : (k : Known) (s next : State) (part : Part) → part ≡ part_at k s → part ≡ Gap next → IsLegiblePlace s.place → IsLegiblePlace next.place
next_legible k s next part e f h = subst LeavesLegible (sym e ∙ f) (part_leaves k s h)

pub token_legible : (k : Known) (s next : State) (t : Token) (part : Part) → part ≡ part_at k s → part ≡ TokenPart t next → IsLegiblePlace s.place → IsLegiblePlace next.place
token_legible k s next t part e f h = subst LeavesLegible (sym e ∙ f) (part_leaves k s h)

pub front_of : (text front all : List ℕ) (n : ℕ) → front ≡ take n text → IsUtf8 (take n text) → all ≡ front ++ 0xFF ∷ [] → AreLegible (text_lines all)
front_of text front all n e u a = subst (λ t. AreLegible (text_lines t)) (sym (a ∙ ap (λ t. t ++ 0xFF ∷ []) e)) (front_lines (take n text) u)
