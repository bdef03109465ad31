-- The ways of a reader through whole templates.
use Rattle.std.proofs.Common.{◌≡◌, ℕ, zero, suc, ◌≤◌, ◌+◌, ◌-◌, Bool, true, false, Option, Some, None, List, [], ◌∷◌, ◌++◌, length, map, take, refl, sym, ap, subst, ◌∙◌, arith, append_assoc, append-nil, length-append}
use Rattle.std.proofs.lemmas.Bool.Decides.{nat_tests}
use Rattle.std.specs.Prelude.{is_some, codes}
use Prim.Native.Char.{code}
use Rattle.pr_labels.specs.pr_forms.Form.{rule}
use Rattle.pr_labels.specs.pr_forms.Run.{Runs, good, bad, run_token, run_pair, run_second, run_left, run_right, run_rule, run_nothing, run_chosen, run_chosen_bad}
use Rattle.pr_labels.specs.pr_forms.Carries.{Carries}
use Rattle.pr_labels.proofs.FormsCarrying.{carry_with, carry_made, carry_of}
use Rattle.pr_labels.proofs.FormsDecided.{shrinks}
use Rattle.pr_labels.proofs.FormsSound.{meets, reads, begins}
use Rattle.pr_labels.proofs.FormsPlaces.{run_place, only_reading, one_place}
use Rattle.pr_labels.proofs.FormsSuffixes.{Suffix, here, there, suffix_length, begins_suffix}
use Rattle.pr_tmpl.specs.declared.kind.TemplateByte.{TemplateByte}
use Rattle.pr_tmpl.specs.declared.kind.TemplateByte.TheVariants.{Open}
use Rattle.pr_tmpl.specs.declared.letter.Letter.{Letter}
use Rattle.pr_tmpl.specs.declared.letter.Letter.TheVariants.{Plain, Escape, Broken}
use Rattle.pr_tmpl.specs.declared.template.Operand.{Operand}
use Rattle.pr_tmpl.specs.declared.template.Call.{Call}
use Rattle.pr_tmpl.specs.declared.template.Part.{Part}
use Rattle.pr_tmpl.specs.declared.template.Part.TheVariants.{Words, Pipe}
use Rattle.pr_tmpl.specs.Pieces.{Piece, plain, escape, broken, part, raw_of, raw_text, pieces, kind_of}
use Rattle.pr_tmpl.specs.private.Letters.{IsPlain, IsLetter}
use Rattle.pr_tmpl.specs.private.Reader.{Gives}
use Rattle.pr_tmpl.specs.private.Pipes.{a_pipe, IsPipe}
use Rattle.pr_tmpl.specs.private.Parsed.{opens, led_by, words_part, IsWords, IsOpened, IsAllWords, IsStep, IsTurn, HasPartsUpTo}
use Rattle.pr_tmpl.specs.TemplateText.{TemplateValue, parts, with_text, text_rule, opened_rule, Text, PlainPiece, PieceAfterBrace, production}
use Rattle.pr_tmpl.specs.TemplateTable.{table}
use Rattle.pr_tmpl.specs.TemplateReading.{template_parts, bad_piece, bad_template_place}
use Rattle.pr_tmpl.proofs.Pieces.{pieces_at_end, pieces_are_all}
use Rattle.pr_tmpl.proofs.TemplateTable.{known}
use Rattle.pr_tmpl.proofs.TemplateEnds.{parts_read, parts_given, place_given}

-- words that stand together are one text
with_text_joined : (bs cs : List ℕ) (ps : List Part) → with_text bs (with_text cs ps) ≡ with_text (bs ++ cs) ps
with_text_joined bs cs [] = refl
with_text_joined bs cs (Words ds ∷ ps) = ap (λ (xs : List ℕ). Words xs ∷ ps) (sym (append_assoc bs cs ds))
with_text_joined bs cs (Pipe o ds ∷ ps) = refl

led_joined : (bs cs : List ℕ) (ps : List Part) → led_by bs (led_by cs ps) ≡ led_by (bs ++ cs) ps
led_joined [] cs ps = refl
led_joined (b ∷ bs) [] ps = ap (λ (xs : List ℕ). with_text (b ∷ xs) ps) (sym (append-nil bs))
led_joined (b ∷ bs) (c ∷ cs) ps = with_text_joined (b ∷ bs) (c ∷ cs) ps

-- the same of pieces
abbrev AreWords : List Piece → List ℕ → List Piece → Type 0
AreWords ts ws us = Carries production table (rule Text) ts (λ ps. parts (led_by ws ps)) (rule Text) us parts

no_words : (ts : List Piece) → AreWords ts [] ts
no_words ts = record { reads = λ x end k. k; fails = λ end k. k }

words_joined : (ts us vs : List Piece) (bs cs : List ℕ) → AreWords ts bs us → AreWords us cs vs → AreWords ts (bs ++ cs) vs
words_joined ts us vs bs cs h k = carry_made (λ ps. ap parts (led_joined bs cs ps)) (carry_with (led_by cs) h k)

-- a piece, and a piece after a brace
a_piece : (t : Piece) (us : List Piece) (b : ℕ) (bs : List ℕ) → text_rule t ≡ Some PlainPiece → raw_of t ≡ b ∷ bs → AreWords (t ∷ us) (b ∷ bs) us
a_piece t us b bs e h = carry_made (λ ps. ap (λ (xs : List ℕ). parts (with_text xs ps)) h) (record { reads = good_piece; fails = bad_piece_here })
  where
    good_piece : (x : List Part) (end : List Piece) → Runs production table (rule Text) us (good (parts x) end) → Runs production table (rule Text) (t ∷ us) (good (parts (with_text (raw_of t) x)) end)
    good_piece x end k = let short = (shrinks k).is in run_rule (run_left (ap is_some e) (run_chosen e short (run_pair (run_token refl) k)))

    bad_piece_here : (end : List Piece) → Runs production table (rule Text) us (bad end) → Runs production table (rule Text) (t ∷ us) (bad end)
    bad_piece_here end k = run_rule (run_left (ap is_some e) (run_chosen_bad e (run_second (run_token refl) k)))

after_brace : (c : ℕ) (t : Piece) (us : List Piece) (b : ℕ) (bs : List ℕ) → opened_rule t ≡ Some PieceAfterBrace → raw_of t ≡ b ∷ bs → AreWords (plain Open c ∷ (t ∷ us)) (code "{" ∷ (b ∷ bs)) us
after_brace c t us b bs e h = carry_made (λ ps. ap (λ (xs : List ℕ). parts (with_text (code "{" ∷ xs) ps)) h) (record { reads = good_piece; fails = bad_piece_here })
  where
    good_piece : (x : List Part) (end : List Piece) → Runs production table (rule Text) us (good (parts x) end) → Runs production table (rule Text) (plain Open c ∷ (t ∷ us)) (good (parts (with_text (code "{" ∷ raw_of t) x)) end)
    good_piece x end k = let short = (shrinks k).is in
        run_rule (run_left refl (run_chosen refl (omega (arith, short)) (run_pair (run_token refl) (run_rule (run_left (ap is_some e) (run_chosen e short (run_pair (run_token refl) k)))))))

    bad_piece_here : (end : List Piece) → Runs production table (rule Text) us (bad end) → Runs production table (rule Text) (plain Open c ∷ (t ∷ us)) (bad end)
    bad_piece_here end k = run_rule (run_left refl (run_chosen_bad refl (run_second (run_token refl) (run_rule (run_left (ap is_some e) (run_chosen_bad e (run_second (run_token refl) k)))))))

two_braces : (b c : ℕ) (us : List Piece) → Carries production table (rule Text) (plain Open b ∷ (plain Open c ∷ us)) (λ v. v) a_pipe us (λ v. v)
two_braces b c us = record { reads = good_pipe; fails = bad_pipe }
  where
    good_pipe : (v : TemplateValue) (end : List Piece) → Runs production table a_pipe us (good v end) → Runs production table (rule Text) (plain Open b ∷ (plain Open c ∷ us)) (good v end)
    good_pipe v end k = let short = (shrinks k).is in
        run_rule (run_left refl (run_chosen refl (omega (arith, short)) (run_pair (run_token refl) (run_rule (run_left refl (run_chosen refl short (run_pair (run_token refl) k)))))))

    bad_pipe : (end : List Piece) → Runs production table a_pipe us (bad end) → Runs production table (rule Text) (plain Open b ∷ (plain Open c ∷ us)) (bad end)
    bad_pipe end k = run_rule (run_left refl (run_chosen_bad refl (run_second (run_token refl) (run_rule (run_left refl (run_chosen_bad refl (run_second (run_token refl) k)))))))

parts_words : (bs : List ℕ) (us : List Piece) → AreWords (map part bs ++ us) bs us
parts_words [] us = no_words us
parts_words (b ∷ bs) us = words_joined (part b ∷ (map part bs ++ us)) (map part bs ++ us) us (b ∷ []) bs (a_piece (part b) (map part bs ++ us) b [] refl refl) (parts_words bs us)

-- letters
shut_text : (k : TemplateByte) (b c : ℕ) → opens (Plain k b) ≡ false → text_rule (plain k c) ≡ Some PlainPiece
shut_text Open b c e = absurd (cc)
shut_text _ b c e = refl

shut_opened : (k : TemplateByte) (b c : ℕ) → opens (Plain k b) ≡ false → opened_rule (plain k c) ≡ Some PieceAfterBrace
shut_opened Open b c e = absurd (cc)
shut_opened _ b c e = refl

some_raw : (text rest raw means : List ℕ) (k : TemplateByte) → pieces text ≡ escape k raw means ∷ pieces rest → text ≡ raw ++ rest → raw ≡ [] → ⊥
some_raw text rest raw means k p e h = let same : text ≡ rest = e ∙ ap (λ (xs : List ℕ). xs ++ rest) h in let long : length (pieces text) ≡ suc (length (pieces rest)) = ap length p in let like = ap (λ (xs : List ℕ). length (pieces xs)) same in omega (arith, long, like)

escape_words : (text rest raw means : List ℕ) (k : TemplateByte) → pieces text ≡ escape k raw means ∷ pieces rest → text ≡ raw ++ rest → AreWords (escape k raw means ∷ pieces rest) raw (pieces rest)
escape_words text rest [] means k p e = absurd (some_raw text rest [] means k p e refl)
escape_words text rest (b ∷ bs) means k p e = a_piece (escape k (b ∷ bs) means) (pieces rest) b bs refl refl

escape_after : (c : ℕ) (text rest raw means : List ℕ) (k : TemplateByte) → pieces text ≡ escape k raw means ∷ pieces rest → text ≡ raw ++ rest → AreWords (plain Open c ∷ (escape k raw means ∷ pieces rest)) (code "{" ∷ raw) (pieces rest)
escape_after c text rest [] means k p e = absurd (some_raw text rest [] means k p e refl)
escape_after c text rest (b ∷ bs) means k p e = after_brace c (escape k (b ∷ bs) means) (pieces rest) b bs refl refl

of_pieces : (text rest ws : List ℕ) (ts : List Piece) → pieces text ≡ ts → text ≡ ws ++ rest → AreWords ts ws (pieces rest) → IsWords text rest
of_pieces text rest ws ts p e h = record { words = ws; bytes_are = e; hands = subst (λ (xs : List Piece). AreWords xs ws (pieces rest)) (sym p) h }

letter_words : (l : Letter) (text rest : List ℕ) → IsLetter text l rest → opens l ≡ false → IsWords text rest
letter_words (Plain k b) text rest h e = of_pieces text rest (b ∷ []) (plain k b ∷ pieces rest) h.pieces_are h.bytes_are (a_piece (plain k b) (pieces rest) b [] (shut_text k b b e) refl)
letter_words (Escape k means) text rest h e = of_pieces text rest h.raw (escape k h.raw means.items ∷ pieces rest) h.pieces_are h.bytes_are (escape_words text rest h.raw means.items k h.pieces_are h.bytes_are)
letter_words Broken text rest h e = of_pieces text rest (codes "\\" ++ h.parts) (broken ∷ (map part h.parts ++ pieces rest)) h.pieces_are h.bytes_are
    (words_joined (broken ∷ (map part h.parts ++ pieces rest)) (map part h.parts ++ pieces rest) (pieces rest) (codes "\\") h.parts (a_piece broken (map part h.parts ++ pieces rest) (code "\\") [] refl refl) (parts_words h.parts (pieces rest)))

open_byte : (b : ℕ) → Open ≡ kind_of b → b ≡ 123
open_byte b e = grind (arith, nat_tests)

-- an opening brace
record IsBrace (text rest : List ℕ) : Type 0 where
  pub byte : ℕ
  pub pieces_are : pieces text ≡ plain Open byte ∷ pieces rest
  pub bytes_are : text ≡ code "{" ∷ rest

brace_of : (k : TemplateByte) (b : ℕ) (text rest : List ℕ) → IsPlain text k b rest → opens (Plain k b) ≡ true → IsBrace text rest
brace_of Open b text rest h e = record { byte = b; pieces_are = h.pieces_are; bytes_are = h.bytes_are ∙ ap (λ (x : ℕ). x ∷ rest) (open_byte b h.kind_is) }
brace_of _ b text rest h e = absurd (cc)

a_brace : (l : Letter) (text rest : List ℕ) → IsLetter text l rest → opens l ≡ true → IsBrace text rest
a_brace (Plain k b) text rest h e = brace_of k b text rest h e
a_brace (Escape k means) text rest h e = absurd (cc)
a_brace Broken text rest h e = absurd (cc)

brace_words : (l : Letter) (text at rest : List ℕ) → IsBrace text at → IsLetter at l rest → opens l ≡ false → IsWords text rest
brace_words (Plain k b) text at rest q h e = of_pieces text rest (code "{" ∷ b ∷ []) (plain Open q.byte ∷ (plain k b ∷ pieces rest)) (q.pieces_are ∙ ap (λ (ps : List Piece). plain Open q.byte ∷ ps) h.pieces_are)
    (q.bytes_are ∙ ap (λ (xs : List ℕ). code "{" ∷ xs) h.bytes_are) (after_brace q.byte (plain k b) (pieces rest) b [] (shut_opened k b b e) refl)
brace_words (Escape k means) text at rest q h e = of_pieces text rest (code "{" ∷ h.raw) (plain Open q.byte ∷ (escape k h.raw means.items ∷ pieces rest)) (q.pieces_are ∙ ap (λ (ps : List Piece). plain Open q.byte ∷ ps) h.pieces_are)
    (q.bytes_are ∙ ap (λ (xs : List ℕ). code "{" ∷ xs) h.bytes_are) (escape_after q.byte at rest h.raw means.items k h.pieces_are h.bytes_are)
brace_words Broken text at rest q h e = of_pieces text rest (code "{" ∷ (codes "\\" ++ h.parts)) (plain Open q.byte ∷ (broken ∷ (map part h.parts ++ pieces rest))) (q.pieces_are ∙ ap (λ (ps : List Piece). plain Open q.byte ∷ ps) h.pieces_are)
    (q.bytes_are ∙ ap (λ (xs : List ℕ). code "{" ∷ xs) h.bytes_are)
    (words_joined (plain Open q.byte ∷ (broken ∷ (map part h.parts ++ pieces rest))) (map part h.parts ++ pieces rest) (pieces rest) (code "{" ∷ codes "\\") h.parts
    (after_brace q.byte broken (map part h.parts ++ pieces rest) (code "\\") [] refl refl) (parts_words h.parts (pieces rest)))

-- words up to a place
pub words_start : (text : List ℕ) → IsWords text text
words_start text = record { words = []; bytes_are = refl; hands = no_words (pieces text) }

words_on : (text at rest : List ℕ) → IsWords text at → IsWords at rest → IsWords text rest
words_on text at rest h k = record {
  words = h.words ++ k.words;
  bytes_are = h.bytes_are ∙ (ap (λ (xs : List ℕ). h.words ++ xs) k.bytes_are ∙ sym (append_assoc h.words k.words rest));
  hands = words_joined (pieces text) (pieces at) (pieces rest) h.words k.words h.hands k.hands;
}

empty_text : (text : List ℕ) → text ≡ [] → Gives (rule Text) text (good (parts []) [])
empty_text text e = subst (λ (ps : List Piece). Runs production table (rule Text) ps (good (parts []) [])) (sym (ap pieces e ∙ pieces_at_end)) (run_rule (run_right refl run_nothing))

brace_at_end : (text rest : List ℕ) → IsBrace text rest → rest ≡ [] → Gives (rule Text) text (good (parts (Words (codes "{") ∷ [])) [])
brace_at_end text rest h e = subst (λ (ps : List Piece). Runs production table (rule Text) ps (good (parts (Words (codes "{") ∷ [])) [])) (sym (h.pieces_are ∙ ap (λ (ps : List Piece). plain Open h.byte ∷ ps) (ap pieces e ∙ pieces_at_end)))
    (run_rule (run_left refl (run_chosen refl (omega arith) (run_pair (run_token refl) (run_rule (run_right refl run_nothing))))))

pub all_words : (text rest : List ℕ) (h : IsWords text rest) → Gives (rule Text) rest (good (parts (led_by rest [])) []) → IsAllWords text
all_words text rest h k = subst (λ (ps : List Part). Gives (rule Text) text (good (parts ps) [])) (led_joined h.words rest [] ∙ ap (λ (xs : List ℕ). led_by xs []) (sym h.bytes_are)) (h.hands.reads (led_by rest []) [] k)

pub all_end : (text : List ℕ) → text ≡ [] → IsAllWords text
all_end text e = subst (λ (xs : List ℕ). Gives (rule Text) text (good (parts (led_by xs [])) [])) (sym e) (empty_text text e)

pub brace_ends : (text rest : List ℕ) (b : Bool) → IsStep text b rest → b ≡ true → rest ≡ [] → IsAllWords text
brace_ends text rest b h e n = let q = a_brace h.letter text rest h.is (h.so ∙ e) in
    subst (λ (xs : List ℕ). Gives (rule Text) text (good (parts (led_by xs [])) [])) (sym (q.bytes_are ∙ ap (λ (xs : List ℕ). code "{" ∷ xs) n)) (brace_at_end text rest q n)

pub step_words : (text rest : List ℕ) (b : Bool) → IsStep text b rest → b ≡ false → IsWords text rest
step_words text rest b h e = letter_words h.letter text rest h.is (h.so ∙ e)

pub second_turn : (text at rest : List ℕ) (b s : Bool) → IsStep text b at → b ≡ true → IsStep at s rest → IsTurn text s rest
second_turn text at rest b false h e k = brace_words k.letter text at rest (a_brace h.letter text at h.is (h.so ∙ e)) k.is k.so
second_turn text at rest b true h e k = let q = a_brace h.letter text at h.is (h.so ∙ e) in let r = a_brace k.letter at rest k.is k.so in
    carry_of parts (subst (λ (ps : List Piece). Carries production table (rule Text) ps (λ v. v) a_pipe (pieces rest) (λ v. v)) (sym (q.pieces_are ∙ ap (λ (ps : List Piece). plain Open q.byte ∷ ps) r.pieces_are)) (two_braces q.byte r.byte (pieces rest)))

pub turn_words : (text at rest : List ℕ) (b : Bool) → IsWords text at → IsTurn at b rest → b ≡ false → IsWords text rest
turn_words text at rest true h k e = absurd (cc)
turn_words text at rest false h k e = words_on text at rest h k

pub take_front : (ws rest : List ℕ) → take (length (ws ++ rest) - length rest) (ws ++ rest) ≡ ws
take_front ws rest = let n : length (ws ++ rest) - length rest ≡ length ws = omega (arith, length-append ws rest) in ap (λ (k : ℕ). take k (ws ++ rest)) n ∙ taken ws rest
  where
    taken : (ws rest : List ℕ) → take (length ws) (ws ++ rest) ≡ ws
    taken [] rest = refl
    taken (w ∷ ws) rest = ap (λ (xs : List ℕ). w ∷ xs) (taken ws rest)

pub words_short : (text rest : List ℕ) → IsWords text rest → length rest ≤ length text
words_short text rest h = let n = ap length h.bytes_are in omega (arith, n, length-append h.words rest)

pub turn_opens : (text at rest ws : List ℕ) (b : Bool) → IsWords text at → IsTurn at b rest → b ≡ true → ws ≡ take (length text - length at) text → IsOpened text ws rest
turn_opens text at rest ws false h k e i = absurd (cc)
turn_opens text at rest ws true h k e i = subst (λ (xs : List ℕ). IsOpened text xs rest) (sym (i ∙ (ap (λ (xs : List ℕ). take (length xs - length at) xs) h.bytes_are ∙ take_front h.words at))) (carry_with (λ ps. ps) h.hands k)

-- the parts
pub parts_start : (text : List ℕ) (ps : List Part) → ps ≡ [] → HasPartsUpTo text ps text
parts_start text ps e = subst (λ (qs : List Part). HasPartsUpTo text qs text) (sym e) (record { reads = λ x end k. k; fails = λ end k. k })

led_pipe : (ws : List ℕ) (o : Operand) (cs : List Call) (ps : List Part) → led_by ws (Pipe o cs ∷ ps) ≡ words_part ws ++ Pipe o cs ∷ ps
led_pipe [] o cs ps = refl
led_pipe (w ∷ ws) o cs ps = refl

led_end : (ws : List ℕ) → led_by ws [] ≡ words_part ws
led_end [] = refl
led_end (w ∷ ws) = refl

parts_grown : (before mid now : List Part) (ws : List ℕ) (o : Operand) (cs : List Call) (ps : List Part) → mid ≡ before ++ words_part ws → now ≡ mid ++ Pipe o cs ∷ [] → before ++ led_by ws (Pipe o cs ∷ ps) ≡ now ++ ps
parts_grown before mid now ws o cs ps e h = ap (λ (qs : List Part). before ++ qs) (led_pipe ws o cs ps)
    ∙ (sym (append_assoc before (words_part ws) (Pipe o cs ∷ ps)) ∙ (ap (λ (qs : List Part). qs ++ Pipe o cs ∷ ps) (sym e) ∙ (sym (append_assoc mid (Pipe o cs ∷ []) ps) ∙ ap (λ (qs : List Part). qs ++ ps) (sym h))))

pub parts_on : (text at mid rest ws : List ℕ) (before between now : List Part) (o : Operand) (cs : List Call) → HasPartsUpTo text before at → IsOpened at ws mid → IsPipe a_pipe mid o cs rest → between ≡ before ++ words_part ws → now ≡ between ++ Pipe o cs ∷ [] → HasPartsUpTo text now rest
parts_on text at mid rest ws before between now o cs h k p e i = carry_made (λ ps. ap parts (parts_grown before between now ws o cs ps e i)) (carry_with (λ ps. led_by ws (Pipe o cs ∷ ps)) h (carry_with (λ ps. Pipe o cs ∷ ps) k p))

pub pipe_fails : (text at mid ws : List ℕ) (before : List Part) → HasPartsUpTo text before at → IsOpened at ws mid → (end : List Piece) → Runs production table a_pipe (pieces mid) (bad end) → Runs production table (rule Text) (pieces text) (bad end)
pipe_fails text at mid ws before h k end q = h.fails end (k.fails end q)

pub parts_end : (text rest : List ℕ) (before now : List Part) → HasPartsUpTo text before rest → IsAllWords rest → now ≡ before ++ words_part rest → Gives (rule Text) text (good (parts now) [])
parts_end text rest before now h k e = subst (λ (ps : List Part). Gives (rule Text) text (good (parts ps) [])) (ap (λ (ps : List Part). before ++ ps) (led_end rest) ∙ sym e) (h.reads (led_by rest []) [] k)

-- the whole text
whole_template : (text : List ℕ) (ps : List Part) → Gives (rule Text) text (good (parts ps) []) → template_parts text ≡ Some ps
whole_template text ps q = parts_given text ps (reads (meets q))

not_given : (text rest : List ℕ) (o : Option (List Part)) → Gives (rule Text) text (bad (pieces rest)) → template_parts text ≡ o → o ≡ None
not_given text rest None q e = refl
not_given text rest (Some ps) q e = absurd (not_good (pieces rest) (parts ps) (only_reading production table known Text (pieces text) _ (parts ps) q (parts_read text ps e)))
  where
    not_good : (ps : List Piece) (v : TemplateValue) → bad ps ≡ good v [] → ⊥
    not_good ps v e = cc

no_template : (text rest : List ℕ) → Gives (rule Text) text (bad (pieces rest)) → template_parts text ≡ None
no_template text rest q = not_given text rest (template_parts text) q refl

-- a place of a piece as one of a byte
none_taken : (ts : List Piece) (n : ℕ) → n ≡ 0 → length (raw_text (take n ts)) ≡ 0
none_taken ts zero e = refl
none_taken ts (suc n) e = absurd (omega arith)

one_taken : (t : Piece) (ts : List Piece) (n m : ℕ) → n ≡ suc m → length (raw_text (take n (t ∷ ts))) ≡ length (raw_of t) + length (raw_text (take m ts))
one_taken t ts zero m e = absurd (omega arith)
one_taken t ts (suc n) m e = let k : n ≡ m = omega arith in length-append (raw_of t) (raw_text (take n ts)) ∙ ap (λ (x : ℕ). length (raw_of t) + length (raw_text (take x ts))) k

raw_front : (r ts : List Piece) → Suffix r ts → length (raw_text (take (length ts - length r) ts)) + length (raw_text r) ≡ length (raw_text ts)
raw_front r _ here = let z = none_taken r (length r - length r) (omega arith) in omega (arith, z)
raw_front r _ (there {t = t} {ts = ts} h) =
    let n = suffix_length h in
    let again = raw_front r ts h in
    let one = one_taken t ts (suc (length ts) - length r) (length ts - length r) (omega (arith, n)) in
    omega (arith, again, one, length-append (raw_of t) (raw_text ts))

place_in_bytes : (text rest : List ℕ) → Gives (rule Text) text (bad (pieces rest)) → bad_template_place text + length rest ≡ length text
unfolding bad_template_place
place_in_bytes text rest q =
    let n = one_place production (rule Text) (pieces text) (bad_piece text) (length (pieces text) - length (pieces rest)) (place_given text) (run_place production table known Text (pieces text) _ q) in
    let s = raw_front (pieces rest) (pieces text) (begins_suffix (begins (meets q))) in
    ap (λ (k : ℕ). length (raw_text (take k (pieces text))) + length rest) n
    ∙ (ap (λ (xs : List ℕ). length (raw_text (take (length (pieces text) - length (pieces rest)) (pieces text))) + length xs) (sym (pieces_are_all rest)) ∙ (s ∙ ap length (pieces_are_all text)))

bad_at : (text rest : List ℕ) (n : ℕ) → Gives (rule Text) text (bad (pieces rest)) → n ≡ length text - length rest → n ≡ bad_template_place text
bad_at text rest n q e = let h = place_in_bytes text rest q in omega (arith, h, e)

pub rest_short : (text rest : List ℕ) → Gives (rule Text) text (bad (pieces rest)) → length rest ≤ length text
rest_short text rest q = let h = place_in_bytes text rest q in omega (arith, h)

pub is_template : (text bytes : List ℕ) (ps qs : List Part) → bytes ≡ text → Gives (rule Text) bytes (good (parts ps) []) → qs ≡ ps → template_parts text ≡ Some qs
is_template text bytes ps qs e h i = ap template_parts (sym e) ∙ (whole_template bytes ps h ∙ ap (λ (x : List Part). Some x) (sym i))

pub is_none : (text bytes rest : List ℕ) (n : ℕ) → bytes ≡ text → Gives (rule Text) bytes (bad (pieces rest)) → n ≡ length bytes - length rest → (template_parts text ≡ None) × (n ≡ bad_template_place text)
is_none text bytes rest n e h i = (ap template_parts (sym e) ∙ no_template bytes rest h, bad_at bytes rest n h i ∙ ap bad_template_place e)
