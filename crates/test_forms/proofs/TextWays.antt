-- The ways of the functions that read strings and words.
use Rattle.std.proofs.Common.{◌≡◌, ℕ, List, [], ◌∷◌, ◌++◌, Option, Some, None, true, false, refl, ap, sym, subst, arith}
use Rattle.std.specs.Borrow.{Bor}
use Rattle.std.specs.Prelude.{MatchOption}
use Rattle.pr_forms.specs.Form.{token, pair, turns, rule}
use Rattle.pr_forms.specs.Run.{good, bad, run_rule, run_pair, run_first, run_right, run_nothing, run_in_turn}
use Rattle.pr_forms.specs.Language.{seen, Gives, Takes, Lacks, Chooses, ChoosesNone, Leads, FailsAt}
use Rattle.pr_forms.specs.declared.reader.Fault.{Fault}
use Rattle.pr_forms.specs.declared.reader.Fault.TheVariants.{Bad, Memory}
use Rattle.pr_forms.proofs.Steps.{next_left, next_right, next_pair}
use Rattle.pr_forms.proofs.Ways.{take_side, take_side_bad, other_side}
use Rattle.pr_forms.proofs.Carrying.{carry_on, carry_rule, carry_left, turn_taken}
use Rattle.pr_forms.proofs.Choosing.{carry_chosen, chosen_next, none_next}
use Rattle.pr_forms.proofs.Within.{gives_good, gives_bad}
use Rattle.test_forms.specs.private.Quoted as quoted
use Rattle.test_forms.specs.private.Quoted.{strings, content, byte_value, quote_at, backslash_at, plain_at, any_at, joined, piece}
use Rattle.test_forms.specs.private.Words.{table, lists, Word, Rest, Value, word, letter_at, letters_with, is_letter_glyph}
use Rattle.test_forms.specs.private.TextReader.{HasPiece, BreaksOff, bytes_of}
use Rattle.test_forms.specs.declared.words.Word.{Word as WordOf}
use Rattle.test_forms.proofs.WordsTable.{strings_within}

-- an escape
pub piece_escaped : (text mid rest : List ℕ) (b : ℕ) → Takes strings (token backslash_at) text quoted.mark mid → Takes strings (token any_at) mid (byte_value b) rest → Takes strings piece text (byte_value b) rest
piece_escaped text mid rest b x y = record {
  gives = take_side x y.gives;
  next = next_left quoted.table (pair quoted.second_of (token backslash_at) (token any_at)) (token plain_at) (seen strings text) (next_pair quoted.table quoted.second_of (token backslash_at) (token any_at) (seen strings text) true refl x.next);
  shorter = omega (arith, x.shorter, y.shorter);
}

pub piece_broken : (text mid : List ℕ) → Takes strings (token backslash_at) text quoted.mark mid → Lacks strings (token any_at) mid → BreaksOff text mid
piece_broken text mid x y = record {
  gives = take_side_bad x y.gives;
  next = next_left quoted.table (pair quoted.second_of (token backslash_at) (token any_at)) (token plain_at) (seen strings text) (next_pair quoted.table quoted.second_of (token backslash_at) (token any_at) (seen strings text) true refl x.next);
}

-- a byte that stands for itself, or no piece
pub piece_plain : (text : List ℕ) (o : Option (ℕ × Bor (List ℕ))) → Lacks strings (token backslash_at) text →
    MatchOption o (Lacks strings (token plain_at) text) (λ x. Takes strings (token plain_at) text (byte_value x.0) x.1.now) → HasPiece text o
piece_plain text (Some x) l h = record {
  gives = other_side l h.gives;
  next = next_right quoted.table (pair quoted.second_of (token backslash_at) (token any_at)) (token plain_at) (seen strings text) true (next_pair quoted.table quoted.second_of (token backslash_at) (token any_at) (seen strings text) false refl l.next) h.next;
  shorter = h.shorter;
}
piece_plain text None l h = record {
  gives = other_side l h.gives;
  next = next_right quoted.table (pair quoted.second_of (token backslash_at) (token any_at)) (token plain_at) (seen strings text) false (next_pair quoted.table quoted.second_of (token backslash_at) (token any_at) (seen strings text) false refl l.next) h.next;
}

pub pieces_more : (text rest after : List ℕ) (bs cs : List ℕ) (b : ℕ) → Leads strings (turns joined (content []) piece) text (turns joined (content bs) piece) rest → Takes strings piece rest (byte_value b) after → cs ≡ bs ++ b ∷ [] →
    Leads strings (turns joined (content []) piece) text (turns joined (content cs) piece) after
pieces_more text rest after bs cs b l h e = subst (λ x. Leads strings (turns joined (content []) piece) text (turns joined (content x) piece) after) (sym e) (turn_taken l h)

pub pieces_broken : (text rest left : List ℕ) (bs : List ℕ) → Leads strings (turns joined (content []) piece) text (turns joined (content bs) piece) rest → BreaksOff rest left → Gives strings (turns joined (content []) piece) text (bad (seen strings left))
pieces_broken text rest left bs l h = l.fails _ (run_in_turn h.next h.gives)

-- the first letter of a word, and one more
pub word_starts : (text rest : List ℕ) (b : ℕ) (bs : List ℕ) → Chooses lists (letter_at []) (letters_with [] b) text rest → bs ≡ b ∷ [] → Leads lists (rule Word) text (rule (Rest bs)) rest
word_starts text rest b bs h e = subst (λ x. Leads lists (rule Word) text (rule (Rest x)) rest) (sym e) (carry_on carry_rule (carry_on (carry_left (chosen_next Value table (letter_at []) is_letter_glyph h)) (carry_chosen h refl refl)))

pub word_goes_on : (text at rest : List ℕ) (b : ℕ) (bs cs : List ℕ) → Leads lists (rule Word) text (rule (Rest bs)) at → Chooses lists (letter_at bs) (letters_with bs b) at rest → cs ≡ bs ++ b ∷ [] → Leads lists (rule Word) text (rule (Rest cs)) rest
word_goes_on text at rest b bs cs l h e = subst (λ x. Leads lists (rule Word) text (rule (Rest x)) rest) (sym e)
    (carry_on l (carry_on carry_rule (carry_on (carry_left (chosen_next Value table (letter_at bs) is_letter_glyph h)) (carry_chosen h refl refl))))

pub word_ends : (text at : List ℕ) (bs : List ℕ) → Leads lists (rule Word) text (rule (Rest bs)) at → ChoosesNone lists (letter_at bs) at → Gives lists (rule Word) text (good (word bs) (seen lists at))
word_ends text at bs l h = l.reads _ _ (run_rule (run_right (none_next Value table (letter_at bs) is_letter_glyph h) run_nothing))

-- a string as a word
pub word_quoted : (text rest : List ℕ) (bs : List ℕ) → ChoosesNone lists (letter_at []) text → Gives strings (rule quoted.Text) text (good (content bs) (seen strings rest)) → Gives lists (rule Word) text (good (word bs) (seen lists rest))
word_quoted text rest bs h q = run_rule (run_right (none_next Value table (letter_at []) is_letter_glyph h) (run_pair (gives_good strings_within text rest q) run_nothing))

pub word_bad : (text : List ℕ) (e : Fault ℕ) → ChoosesNone lists (letter_at []) text → FailsAt strings (rule quoted.Text) text e → FailsAt lists (rule Word) text e
word_bad text (Bad rest) h q = run_rule (run_right (none_next Value table (letter_at []) is_letter_glyph h) (run_first (gives_bad strings_within text rest.now q)))
word_bad text Memory h q = tt

pub bytes_of-push : (ws : List WordOf) (w : WordOf) → bytes_of (ws ++ w ∷ []) ≡ bytes_of ws ++ w.bytes.items ∷ []
bytes_of-push [] w = refl
bytes_of-push (x ∷ ws) w = ap (λ bs. x.bytes.items ∷ bs) (bytes_of-push ws w)
