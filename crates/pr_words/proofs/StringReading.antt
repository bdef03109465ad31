-- The ways of the functions that read a string.
use Rattle.std.proofs.Common.{◌≡◌, ℕ, suc, ◌+◌, ◌*◌, ◌-◌, ◌<◌, ◌≤◌, ◌^◌, List, [], ◌∷◌, ◌++◌, Option, Some, None, Bool, true, false, length, refl, ap, sym, ◌∙◌, subst, arith}
use Rattle.std.proofs.Math.Nat.{one-le-pow, mul-le-mul_left}
use Rattle.std.proofs.lemmas.Bool.Decides.{nat_tests}
use Rattle.std.specs.Prelude.{nat_le, not, ◌&&◌, encode_utf8, if◌then◌else◌}
use Rattle.std.specs.Char.{InScalarRange}
use Rattle.pr_forms.specs.Form.{Form, token, pair, turns, chosen, rule}
use Rattle.pr_forms.specs.Table.{is_next}
use Rattle.pr_forms.specs.Run.{ReaderOutcome, good, bad, Runs, run_rule, run_left, run_right, run_pair, run_first, run_second, run_token, run_other, run_end, run_nothing, run_in_turn, run_chosen, run_chosen_bad, run_unchosen, run_chosen_end}
use Rattle.pr_forms.specs.Language.{Gives, Takes, Lacks, Leads}
use Rattle.pr_forms.proofs.Decided.{shrinks}
use Rattle.pr_forms.proofs.Carrying.{leading, carry_start, carry_on, carry_rule, turn_taken, turns_over}
use Rattle.pr_forms.proofs.Steps.{next_pair, next_left, next_right}
use Rattle.pr_words.specs.declared.strings.kind.Mark.{Mark}
use Rattle.pr_words.specs.declared.strings.kind.Mark.TheVariants.{Double, Single, Back}
use Rattle.pr_words.specs.declared.strings.kind.StringByte.{StringByte}
use Rattle.pr_words.specs.declared.strings.kind.StringByte.TheVariants.{Quote}
use Rattle.pr_words.specs.Strings.{production, kind_of, Letter, letter, letter_of, seen, StringValue, content, mark, byte_value, Rule, Text, Quoted, Escape, Digits, Then, quote_at, plain_at, escape_at, named_at, numbering, numbered_by, numbered, nothing_follows, digit_of, fits, reached, any_at, joined, second_of, piece}
use Rattle.pr_words.specs.private.Language.{text_strings}
use Rattle.pr_words.specs.private.Reader.{Breaks}
use Rattle.pr_words.specs.StringTable.{table}

-- past a token that has no value alone
past : (p : Letter → Option StringValue) (f : Form Letter Rule StringValue) (t : Letter) (ts : List Letter) (v : StringValue) → p t ≡ Some v → (o : ReaderOutcome Letter StringValue) → Runs production table f ts o →
    Runs production table (pair second_of (token p) f) (t ∷ ts) o
past p f t ts v e (good w rest) k = run_pair (run_token e) k
past p f t ts v e (bad rest) k = run_second (run_token e) k

-- what a chosen byte is followed by
enter : (q : Letter → Option Rule) (t : Letter) (ts : List Letter) (limit left n : ℕ) → q t ≡ Some (Then limit left n) → (o : ReaderOutcome Letter StringValue) →
    Runs production table (rule (Digits limit left n)) ts o → Runs production table (chosen q nothing_follows) (t ∷ ts) o
enter q t ts limit left n e (good v rest) k = run_chosen e (shrinks k).is (past any_at (rule (Digits limit left n)) t ts mark refl (good v rest) k)
enter q t ts limit left n e (bad rest) k = run_chosen_bad e (past any_at (rule (Digits limit left n)) t ts mark refl (bad rest) k)

pub chosen_end : (q : Letter → Option Rule) (text : List ℕ) → length text ≡ 0 → Gives text_strings (chosen q nothing_follows) text (bad (seen text))
chosen_end q [] e = run_chosen_end
chosen_end q (b ∷ text) e = absurd (omega arith)

pub unchosen : (q : Letter → Option Rule) (text rest : List ℕ) (b : ℕ) → text ≡ b ∷ rest → q (letter_of b) ≡ None → Gives text_strings (chosen q nothing_follows) text (bad (seen text))
unchosen q text rest b e h = subst (λ x. Gives text_strings (chosen q nothing_follows) x (bad (seen x))) (sym e) (run_unchosen h)

entered : (q : Letter → Option Rule) (text rest : List ℕ) (b limit left n : ℕ) → text ≡ b ∷ rest → q (letter_of b) ≡ Some (Then limit left n) →
    Leads text_strings (chosen q nothing_follows) text (rule (Digits limit left n)) rest
entered q text rest b limit left n e h = subst (λ x. Leads text_strings (chosen q nothing_follows) x (rule (Digits limit left n)) rest) (sym e)
    (leading (enter q (letter_of b) (seen rest) limit left n h))

-- the letter of an escape by digits
pub numbers : (text rest : List ℕ) (b limit digits : ℕ) (k : StringByte) → text ≡ b ∷ rest → k ≡ kind_of b → Some (numbering limit digits) ≡ numbered_by k →
    Leads text_strings (chosen numbered nothing_follows) text (rule (Digits limit digits 0)) rest
numbers text rest b limit digits k e h n = entered numbered text rest b limit digits 0 e (ap numbered_by (sym h) ∙ sym n)

pub no_numbering : (text rest : List ℕ) (b : ℕ) (k : StringByte) → text ≡ b ∷ rest → k ≡ kind_of b → None ≡ numbered_by k → Gives text_strings (chosen numbered nothing_follows) text (bad (seen text))
no_numbering text rest b k e h n = unchosen numbered text rest b e (ap numbered_by (sym h) ∙ sym n)

-- one digit
pub digit_read : (text rest : List ℕ) (b limit left n d : ℕ) (able : Bool) → text ≡ b ∷ rest → Some d ≡ digit_of (letter_of b) → able ≡ fits limit left (n * 16 + d) → able ≡ true →
    Leads text_strings (rule (Digits limit (suc left) n)) text (rule (Digits limit left (n * 16 + d))) rest
digit_read text rest b limit left n d able e h f y =
    let l = entered (λ t. reached limit left n (digit_of t)) text rest b limit left (n * 16 + d) e
    (ap (reached limit left n) (sym h) ∙ ap (λ x. if x then Some (Then limit left (n * 16 + d)) else None) (sym f ∙ y)) in
    carry_on carry_rule l

pub digit_end : (text : List ℕ) (limit left n : ℕ) → length text ≡ 0 → Gives text_strings (rule (Digits limit (suc left) n)) text (bad (seen text))
digit_end text limit left n e = run_rule (chosen_end (λ t. reached limit left n (digit_of t)) text e)

pub no_digit : (text rest : List ℕ) (b limit left n : ℕ) → text ≡ b ∷ rest → None ≡ digit_of (letter_of b) → Gives text_strings (rule (Digits limit (suc left) n)) text (bad (seen text))
no_digit text rest b limit left n e h = run_rule (unchosen (λ t. reached limit left n (digit_of t)) text rest b e (ap (reached limit left n) (sym h)))

pub unfit_digit : (text rest : List ℕ) (b limit left n d : ℕ) (able : Bool) → text ≡ b ∷ rest → Some d ≡ digit_of (letter_of b) → able ≡ fits limit left (n * 16 + d) → able ≡ false →
    Gives text_strings (rule (Digits limit (suc left) n)) text (bad (seen text))
unfit_digit text rest b limit left n d able e h f y = run_rule (unchosen (λ t. reached limit left n (digit_of t)) text rest b e
    (ap (reached limit left n) (sym h) ∙ ap (λ x. if x then Some (Then limit left (n * 16 + d)) else None) (sym f ∙ y)))

-- all digits
first_true : (a b : Bool) → (a && b) ≡ true → a ≡ true
first_true true b h = refl
first_true false b h = cc

second_true : (a b : Bool) → (a && b) ≡ true → b ≡ true
second_true true b h = cc
second_true false b h = cc

below : (a b : ℕ) → nat_le a b ≡ true → a ≤ b
below a b h = grind (arith, nat_tests)

-- what can become the number of a character is below its limit
pub able_small : (limit left n : ℕ) → fits limit left n ≡ true → n ≤ limit
able_small limit left n h =
    let one : n * 1 ≤ n * 16 ^ left = mul-le-mul_left n (one-le-pow left 16 (omega arith)) in
    let two : n * 16 ^ left ≤ limit = below (n * 16 ^ left) limit (first_true (nat_le (n * 16 ^ left) limit) _ h) in
    omega (arith, one, two)

no_surrogate : (m : ℕ) → not (nat_le 55296 m && nat_le (m + 1) 57344) ≡ true → m ≤ 1114111 → InScalarRange m
no_surrogate m h k = grind (arith, nat_tests)

pub able_scalar : (limit n : ℕ) → limit ≤ 1114111 → fits limit 0 n ≡ true → InScalarRange n
able_scalar limit n h f =
    let is : n * 16 ^ 0 ≡ n = omega arith in
    let s : not (nat_le 55296 n && nat_le (n + 1) 57344) ≡ true = subst (λ m. not (nat_le 55296 m && nat_le (m + 1) 57344) ≡ true) is (second_true (nat_le (n * 16 ^ 0) limit) _ f) in
    let l = able_small limit 0 n f in
    no_surrogate n s (omega arith)

zero_able : (limit m w : ℕ) → m ≡ 0 → (nat_le m limit && not (nat_le 55296 m && nat_le (m + w) 57344)) ≡ true
zero_able limit m w e = grind (arith, nat_tests)

pub none_yet : (limit digits : ℕ) → fits limit digits 0 ≡ true
none_yet limit digits = zero_able limit (0 * 16 ^ digits) (16 ^ digits) (omega arith)

pub next_digit : (limit digits left n next : ℕ) (text at rest : List ℕ) → 0 < left → Leads text_strings (rule (Digits limit digits 0)) text (rule (Digits limit left n)) at →
    Leads text_strings (rule (Digits limit (suc (left - 1)) n)) at (rule (Digits limit (left - 1) next)) rest → Leads text_strings (rule (Digits limit digits 0)) text (rule (Digits limit (left - 1) next)) rest
next_digit limit digits left n next text at rest pos l k =
    let is : suc (left - 1) ≡ left = omega arith in
    let j = subst (λ m. Leads text_strings (rule (Digits limit m n)) at (rule (Digits limit (left - 1) next)) rest) is k in
    carry_on l j

pub last_digit : (limit digits left n c : ℕ) (text rest : List ℕ) → left ≡ 0 → c ≡ n → Leads text_strings (rule (Digits limit digits 0)) text (rule (Digits limit left n)) rest →
    Gives text_strings (rule (Digits limit digits 0)) text (good (content (encode_utf8 c)) (seen rest))
last_digit limit digits left n c text rest none e l =
    let k = subst (λ m. Leads text_strings (rule (Digits limit digits 0)) text (rule (Digits limit m n)) rest) none l in
    subst (λ x. Gives text_strings (rule (Digits limit digits 0)) text (good (content (encode_utf8 x)) (seen rest))) (sym e) (k.reads _ _ (run_rule run_nothing))

pub bad_digit : (limit digits left n : ℕ) (text rest : List ℕ) → 0 < left → Leads text_strings (rule (Digits limit digits 0)) text (rule (Digits limit left n)) rest →
    Gives text_strings (rule (Digits limit (suc (left - 1)) n)) rest (bad (seen rest)) → Gives text_strings (rule (Digits limit digits 0)) text (bad (seen rest))
bad_digit limit digits left n text rest pos l k =
    let is : suc (left - 1) ≡ left = omega arith in
    l.fails _ (subst (λ m. Gives text_strings (rule (Digits limit m n)) rest (bad (seen rest))) is k)

abbrev escape_part : Mark → Form Letter Rule StringValue
escape_part m = pair second_of (token (escape_at m)) (rule (Escape m))

-- an escape
module _ (m : Mark) (text : List ℕ) where
  pub escape_named : (rest : List ℕ) (v : StringValue) → Takes text_strings (token (named_at m)) text v rest → Gives text_strings (rule (Escape m)) text (good v (seen rest))
  escape_named rest v x = run_rule (run_left x.next x.gives)

  pub escape_other : (o : ReaderOutcome Letter StringValue) → Lacks text_strings (token (named_at m)) text → Gives text_strings (chosen numbered nothing_follows) text o → Gives text_strings (rule (Escape m)) text o
  escape_other o l k = run_rule (run_right l.next k)

  -- a piece
  pub piece_plain : (rest : List ℕ) (b : ℕ) → Takes text_strings (token (plain_at m)) text (byte_value b) rest → Takes text_strings (piece m) text (byte_value b) rest
  piece_plain rest b x = record { gives = run_left x.next x.gives; next = next_left table (token (plain_at m)) (escape_part m) (seen text) x.next; shorter = x.shorter }

  pub piece_none : Lacks text_strings (token (plain_at m)) text → Lacks text_strings (token (escape_at m)) text → Lacks text_strings (piece m) text
  piece_none l k = record {
    gives = run_right l.next (run_first k.gives);
    next = next_right table (token (plain_at m)) (escape_part m) (seen text) false l.next (next_pair table second_of (token (escape_at m)) (rule (Escape m)) (seen text) false refl k.next);
  }

  escape_next : (after : List ℕ) → Lacks text_strings (token (plain_at m)) text → Takes text_strings (token (escape_at m)) text mark after → is_next table (piece m) (seen text) ≡ true
  escape_next after l x = next_right table (token (plain_at m)) (escape_part m) (seen text) true l.next (next_pair table second_of (token (escape_at m)) (rule (Escape m)) (seen text) true refl x.next)

  pub piece_escape : (after rest : List ℕ) (v : StringValue) → Lacks text_strings (token (plain_at m)) text → Takes text_strings (token (escape_at m)) text mark after → Gives text_strings (rule (Escape m)) after (good v (seen rest)) →
      Takes text_strings (piece m) text v rest
  piece_escape after rest v l x k = record {
    gives = run_right l.next (run_pair x.gives k);
    next = escape_next after l x;
    shorter = omega (arith, x.shorter, (shrinks k).is);
  }

  pub piece_breaks : (after rest : List ℕ) → Lacks text_strings (token (plain_at m)) text → Takes text_strings (token (escape_at m)) text mark after → Gives text_strings (rule (Escape m)) after (bad (seen rest)) →
      Breaks (piece m) text rest
  piece_breaks after rest l x k = record { gives = run_right l.next (run_second x.gives k); next = escape_next after l x }

-- the pieces
abbrev pub Pieces : Mark → List ℕ → List ℕ → List ℕ → Type 0
Pieces m text bytes rest = Leads text_strings (turns joined (content []) (piece m)) text (turns joined (content bytes) (piece m)) rest

pub no_pieces : (m : Mark) (text bytes : List ℕ) → bytes ≡ [] → Pieces m text bytes text
no_pieces m text bytes e = subst (λ x. Pieces m text x text) (sym e) carry_start

pub more_pieces : (m : Mark) (text at rest bytes more new : List ℕ) → Pieces m text bytes at → Takes text_strings (piece m) at (content more) rest → new ≡ bytes ++ more → Pieces m text new rest
more_pieces m text at rest bytes more new l x e = subst (λ y. Pieces m text y rest) (sym e) (turn_taken l x)

pub all_pieces : (m : Mark) (text at rest bytes : List ℕ) → Pieces m text bytes at → Lacks text_strings (piece m) at → Takes text_strings (token (quote_at m)) at mark rest →
    Gives text_strings (rule (Quoted m)) text (good (content bytes) (seen rest))
all_pieces m text at rest bytes l k x = run_rule (run_pair (turns_over l k.next) x.gives)

pub no_quote : (m : Mark) (text at bytes : List ℕ) → Pieces m text bytes at → Lacks text_strings (piece m) at → Lacks text_strings (token (quote_at m)) at → Gives text_strings (rule (Quoted m)) text (bad (seen at))
no_quote m text at bytes l k x = run_rule (run_second (turns_over l k.next) x.gives)

pub broken_piece : (m : Mark) (text at rest bytes : List ℕ) → Pieces m text bytes at → Breaks (piece m) at rest → Gives text_strings (rule (Quoted m)) text (bad (seen rest))
broken_piece m text at rest bytes l x = run_rule (run_first (l.fails _ (run_in_turn x.next x.gives)))

-- the first quote
open_by : (m : Mark) (b : ℕ) (ts : List Letter) (o : ReaderOutcome Letter StringValue) → Runs production table (rule (Quoted m)) ts o → Runs production table (rule Text) (letter (Quote m) b ∷ ts) o
open_by Double b ts o k = run_rule (run_left refl (past (quote_at Double) (rule (Quoted Double)) (letter (Quote Double) b) ts mark refl o k))
open_by Single b ts o k = run_rule (run_right refl (run_left refl (past (quote_at Single) (rule (Quoted Single)) (letter (Quote Single) b) ts mark refl o k)))
open_by Back b ts o k = run_rule (run_right refl (run_right refl (past (quote_at Back) (rule (Quoted Back)) (letter (Quote Back) b) ts mark refl o k)))

pub opens : (text rest : List ℕ) (b : ℕ) (k : StringByte) (m : Mark) → text ≡ b ∷ rest → k ≡ kind_of b → k ≡ Quote m → Leads text_strings (rule Text) text (rule (Quoted m)) rest
opens text rest b k m e h i = subst (λ x. Leads text_strings (rule Text) x (rule (Quoted m)) rest) (sym e)
    (leading (λ o j. subst (λ y. Runs production table (rule Text) (letter y b ∷ seen rest) o) (sym i ∙ h) (open_by m b (seen rest) o j)))

not_opened : (k : StringByte) (b : ℕ) (ts : List Letter) → ((m : Mark) → k ≡ Quote m → ⊥) → Runs production table (rule Text) (letter k b ∷ ts) (bad (letter k b ∷ ts))
not_opened (Quote m) b ts h = absurd (h m refl)
not_opened k b ts h = run_rule (run_right refl (run_right refl (run_first (run_other refl))))

pub unopened : (text rest : List ℕ) (b : ℕ) (k : StringByte) → text ≡ b ∷ rest → k ≡ kind_of b → ((m : Mark) → k ≡ Quote m → ⊥) → Gives text_strings (rule Text) text (bad (seen text))
unopened text rest b k e h n = subst (λ x. Gives text_strings (rule Text) x (bad (seen x))) (sym e)
    (subst (λ y. Runs production table (rule Text) (letter y b ∷ seen rest) (bad (letter y b ∷ seen rest))) h (not_opened k b (seen rest) n))

pub opening_end : (text : List ℕ) → length text ≡ 0 → Gives text_strings (rule Text) text (bad (seen text))
opening_end [] e = run_rule (run_right refl (run_right refl (run_first run_end)))
opening_end (b ∷ text) e = absurd (omega arith)
