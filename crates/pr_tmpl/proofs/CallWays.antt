-- The ways of a reader through the calls of pipes.
use Rattle.std.proofs.Common.{◌≡◌, ℕ, Bor, false, Some, None, List, [], ◌∷◌, ◌++◌, refl, sym, ap, subst, ◌∙◌, append_assoc, append-nil, Result, Ok, Err}
use Rattle.std.specs.Result.{MatchResult}
use Rattle.pr_labels.specs.pr_forms.declared.reader.Fault.{Fault}
use Rattle.pr_labels.specs.pr_forms.declared.reader.Fault.TheVariants.{Bad, Memory}
use Rattle.pr_labels.specs.pr_forms.Form.{token, pair, rule}
use Rattle.pr_labels.specs.pr_forms.Run.{Runs, good, bad, run_first, run_second, run_rule, run_chosen_end, run_unchosen}
use Rattle.pr_labels.proofs.FormsCarrying.{carry_on, carry_with, carry_made, carry_of, carry_rule, carry_second}
use Rattle.pr_tmpl.specs.declared.kind.TemplateByte.{TemplateByte}
use Rattle.pr_tmpl.specs.declared.kind.TemplateByte.TheVariants.{Bar, Close, Quote, Dollar, Point, SmallP, SmallH}
use Rattle.pr_tmpl.specs.declared.template.Operand.{Operand}
use Rattle.pr_tmpl.specs.declared.template.Call.{Call}
use Rattle.pr_tmpl.specs.Pieces.{Piece, plain, pieces}
use Rattle.pr_tmpl.specs.private.Letters.{IsPlain, HasNoPlain, IsSign, IsNoSign}
use Rattle.pr_tmpl.specs.private.Reader.{Gives, FailsAt, Leads, Hands}
use Rattle.pr_tmpl.specs.TemplateText.{Rule, parts, piped, operand, call, mark, production, blanks, second_of, closed, any_at, close_at, anything, next_rule, first_rule, call_rule, Text, FromOperand, FromCall, AnOperand, ACall, After, Next, Barred, Closing}
use Rattle.pr_tmpl.specs.TemplateTable.{table}
use Rattle.pr_tmpl.specs.private.Pipes.{after_gap, a_pipe, after_bar, IsCall, CallsSoFar, IsCalls, IsFromOperand, IsPipe}
use Rattle.pr_tmpl.proofs.WordWays.{chosen_word, choice, unchosen, unchosen_piece, takes_close, lacks_close}

pub no_call : (k : TemplateByte) (b : ℕ) → (k ≡ SmallP → ⊥) → (k ≡ SmallH → ⊥) → call_rule (plain k b) ≡ None
no_call SmallP b p h = absurd (p refl)
no_call SmallH b p h = absurd (h refl)
no_call _ b p h = refl

-- a call between bars
pub call_between : (text at after rest : List ℕ) (c : Call) → Gives blanks text (good mark (pieces at)) → Gives (rule ACall) at (good (call c) (pieces after)) → Gives blanks after (good mark (pieces rest)) → IsCall text c rest
call_between text at after rest c b k e = carry_on (carry_second b) (carry_on (carry_second k) (carry_on carry_rule (carry_second e)))

pub between_fails : (text at : List ℕ) → Gives blanks text (good mark (pieces at)) → (end : List Piece) → Runs production table (rule ACall) (pieces at) (bad end) → Runs production table after_bar (pieces text) (bad end)
between_fails text at b end k = run_second b (run_first k)

-- what a bar leads to
barred : (text rest : List ℕ) → IsSign Bar text rest → Leads (rule Next) text after_bar rest
barred text rest h = carry_on carry_rule (chosen_word next_rule anything Barred (plain Bar h.byte) text rest second_of any_at after_bar mark h.pieces_are refl refl refl refl)

pub calls_start : (before : List Call) (text rest : List ℕ) → Gives blanks text (good mark (pieces rest)) → CallsSoFar before text before rest
calls_start before text rest b = record { more = []; calls_are = sym (append-nil before); hands = carry_of (λ x. piped x.0 x.1) (carry_on carry_rule (carry_second b)) }

pub call_taken : (before : List Call) (text : List ℕ) (calls : List Call) (rest at next : List ℕ) (c : Call) (new : List Call) → CallsSoFar before text calls rest → IsSign Bar rest at → IsCall at c next → new ≡ calls ++ c ∷ [] → CallsSoFar before text new next
call_taken before text calls rest at next c new s h k e = record {
  more = s.more ++ c ∷ [];
  calls_are = e ∙ (ap (λ (xs : List Call). xs ++ c ∷ []) s.calls_are ∙ append_assoc before s.more (c ∷ []));
  hands = carry_made (λ x. ap (λ (xs : List Call). piped xs x.1) (sym (append_assoc s.more (c ∷ []) x.0))) (carry_with (λ x. (c ∷ x.0, x.1)) s.hands (carry_of (λ x. piped x.0 x.1) (carry_on (barred rest at h) k)));
}

pub call_fails : (before : List Call) (text : List ℕ) (calls : List Call) (rest at : List ℕ) → CallsSoFar before text calls rest → IsSign Bar rest at → (end : List Piece) → Runs production table after_bar (pieces at) (bad end) → Runs production table (rule After) (pieces text) (bad end)
call_fails before text calls rest at s h end k = s.hands.fails end ((barred rest at h).fails end k)

-- the braces at the end
pub closes : (text second end : List ℕ) → IsSign Close text second → IsSign Close second end → Hands (rule Next) text (piped []) (rule Text) end parts
closes text second end h k = carry_of parts (carry_on carry_rule (carry_on (chosen_word next_rule anything Closing (plain Close h.byte) text second closed any_at (pair second_of (token close_at) (rule Text)) mark h.pieces_are refl refl refl refl)
    (carry_second (takes_close second end k).gives)))

pub half_closes : (text second : List ℕ) → IsSign Close text second → IsNoSign Close second → Gives (rule Next) text (bad (pieces second))
half_closes text second h k = (carry_on carry_rule (chosen_word next_rule anything Closing (plain Close h.byte) text second closed any_at (pair second_of (token close_at) (rule Text)) mark h.pieces_are refl refl refl refl)).fails
    (pieces second) (run_first (lacks_close second k).gives)

neither : (t : Piece) → ((b : ℕ) → t ≡ plain Bar b → ⊥) → ((b : ℕ) → t ≡ plain Close b → ⊥) → next_rule t ≡ None
neither (plain Bar b) h k = absurd (h b refl)
neither (plain Close b) h k = absurd (k b refl)
neither _ h k = refl

none_next : (ps : List Piece) → ((b : ℕ) (qs : List Piece) → ps ≡ plain Bar b ∷ qs → ⊥) → ((b : ℕ) (qs : List Piece) → ps ≡ plain Close b ∷ qs → ⊥) → Runs production table (rule Next) ps (bad ps)
none_next [] h k = run_rule run_chosen_end
none_next (t ∷ ts) h k = run_rule (run_unchosen (neither t (λ b e. h b ts (ap (λ (x : Piece). x ∷ ts) e)) (λ b e. k b ts (ap (λ (x : Piece). x ∷ ts) e))))

pub no_end : (text : List ℕ) → IsNoSign Bar text → IsNoSign Close text → Gives (rule Next) text (bad (pieces text))
no_end text h k = none_next (pieces text) h k

pub calls_end : (before : List Call) (text : List ℕ) (calls : List Call) (rest end : List ℕ) → CallsSoFar before text calls rest → Hands (rule Next) rest (piped []) (rule Text) end parts → IsCalls before text calls end
calls_end before text calls rest end s h = record {
  more = s.more;
  calls_are = s.calls_are;
  hands = carry_made (λ ps. ap (λ (xs : List Call). piped xs ps) (append-nil s.more)) (carry_with (λ ps. ([], ps)) s.hands h);
}

pub end_fails : (before : List Call) (text : List ℕ) (calls : List Call) (rest : List ℕ) → CallsSoFar before text calls rest → (end : List Piece) → Runs production table (rule Next) (pieces rest) (bad end) → Runs production table (rule After) (pieces text) (bad end)
end_fails before text calls rest s end k = s.hands.fails end k

-- a pipe from its operand on
pub operand_then : (before : List Call) (text at end : List ℕ) (o : Operand) (calls : List Call) → Gives (rule AnOperand) text (good (operand o) (pieces at)) → IsCalls before at calls end → IsFromOperand before text o calls end
operand_then before text at end o calls h k = record { more = k.more; calls_are = k.calls_are; hands = carry_on (carry_second h) k.hands }

pub operand_fails : (text : List ℕ) (end : List Piece) → Runs production table (rule AnOperand) (pieces text) (bad end) → Runs production table (production FromOperand) (pieces text) (bad end)
operand_fails text end k = run_first k

pub after_operand_fails : (text at : List ℕ) (o : Operand) → Gives (rule AnOperand) text (good (operand o) (pieces at)) → (end : List Piece) → Runs production table (rule After) (pieces at) (bad end) → Runs production table (production FromOperand) (pieces text) (bad end)
after_operand_fails text at o h end k = run_second h k

-- a pipe from a call before its operand on
pub call_then : (text after rest : List ℕ) (c : Call) (before : List Call) (r : Result (Operand × List Call × Bor (List ℕ)) (Fault ℕ)) → before ≡ c ∷ [] → Gives (rule ACall) text (good (call c) (pieces after)) → Leads (after_gap (rule FromOperand)) after (rule FromOperand) rest
    → MatchResult r (λ x. IsFromOperand before rest x.0 x.1 x.2.now) (FailsAt (production FromOperand) rest) → MatchResult r (λ x. IsPipe (production FromCall) text x.0 x.1 x.2.now) (FailsAt (production FromCall) text)
call_then text after rest c before (Ok x) e h g k = subst (λ (cs : List Call). IsPipe (production FromCall) text x.0 cs x.2.now) (sym (k.calls_are ∙ ap (λ (xs : List Call). xs ++ k.more) e)) (carry_on (carry_second h) (carry_on g (carry_on carry_rule k.hands)))
call_then text after rest c before (Err (Bad at)) e h g k = run_second h (g.fails (pieces at.now) (run_rule k))
call_then text after rest c before (Err Memory) e h g k = tt

pub no_gap_fails : (text after rest : List ℕ) (c : Call) → Gives (rule ACall) text (good (call c) (pieces after)) → Gives (after_gap (rule FromOperand)) after (bad (pieces rest)) → Gives (production FromCall) text (bad (pieces rest))
no_gap_fails text after rest c h k = run_second h k

pub call_first_fails : (text : List ℕ) (end : List Piece) → Runs production table (rule ACall) (pieces text) (bad end) → Runs production table (production FromCall) (pieces text) (bad end)
call_first_fails text end k = run_first k

-- a pipe
first_leads : (n : Rule) (text at rest : List ℕ) (k : TemplateByte) (b : ℕ) → Gives blanks text (good mark (pieces at)) → IsPlain at k b rest → first_rule (plain k b) ≡ Some n → table.empty n ≡ false → Leads a_pipe text (production n) at
first_leads n text at rest k b h p e s = carry_on (carry_second h) (carry_on carry_rule (choice first_rule anything n (plain k b) at rest p.pieces_are e s))

pub from_operand_gives : (text at rest : List ℕ) (k : TemplateByte) (b : ℕ) (before : List Call) (r : Result (Operand × List Call × Bor (List ℕ)) (Fault ℕ)) → before ≡ [] → Gives blanks text (good mark (pieces at)) → IsPlain at k b rest → first_rule (plain k b) ≡ Some FromOperand
    → MatchResult r (λ x. IsFromOperand before at x.0 x.1 x.2.now) (FailsAt (production FromOperand) at) → MatchResult r (λ x. IsPipe a_pipe text x.0 x.1 x.2.now) (FailsAt a_pipe text)
from_operand_gives text at rest k b before (Ok x) e h p f m = subst (λ (cs : List Call). IsPipe a_pipe text x.0 cs x.2.now) (sym (m.calls_are ∙ ap (λ (xs : List Call). xs ++ m.more) e)) (carry_on (first_leads FromOperand text at rest k b h p f refl) m.hands)
from_operand_gives text at rest k b before (Err (Bad end)) e h p f m = (first_leads FromOperand text at rest k b h p f refl).fails (pieces end.now) m
from_operand_gives text at rest k b before (Err Memory) e h p f m = tt

pub from_call_gives : (text at rest : List ℕ) (k : TemplateByte) (b : ℕ) (r : Result (Operand × List Call × Bor (List ℕ)) (Fault ℕ)) → Gives blanks text (good mark (pieces at)) → IsPlain at k b rest → first_rule (plain k b) ≡ Some FromCall
    → MatchResult r (λ x. IsPipe (production FromCall) at x.0 x.1 x.2.now) (FailsAt (production FromCall) at) → MatchResult r (λ x. IsPipe a_pipe text x.0 x.1 x.2.now) (FailsAt a_pipe text)
from_call_gives text at rest k b (Ok x) h p f m = carry_on (first_leads FromCall text at rest k b h p f refl) m
from_call_gives text at rest k b (Err (Bad end)) h p f m = (first_leads FromCall text at rest k b h p f refl).fails (pieces end.now) m
from_call_gives text at rest k b (Err Memory) h p f m = tt

no_first : (k : TemplateByte) (b : ℕ) → (k ≡ Quote → ⊥) → (k ≡ Dollar → ⊥) → (k ≡ Point → ⊥) → (k ≡ SmallP → ⊥) → (k ≡ SmallH → ⊥) → first_rule (plain k b) ≡ None
no_first Quote b q d p f h = absurd (q refl)
no_first Dollar b q d p f h = absurd (d refl)
no_first Point b q d p f h = absurd (p refl)
no_first SmallP b q d p f h = absurd (f refl)
no_first SmallH b q d p f h = absurd (h refl)
no_first _ b q d p f h = refl

pub no_pipe : (text at rest : List ℕ) (k : TemplateByte) (b : ℕ) → Gives blanks text (good mark (pieces at)) → IsPlain at k b rest → (k ≡ Quote → ⊥) → (k ≡ Dollar → ⊥) → (k ≡ Point → ⊥) → (k ≡ SmallP → ⊥) → (k ≡ SmallH → ⊥) → Gives a_pipe text (bad (pieces at))
no_pipe text at rest k b h i q d p f g = run_second h (run_rule (unchosen_piece first_rule anything (plain k b) at rest i.pieces_are (no_first k b q d p f g)))

pub no_pipe_end : (text at : List ℕ) → Gives blanks text (good mark (pieces at)) → HasNoPlain at → Gives a_pipe text (bad (pieces at))
no_pipe_end text at h i = run_second h (run_rule (unchosen first_rule anything at i (λ k raw means. refl) refl))
