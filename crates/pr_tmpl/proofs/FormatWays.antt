-- The ways of a reader through the formats of printf.
use Rattle.std.proofs.Common.{◌≡◌, ℕ, ◌-◌, Bool, true, false, Option, Some, None, List, [], ◌∷◌, ◌++◌, refl, sym, ap, subst, ◌∙◌, append-nil, Result, Ok, Err, ◌⊎◌, inl, inr}
use Rattle.std.specs.Result.{MatchResult, IsErrAnd}
use Rattle.std.specs.Prelude.{is_some, codes}
use Prim.Native.Char.{code}
use Rattle.pr_labels.specs.pr_forms.declared.reader.Fault.{Fault}
use Rattle.pr_labels.specs.pr_forms.declared.reader.Fault.TheVariants.{Bad, Memory}
use Rattle.pr_labels.specs.pr_forms.Form.{Form, token, pair, either, rule}
use Rattle.pr_labels.specs.pr_forms.Run.{Runs, good, bad, run_token, run_other, run_end, run_pair, run_first, run_left, run_right, run_rule, run_nothing}
use Rattle.pr_labels.specs.pr_forms.Table.{is_next}
use Rattle.pr_labels.specs.pr_forms.Carries.{Carries}
use Rattle.pr_labels.proofs.FormsSteps.{next_pair}
use Rattle.pr_labels.proofs.FormsCarrying.{carry_on, carry_with, carry_made, carry_of, carry_rule, carry_left, carry_right, carry_second, leading as leading_on}
use Rattle.pr_tmpl.specs.declared.kind.TemplateByte.{TemplateByte}
use Rattle.pr_tmpl.specs.declared.kind.TemplateByte.TheVariants.{Quote, Percent, Point, Digit, SmallF, SmallS, SmallV}
use Rattle.pr_tmpl.specs.declared.quoted.Within.{Within}
use Rattle.pr_tmpl.specs.declared.quoted.Within.TheVariants.{Before as InFront, After as Behind}
use Rattle.pr_tmpl.specs.declared.quoted.Wanted.{Wanted}
use Rattle.pr_tmpl.specs.declared.quoted.Wanted.TheVariants.{Percent as AnotherPercent, Fixed as WantedFixed, Plain as WantedPlain}
use Rattle.pr_tmpl.specs.declared.template.Verb.{Verb}
use Rattle.pr_tmpl.specs.declared.template.Verb.TheVariants.{Plain as PlainVerb, Fixed}
use Rattle.pr_tmpl.specs.declared.template.Call.TheVariants.{Printf}
use Rattle.pr_tmpl.specs.Pieces.{Piece, plain, escape, broken, part, pieces}
use Rattle.pr_tmpl.specs.private.Letters.{IsBreak, IsSign, IsNoSign}
use Rattle.pr_tmpl.specs.private.Reader.{Gives, FailsAt, Leads, Hands}
use Rattle.pr_tmpl.specs.TemplateText.{Rule, TemplateValue, bytes, format, mark, verb, call, Before, AfterVerb, Places, LetterF, SecondPercent, Formatted, Breaking, Wanted as WantedRule, production, broken_at, broken_off, bytes_joined, before_verb, leading, second_of, percent_at, verb_at, verb_of, point_at, digit_at, digit_of, f_at}
use Rattle.pr_tmpl.specs.TemplateTable.{table}
use Rattle.pr_tmpl.specs.private.Quotes.{rule_of, Tail, tail, given, after_bytes, ReachesAsOwn, Stops, first_byte, CountsAs, IsControl, IsNoControl, BreaksOffAt, verb_wanted, IsWanted, LeadsUpTo, GoesOnBehind}
use Rattle.pr_tmpl.proofs.Pieces.{pieces_at_end}
use Rattle.pr_tmpl.proofs.WordWays.{takes_quote, lacks_quote}
use Rattle.pr_tmpl.proofs.QuoteWays.{no_break, break_off, break_next, stopped, tail_of, reached_more, own_breaks}

-- exits with the fault of a part
pub fail_exit : {Y : Type 0} (P : Y → Type 0) (f g : Form Piece Rule TemplateValue) (text rest : List ℕ) (r : Result Y (Fault ℕ)) (e : Fault ℕ) → IsErrAnd r (λ y. y ≡ e)
    → ((end : List Piece) → Runs production table g (pieces rest) (bad end) → Runs production table f (pieces text) (bad end)) → FailsAt g rest e → MatchResult r P (FailsAt f text)
fail_exit P f g text rest (Ok x) e h k b = absurd h
fail_exit P f g text rest (Err y) e h k b = step y (subst (FailsAt g rest) (sym h) b)
  where
    step : (y : Fault ℕ) → FailsAt g rest y → FailsAt f text y
    step (Bad at) j = k (pieces at.now) j
    step Memory j = tt

pub break_exit : {Y : Type 0} (P : Y → Type 0) (f : Form Piece Rule TemplateValue) (text at : List ℕ) (r : Result Y (Fault ℕ)) (e : Fault ℕ) → IsErrAnd r (λ y. y ≡ e)
    → ((rest : List ℕ) → IsBreak at rest → Gives f text (bad (pieces rest))) → BreaksOffAt at e → MatchResult r P (FailsAt f text)
break_exit P f text at (Ok x) e h k b = absurd h
break_exit P f text at (Err y) e h k b = step y (subst (BreaksOffAt at) (sym h) b)
  where
    step : (y : Fault ℕ) → BreaksOffAt at y → FailsAt f text y
    step (Bad rest) j = k rest.now j
    step Memory j = tt

-- pieces that count
counts_whole : (t : Piece) (k : TemplateByte) (b : ℕ) → CountsAs t k b → is_some (broken_at t) ≡ false
counts_whole (plain l c) k b h = refl
counts_whole (escape l raw means) k b h = refl
counts_whole broken k b h = absurd h
counts_whole (part c) k b h = refl

pub no_control_end : (text : List ℕ) (wanted : TemplateByte) → text ≡ [] → IsNoControl text wanted
no_control_end text wanted e = let i : pieces text ≡ [] = ap pieces e ∙ pieces_at_end in record {
  whole = subst (λ (ps : List Piece). is_next {V = TemplateValue} table broken_off ps ≡ false) (sym i) refl;
  none = λ t ps byte h k. not_empty t ps (sym i ∙ h);
}
  where
    not_empty : (t : Piece) (ps : List Piece) → [] ≡ t ∷ ps → ⊥
    not_empty t ps e = cc

own_percent : (t : Piece) (b : ℕ) → CountsAs t Percent b → percent_at t ≡ Some (bytes (codes "%"))
own_percent (plain k b) c h = rw (sym h.0) refl
own_percent (escape k raw means) c h = rw (sym h.0) refl
own_percent broken c h = absurd h
own_percent (part b) c h = absurd h

other_percent : (t : Piece) → ((b : ℕ) → CountsAs t Percent b → ⊥) → percent_at t ≡ None
other_percent (plain Percent b) h = absurd (h b (refl, refl))
other_percent (plain _ b) h = refl
other_percent (escape Percent raw means) h = absurd (h (first_byte means) (refl, refl))
other_percent (escape _ raw means) h = refl
other_percent _ h = refl

own_f : (t : Piece) (b : ℕ) → CountsAs t SmallF b → f_at t ≡ Some mark
own_f (plain k b) c h = rw (sym h.0) refl
own_f (escape k raw means) c h = rw (sym h.0) refl
own_f broken c h = absurd h
own_f (part b) c h = absurd h

other_f : (t : Piece) → ((b : ℕ) → CountsAs t SmallF b → ⊥) → f_at t ≡ None
other_f (plain SmallF b) h = absurd (h b (refl, refl))
other_f (plain _ b) h = refl
other_f (escape SmallF raw means) h = absurd (h (first_byte means) (refl, refl))
other_f (escape _ raw means) h = refl
other_f _ h = refl

digit_first : (means : List ℕ) → digit_of means ≡ first_byte means - code "0"
digit_first [] = refl
digit_first (b ∷ bs) = refl

own_digit : (t : Piece) (b : ℕ) → CountsAs t Digit b → digit_at t ≡ Some (verb (Fixed (b - code "0")))
own_digit (plain k b) c h = rw (sym h.0, h.1) refl
own_digit (escape k raw means) c h = rw (sym h.0, h.1) (ap (λ (x : ℕ). Some (verb (Fixed x))) (digit_first means))
own_digit broken c h = absurd h
own_digit (part b) c h = absurd h

other_digit : (t : Piece) → ((b : ℕ) → CountsAs t Digit b → ⊥) → digit_at t ≡ None
other_digit (plain Digit b) h = absurd (h b (refl, refl))
other_digit (plain _ b) h = refl
other_digit (escape Digit raw means) h = absurd (h (first_byte means) (refl, refl))
other_digit (escape _ raw means) h = refl
other_digit _ h = refl

-- a rule that wants one piece, or an escape that breaks off
module _ (p : Piece → Option TemplateValue) (wanted : TemplateByte) (value : ℕ → TemplateValue) (n : Rule) (c : TemplateValue → TemplateValue → TemplateValue) (f : Form Piece Rule TemplateValue) (is : production n ≡ either broken_off (pair c (token p) f))
    (own : (t : Piece) (b : ℕ) → CountsAs t wanted b → p t ≡ Some (value b)) (other : (t : Piece) → ((b : ℕ) → CountsAs t wanted b → ⊥) → p t ≡ None) where
  sought : (text rest : List ℕ) (b : ℕ) → IsControl text wanted b rest → Carries production table (rule n) (pieces text) (c (value b)) f (pieces rest) (λ w. w)
  sought text rest b h = carry_on carry_rule (subst (λ (g : Form Piece Rule TemplateValue). Carries production table g (pieces text) (c (value b)) f (pieces rest) (λ w. w)) (sym is)
      (carry_on (carry_right (no_break h.piece text (pieces rest) h.pieces_are (counts_whole h.piece wanted b h.counts)))
      (subst (λ (ps : List Piece). Carries production table (pair c (token p) f) ps (c (value b)) f (pieces rest) (λ w. w)) (sym h.pieces_are) (carry_second (run_token (own h.piece b h.counts))))))

  first_lacks : (ps : List Piece) → ((t : Piece) (qs : List Piece) (b : ℕ) → ps ≡ t ∷ qs → CountsAs t wanted b → ⊥) → Runs production table (token p) ps (bad ps)
  first_lacks [] h = run_end
  first_lacks (t ∷ ts) h = run_other (other t (λ b k. h t ts b refl k))

  not_sought : (text : List ℕ) → IsNoControl text wanted → Gives (rule n) text (bad (pieces text))
  not_sought text h = run_rule (subst (λ (g : Form Piece Rule TemplateValue). Runs production table g (pieces text) (bad (pieces text))) (sym is) (run_right h.whole (run_first (first_lacks (pieces text) h.none))))

  sought_breaks : (text rest : List ℕ) → IsBreak text rest → Gives (rule n) text (bad (pieces rest))
  sought_breaks text rest h = run_rule (subst (λ (g : Form Piece Rule TemplateValue). Runs production table g (pieces text) (bad (pieces rest))) (sym is) (run_left (break_next text rest h) (break_off text rest h)))

pub f_read : (text rest : List ℕ) (b : ℕ) → IsControl text SmallF b rest → Leads (rule LetterF) text (rule AfterVerb) rest
f_read = sought f_at SmallF (λ b. mark) LetterF second_of (rule AfterVerb) refl own_f other_f

pub no_f : (text : List ℕ) → IsNoControl text SmallF → Gives (rule LetterF) text (bad (pieces text))
no_f = not_sought f_at SmallF (λ b. mark) LetterF second_of (rule AfterVerb) refl own_f other_f

pub f_breaks : (text rest : List ℕ) → IsBreak text rest → Gives (rule LetterF) text (bad (pieces rest))
f_breaks = sought_breaks f_at SmallF (λ b. mark) LetterF second_of (rule AfterVerb) refl own_f other_f

pub second_read : (text rest : List ℕ) (b : ℕ) → IsControl text Percent b rest → Hands (rule SecondPercent) text (bytes_joined (bytes (codes "%"))) (rule AfterVerb) rest (λ v. v)
second_read = sought percent_at Percent (λ b. bytes (codes "%")) SecondPercent bytes_joined (rule AfterVerb) refl own_percent other_percent

pub no_second : (text : List ℕ) → IsNoControl text Percent → Gives (rule SecondPercent) text (bad (pieces text))
no_second = not_sought percent_at Percent (λ b. bytes (codes "%")) SecondPercent bytes_joined (rule AfterVerb) refl own_percent other_percent

pub second_breaks : (text rest : List ℕ) → IsBreak text rest → Gives (rule SecondPercent) text (bad (pieces rest))
second_breaks = sought_breaks percent_at Percent (λ b. bytes (codes "%")) SecondPercent bytes_joined (rule AfterVerb) refl own_percent other_percent

pub digit_read : (text rest : List ℕ) (b n : ℕ) → n ≡ b - 48 → IsControl text Digit b rest → Hands (rule Places) text (leading (verb (Fixed n))) (rule LetterF) rest (λ v. v)
digit_read text rest b n e h = subst (λ (x : ℕ). Hands (rule Places) text (leading (verb (Fixed x))) (rule LetterF) rest (λ v. v)) (sym e)
    (sought digit_at Digit (λ x. verb (Fixed (x - code "0"))) Places leading (rule LetterF) refl own_digit other_digit text rest b h)

pub no_digit : (text : List ℕ) → IsNoControl text Digit → Gives (rule Places) text (bad (pieces text))
no_digit = not_sought digit_at Digit (λ x. verb (Fixed (x - code "0"))) Places leading (rule LetterF) refl own_digit other_digit

pub digit_breaks : (text rest : List ℕ) → IsBreak text rest → Gives (rule Places) text (bad (pieces rest))
digit_breaks = sought_breaks digit_at Digit (λ x. verb (Fixed (x - code "0"))) Places leading (rule LetterF) refl own_digit other_digit

-- what a piece of some kind is to the tests
abbrev percent_of : TemplateByte → Option TemplateValue
percent_of Percent = Some (bytes (codes "%"))
percent_of _ = None

abbrev point_of : TemplateByte → Option TemplateValue
point_of Point = Some mark
point_of _ = None

plain_percent : (k : TemplateByte) (b : ℕ) → percent_at (plain k b) ≡ percent_of k
plain_percent Percent b = refl
plain_percent _ b = refl

escape_percent : (k : TemplateByte) (raw means : List ℕ) → percent_at (escape k raw means) ≡ percent_of k
escape_percent Percent raw means = refl
escape_percent _ raw means = refl

plain_point : (k : TemplateByte) (b : ℕ) → point_at (plain k b) ≡ point_of k
plain_point Point b = refl
plain_point _ b = refl

escape_point : (k : TemplateByte) (raw means : List ℕ) → point_at (escape k raw means) ≡ point_of k
escape_point Point raw means = refl
escape_point _ raw means = refl

counted_percent : (t : Piece) (k : TemplateByte) (b : ℕ) → CountsAs t k b → percent_at t ≡ percent_of k
counted_percent (plain l c) k b h = plain_percent l c ∙ ap percent_of (sym h.0)
counted_percent (escape l raw means) k b h = escape_percent l raw means ∙ ap percent_of (sym h.0)
counted_percent broken k b h = absurd h
counted_percent (part c) k b h = absurd h

counted_point : (t : Piece) (k : TemplateByte) (b : ℕ) → CountsAs t k b → point_at t ≡ point_of k
counted_point (plain l c) k b h = plain_point l c ∙ ap point_of (sym h.0)
counted_point (escape l raw means) k b h = escape_point l raw means ∙ ap point_of (sym h.0)
counted_point broken k b h = absurd h
counted_point (part c) k b h = absurd h

counted_verb : (t : Piece) (k : TemplateByte) (b : ℕ) → CountsAs t k b → verb_at t ≡ verb_of k
counted_verb (plain l c) k b h = ap verb_of (sym h.0)
counted_verb (escape l raw means) k b h = ap verb_of (sym h.0)
counted_verb broken k b h = absurd h
counted_verb (part c) k b h = absurd h

-- what stands after a `%`
abbrev after_second : Form Piece Rule TemplateValue
after_second = pair before_verb (token percent_at) (rule Before)

abbrev with_verb : Form Piece Rule TemplateValue
with_verb = pair leading (token verb_at) (rule AfterVerb)

abbrev with_point : Form Piece Rule TemplateValue
with_point = pair second_of (token point_at) (rule Places)

no_next : (c : TemplateValue → TemplateValue → TemplateValue) (p : Piece → Option TemplateValue) (f : Form Piece Rule TemplateValue) (t : Piece) (us : List Piece) → p t ≡ None → is_next {V = TemplateValue} table (pair c (token p) f) (t ∷ us) ≡ false
no_next c p f t us e = next_pair table c (token p) f (t ∷ us) false refl (ap is_some e)

a_next : (c : TemplateValue → TemplateValue → TemplateValue) (p : Piece → Option TemplateValue) (f : Form Piece Rule TemplateValue) (t : Piece) (us : List Piece) (v : TemplateValue) → p t ≡ Some v → is_next {V = TemplateValue} table (pair c (token p) f) (t ∷ us) ≡ true
a_next c p f t us v e = next_pair table c (token p) f (t ∷ us) true refl (ap is_some e)

whole_next : (t : Piece) (us : List Piece) → is_some (broken_at t) ≡ false → is_next {V = TemplateValue} table broken_off (t ∷ us) ≡ false
whole_next t us h = next_pair table second_of (token broken_at) (rule Breaking) (t ∷ us) false refl h

percent_wanted : (t : Piece) (us : List Piece) → percent_at t ≡ Some (bytes (codes "%")) → Carries production table (rule WantedRule) (t ∷ us) (before_verb (bytes (codes "%"))) (rule Before) us (λ v. v)
percent_wanted t us e = carry_on carry_rule (carry_on (carry_left (a_next before_verb percent_at (rule Before) t us _ e)) (carry_second (run_token e)))

verb_is_wanted : (t : Piece) (us : List Piece) (v : Verb) → percent_at t ≡ None → is_some (broken_at t) ≡ false → verb_at t ≡ Some (verb v) → Carries production table (rule WantedRule) (t ∷ us) (leading (verb v)) (rule AfterVerb) us (λ w. w)
verb_is_wanted t us v p w e = carry_on carry_rule (carry_on (carry_right (no_next before_verb percent_at (rule Before) t us p)) (carry_on (carry_right (whole_next t us w))
    (carry_on (carry_left (a_next leading verb_at (rule AfterVerb) t us _ e)) (carry_second (run_token e)))))

point_wanted : (t : Piece) (us : List Piece) → percent_at t ≡ None → is_some (broken_at t) ≡ false → verb_at t ≡ None → point_at t ≡ Some mark → Carries production table (rule WantedRule) (t ∷ us) (λ w. w) (rule Places) us (λ w. w)
point_wanted t us p w v e = carry_on carry_rule (carry_on (carry_right (no_next before_verb percent_at (rule Before) t us p)) (carry_on (carry_right (whole_next t us w))
    (carry_on (carry_right (no_next leading verb_at (rule AfterVerb) t us v)) (carry_second (run_token e)))))

none_wanted : (t : Piece) (us : List Piece) → percent_at t ≡ None → is_some (broken_at t) ≡ false → verb_at t ≡ None → point_at t ≡ None → Runs production table (rule WantedRule) (t ∷ us) (bad (t ∷ us))
none_wanted t us p w v e = run_rule (run_right (no_next before_verb percent_at (rule Before) t us p) (run_right (whole_next t us w) (run_right (no_next leading verb_at (rule AfterVerb) t us v) (run_first (run_other e)))))

pub wanted_percent : (text rest : List ℕ) (k : TemplateByte) (b : ℕ) → IsControl text k b rest → k ≡ Percent → IsWanted text AnotherPercent rest
wanted_percent text rest k b h e = subst (λ (ps : List Piece). Carries production table (rule WantedRule) ps (before_verb (bytes (codes "%"))) (rule Before) (pieces rest) (λ v. v)) (sym h.pieces_are)
    (percent_wanted h.piece (pieces rest) (counted_percent h.piece k b h.counts ∙ ap percent_of e))

wanted_verb : (text rest : List ℕ) (k l : TemplateByte) (b : ℕ) (v : Verb) → IsControl text k b rest → k ≡ l → percent_of l ≡ None → verb_of l ≡ Some (verb v) → Hands (rule WantedRule) text (leading (verb v)) (rule AfterVerb) rest (λ w. w)
wanted_verb text rest k l b v h e p i = subst (λ (ps : List Piece). Carries production table (rule WantedRule) ps (leading (verb v)) (rule AfterVerb) (pieces rest) (λ w. w)) (sym h.pieces_are)
    (verb_is_wanted h.piece (pieces rest) v (counted_percent h.piece k b h.counts ∙ (ap percent_of e ∙ p)) (counts_whole h.piece k b h.counts) (counted_verb h.piece k b h.counts ∙ (ap verb_of e ∙ i)))

pub wanted_f : (text rest : List ℕ) (k : TemplateByte) (b : ℕ) → IsControl text k b rest → k ≡ SmallF → IsWanted text (WantedFixed 6) rest
wanted_f text rest k b h e = wanted_verb text rest k SmallF b (Fixed 6) h e refl refl

wanted_v : (text rest : List ℕ) (k : TemplateByte) (b : ℕ) → IsControl text k b rest → k ≡ SmallV → IsWanted text WantedPlain rest
wanted_v text rest k b h e = wanted_verb text rest k SmallV b PlainVerb h e refl refl

wanted_s : (text rest : List ℕ) (k : TemplateByte) (b : ℕ) → IsControl text k b rest → k ≡ SmallS → IsWanted text WantedPlain rest
wanted_s text rest k b h e = wanted_verb text rest k SmallS b PlainVerb h e refl refl

pub wanted_word : (text rest : List ℕ) (k : TemplateByte) (b : ℕ) → IsControl text k b rest → (k ≡ SmallV) ⊎ (k ≡ SmallS) → IsWanted text WantedPlain rest
wanted_word text rest k b h e = elim e [ inl v ↦ wanted_v text rest k b h v | inr s ↦ wanted_s text rest k b h s ]

pub wanted_point : (text rest : List ℕ) (k : TemplateByte) (b : ℕ) → IsControl text k b rest → k ≡ Point → Leads (rule WantedRule) text (rule Places) rest
wanted_point text rest k b h e = subst (λ (ps : List Piece). Carries production table (rule WantedRule) ps (λ w. w) (rule Places) (pieces rest) (λ w. w)) (sym h.pieces_are)
    (point_wanted h.piece (pieces rest) (counted_percent h.piece k b h.counts ∙ ap percent_of e) (counts_whole h.piece k b h.counts) (counted_verb h.piece k b h.counts ∙ ap verb_of e) (counted_point h.piece k b h.counts ∙ ap point_of e))

pub wanted_places : (text at rest : List ℕ) (k : TemplateByte) (b n : ℕ) → IsControl text k b at → k ≡ Point → Hands (rule Places) at (leading (verb (Fixed n))) (rule AfterVerb) rest (λ v. v) → IsWanted text (WantedFixed n) rest
wanted_places text at rest k b n h e k2 = carry_on (wanted_point text at k b h e) k2

not_percent : (k : TemplateByte) → (k ≡ Percent → ⊥) → percent_of k ≡ None
not_percent Percent h = absurd (h refl)
not_percent _ h = refl

not_point : (k : TemplateByte) → (k ≡ Point → ⊥) → point_of k ≡ None
not_point Point h = absurd (h refl)
not_point _ h = refl

not_verb : (k : TemplateByte) → (k ≡ SmallF → ⊥) → (k ≡ SmallV → ⊥) → (k ≡ SmallS → ⊥) → verb_of k ≡ None
not_verb SmallF f v s = absurd (f refl)
not_verb SmallV f v s = absurd (v refl)
not_verb SmallS f v s = absurd (s refl)
not_verb _ f v s = refl

pub unwanted : (text rest : List ℕ) (k : TemplateByte) (b : ℕ) → IsControl text k b rest → (k ≡ Percent → ⊥) → (k ≡ SmallF → ⊥) → (k ≡ SmallV → ⊥) → (k ≡ SmallS → ⊥) → (k ≡ Point → ⊥) → Gives (rule WantedRule) text (bad (pieces text))
unwanted text rest k b h p f v s d = subst (λ (ps : List Piece). Runs production table (rule WantedRule) ps (bad ps)) (sym h.pieces_are)
    (none_wanted h.piece (pieces rest) (counted_percent h.piece k b h.counts ∙ not_percent k p) (counts_whole h.piece k b h.counts) (counted_verb h.piece k b h.counts ∙ not_verb k f v s) (counted_point h.piece k b h.counts ∙ not_point k d))

pub unwanted_end : (text : List ℕ) → text ≡ [] → Gives (rule WantedRule) text (bad (pieces text))
unwanted_end text e = subst (λ (ps : List Piece). Runs production table (rule WantedRule) ps (bad ps)) (sym (ap pieces e ∙ pieces_at_end)) (run_rule (run_right refl (run_right refl (run_right refl (run_first run_end)))))

break_is_no_percent : (text rest : List ℕ) → IsBreak text rest → is_next {V = TemplateValue} table after_second (pieces text) ≡ false
break_is_no_percent text rest h = subst (λ (ps : List Piece). is_next {V = TemplateValue} table after_second ps ≡ false) (sym h.pieces_are) refl

pub wanted_breaks : (text rest : List ℕ) → IsBreak text rest → Gives (rule WantedRule) text (bad (pieces rest))
wanted_breaks text rest h = run_rule (run_right (break_is_no_percent text rest h) (run_left (break_next text rest h) (break_off text rest h)))

-- the text before a verb
stop_leads : (w : Within) (text : List ℕ) → Stops w text → Leads (rule (rule_of w)) text (tail_of w) text
stop_leads w text h = leading_on (λ o k. stopped w text o h k)

front_percent : (at after : List ℕ) (b : ℕ) → Stops InFront at → IsControl at Percent b after → Leads (rule Before) at (rule WantedRule) after
front_percent at after b s h = carry_on (stop_leads InFront at s)
    (subst (λ (ps : List Piece). Carries production table (tail_of InFront) ps (λ v. v) (rule WantedRule) (pieces after) (λ v. v)) (sym h.pieces_are) (carry_second (run_token (own_percent h.piece b h.counts))))

front_same : (x : Tail) → before_verb (bytes (codes "%")) (given InFront x) ≡ given InFront (after_bytes (codes "%") x)
front_same (tail bs v es) = refl

up_to_verb : (text at next bs : List ℕ) (v : Verb) → ReachesAsOwn InFront text bs at → Hands (rule Before) at (leading (verb v)) (rule AfterVerb) next (λ w. w) → Hands (rule Before) text (format bs v) (rule AfterVerb) next bytes
up_to_verb text at next bs v r h = carry_made (λ es. ap (λ (xs : List ℕ). format xs v es) (append-nil bs)) (carry_with (λ es. tail [] v es) r (carry_of bytes h))

pub led_up_to : (text at after next bs : List ℕ) (b : ℕ) (w : Wanted) → ReachesAsOwn InFront text bs at → Stops InFront at → IsControl at Percent b after → IsWanted after w next → LeadsUpTo text bs w next
led_up_to text at after next bs b AnotherPercent r s h k = reached_more InFront text at next bs (codes "%") (bs ++ codes "%") r (carry_made front_same (carry_of (given InFront) (carry_on (front_percent at after b s h) k))) refl
led_up_to text at after next bs b (WantedFixed n) r s h k = up_to_verb text at next bs (Fixed n) r (carry_on (front_percent at after b s h) k)
led_up_to text at after next bs b WantedPlain r s h k = up_to_verb text at next bs PlainVerb r (carry_on (front_percent at after b s h) k)

pub wanted_fails : (text at after bs : List ℕ) (b : ℕ) → ReachesAsOwn InFront text bs at → Stops InFront at → IsControl at Percent b after → (end : List Piece) → Runs production table (rule WantedRule) (pieces after) (bad end) → Runs production table (rule Before) (pieces text) (bad end)
wanted_fails text at after bs b r s h end k = r.fails end ((front_percent at after b s h).fails end k)

lacks_percent : (ps : List Piece) → ((t : Piece) (qs : List Piece) (b : ℕ) → ps ≡ t ∷ qs → CountsAs t Percent b → ⊥) → Runs production table (token percent_at) ps (bad ps)
lacks_percent [] h = run_end
lacks_percent (t ∷ ts) h = run_other (other_percent t (λ b k. h t ts b refl k))

pub no_verb_comes : (text at bs : List ℕ) → ReachesAsOwn InFront text bs at → Stops InFront at → IsNoControl at Percent → Gives (rule Before) text (bad (pieces at))
no_verb_comes text at bs r s h = r.fails (pieces at) (stopped InFront at _ s (run_first (lacks_percent (pieces at) h.none)))

pub reached_break : (w : Within) (text at bs : List ℕ) → ReachesAsOwn w text bs at → (rest : List ℕ) → IsBreak at rest → Gives (rule (rule_of w)) text (bad (pieces rest))
reached_break w text at bs r rest h = r.fails (pieces rest) (own_breaks w at rest h)

pub verb_reached : (text rest next bs cs new : List ℕ) (w : Wanted) → ReachesAsOwn InFront text bs rest → LeadsUpTo rest cs w next → (w ≡ AnotherPercent → ⊥) → new ≡ bs ++ cs → Hands (rule Before) text (format new (verb_wanted w)) (rule AfterVerb) next bytes
verb_reached text rest next bs cs new AnotherPercent r h n e = absurd (n refl)
verb_reached text rest next bs cs new (WantedFixed p) r h n e = subst (λ (xs : List ℕ). Hands (rule Before) text (format xs (Fixed p)) (rule AfterVerb) next bytes) (sym e) (carry_with (λ es. tail cs (Fixed p) es) r h)
verb_reached text rest next bs cs new WantedPlain r h n e = subst (λ (xs : List ℕ). Hands (rule Before) text (format xs PlainVerb) (rule AfterVerb) next bytes) (sym e) (carry_with (λ es. tail cs PlainVerb es) r h)

-- the text after a verb
abbrev second_form : Form Piece Rule TemplateValue
second_form = pair second_of (token percent_at) (rule SecondPercent)

behind_percent : (at after : List ℕ) (b : ℕ) → Stops Behind at → IsControl at Percent b after → Leads (rule AfterVerb) at (rule SecondPercent) after
behind_percent at after b s h = carry_on (stop_leads Behind at s)
    (subst (λ (ps : List Piece). Carries production table (tail_of Behind) ps (λ v. v) (rule SecondPercent) (pieces after) (λ v. v)) (sym h.pieces_are)
    (carry_on (carry_left (a_next second_of percent_at (rule SecondPercent) h.piece (pieces after) _ (own_percent h.piece b h.counts))) (carry_second (run_token (own_percent h.piece b h.counts)))))

behind_same : (x : Tail) → bytes_joined (bytes (codes "%")) (given Behind x) ≡ given Behind (after_bytes (codes "%") x)
behind_same (tail bs v es) = refl

pub goes_on : (text at after next bs : List ℕ) (b : ℕ) → ReachesAsOwn Behind text bs at → Stops Behind at → IsControl at Percent b after → Hands (rule SecondPercent) after (bytes_joined (bytes (codes "%"))) (rule AfterVerb) next (λ v. v) → GoesOnBehind text bs true next
goes_on text at after next bs b r s h k = reached_more Behind text at next bs (codes "%") (bs ++ codes "%") r (carry_made behind_same (carry_of (given Behind) (carry_on (behind_percent at after b s h) k))) refl

pub second_fails : (text at after bs : List ℕ) (b : ℕ) → ReachesAsOwn Behind text bs at → Stops Behind at → IsControl at Percent b after → (end : List Piece) → Runs production table (rule SecondPercent) (pieces after) (bad end) → Runs production table (rule AfterVerb) (pieces text) (bad end)
second_fails text at after bs b r s h end k = r.fails end ((behind_percent at after b s h).fails end k)

no_second_next : (ps : List Piece) → ((t : Piece) (qs : List Piece) (b : ℕ) → ps ≡ t ∷ qs → CountsAs t Percent b → ⊥) → is_next {V = TemplateValue} table second_form ps ≡ false
no_second_next [] h = refl
no_second_next (t ∷ ts) h = no_next second_of percent_at (rule SecondPercent) t ts (other_percent t (λ b k. h t ts b refl k))

pub text_ends : (text at after bs : List ℕ) → ReachesAsOwn Behind text bs at → Stops Behind at → IsNoControl at Percent → IsSign Quote at after → GoesOnBehind text bs false after
text_ends text at after bs r s h q = subst (λ (xs : List ℕ). Gives (rule AfterVerb) text (good (bytes xs) (pieces after))) (append-nil bs)
    (r.reads (tail [] PlainVerb []) (pieces after) (stopped Behind at _ s (run_right (no_second_next (pieces at) h.none) (run_pair (takes_quote at after q).gives run_nothing))))

pub text_fails : (text at bs : List ℕ) → ReachesAsOwn Behind text bs at → Stops Behind at → IsNoControl at Percent → IsNoSign Quote at → Gives (rule AfterVerb) text (bad (pieces at))
text_fails text at bs r s h q = r.fails (pieces at) (stopped Behind at _ s (run_right (no_second_next (pieces at) h.none) (run_first (lacks_quote at q).gives)))

pub text_reached : (text rest next bs cs new : List ℕ) (g : Bool) → ReachesAsOwn Behind text bs rest → GoesOnBehind rest cs g next → g ≡ false → new ≡ bs ++ cs → Gives (rule AfterVerb) text (good (bytes new) (pieces next))
text_reached text rest next bs cs new true r h n e = absurd (cc)
text_reached text rest next bs cs new false r h n e = subst (λ (xs : List ℕ). Gives (rule AfterVerb) text (good (bytes xs) (pieces next))) (sym e) (r.reads (tail cs PlainVerb []) (pieces next) h)

-- a format
pub format_read : (text inside rest end bs es : List ℕ) (v u : Verb) → IsSign Quote text inside → v ≡ u → Hands (rule Before) inside (format bs u) (rule AfterVerb) rest bytes → Gives (rule AfterVerb) rest (good (bytes es) (pieces end))
    → Gives (rule Formatted) text (good (call (Printf (record { before = bs; verb = v; after = es }))) (pieces end))
format_read text inside rest end bs es v u q e h k = subst (λ (x : Verb). Gives (rule Formatted) text (good (call (Printf (record { before = bs; verb = x; after = es }))) (pieces end))) (sym e)
    (run_rule (run_pair (takes_quote text inside q).gives (h.reads es (pieces end) k)))

pub before_fails : (text inside : List ℕ) → IsSign Quote text inside → (end : List Piece) → Runs production table (rule Before) (pieces inside) (bad end) → Runs production table (rule Formatted) (pieces text) (bad end)
before_fails text inside q end k = (carry_on {made = λ v. v} carry_rule (carry_second (takes_quote text inside q).gives)).fails end k

pub no_format : (text : List ℕ) → IsNoSign Quote text → Gives (rule Formatted) text (bad (pieces text))
no_format text q = run_rule (run_first (lacks_quote text q).gives)
