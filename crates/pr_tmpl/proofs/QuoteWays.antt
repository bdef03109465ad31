-- The ways of a reader through strings and formats.
use Rattle.std.proofs.Common.{◌≡◌, ℕ, Bool, true, false, Option, Some, None, List, [], ◌∷◌, ◌++◌, map, refl, sym, ap, subst, ◌∙◌, append_assoc, append-nil, ◌==◌}
use Rattle.std.specs.Prelude.{is_some}
use Prim.Native.Char.{code}
use Rattle.pr_labels.specs.pr_words.StringAnswer.{string_of}
use Rattle.pr_labels.specs.pr_forms.Form.{Form, token, pair, either, rule, nothing}
use Rattle.pr_labels.specs.pr_forms.Run.{Runs, ReaderOutcome, good, bad, run_token, run_other, run_end, run_pair, run_first, run_second, run_left, run_right, run_rule, run_nothing}
use Rattle.pr_labels.specs.pr_forms.Table.{is_next}
use Rattle.pr_labels.specs.pr_forms.Carries.{Carries}
use Rattle.pr_labels.proofs.FormsSteps.{next_pair}
use Rattle.pr_labels.proofs.FormsCarrying.{carry_with, carry_made}
use Rattle.pr_tmpl.specs.declared.kind.TemplateByte.{TemplateByte}
use Rattle.pr_tmpl.specs.declared.kind.TemplateByte.TheVariants.{Quote, Feed, Percent}
use Rattle.pr_tmpl.specs.declared.letter.Letter.{Letter}
use Rattle.pr_tmpl.specs.declared.letter.Letter.TheVariants.{Plain, Escape, Broken}
use Rattle.pr_tmpl.specs.declared.quoted.Within.{Within}
use Rattle.pr_tmpl.specs.declared.quoted.Within.TheVariants.{Content as InContent, Before as InFront, After as Behind}
use Rattle.pr_tmpl.specs.Pieces.{Piece, plain, escape, part, pieces, escaped, escape_bytes, escape_quoted}
use Rattle.pr_tmpl.specs.private.Letters.{IsBreak, IsLetter, IsSign, IsNoSign}
use Rattle.pr_tmpl.specs.private.Reader.{Gives}
use Rattle.pr_tmpl.proofs.Pieces.{pieces_at_end, pieces_at_plain, pieces_at_backslash}
use Rattle.pr_tmpl.proofs.WordWays.{takes_quote, lacks_quote}
use Rattle.pr_tmpl.specs.declared.template.Verb.TheVariants.{Plain as PlainVerb}
use Rattle.pr_tmpl.specs.TemplateText.{Rule, TemplateValue, bytes, format, Content, Before, AfterVerb, Breaking, production, content_at, text_at, broken_at, broken_off, bytes_joined, before_verb, second_of, quote_at, percent_at, Wanted, SecondPercent}
use Rattle.pr_tmpl.specs.TemplateTable.{table}
use Rattle.pr_tmpl.specs.private.Quotes.{rule_of, own_at, is_own, means_of, Tail, tail, given, after_bytes, ReachesAsOwn, Stops}

own_plain : (w : Within) (k : TemplateByte) (b : ℕ) → is_own w (Plain k b) ≡ true → own_at w (plain k b) ≡ Some (bytes (b ∷ []))
own_plain InContent Quote b e = absurd (cc)
own_plain InContent Feed b e = absurd (cc)
own_plain InContent _ b e = refl
own_plain InFront Quote b e = absurd (cc)
own_plain InFront Feed b e = absurd (cc)
own_plain InFront Percent b e = absurd (cc)
own_plain InFront _ b e = refl
own_plain Behind Quote b e = absurd (cc)
own_plain Behind Feed b e = absurd (cc)
own_plain Behind Percent b e = absurd (cc)
own_plain Behind _ b e = refl

own_escape : (w : Within) (k : TemplateByte) (raw : List ℕ) (means : _) → is_own w (Escape k means) ≡ true → own_at w (escape k raw means.items) ≡ Some (bytes means.items)
own_escape InContent _ raw means e = refl
own_escape InFront Percent raw means e = absurd (cc)
own_escape InFront _ raw means e = refl
own_escape Behind Percent raw means e = absurd (cc)
own_escape Behind _ raw means e = refl

none_plain : (w : Within) (k : TemplateByte) (b : ℕ) → is_own w (Plain k b) ≡ false → own_at w (plain k b) ≡ None
none_plain InContent Quote b e = refl
none_plain InContent Feed b e = refl
none_plain InContent _ b e = absurd (cc)
none_plain InFront Quote b e = refl
none_plain InFront Feed b e = refl
none_plain InFront Percent b e = refl
none_plain InFront _ b e = absurd (cc)
none_plain Behind Quote b e = refl
none_plain Behind Feed b e = refl
none_plain Behind Percent b e = refl
none_plain Behind _ b e = absurd (cc)

none_escape : (w : Within) (k : TemplateByte) (raw : List ℕ) (means : _) → is_own w (Escape k means) ≡ false → own_at w (escape k raw means.items) ≡ None
none_escape InContent _ raw means e = absurd (cc)
none_escape InFront Percent raw means e = refl
none_escape InFront _ raw means e = absurd (cc)
none_escape Behind Percent raw means e = refl
none_escape Behind _ raw means e = absurd (cc)

next_of : (w : Within) (t : Piece) (text : List ℕ) (us : List Piece) → pieces text ≡ t ∷ us → own_at w t ≡ None → is_next {V = TemplateValue} table (token (own_at w)) (pieces text) ≡ false
next_of w t text us e h = subst (λ (ps : List Piece). is_next {V = TemplateValue} table (token (own_at w)) ps ≡ false) (sym e) (ap is_some h)

pub no_break : (t : Piece) (text : List ℕ) (us : List Piece) → pieces text ≡ t ∷ us → is_some (broken_at t) ≡ false → is_next {V = TemplateValue} table broken_off (pieces text) ≡ false
no_break t text us e h = subst (λ (ps : List Piece). is_next {V = TemplateValue} table broken_off ps ≡ false) (sym e) (next_pair table second_of (token broken_at) (rule Breaking) (t ∷ us) false refl h)

-- a piece that stands for itself
own_read : (w : Within) (t : Piece) (us : List Piece) (means : List ℕ) → own_at w t ≡ Some (bytes means) → (x : Tail) (end : List Piece) → Runs production table (rule (rule_of w)) us (good (given w x) end) → Runs production table (rule (rule_of w)) (t ∷ us) (good (given w (after_bytes means x)) end)
own_read InContent t us means e (tail bs v es) end k = run_rule (run_left (next_pair table bytes_joined (token content_at) (rule Content) (t ∷ us) true refl (ap is_some e)) (run_pair (run_token e) k))
own_read InFront t us means e (tail bs v es) end k = run_rule (run_left (next_pair table before_verb (token text_at) (rule Before) (t ∷ us) true refl (ap is_some e)) (run_pair (run_token e) k))
own_read Behind t us means e (tail bs v es) end k = run_rule (run_left (next_pair table bytes_joined (token text_at) (rule AfterVerb) (t ∷ us) true refl (ap is_some e)) (run_pair (run_token e) k))

own_bad : (w : Within) (t : Piece) (us : List Piece) (means : List ℕ) → own_at w t ≡ Some (bytes means) → (end : List Piece) → Runs production table (rule (rule_of w)) us (bad end) → Runs production table (rule (rule_of w)) (t ∷ us) (bad end)
own_bad InContent t us means e end k = run_rule (run_left (next_pair table bytes_joined (token content_at) (rule Content) (t ∷ us) true refl (ap is_some e)) (run_second (run_token e) k))
own_bad InFront t us means e end k = run_rule (run_left (next_pair table before_verb (token text_at) (rule Before) (t ∷ us) true refl (ap is_some e)) (run_second (run_token e) k))
own_bad Behind t us means e end k = run_rule (run_left (next_pair table bytes_joined (token text_at) (rule AfterVerb) (t ∷ us) true refl (ap is_some e)) (run_second (run_token e) k))

own_piece : (w : Within) (t : Piece) (text rest means : List ℕ) → pieces text ≡ t ∷ pieces rest → own_at w t ≡ Some (bytes means) → ReachesAsOwn w text means rest
own_piece w t text rest means e h = subst (λ (ps : List Piece). Carries production table (rule (rule_of w)) ps (λ x. given w (after_bytes means x)) (rule (rule_of w)) (pieces rest) (given w)) (sym e)
    (record { reads = own_read w t (pieces rest) means h; fails = own_bad w t (pieces rest) means h })

pub own_reached : (w : Within) (l : Letter) (text rest : List ℕ) → IsLetter text l rest → is_own w l ≡ true → ReachesAsOwn w text (means_of l) rest
own_reached w (Plain k b) text rest h e = own_piece w (plain k b) text rest (b ∷ []) h.pieces_are (own_plain w k b e)
own_reached w (Escape k means) text rest h e = own_piece w (escape k h.raw means.items) text rest means.items h.pieces_are (own_escape w k h.raw means e)
own_reached w Broken text rest h e = absurd (cc)

pub own_none : (w : Within) (l : Letter) (text rest : List ℕ) → IsLetter text l rest → is_own w l ≡ false → (l ≡ Broken → ⊥) → Stops w text
own_none w (Plain k b) text rest h e n = let i = next_of w (plain k b) text (pieces rest) h.pieces_are (none_plain w k b e) in record { own = i; whole = no_break (plain k b) text (pieces rest) h.pieces_are refl }
own_none w (Escape k means) text rest h e n = let i = next_of w (escape k h.raw means.items) text (pieces rest) h.pieces_are (none_escape w k h.raw means e) in record { own = i; whole = no_break (escape k h.raw means.items) text (pieces rest) h.pieces_are refl }
own_none w Broken text rest h e n = absurd (n refl)

pub own_none_end : (w : Within) (text : List ℕ) → text ≡ [] → Stops w text
own_none_end w text e = let i : pieces text ≡ [] = ap pieces e ∙ pieces_at_end in record {
  own = subst (λ (ps : List Piece). is_next {V = TemplateValue} table (token (own_at w)) ps ≡ false) (sym i) refl;
  whole = subst (λ (ps : List Piece). is_next {V = TemplateValue} table broken_off ps ≡ false) (sym i) refl;
}

-- an escape that breaks off
breaking_fails : (parts : List ℕ) (us : List Piece) → Runs production table (rule Breaking) us (bad us) → Runs production table (rule Breaking) (map part parts ++ us) (bad us)
breaking_fails [] us k = k
breaking_fails (b ∷ bs) us k = run_rule (run_second (run_token refl) (breaking_fails bs us k))

no_part_escaped : (again : List ℕ → List Piece) (taken text : List ℕ) (o : Option (List ℕ)) → Runs production table (rule Breaking) (escaped again taken text o) (bad (escaped again taken text o))
no_part_escaped again taken text (Some means) = run_rule (run_first (run_other refl))
no_part_escaped again taken text None = run_rule (run_first (run_other refl))

no_part : (text : List ℕ) → Runs production table (rule Breaking) (pieces text) (bad (pieces text))
no_part [] = subst (λ (ps : List Piece). Runs production table (rule Breaking) ps (bad ps)) (sym pieces_at_end) (run_rule (run_first run_end))
no_part (b ∷ bs) = by_test (b == code "\\") refl where
  by_test : (t : Bool) → (b == code "\\") ≡ t → Runs production table (rule Breaking) (pieces (b ∷ bs)) (bad (pieces (b ∷ bs)))
  by_test true e = subst (λ (ps : List Piece). Runs production table (rule Breaking) ps (bad ps)) (sym (pieces_at_backslash b bs e)) (no_part_escaped pieces (escape_bytes bs) bs (string_of (escape_quoted (escape_bytes bs))))
  by_test false e = subst (λ (ps : List Piece). Runs production table (rule Breaking) ps (bad ps)) (sym (pieces_at_plain b bs e)) (run_rule (run_first (run_other refl)))

pub break_off : (text rest : List ℕ) → IsBreak text rest → Gives broken_off text (bad (pieces rest))
break_off text rest h = subst (λ (ps : List Piece). Runs production table broken_off ps (bad (pieces rest))) (sym h.pieces_are) (run_second (run_token refl) (breaking_fails h.parts (pieces rest) (no_part rest)))

pub break_next : (text rest : List ℕ) → IsBreak text rest → is_next {V = TemplateValue} table broken_off (pieces text) ≡ true
break_next text rest h = subst (λ (ps : List Piece). is_next {V = TemplateValue} table broken_off ps ≡ true) (sym h.pieces_are) refl

none_at_break : (w : Within) (text rest : List ℕ) → IsBreak text rest → is_next {V = TemplateValue} table (token (own_at w)) (pieces text) ≡ false
none_at_break InContent text rest h = subst (λ (ps : List Piece). is_next {V = TemplateValue} table (token content_at) ps ≡ false) (sym h.pieces_are) refl
none_at_break InFront text rest h = subst (λ (ps : List Piece). is_next {V = TemplateValue} table (token text_at) ps ≡ false) (sym h.pieces_are) refl
none_at_break Behind text rest h = subst (λ (ps : List Piece). is_next {V = TemplateValue} table (token text_at) ps ≡ false) (sym h.pieces_are) refl

-- what stands after what stands for itself
abbrev pub tail_of : Within → Form Piece Rule TemplateValue
tail_of InContent = pair second_of (token quote_at) (nothing (bytes []))
tail_of InFront = pair second_of (token percent_at) (rule Wanted)
tail_of Behind = either (pair second_of (token percent_at) (rule SecondPercent)) (pair second_of (token quote_at) (nothing (bytes [])))

past_own : (w : Within) (text : List ℕ) (o : ReaderOutcome Piece TemplateValue) → is_next {V = TemplateValue} table (token (own_at w)) (pieces text) ≡ false → Runs production table (either broken_off (tail_of w)) (pieces text) o → Gives (rule (rule_of w)) text o
past_own InContent text o e k = run_rule (run_right (next_pair table bytes_joined (token content_at) (rule Content) (pieces text) false refl e) k)
past_own InFront text o e k = run_rule (run_right (next_pair table before_verb (token text_at) (rule Before) (pieces text) false refl e) k)
past_own Behind text o e k = run_rule (run_right (next_pair table bytes_joined (token text_at) (rule AfterVerb) (pieces text) false refl e) k)

pub stopped : (w : Within) (text : List ℕ) (o : ReaderOutcome Piece TemplateValue) → Stops w text → Gives (tail_of w) text o → Gives (rule (rule_of w)) text o
stopped w text o h k = past_own w text o h.own (run_right h.whole k)

pub own_breaks : (w : Within) (text rest : List ℕ) → IsBreak text rest → Gives (rule (rule_of w)) text (bad (pieces rest))
own_breaks w text rest h = past_own w text _ (none_at_break w text rest h) (run_left (break_next text rest h) (break_off text rest h))

-- many letters
pub reached_none : (w : Within) (text bs : List ℕ) → bs ≡ [] → ReachesAsOwn w text bs text
reached_none w text bs e = subst (λ (xs : List ℕ). ReachesAsOwn w text xs text) (sym e) (record { reads = same w; fails = λ end k. k })
  where
    same : (w : Within) (x : Tail) (end : List Piece) → Runs production table (rule (rule_of w)) (pieces text) (good (given w x) end) → Runs production table (rule (rule_of w)) (pieces text) (good (given w (after_bytes [] x)) end)
    same InContent (tail bs v es) end k = k
    same InFront (tail bs v es) end k = k
    same Behind (tail bs v es) end k = k

joined_tails : (w : Within) (bs cs : List ℕ) (x : Tail) → given w (after_bytes bs (after_bytes cs x)) ≡ given w (after_bytes (bs ++ cs) x)
joined_tails InContent bs cs (tail ds v es) = ap bytes (sym (append_assoc bs cs ds))
joined_tails InFront bs cs (tail ds v es) = ap (λ (xs : List ℕ). format xs v es) (sym (append_assoc bs cs ds))
joined_tails Behind bs cs (tail ds v es) = ap bytes (sym (append_assoc bs cs ds))

pub reached_more : (w : Within) (text mid rest bs cs new : List ℕ) → ReachesAsOwn w text bs mid → ReachesAsOwn w mid cs rest → new ≡ bs ++ cs → ReachesAsOwn w text new rest
reached_more w text mid rest bs cs new h k e = subst (λ (xs : List ℕ). ReachesAsOwn w text xs rest) (sym e) (carry_made (joined_tails w bs cs) (carry_with (after_bytes cs) h k))

-- a string
pub content_read : (text at rest bs : List ℕ) → ReachesAsOwn InContent text bs at → Stops InContent at → IsSign Quote at rest → Gives (rule Content) text (good (bytes bs) (pieces rest))
content_read text at rest bs h s q = subst (λ (xs : List ℕ). Gives (rule Content) text (good (bytes xs) (pieces rest))) (append-nil bs)
    (h.reads (tail [] PlainVerb []) (pieces rest) (stopped InContent at _ s (run_pair (takes_quote at rest q).gives run_nothing)))

pub content_bad : (text at bs : List ℕ) → ReachesAsOwn InContent text bs at → Stops InContent at → IsNoSign Quote at → Gives (rule Content) text (bad (pieces at))
content_bad text at bs h s q = h.fails (pieces at) (stopped InContent at _ s (run_first (lacks_quote at q).gives))

pub broken_read : (w : Within) (l : Letter) (text rest : List ℕ) → IsLetter text l rest → l ≡ Broken → Gives (rule (rule_of w)) text (bad (pieces rest))
broken_read w (Plain k b) text rest h e = absurd (cc)
broken_read w (Escape k means) text rest h e = absurd (cc)
broken_read w Broken text rest h e = own_breaks w text rest h
