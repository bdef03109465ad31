-- The ways of a reader of templates through signs, blanks, words and names.
use Rattle.std.proofs.Common.{◌≡◌, ◌<◌, ◌≤◌, ℕ, Bool, true, false, Option, Some, None, List, [], ◌∷◌, ◌++◌, length, refl, sym, ap, subst, ◌∙◌, arith, ◌==◌, inl, inr, Result, Ok, Err}
use Rattle.std.specs.Result.{MatchResult, IsErrAnd}
use Rattle.pr_labels.specs.pr_words.private.Reader.{IsMemory}
use Rattle.pr_labels.specs.pr_forms.declared.reader.Fault.{Fault}
use Rattle.pr_labels.specs.pr_forms.declared.reader.Fault.TheVariants.{Bad, Memory}
use Rattle.std.proofs.lemmas.Bool.{cases_lt}
use Rattle.std.proofs.lemmas.Bool.Decides.{nat_tests}
use Rattle.std.specs.Prelude.{is_some}
use Rattle.pr_labels.specs.pr_forms.Form.{Form, token, pair, rule, chosen, nothing}
use Rattle.pr_labels.specs.pr_forms.Run.{Runs, good, bad, run_token, run_other, run_end, run_first, run_right, run_rule, run_chosen, run_chosen_bad, run_unchosen, run_chosen_end, run_nothing, Takes, Lacks}
use Rattle.pr_labels.specs.pr_forms.Table.{is_next}
use Rattle.pr_labels.specs.pr_forms.Carries.{Carries}
use Rattle.pr_labels.proofs.FormsSteps.{token_takes, token_lacks}
use Rattle.pr_labels.proofs.FormsCarrying.{carry_on, carry_second, carry_rule, carry_left, carry_start}
use Rattle.pr_labels.proofs.FormsSound.{meets, reads}
use Rattle.pr_labels.proofs.FormsEnding.{consumes}
use Rattle.pr_tmpl.proofs.TemplateTable.{known}
use Rattle.pr_tmpl.specs.declared.kind.TemplateByte.{TemplateByte}
use Rattle.pr_tmpl.specs.declared.kind.TemplateByte.TheVariants.{Blank, Close, Quote, Digit, Other}
use Rattle.pr_tmpl.specs.Pieces.{Piece, plain, escape, broken, pieces, kind_of}
use Rattle.pr_tmpl.specs.private.Letters.{IsPlain, NoPlain, no_piece, an_escape, a_break, HasNoPlain, IsSign, IsNoSign}
use Rattle.pr_tmpl.specs.private.Reader.{Gives, FailsAt, Leads}
use Rattle.pr_tmpl.specs.TemplateText.{Rule, TemplateValue, mark, bytes, production, blanks, blank_at, close_at, quote_at, this_at, any_at, spelled, second_of, Name, NameByte, NameRest, name_start, name_byte, name_goes_on, is_name_start, is_name_part}
use Rattle.pr_tmpl.specs.TemplateTable.{table}

-- signs
not_plain : {k : TemplateByte} {b : ℕ} {ps : List Piece} → NoPlain (plain k b ∷ ps) → ⊥
not_plain h = elim h [ ]

pub no_sign : (text : List ℕ) (wanted : TemplateByte) → HasNoPlain text → IsNoSign wanted text
no_sign text wanted h = λ b ps e. not_plain (subst NoPlain e h)

pub other_sign : (text rest : List ℕ) (k wanted : TemplateByte) (b : ℕ) → IsPlain text k b rest → (k ≡ wanted → ⊥) → IsNoSign wanted text
other_sign text rest k wanted b h n = λ c ps e. n (same k wanted b c (pieces rest) ps (sym h.pieces_are ∙ e))
  where
    same : (k l : TemplateByte) (b c : ℕ) (ps qs : List Piece) → plain k b ∷ ps ≡ plain l c ∷ qs → k ≡ l
    same k l b c ps qs e = cc

pub the_sign : (text rest : List ℕ) (k wanted : TemplateByte) (b : ℕ) → IsPlain text k b rest → k ≡ wanted → length rest < length text → IsSign wanted text rest
the_sign text rest k wanted b h e s = record { byte = b; pieces_are = h.pieces_are ∙ ap (λ (x : TemplateByte). plain x b ∷ pieces rest) e; shorter = s }

-- a token that is a sign
module _ (p : Piece → Option TemplateValue) (wanted : TemplateByte) (other : (t : Piece) → ((b : ℕ) → t ≡ plain wanted b → ⊥) → p t ≡ None) where
  lacks_in : (ps : List Piece) → ((b : ℕ) (qs : List Piece) → ps ≡ plain wanted b ∷ qs → ⊥) → Lacks production table (token p) ps
  lacks_in [] h = record { gives = run_end; next = refl }
  lacks_in (t ∷ ts) h = token_lacks production table p (t ∷ ts) t ts refl (other t (λ b e. h b ts (ap (λ (x : Piece). x ∷ ts) e)))

  pub lacks_sign : (text : List ℕ) → IsNoSign wanted text → Lacks production table (token p) (pieces text)
  lacks_sign text h = lacks_in (pieces text) h

pub takes_sign : (p : Piece → Option TemplateValue) (wanted : TemplateByte) (v : TemplateValue) → ((b : ℕ) → p (plain wanted b) ≡ Some v) → (text rest : List ℕ) → IsSign wanted text rest → Takes production table (token p) (pieces text) v (pieces rest)
takes_sign p wanted v own text rest h = token_takes production table p (pieces text) (plain wanted h.byte) (pieces rest) v h.pieces_are (own h.byte)

no_blank : (t : Piece) → ((b : ℕ) → t ≡ plain Blank b → ⊥) → blank_at t ≡ None
no_blank (plain Blank b) h = absurd (h b refl)
no_blank _ h = refl

no_close : (t : Piece) → ((b : ℕ) → t ≡ plain Close b → ⊥) → close_at t ≡ None
no_close (plain Close b) h = absurd (h b refl)
no_close _ h = refl

no_quote : (t : Piece) → ((b : ℕ) → t ≡ plain Quote b → ⊥) → quote_at t ≡ None
no_quote (plain Quote b) h = absurd (h b refl)
no_quote _ h = refl

pub takes_blank : (text rest : List ℕ) → IsSign Blank text rest → Takes production table (token blank_at) (pieces text) mark (pieces rest)
takes_blank = takes_sign blank_at Blank mark (λ b. refl)

pub lacks_blank : (text : List ℕ) → IsNoSign Blank text → Lacks production table (token blank_at) (pieces text)
lacks_blank = lacks_sign blank_at Blank no_blank

pub takes_close : (text rest : List ℕ) → IsSign Close text rest → Takes production table (token close_at) (pieces text) mark (pieces rest)
takes_close = takes_sign close_at Close mark (λ b. refl)

pub lacks_close : (text : List ℕ) → IsNoSign Close text → Lacks production table (token close_at) (pieces text)
lacks_close = lacks_sign close_at Close no_close

pub takes_quote : (text rest : List ℕ) → IsSign Quote text rest → Takes production table (token quote_at) (pieces text) mark (pieces rest)
takes_quote = takes_sign quote_at Quote mark (λ b. refl)

pub lacks_quote : (text : List ℕ) → IsNoSign Quote text → Lacks production table (token quote_at) (pieces text)
lacks_quote = lacks_sign quote_at Quote no_quote

-- one blank or more
pub gap_read : (text at rest : List ℕ) → IsSign Blank text at → Gives blanks at (good mark (pieces rest)) → (f : Form Piece Rule TemplateValue) → Leads (pair second_of (token blank_at) (pair second_of blanks f)) text f rest
gap_read text at rest h k f = carry_on (carry_second (takes_blank text at h).gives) (carry_second k)

pub no_gap : (text : List ℕ) → IsNoSign Blank text → (f : Form Piece Rule TemplateValue) → Gives (pair second_of (token blank_at) (pair second_of blanks f)) text (bad (pieces text))
no_gap text h f = run_first (lacks_blank text h).gives

-- words
yes_same : (b n : ℕ) → b ≡ n → (b == n) ≡ true
yes_same b n e = grind (arith, nat_tests)

no_same : (b n : ℕ) → (b ≡ n → ⊥) → (b == n) ≡ false
no_same b n h = grind (arith, nat_tests)

abbrev pub Spells : List ℕ → List ℕ → List ℕ → List ℕ → Type 0
Spells word text left rest = (f : Form Piece Rule TemplateValue) → Leads (spelled word f) text (spelled left f) rest

pub word_starts : (word text : List ℕ) → Spells word text word text
word_starts word text f = carry_start

pub word_goes_on : (word text left more rest after : List ℕ) (n b : ℕ) (k : TemplateByte) → Spells word text left rest → left ≡ n ∷ more → IsPlain rest k b after → b ≡ n → Spells word text more after
word_goes_on word text left more rest after n b k h e p i f =
    carry_on (subst (λ (ls : List ℕ). Leads (spelled word f) text (spelled ls f) rest) e (h f))
    (subst (λ (ps : List Piece). Carries production table (spelled (n ∷ more) f) ps (λ v. v) (spelled more f) (pieces after) (λ v. v)) (sym p.pieces_are)
    (carry_second {v = mark} (run_token (rw (yes_same b n i) refl))))

pub word_ends : (word text left rest : List ℕ) → Spells word text left rest → length left ≡ 0 → (f : Form Piece Rule TemplateValue) → Leads (spelled word f) text f rest
word_ends word text [] rest h e f = h f
word_ends word text (n ∷ more) rest h e f = absurd (omega arith)

pub word_stops : (word text left more rest after : List ℕ) (n b : ℕ) (k : TemplateByte) → Spells word text left rest → left ≡ n ∷ more → IsPlain rest k b after → (b ≡ n → ⊥) → (f : Form Piece Rule TemplateValue) → Gives (spelled word f) text (bad (pieces rest))
word_stops word text left more rest after n b k h e p i f =
    (subst (λ (ls : List ℕ). Leads (spelled word f) text (spelled ls f) rest) e (h f)).fails (pieces rest)
    (subst (λ (ps : List Piece). Runs production table (spelled (n ∷ more) f) ps (bad ps)) (sym p.pieces_are) (run_first (run_other (rw (no_same b n i) refl))))

no_byte : (n : ℕ) (ps : List Piece) (f : Form Piece Rule TemplateValue) → NoPlain ps → Runs production table (pair second_of (token (this_at n)) f) ps (bad ps)
no_byte n ps f no_piece = run_first run_end
no_byte n ps f an_escape = run_first (run_other refl)
no_byte n ps f a_break = run_first (run_other refl)

pub word_breaks : (word text left more rest : List ℕ) (n : ℕ) → Spells word text left rest → left ≡ n ∷ more → HasNoPlain rest → (f : Form Piece Rule TemplateValue) → Gives (spelled word f) text (bad (pieces rest))
word_breaks word text left more rest n h e p f =
    (subst (λ (ls : List ℕ). Leads (spelled word f) text (spelled ls f) rest) e (h f)).fails (pieces rest) (no_byte n (pieces rest) (spelled more f) p)

-- choices by a piece
module _ (q : Piece → Option Rule) (m : Piece → Bool) where
  -- the chosen rule, from the piece on
  pub choice : (n : Rule) (t : Piece) (text rest : List ℕ) → pieces text ≡ t ∷ pieces rest → q t ≡ Some n → table.empty n ≡ false → Leads (chosen q m) text (production n) text
  choice n t text rest e h solid = record {
    reads = λ v end k. subst (λ (ps : List Piece). Runs production table (chosen q m) ps (good v end)) (sym e) (step v end (subst (λ (ps : List Piece). Runs production table (production n) ps (good v end)) e k));
    fails = λ end k. subst (λ (ps : List Piece). Runs production table (chosen q m) ps (bad end)) (sym e) (run_chosen_bad h (subst (λ (ps : List Piece). Runs production table (production n) ps (bad end)) e k));
  }
    where
      step : (v : TemplateValue) (end : List Piece) → Runs production table (production n) (t ∷ pieces rest) (good v end) → Runs production table (chosen q m) (t ∷ pieces rest) (good v end)
      step v end k = let short = consumes production table known (reads (meets k)) (known.empty n ∙ solid) in run_chosen h (omega (arith, short)) k

  -- a chosen rule that reads its piece first
  pub chosen_word : (n : Rule) (t : Piece) (text rest : List ℕ) (c : TemplateValue → TemplateValue → TemplateValue) (p : Piece → Option TemplateValue) (f : Form Piece Rule TemplateValue) (v : TemplateValue) → pieces text ≡ t ∷ pieces rest → q t ≡ Some n → table.empty n ≡ false
      → production n ≡ pair c (token p) f → p t ≡ Some v → Carries production table (chosen q m) (pieces text) (c v) f (pieces rest) (λ w. w)
  chosen_word n t text rest c p f v e h solid i j = carry_on (choice n t text rest e h solid)
      (subst (λ (g : Form Piece Rule TemplateValue). Carries production table g (pieces text) (c v) f (pieces rest) (λ w. w)) (sym i)
      (subst (λ (ps : List Piece). Carries production table (pair c (token p) f) ps (c v) f (pieces rest) (λ w. w)) (sym e) (carry_second (run_token j))))

  -- none is chosen
  pub unchosen_piece : (t : Piece) (text rest : List ℕ) → pieces text ≡ t ∷ pieces rest → q t ≡ None → Gives (chosen q m) text (bad (pieces text))
  unchosen_piece t text rest e h = subst (λ (ps : List Piece). Runs production table (chosen q m) ps (bad ps)) (sym e) (run_unchosen h)

  none_in : (ps : List Piece) → NoPlain ps → ((k : TemplateByte) (raw means : List ℕ) → q (escape k raw means) ≡ None) → q broken ≡ None → Runs production table (chosen q m) ps (bad ps)
  none_in _ no_piece a b = run_chosen_end
  none_in _ (an_escape {kind = k} {raw = raw} {means = means}) a b = run_unchosen (a k raw means)
  none_in _ a_break a b = run_unchosen b

  pub unchosen : (text : List ℕ) → HasNoPlain text → ((k : TemplateByte) (raw means : List ℕ) → q (escape k raw means) ≡ None) → q broken ≡ None → Gives (chosen q m) text (bad (pieces text))
  unchosen text h a b = none_in (pieces text) h a b

  none_next : (ps : List Piece) → NoPlain ps → ((k : TemplateByte) (raw means : List ℕ) → q (escape k raw means) ≡ None) → q broken ≡ None → is_next {V = TemplateValue} table (chosen q m) ps ≡ false
  none_next _ no_piece a b = refl
  none_next _ (an_escape {kind = k} {raw = raw} {means = means}) a b = ap is_some (a k raw means)
  none_next _ a_break a b = ap is_some b

  pub not_next : (text : List ℕ) → HasNoPlain text → ((k : TemplateByte) (raw means : List ℕ) → q (escape k raw means) ≡ None) → q broken ≡ None → is_next {V = TemplateValue} table (chosen q m) (pieces text) ≡ false
  not_next text h a b = none_next (pieces text) h a b

  pub next_piece : (o : Option Rule) (t : Piece) (text rest : List ℕ) → pieces text ≡ t ∷ pieces rest → q t ≡ o → is_next {V = TemplateValue} table (chosen q m) (pieces text) ≡ is_some o
  next_piece o t text rest e h = subst (λ (ps : List Piece). is_next {V = TemplateValue} table (chosen q m) ps ≡ is_some o) (sym e) (ap is_some h)

-- names
high : (b : ℕ) → 128 ≤ b → kind_of b ≡ Other
high b h = grind (arith, nat_tests)

pub small_label : (b : ℕ) (k : TemplateByte) → k ≡ kind_of b → is_name_part k ≡ true → b < 128
small_label b k e h = elim (cases_lt b 128) [ inl lt ↦ lt | inr ge ↦ let i : k ≡ Other = e ∙ high b ge in absurd (not_other k i h) ]
  where
    not_other : (k : TemplateByte) → k ≡ Other → is_name_part k ≡ true → ⊥
    not_other Other e h = absurd (cc)
    not_other _ e h = absurd (cc)

pub name_over_end : (text : List ℕ) → HasNoPlain text → (name : List ℕ) → Gives (rule (NameRest name)) text (good (bytes name) (pieces text))
name_over_end text h name = run_rule (run_right (not_next (name_byte name) name_goes_on text h (λ k raw means. refl) refl) run_nothing)

pub name_over : (text rest : List ℕ) (k : TemplateByte) (b : ℕ) → IsPlain text k b rest → is_name_part k ≡ false → (name : List ℕ) → Gives (rule (NameRest name)) text (good (bytes name) (pieces text))
name_over text rest k b h e name = run_rule (run_right (next_piece (name_byte name) name_goes_on None (plain k b) text rest h.pieces_are (rw e refl)) run_nothing)

pub name_more : (text rest : List ℕ) (k : TemplateByte) (b : ℕ) → IsPlain text k b rest → is_name_part k ≡ true → (name : List ℕ) → Leads (rule (NameRest name)) text (rule (NameRest (name ++ b ∷ []))) rest
name_more text rest k b h e name = carry_on carry_rule (carry_on (carry_left (next_piece (name_byte name) name_goes_on (Some (NameByte (name ++ b ∷ []))) (plain k b) text rest h.pieces_are (rw e refl)))
    (chosen_word (name_byte name) name_goes_on (NameByte (name ++ b ∷ [])) (plain k b) text rest second_of any_at (rule (NameRest (name ++ b ∷ []))) mark h.pieces_are (rw e refl) refl refl refl))

pub no_name_end : (text : List ℕ) → HasNoPlain text → Gives (rule Name) text (bad (pieces text))
no_name_end text h = run_rule (unchosen name_start name_goes_on text h (λ k raw means. refl) refl)

pub no_name : (text rest : List ℕ) (k : TemplateByte) (b : ℕ) → IsPlain text k b rest → is_name_start k ≡ false → Gives (rule Name) text (bad (pieces text))
no_name text rest k b h e = run_rule (unchosen_piece name_start name_goes_on (plain k b) text rest h.pieces_are (rw e refl))

pub name_starts : (text rest : List ℕ) (k : TemplateByte) (b : ℕ) (name : List ℕ) → IsPlain text k b rest → is_name_start k ≡ true → name ≡ b ∷ [] → Leads (rule Name) text (rule (NameRest name)) rest
name_starts text rest k b name h e i = subst (λ (x : List ℕ). Leads (rule Name) text (rule (NameRest x)) rest) (sym i)
    (carry_on carry_rule (chosen_word name_start name_goes_on (NameByte (b ∷ [])) (plain k b) text rest second_of any_at (rule (NameRest (b ∷ []))) mark h.pieces_are (rw e refl) refl refl refl))

pub letter_label : (k : TemplateByte) → is_name_start k ≡ true → is_name_part k ≡ true
letter_label Digit e = refl
letter_label _ e = e

-- a fault of what follows is one of the whole, and its value is the whole's
pub handed : {X : Type 0} (f g : Form Piece Rule TemplateValue) (text rest : List ℕ) (value : X → TemplateValue) (left : X → List ℕ) (r : Result X (Fault ℕ)) → Leads f text g rest
    → MatchResult r (λ x. Gives g rest (good (value x) (pieces (left x)))) (FailsAt g rest) → MatchResult r (λ x. Gives f text (good (value x) (pieces (left x)))) (FailsAt f text)
handed f g text rest value left (Ok x) h k = h.reads _ _ k
handed f g text rest value left (Err (Bad at)) h k = h.fails _ k
handed f g text rest value left (Err Memory) h k = tt

-- a word that has a value
pub word_value : (word text rest : List ℕ) (v : TemplateValue) → ((f : Form Piece Rule TemplateValue) → Leads (spelled word f) text f rest) → Gives (spelled word (nothing v)) text (good v (pieces rest))
word_value word text rest v h = (h (nothing v)).reads v (pieces rest) run_nothing

-- an exit for want of memory
pub memory_exit : {Y : Type 0} (P : Y → Type 0) (f : Form Piece Rule TemplateValue) (text : List ℕ) (r : Result Y (Fault ℕ)) (e : Fault ℕ) → IsErrAnd r (λ y. y ≡ e) → IsMemory e → MatchResult r P (FailsAt f text)
memory_exit P f text (Ok x) e h k = absurd h
memory_exit P f text (Err (Bad at)) e h k = absurd (subst IsMemory (sym h) k)
memory_exit P f text (Err Memory) e h k = tt

-- a byte of a kind, as a piece
pub kind_piece : (text rest : List ℕ) (k wanted : TemplateByte) (b : ℕ) → IsPlain text k b rest → k ≡ wanted → pieces text ≡ plain wanted b ∷ pieces rest
kind_piece text rest k wanted b h e = h.pieces_are ∙ ap (λ (x : TemplateByte). plain x b ∷ pieces rest) e
