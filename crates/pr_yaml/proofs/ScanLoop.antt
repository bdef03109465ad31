-- What the loop over the tokens keeps.
use Rattle.std.proofs.Common.{◌≡◌, ℕ, ◌+◌, ◌<◌, ◌≤◌, Bool, true, false, take, arith, List, [], ◌∷◌, ◌++◌, Option, Some, None, reverse, refl, sym, ap, subst, ◌∙◌, append_assoc}
use Rattle.std.proofs.lemmas.List.{reverse-append, append-nil}
use Rattle.std.specs.Prelude.{Result, Ok, Err, IfOk}
use Rattle.std.specs.Str.{is_utf8, IsUtf8}
use Rattle.std.proofs.lemmas.Str.{IsUtf8-from_is_utf8, is_utf8-from_IsUtf8}
use Rattle.pr_yaml.specs.declared.yaml_scan.token.Places.{Places}
use Rattle.std.specs.Str.Lossy.{utf8_valid_len}
use Rattle.pr_yaml.specs.Bytes.{legible, without_mark}
use Rattle.pr_yaml.specs.declared.yaml_scan.token.Token.{Token}
use Rattle.pr_yaml.specs.declared.yaml_scan.token.TokenKind.{TokenKind}
use Rattle.pr_yaml.specs.declared.yaml_scan.token.TokenKind.TheVariants.{Dash, Key, Text, ListOpen, ListClose, MapOpen, MapClose, Comma}
use Rattle.pr_yaml.specs.declared.yaml_scan.fault.ScanFault.{ScanFault}
use Rattle.pr_yaml.specs.declared.yaml_scan.fault.BadPlace.{BadPlace}
use Rattle.pr_yaml.specs.declared.yaml_scan.state.Known.{Known}
use Rattle.pr_yaml.specs.declared.yaml_scan.state.TokenCounts.{TokenCounts}
use Rattle.pr_yaml.specs.declared.yaml_scan.state.State.{State}
use Rattle.pr_yaml.specs.declared.yaml_scan.state.Part.{Part}
use Rattle.pr_yaml.specs.declared.yaml_scan.state.Part.TheVariants.{Over, Gap, Token as TokenPart, Fault}
use Rattle.pr_yaml.specs.Tokens.{Scans, no_more, past_gap, one_more, stopped, part_at, known_of, first_state, opens, closes, HasPlaces, HasScan, fault_of}
use Rattle.pr_yaml.specs.private.Inner.{known_by, counts_of, counts_after}
use Rattle.pr_yaml.proofs.Shorter.{IsShorter, part_shorter}
use Rattle.pr_yaml.specs.Scan.{left}

-- the part that was read, by the tokens before it
pub the_part : (tokens : List Token) (counts : TokenCounts) (known : Known) (s : State) (part found : Part) → counts ≡ counts_of (reverse tokens) → known ≡ known_by counts → part ≡ part_at known s → part ≡ found →
    part_at (known_of (reverse tokens)) s ≡ found
the_part tokens counts known s part found c k e f = ap (λ n. part_at (known_by n) s) (sym c) ∙ (ap (λ n. part_at n s) (sym k) ∙ (sym e ∙ f))

pub less_left : (s next : State) (known : Known) (part : Part) → part ≡ part_at known s → part ≡ Gap next → left next.place < left s.place
less_left s next known part e f = subst (λ p. IsShorter (left s.place) p) (sym e ∙ f) (part_shorter known s)

pub less_left_token : (s next : State) (t : Token) (known : Known) (part : Part) → part ≡ part_at known s → part ≡ TokenPart t next → left next.place < left s.place
less_left_token s next t known part e f = subst (λ p. IsShorter (left s.place) p) (sym e ∙ f) (part_shorter known s)

module _ (text : List ℕ) (tokens : List Token) (s : State) where
  pub at_first : tokens ≡ [] → s ≡ first_state text → (ts : List Token) (end : Option BadPlace) → Scans (reverse tokens) s ts end → Scans [] (first_state text) (tokens ++ ts) end
  at_first e f ts end d = subst (λ us. Scans [] (first_state text) (us ++ ts) end) (sym e) (subst (λ u. Scans [] u ts end) f (subst (λ us. Scans (reverse us) s ts end) e d))

  pub after_gap : (next : State) → part_at (known_of (reverse tokens)) s ≡ Gap next →
      ((ts : List Token) (end : Option BadPlace) → Scans (reverse tokens) s ts end → Scans [] (first_state text) (tokens ++ ts) end) →
      (ts : List Token) (end : Option BadPlace) → Scans (reverse tokens) next ts end → Scans [] (first_state text) (tokens ++ ts) end
  after_gap next e f ts end d = f ts end (past_gap next e d)

  pub after_token : (t : Token) (next : State) (more : List Token) → part_at (known_of (reverse tokens)) s ≡ TokenPart t next → more ≡ tokens ++ t ∷ [] →
      ((ts : List Token) (end : Option BadPlace) → Scans (reverse tokens) s ts end → Scans [] (first_state text) (tokens ++ ts) end) →
      (ts : List Token) (end : Option BadPlace) → Scans (reverse more) next ts end → Scans [] (first_state text) (more ++ ts) end
  after_token t next more e m f ts end d = subst (λ us. Scans [] (first_state text) us end) (sym (ap (λ us. us ++ ts) m ∙ append_assoc tokens (t ∷ []) ts))
      (f (t ∷ ts) end (one_more t next e (subst (λ us. Scans us next ts end) (ap reverse m ∙ reverse-append tokens (t ∷ [])) d)))

  pub at_end : part_at (known_of (reverse tokens)) s ≡ Over →
      ((ts : List Token) (end : Option BadPlace) → Scans (reverse tokens) s ts end → Scans [] (first_state text) (tokens ++ ts) end) → Scans [] (first_state text) tokens None
  at_end e f = subst (λ us. Scans [] (first_state text) us None) (append-nil tokens) (f [] None (no_more e))

  pub at_fault : (fault : BadPlace) → part_at (known_of (reverse tokens)) s ≡ Fault fault →
      ((ts : List Token) (end : Option BadPlace) → Scans (reverse tokens) s ts end → Scans [] (first_state text) (tokens ++ ts) end) → Scans [] (first_state text) tokens (Some fault)
  at_fault fault e f = subst (λ us. Scans [] (first_state text) us (Some fault)) (append-nil tokens) (f [] (Some fault) (stopped fault e))

pub counts_more : (tokens more : List Token) (counts after : TokenCounts) (t : Token) → more ≡ tokens ++ t ∷ [] → counts ≡ counts_of (reverse tokens) → after ≡ counts_after t counts → after ≡ counts_of (reverse more)
counts_more tokens more counts after t m c a = a ∙ (ap (counts_after t) c ∙ ap counts_of (sym (ap reverse m ∙ reverse-append tokens (t ∷ []))))

opens_few : (k : TokenKind) → opens k ≤ 1
opens_few Dash = omega arith
opens_few (Key text) = omega arith
opens_few (Text text quoted) = omega arith
opens_few ListOpen = omega arith
opens_few ListClose = omega arith
opens_few MapOpen = omega arith
opens_few MapClose = omega arith
opens_few Comma = omega arith

closes_few : (k : TokenKind) → closes k ≤ 1
closes_few Dash = omega arith
closes_few (Key text) = omega arith
closes_few (Text text quoted) = omega arith
closes_few ListOpen = omega arith
closes_few ListClose = omega arith
closes_few MapOpen = omega arith
closes_few MapClose = omega arith
closes_few Comma = omega arith

pub opened_more : (counts after : TokenCounts) (t : Token) (n m : ℕ) → after ≡ counts_after t counts → counts.opened ≤ n → m ≡ n + 1 → after.opened ≤ m
opened_more counts after t n m a h e = rw a (omega (arith, h, e, opens_few t.kind))

pub closed_more : (counts after : TokenCounts) (t : Token) (n m : ℕ) → after ≡ counts_after t counts → counts.closed ≤ n → m ≡ n + 1 → after.closed ≤ m
closed_more counts after t n m a h e = rw a (omega (arith, h, e, closes_few t.kind))

-- what is read of a text
pub seen_whole : (text : List ℕ) → is_utf8 text ≡ true → legible text ≡ text
unfolding legible
seen_whole text e = rw e refl

pub seen_front : (text : List ℕ) → is_utf8 text ≡ false → legible text ≡ take (utf8_valid_len text) text ++ 0xFF ∷ []
unfolding legible
seen_front text e = rw e refl

not_utf8 : (text : List ℕ) → ¬ (IsUtf8 text) → is_utf8 text ≡ false
not_utf8 text n = by_test (is_utf8 text) refl where
  by_test : (b : Bool) → is_utf8 text ≡ b → b ≡ false
  by_test true e = absurd (n (IsUtf8-from_is_utf8 text e))
  by_test false e = refl

pub is_whole : (text : List ℕ) → IsUtf8 text → text ≡ legible text
is_whole text u = sym (seen_whole text (is_utf8-from_IsUtf8 text u))

pub is_front : (text front all : List ℕ) (n : ℕ) → ¬ (IsUtf8 text) → n ≡ utf8_valid_len text → front ≡ take n text → all ≡ front ++ 0xFF ∷ [] → all ≡ legible text
is_front text front all n u e f a = a ∙ (ap (λ t. t ++ 0xFF ∷ []) (f ∙ ap (λ k. take k text) e) ∙ sym (seen_front text (not_utf8 text u)))

-- A text has one scan.
same_end : {p q : Part} {r : Part} → r ≡ p → r ≡ q → p ≡ q
same_end e f = sym e ∙ f

pub one_scan : {before ts us : List Token} {s : State} {e f : Option BadPlace} → Scans before s ts e → Scans before s us f → (ts ≡ us) × (e ≡ f)
one_scan (no_more a) (no_more b) = (refl, refl)
one_scan (no_more a) (past_gap n b d) = absurd (let h : Over ≡ Gap n = same_end a b in cc)
one_scan (no_more a) (one_more t n b d) = absurd (let h : Over ≡ TokenPart t n = same_end a b in cc)
one_scan (no_more a) (stopped x b) = absurd (let h : Over ≡ Fault x = same_end a b in cc)
one_scan (past_gap m a c) (no_more b) = absurd (let h : Gap m ≡ Over = same_end a b in cc)
one_scan (past_gap {before = before} {tokens = ts} {end = e} m a c) (past_gap n b d) = let h : Gap m ≡ Gap n = same_end a b in let i : m ≡ n = cc in one_scan (subst (λ x. Scans before x ts e) i c) d
one_scan (past_gap m a c) (one_more t n b d) = absurd (let h : Gap m ≡ TokenPart t n = same_end a b in cc)
one_scan (past_gap m a c) (stopped x b) = absurd (let h : Gap m ≡ Fault x = same_end a b in cc)
one_scan (one_more t m a c) (no_more b) = absurd (let h : TokenPart t m ≡ Over = same_end a b in cc)
one_scan (one_more t m a c) (past_gap n b d) = absurd (let h : TokenPart t m ≡ Gap n = same_end a b in cc)
one_scan (one_more {before = before} {tokens = ts} {end = e} t m a c) (one_more u n b d) =
    let h : TokenPart t m ≡ TokenPart u n = same_end a b in
    let i : m ≡ n = cc in
    let j : t ≡ u = cc in
    let r = one_scan (subst (λ x. Scans (u ∷ before) x ts e) i (subst (λ x. Scans (x ∷ before) m ts e) j c)) d in
    let k = r.0 in
    (cc, r.1)
one_scan (one_more t m a c) (stopped x b) = absurd (let h : TokenPart t m ≡ Fault x = same_end a b in cc)
one_scan (stopped y a) (no_more b) = absurd (let h : Fault y ≡ Over = same_end a b in cc)
one_scan (stopped y a) (past_gap n b d) = absurd (let h : Fault y ≡ Gap n = same_end a b in cc)
one_scan (stopped y a) (one_more t n b d) = absurd (let h : Fault y ≡ TokenPart t n = same_end a b in cc)
one_scan (stopped y a) (stopped x b) = let h : Fault y ≡ Fault x = same_end a b in let i : y ≡ x = cc in (refl, ap Some i)

-- what is answered of what is read of a text is so of the text
pub of_legible : {E : Type 0} (bytes text : List ℕ) (r : Result Places E) → text ≡ legible (without_mark bytes) → IfOk r (λ found. Scans [] (first_state text) found.tokens.items found.bad) →
    IfOk r (λ found. HasPlaces bytes found.tokens.items found.bad)
of_legible bytes text (Ok found) e h = subst (λ t. Scans [] (first_state t) found.tokens.items found.bad) e h
of_legible bytes text (Err error) e h = tt

pub only_places : {E : Type 0} (bytes : List ℕ) (r : Result Places E) → IfOk r (λ found. HasPlaces bytes found.tokens.items found.bad) →
    IfOk r (λ found. (ts : List Token) (end : Option BadPlace) → HasPlaces bytes ts end → (ts ≡ found.tokens.items) × (end ≡ found.bad))
only_places bytes (Ok found) h = λ ts end d. one_scan d h
only_places bytes (Err error) h = tt

-- the fault is that of the bad place
pub only_fault : (bytes : List ℕ) (tokens ts : List Token) (bad : Option BadPlace) (fault other : Option ScanFault) → HasPlaces bytes tokens bad → fault ≡ fault_of bad → HasScan bytes ts other → (ts ≡ tokens) × (other ≡ fault)
only_fault bytes tokens ts bad fault other d f h = let same = one_scan h.1.0 d in (same.0, sym h.1.1 ∙ (ap fault_of same.1 ∙ sym f))
