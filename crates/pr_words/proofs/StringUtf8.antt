-- Where a text is UTF-8, so is what a string of it means.
use Rattle.std.proofs.Common.{◌≡◌, ℕ, ◌+◌, ◌<◌, ◌≤◌, List, [], ◌∷◌, ◌++◌, Option, Some, None, Bool, true, false, length, get_or, refl, ap, sym, ◌∙◌, subst, arith, inl, inr, append_assoc, length-append, lit<}
use Rattle.std.proofs.Math.Seq.{take-append_seam, drop-append-add, get_or-append_seam}
use Rattle.std.proofs.lemmas.Str.{IsUtf8-take, IsUtf8-drop, IsUtf8-append, IsUtf8-encode, IsUtf8-from_ascii, IsCharBoundary-before_ascii, IsCharBoundary-after_ascii}
use Rattle.std.proofs.lemmas.Bool.{cases_lt}
use Rattle.std.proofs.lemmas.Bool.Decides.{nat_tests}
use Rattle.std.proofs.lemmas.Str.Ascii.{IsAscii-from_all}
use Rattle.std.proofs.lemmas.List.Elements.{All-cons}
use Rattle.std.specs.Prelude.{encode_utf8, if◌then◌else◌}
use Rattle.std.specs.Str.{IsUtf8}
use Rattle.std.specs.Char.{IsScalar}
use Rattle.pr_forms.specs.Form.{token}
use Rattle.pr_forms.specs.Run.{good, Runs, run_token}
use Rattle.pr_words.specs.declared.strings.kind.Mark.{Mark}
use Rattle.pr_words.specs.declared.strings.kind.Mark.TheVariants.{Double, Single, Back}
use Rattle.pr_words.specs.declared.strings.kind.StringByte.{StringByte}
use Rattle.pr_words.specs.declared.strings.kind.StringByte.TheVariants.{Quote, Backslash, A, B, F, N, R, T, V, Other}
use Rattle.pr_words.specs.Strings.{production, kind_of, Letter, letter, letter_of, seen, StringValue, mark, byte_value, quote_at, plain_at, escape_at, named_at, named_byte, is_plain, as_content, numbered_by, numbering, digit_of, Rule}
use Rattle.pr_forms.specs.Language.{Takes}
use Rattle.pr_words.specs.private.Language.{text_strings}
use Rattle.pr_words.specs.private.Reader.{KeepsText, KeepsFront, SplitsText}
use Rattle.pr_words.specs.StringTable.{table}

-- a text may be cut around an ASCII byte
module _ (front rest : List ℕ) (b : ℕ) (small : b < 128) (u : IsUtf8 (front ++ b ∷ rest)) where
  here : get_or (front ++ b ∷ rest) (length front) 0 < 128
  here = let e = get_or-append_seam front b rest 0 in omega (arith, e, small)

  short : length front < length (front ++ b ∷ rest)
  short = let e = length-append front (b ∷ rest) in omega (arith, e)

  pub before_byte : IsUtf8 front
  before_byte = subst IsUtf8 (take-append_seam front (b ∷ rest)) (IsUtf8-take (front ++ b ∷ rest) (length front) u (IsCharBoundary-before_ascii (front ++ b ∷ rest) (length front) short here))

  pub after_byte : IsUtf8 rest
  after_byte = subst IsUtf8 (drop-append-add front (b ∷ rest) 1) (IsUtf8-drop (front ++ b ∷ rest) (length front + 1) u (IsCharBoundary-after_ascii (front ++ b ∷ rest) (length front) u short here))

pub keeps_after : (text rest : List ℕ) (b : ℕ) → text ≡ b ∷ rest → b < 128 → KeepsText text rest
keeps_after text rest b e small u = after_byte [] rest b small (subst IsUtf8 e u)

-- all bytes with a kind of their own are ASCII
high : (b : ℕ) → 128 ≤ b → kind_of b ≡ Other
high b h = grind (arith, nat_tests)

pub small_byte : (b : ℕ) → (kind_of b ≡ Other → ⊥) → b < 128
small_byte b h = elim (cases_lt b 128) [ inl lt ↦ lt | inr ge ↦ absurd (h (high b ge)) ]

-- what a token took
byte_of : Letter → ℕ
byte_of (letter k b) = b

pub seen_same : (xs ys : List ℕ) → seen xs ≡ seen ys → xs ≡ ys
seen_same [] [] e = refl
seen_same [] (y ∷ ys) e = cc
seen_same (x ∷ xs) [] e = cc
seen_same (x ∷ xs) (y ∷ ys) e =
    let h : x ≡ y = cc in
    let k : seen xs ≡ seen ys = cc in
    rw (h, seen_same xs ys k) refl

token_inv : {p : Letter → Option StringValue} {ts rest : List Letter} {v : StringValue} → Runs production table (token p) ts (good v rest) → (t : Letter) × (ts ≡ t ∷ rest) × (p t ≡ Some v)
token_inv (run_token {t = t} e) = (t, refl, e)

pub taken : (p : Letter → Option StringValue) (text rest : List ℕ) (v : StringValue) → Takes text_strings (token p) text v rest → (b : ℕ) × (text ≡ b ∷ rest) × (p (letter_of b) ≡ Some v)
taken p text rest v x = let i = token_inv x.gives in front text i.0 i.1 i.2
  where
    front : (bs : List ℕ) (t : Letter) → seen bs ≡ t ∷ seen rest → p t ≡ Some v → (b : ℕ) × (bs ≡ b ∷ rest) × (p (letter_of b) ≡ Some v)
    front [] t e h = cc
    front (b ∷ bs) t e h =
        let same : t ≡ letter_of b = cc in
        let left : seen bs ≡ seen rest = cc in
        (b, ap (λ xs. b ∷ xs) (seen_same bs rest left), subst (λ y. p y ≡ Some v) same h)

-- the kinds that tokens take
none_some : {X : Type 0} (v : X) → None ≡ Some v → ⊥
none_some v e = cc

quote_kind : (m : Mark) (k : StringByte) (b : ℕ) (v : StringValue) → quote_at m (letter k b) ≡ Some v → k ≡ Other → ⊥
quote_kind m Other b v e h = none_some v e
quote_kind m k b v e h = cc

escape_kind : (m : Mark) (k : StringByte) (b : ℕ) (v : StringValue) → escape_at m (letter k b) ≡ Some v → k ≡ Other → ⊥
escape_kind Double Other b v e h = none_some v e
escape_kind Single Other b v e h = none_some v e
escape_kind Back Other b v e h = none_some v e
escape_kind m k b v e h = cc

named_kind : (m : Mark) (k : StringByte) (b : ℕ) (v : StringValue) → named_at m (letter k b) ≡ Some v → k ≡ Other → ⊥
named_kind m Other b v e h = none_some v e
named_kind m k b v e h = cc

numbered_kind : (k : StringByte) (r : Rule) → Some r ≡ numbered_by k → k ≡ Other → ⊥
numbered_kind Other r e h = none_some r (sym e)
numbered_kind k r e h = cc

digit_kind : (k : StringByte) (b d : ℕ) → Some d ≡ digit_of (letter k b) → k ≡ Other → ⊥
digit_kind Other b d e h = none_some d (sym e)
digit_kind k b d e h = cc

pub numbering_text : (text rest : List ℕ) (b limit digits : ℕ) (k : StringByte) → text ≡ b ∷ rest → k ≡ kind_of b → Some (numbering limit digits) ≡ numbered_by k → KeepsText text rest
numbering_text text rest b limit digits k e h n = keeps_after text rest b e (small_byte b (λ o. numbered_kind k (numbering limit digits) n (h ∙ o)))

pub digit_text : (text rest : List ℕ) (b d : ℕ) → text ≡ b ∷ rest → Some d ≡ digit_of (letter_of b) → KeepsText text rest
digit_text text rest b d e n = keeps_after text rest b e (small_byte b (λ o. digit_kind (kind_of b) b d n o))

pub opening_text : (text rest : List ℕ) (b : ℕ) (k : StringByte) (m : Mark) → text ≡ b ∷ rest → k ≡ kind_of b → k ≡ Quote m → KeepsText text rest
opening_text text rest b k m e h n = keeps_after text rest b e (small_byte b (λ o. not_other m (sym n ∙ (h ∙ o))))
  where
    not_other : (m : Mark) → Quote m ≡ Other → ⊥
    not_other m e = cc

-- the escapes
pub byte_text : (c : ℕ) → c < 128 → IsUtf8 (c ∷ [])
byte_text c h = IsUtf8-from_ascii (c ∷ []) (IsAscii-from_all (c ∷ []) (All-cons (λ b. b < 128) c [] h (λ i d lt. absurd (omega (arith, lt)))))

-- the bytes that escapes of one letter mean
meant_some : (o : Option ℕ) (c : ℕ) → as_content o ≡ Some (byte_value c) → o ≡ Some c
meant_some (Some x) c e = let same : x ≡ c = cc in ap Some same
meant_some None c e = cc

some_same : (x c : ℕ) → Some x ≡ Some c → x < 128 → c < 128
some_same x c e h = let same : x ≡ c = cc in subst (λ y. y < 128) same h

own_quote : (m n : Mark) (c : ℕ) → named_byte m (Quote n) ≡ Some c → c < 128
own_quote Double Double c e = some_same 34 c e (lit< tt)
own_quote Single Single c e = some_same 39 c e (lit< tt)
own_quote Back Back c e = some_same 96 c e (lit< tt)
own_quote m n c e = cc

meant_small : (m : Mark) (k : StringByte) (c : ℕ) → named_byte m k ≡ Some c → c < 128
meant_small m (Quote n) c e = own_quote m n c e
meant_small m Backslash c e = some_same 92 c e (lit< tt)
meant_small m A c e = some_same 7 c e (lit< tt)
meant_small m B c e = some_same 8 c e (lit< tt)
meant_small m F c e = some_same 12 c e (lit< tt)
meant_small m N c e = some_same 10 c e (lit< tt)
meant_small m R c e = some_same 13 c e (lit< tt)
meant_small m T c e = some_same 9 c e (lit< tt)
meant_small m V c e = some_same 11 c e (lit< tt)
meant_small m k c e = cc

meant : (m : Mark) (k : StringByte) (b c : ℕ) → named_at m (letter k b) ≡ Some (byte_value c) → c < 128
meant m k b c e = meant_small m k c (meant_some (named_byte m k) c e)

itself : (plain : Bool) (a b : ℕ) → (if plain then Some (byte_value a) else None) ≡ Some (byte_value b) → a ≡ b
itself true a b e = cc
itself false a b e = cc

pub named_text : (m : Mark) (text rest : List ℕ) (c : ℕ) → Takes text_strings (token (named_at m)) text (byte_value c) rest → KeepsText text ((c ∷ []) ++ rest)
named_text m text rest c x u =
    let t = taken (named_at m) text rest (byte_value c) x in
    IsUtf8-append (c ∷ []) rest (byte_text c (meant m (kind_of t.0) t.0 c t.2)) (keeps_after text rest t.0 t.1 (small_byte t.0 (named_kind m (kind_of t.0) t.0 (byte_value c) t.2)) u)

pub digits_text : (text after rest : List ℕ) (c : ℕ) → KeepsText text after → KeepsText after rest → IsScalar c → KeepsText text (encode_utf8 c ++ rest)
digits_text text after rest c h k s u = IsUtf8-append (encode_utf8 c) rest (IsUtf8-encode c s) (k (h u))

-- the pieces
pub plain_text : (m : Mark) (text rest : List ℕ) (b : ℕ) → Takes text_strings (token (plain_at m)) text (byte_value b) rest → KeepsFront text (b ∷ []) rest
plain_text m text rest b x front u =
    let t = taken (plain_at m) text rest (byte_value b) x in
    let same : t.0 ≡ b = itself (is_plain m (kind_of t.0)) t.0 b t.2 in
    subst (λ y. IsUtf8 (front ++ y)) (t.1 ∙ ap (λ y. y ∷ rest) same) u

pub escape_text : (m : Mark) (text after bytes rest : List ℕ) → Takes text_strings (token (escape_at m)) text mark after → KeepsText after (bytes ++ rest) → KeepsFront text bytes rest
escape_text m text after bytes rest x k front u =
    let t = taken (escape_at m) text after mark x in
    let small = small_byte t.0 (escape_kind m (kind_of t.0) t.0 mark t.2) in
    let v = subst (λ y. IsUtf8 (front ++ y)) t.1 u in
    IsUtf8-append front (bytes ++ rest) (before_byte front after t.0 small v) (k (after_byte front after t.0 small v))

pub more_text : (text bytes at more rest new : List ℕ) → KeepsText text (bytes ++ at) → KeepsFront at more rest → new ≡ bytes ++ more → KeepsText text (new ++ rest)
more_text text bytes at more rest new h k e u = subst IsUtf8 (sym (append_assoc bytes more rest) ∙ ap (λ x. x ++ rest) (sym e)) (k bytes (h u))

pub last_text : (m : Mark) (text bytes at rest : List ℕ) → KeepsText text (bytes ++ at) → Takes text_strings (token (quote_at m)) at mark rest → SplitsText text bytes rest
last_text m text bytes at rest h x u =
    let t = taken (quote_at m) at rest mark x in
    let small = small_byte t.0 (quote_kind m (kind_of t.0) t.0 mark t.2) in
    let v = subst (λ y. IsUtf8 (bytes ++ y)) t.1 (h u) in
    (before_byte bytes rest t.0 small v, after_byte bytes rest t.0 small v)
