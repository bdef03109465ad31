-- Files one after another.
use Rattle.std.proofs.Common.{◌≡◌, ℕ, ◌+◌, ◌≤◌, zero, suc, Bool, true, false, ◌||◌, List, [], ◌∷◌, ◌++◌, length, take, map, flat_map, Result, Ok, Err, IsErrAnd, refl, sym, ap, ◌∙◌, subst, append_assoc, append-nil, length-append, arith}
use Rattle.std.specs.declared.option.Option.{Option}
use Rattle.std.specs.Io.KnownBytes.{Appends}
use Rattle.pr_outside.specs.Meant.{Content}
use Rattle.pr_outside.proofs.StatusStreams.{appends_on, appends_none}
use Rattle.pr_outside.specs.Asks.{Asks, AsksAt, AsksBy, asked_by}
use Rattle.pr_outside.specs.Ends.{StopPlace, at_input, at_file, at_output, anywhere, place_of}
use Rattle.pr_outside.specs.Outside.{Outside, Held, AreTold}
use Rattle.pr_outside.specs.declared.status.status.Stop.{Stop}
use Rattle.pr_outside.specs.declared.status.status.Stop.TheVariants.{Read, Load, Store, BadRow, Write, Memory, TooLong}
use Rattle.pr_outside.specs.FileChecks.{Told, Telling, IsFilesFront, AreChecked, all_told, any_refused, all_asks, texts}
use Rattle.pr_outside.specs.private.FileStops.{AreDone, IsFileFront, Turned}

texts_snoc : (done : List Told) (t : Told) → texts (done ++ t ∷ []) ≡ texts done ++ t.text
texts_snoc [] t = append-nil t.text
texts_snoc (d ∷ done) t = ap (λ l. d.text ++ l) (texts_snoc done t) ∙ sym (append_assoc d.text (texts done) t.text)

or_assoc : (a b c : Bool) → (a || (b || c)) ≡ ((a || b) || c)
or_assoc true b c = refl
or_assoc false b c = refl

or_false : (a : Bool) → (a || false) ≡ a
or_false true = refl
or_false false = refl

any_snoc : (done : List Told) (t : Told) → any_refused (done ++ t ∷ []) ≡ (any_refused done || t.refused)
any_snoc [] t = or_false t.refused
any_snoc (d ∷ done) t = ap (λ b. d.refused || b) (any_snoc done t) ∙ or_assoc d.refused (any_refused done) t.refused

take_front : (done later : List Told) → take (length done) (done ++ later) ≡ done
take_front [] later = refl
take_front (d ∷ done) later = ap (λ l. d ∷ l) (take_front done later)

length_snoc : (done : List Told) (t : Told) → length (done ++ t ∷ []) ≡ length done + 1
length_snoc [] t = refl
length_snoc (d ∷ done) t = let e = length_snoc done t in omega (arith, e)

length_joined : (done later : List Told) → length (done ++ later) ≡ length done + length later
length_joined [] later = omega arith
length_joined (d ∷ done) later = let e = length_joined done later in omega (arith, e)

asks_snoc : (done : List Told) (t : Told) → all_asks (done ++ t ∷ []) ≡ all_asks done ++ t.asks
asks_snoc [] t = append-nil t.asks
asks_snoc (d ∷ done) t = ap (λ (l : List (List ℕ)). d.asks ++ l) (asks_snoc done t) ∙ sym (append_assoc d.asks (all_asks done) t.asks)

asks_count : (done : List Told) (t : Told) → length (all_asks (done ++ t ∷ [])) ≡ length (all_asks done) + length t.asks
asks_count done t = ap length (asks_snoc done t) ∙ length-append (all_asks done) t.asks

steps_are : (n : ℕ) (tolds : List Told) → flat_map (λ (asks : List (List ℕ)). asks) (take n (map (λ (t : Told). t.asks) tolds)) ≡ all_asks (take n tolds)
steps_are zero [] = refl
steps_are zero (t ∷ tolds) = refl
steps_are (suc n) [] = refl
steps_are (suc n) (t ∷ tolds) = ap (λ (l : List (List ℕ)). t.asks ++ l) (steps_are n tolds)

asked_is : (n : ℕ) (tolds : List Told) → asked_by n (map (λ (t : Told). t.asks) tolds) ≡ length (all_asks (take n tolds))
asked_is n tolds = ap length (steps_are n tolds)

asked_longer : (xs ys zs : List (List ℕ)) → length ys ≤ length zs → length (xs ++ ys) ≤ length (xs ++ zs)
asked_longer [] ys zs e = e
asked_longer (x ∷ xs) ys zs e = let h = asked_longer xs ys zs e in omega (arith, h)

asks_grow : (k : ℕ) (tolds : List Told) → length (all_asks (take k tolds)) ≤ length (all_asks (take (suc k) tolds))
asks_grow zero [] = omega arith
asks_grow zero (t ∷ tolds) = omega arith
asks_grow (suc k) [] = omega arith
asks_grow (suc k) (t ∷ tolds) = asked_longer t.asks (all_asks (take k tolds)) (all_asks (take (suc k) tolds)) (asks_grow k tolds)

asks_on : (a b c n m : ℕ) → Asks a b n → Asks b c m → Asks a c (n + m)
asks_on a b c n m p q = (omega (arith, p.0, q.0), omega (arith, p.0, p.1, q.0, q.1))

pub asks_none : (a : ℕ) → Asks a a 0
asks_none a = (omega arith, omega arith)

-- what is told of names is told of the first of them, and of those behind these
told_first : (content : Content) (held : Held) (xs ys : List (List ℕ)) → AreTold content held (xs ++ ys) → AreTold content held xs
told_first content held [] ys h = tt
told_first content held (x ∷ xs) ys h = (h.0, told_first content held xs ys h.1)

told_behind : (content : Content) (held : Held) (xs ys : List (List ℕ)) → AreTold content held (xs ++ ys) → AreTold content held ys
told_behind content held [] ys h = h
told_behind content held (x ∷ xs) ys h = told_behind content held xs ys h.1

told_still : (content now : Content) (held : Held) (xs : List (List ℕ)) → ((other : List ℕ) → now other ≡ content other) → AreTold content held xs → AreTold now held xs
told_still content now held [] same h = tt
told_still content now held (x ∷ xs) same h = (same x ∙ h.0, told_still content now held xs same h.1)

asks_joined : (done later : List Told) → all_asks (done ++ later) ≡ all_asks done ++ all_asks later
asks_joined [] later = refl
asks_joined (d ∷ done) later = ap (λ (l : List (List ℕ)). d.asks ++ l) (asks_joined done later) ∙ sym (append_assoc d.asks (all_asks done) (all_asks later))

-- the next file's names are told
told_next : (content : Content) (held : Held) (done later tolds : List Told) (t : Told) → tolds ≡ done ++ t ∷ later → AreTold content held (all_asks tolds)
    → AreTold content held t.asks
told_next content held done later tolds t e h =
    told_first content held t.asks (all_asks later)
    (told_behind content held (all_asks done) (t.asks ++ all_asks later)
    (subst (AreTold content held) (ap all_asks e ∙ asks_joined done (t ∷ later)) h))

-- one more file
one_done : (telling : Telling) (held : Held) (name : List ℕ) (names : List (List ℕ)) (tolds : List Told) (a b c : Option (List ℕ)) (k m n : ℕ) (refused also : Bool)
    → AreDone telling held (name ∷ names) tolds a b k m refused → Turned (telling held name) b c also → Asks m n (length (telling held name).asks)
    → AreDone telling held names tolds a c k n (refused || also)
one_done telling held name names tolds a b c k m n refused also d turned asked =
    let told = telling held name in
    record {
      done = d.done ++ told ∷ [];
      joined = d.joined ∙ sym (append_assoc d.done (told ∷ []) (all_told telling held names));
      written = subst (Appends a c) (sym (texts_snoc d.done told)) (appends_on a b c (texts d.done) told.text d.written turned.0);
      asked = subst (Asks k n) (sym (asks_count d.done told)) (asks_on k m n (length (all_asks d.done)) (length told.asks) d.asked asked);
      so_far = ap (λ (r : Bool). r || also) d.so_far ∙ ap (λ (r : Bool). any_refused d.done || r) turned.1 ∙ sym (any_snoc d.done told);
    }

take_all : {A : Type 0} (xs : List A) → take (length xs) xs ≡ xs
take_all [] = refl
take_all (x ∷ xs) = ap (λ l. x ∷ l) (take_all xs)

take_behind : {A : Type 0} (xs ys : List A) (n : ℕ) → take (length xs + n) (xs ++ ys) ≡ xs ++ take n ys
take_behind [] ys n = let e : 0 + n ≡ n = omega arith in ap (λ k. take k ys) e
take_behind (x ∷ xs) ys n =
    let e : suc (length xs) + n ≡ suc (length xs + n) = omega arith in
    ap (λ k. take k ((x ∷ xs) ++ ys)) e ∙ ap (λ l. x ∷ l) (take_behind xs ys n)

longer : (xs ys : List ℕ) → length xs ≤ length (xs ++ ys)
longer [] ys = omega arith
longer (x ∷ xs) ys = let e = longer xs ys in omega (arith, e)

more_long : (xs ys zs : List ℕ) → length ys ≤ length zs → length (xs ++ ys) ≤ length (xs ++ zs)
more_long [] ys zs e = e
more_long (x ∷ xs) ys zs e = let h = more_long xs ys zs e in omega (arith, h)

texts_grow : (k : ℕ) (tolds : List Told) → length (texts (take k tolds)) ≤ length (texts (take (suc k) tolds))
texts_grow zero [] = omega arith
texts_grow zero (t ∷ tolds) = omega arith
texts_grow (suc k) [] = omega arith
texts_grow (suc k) (t ∷ tolds) = more_long t.text (texts (take k tolds)) (texts (take (suc k) tolds)) (texts_grow k tolds)

-- no text of files before some of them is longer than theirs
before_them : (done later tolds : List Told) (before : ℕ) → tolds ≡ done ++ later → before + 1 ≡ length done → length (texts (take before tolds)) ≤ length (texts done)
before_them done later tolds before e k =
    let next : suc before ≡ length done = omega (arith, k) in
    let same : take (suc before) tolds ≡ done = ap (take (suc before)) e ∙ ap (λ n. take n (done ++ later)) next ∙ take_front done later in
    subst (λ l. length (texts (take before tolds)) ≤ length (texts l)) same (texts_grow before tolds)

-- what was written where all of some files are done, and nothing of the next one
fronted : (done later tolds : List Told) (before now : Outside) (place : StopPlace) (n : ℕ) → tolds ≡ done ++ later → Appends before.out.taken now.out.taken (texts done)
    → Asks before.files.calls now.files.calls n → AsksAt place (map (λ (t : Told). t.asks) tolds) (length done) n → IsFilesFront tolds before now place
fronted done later tolds before now place n e w asks at =
    let same : take (length done) tolds ≡ done = ap (take (length done)) e ∙ take_front done later in
    let many = length_joined done later in
    let long = ap length e in
    record {
      done = length done;
      within = omega (arith, many, long);
      count = length (texts done);
      text = subst (Appends before.out.taken now.out.taken) (sym (take_all (texts done)) ∙ ap (λ (l : List Told). take (length (texts done)) (texts l)) (sym same)) w;
      whole = λ fewer k. before_them done later tolds fewer e k;
      unread = λ u. subst (λ (l : List Told). length (texts l) ≤ length (texts done)) (sym same) (omega arith);
      asked = n;
      asks = asks;
      asks_at = at;
    }

-- what was written where the next one is done in part
in_part : (done later tolds : List Told) (t : Told) (before now : Outside) (mid : Option (List ℕ)) (place : StopPlace) (k n : ℕ) → tolds ≡ done ++ t ∷ later
    → (place ≡ at_file → ⊥) → Appends before.out.taken mid (texts done) → Appends mid now.out.taken (take k t.text)
    → Asks before.files.calls now.files.calls n → AsksAt place (map (λ (u : Told). u.asks) tolds) (length done + 1) n → IsFilesFront tolds before now place
in_part done later tolds t before now mid place k n e other w v asks at =
    let again : tolds ≡ (done ++ t ∷ []) ++ later = e ∙ sym (append_assoc done (t ∷ []) later) in
    let long = length_snoc done t in
    let same : take (length done + 1) tolds ≡ done ++ t ∷ [] =
    ap (take (length done + 1)) again ∙ ap (λ (j : ℕ). take j ((done ++ t ∷ []) ++ later)) (sym long) ∙ take_front (done ++ t ∷ []) later in
    let cut : take (length (texts done) + k) (texts (take (length done + 1) tolds)) ≡ texts done ++ take k t.text =
    ap (λ (l : List Told). take (length (texts done) + k) (texts l)) same ∙ ap (take (length (texts done) + k)) (texts_snoc done t) ∙ take_behind (texts done) t.text k in
    let front : take (length done) tolds ≡ done = ap (take (length done)) e ∙ take_front done (t ∷ later) in
    let many = length_joined (done ++ t ∷ []) later in
    let all = ap length again in
    record {
      done = length done + 1;
      within = omega (arith, many, all, long);
      count = length (texts done) + k;
      text = subst (Appends before.out.taken now.out.taken) (sym cut) (appends_on before.out.taken mid now.out.taken (texts done) (take k t.text) w v);
      whole = λ fewer j.
          let is : fewer ≡ length done = omega (arith, j) in
          subst (λ (l : List Told). length (texts l) ≤ length (texts done) + k) (sym (ap (λ (m : ℕ). take m tolds) is ∙ front)) (omega arith);
      unread = λ u. absurd (other u);
      asked = n;
      asks = asks;
      asks_at = at;
    }

-- how many files are asked for by those that are done, and with the next one
asked_done : (done later tolds : List Told) → tolds ≡ done ++ later → asked_by (length done) (map (λ (t : Told). t.asks) tolds) ≡ length (all_asks done)
asked_done done later tolds e =
    asked_is (length done) tolds ∙ ap (λ (l : List Told). length (all_asks l)) (ap (take (length done)) e ∙ take_front done later)

asked_next : (done later tolds : List Told) (t : Told) → tolds ≡ done ++ t ∷ later
    → asked_by (length done + 1) (map (λ (u : Told). u.asks) tolds) ≡ length (all_asks done) + length t.asks
asked_next done later tolds t e =
    let again : tolds ≡ (done ++ t ∷ []) ++ later = e ∙ sym (append_assoc done (t ∷ []) later) in
    ap (λ (k : ℕ). asked_by k (map (λ (u : Told). u.asks) tolds)) (sym (length_snoc done t)) ∙ asked_done (done ++ t ∷ []) later tolds again ∙ asks_count done t

asked_later : (k : ℕ) (tolds : List Told) → asked_by k (map (λ (u : Told). u.asks) tolds) ≤ asked_by (k + 1) (map (λ (u : Told). u.asks) tolds)
asked_later k tolds =
    let next : suc k ≡ k + 1 = omega arith in
    omega (arith, asked_is k tolds, asked_is (k + 1) tolds, subst (λ (j : ℕ). length (all_asks (take k tolds)) ≤ length (all_asks (take j tolds))) next (asks_grow k tolds))

-- the next file stopped the check
pub one_cut : (telling : Telling) (held : Held) (name : List ℕ) (names : List (List ℕ)) (tolds : List Told) (before now : Outside) (mid : Option (List ℕ)) (m : ℕ)
    (refused : Bool) (s : Stop) → AreDone telling held (name ∷ names) tolds before.out.taken mid before.files.calls m refused
    → IsFileFront (telling held name) mid now.out.taken (Err s) → AsksBy {T = Bool} m now.files.calls (length (telling held name).asks) (Err s)
    → IsFilesFront tolds before now (place_of {T = Bool} (Err s))
one_cut telling held name names tolds before now mid m refused s d front asked = cut_by s front asked
  where
    cut_by : (s : Stop) → IsFileFront (telling held name) mid now.out.taken (Err s) → AsksBy {T = Bool} m now.files.calls (length (telling held name).asks) (Err s)
        → IsFilesFront tolds before now (place_of {T = Bool} (Err s))
    cut_by Read f a = absurd f
    cut_by Load f a =
        fronted d.done (telling held name ∷ all_told telling held names) tolds before now at_file (length (all_asks d.done) + a.0) d.joined
        (subst (Appends before.out.taken now.out.taken) (append-nil (texts d.done)) (appends_on before.out.taken mid now.out.taken (texts d.done) [] d.written f))
        (asks_on before.files.calls m now.files.calls (length (all_asks d.done)) a.0 d.asked a.1) (
          omega (arith, a.2, asked_done d.done (telling held name ∷ all_told telling held names) tolds d.joined),
          omega (arith, a.3, asked_next d.done (all_told telling held names) tolds (telling held name) d.joined),
        )
    cut_by Store f a = absurd f
    cut_by (BadRow index) f a = absurd f
    cut_by Write f a =
        in_part d.done (all_told telling held names) tolds (telling held name) before now mid at_output f.0 (length (all_asks d.done) + length (telling held name).asks) d.joined
        (λ e. absurd (cc)) d.written f.1 (asks_on before.files.calls m now.files.calls (length (all_asks d.done)) (length (telling held name).asks) d.asked a)
        (sym (asked_next d.done (all_told telling held names) tolds (telling held name) d.joined))
    cut_by Memory f a =
        in_part d.done (all_told telling held names) tolds (telling held name) before now mid anywhere f.0 (length (all_asks d.done) + a.0) d.joined
        (λ e. absurd (cc)) d.written f.1 (asks_on before.files.calls m now.files.calls (length (all_asks d.done)) a.0 d.asked a.1)
        (omega (arith, a.2, asked_next d.done (all_told telling held names) tolds (telling held name) d.joined, asked_later (length d.done + 1) tolds))
    cut_by TooLong f a = absurd f

-- all is done
pub all_front : (telling : Telling) (held : Held) (tolds : List Told) (before now : Outside) (refused : Bool)
    → AreDone telling held [] tolds before.out.taken now.out.taken before.files.calls now.files.calls refused → IsFilesFront tolds before now at_input
all_front telling held tolds before now refused d =
    fronted d.done [] tolds before now at_input (length (all_asks d.done)) d.joined d.written d.asked (sym (asked_done d.done [] tolds d.joined))

pub all_done : (telling : Telling) (held : Held) (tolds : List Told) (before now : Outside) (refused : Bool)
    → AreDone telling held [] tolds before.out.taken now.out.taken before.files.calls now.files.calls refused → AreChecked tolds before now refused
all_done telling held tolds before now refused d =
    let same : tolds ≡ d.done = d.joined ∙ append-nil d.done in
    record {
      written = subst (λ (l : List Told). Appends before.out.taken now.out.taken (texts l)) (sym same) d.written;
      refused = d.so_far ∙ ap any_refused (sym same);
      asked = subst (λ (l : List Told). Asks before.files.calls now.files.calls (length (all_asks l))) (sym same) d.asked;
    }

none_left : {X : Type 0} (xs : List X) → length xs ≡ 0 → xs ≡ []
none_left [] e = refl
none_left (x ∷ xs) e = absurd (omega (arith, e))

pub none_done : (telling : Telling) (held : Held) (names : List (List ℕ)) (a : Option (List ℕ)) (k : ℕ)
    → AreDone telling held names (all_told telling held names) a a k k false
none_done telling held names a k = record { done = []; joined = refl; written = appends_none a; asked = asks_none k; so_far = refl }

-- the same by the loop's names: the rest is a name and what is after it, and the outside tells of
-- it now what it told at first
pub next_told : {X : Type 0} (f : X → List ℕ) (telling : Telling) (held : Held) (content now : Content) (rest after : List X) (n : X) (name : List ℕ) (tolds : List Told)
    (a b : Option (List ℕ)) (k m : ℕ) (refused : Bool) → rest ≡ n ∷ after → name ≡ f n → ((other : List ℕ) → now other ≡ content other)
    → AreTold content held (all_asks tolds) → AreDone telling held (map f rest) tolds a b k m refused → AreTold now held (telling held name).asks
next_told {X} f telling held content now rest after n name tolds a b k m refused e is same told d =
    let here : AreDone telling held (f n ∷ map f after) tolds a b k m refused = subst (λ (l : List X). AreDone telling held (map f l) tolds a b k m refused) e d in
    subst (λ (x : List ℕ). AreTold now held (telling held x).asks) (sym is)
    (told_still content now held (telling held (f n)).asks same (told_next content held here.done (all_told telling held (map f after)) tolds (telling held (f n)) here.joined told))

pub next_done : {X : Type 0} (f : X → List ℕ) (telling : Telling) (held : Held) (rest after : List X) (n : X) (name : List ℕ) (tolds : List Told)
    (a b c : Option (List ℕ)) (k m l : ℕ) (refused also : Bool) → rest ≡ n ∷ after → name ≡ f n
    → AreDone telling held (map f rest) tolds a b k m refused → Turned (telling held name) b c also → Asks m l (length (telling held name).asks)
    → AreDone telling held (map f after) tolds a c k l (refused || also)
next_done {X} f telling held rest after n name tolds a b c k m l refused also e is d t asks =
    one_done telling held (f n) (map f after) tolds a b c k m l refused also
    (subst (λ (r : List X). AreDone telling held (map f r) tolds a b k m refused) e d)
    (subst (λ (x : List ℕ). Turned (telling held x) b c also) is t) (subst (λ (x : List ℕ). Asks m l (length (telling held x).asks)) is asks)

pub next_cut : {X : Type 0} (f : X → List ℕ) (telling : Telling) (held : Held) (rest after : List X) (n : X) (name : List ℕ) (tolds : List Told)
    (before now : Outside) (mid : Option (List ℕ)) (m : ℕ) (refused : Bool) (s : Stop) → rest ≡ n ∷ after → name ≡ f n
    → AreDone telling held (map f rest) tolds before.out.taken mid before.files.calls m refused
    → IsFileFront (telling held name) mid now.out.taken (Err s) → AsksBy {T = Bool} m now.files.calls (length (telling held name).asks) (Err s)
    → IsFilesFront tolds before now (place_of {T = Bool} (Err s))
next_cut {X} f telling held rest after n name tolds before now mid m refused s e is d t asks =
    one_cut telling held (f n) (map f after) tolds before now mid m refused s
    (subst (λ (r : List X). AreDone telling held (map f r) tolds before.out.taken mid before.files.calls m refused) e d)
    (subst (λ (x : List ℕ). IsFileFront (telling held x) mid now.out.taken (Err s)) is t)
    (subst (λ (x : List ℕ). AsksBy {T = Bool} m now.files.calls (length (telling held x).asks) (Err s)) is asks)

pub end_done : {X : Type 0} (f : X → List ℕ) (telling : Telling) (held : Held) (rest : List X) (tolds : List Told) (before now : Outside) (refused : Bool) → length rest ≡ 0
    → AreDone telling held (map f rest) tolds before.out.taken now.out.taken before.files.calls now.files.calls refused → AreChecked tolds before now refused
end_done {X} f telling held rest tolds before now refused e d =
    all_done telling held tolds before now refused
    (subst (λ (l : List X). AreDone telling held (map f l) tolds before.out.taken now.out.taken before.files.calls now.files.calls refused) (none_left rest e) d)

pub end_front : {X : Type 0} (f : X → List ℕ) (telling : Telling) (held : Held) (rest : List X) (tolds : List Told) (before now : Outside) (refused : Bool) → length rest ≡ 0
    → AreDone telling held (map f rest) tolds before.out.taken now.out.taken before.files.calls now.files.calls refused → IsFilesFront tolds before now at_input
end_front {X} f telling held rest tolds before now refused e d =
    all_front telling held tolds before now refused
    (subst (λ (l : List X). AreDone telling held (map f l) tolds before.out.taken now.out.taken before.files.calls now.files.calls refused) (none_left rest e) d)

-- what stopped the check of a file is handed on
pub handed_on : (tolds : List Told) (before now : Outside) (r : Result Bool Stop) (e : Stop) → IsErrAnd r (λ y. y ≡ e)
    → IsFilesFront tolds before now (place_of {T = Bool} (Err e)) → IsFilesFront tolds before now (place_of r)
handed_on tolds before now (Ok x) e h f = absurd h
handed_on tolds before now (Err y) e h f = subst (λ (s : Stop). IsFilesFront tolds before now (place_of {T = Bool} (Err s))) (sym h) f
