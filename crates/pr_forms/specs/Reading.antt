-- What a reader gives, as a function of the text: the reader looks one token ahead, never goes
-- back, and makes so many steps at most.
use Rattle.std.specs.Prelude.{◌≡◌, ℕ, zero, suc, pred, ◌*◌, ◌-◌, nat_le, Option, Some, None, List, [], ◌∷◌, Bool, true, false, length, if◌then◌else◌}
use Rattle.pr_forms.specs.Form.{Form, token, nothing, pair, either, turns, fold, rule, chosen}
use Rattle.pr_forms.specs.Table.{Table, is_next, empty_of}
use Rattle.pr_forms.specs.Run.{ReaderOutcome, good, bad, left_of}

-- what follows a part, where the part is read whole
abbrev pub then_of : {T V : Type 0} → Option (ReaderOutcome T V) → (V → List T → Option (ReaderOutcome T V)) → Option (ReaderOutcome T V)
then_of None next = None
then_of (Some (bad rest)) next = Some (bad rest)
then_of (Some (good v rest)) next = next v rest

-- a part joined to the value before it
abbrev pub joining : {T V : Type 0} → (V → V → V) → V → V → List T → Option (ReaderOutcome T V)
joining c v w rest = Some (good (c v w) rest)

-- a token, by the value that it has
abbrev pub token_outcome : {T V : Type 0} → Option V → T → List T → ReaderOutcome T V
token_outcome (Some v) t rest = good v rest
token_outcome None t rest = bad (t ∷ rest)

-- the rule that a token has chosen
abbrev pub chosen_outcome : {T N V : Type 0} → (N → Form T N V) → (Form T N V → List T → Option (ReaderOutcome T V)) → Option N → List T → Option (ReaderOutcome T V)
chosen_outcome G again (Some n) ts = again (G n) ts
chosen_outcome G again None ts = Some (bad ts)

-- One step: what the form gives, where `again` is what its parts give.
abbrev pub step : {T N V : Type 0} → (N → Form T N V) → Table T N → (Form T N V → List T → Option (ReaderOutcome T V)) → Form T N V → List T → Option (ReaderOutcome T V)
step G S again (token p) [] = Some (bad [])
step G S again (token p) (t ∷ ts) = Some (token_outcome (p t) t ts)
step G S again (nothing v) ts = Some (good v ts)
step G S again (pair c f g) ts = then_of (again f ts) (λ v mid. then_of (again g mid) (joining c v))
step G S again (either f g) ts = if is_next S f ts then again f ts else again g ts
step G S again (turns c v g) ts = if is_next S g ts then then_of (again g ts) (λ w mid. again (turns c (c v w) g) mid) else Some (good v ts)
step G S again (fold c f g) ts = then_of (again f ts) (λ v mid. again (turns c v g) mid)
step G S again (chosen q m) [] = Some (bad [])
step G S again (chosen q m) (t ∷ ts) = chosen_outcome G again (q t) (t ∷ ts)
step G S again (rule n) ts = again (G n) ts

-- What a reader of the form gives in so many steps, where they are enough.
abbrev pub run_in : {T N V : Type 0} → (N → Form T N V) → Table T N → ℕ → Form T N V → List T → Option (ReaderOutcome T V)
run_in G S zero f ts = None
run_in G S (suc n) f ts = step G S (run_in G S n) f ts

-- the value of a text that is read whole
abbrev pub whole_value : {T V : Type 0} → Option (ReaderOutcome T V) → Option V
whole_value (Some (good v [])) = Some v
whole_value _ = None

-- how many tokens a reader has left
abbrev pub tokens_left : {T V : Type 0} → Option (ReaderOutcome T V) → ℕ
tokens_left (Some o) = length (left_of o)
tokens_left None = 0

-- The value of the text, where it is of the form whole. The limit is how many steps come at most
-- before a token is read.
unfoldable pub reading : {T N V : Type 0} → (N → Form T N V) → Table T N → ℕ → Form T N V → List T → Option V
reading G S limit f ts = whole_value (run_in G S (limit * suc (length ts)) f ts)

-- The first bad place of the text.
unfoldable pub bad_place : {T N V : Type 0} → (N → Form T N V) → Table T N → ℕ → Form T N V → List T → ℕ
bad_place G S limit f ts = length ts - tokens_left (run_in G S (limit * suc (length ts)) f ts)

-- how many steps are left after a part: as before it where it may read nothing
abbrev pub after_part : Bool → ℕ → ℕ → ℕ
after_part true limit steps = steps
after_part false limit steps = limit

-- Within so many steps the form comes to a token or to its end. Each rule has a rank, the steps
-- that it wants; once a token is read, there are as many steps as the limit.
abbrev pub EndsIn : {T N V : Type 0} → Table T N → (N → ℕ) → ℕ → ℕ → Form T N V → Type 0
EndsIn S rank limit zero f = ⊥
EndsIn S rank limit (suc b) (token p) = Unit {0}
EndsIn S rank limit (suc b) (nothing v) = Unit {0}
EndsIn S rank limit (suc b) (pair c f g) = EndsIn S rank limit b f × EndsIn S rank limit (after_part (empty_of S f) limit b) g
EndsIn S rank limit (suc b) (either f g) = EndsIn S rank limit b f × EndsIn S rank limit b g
EndsIn S rank limit (suc b) (turns c v g) = EndsIn S rank limit b g
EndsIn S rank limit (suc b) (fold c f g) = EndsIn S rank limit b f × EndsIn S rank limit (pred (after_part (empty_of S f) limit b)) g
EndsIn {T} {N} S rank limit (suc b) (chosen q m) = (t : T) (n : N) → q t ≡ Some n → (S.empty n ≡ false) × (nat_le (rank n) b ≡ true)
EndsIn S rank limit (suc b) (rule n) = nat_le (rank n) b ≡ true

-- Every rule of the grammar ends within its rank, and each rank is below the limit.
pub record Ends {T N V : Type 0} (G : N → Form T N V) (S : Table T N) (rank : N → ℕ) (limit : ℕ) : Type 0 where
  pub some : nat_le 1 limit ≡ true
  pub below : (n : N) → nat_le (suc (rank n)) limit ≡ true
  pub ends : (n : N) → EndsIn S rank limit (rank n) (G n)
