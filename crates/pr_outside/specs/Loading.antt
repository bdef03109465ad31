-- A list of files that are named, loaded one after another, until one ends it.
use Rattle.std.specs.Prelude.{◌≡◌, ℕ, ◌+◌, nat_lt, Bool, true, false, cond, List, [], ◌∷◌, length, Option, Some, None}
use Rattle.pr_outside.specs.Contents.{file_limit}
use Rattle.pr_outside.specs.Meant.{Content}
use Rattle.pr_outside.specs.Asks.{Asks}
use Rattle.pr_outside.specs.Outside.{Held, AreTold}

-- what a name holds: bytes, no file, or more than the limit
pub data Holding : Type 0 where
  holds : List ℕ → Holding
  is_missing : Holding
  is_too_large : Holding

abbrev pub holding_by : Option (List ℕ) → Holding
holding_by None = is_missing
holding_by (Some bytes) = cond (nat_lt file_limit (length bytes)) is_too_large (holds bytes)

-- What was made of the files so far: the next one is asked for, or no further one.
pub data Made (A : Type 0) : Type 0 where
  goes_on : A → Made A
  stops_at : A → Made A

-- what was made of the files that were asked for, and which these are
pub record Walk (A : Type 0) : Type 0 where
  pub made : A
  pub asks : List (List ℕ)

abbrev pub after_ask : {A : Type 0} → List ℕ → Walk A → Walk A
after_ask file w = record { made = w.made; asks = file ∷ w.asks }

abbrev pub walked : {A : Type 0} → (A → Walk A) → Made A → Walk A
walked later (goes_on a) = later a
walked later (stops_at a) = record { made = a; asks = [] }

-- Each name in turn is asked for, and what it holds is added to what was made so far, until there
-- are no more names or no further one is asked for.
abbrev pub walk : {N A : Type 0} → (N → List ℕ) → (N → A → Holding → Made A) → Held → List N → A → Walk A
walk file make held [] a = record { made = a; asks = [] }
walk file make held (n ∷ names) a = after_ask (file n) (walked (walk file make held names) (make n a (holding_by (held (file n)))))

-- what was made, by whether the next file is asked for
abbrev pub made_by : {A : Type 0} → Bool → A → Made A
made_by true a = goes_on a
made_by false a = stops_at a

-- Where a walk over names stands: so many files were asked for, and what is to be made of the rest
-- is what is to be made of all.
pub record Stands {N A : Type 0} (file : N → List ℕ) (make : N → A → Holding → Made A) (held : Held) (names rest : List N) (first now : A) (content : Content) (before calls : ℕ) : Type 0 where
  pub done : ℕ
  pub asked : Asks before calls done
  pub made : (walk file make held names first).made ≡ (walk file make held rest now).made
  pub count : length (walk file make held names first).asks ≡ done + length (walk file make held rest now).asks
  pub told : AreTold content held (walk file make held rest now).asks

-- All but so many of the files were asked for.
pub record AreAsked (before now all rest : ℕ) : Type 0 where
  pub done : ℕ
  pub asked : Asks before now done
  pub count : done + rest ≡ all
