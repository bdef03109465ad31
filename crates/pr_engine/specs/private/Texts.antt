-- Which texts of series are remembered. Private contracts cite this: a reader can pass it over.
use Rattle.std.specs.Prelude.{◌≡◌, ℕ, ◌≤◌, List, length, slice_get, IfSome}
use Rattle.pr_labels.specs.declared.pair.Pair.{Pair}
use Rattle.pr_labels.specs.SeriesText.{series_text}

-- label sets, each with a text
abbrev pub Texts : Type 0
Texts = List (List Pair × List ℕ)

-- this holds of each label set and its text
abbrev pub HoldsOfEach : (List Pair → List ℕ → Type 0) → Texts → Type 0
HoldsOfEach Holds texts = (at : ℕ) → IfSome (slice_get texts at) (λ e. Holds e.0 e.1)

-- each text is the printed one of its label set
abbrev pub AreSeriesTexts : Texts → Type 0
AreSeriesTexts = HoldsOfEach (λ labels text. text ≡ series_text labels)

-- no text is too long
abbrev pub AreShortTexts : Texts → Type 0
AreShortTexts = HoldsOfEach (λ _ text. length text ≤ 1024)

-- Both, and there are not too many of them: at most 65,536 texts of at most 1,024 bytes, so that what is remembered stays bounded. (Own
-- choice.)
pub record AreFewTexts (texts : Texts) : Type 0 where
  pub printed : AreSeriesTexts texts
  pub short : AreShortTexts texts
  pub few : length texts ≤ 65536
