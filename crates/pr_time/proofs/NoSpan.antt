-- No span text begins with a number of milliseconds and a digit: no unit is left for it.
use Rattle.std.proofs.Common.{◌≡◌, ℕ, List, [], ◌∷◌, ◌++◌, refl}
use Rattle.std.specs.Prelude.{codes}
use Rattle.pr_forms.specs.Form.{Reads, rule, is_token, is_nothing, is_pair, is_left, is_right, is_stop, is_turn, is_fold, is_rule}
use Rattle.pr_time.specs.declared.text.Letter.{Letter}
use Rattle.pr_time.specs.declared.text.Letter.TheVariants.{Digit, M, S}
use Rattle.pr_time.specs.declared.text.Unit.TheVariants.{Year, Week, Day, Hour, Minute, Millisecond}
use Rattle.pr_time.specs.SpanText.{production, Text, After, From, AfterM, SpanValue, ReadsSpan}

after_milliseconds : {ts : List Letter} {v : SpanValue} → Reads production (rule (After Millisecond)) ts v [] → ts ≡ []
after_milliseconds (is_rule (is_left (is_pair d (is_rule (is_token e))))) = cc
after_milliseconds (is_rule (is_right is_nothing)) = refl

after_minutes : {ts : List Letter} {v : SpanValue} → Reads production (rule (After Minute)) (S ∷ ts) v [] → ⊥
after_minutes (is_rule (is_left (is_pair (is_fold (is_token e) f) d))) = cc
after_minutes (is_rule (is_right d)) = elim d [ ]

after_m : {ts : List Letter} {v : SpanValue} (n : ℕ) → Reads production (rule AfterM) (S ∷ Digit n ∷ ts) v [] → ⊥
after_m n (is_rule (is_left (is_pair (is_token e) d))) = let h = after_milliseconds d in cc
after_m n (is_rule (is_right (is_pair is_nothing d))) = after_minutes d

from_minute : {ts : List Letter} {v : SpanValue} (n : ℕ) → Reads production (rule (From Minute)) (M ∷ S ∷ Digit n ∷ ts) v [] → ⊥
from_minute n (is_rule (is_left (is_pair (is_token e) d))) = after_m n d
from_minute n (is_rule (is_right (is_pair (is_token e) d))) = cc

from_hour : {ts : List Letter} {v : SpanValue} (n : ℕ) → Reads production (rule (From Hour)) (M ∷ S ∷ Digit n ∷ ts) v [] → ⊥
from_hour n (is_rule (is_left (is_pair (is_token e) d))) = cc
from_hour n (is_rule (is_right d)) = from_minute n d

from_day : {ts : List Letter} {v : SpanValue} (n : ℕ) → Reads production (rule (From Day)) (M ∷ S ∷ Digit n ∷ ts) v [] → ⊥
from_day n (is_rule (is_left (is_pair (is_token e) d))) = cc
from_day n (is_rule (is_right d)) = from_hour n d

from_week : {ts : List Letter} {v : SpanValue} (n : ℕ) → Reads production (rule (From Week)) (M ∷ S ∷ Digit n ∷ ts) v [] → ⊥
from_week n (is_rule (is_left (is_pair (is_token e) d))) = cc
from_week n (is_rule (is_right d)) = from_day n d

from_year : {ts : List Letter} {v : SpanValue} (n : ℕ) → Reads production (rule (From Year)) (M ∷ S ∷ Digit n ∷ ts) v [] → ⊥
from_year n (is_rule (is_left (is_pair (is_token e) d))) = cc
from_year n (is_rule (is_right d)) = from_week n d

whole : {ts : List Letter} {v : SpanValue} → Reads production (rule Text) (Digit 5 ∷ M ∷ S ∷ Digit 5 ∷ ts) v [] → ⊥
whole (is_rule (is_left (is_pair (is_token e) d))) = cc
whole (is_rule (is_right (is_pair (is_fold (is_token e) is_stop) d))) = from_year 5 d
whole (is_rule (is_right (is_pair (is_fold (is_token e) (is_turn (is_token f) g)) d))) = cc

pub no_span : (rest : List ℕ) (ms : ℕ) → ReadsSpan (codes "5ms5" ++ rest) ms → ⊥
no_span rest ms d = whole d
