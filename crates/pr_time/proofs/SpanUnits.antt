-- A unit at the front of a span text: which rules it goes through.
use Rattle.std.proofs.Common.{◌≡◌, List, [], ◌∷◌, Option, Some, None, false, refl, sym, subst, inl, inr}
use Rattle.std.specs.Prelude.{MatchOption, ◌⊎◌}
use Rattle.pr_forms.specs.Form.{Form, pair, either, rule}
use Rattle.pr_forms.specs.Table.{is_next}
use Rattle.pr_forms.specs.Run.{Runs, Takes, Lacks, ReaderOutcome, good, bad, run_rule, run_left, run_right, run_pair, run_first, run_second, run_token, run_other, run_end, run_nothing}
use Rattle.pr_forms.proofs.Ways.{take_side, take_side_bad, other_side}
use Rattle.pr_time.specs.declared.text.Letter.{Letter}
use Rattle.pr_time.specs.declared.text.Letter.TheVariants.{Y, W, D, H, M, S}
use Rattle.pr_time.specs.declared.text.Unit.{Unit as TimeUnit}
use Rattle.pr_time.specs.declared.text.Unit.TheVariants.{Year, Week, Day, Hour, Minute, Second, Millisecond}
use Rattle.pr_time.specs.SpanText.{production, Rule, After, From, SpanValue, unit, ms_of, scaled, span, followed}
use Rattle.pr_forms.specs.Carries.{Carries}
use Rattle.pr_time.specs.private.SpanReader.{unit_left}
use Rattle.pr_time.specs.SpanTable.{table}

-- After the unit there come the parts after it, in letters.
abbrev pub EntersAt : TimeUnit → List Letter → TimeUnit → List Letter → Type 0
EntersAt greatest ts unit rest = Carries production table (rule (From greatest)) ts (scaled (ms_of unit)) (rule (After unit)) rest span

-- no unit at the end
end_millisecond : Runs production table (rule (From Millisecond)) [] (bad [])
end_millisecond = run_rule (run_first run_end)

end_second : Runs production table (rule (From Second)) [] (bad [])
end_second = run_rule (run_right refl end_millisecond)

end_minute : Runs production table (rule (From Minute)) [] (bad [])
end_minute = run_rule (run_right refl (run_first run_end))

end_hour : Runs production table (rule (From Hour)) [] (bad [])
end_hour = run_rule (run_right refl end_minute)

end_day : Runs production table (rule (From Day)) [] (bad [])
end_day = run_rule (run_right refl end_hour)

end_week : Runs production table (rule (From Week)) [] (bad [])
end_week = run_rule (run_right refl end_day)

end_year : Runs production table (rule (From Year)) [] (bad [])
end_year = run_rule (run_right refl end_week)

pub from_end : (greatest : TimeUnit) → Runs production table (rule (From greatest)) [] (bad [])
from_end Year = end_year
from_end Week = end_week
from_end Day = end_day
from_end Hour = end_hour
from_end Minute = end_minute
from_end Second = end_second
from_end Millisecond = end_millisecond

-- what the next letter gives: no unit, or one with the parts after it
abbrev pub Chosen : TimeUnit → List Letter → Option TimeUnit → List Letter → Type 0
Chosen greatest ts o rest = MatchOption o (Runs production table (rule (From greatest)) ts (bad ts)) (λ u. EntersAt greatest ts u rest)

-- the rule of a unit goes on to the one of smaller units
lift : (u v : TimeUnit) (f : Form Letter Rule SpanValue) (ts rest : List Letter) (o : Option TimeUnit) → production (From u) ≡ either f (rule (From v)) → is_next table f ts ≡ false →
    Chosen v ts o rest → Chosen u ts o rest
lift u v f ts rest None e n h = run_rule (subst (λ x. Runs production table x ts (bad ts)) (sym e) (run_right n h))
lift u v f ts rest (Some x) e n h = record {
  reads = λ ms end k. run_rule (subst (λ z. Runs production table z ts (good (scaled (ms_of x) ms) end)) (sym e) (run_right n (h.reads ms end k)));
  fails = λ end k. run_rule (subst (λ z. Runs production table z ts (bad end)) (sym e) (run_right n (h.fails end k)));
}

from_millisecond : (t : Letter) (rest : List Letter) → (t ≡ M → ⊥) → Chosen Millisecond (t ∷ rest) (unit_left Millisecond t) rest
from_millisecond M rest other = absurd (other refl)
from_millisecond t rest other = run_rule (run_first (run_other refl))

from_second : (t : Letter) (rest : List Letter) → (t ≡ M → ⊥) → Chosen Second (t ∷ rest) (unit_left Second t) rest
from_second M rest other = absurd (other refl)
from_second S rest other = record { reads = λ ms end h. run_rule (run_left refl (run_pair (run_token refl) h)); fails = λ end h. run_rule (run_left refl (run_second (run_token refl) h)) }
from_second t rest other = lift Second Millisecond (pair followed (unit Second) (rule (After Second))) (t ∷ rest) rest (unit_left Millisecond t) refl refl (from_millisecond t rest other)

from_minute : (t : Letter) (rest : List Letter) → (t ≡ M → ⊥) → Chosen Minute (t ∷ rest) (unit_left Minute t) rest
from_minute M rest other = absurd (other refl)
from_minute S rest other = record { reads = λ ms end h. run_rule (run_right refl (run_pair (run_token refl) h)); fails = λ end h. run_rule (run_right refl (run_second (run_token refl) h)) }
from_minute t rest other = run_rule (run_right refl (run_first (run_other refl)))

from_hour : (t : Letter) (rest : List Letter) → (t ≡ M → ⊥) → Chosen Hour (t ∷ rest) (unit_left Hour t) rest
from_hour M rest other = absurd (other refl)
from_hour H rest other = record { reads = λ ms end h. run_rule (run_left refl (run_pair (run_token refl) h)); fails = λ end h. run_rule (run_left refl (run_second (run_token refl) h)) }
from_hour t rest other = lift Hour Minute (pair followed (unit Hour) (rule (After Hour))) (t ∷ rest) rest (unit_left Minute t) refl refl (from_minute t rest other)

from_day : (t : Letter) (rest : List Letter) → (t ≡ M → ⊥) → Chosen Day (t ∷ rest) (unit_left Day t) rest
from_day M rest other = absurd (other refl)
from_day D rest other = record { reads = λ ms end h. run_rule (run_left refl (run_pair (run_token refl) h)); fails = λ end h. run_rule (run_left refl (run_second (run_token refl) h)) }
from_day t rest other = lift Day Hour (pair followed (unit Day) (rule (After Day))) (t ∷ rest) rest (unit_left Hour t) refl refl (from_hour t rest other)

from_week : (t : Letter) (rest : List Letter) → (t ≡ M → ⊥) → Chosen Week (t ∷ rest) (unit_left Week t) rest
from_week M rest other = absurd (other refl)
from_week W rest other = record { reads = λ ms end h. run_rule (run_left refl (run_pair (run_token refl) h)); fails = λ end h. run_rule (run_left refl (run_second (run_token refl) h)) }
from_week t rest other = lift Week Day (pair followed (unit Week) (rule (After Week))) (t ∷ rest) rest (unit_left Day t) refl refl (from_day t rest other)

from_year : (t : Letter) (rest : List Letter) → (t ≡ M → ⊥) → Chosen Year (t ∷ rest) (unit_left Year t) rest
from_year M rest other = absurd (other refl)
from_year Y rest other = record { reads = λ ms end h. run_rule (run_left refl (run_pair (run_token refl) h)); fails = λ end h. run_rule (run_left refl (run_second (run_token refl) h)) }
from_year t rest other = lift Year Week (pair followed (unit Year) (rule (After Year))) (t ∷ rest) rest (unit_left Week t) refl refl (from_week t rest other)

pub units : (greatest : TimeUnit) (t : Letter) (rest : List Letter) → (t ≡ M → ⊥) → Chosen greatest (t ∷ rest) (unit_left greatest t) rest
units Year t rest other = from_year t rest other
units Week t rest other = from_week t rest other
units Day t rest other = from_day t rest other
units Hour t rest other = from_hour t rest other
units Minute t rest other = from_minute t rest other
units Second t rest other = from_second t rest other
units Millisecond t rest other = from_millisecond t rest other

pub unit_some : (greatest u : TimeUnit) (t : Letter) (ts rest : List Letter) → ts ≡ t ∷ rest → (t ≡ M → ⊥) → unit_left greatest t ≡ Some u → EntersAt greatest ts u rest
unit_some greatest u t ts rest e other h = rw e (subst (λ o. Chosen greatest (t ∷ rest) o rest) h (units greatest t rest other))

pub unit_none : (greatest : TimeUnit) (t : Letter) (ts rest : List Letter) → ts ≡ t ∷ rest → (t ≡ M → ⊥) → unit_left greatest t ≡ None → Runs production table (rule (From greatest)) ts (bad ts)
unit_none greatest t ts rest e other h = rw e (subst (λ o. Chosen greatest (t ∷ rest) o rest) h (units greatest t rest other))

-- after an m, from minutes on
pub many_m : (greatest : TimeUnit) (rest : List Letter) (o : ReaderOutcome Letter SpanValue) → (greatest ≡ Second → ⊥) → (greatest ≡ Millisecond → ⊥) →
    Runs production table (rule (From Minute)) (M ∷ rest) o → Runs production table (rule (From greatest)) (M ∷ rest) o
many_m Second rest o a b h = absurd (a refl)
many_m Millisecond rest o a b h = absurd (b refl)
many_m Minute rest o a b h = h
many_m Hour rest o a b h = run_rule (run_right refl h)
many_m Day rest o a b h = run_rule (run_right refl (run_rule (run_right refl h)))
many_m Week rest o a b h = run_rule (run_right refl (run_rule (run_right refl (run_rule (run_right refl h)))))
many_m Year rest o a b h = run_rule (run_right refl (run_rule (run_right refl (run_rule (run_right refl (run_rule (run_right refl h)))))))

-- minutes
pub minutes : (greatest : TimeUnit) (rest : List Letter) → (greatest ≡ Second → ⊥) → (greatest ≡ Millisecond → ⊥) → Lacks production table (unit Millisecond) rest → EntersAt greatest (M ∷ rest) Minute rest
minutes greatest rest a b l = record {
  reads = λ ms end h. many_m greatest rest _ a b (run_rule (run_left refl (run_pair (run_token refl) (run_rule (other_side l (run_pair run_nothing h))))));
  fails = λ end h. many_m greatest rest _ a b (run_rule (run_left refl (run_second (run_token refl) (run_rule (other_side l (run_second run_nothing h))))));
}

-- milliseconds, in an m or alone
small_m : (rest : List Letter) (o : ReaderOutcome Letter SpanValue) → Runs production table (pair followed (unit Millisecond) (rule (After Millisecond))) rest o → (greatest : TimeUnit) →
    Runs production table (rule (From Minute)) (M ∷ rest) o → Runs production table (rule (From Millisecond)) (M ∷ rest) o → Runs production table (rule (From greatest)) (M ∷ rest) o
small_m rest o g Millisecond h k = k
small_m rest o g Second h k = run_rule (run_right refl k)
small_m rest o g Minute h k = many_m Minute rest o (λ e. cc) (λ e. cc) h
small_m rest o g Hour h k = many_m Hour rest o (λ e. cc) (λ e. cc) h
small_m rest o g Day h k = many_m Day rest o (λ e. cc) (λ e. cc) h
small_m rest o g Week h k = many_m Week rest o (λ e. cc) (λ e. cc) h
small_m rest o g Year h k = many_m Year rest o (λ e. cc) (λ e. cc) h

pub milliseconds : (greatest : TimeUnit) (ts rest : List Letter) → Takes production table (unit Millisecond) ts (scaled 1 0) rest → EntersAt greatest (M ∷ ts) Millisecond rest
milliseconds greatest ts rest x = record {
  reads = λ ms end h. small_m ts _ (run_pair x.gives h) greatest (run_rule (run_left refl (run_pair (run_token refl) (run_rule (take_side x h))))) (run_rule (run_pair (run_token refl) (run_pair x.gives h)));
  fails = λ end h. small_m ts _ (run_second x.gives h) greatest (run_rule (run_left refl (run_second (run_token refl) (run_rule (take_side_bad x h))))) (run_rule (run_second (run_token refl) (run_second x.gives h)));
}

-- an m with no s after it, where only milliseconds are left
pub no_s : (greatest : TimeUnit) (ts : List Letter) → Lacks production table (unit Millisecond) ts → Runs production table (rule (From Millisecond)) (M ∷ ts) (bad ts)
no_s greatest ts l = run_rule (run_second (run_token refl) (run_first l.gives))

pub no_s_second : (ts : List Letter) → Lacks production table (unit Millisecond) ts → Runs production table (rule (From Second)) (M ∷ ts) (bad ts)
no_s_second ts l = run_rule (run_right refl (no_s Second ts l))

pub no_minutes : (greatest : TimeUnit) (ts : List Letter) → (greatest ≡ Second) ⊎ (greatest ≡ Millisecond) → Lacks production table (unit Millisecond) ts → Runs production table (rule (From greatest)) (M ∷ ts) (bad ts)
no_minutes greatest ts (inl e) l = rw e (no_s_second ts l)
no_minutes greatest ts (inr e) l = rw e (no_s Millisecond ts l)
