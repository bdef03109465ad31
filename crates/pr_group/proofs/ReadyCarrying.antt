-- What goes on at a reload asks as before.
use Rattle.std.proofs.Common.{◌≡◌, ℕ, ◌≤◌, ◌+◌, pos, ◌-ℤ◌, Bool, true, false, ◌&&◌, [], slice_get, Option, Some, None, refl, sym, ap, ◌∙◌, arith}
use Rattle.std.specs.Prelude.{option_and_then}
use Rattle.std.specs.Str.{bytes_eq}
use Rattle.std.proofs.lemmas.Slice.Eq.{bytes_eq-Decides}
use Rattle.pr_ast.specs.declared.names.Func.{Func}
use Rattle.pr_ast.specs.Names.{func_of, func_text, funcs, is_func}
use Rattle.pr_ast.specs.Tree.{Tree}
use Rattle.pr_ast.proofs.NameLaws.{func_read}
use Rattle.pr_rule.specs.pr_types.private.Checking.{MayEvaluate}
use Rattle.pr_rule.specs.pr_types.Typed.{kept}
use Rattle.pr_rule.specs.pr_range.private.Asks.{LastAsk, LastAsks, Passed}
use Rattle.pr_rule.specs.pr_range.private.Carried.{IsCarried, named_in, older_of}
use Rattle.pr_rule.specs.spec_rules.private.Carried.{RangeUse, carried_numbers, func_name, range_uses, same_use}
use Rattle.pr_group.proofs.Once.{Takes, takes}
use Rattle.pr_group.proofs.Ranges.{ranges_same}
use Rattle.pr_rule.specs.pr_eval.private.Asking.{asked_for}
use Rattle.pr_group.specs.private.Asked.{RangeSelector, WasAsked, WasAskedUntil, ask_of, range_selectors}
use Rattle.pr_group.proofs.Lists.{some_same}
use Rattle.pr_group.proofs.Uses.{IsUseOf, asked_under, selector_of_use, whole_uses}

-- one name is that of one function
nameless : func_of [] ≡ None
unfolding func_of funcs is_func func_text
nameless = refl

no_name : (f : Func) → func_text f ≡ [] → ⊥
no_name f e = absurd (cc (func_read f, ap func_of e, nameless))

same_func : (f g : Option Func) → func_name f ≡ func_name g → asked_under f ≡ asked_under g
same_func None None e = refl
same_func None (Some g) e = absurd (no_name g (sym e))
same_func (Some f) None e = absurd (no_name f e)
same_func (Some f) (Some g) e = ap asked_for (some_same f g (sym (func_read f) ∙ ap func_of e ∙ func_read g))

both_true : (a b : Bool) → (a && b) ≡ true → (a ≡ true) × (b ≡ true)
both_true true b h = (refl, h)
both_true false b h = absurd (cc)

-- uses that are the same ask the same
asks_same : (a b : RangeUse) (r s : RangeSelector) (time : ℕ) → same_use a b ≡ true → IsUseOf kept a r → IsUseOf kept b s → ask_of s time ≡ ask_of r time
asks_same a b r s time h u w =
    let both = both_true (bytes_eq a.printed b.printed) (bytes_eq (func_name a.func) (func_name b.func)) h in
    let printed : a.printed ≡ b.printed = (bytes_eq-Decides a.printed b.printed).0 both.0 in
    let names : func_name a.func ≡ func_name b.func = (bytes_eq-Decides (func_name a.func) (func_name b.func)).0 both.1 in
    let func : s.func ≡ r.func = w.func ∙ sym (same_func a.func b.func names) ∙ sym u.func in
    let first : r.selector.offset + r.span ≤ kept = u.back in
    let second : s.selector.offset + s.span ≤ kept = w.back in
    let ranges = ranges_same s.selector r.selector s.span r.span (omega arith) (omega arith) (omega arith) (omega arith) (sym w.printed ∙ sym printed ∙ u.printed) in
    λ i. record { func = func i; from = (pos time -ℤ pos (ranges.1 i)) -ℤ pos (ranges.0 i); to = pos time -ℤ pos (ranges.1 i) }

older_named : (o : Option (Option ℕ)) (j : ℕ) → named_in o ≡ Some j → o ≡ Some (Some j)
older_named None j h = absurd (cc)
older_named (Some c) j h = ap Some h

pub asks_carried : (new old : Tree) (until : Option ℕ) (last last' : LastAsks) (passed passed' : Passed) → MayEvaluate new → MayEvaluate old → IsCarried (carried_numbers new old) last last' passed passed'
    → WasAsked last old until → WasAsked last' new until
asks_carried new old None last last' passed passed' m n carried was = λ k s. carried.asks k s ∙ by (older_of (carried_numbers new old) k) s where
  by : (o : Option ℕ) (s : ℕ) → option_and_then (λ j. last j s) o ≡ None
  by None s = refl
  by (Some j) s = was j s
asks_carried new old (Some until) last last' passed passed' m n carried was = λ k s b at. by k s b (older_of (carried_numbers new old) k) refl (sym (carried.asks k s) ∙ at) where
  own : (k j : ℕ) (b : LastAsk) → Takes same_use (range_uses new) (range_uses old) k j → WasAskedUntil until old j b → WasAskedUntil until new k b
  own k j b taken before =
      let here = selector_of_use kept (range_uses new) (range_selectors new) k taken.new (whole_uses new m) taken.new_is in
      let there = selector_of_use kept (range_uses old) (range_selectors old) j taken.old (whole_uses old n) taken.old_is in
      let same : before.selector ≡ there.selector = some_same before.selector there.selector (sym before.named ∙ there.named) in
      record {
        time = before.time;
        early = before.early;
        selector = here.selector;
        named = here.named;
        asked = before.asked ∙ ap (λ r. ask_of r before.time) same ∙ asks_same taken.new taken.old here.selector there.selector before.time taken.alike here.is there.is;
      }

  by : (k s : ℕ) (b : LastAsk) (o : Option ℕ) → older_of (carried_numbers new old) k ≡ o → option_and_then (λ j. last j s) o ≡ Some b → WasAskedUntil until new k b
  by k s b None e at = absurd (cc)
  by k s b (Some j) e at = own k j b (takes same_use (range_uses new) (range_uses old) k j (older_named (slice_get (carried_numbers new old) k) j e)) (was j s b at)
