-- What the reading of a span says of the whole text.
use Rattle.std.proofs.Common.{◌≡◌, ℕ, ◌-◌, ◌<◌, ◌≤◌, ◌^◌, List, [], Option, Some, None, Result, Bool, false, length, refl, ap, sym, ◌∙◌, subst, arith, inl, inr}
use Rattle.std.proofs.lemmas.Bool.{cases_lt}
use Rattle.std.proofs.lemmas.Result.{MatchResult-weaker}
use Rattle.std.specs.Prelude.{MatchResult, IfOk, SomeIff, ◌==◌, ◌⊎◌}
use Rattle.std.specs.Option.{ok_or}
use Rattle.pr_forms.specs.Form.{rule, Reads}
use Rattle.pr_forms.specs.Run.{bad}
use Rattle.pr_forms.proofs.Public.{read_whole, only_value, not_whole, no_reading, rest_place, bad_place, end_place, left_short}
use Rattle.pr_time.specs.declared.text.SpanFault.{SpanFault}
use Rattle.pr_time.specs.declared.text.SpanFault.TheVariants.{BadSpan, SpanTooLong}
use Rattle.pr_time.specs.SpanText.{production, letter_of, seen, Text, SpanValue, span, ReadsSpan, IsBadPlace, Refuses, IsTooLong}
use Rattle.pr_forms.specs.Language.{Gives}
use Rattle.pr_time.specs.private.SpanReader.{spans, MeasuresSpan, kept}
use Rattle.pr_time.proofs.SpanTable.{known}
use Rattle.pr_time.specs.SpanTable.{table}

-- the span, where it is not too long
limited : (o : Option ℕ) (ms exact : ℕ) (r : Result ℕ SpanFault) → SomeIff o (ms ≤ 2 ^ 40) ms → r ≡ ok_or o SpanTooLong → ms ≡ kept exact →
    MatchResult r (λ s. s ≡ exact) (λ e. (e ≡ SpanTooLong) × (2 ^ 40 < exact))
limited None ms exact r h e k = rw e (refl, above (cases_lt (2 ^ 40) ms))
  where
    above : (2 ^ 40 < ms) ⊎ (ms ≤ 2 ^ 40) → 2 ^ 40 < exact
    above (inl lt) = omega (arith, k)
    above (inr le) = absurd (h le)
limited (Some x) ms exact r h e k = rw e (let is : x ≡ ms = h.1 in let le : ms ≤ 2 ^ 40 = h.0 in omega (arith, k))

too_long : (v : SpanValue) (exact : ℕ) (e : SpanFault) → span exact ≡ v → (e ≡ SpanTooLong) × (2 ^ 40 < exact) → IsTooLong v e
too_long v exact e h k = subst (λ x. IsTooLong v x) (sym k.0) (subst (λ x. IsTooLong x SpanTooLong) h k.1)

span_same : (v : SpanValue) (exact s : ℕ) → span exact ≡ v → s ≡ exact → v ≡ span s
span_same v exact s h k = sym h ∙ ap span (sym k)

module _ (text rest : List ℕ) (ms : ℕ) (m : MeasuresSpan (rule Text) text ms rest) where
  pub ok_span : (o : Option ℕ) (r : Result ℕ SpanFault) → length rest ≡ 0 → SomeIff o (ms ≤ 2 ^ 40) ms → r ≡ ok_or o SpanTooLong → IfOk r (ReadsSpan text)
  ok_span o r none h e = MatchResult-weaker r (limited o ms m.exact r h e m.is_kept)
      (λ s k. subst (λ x. ReadsSpan text x) (sym k) (read_whole letter_of production table known Text text rest (span m.exact) m.gives none)) (λ x k. tt)

  pub ok_only : (o : Option ℕ) (r : Result ℕ SpanFault) → SomeIff o (ms ≤ 2 ^ 40) ms → r ≡ ok_or o SpanTooLong →
      (v : SpanValue) → Reads production (rule Text) (seen text) v [] → MatchResult r (λ s. v ≡ span s) (IsTooLong v)
  ok_only o r h e v d = let is = only_value letter_of production table known Text text rest (span m.exact) v m.gives d in
      MatchResult-weaker r (limited o ms m.exact r h e m.is_kept) (λ s k. span_same v m.exact s is k) (λ x k. too_long v m.exact x is k)

  pub ok_place : (o : Option ℕ) (r : Result ℕ SpanFault) → length rest ≡ 0 → SomeIff o (ms ≤ 2 ^ 40) ms → r ≡ ok_or o SpanTooLong →
      MatchResult r (λ s. IsBadPlace text (length text)) (Refuses text)
  ok_place o r none h e = MatchResult-weaker r (limited o ms m.exact r h e m.is_kept)
      (λ s k. end_place letter_of production table known Text text rest (span m.exact) m.gives none)
      (λ x k. subst (λ y. Refuses text y) (sym k.0) (m.exact, read_whole letter_of production table known Text text rest (span m.exact) m.gives none, k.1))

  pub some_left : (v : SpanValue) (b : Bool) (place : ℕ) → b ≡ (length rest == 0) → b ≡ false → Reads production (rule Text) (seen text) v [] → IsTooLong v (BadSpan place)
  some_left v b place e h d = absurd (not_whole letter_of production table known Text text rest (span m.exact) v b m.gives e h d)

  pub left_place : IsBadPlace text (length text - length rest)
  left_place = rest_place letter_of production table known Text text rest (span m.exact) m.gives

  pub left_is_short : length rest ≤ length text
  left_is_short = left_short letter_of production table known Text text rest _ m.gives refl

module _ (text rest : List ℕ) (q : Gives spans (rule Text) text (bad (seen rest))) where
  pub none_read : (v : SpanValue) (place : ℕ) → Reads production (rule Text) (seen text) v [] → IsTooLong v (BadSpan place)
  none_read v place d = absurd (no_reading letter_of production table known Text text rest v q d)

  pub none_place : IsBadPlace text (length text - length rest)
  none_place = bad_place letter_of production table known Text text rest q

  pub bad_is_short : length rest ≤ length text
  bad_is_short = left_short letter_of production table known Text text rest _ q refl
