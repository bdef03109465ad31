-- What a check promises, by how it ended.
use Rattle.std.proofs.Common.{◌≡◌, ◌≢◌, ℕ, ◌+◌, ◌<◌, ◌≤◌, ◌^◌, Bool, List, [], Some, IfSome, Result, Ok, Err, IfOk, inl, inr, ap, ◌∙◌, length, take, arith}
use Rattle.std.specs.Io.KnownBytes.{Appends}
use Rattle.pr_outside.specs.Ends.{Ends, AtInput, KnowsLength, no_row, place_of, status_of, stop_status}
use Rattle.pr_outside.specs.Outside.{Outside, AreCalm, Held, AreTold}
use Rattle.pr_outside.specs.Status.{IsTooLong, verdict}
use Rattle.pr_outside.specs.declared.status.status.Status.{Status}
use Rattle.pr_outside.specs.declared.status.status.Status.TheVariants as status
use Rattle.pr_outside.specs.declared.status.status.Stop.{Stop}
use Rattle.pr_outside.specs.Checks.{Checked, ends, ends_by}
use Rattle.pr_outside.specs.FileChecks.{Telling, MeansFileCheck, IsFilesFront, AreChecked, all_told, all_asks, any_refused, texts}
use Rattle.pr_outside.specs.InputChecks.{MeansInputCheck, IsWholeCheck}
use Rattle.pr_outside.specs.declared.check_loops.verdict.Verdict.{Verdict}
use Rattle.pr_outside.proofs.Ended.{calm_stop}
use Rattle.pr_outside.proofs.Telling.{at_told, long_not_short, on_told, status_is}

abbrev Whole : (List ℕ → Checked) → Outside → Outside → Verdict → Type 0
Whole telling before now v =
    IfSome before.input.left (λ bytes. Appends before.out.taken now.out.taken (telling bytes).text × (v ≡ (telling bytes).verdict) × (now.input.left ≡ Some []))

whole_told : (telling : List ℕ → Checked) (before now : Outside) (r : Result Verdict Stop) → IfOk r (Whole telling before now)
    → IfOk r (λ v. IfSome before.input.left (λ bytes. IsWholeCheck (telling bytes) now.input.left before.out.taken now.out.taken v))
whole_told telling before now (Err e) w = tt
whole_told telling before now (Ok v) w =
    on_told before.input.left (λ bytes. IsWholeCheck (telling bytes) now.input.left before.out.taken now.out.taken v) (λ bytes is.
    let at = at_told before.input.left (λ b. Appends before.out.taken now.out.taken (telling b).text × (v ≡ (telling b).verdict) × (now.input.left ≡ Some [])) bytes is w in
    record { written = at.0; verdict = at.1; read = at.2 })

pub means_input : (telling : List ℕ → Checked) (before now : Outside) (r : Result Verdict Stop) (result : Status) → result ≡ ends_by r
    → Ends no_row (IsTooLong before.input now.input) before now r → IfOk r (Whole telling before now)
    → IfSome before.input.left (λ bytes. (n : ℕ) × Appends before.out.taken now.out.taken (take n (telling bytes).text))
    → AtInput r (Appends before.out.taken now.out.taken []) → KnowsLength before.input now.input r
    → now.input.taken < before.input.taken + 2 ^ 32 + 2 ^ 14 → MeansInputCheck telling before now result
means_input telling before now r result is e w f s k m = record {
  ending = r;
  answer = is;
  ends = e;
  whole = whole_told telling before now r w;
  front = f;
  silent = s;
  most = m;
  known = k;
  told = on_told before.input.left (λ bytes. length bytes < 2 ^ 32 → AreCalm before now → result ≢ status.Memory
      → Appends before.out.taken now.out.taken (telling bytes).text × (result ≡ ends (telling bytes).verdict) × (now.input.left ≡ Some []))
      (λ bytes at few calm some. told_by r is e w bytes at few calm some);
  long = on_told before.input.left (λ bytes. 2 ^ 32 ≤ length bytes → AreCalm before now → result ≢ status.Memory → result ≡ status.TooLong)
      (λ bytes at many calm some. long_by r is e k bytes at many calm some);
}
  where
    told_by : (r : Result Verdict Stop) → result ≡ ends_by r → Ends no_row (IsTooLong before.input now.input) before now r → IfOk r (Whole telling before now)
        → (bytes : List ℕ) → before.input.left ≡ Some bytes → length bytes < 2 ^ 32 → AreCalm before now → result ≢ status.Memory
        → Appends before.out.taken now.out.taken (telling bytes).text × (result ≡ ends (telling bytes).verdict) × (now.input.left ≡ Some [])
    told_by (Ok v) is e w bytes at few calm some =
        let whole = at_told before.input.left (λ b. Appends before.out.taken now.out.taken (telling b).text × (v ≡ (telling b).verdict) × (now.input.left ≡ Some [])) bytes at w in
        (whole.0, is ∙ ap ends whole.1, whole.2)
    told_by (Err s) is e w bytes at few calm some = elim (calm_stop Verdict (IsTooLong before.input now.input) before now s calm e.cause) [
      | inl m ↦ absurd (some (is ∙ ap stop_status m))
      | inr l ↦ absurd (long_not_short bytes before.input.left at few l.1.0)
    ]

    long_by : (r : Result Verdict Stop) → result ≡ ends_by r → Ends no_row (IsTooLong before.input now.input) before now r → KnowsLength before.input now.input r
        → (bytes : List ℕ) → before.input.left ≡ Some bytes → 2 ^ 32 ≤ length bytes → AreCalm before now → result ≢ status.Memory → result ≡ status.TooLong
    long_by (Ok v) is e k bytes at many calm some = absurd (omega (arith, many, at_told before.input.left (λ b. length b < 2 ^ 32) bytes at k.0))
    long_by (Err s) is e k bytes at many calm some = elim (calm_stop Verdict (IsTooLong before.input now.input) before now s calm e.cause) [
      | inl m ↦ absurd (some (is ∙ ap stop_status m))
      | inr l ↦ is ∙ ap stop_status l.0
    ]

pub means_files : (telling : Telling) (names : List (List ℕ)) (before now : Outside) (r : Result Bool Stop) (result : Status) → result ≡ status_of r → Ends no_row ⊥ before now r
    → ((held : Held) → AreTold before.files.content held (all_asks (all_told telling held names)) → IfOk r (AreChecked (all_told telling held names) before now))
    → ((held : Held) → AreTold before.files.content held (all_asks (all_told telling held names)) → IsFilesFront (all_told telling held names) before now (place_of r))
    → MeansFileCheck telling names before now result
means_files telling names before now r result is e w f = record {
  ending = r;
  answer = is;
  ends = e;
  whole = w;
  front = f;
  told = λ held told calm some. told_by r is e held (w held told) calm some;
}
  where
    told_by : (r : Result Bool Stop) → result ≡ status_of r → Ends no_row ⊥ before now r → (held : Held) → IfOk r (AreChecked (all_told telling held names) before now)
        → AreCalm before now → result ≢ status.Memory
        → Appends before.out.taken now.out.taken (texts (all_told telling held names)) × (result ≡ verdict (any_refused (all_told telling held names)))
    told_by (Ok b) is e held w calm some = (w.written, is ∙ status_is b ∙ ap verdict w.refused)
    told_by (Err s) is e held w calm some = elim (calm_stop Bool ⊥ before now s calm e.cause) [
      | inl m ↦ absurd (some (is ∙ ap stop_status m))
      | inr l ↦ absurd l.1
    ]
