use Rattle.std.proofs.Common.{◌≡◌, ℕ, ◌≤◌, [], ◌∷◌, refl, sym, subst, length, take, arith}
use Rattle.pr_top.specs.pr_text.Printed.{shown_report}
use Rattle.pr_top.specs.pr_text.BadRows.{bad_row_text}
use Rattle.pr_top.specs.pr_run.Told.{told_of}
use Rattle.laws_runs.specs.private.Examples.{added}
use Rattle.laws_runs.proofs.Lines.{none}
use Rattle.laws_runs.proofs.fronts.a_run_stops_at_its_store.Goals as goal

pub returns : goal.returns
unfolding shown_report told_of bad_row_text
returns c =
    λ e f g. record {
      answered = 2;
      within = omega arith;
      count = 21;
      text = rw none refl;
      whole = λ fewer k.
          let is : fewer ≡ 1 = omega (arith, k) in
          subst (λ (n : ℕ). length (told_of [] (take n (added e ∷ added f ∷ added g ∷ []))) ≤ 21) (sym is) (rw none (omega arith));
      between = λ b. rw none (omega arith);
      kept = refl;
      prompt = tt;
      asked = 0;
      asks = (omega arith, omega arith);
      asks_at = (omega arith, omega arith);
    }
