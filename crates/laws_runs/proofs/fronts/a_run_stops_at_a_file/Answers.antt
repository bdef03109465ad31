use Rattle.std.proofs.Common.{◌≡◌, ℕ, ◌≤◌, [], ◌∷◌, refl, sym, subst, length, take, arith}
use Rattle.pr_top.specs.pr_text.Printed.{shown_report}
use Rattle.pr_top.specs.pr_text.BadRows.{bad_row_text}
use Rattle.pr_top.specs.pr_run.Told.{told_of}
use Rattle.laws_runs.specs.private.Examples.{added, reloaded}
use Rattle.laws_runs.proofs.Lines.{none}
use Rattle.laws_runs.proofs.fronts.a_run_stops_at_a_file.Goals as goal

pub returns : goal.returns
unfolding shown_report told_of bad_row_text
returns c =
    λ e file. record {
      answered = 1;
      within = omega arith;
      count = 15;
      text = rw none refl;
      whole = λ fewer k.
          let is : fewer ≡ 0 = omega (arith, k) in
          subst (λ (n : ℕ). length (told_of [] (take n (added e ∷ reloaded file ∷ []))) ≤ 15) (sym is) (rw none (omega arith));
      between = λ b. rw none (omega arith);
      kept = refl;
      prompt = tt;
      asked = 1;
      asks = (omega arith, omega arith);
      asks_at = (omega arith, omega arith);
    }
