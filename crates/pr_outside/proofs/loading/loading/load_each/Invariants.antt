use Rattle.std.proofs.Common.{◌≡◌, ℕ, true, List, length}
use Rattle.pr_outside.specs.Courses.{GoesOn}
use Rattle.pr_outside.specs.Outside.{Held, AreTold}
use Rattle.pr_outside.specs.Loading.{AreAsked, Stands, walk}
use Rattle.pr_outside.proofs.loading.loading.load_each.Given as goal

abbrev pub invariant-loading : goal.invariant-loading
invariant-loading g l = record {
  stands : (held : Held) → AreTold (g.F.Files.means l.fn.files).content held (walk g.T.Taker.file g.T.Taker.make held l.names l.fn.taker).asks
      → Stands g.T.Taker.file g.T.Taker.make held l.names l.rest l.fn.taker l.taker (g.F.Files.means l.fn.files).content
      (g.F.Files.means l.fn.files).calls (g.F.Files.means l.files).calls;
  fits : g.T.Taker.fits l.names l.names l.fn.taker → g.T.Taker.fits l.names l.rest l.taker;
  all : g.T.Taker.asks_all ≡ true → AreAsked (g.F.Files.means l.fn.files).calls (g.F.Files.means l.files).calls (length l.names) (length l.rest);
  same : (other : List ℕ) → (g.F.Files.means l.files).content other ≡ (g.F.Files.means l.fn.files).content other;
  calm : (g.F.Files.means l.files).faults ≡ (g.F.Files.means l.fn.files).faults;
  course : GoesOn (g.F.Files.means l.fn.files).course (g.F.Files.means l.files).course;
}

abbrev pub decreases-loading : goal.decreases-loading
decreases-loading g l = length l.rest
