-- The printed text of a point names it.
use Rattle.std.proofs.Common.{◌≡◌, [], ◌∷◌, Bool, true, false, codes, Some, Ok, Err, refl, sym, ap, ◌∙◌, lit<}
use Rattle.std.specs.Str.{bytes_eq, IsAscii}
use Rattle.std.proofs.lemmas.Slice.Eq.{bytes_eq-Decides}
use Rattle.std.proofs.lemmas.Str.Ascii.{IsAscii-nil, IsAscii-cons}
use Rattle.pr_num.specs.Arithmetic.{IsFit}
use Rattle.spec_history.specs.Points.{shown_point, IsFitPoint, point_of}
use Rattle.pr_num.specs.Reads.{reads}
use Rattle.pr_num.specs.Shown.{shown}
use Rattle.pr_num.specs.declared.text.NumFault.{NumFault}
use Rattle.pr_num.specs.declared.value.Num.{Num}
use Rattle.pr_num.specs.declared.value.Point.{Point}
use Rattle.pr_num.specs.declared.value.Point.TheVariants.{Value, Stale}
use Rattle.pr_num.proofs.RoundTrip.{reads_shown}

pub stale_ascii : IsAscii (codes "stale")
stale_ascii =
    IsAscii-cons 115 (116 ∷ 97 ∷ 108 ∷ 101 ∷ []) (lit< tt) (IsAscii-cons 116 (97 ∷ 108 ∷ 101 ∷ []) (lit< tt)
    (IsAscii-cons 97 (108 ∷ 101 ∷ []) (lit< tt) (IsAscii-cons 108 (101 ∷ []) (lit< tt) (IsAscii-cons 101 [] (lit< tt) IsAscii-nil))))

-- no number has the word for its text
word_reads : reads (codes "stale") ≡ Err NumFault.NotNumber
unfolding reads
word_reads = refl

no_word : (v : Num) (b : Bool) → IsFit v → bytes_eq (shown v) (codes "stale") ≡ b → b ≡ false
no_word v true s h =
    let same : shown v ≡ codes "stale" = (bytes_eq-Decides (shown v) (codes "stale")).0 h in
    absurd (let r : Ok v ≡ Err NumFault.NotNumber = sym (reads_shown v s) ∙ ap reads same ∙ word_reads in cc)
no_word v false s h = refl

pub point_back : (p : Point) → IsFitPoint p → point_of (shown_point p) ≡ Some p
point_back (Value v) s =
    let word : bytes_eq (shown v) (codes "stale") ≡ false = no_word v _ s refl in
    rw word (rw (reads_shown v s) refl)
point_back Stale s = refl
