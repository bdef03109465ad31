-- What is remembered of series texts stays what they read as, and bounded.
use Rattle.std.proofs.Common.{◌≡◌, ◌∙◌, ℕ, ◌+◌, ◌<◌, ◌≤◌, Bool, true, false, cond, if◌then◌else◌, List, length, Option, Some, None, String, sym, refl, subst, arith, Bor, IfSome}
use Rattle.std.specs.Str.{bytes_eq}
use Rattle.std.specs.Option.{option_copied}
use Rattle.std.specs.String.{string_bytes, string_eq}
use Rattle.std.specs.Cmp.Lexicographic.{bytes_decides}
use Rattle.std.proofs.lemmas.Map.Text.{hash_map_updates_text}
use Rattle.indexmap.specs.IndexMap.{IndexMap, get_by_text, Updates}
use Rattle.spec_world.specs.pr_labels.declared.pair.Pair.{Pair}
use Rattle.spec_world.specs.pr_labels.SeriesReading.{series_labels}
use Rattle.pr_text.specs.private.Known.{AreKnown, AreFewKnown}

-- one more at most is there
put_few : (old new : ℕ) (b : Bool) → new ≡ old + (if b then 0 else 1) → old < 65536 → new ≤ 65536
put_few old new true more room = omega (arith, more, room)
put_few old new false more room = omega (arith, more, room)

module _ {Y S : Type 0} where
  -- what is found is what the text reads as
  pub found_read : (sets : IndexMap (String Y) (List Pair) S) (text : List ℕ) (found : Option (Bor (List Pair)))
      → AreKnown sets → option_copied found ≡ get_by_text sets text → IfSome found (λ labels. series_labels text ≡ Some labels.now)
  found_read sets text None read is = tt
  found_read sets text (Some labels) read is = read text labels.now (sym is)

  -- what holds of each text and its labels holds with one text more, where it holds of that
  one_more : (Holds : List ℕ → List Pair → Type 0) (old new : IndexMap (String Y) (List Pair) S) (key : String Y) (labels : List Pair)
      → ((text : List ℕ) (found : List Pair) → get_by_text old text ≡ Some found → Holds text found)
      → ((found : List Pair) → Some labels ≡ Some found → Holds (string_bytes key) found) → Updates string_eq old new key (Some labels)
      → (text : List ℕ) (found : List Pair) → get_by_text new text ≡ Some found → Holds text found
  one_more Holds old new key labels before more updates text found is =
      by (bytes_eq (string_bytes key) text) refl (sym (hash_map_updates_text (string_bytes key) old new (Some labels) updates text) ∙ is)
    where
      by : (b : Bool) → bytes_eq (string_bytes key) text ≡ b → cond b (Some labels) (get_by_text old text) ≡ Some found → Holds text found
      by true same here = subst (λ (t : List ℕ). Holds t found) ((bytes_decides (string_bytes key) text).0 same) (more found here)
      by false other here = before text found here

  -- one text more, where there is room for it
  pub one_more_known : (old new : IndexMap (String Y) (List Pair) S) (key : String Y) (labels : List Pair) (known : Bool)
      → AreFewKnown old → length old.entries < 65536 → series_labels (string_bytes key) ≡ Some labels → length (string_bytes key) ≤ 1024
      → Updates string_eq old new key (Some labels) → length new.entries ≡ length old.entries + (if known then 0 else 1) → AreFewKnown new
  one_more_known old new key labels known before room reads short updates more = record {
    read = one_more (λ text found. series_labels text ≡ Some found) old new key labels before.read (λ found is. reads ∙ is) updates;
    short = one_more (λ text found. length text ≤ 1024) old new key labels before.short (λ found is. short) updates;
    few = put_few (length old.entries) (length new.entries) known more room;
  }
