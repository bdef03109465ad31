use Rattle.std.proofs.Common.{rules, refl, sym}
use Rattle.pr_words.proofs.FormsPublic.{read_whole, only_value, not_whole, no_reading, rest_place, bad_place, end_place, left_short}
use Rattle.pr_words.specs.Strings.{letter_of}
use Rattle.pr_labels.specs.SeriesGrammar.{production, Series, listed}
use Rattle.pr_labels.proofs.SeriesTable.{known}
use Rattle.pr_labels.proofs.series.series.read_series_pairs.Goals as goal
use Rattle.pr_labels.specs.SeriesTable.{table}

pub place_of-requires : goal.place_of-requires
place_of-requires c = left_short letter_of production table known Series _ c.in-Ok.left.now _ c.in-Ok.ensures refl

pub returns-then-is_empty-clause-tree : goal.returns-then-is_empty-clause-tree
returns-then-is_empty-clause-tree c =
    let q = rw c.as_bytes-bytes.ensures.value at c.in-Ok.ensures in
    read_whole letter_of production table known Series _ c.in-Ok.left.now (listed c.in-Ok.pairs.items) q (search rules)

pub returns-then-is_empty-clause-only : goal.returns-then-is_empty-clause-only
returns-then-is_empty-clause-only c =
    let q = rw c.as_bytes-bytes.ensures.value at c.in-Ok.ensures in
    λ v d. sym (only_value letter_of production table known Series _ c.in-Ok.left.now (listed c.in-Ok.pairs.items) v q d)

pub returns-then-is_empty-clause-place : goal.returns-then-is_empty-clause-place
returns-then-is_empty-clause-place c =
    let q = rw c.as_bytes-bytes.ensures.value at c.in-Ok.ensures in
    end_place letter_of production table known Series _ c.in-Ok.left.now (listed c.in-Ok.pairs.items) q (search rules)

pub returns-else-is_empty-clause-only : goal.returns-else-is_empty-clause-only
returns-else-is_empty-clause-only c =
    let q = rw c.as_bytes-bytes.ensures.value at c.in-Ok.ensures in
    λ v d. not_whole letter_of production table known Series _ c.in-Ok.left.now (listed c.in-Ok.pairs.items) v c.is_empty.result q c.is_empty.ensures c.if-is_empty.false d

pub returns-else-is_empty-clause-place : goal.returns-else-is_empty-clause-place
returns-else-is_empty-clause-place c =
    let q = rw c.as_bytes-bytes.ensures.value at c.in-Ok.ensures in
    rw (c.place_of.ensures, c.as_bytes-bytes.ensures.value) (rest_place letter_of production table known Series _ c.in-Ok.left.now (listed c.in-Ok.pairs.items) q)

pub place_of-requires-in-Err-Bad : goal.place_of-requires-in-Err-Bad
place_of-requires-in-Err-Bad c = left_short letter_of production table known Series _ c.in-Err-Bad.rest.now _ (rw c.in-Err-Bad.field-0-is at c.in-Err-Bad.ensures) refl

pub returns-in-Err-Bad-clause-only : goal.returns-in-Err-Bad-clause-only
returns-in-Err-Bad-clause-only c =
    let x = rw c.in-Err-Bad.field-0-is at c.in-Err-Bad.ensures in
    let q = rw c.as_bytes-bytes.ensures.value at x in
    λ v d. no_reading letter_of production table known Series _ c.in-Err-Bad.rest.now v q d

pub returns-in-Err-Bad-clause-place : goal.returns-in-Err-Bad-clause-place
returns-in-Err-Bad-clause-place c =
    let x = rw c.in-Err-Bad.field-0-is at c.in-Err-Bad.ensures in
    let q = rw c.as_bytes-bytes.ensures.value at x in
    rw (c.place_of-in-Err-Bad.ensures, c.as_bytes-bytes.ensures.value) (bad_place letter_of production table known Series _ c.in-Err-Bad.rest.now q)
