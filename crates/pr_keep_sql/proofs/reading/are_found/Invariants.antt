use Rattle.std.proofs.Common.{◌≡◌, ◌≤◌, ◌^◌, drop}
use Rattle.pr_keep_sql.specs.private.Found.{AreFound}
use Rattle.pr_keep_sql.proofs.reading.are_found.Given as goal

abbrev pub invariant-rows : goal.invariant-rows
invariant-rows l =
    (l.seq ≡ l.row-index) × (l.row-index ≤ 2 ^ 63) × (AreFound l.row-index (drop l.row-index l.rows) → AreFound 0 l.rows) × (AreFound 0 l.rows → AreFound l.row-index (drop l.row-index l.rows))
