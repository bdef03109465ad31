-- What is written where a store is not opened. Private contracts cite this: a reader can pass it over.
use Rattle.std.specs.Prelude.{◌≡◌, ℕ, ◌≤◌, List, length, take, Option, Result, Err}
use Rattle.std.specs.Io.KnownBytes.{Appends}
use Rattle.spec_rules.specs.spec_history.declared.entry.Entry.{Entry}
use Rattle.pr_outside.specs.declared.status.status.Stop.{Stop}
use Rattle.pr_outside.specs.declared.status.status.Stop.TheVariants.{BadRow}
use Rattle.pr_text.specs.BadRows.{bad_text}

-- A front of the line of a bad row: all of it, where a row stopped the call.
pub record IsUnopened {T : Type 0} (told : Result (List Entry) ℕ) (old new : Option (List ℕ)) (result : Result T Stop) : Type 0 where
  pub count : ℕ
  pub text : Appends old new (take count (bad_text told))
  pub whole : (index : ℕ) → result ≡ Err (BadRow index) → length (bad_text told) ≤ count
