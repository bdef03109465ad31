-- A store of rows: a connection, and what is known of its tables.
use Rattle.std.specs.Prelude.{◌≡◌, ℕ, ◌^◌, ◌≤◌, ◌&&◌, Bool, false, IsTrue, List, Option, refl}
use Rattle.std.specs.Coded.{Coded, code_by, coded×, coded_ℕ, coded_bool}
use Rattle.sqlite.specs.Store.{Ghosts}
use Rattle.sqlite.specs.Held.{Held, held_code, state}
use Rattle.pr_outside.specs.spec_history.declared.row.Row.{Row}
use Rattle.pr_keep_sql.specs.private.Kept.{told, KeepsSo, WhileOpen}
use Rattle.pr_keep_sql.specs.private.Counts.{faults_of}

pub record KeptStore (S : Type 0) : Type 0 where
  pub conn : Held S
  -- how many rows there are
  pub size : ℕ
  -- the tables are there, and were found in order
  pub is_ready : Bool
  -- and stand before whatever else is there
  pub is_first : Bool
  -- the statements that were refused, and the store's own refusals
  pub refused : ℕ
  pub odd : ℕ

abbrev pub store_code : {S : Type 0} → Coded S → Coded (KeptStore S)
store_code {S} code =
    code_by (Held S × (ℕ × (Bool × (Bool × (ℕ × ℕ))))) (coded× (held_code code) (coded× coded_ℕ (coded× coded_bool (coded× coded_bool (coded× coded_ℕ coded_ℕ)))))
    (λ k. (k.conn, (k.size, (k.is_ready, (k.is_first, (k.refused, k.odd)))))) (λ p. record { conn = p.0; size = p.1.0; is_ready = p.1.1.0; is_first = p.1.1.1.0; refused = p.1.1.1.1.0; odd = p.1.1.1.1.1 })
    (λ _. refl)

-- No transaction is open, and once the tables are ready and stand first they keep so many rows while
-- the connection is open.
pub record IsKept {S : Type 0} (g : Ghosts S) (conn : Held S) (size : ℕ) (is_ready is_first : Bool) : Type 0 where
  pub mode : conn.in_transaction ≡ false
  pub still : IsTrue is_first → WhileOpen (state g conn) (KeepsSo (state g conn).now size)
  pub idle : is_ready ≡ false → (size ≡ 0) × (is_first ≡ false)
  pub small : size ≤ 2 ^ 63

-- the rows, where they are told
abbrev pub rows_of : {S : Type 0} → Ghosts S → KeptStore S → Option (List Row)
rows_of g k = told k.is_first (state g k.conn)

-- whether what the store stands on has kept its word so far: its tables stand first, and the disk has
-- returned what was written
abbrev pub sound_of : {S : Type 0} → Ghosts S → KeptStore S → Bool
sound_of g k = k.is_first && (state g k.conn).is_clean

-- how often a call was refused
abbrev pub faults_in : {S : Type 0} → KeptStore S → ℕ
faults_in k = faults_of k.refused k.odd
