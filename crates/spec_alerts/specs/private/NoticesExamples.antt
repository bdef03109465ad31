-- Small notices and receivers to try the definitions on.
use Rattle.std.specs.Prelude.{ℕ, zero, suc, true, List, [], ◌∷◌}
use Rattle.spec_history.specs.private.Examples.{number}
use Rattle.spec_alerts.specs.declared.sending.Sending.{Sending}
use Rattle.spec_alerts.specs.declared.notices.batch.Batch.{Batch}
use Rattle.spec_alerts.specs.Receivers.{Receiver, receiver}

-- a notice, known by when it begins
abbrev pub notice : ℕ → Sending
notice time = record { labels = []; firing = true; value = number 0; starts = time; ends = 0; notes = [] }

-- so many notices, of which the first begins then, and each later one by one later
abbrev pub notices : ℕ → ℕ → List Sending
notices first zero = []
notices first (suc count) = notice first ∷ notices (suc first) count

-- so many receivers, each with a name of one byte
abbrev pub receivers : ℕ → List Receiver
receivers zero = []
receivers (suc count) = receiver (count ∷ []) ∷ receivers count

abbrev pub gives : List Sending → ℕ → Batch
gives given dropped = record { notices = given; dropped = dropped }
