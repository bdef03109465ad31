-- The entries of the calls, and their answers.
use Rattle.std.proofs.Common.{◌≡◌, ℕ, List, [], ◌∷◌, ◌++◌, Option, map}
use Rattle.std.proofs.lemmas.List.{map-append}
use Rattle.pr_labels.specs.declared.pair.Pair.{Pair}
use Rattle.pr_head.specs.spec_history.declared.entry.Entry.{Entry}
use Rattle.pr_manager.specs.spec_world.declared.scraped.BodyFault.{BodyFault}
use Rattle.pr_manager.specs.spec_world.declared.scraped.Scraped.{Scraped}
use Rattle.pr_manager.specs.spec_world.Scrapes.{end_entries, marker, sample_count_of, up_of}

pub same_answer : (a b : List Entry) (fault : Option BodyFault) (m n d e s t : ℕ) → a ≡ b → m ≡ n → d ≡ e → s ≡ t
    → ◌≡◌ {A = Scraped} (record { admitted = a; fault = fault; added = m; dropped = d; stale = s }) (record { admitted = b; fault = fault; added = n; dropped = e; stale = t })
same_answer a b fault m n d e s t p q r u = λ i. record { admitted = p i; fault = fault; added = q i; dropped = r i; stale = u i }

pub ends_parts : (target : List Pair) (now : ℕ) (old : List (List Pair))
    → end_entries target now old ≡ map (marker now) old ++ (marker now (up_of target) ∷ marker now (sample_count_of target) ∷ [])
ends_parts target now old = map-append (marker now) old (up_of target ∷ sample_count_of target ∷ [])
