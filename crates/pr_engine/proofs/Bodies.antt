-- What a body comes to, case by case.
use Rattle.std.proofs.Common.{◌≡◌, ℕ, List, Option, Some, None, Result, Bor, sym, subst}
use Rattle.std.specs.declared.result.Result.TheVariants.{Ok, Err}
use Rattle.std.specs.Option.{option_copied}
use Rattle.pr_labels.specs.declared.pair.Pair.{Pair}
use Rattle.pr_head.specs.spec_history.declared.entry.Entry.{Entry}
use Rattle.pr_manager.specs.pr_expo.declared.expo_line.place.ExpoKind.{ExpoKind}
use Rattle.pr_manager.specs.pr_expo.declared.exposition.ExpoError.{ExpoError}
use Rattle.pr_manager.specs.pr_expo.declared.exposition.ExpoError.TheVariants.{Fault}
use Rattle.pr_manager.specs.pr_expo.declared.exposition.Exposition.{Exposition}
use Rattle.pr_manager.specs.pr_expo.declared.exposition.Line.{Line}
use Rattle.pr_manager.specs.pr_expo.Families.{exposition_of}
use Rattle.pr_manager.specs.spec_world.Scrapes.{Scrape, failed, scrape_of, scraped, scraped_by}

pub by_samples : (P : Scrape → Type 0) (target : List Pair) (now : ℕ) (old : List (List Pair)) (bytes : List ℕ) (history : List Entry)
    → (e : Exposition) → exposition_of bytes ≡ Ok e → (lines : List Line) → lines ≡ e.lines
    → P (scraped target now old lines history) → P (scraped_by target now old (exposition_of bytes) history)
by_samples P target now old bytes history e is lines same p =
    subst (λ (x : Result Exposition ExpoError). P (scraped_by target now old x history)) (sym is)
    (subst (λ (ls : List Line). P (scraped target now old ls history)) same p)

pub by_fault : (P : Scrape → Type 0) (target : List Pair) (now : ℕ) (old : List (List Pair)) (bytes : List ℕ) (history : List Entry)
    → (line : ℕ) (kind : ExpoKind) → exposition_of bytes ≡ Err (Fault line kind)
    → P (failed target now old (Some (record { line = line; kind = kind })) history) → P (scraped_by target now old (exposition_of bytes) history)
by_fault P target now old bytes history line kind is p =
    subst (λ (x : Result Exposition ExpoError). P (scraped_by target now old x history)) (sym is) p

pub by_none : (P : Scrape → Type 0) (target : List Pair) (now : ℕ) (old : List (List Pair)) (history : List Entry)
    → (body : Option (Bor (List ℕ))) → body ≡ None → P (failed target now old None history) → P (scrape_of target now old (option_copied body) history)
unfolding scrape_of
by_none P target now old history body is p =
    subst (λ (b : Option (Bor (List ℕ))). P (scrape_of target now old (option_copied b) history)) (sym is) p

pub by_some : (P : Scrape → Type 0) (target : List Pair) (now : ℕ) (old : List (List Pair)) (history : List Entry)
    → (body : Option (Bor (List ℕ))) (bytes : Bor (List ℕ)) → body ≡ Some bytes
    → P (scraped_by target now old (exposition_of bytes.now) history) → P (scrape_of target now old (option_copied body) history)
unfolding scrape_of
by_some P target now old history body bytes is p =
    subst (λ (b : Option (Bor (List ℕ))). P (scrape_of target now old (option_copied b) history)) (sym is) p
