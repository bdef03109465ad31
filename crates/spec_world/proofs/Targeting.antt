-- What the orders about targets put, and what they change of the targets.
use Rattle.std.proofs.Common.{◌≡◌, ℕ, Bool, true, false, cond, List, [], ◌∷◌, ◌++◌, Option, Some, None, Result, Ok, Err, refl, sym, ap, ◌∙◌}
use Rattle.std.specs.Prelude.{not}
use Rattle.std.specs.Cmp.{IsEquivalence, decided}
use Rattle.pr_ast.specs.pr_labels.declared.pair.Pair.{Pair}
use Rattle.pr_ast.specs.pr_labels.Order.{labels_eq}
use Rattle.pr_ast.proofs.LabelsLabelOrder.{labels_decide}
use Rattle.spec_vectors.specs.spec_history.Admission.{put_all}
use Rattle.spec_vectors.specs.spec_history.declared.entry.Entry.{Entry}
use Rattle.pr_expo.specs.declared.exposition.ExpoError.{ExpoError}
use Rattle.pr_expo.specs.declared.exposition.ExpoError.TheVariants.{Fault, Memory}
use Rattle.pr_expo.specs.declared.exposition.Exposition.{Exposition}
use Rattle.pr_expo.specs.Families.{exposition_of}
use Rattle.spec_world.specs.Scrapes.{Scrape, admitted, gone_of, scrape_of, scraped_by}
use Rattle.spec_world.specs.Targets.{Target, TargetStep, fail_step, gone_by, gone_step, tracked_at, scrape_step, tracked_of, with_tracked, without_target}
use Rattle.spec_world.proofs.Scraping.{puts_admitted}

-- what is admitted of the entries of a scrape is what it answers
abbrev Admits : List Entry → Scrape → Type 0
Admits history s = s.answer.admitted ≡ admitted history s.entries

body_admits : (target : List Pair) (now : ℕ) (old : List (List Pair)) (r : Result Exposition ExpoError) (history : List Entry) → Admits history (scraped_by target now old r history)
body_admits target now old (Ok e) history = refl
body_admits target now old (Err (Fault line kind)) history = refl
body_admits target now old (Err Memory) history = refl

scrape_admits : (target : List Pair) (now : ℕ) (old : List (List Pair)) (body : Option (List ℕ)) (history : List Entry) → Admits history (scrape_of target now old body history)
unfolding scrape_of
scrape_admits target now old (Some body) history = body_admits target now old (exposition_of body) history
scrape_admits target now old None history = refl

gone_admits : (target : List Pair) (now : ℕ) (old : List (List Pair)) (history : List Entry) → Admits history (gone_of target now old history)
unfolding gone_of
gone_admits target now old history = refl

-- so its entries leave what comes behind the history
puts : (history : List Entry) (s : Scrape) → Admits history s → put_all history s.entries ≡ history ++ s.answer.admitted
puts history s h = puts_admitted history s.entries ∙ ap (λ (l : List Entry). history ++ l) (sym h)

abbrev pub Adds : List Entry → TargetStep → Type 0
Adds history step = put_all history step.entries ≡ history ++ step.answer.admitted

pub scrape_puts : (targets : List Target) (history : List Entry) (target : List Pair) (now : ℕ) (body : List ℕ) → Adds history (scrape_step targets history target now body)
scrape_puts targets history target now body =
    puts history (scrape_of target now (tracked_of targets target) (Some body) history) (scrape_admits target now (tracked_of targets target) (Some body) history)

pub fail_puts : (targets : List Target) (history : List Entry) (target : List Pair) (now : ℕ) → Adds history (fail_step targets history target now)
fail_puts targets history target now =
    puts history (scrape_of target now (tracked_of targets target) None history) (scrape_admits target now (tracked_of targets target) None history)

gone_puts_by : (found : Option (List (List Pair))) (targets : List Target) (history : List Entry) (target : List Pair) (now : ℕ) → Adds history (gone_by found targets history target now)
gone_puts_by None targets history target now = puts_admitted history []
gone_puts_by (Some tracked) targets history target now = puts history (gone_of target now tracked history) (gone_admits target now tracked history)

pub gone_puts : (targets : List Target) (history : List Entry) (target : List Pair) (now : ℕ) → Adds history (gone_step targets history target now)
gone_puts targets history target now = gone_puts_by (tracked_at targets target) targets history target now

-- Targets

laws : IsEquivalence labels_eq
laws = decided labels_eq labels_decide

over_same : {X : Type 0} (c : Bool) (a b x : X) → cond c a x ≡ cond c a (cond c b x)
over_same true a b x = refl
over_same false a b x = refl

over_apart : {X : Type 0} (c d : Bool) (a b x y : X) → (c ≡ true → d ≡ true → ⊥) → y ≡ cond d a x → cond c b y ≡ cond d a (cond c b x)
over_apart true true a b x y apart h = absurd (apart refl refl)
over_apart true false a b x y apart h = refl
over_apart false true a b x y apart h = h
over_apart false false a b x y apart h = h

no_both : (b : Bool) → b ≡ false → b ≡ true → ⊥
no_both true e c = absurd cc
no_both false e c = absurd cc

-- where the first of the targets is another one, no label set is that of both
apart_from : (target other : List Pair) (t : Target) → labels_eq target t.labels ≡ false → labels_eq other t.labels ≡ true → labels_eq target other ≡ true → ⊥
apart_from target other t e c d = no_both (labels_eq target t.labels) e (laws.congr target other t.labels d ∙ c)

-- where it is this one, a label set is that of both or of none
same_as : (target other : List Pair) (t : Target) → labels_eq target t.labels ≡ true → labels_eq other t.labels ≡ labels_eq target other
same_as target other t e = laws.symm other t.labels ∙ sym (laws.congr target t.labels other e)

pub tracked_with : (targets : List Target) (target : List Pair) (tracked : List (List Pair)) (other : List Pair)
    → tracked_at (with_tracked targets target tracked) other ≡ cond (labels_eq target other) (Some tracked) (tracked_at targets other)
tracked_with [] target tracked other = ap (λ b. cond b (Some tracked) None) (laws.symm other target)
tracked_with (t ∷ targets) target tracked other = by (labels_eq target t.labels) refl (tracked_with targets target tracked other) where
  by : (b : Bool) → labels_eq target t.labels ≡ b
      → tracked_at (with_tracked targets target tracked) other ≡ cond (labels_eq target other) (Some tracked) (tracked_at targets other)
      → tracked_at (cond b (record { labels = t.labels; tracked = tracked } ∷ targets) (t ∷ with_tracked targets target tracked)) other
      ≡ cond (labels_eq target other) (Some tracked) (cond (labels_eq other t.labels) (Some t.tracked) (tracked_at targets other))
  by true e h =
      over_same (labels_eq other t.labels) (Some tracked) (Some t.tracked) (tracked_at targets other)
      ∙ ap (λ b. cond b (Some tracked) (cond (labels_eq other t.labels) (Some t.tracked) (tracked_at targets other))) (same_as target other t e)
  by false e h = over_apart (labels_eq other t.labels) (labels_eq target other) (Some tracked) (Some t.tracked) (tracked_at targets other)
      (tracked_at (with_tracked targets target tracked) other) (apart_from target other t e) h

abbrev nothing_tracked : Option (List (List Pair))
nothing_tracked = None

none_either : (b : Bool) → nothing_tracked ≡ cond b nothing_tracked nothing_tracked
none_either true = refl
none_either false = refl

pub tracked_without : (targets : List Target) (target other : List Pair) → tracked_at (without_target targets target) other ≡ cond (labels_eq target other) None (tracked_at targets other)
tracked_without [] target other = none_either (labels_eq target other)
tracked_without (t ∷ targets) target other = by (labels_eq target t.labels) refl (tracked_without targets target other) where
  by : (b : Bool) → labels_eq target t.labels ≡ b
      → tracked_at (without_target targets target) other ≡ cond (labels_eq target other) None (tracked_at targets other)
      → tracked_at (cond (not b) (t ∷ without_target targets target) (without_target targets target)) other
      ≡ cond (labels_eq target other) None (cond (labels_eq other t.labels) (Some t.tracked) (tracked_at targets other))
  by true e h =
      h ∙ over_same (labels_eq target other) None (Some t.tracked) (tracked_at targets other)
      ∙ ap (λ b. cond (labels_eq target other) None (cond b (Some t.tracked) (tracked_at targets other))) (sym (same_as target other t e))
  by false e h = over_apart (labels_eq other t.labels) (labels_eq target other) None (Some t.tracked) (tracked_at targets other)
      (tracked_at (without_target targets target) other) (apart_from target other t e) h

-- What is tracked of other targets stays, whatever an order comes to.
abbrev pub Stays : List Target → List Target → List Pair → Type 0
Stays targets after other = tracked_at after other ≡ tracked_at targets other

pub others_known : (targets : List Target) (target : List Pair) (tracked : List (List Pair)) (other : List Pair) → labels_eq target other ≡ false → Stays targets (with_tracked targets target tracked) other
others_known targets target tracked other e = tracked_with targets target tracked other ∙ ap (λ b. cond b (Some tracked) (tracked_at targets other)) e

pub others_forgotten : (targets : List Target) (target other : List Pair) → labels_eq target other ≡ false → Stays targets (without_target targets target) other
others_forgotten targets target other e = tracked_without targets target other ∙ ap (λ b. cond b None (tracked_at targets other)) e

others_gone_by : (found : Option (List (List Pair))) (targets : List Target) (history : List Entry) (target : List Pair) (now : ℕ) (other : List Pair)
    → labels_eq target other ≡ false → Stays targets (gone_by found targets history target now).targets other
others_gone_by None targets history target now other e = refl
others_gone_by (Some tracked) targets history target now other e = others_forgotten targets target other e

pub others_gone : (targets : List Target) (history : List Entry) (target : List Pair) (now : ℕ) (other : List Pair)
    → labels_eq target other ≡ false → Stays targets (gone_step targets history target now).targets other
others_gone targets history target now other e = others_gone_by (tracked_at targets target) targets history target now other e
