-- What becomes of the targets that a map stands for, when one key of it changes.
use Rattle.std.proofs.Common.{◌≡◌, ℕ, Bool, true, false, cond, List, Option, Some, None, refl, sym, ap, ◌∙◌, subst}
use Rattle.std.specs.Map.{lookup}
use Rattle.pr_labels.specs.declared.pair.Pair.{Pair}
use Rattle.pr_labels.specs.Order.{labels_eq}
use Rattle.pr_labels.proofs.LabelOrder.{labels_decide}
use Rattle.pr_head.specs.spec_history.declared.entry.Entry.{Entry}
use Rattle.pr_manager.specs.spec_world.Targets.{Target, gone_by, gone_step, tracked_at, with_tracked, without_target}
use Rattle.pr_manager.proofs.WorldTargeting.{tracked_with, tracked_without}
use Rattle.pr_engine.specs.private.Knowing.{Knows, Tracked}

-- the new map has this at the target, and what the old one has at any other
abbrev pub Changes : Tracked → Tracked → List Pair → Option (List (List Pair)) → Type 0
Changes old new target found = (labels : List Pair) → lookup (labels_eq labels) new ≡ cond (labels_eq target labels) found (lookup (labels_eq labels) old)

pub taken_out : (old new : Tracked) (targets : List Target) (target : List Pair) → Knows old targets → Changes old new target None → Knows new (without_target targets target)
taken_out old new targets target knows changes = λ labels.
    changes labels ∙ ap (λ (f : Option (List (List Pair))). cond (labels_eq target labels) None f) (knows labels) ∙ sym (tracked_without targets target labels)

over : (b : Bool) (tracked : List (List Pair)) (f : Option (List (List Pair))) → cond b (Some tracked) (cond b None f) ≡ cond b (Some tracked) f
over true tracked f = refl
over false tracked f = refl

pub put_in : (old new : Tracked) (targets : List Target) (target : List Pair) (tracked : List (List Pair)) → Knows old (without_target targets target)
    → Changes old new target (Some tracked) → Knows new (with_tracked targets target tracked)
put_in old new targets target tracked knows changes = λ labels.
    changes labels
    ∙ ap (λ (f : Option (List (List Pair))). cond (labels_eq target labels) (Some tracked) f) (knows labels ∙ tracked_without targets target labels)
    ∙ over (labels_eq target labels) tracked (tracked_at targets labels)
    ∙ sym (tracked_with targets target tracked labels)

-- where the target was unknown, nothing has changed
unchanged : (targets : List Target) (target labels : List Pair) → tracked_at targets target ≡ None → tracked_at (without_target targets target) labels ≡ tracked_at targets labels
unchanged targets target labels h = tracked_without targets target labels ∙ by (labels_eq target labels) refl where
  by : (b : Bool) → labels_eq target labels ≡ b → cond b None (tracked_at targets labels) ≡ tracked_at targets labels
  by true e = sym (subst (λ (l : List Pair). tracked_at targets l ≡ None) ((labels_decide target labels).0 e) h)
  by false e = refl

pub unknown_stays : (new : Tracked) (targets : List Target) (history : List Entry) (target : List Pair) (now : ℕ) → tracked_at targets target ≡ None
    → Knows new (without_target targets target) → Knows new (gone_step targets history target now).targets
unknown_stays new targets history target now h knows =
    subst (λ (f : Option (List (List Pair))). Knows new (gone_by f targets history target now).targets) (sym h)
    (λ labels. knows labels ∙ unchanged targets target labels h)
