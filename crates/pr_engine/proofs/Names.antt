-- New names: a free one, try by try, and labels none of which gets one.
use Rattle.std.proofs.Common.{◌≡◌, ℕ, zero, suc, ◌+◌, ◌-◌, ◌<◌, Bool, true, false, ◌&&◌, ◌||◌, cond, fold, length, List, [], ◌∷◌, refl, ap, ◌∙◌, arith}
use Rattle.std.specs.Char.{is_ascii_digit}
use Rattle.std.specs.List.{list_all, list_any}
use Rattle.pr_words.specs.Bytes.{is_label_byte, is_letter}
use Rattle.pr_labels.specs.declared.pair.Pair.{Pair}
use Rattle.pr_labels.specs.Edits.{set_label, without_name}
use Rattle.pr_labels.specs.Names.{is_label_name}
use Rattle.pr_manager.specs.spec_world.Scrapes.{exported, free_name, free_within, has, is_free, with_free_name}

one_less : (i n : ℕ) → i < n → n - i ≡ suc (n - (i + 1))
one_less i n h = grind arith

-- one more try of n
pub tried : (target labels : List Pair) (i n : ℕ) (name : List ℕ) → i < n
    → free_within target labels (n - i) name ≡ cond (is_free target labels name) name (free_within target labels (n - (i + 1)) (exported name))
tried target labels i n name h = ap (λ (k : ℕ). free_within target labels k name) (one_less i n h)

pub tried_free : (target labels : List Pair) (i n : ℕ) (name : List ℕ) → i < n → is_free target labels name ≡ true → free_within target labels (n - i) name ≡ name
tried_free target labels i n name h free =
    tried target labels i n name h ∙ ap (λ (b : Bool). cond b name (free_within target labels (n - (i + 1)) (exported name))) free

pub tried_taken : (target labels : List Pair) (i n : ℕ) (name : List ℕ) → i < n → is_free target labels name ≡ false
    → free_within target labels (n - i) name ≡ free_within target labels (n - (i + 1)) (exported name)
tried_taken target labels i n name h taken =
    tried target labels i n name h ∙ ap (λ (b : Bool). cond b name (free_within target labels (n - (i + 1)) (exported name))) taken

-- a new name is a label's, as the old one was
exported_name : (name : List ℕ) → is_label_name name ≡ true → is_label_name (exported name) ≡ true
exported_name [] h = cc
exported_name (b ∷ bs) h = by (is_letter b) refl h where
  by : (l : Bool) → is_letter b ≡ l → (l && list_all is_label_byte bs) ≡ true → is_label_name (exported (b ∷ bs)) ≡ true
  by true e k = ap (λ x. (x || is_ascii_digit b) && list_all is_label_byte bs) e ∙ k
  by false e k = cc

named_within : (target labels : List Pair) (n : ℕ) (name : List ℕ) → is_label_name name ≡ true → is_label_name (free_within target labels n name) ≡ true
named_within target labels zero name h = h
named_within target labels (suc n) name h = by (is_free target labels name) (named_within target labels n (exported name) (exported_name name h)) where
  by : (b : Bool) → is_label_name (free_within target labels n (exported name)) ≡ true → is_label_name (cond b name (free_within target labels n (exported name))) ≡ true
  by true again = h
  by false again = again

pub new_name : (target labels : List Pair) (name : List ℕ) → is_label_name name ≡ true → is_label_name (free_name target labels name) ≡ true
new_name target labels name h = named_within target labels (length target + length labels) (exported name) (exported_name name h)

-- labels of which the target has none stay
pub none_renamed : (target labels ps : List Pair) → list_any (λ p. has target p.name) ps ≡ false → fold (with_free_name target) labels ps ≡ labels
none_renamed target labels [] h = refl
none_renamed target labels (p ∷ ps) h = by (has target p.name) h (λ k. none_renamed target labels ps k) where
  by : (b : Bool) → (b || list_any (λ q. has target q.name) ps) ≡ false → (list_any (λ q. has target q.name) ps ≡ false → fold (with_free_name target) labels ps ≡ labels) →
      fold (with_free_name target) (cond b (set_label (without_name labels p.name) (free_name target labels p.name) p.value) labels) ps ≡ labels
  by true k again = cc
  by false k again = again k
