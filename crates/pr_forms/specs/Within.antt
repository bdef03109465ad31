-- A grammar within another one: its rules and values stand among those of the other, it sees the
-- other's tokens as its own, and its forms read what they read alone.
use Rattle.std.specs.Prelude.{◌≡◌, Option, Some, None}
use Rattle.pr_forms.specs.Form.{Form, token, nothing, pair, either, turns, fold, chosen, rule}
use Rattle.pr_forms.specs.Table.{Table}
use Rattle.pr_forms.specs.Language.{Language}

-- How a grammar over tokens T, with rules N and values V, stands in one over tokens U, with rules M
-- and values W.
pub record Embedding (T N V U M W : Type 0) : Type 0 where
  -- what the grammar sees of the other's tokens
  pub token_of : U → T
  -- the rule and the value that stand for one of the grammar
  pub rule_of : N → M
  pub value_of : V → W
  -- the value of the grammar that one stands for, where it stands for one
  pub inner : W → Option V
  -- what stands for the others
  pub mark_of : W

abbrev pub on_option : {X Y : Type 0} → (X → Y) → Option X → Option Y
on_option f None = None
on_option f (Some x) = Some (f x)

abbrev pub join_inner : {V W : Type 0} → (V → W) → W → (V → V → V) → Option V → Option V → W
join_inner up other c (Some v) (Some w) = up (c v w)
join_inner up other c _ _ = other

-- how values are joined, on what stands for them
abbrev pub lifted : {T N V U M W : Type 0} → Embedding T N V U M W → (V → V → V) → W → W → W
lifted p c v w = join_inner p.value_of p.mark_of c (p.inner v) (p.inner w)

-- a form of the grammar, in the other one
abbrev pub within : {T N V U M W : Type 0} → Embedding T N V U M W → Form T N V → Form U M W
within p (token f) = token (λ u. on_option p.value_of (f (p.token_of u)))
within p (nothing v) = nothing (p.value_of v)
within p (pair c f g) = pair (lifted p c) (within p f) (within p g)
within p (either f g) = either (within p f) (within p g)
within p (turns c v g) = turns (lifted p c) (p.value_of v) (within p g)
within p (fold c f g) = fold (lifted p c) (within p f) (within p g)
within p (chosen q m) = chosen (λ u. on_option p.rule_of (q (p.token_of u))) (λ u. m (p.token_of u))
within p (rule n) = rule (p.rule_of n)

-- The other grammar has the forms of the grammar at its rules, and its values are known again.
pub record Holds {T N V U M W : Type 0} (p : Embedding T N V U M W) (G : N → Form T N V) (H : M → Form U M W) : Type 0 where
  pub forms : (n : N) → H (p.rule_of n) ≡ within p (G n)
  pub values : (v : V) → p.inner (p.value_of v) ≡ Some v

-- The other table says of the rules what the grammar's own says.
pub record HoldsTable {T N V U M W : Type 0} (p : Embedding T N V U M W) (S : Table T N) (Z : Table U M) : Type 0 where
  pub empty : (n : N) → Z.empty (p.rule_of n) ≡ S.empty n
  pub starts : (n : N) (u : U) → Z.starts (p.rule_of n) u ≡ S.starts n (p.token_of u)
  pub more : (n : N) (u : U) → Z.more (p.rule_of n) u ≡ S.more n (p.token_of u)

-- A language stands in another one over the same code's tokens.
pub record IsWithin {A T N V U M W : Type 0} (p : Embedding T N V U M W) (L : Language A T N V) (K : Language A U M W) : Type 0 where
  pub grammar : Holds p L.production K.production
  pub table : HoldsTable p L.table K.table
  pub sees : (a : A) → p.token_of (K.see a) ≡ L.see a
  -- what the language sees of a token tells which one it is
  pub back : T → A
  pub is_back : (a : A) → back (L.see a) ≡ a
