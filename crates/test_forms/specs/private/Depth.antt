-- How many signs a text may have that deepen its tree: so that no text makes the parser, or what
-- goes over a tree, call itself too often.
use Rattle.std.specs.Prelude.{◌≡◌, ◌+◌, ◌-◌, ℕ, zero, suc, Bool, true, false, Option, Some, None, List, [], ◌∷◌, drop, length, option_map}
use Rattle.pr_forms.specs.Form.{rule, Reads, Begins}
use Rattle.test_forms.specs.declared.tree.Sign.{Sign as SignKind}
use Rattle.test_forms.specs.declared.tree.Sign.TheVariants.{Close, Comma}
use Rattle.test_forms.specs.declared.parser.Level.TheVariants.{Sum}
use Rattle.test_forms.specs.declared.parser.ParseError.{ParseError}
use Rattle.test_forms.specs.declared.parser.ParseError.TheVariants.{Bad, TooDeep, Memory}
use Rattle.test_forms.specs.declared.parser.Reading.{Reading}
use Rattle.test_forms.specs.declared.parser.Reading.TheVariants.{Whole, Bad as BadReading, Memory as NoMemory}
use Rattle.test_forms.specs.declared.tree.Token.{Token}
use Rattle.test_forms.specs.private.Tree.{Seen, seen, sign_token, tree_of}
use Rattle.test_forms.specs.private.Grammar.{production, Value, Binary, Derives, HasTree, IsBadPlace}

abbrev pub limit : ℕ
limit = 100

-- operators and opening parentheses
abbrev pub sign_deepens : SignKind → Bool
sign_deepens Close = false
sign_deepens Comma = false
sign_deepens s = true

abbrev pub deepens : Seen → Bool
deepens (sign_token s p) = sign_deepens s
deepens t = false

-- how many such signs may still come after a token
abbrev pub left_after : Bool → ℕ → ℕ
left_after true n = n - 1
left_after false n = n

-- where the first one too many stands, by that and by what comes later
abbrev pub too_many_at : Bool → ℕ → Option ℕ → Option ℕ
too_many_at true zero later = Some 0
too_many_at deep n later = option_map suc later

-- The place of the first sign with which there are more than `n`.
abbrev pub first_too_deep : ℕ → List Seen → Option ℕ
first_too_deep n [] = None
first_too_deep n (t ∷ ts) = too_many_at (deepens t) n (first_too_deep (left_after (deepens t) n) ts)

-- the text has a sign too many at the place
abbrev pub IsTooDeep : List Seen → ℕ → Type 0
IsTooDeep ts place = first_too_deep limit ts ≡ Some place

-- Why there is no tree: the first bad place; a sign too many, up to which all can go on; or want of
-- memory.
abbrev pub Refuses : List Seen → ParseError → Type 0
Refuses ts (Bad place) = IsBadPlace ts place
Refuses ts (TooDeep place) = IsTooDeep ts place × Begins production (rule (Binary Sum)) ts (drop (suc place) ts)
Refuses ts Memory = Unit {0}

-- A text that has a tree is refused so: where it has a sign too many, and where memory runs out.
abbrev pub Misses : List Seen → ParseError → Type 0
Misses ts (Bad place) = ⊥
Misses ts (TooDeep place) = IsTooDeep ts place
Misses ts Memory = Unit {0}

-- the places of the tokens before are added to a place among those after them
abbrev pub later_by : ℕ → Option ℕ → Option ℕ
later_by n None = None
later_by n (Some k) = Some (n + k)

-- What the parser comes to, where it may read all the tokens: their one tree, or no tree and the
-- first bad place.
abbrev pub IsReading : List Token → Reading → Type 0
IsReading ts (Whole tree) = Derives (seen ts) (tree_of tree) × ((v : Value) → Reads production (rule (Binary Sum)) (seen ts) v [] → HasTree v (tree_of tree)) × IsBadPlace (seen ts) (length ts)
IsReading ts (BadReading place) = ((v : Value) → Reads production (rule (Binary Sum)) (seen ts) v [] → ⊥) × IsBadPlace (seen ts) place
IsReading ts NoMemory = Unit {0}
