-- What the text of a pattern means, by the grammar and the searches of the crate regex.
use Rattle.std.specs.Prelude.{ℕ, nat_le, Bool, false, ◌&&◌, List, ◌++◌, codes, chars, Option, None, Some, option_map, option_and_then, is_some}
use Rattle.regex.specs.Patterns.{Re, Match, find_str, default_config}
use Rattle.regex.specs.Replace.{group_bytes}
use Rattle.regex.specs.Templates.{written_after}
use Rattle.regex_syntax.specs.Brackets.{Nested}
use Rattle.regex_syntax.specs.Grammar.{Names, read}

-- how many levels of groups, repetitions, classes and the like may stand within one another
abbrev pub deepest : ℕ
deepest = 250

abbrev pub is_within : Option (Nested Re × Names) → Bool
is_within None = false
is_within (Some found) = nat_le found.0.depth deepest

-- the grammar reads the text, and no deeper than is allowed
unfoldable pub is_readable : List ℕ → Bool
is_readable text = is_within (read default_config (chars text))

-- the pattern that meets the whole of a text, line feeds included
abbrev pub anchored : List ℕ → List ℕ
anchored text = codes "^(?s:" ++ text ++ codes ")$"

-- the text is a pattern, both alone and anchored
unfoldable pub is_pattern : List ℕ → Bool
is_pattern text = is_readable text && is_readable (anchored text)

-- the first match in a text of what the grammar reads in a source, with the names of its groups
unfoldable pub first_match : List ℕ → List ℕ → Option (Match × Names)
first_match source text =
    option_and_then (λ found. option_map (λ m. (m, found.1)) (find_str found.0.value text 0)) (read default_config (chars source))

-- whether the pattern matches the whole of a text
unfoldable pub matches_whole : List ℕ → List ℕ → Bool
matches_whole pattern text = is_some (first_match (anchored pattern) text)

-- a template with the groups of that match in the place of its references; nothing where there is
-- no match
unfoldable pub expanded : List ℕ → List ℕ → List ℕ → Option (List ℕ)
expanded pattern text template =
    option_map (λ found. written_after found.1 (group_bytes text found.0) template 0) (first_match (anchored pattern) text)

-- a pattern with a template
pub record Replacement : Type 0 where
  pub pattern : List ℕ
  pub template : List ℕ

abbrev pub replacement : List ℕ → List ℕ → Replacement
replacement pattern template = record { pattern = pattern; template = template }
