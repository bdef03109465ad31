-- What private contracts say of regular expressions that are compiled.
use Rattle.std.specs.Prelude.{◌≡◌, ℕ, ◌<◌, List, Option, Some, None, slice_index, is_some}
use Rattle.regex.specs.Patterns.{Re, Match, find_str, default_config}
use Rattle.regex.specs.Strings.{regex_source, regex_config, matcher_pattern, expansion_of, IsReadFromSource, IsCapturesOf}
use Rattle.regex.specs.declared.string.captures.Captures.{Captures}
use Rattle.regex.specs.declared.string.template.Template.{Template}
use Rattle.regex.specs.declared.string.regex.Regex.{Regex}
use Rattle.regex.specs.declared.string.matcher.Matcher.{Matcher}
use Rattle.regex.specs.declared.error.Error.{Error}
use Rattle.regex.specs.declared.error.Error.TheVariants.{Syntax}
use Rattle.regex_syntax.specs.declared.error.ErrorKind.{ErrorKind}
use Rattle.regex_syntax.specs.declared.error.ErrorKind.TheVariants.{OutOfMemory}
use Rattle.pr_match.specs.Pattern.{matches_whole, expanded}
use Rattle.pr_match.specs.declared.fault.MatchError.{MatchError}
use Rattle.pr_match.specs.declared.fault.MatchError.TheVariants.{BadPattern, Memory}

-- the regular expression is what the source is read as
pub record IsFrom (source : List ℕ) (regex : Regex) : Type 0 where
  pub is_source : regex_source regex ≡ source
  pub is_default : regex_config regex ≡ default_config
  pub is_read : IsReadFromSource regex

-- the searcher finds a match in exactly the texts that the pattern matches whole
abbrev pub Decides : List ℕ → Matcher → Type 0
Decides pattern searcher =
    (text : List ℕ) → ((k : ℕ) → slice_index text k < 256) → is_some (find_str (matcher_pattern searcher) text 0) ≡ matches_whole pattern text

-- where what is searched for is found in a text, the template makes of it what the pattern and the
-- template's text make of it, and they make nothing of other texts
pub record Expands (pattern template : List ℕ) (searched : Re) (read : Template) : Type 0 where
  pub none : (text : List ℕ) → ((k : ℕ) → slice_index text k < 256) → find_str searched text 0 ≡ None → expanded pattern text template ≡ None
  pub some : (text : List ℕ) → ((k : ℕ) → slice_index text k < 256) → (m : Match) → find_str searched text 0 ≡ Some m →
      (c : Captures) → IsCapturesOf text m c → Some (expansion_of c read) ≡ expanded pattern text template

-- what a refusal to compile means
abbrev pub fault_of : Error → MatchError
fault_of (Syntax e) = BadPattern
fault_of _ = Memory

-- what a refusal to read means
abbrev pub syntax_fault : ErrorKind → MatchError
syntax_fault OutOfMemory = Memory
syntax_fault _ = BadPattern
