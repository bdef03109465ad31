-- How selectors, range selectors and patterns are numbered: each from 0, in the order of the text.
use Rattle.std.specs.Prelude.{ℕ, ◌+◌, ◌-◌, ◌^◌, min, List, length}
use Rattle.pr_match.specs.Matcher.{LabelTest}
use Rattle.pr_ast.specs.Tree.{Tree, range, sub, neg, binary, call, aggregate, more}
use Rattle.pr_types.specs.declared.counting.SelectorCounts.{SelectorCounts}
use Rattle.pr_types.specs.private.Built.{tests_in, patterns_in}

-- how many range selectors a tree has
abbrev pub ranges_in : Tree → ℕ
ranges_in (range p s d) = 1
ranges_in (sub p t d step o) = ranges_in t
ranges_in (neg p t) = ranges_in t
ranges_in (binary p o b m l r) = ranges_in l + ranges_in r
ranges_in (call p f ts) = ranges_in ts
ranges_in (aggregate p o g ts) = ranges_in ts
ranges_in (more ts t) = ranges_in ts + ranges_in t
ranges_in _ = 0

-- the number, or 2^64 - 1 where it is more
abbrev pub at_most_word : ℕ → ℕ
at_most_word n = min n (2 ^ 64 - 1)

abbrev pub counted : List (List LabelTest) → ℕ → List (List ℕ) → SelectorCounts
counted tests ranges patterns =
    record { selectors = at_most_word (length tests); ranges = at_most_word ranges; patterns = at_most_word (length patterns) }

-- how many a tree has of each
abbrev pub counts_in : Tree → SelectorCounts
counts_in t = counted (tests_in t) (ranges_in t) (patterns_in t)

-- those of two parts together
abbrev pub counts_together : SelectorCounts → SelectorCounts → SelectorCounts
counts_together a b = record {
  selectors = at_most_word (a.selectors + b.selectors);
  ranges = at_most_word (a.ranges + b.ranges);
  patterns = at_most_word (a.patterns + b.patterns);
}

-- the same, as they are
abbrev pub exact_counts : Tree → SelectorCounts
exact_counts t = record { selectors = length (tests_in t); ranges = ranges_in t; patterns = length (patterns_in t) }
