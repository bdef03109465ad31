-- From what `Regex::new` ensures to the words of specs/Pattern.antt.
use Rattle.std.proofs.Common.{◌≡◌, ◌≢◌, ℕ, zero, suc, ◌+◌, ◌*◌, ◌<◌, ◌≤◌, true, false, List, chars, Option, None, Some, IsSomeAnd, IfSome, is_some, option_map, option_and_then, get_or, refl, sym, ap, ap₂, ◌∙◌, arith, ⊎_elim, true≢false, ◌==◌, if◌then◌else◌, ne_eqb}
use Rattle.std.proofs.lemmas.Option.{none-some, same_Some}
use mathlib.Core.Path.{fun_ext}
use Rattle.regex.specs.Patterns.{Re, Match, find_str, slot_of, span, default_config, Reads, Refuses}
use Rattle.regex.specs.Replace.{bytes_of, group_bytes}
use Rattle.regex.specs.Templates.{written_after}
use Rattle.regex.specs.Writes.{both, group_of}
use Rattle.std.proofs.lemmas.Bool.{cond-false}
use Rattle.std.proofs.lemmas.Bool.Decides.{nat_tests}
use Rattle.regex.specs.Strings.{regex_pattern, matcher_pattern, regex_names, IsCapturesOf, IsReadFrom, match_span}
use Rattle.regex.specs.Search.{group_span}
use Rattle.regex.specs.declared.string.captures.Captures.{Captures}
use Rattle.regex.specs.declared.string.matcher.Matcher.{Matcher}
use Rattle.regex.specs.declared.string.regex.Regex.{Regex}
use Rattle.regex.specs.declared.string.template.Template.{Template}
use Rattle.regex.proofs.OnLiterals.{IsReadAs, same_refl}
use Rattle.regex.proofs.ForCallers.{alike_as_written, names_as_written, is_match_alike, found_alike, span_alike, IsNamedAs}
use Rattle.regex_syntax.specs.Brackets.{Nested}
use Rattle.regex_syntax.specs.Grammar.{Names, read}
use Rattle.regex_hir.specs.declared.hir.Hir.{Hir}
use Rattle.regex.specs.declared.error.Error.{Error}
use Rattle.regex.specs.declared.error.Error.TheVariants.{Syntax, CompiledTooBig, Internal, OutOfMemory}
use Rattle.regex.specs.Sources.{IsRefusal}
use Rattle.regex.specs.Failures.{IsRightKind}
use Rattle.regex_syntax.specs.declared.error.ErrorKind.{ErrorKind}
use Rattle.regex_syntax.specs.declared.error.ErrorKind.TheVariants as kind
use Rattle.pr_match.specs.Pattern.{is_readable, is_within, anchored, first_match, matches_whole, expanded}
use Rattle.pr_match.specs.private.Compiled.{IsFrom, Decides, Expands, fault_of, syntax_fault}
use Rattle.pr_match.specs.declared.fault.MatchError.{MatchError}
use Rattle.pr_match.specs.declared.fault.MatchError.TheVariants.{BadPattern, Memory}

none_of : {A : Type 0} (o : Option A) → false ≡ is_some o → o ≡ None
none_of None e = refl
none_of (Some x) e = absurd (true≢false (sym e))

abbrev Found : Type 0
Found = Nested Re × Names

-- what is read, and within the limit, passes the test
passes : (o : Option Found) (P : Found → Type 0) → ((q : Found) → P q → q.0.depth ≤ default_config.nest_limit) → IsSomeAnd o P → is_within o ≡ true
passes None P f h = absurd h
passes (Some q) P f h = grind (arith, nat_tests, f q h)

-- what is read, and beyond the limit, fails it
fails : (o : Option Found) → IfSome o (λ q. default_config.nest_limit < q.0.depth) → is_within o ≡ false
fails None h = refl
fails (Some q) h = grind (arith, nat_tests, h)

there : (o : Option Found) → is_within o ≡ true → o ≡ None → ⊥
there None h e = true≢false (sym h)
there (Some q) h e = none-some q (sym e)

-- what was compiled can be read
pub readable_of_read : (source : List ℕ) (r : Regex) → IsFrom source r → is_readable source ≡ true
unfolding is_readable Reads
readable_of_read source r h = passes (read default_config (chars source)) _ (λ q p. p.0) (rw (h.is_source, h.is_default) at h.is_read)

-- what was read can be read
pub readable_of_parse : (source : List ℕ) (hir : Hir) (names : Names) → Reads default_config source hir names → is_readable source ≡ true
unfolding is_readable Reads
readable_of_parse source hir names h = passes (read default_config (chars source)) _ (λ q p. p.0) h

-- an error of syntax means that the text cannot be read
pub unreadable_of_refusal : (source : List ℕ) (k : ErrorKind) → k ≢ kind.OutOfMemory → Refuses default_config source k → is_readable source ≡ false
unfolding is_readable Refuses
unreadable_of_refusal source k real refused =
    ⊎_elim (λ e. absurd (real e))
    (⊎_elim (λ e. rw e refl) (λ deep. fails (read default_config (chars source)) deep.1))
    refused

apart : Memory ≢ BadPattern
apart e = cc

-- where reading was refused for the text's fault, it cannot be read
pub unreadable_of_syntax : (source : List ℕ) (k : ErrorKind) (fault : MatchError) → Refuses default_config source k → fault ≡ syntax_fault k → fault ≡ BadPattern → is_readable source ≡ false
unreadable_of_syntax source k fault refused f b = unreadable_of_refusal source k (λ e. apart (ap syntax_fault (sym e) ∙ sym f ∙ b)) refused

-- where the fault is the text's, it cannot be read
pub unreadable_of_fault : (source : List ℕ) (error : Error) (fault : MatchError) → IsRefusal default_config source error → IsRightKind default_config source error →
    fault ≡ fault_of error → fault ≡ BadPattern → is_readable source ≡ false
unreadable_of_fault source (Syntax e) fault refusal kind f b = unreadable_of_refusal source e.kind kind (refusal e refl)
unreadable_of_fault source CompiledTooBig fault refusal kind f b = absurd (apart (sym f ∙ b))
unreadable_of_fault source Internal fault refusal kind f b = absurd (apart (sym f ∙ b))
unreadable_of_fault source OutOfMemory fault refusal kind f b = absurd (apart (sym f ∙ b))

module _ (source : List ℕ) (r : Regex) (h : IsFrom source r) (hay : List ℕ) (bytes : (k : ℕ) → get_or hay k 0 < 256) where
  abbrev search_of : Option Found → Option (Match × Names)
  search_of o = option_and_then (λ q. option_map (λ m. (m, q.1)) (find_str q.0.value hay 0)) o

  is_read_as : (q : Found) → read default_config (chars source) ≡ Some q → IsReadAs default_config source q.0.value
  is_read_as q e = rw e (same_refl q.0.value)

  is_named_as : (q : Found) → read default_config (chars source) ≡ Some q → IsNamedAs default_config source q.1
  is_named_as q e = rw e refl

  is_some-pair : (names : Names) (o : Option Match) → is_some {T = Match × Names} (option_map (λ m. (m, names)) o) ≡ is_some o
  is_some-pair names None = refl
  is_some-pair names (Some m) = refl

  none_read : read default_config (chars source) ≡ None → ⊥
  unfolding is_readable
  none_read e = there _ (readable_of_read source r h) e

  found_in : (o : Option Found) → read default_config (chars source) ≡ o → is_some (find_str (regex_pattern r) hay 0) ≡ is_some (search_of o)
  found_in None e = absurd (none_read e)
  found_in (Some q) e =
      is_match_alike (alike_as_written r default_config source h.is_source h.is_default h.is_read q.0.value (is_read_as q e)) hay bytes true 0
      ∙ sym (is_some-pair q.1 _)

  pub is_match_of_text : is_some (find_str (regex_pattern r) hay 0) ≡ is_some (first_match source hay)
  unfolding first_match
  is_match_of_text = found_in (read default_config (chars source)) refl

  pub no_match_of_text : find_str (regex_pattern r) hay 0 ≡ None → first_match source hay ≡ None
  no_match_of_text e = none_of _ (ap is_some (sym e) ∙ is_match_of_text)

  group_bytes_by : (ℕ × ℕ) → (ℕ → Option ℕ) → ℕ → List ℕ
  group_bytes_by s slots n = bytes_of hay (if n == 0 then Some s else both (slots (2 * n)) (slots (2 * n + 1)))

  same_groups : (m k : Match) → span m ≡ span k → slot_of m ≡ slot_of k → group_bytes hay m ≡ group_bytes hay k
  same_groups m k s e = ap₂ (λ p q n. bytes_of hay (if n == 0 then Some p else both (q (2 * n)) (q (2 * n + 1)))) s e

  match_in : (o : Option Found) → read default_config (chars source) ≡ o → (m : Match) → find_str (regex_pattern r) hay 0 ≡ Some m →
      (k : Match) × (search_of o ≡ Some (k, regex_names r)) × (group_bytes hay k ≡ group_bytes hay m)
  match_in None e m f = absurd (none_read e)
  match_in (Some q) e m f =
      let same = alike_as_written r default_config source h.is_source h.is_default h.is_read q.0.value (is_read_as q e) in
      let there = found_alike same hay bytes true 0 m f in
      let spans : Some (span m) ≡ Some (span there.0) =
      sym (ap (option_map span) f) ∙ span_alike same hay bytes true 0 ∙ ap (option_map span) there.1 in
      let names = names_as_written r default_config source h.is_source h.is_default h.is_read q.1 (is_named_as q e) in (
        there.0,
        ap (option_map (λ m. (m, q.1))) there.1 ∙ ap (λ ns. Some (there.0, ns)) (sym names),
        same_groups there.0 m (sym (same_Some _ _ spans)) there.2,
      )

  pub match_of_text : (m : Match) → find_str (regex_pattern r) hay 0 ≡ Some m →
      (k : Match) × (first_match source hay ≡ Some (k, regex_names r)) × (group_bytes hay k ≡ group_bytes hay m)
  unfolding first_match
  match_of_text = match_in (read default_config (chars source)) refl

  groups_of : (m : Match) (c : Captures) → IsCapturesOf hay m c → (n : ℕ) →
      bytes_of c.whole.haystack.now (group_span true c.whole.haystack.now (match_span c.whole) c.groups.now n) ≡ group_bytes hay m n
  unfolding group_span
  groups_of m c is zero = ap₂ (λ t s. bytes_of t (Some s)) is.0 is.1.whole_is
  groups_of m c is (suc n) =
      ap₂ bytes_of is.0 (is.2 (suc n) (omega arith))
      ∙ ap (bytes_of hay) (sym (cond-false (suc n == 0) (Some (span m)) (group_of m (suc n)) (ne_eqb (suc n) 0 (omega arith))))

  -- what a template writes at captures of the match
  pub written_of_text : (m : Match) → find_str (regex_pattern r) hay 0 ≡ Some m → (c : Captures) → IsCapturesOf hay m c → (template : List ℕ) →
      Some (written_after (regex_names r) (λ n. bytes_of c.whole.haystack.now (group_span true c.whole.haystack.now (match_span c.whole) c.groups.now n)) template 0)
      ≡ option_map (λ f. written_after f.1 (group_bytes hay f.0) template 0) (first_match source hay)
  written_of_text m f c is template =
      let there = match_of_text m f in
      let groups = fun_ext (groups_of m c is) in
      ap (λ g. Some (written_after (regex_names r) g template 0)) (groups ∙ sym there.2) ∙ sym (ap (option_map (λ f. written_after f.1 (group_bytes hay f.0) template 0)) there.1)

-- a searcher for what the anchored pattern compiles to decides the pattern
pub decides : (pattern : List ℕ) (r : Regex) → IsFrom (anchored pattern) r → (searcher : Matcher) → matcher_pattern searcher ≡ regex_pattern r → Decides pattern searcher
unfolding matches_whole
decides pattern r h searcher e = λ text bytes. rw e (is_match_of_text (anchored pattern) r h text bytes)

-- what it searches for, with what the template is read as, expands the two
pub expands : (pattern template : List ℕ) (r : Regex) → IsFrom (anchored pattern) r → (searched : Re) → searched ≡ regex_pattern r →
    (read : Template) → IsReadFrom (regex_names r) template read → Expands pattern template searched read
unfolding expanded
expands pattern template r h searched e read is = record {
  none = λ text bytes found. ap (option_map (λ f. written_after f.1 (group_bytes text f.0) template 0)) (no_match_of_text (anchored pattern) r h text bytes (ap (λ re. find_str re text 0) (sym e) ∙ found));
  some = λ text bytes m found c captures. ap Some (is true _ _ _) ∙ written_of_text (anchored pattern) r h text bytes m (ap (λ re. find_str re text 0) (sym e) ∙ found) c captures template;
}
