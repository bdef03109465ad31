-- One byte ahead decides the grammars of strings and of words, and each rule of theirs comes to a
-- byte.
use Rattle.std.proofs.Common.{◌≡◌, ℕ, suc, nat_le, List, [], ◌∷◌, ◌++◌, Some, Bool, true, false, refl, ap, ◌∙◌, subst}
use Prim.Native.Char.{code}
use Rattle.std.specs.Prelude.{◌==◌, if◌then◌else◌}
use Rattle.pr_forms.specs.Table.{empty_of, starts_of, more_of, parts_at, is_solid, Binds, Decides, IsDecided}
use Rattle.pr_forms.specs.Reading.{EndsIn, Ends}
use Rattle.pr_forms.specs.Within.{Holds, HoldsTable, IsWithin}
use Rattle.pr_forms.proofs.Decided.{plain_binds}
use Rattle.pr_forms.proofs.Within.{empty_within, starts_within, more_within, decides_within, ends_within}
use Rattle.test_forms.specs.declared.glyph.Kind.TheVariants.{Comma, Letter, Text}
use Rattle.test_forms.specs.declared.glyph.Sort.{Sort}
use Rattle.test_forms.specs.declared.glyph.Sort.TheVariants.{Quote, Backslash, Plain}
use Rattle.test_forms.specs.private.Glyphs.{Part, part, Glyph, glyph, part_in, sort_in, sort_of, kind_by, is_letter}
use Rattle.test_forms.specs.private.Quoted as quoted
use Rattle.test_forms.specs.private.Quoted.{strings}
use Rattle.test_forms.specs.private.Words.{production, table, rank, steps, embedding, lists, Rule, Words, Word, Letters, Rest, InQuotes, letter_at, is_letter_glyph}

starts_strings : (n : quoted.Rule) (t : Part) → starts_of quoted.table (quoted.production n) t ≡ quoted.table.starts n t
starts_strings quoted.Text (part Quote b) = refl
starts_strings quoted.Body (part Quote b) = refl
starts_strings quoted.Text _ = refl
starts_strings quoted.Body (part Backslash b) = refl
starts_strings quoted.Body (part Plain b) = refl

empty_strings : (n : quoted.Rule) → empty_of quoted.table (quoted.production n) ≡ quoted.table.empty n
empty_strings quoted.Text = refl
empty_strings quoted.Body = refl

more_strings : (n : quoted.Rule) (t : Part) → more_of quoted.table (quoted.production n) t ≡ quoted.table.more n t
more_strings quoted.Text t = refl
more_strings quoted.Body t = refl

parts_strings : (n : quoted.Rule) (t : Part) → parts_at quoted.table (quoted.production n) t ≡ true
parts_strings quoted.Text t = refl
parts_strings quoted.Body (part Quote b) = refl
parts_strings quoted.Body (part Backslash b) = refl
parts_strings quoted.Body (part Plain b) = refl

decides_strings : (n : quoted.Rule) → Decides quoted.table (quoted.production n)
decides_strings quoted.Text = record { at = parts_strings quoted.Text; solid = refl; binds = plain_binds quoted.table (quoted.production quoted.Text) refl }
decides_strings quoted.Body = record { at = parts_strings quoted.Body; solid = refl; binds = plain_binds quoted.table (quoted.production quoted.Body) refl }

pub strings_known : IsDecided quoted.production quoted.table
strings_known = record { empty = empty_strings; starts = starts_strings; more = more_strings; decides = decides_strings }

ends_strings : (n : quoted.Rule) → EndsIn quoted.table quoted.rank steps (quoted.rank n) (quoted.production n)
ends_strings quoted.Text = (tt, refl)
ends_strings quoted.Body = (((tt, tt), tt), tt)

pub tables : HoldsTable embedding quoted.table table
tables = record { empty = λ n. refl; starts = λ n u. refl; more = λ n u. refl }

pub grammars : Holds embedding quoted.production production
grammars = record { forms = λ n. refl; values = λ v. refl }

starts_known : (n : Rule) (t : Glyph) → starts_of table (production n) t ≡ table.starts n t
starts_known (InQuotes n) t = starts_within embedding quoted.table table tables (quoted.production n) t ∙ starts_strings n (part_in t)
starts_known Words (glyph Comma b) = refl
starts_known Words (glyph Letter b) = refl
starts_known Words (glyph (Text Quote) b) = refl
starts_known Words (glyph (Text Backslash) b) = refl
starts_known Words (glyph (Text Plain) b) = refl
starts_known Word (glyph Comma b) = refl
starts_known Word (glyph Letter b) = refl
starts_known Word (glyph (Text Quote) b) = refl
starts_known Word (glyph (Text Backslash) b) = refl
starts_known Word (glyph (Text Plain) b) = refl
starts_known (Letters bs) t = refl
starts_known (Rest bs) (glyph Comma b) = refl
starts_known (Rest bs) (glyph Letter b) = refl
starts_known (Rest bs) (glyph (Text s) b) = refl

empty_known : (n : Rule) → empty_of table (production n) ≡ table.empty n
empty_known (InQuotes n) = empty_within embedding quoted.table table tables (quoted.production n) ∙ empty_strings n
empty_known Words = refl
empty_known Word = refl
empty_known (Letters bs) = refl
empty_known (Rest bs) = refl

more_known : (n : Rule) (t : Glyph) → more_of table (production n) t ≡ table.more n t
more_known (InQuotes n) t = more_within embedding quoted.table table tables (quoted.production n) t ∙ more_strings n (part_in t)
more_known Words (glyph Comma b) = refl
more_known Words (glyph Letter b) = refl
more_known Words (glyph (Text Quote) b) = refl
more_known Words (glyph (Text Backslash) b) = refl
more_known Words (glyph (Text Plain) b) = refl
more_known Word (glyph Comma b) = refl
more_known Word (glyph Letter b) = refl
more_known Word (glyph (Text s) b) = refl
more_known (Letters bs) (glyph Comma b) = refl
more_known (Letters bs) (glyph Letter b) = refl
more_known (Letters bs) (glyph (Text s) b) = refl
more_known (Rest bs) (glyph Comma b) = refl
more_known (Rest bs) (glyph Letter b) = refl
more_known (Rest bs) (glyph (Text s) b) = refl

within_strings : (n : quoted.Rule) → Decides table (production (InQuotes n))
within_strings n = decides_within embedding quoted.table table tables (quoted.production n) (decides_strings n)

parts_known : (n : Rule) (t : Glyph) → parts_at table (production n) t ≡ true
parts_known (InQuotes n) t = (within_strings n).at t
parts_known Words (glyph Comma b) = refl
parts_known Words (glyph Letter b) = refl
parts_known Words (glyph (Text Quote) b) = refl
parts_known Words (glyph (Text Backslash) b) = refl
parts_known Words (glyph (Text Plain) b) = refl
parts_known Word (glyph Comma b) = refl
parts_known Word (glyph Letter b) = refl
parts_known Word (glyph (Text s) b) = refl
parts_known (Letters bs) t = refl
parts_known (Rest bs) (glyph Comma b) = refl
parts_known (Rest bs) (glyph Letter b) = refl
parts_known (Rest bs) (glyph (Text s) b) = refl

solid_known : (n : Rule) → is_solid table (production n) ≡ true
solid_known (InQuotes n) = (within_strings n).solid
solid_known Words = refl
solid_known Word = refl
solid_known (Letters bs) = refl
solid_known (Rest bs) = refl

-- the rule that a letter chooses
letter_chosen : (P : Rule → Type 0) (bs : List ℕ) (t : Glyph) (n : Rule) → letter_at bs t ≡ Some n → ((b : ℕ) → P (Letters (bs ++ b ∷ []))) → P n
letter_chosen P bs (glyph Letter b) n e h = let same : Letters (bs ++ b ∷ []) ≡ n = cc in subst P same (h b)
letter_chosen P bs (glyph Comma b) n e h = absurd (cc)
letter_chosen P bs (glyph (Text s) b) n e h = absurd (cc)

binds_letter : (bs : List ℕ) (t : Glyph) (n : Rule) (u : Glyph) → letter_at bs t ≡ Some n → table.more n u ≡ true → is_letter_glyph u ≡ true
binds_letter bs t n u e = letter_chosen (λ m. table.more m u ≡ true → is_letter_glyph u ≡ true) bs t n e (λ b h. h)

ends_letter : (bs : List ℕ) (t : Glyph) (n : Rule) (k : ℕ) → nat_le 2 k ≡ true → letter_at bs t ≡ Some n → (table.empty n ≡ false) × (nat_le (rank n) k ≡ true)
ends_letter bs t n k le e = letter_chosen (λ m. (table.empty m ≡ false) × (nat_le (rank m) k ≡ true)) bs t n e (λ b. (refl, le))

binds_known : (n : Rule) → Binds table (production n)
binds_known (InQuotes n) = (within_strings n).binds
binds_known Words = plain_binds table (production Words) refl
binds_known Word = (λ t n u e h. binds_letter [] t n u e h, (tt, tt))
binds_known (Letters bs) = plain_binds table (production (Letters bs)) refl
binds_known (Rest bs) = (λ t n u e h. binds_letter bs t n u e h, tt)

pub known : IsDecided production table
known = record { empty = empty_known; starts = starts_known; more = more_known; decides = λ n. record { at = parts_known n; solid = solid_known n; binds = binds_known n } }

ends_known : (n : Rule) → EndsIn table rank steps (rank n) (production n)
ends_known (InQuotes n) = ends_within embedding quoted.table table tables quoted.rank rank steps (λ m. refl) (quoted.rank n) (quoted.production n) (ends_strings n)
ends_known Words = ((tt, refl), (tt, refl))
ends_known Word = (λ t n e. ends_letter [] t n 4 refl e, (refl, tt))
ends_known (Letters bs) = (tt, refl)
ends_known (Rest bs) = (λ t n e. ends_letter bs t n 2 refl e, tt)

below_known : (n : Rule) → nat_le (suc (rank n)) steps ≡ true
below_known (InQuotes quoted.Text) = refl
below_known (InQuotes quoted.Body) = refl
below_known Words = refl
below_known Word = refl
below_known (Letters bs) = refl
below_known (Rest bs) = refl

pub ends : Ends production table rank steps
ends = record { some = refl; below = below_known; ends = ends_known }

-- Strings stand within words.
sort_with : (x y : Bool) → sort_in (if x then Comma else (if y then Letter else Text Plain)) ≡ Plain
sort_with true y = refl
sort_with false true = refl
sort_with false false = refl

sort_kept : (s : Sort) (b : ℕ) → sort_in (kind_by s b) ≡ s
sort_kept Quote b = refl
sort_kept Backslash b = refl
sort_kept Plain b = sort_with (b == code ",") (is_letter b)

abbrev back_byte : Part → ℕ
back_byte (part s b) = b

pub strings_within : IsWithin embedding strings lists
strings_within = record { grammar = grammars; table = tables; sees = λ b. ap (λ s. part s b) (sort_kept (sort_of b) b); back = back_byte; is_back = λ b. refl }
