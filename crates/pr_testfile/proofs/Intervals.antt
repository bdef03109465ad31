-- Intervals are above 0.
use Rattle.std.proofs.Common.{◌≡◌, ◌<◌, ℕ, List, [], ◌∷◌, Bool, true, false, cond, Option, Some, None, refl, subst, sym, ap, arith, lit<, nat_lt}
use Rattle.std.specs.Prelude.{option_and_then, unwrap_or}
use Rattle.std.proofs.lemmas.Bool.Decides.{nat_tests}
use Rattle.pr_yaml.specs.Tree.{Tree, EntryTree}
use Rattle.pr_yaml.specs.Read.{Reading, gives_tree, gives_fault, read_of}
use Rattle.pr_rulefile.specs.declared.fields.problem.Problem.{Problem}
use Rattle.pr_rulefile.specs.Nodes.{text_of, fields_in, field}
use Rattle.pr_rulefile.specs.Scalars.{short_span}
use Rattle.pr_testfile.specs.Words.{evaluation_interval}
use Rattle.pr_testfile.specs.Scalars.{if_positive, interval_of, interval_or}
use Rattle.pr_testfile.specs.File.{PlainFile, minute, interval_under, file_problems, file_in}
use Rattle.pr_testfile.specs.Reading.{by_problems, by_reading, gives_file, test_file_of}

tested : (b : Bool) (ms : ℕ) → nat_lt 0 ms ≡ b → 0 < unwrap_or (cond b (Some ms) None) minute
tested true ms e = grind (arith, nat_tests)
tested false ms e = lit< tt

by_span : (o : Option ℕ) → 0 < unwrap_or (if_positive o) minute
by_span None = lit< tt
by_span (Some ms) = tested (nat_lt 0 ms) ms refl

by_text : (o : Option (List ℕ)) → 0 < unwrap_or (option_and_then interval_of o) minute
unfolding interval_of
by_text None = lit< tt
by_text (Some text) = by_span (short_span text)

by_value : (v : Option Tree) → 0 < unwrap_or (interval_or (Some minute) v) minute
by_value None = lit< tt
by_value (Some t) = by_text (text_of t)

abbrev HasInterval : PlainFile → Type 0
HasInterval f = 0 < f.interval

made_positive : (es : List EntryTree) → HasInterval (file_in es)
unfolding file_in
made_positive es = by_value (field evaluation_interval es)

by_list : (ps : List Problem) (made file : PlainFile) → by_problems ps made ≡ gives_file file → HasInterval made → HasInterval file
by_list [] made file h p = let e : made ≡ file = cc in subst HasInterval e p
by_list (q ∷ qs) made file h p = cc

by_read : (r : Reading) (file : PlainFile) → by_reading r ≡ gives_file file → HasInterval file
by_read (gives_tree t) file h = by_list (file_problems t) (file_in (fields_in t)) file h (made_positive (fields_in t))
by_read (gives_fault line kind) file h = cc

pub file_interval_is_positive : (text : List ℕ) (file : PlainFile) → test_file_of text ≡ gives_file file → 0 < file.interval
unfolding test_file_of
file_interval_is_positive text file h = by_read (read_of text) file h
