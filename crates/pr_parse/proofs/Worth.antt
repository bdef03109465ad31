-- What single tokens are worth to the grammar.
use Rattle.std.proofs.Common.{◌≡◌, ℕ, List, Bool, true, false, Option, Some, None, refl, sym, ◌∙◌}
use Rattle.pr_ast.specs.declared.place.Place.{Place}
use Rattle.pr_ast.specs.declared.names.Func.{Func}
use Rattle.pr_parse.specs.declared.grammar.kind.Lexed.{Lexed}
use Rattle.pr_parse.specs.Seen.{see, place_of}
use Rattle.pr_parse.specs.Grammar.{is_label, is_metric, is_text, text_of, label_at, metric_at, text_at, function_of, function_at, word, quoted, function}

pub label_taken : (named : Bool) (x : Lexed) (p : Place) (t : List ℕ) (b : Bool) → b ≡ is_label named x.kind → b ≡ true → p ≡ place_of x.token → t ≡ text_of x.token.kind → label_at named (see x) ≡ Some (word p t)
label_taken named x p t b e h i j = rw (i, j, sym e ∙ h) refl

pub label_lacked : (named : Bool) (x : Lexed) (b : Bool) → b ≡ is_label named x.kind → b ≡ false → label_at named (see x) ≡ None
label_lacked named x b e h = rw (sym e ∙ h) refl

pub metric_taken : (x : Lexed) (p : Place) (t : List ℕ) (b : Bool) → b ≡ is_metric x.kind → b ≡ true → p ≡ place_of x.token → t ≡ text_of x.token.kind → metric_at (see x) ≡ Some (word p t)
metric_taken x p t b e h i j = rw (i, j, sym e ∙ h) refl

pub metric_lacked : (x : Lexed) (b : Bool) → b ≡ is_metric x.kind → b ≡ false → metric_at (see x) ≡ None
metric_lacked x b e h = rw (sym e ∙ h) refl

pub text_taken : (x : Lexed) (t : List ℕ) (b : Bool) → b ≡ is_text x.kind → b ≡ true → t ≡ text_of x.token.kind → text_at (see x) ≡ Some (quoted t)
text_taken x t b e h j = rw (j, sym e ∙ h) refl

pub text_lacked : (x : Lexed) (b : Bool) → b ≡ is_text x.kind → b ≡ false → text_at (see x) ≡ None
text_lacked x b e h = rw (sym e ∙ h) refl

pub function_taken : (x : Lexed) (f : Func) (p : Place) (t : List ℕ) (o : Option Func) → o ≡ function_of x.kind → o ≡ Some f → p ≡ place_of x.token → t ≡ text_of x.token.kind → function_at (see x) ≡ Some (function f p t)
function_taken x f p t o e h i j = rw (i, j, sym e ∙ h) refl

pub function_lacked : (x : Lexed) (o : Option Func) → o ≡ function_of x.kind → o ≡ None → function_at (see x) ≡ None
function_lacked x o e h = rw (sym e ∙ h) refl
