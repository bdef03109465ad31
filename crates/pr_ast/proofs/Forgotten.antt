-- What is said of a tree does not speak of its places.
use Rattle.std.proofs.Common.{◌≡◌, refl}
use Rattle.pr_ast.specs.Tree.{Tree, number, text, select, range, sub, neg, binary, call, aggregate, none, more}
use Rattle.pr_ast.specs.private.Places.{forget}
use Rattle.pr_ast.specs.private.Print.{tree_text, is_operation, comma_text}
use Rattle.pr_ast.specs.Reach.{reads_back}
use Rattle.pr_ast.specs.private.Steps.{has_steps}

operation_same : (t : Tree) → is_operation (forget t) ≡ is_operation t
operation_same none = refl
operation_same _ = refl

comma_same : (t : Tree) → comma_text (forget t) ≡ comma_text t
comma_same none = refl
comma_same _ = refl

pub text_same : (t : Tree) → tree_text (forget t) ≡ tree_text t
text_same (sub p t span step offset) = rw (operation_same t, text_same t) refl
text_same (neg p t) = rw (operation_same t, text_same t) refl
text_same (binary p o b m l r) = rw (operation_same l, text_same l, operation_same r, text_same r) refl
text_same (call p f ts) = rw (text_same ts) refl
text_same (aggregate p o g ts) = rw (text_same ts) refl
text_same (more ts t) = rw (text_same ts, comma_same ts, text_same t) refl
text_same (number p v) = refl
text_same (text p t) = refl
text_same (select p s) = refl
text_same (range p s span) = refl
text_same none = refl

pub reach_same : (t : Tree) → reads_back (forget t) ≡ reads_back t
reach_same (sub p t span step offset) = rw (reach_same t) refl
reach_same (neg p t) = reach_same t
reach_same (binary p o b m l r) = rw (reach_same l, reach_same r) refl
reach_same (call p f ts) = reach_same ts
reach_same (aggregate p o g ts) = reach_same ts
reach_same (more ts t) = rw (reach_same ts, reach_same t) refl
reach_same (number p v) = refl
reach_same (text p t) = refl
reach_same (select p s) = refl
reach_same (range p s span) = refl
reach_same none = refl

pub steps_same : (t : Tree) → has_steps (forget t) ≡ has_steps t
steps_same (sub p t span step offset) = rw (steps_same t) refl
steps_same (neg p t) = steps_same t
steps_same (binary p o b m l r) = rw (steps_same l, steps_same r) refl
steps_same (call p f ts) = steps_same ts
steps_same (aggregate p o g ts) = steps_same ts
steps_same (more ts t) = rw (steps_same ts, steps_same t) refl
steps_same (number p v) = refl
steps_same (text p t) = refl
steps_same (select p s) = refl
steps_same (range p s span) = refl
steps_same none = refl

pub forget_again : (t : Tree) → forget (forget t) ≡ forget t
forget_again (sub p t span step offset) = rw (forget_again t) refl
forget_again (neg p t) = rw (forget_again t) refl
forget_again (binary p o b m l r) = rw (forget_again l, forget_again r) refl
forget_again (call p f ts) = rw (forget_again ts) refl
forget_again (aggregate p o g ts) = rw (forget_again ts) refl
forget_again (more ts t) = rw (forget_again ts, forget_again t) refl
forget_again (number p v) = refl
forget_again (text p t) = refl
forget_again (select p s) = refl
forget_again (range p s span) = refl
forget_again none = refl
