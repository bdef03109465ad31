use Rattle.std.proofs.Common.{◌≡◌, take, string_bytes}
use Rattle.pr_fn.specs.private.Separated.{with_rest}
use Rattle.pr_fn.proofs.label_functions.push_rest.Given as goal

-- the texts so far
abbrev pub invariant-loop-name : goal.invariant-loop-name
invariant-loop-name l = string_bytes l.text ≡ with_rest l.separator l.labels (string_bytes l.fn.text) (take l.name-index l.names)
