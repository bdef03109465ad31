-- Words of laws and examples, which nothing of the promise names.
use Rattle.spec_vectors.specs.private.Laws.{IsVector}
use Rattle.spec_meaning.specs.declared.value.Value.{Value}
use Rattle.spec_meaning.specs.declared.value.Value.TheVariants.{Scalar, Vector}

-- a vector is in label order, with distinct label sets
abbrev pub IsAnswer : Value → Type 0
IsAnswer (Scalar v) = Unit {0}
IsAnswer (Vector items) = IsVector items
