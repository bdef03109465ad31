-- What arguments give that are no ranges.
use Rattle.std.specs.Prelude.{List, map, None}
use Rattle.spec_meaning.specs.declared.value.Value.{Value}
use Rattle.spec_meaning.specs.Given.{Given}
use Rattle.spec_meaning.specs.Meaning.{given}

abbrev pub all_plain : List Value → List Given
all_plain vs = map (given None) vs
