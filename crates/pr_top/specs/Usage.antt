-- What is written where the words are none of the forms.
use Rattle.std.specs.Prelude.{ℕ, List, ◌++◌, codes}

unfoldable pub usage_text : List ℕ
usage_text =
    codes "usage: promtool run [--store FILE] | test rules FILE... | check rules FILE... | check metrics"
    ++ codes " | exercise N | backfill STORE START END STEP FILE...\n"
