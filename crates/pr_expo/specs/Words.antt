-- The names of what makes a line no line of an exposition.
use Rattle.std.specs.Prelude.{ℕ, List, codes}
use Rattle.pr_expo.specs.declared.expo_line.place.ExpoKind.{ExpoKind}
use Rattle.pr_expo.specs.declared.expo_line.place.ExpoKind.TheVariants as expo

unfoldable pub expo_word : ExpoKind → List ℕ
expo_word expo.NotText = codes "NotText"
expo_word expo.BadName = codes "BadName"
expo_word expo.BadLabels = codes "BadLabels"
expo_word expo.DuplicateLabel = codes "DuplicateLabel"
expo_word expo.BadValue = codes "BadValue"
expo_word expo.BadTime = codes "BadTime"
expo_word expo.BadType = codes "BadType"
