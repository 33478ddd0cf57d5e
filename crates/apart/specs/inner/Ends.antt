-- Whether the search of a call stops at an axis apart. Definitions only.
use Rattle.std.specs.Prelude.{Bool, true, false}
use Rattle.axis.specs.declared.Search.{Search}

unfoldable pub ends_apart : Search → Bool
ends_apart (Search.Apart axis) = true
ends_apart (Search.Found found) = false
