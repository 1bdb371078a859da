-- What the codes list says of a link; past its end there is nothing to move.
use Rattle.std.specs.Prelude.{List, ℕ, get_or}
use Rattle.sheet.specs.declared.code.Kind.{Kind}
use Rattle.sheet.specs.Code.{kind_of}

unfoldable pub kind_at : List ℕ → ℕ → Kind
kind_at cs l = kind_of (get_or cs l 0)
