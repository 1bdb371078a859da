-- The tools of an arm, one list: eight floats a chain, 1 where it has a tool, then the tool's displacement and offset, as a link has them.
use Rattle.std.specs.Prelude.{Bool, List, ℕ, ◌*◌, Float, get_or}
use Rattle.std.specs.Float.{binary64, nan}
use Rattle.std.specs.Float.Ieee.{of_bits, eq}

-- chain c has a tool; past the list's end there is none
unfoldable pub has_tool : List Float → ℕ → Bool
has_tool tools c = eq (get_or tools (8 * c) nan) (of_bits binary64 0x3ff0_0000_0000_0000)
