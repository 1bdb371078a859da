-- `tool` meets its contract: none without a byte, else the mark and the list's seven.
use mathlib.Core.Path.{sym, ap, ◌∙◌}
use native.Mathlib.Omega.{arith}
use lib.ListN.{replicate}
use Rattle.lists.specs.Splice.{splice}
use Rattle.standins.specs.Num.{one}
use Rattle.lent_bytes.specs.ToolLists.{eight-left-out, marked}
use Rattle.lent_bytes.proofs.tool_lists.tool.Goals as goal

pub returns-then-b-eq0 : goal.returns-then-b-eq0
returns-then-b-eq0 c = sym (eight-left-out _ (omega arith))

pub returns : goal.returns
returns c = c.put.ensures ∙ ap (splice (replicate 8 one) 1) c.seven-floats.ensures ∙ marked _ (λ z. omega arith)
