-- `decode` meets its contract: the four one behind the other.
use mathlib.Core.Path.{refl}
use lib.ListN.{replicate}
use Rattle.standins.specs.Num.{nought}
use Rattle.lent_bytes.specs.ToolLists.{tools-made}
use Rattle.lent_bytes.proofs.tool_lists.decode.Goals as goal

pub returns : goal.returns
returns c =
    tools-made _ _ _ _ (replicate 32 nought) _ _ _ _ _ _ _ _ refl c.tool-first.ensures c.tool-second.ensures c.tool-third.ensures c.tool-fourth.ensures
    c.put.ensures c.put-2.ensures c.put-3.ensures c.put-4.ensures
