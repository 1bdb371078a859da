-- `seven` meets its contract: by the count that was decoded.
use mathlib.Core.Path.{ap, ◌∙◌}
use lib.ListN.{replicate}
use Rattle.standins.specs.Num.{nought-over-nought}
use Rattle.lent_bytes.specs.ToolLists.{seven-read, not-seven}
use Rattle.lent_bytes.proofs.tool_lists.seven.Goals as goal

pub returns-then-n-eq7 : goal.returns-then-n-eq7
returns-then-n-eq7 c = seven-read c.args.b.now c.decode-n.new.out c.decode-n.result c.decode-n.ensures c.decode-n.auto.out c.if-n-eq7.true

pub returns : goal.returns
returns c = ap (replicate 7) nought-over-nought ∙ not-seven c.args.b.now c.decode-n.new.out c.decode-n.result c.decode-n.ensures c.if-n-eq7.false
