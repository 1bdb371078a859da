-- `set_tool` meets its contract: a tool that is taken fits the array.
use mathlib.Core.Path.{◌≡◌, sym}
use native.Mathlib.Omega.{arith}
use lib.ListN.{length}
use Rattle.refusals.specs.Passed.{tool-passed}
use Rattle.state_calls.specs.State.{stored}
use borrow.Author.Rules.{rules}
use Rattle.state_calls.proofs.tool.set_tool.Goals as goal

pub overflow_mul-chain : goal.overflow_mul-chain
overflow_mul-chain c =
    let sheet = c.in_ok-sheet.ensures.sheet in
    omega (arith, tool-passed _ c.args.chain c.args.tool.now (sym c.in_ok-tool_refusal.ensures), sheet.chains, (stored _ _ sheet.have).few)

pub put_tool-requires : goal.put_tool-requires
put_tool-requires c =
    let whole : length c.args.state.arms.tools ≡ 32 = search rules in
    let sheet = c.in_ok-sheet.ensures.sheet in
    omega (arith, tool-passed _ c.args.chain c.args.tool.now (sym c.in_ok-tool_refusal.ensures), sheet.chains, (stored _ _ sheet.have).few, whole)
