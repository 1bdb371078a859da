-- `entries` meets its contract: by what its calls ensure.
use mathlib.Core.Path.{ap, ◌∙◌}
use mathlib.Core.List.{List}
use Prim.Native.Nat.{ℕ}
use native.Mathlib.Omega.{arith}
use lib.ListN.{length}
use Rattle.sheet.specs.Chain.{total}
use Rattle.one_block.specs.Record.{entries_of}
use Rattle.one_block_bytes.proofs.one_block_lists.entries.Goals as goal

pub entries-requires : goal.entries-requires
entries-requires c =
    let p = c.requires in
    let e = c.links.ensures in
    (ap total e ∙ p.whole, omega (arith, ap length e, p.chains), p.links)

pub returns : goal.returns
returns c = c.entries.ensures ∙ ap (λ (ns : List ℕ). entries_of ns c.args.codes.now) c.links.ensures
