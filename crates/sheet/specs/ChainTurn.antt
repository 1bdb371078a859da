-- A turn of a loop over the chains that carries the next link and its joint's number.
use Rattle.std.specs.Prelude.{◌≡◌, List, ℕ, ◌+◌, ◌-◌, ◌≤◌, ◌<◌, length, get_or}
use Rattle.std.proofs.Common.{ap, ◌∙◌, arith}
use Rattle.sheet.specs.Chain.{total, chain_start, chain-start-next, chain-start-total, chain-start-mono, joint_of, joint-mono, chain_length}

module _ (ns cs : List ℕ) (c link : ℕ) (at : link ≡ chain_start ns c) where
  pub next-link : link + get_or ns c 0 ≡ chain_start ns (c + 1)
  next-link = omega (arith, at, chain-start-next ns c)

  -- the chain's links have codes
  pub links-inside : c < length ns → total ns ≡ length cs → link + get_or ns c 0 ≤ length cs
  links-inside h w = omega (arith, next-link, chain-start-mono ns (c + 1) (length ns) (omega arith), chain-start-total ns)

  module _ (joint next : ℕ) (here : joint ≡ joint_of cs (chain_start ns c)) (e : next ≡ joint_of cs (link + get_or ns c 0)) where
    pub next-joint : next ≡ joint_of cs (chain_start ns (c + 1))
    next-joint = e ∙ ap (joint_of cs) next-link

    pub joint-grows : joint ≤ next
    joint-grows = omega (arith, here, next-joint, joint-mono cs (chain_start ns c) (chain_start ns (c + 1)) (omega (arith, chain-start-next ns c)))

    pub length-here : next - joint ≡ chain_length ns cs c
    unfolding chain_length
    length-here = rw (next-joint, here)
