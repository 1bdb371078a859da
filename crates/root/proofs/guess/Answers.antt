-- `root::guess`: the pattern that it makes is a number's.
use Prim.Native.Nat.{◌/◌, ◌^◌}
use native.Mathlib.Nat.{div-le_self}
use native.Mathlib.Omega.{arith}
use Rattle.root.proofs.Patterns.{no-nan-bits}
use Rattle.root.proofs.guess.Goals as goal

pub float_from_bits-u : goal.float_from_bits-u
float_from_bits-u c = let d = div-le_self c.args.a (2 ^ (c.args.a / 9007199254740992)) in no-nan-bits _ (omega arith)
