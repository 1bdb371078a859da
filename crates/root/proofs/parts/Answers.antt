-- `root::parts` meets its contract: a subnormal is moved up by its leading zeros, and then both cases go to `even`.
use Prim.Native.Nat.{ℕ, suc, ◌-◌, ◌/◌, ◌%◌, ◌≤◌, ◌<◌}
use mathlib.Core.Path.{◌≡◌, sym, subst}
use native.Mathlib.Omega.{arith}
use lib.Count.{count_leading_zeros}
use Rattle.root.proofs.Fields.{Moved, moved, low_parts, high_parts}
use Rattle.root.proofs.parts.Goals as goal

-- a pattern that is not 0 and has the field 0 has digits
low_field : (b : ℕ) → 0 < b → b / 4503599627370496 ≡ 0 → Moved (b % 4503599627370496) (count_leading_zeros 64 (b % 4503599627370496))
low_field b p e = moved (b % 4503599627370496) (omega arith) (omega arith)

some : (e : ℕ) → (e ≡ 0 → ⊥) → e ≡ suc (e - 1)
some e h = omega arith

pub overflow_sub-z : goal.overflow_sub-z
overflow_sub-z c = let m = low_field c.args.b c.requires.0 c.if-e-eq0.true in omega arith

pub even-requires : goal.even-requires
even-requires c =
    let m = low_field c.args.b c.requires.0 c.if-e-eq0.true in
    (subst (λ (x : ℕ). 4503599627370496 ≤ x) (sym m.exact) m.least, subst (λ (x : ℕ). x < 9007199254740992) (sym m.exact) m.most, omega arith)

pub returns-then-e-eq0 : goal.returns-then-e-eq0
returns-then-e-eq0 c = low_parts c.args.b _ _ _ c.if-e-eq0.true (low_field c.args.b c.requires.0 c.if-e-eq0.true) c.even.ensures

pub returns : goal.returns
returns c = high_parts c.args.b (c.args.b / 4503599627370496 - 1) _ _ (some (c.args.b / 4503599627370496) c.if-e-eq0.false) c.even-2.ensures
