-- What is wrong with a list, as the numbers of `damage_by`.
use Rattle.std.specs.Prelude.{◌≡◌, ℕ, Result, Ok, Err}
use Rattle.std.proofs.Common.{arith}
use Rattle.stored_answers.specs.declared.damage.Damage.{Damage}
use Rattle.stored_answers.specs.declared.damage.Damage.TheVariants.{CutShort, UnknownCall, BytesBehind}

-- 0 where the list is whole
abbrev pub damage_number : Result (Unit {0}) Damage → ℕ
damage_number (Ok u) = 0
damage_number (Err CutShort) = 1
damage_number (Err UnknownCall) = 2
damage_number (Err BytesBehind) = 3

-- ---- law
pub damage-some : (d : Damage) → damage_number (Err d) ≡ 0 → ⊥
damage-some CutShort e = omega arith
damage-some UnknownCall e = omega arith
damage-some BytesBehind e = omega arith
