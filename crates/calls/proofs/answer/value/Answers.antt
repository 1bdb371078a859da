-- `value` meets its contract: case by case.
use mathlib.Core.Path.{◌≡◌, refl, ◌∙◌}
use lib.Ieee.{Float, nan}
use Rattle.std.specs.Prelude.{Result, Ok, Err}
use Rattle.std.specs.Result.{result_unwrap_or}
use Rattle.standins.specs.Num.{nought-over-nought}
use Rattle.refusals.specs.declared.refusal.Refusal.{Refusal}
use Rattle.calls.specs.Answer.{answer_value}
use Rattle.calls.proofs.answer.value.Goals as goal

value_or : (r : Result Float Refusal) (d : Float) → d ≡ nan → result_unwrap_or r d ≡ answer_value r
value_or (Ok v) d e = refl
value_or (Err x) d e = e

pub returns : goal.returns
returns c = c.unwrap_or.ensures ∙ value_or c.args.answer _ nought-over-nought
