-- The gradient on one block and the one on two blocks: of the same lists, where both are accepted, they answer the same.
use Rattle.std.specs.Prelude.{◌≡◌, List, ℕ, Float, Result}
use Rattle.std.proofs.Common.{sym, ap, ◌∙◌}
use Rattle.lists.specs.Splice.{splice}
use Rattle.task.specs.Task.{Given}
use Rattle.gradient.specs.Gradient.{value_at, gradient_of}
use Rattle.refusals.specs.declared.refusal.Refusal.{Refusal}
use Rattle.calls.specs.Arms.{if_taken, taken}
use Rattle.calls.specs.Answer.{number_of, answer_value, value_if, answer_of, value_taken, answer-is}

-- what both calls promise of block x: answer r, and the slopes list, which held `before` and holds `after`
pub record Answers (g : Given) (gs x before : List Float) (r : Result Float Refusal) (after : List Float) : Type 0 where
  pub value : answer_value r ≡ value_if (number_of r) (value_at g gs x)
  pub slopes : after ≡ if_taken (number_of r) before (splice before 0 (gradient_of g gs x))

module _ (g : Given) (gs x before : List Float) where
  -- an accepted call answers the definition: the objective's value, and its gradient made of copies walked afresh
  pub defined : (r : Result Float Refusal) (after : List Float) → Answers g gs x before r after → number_of r ≡ 0
      → (r ≡ answer_of 0 (value_at g gs x)) × (after ≡ splice before 0 (gradient_of g gs x))
  defined r after a e =
      let v : answer_value r ≡ value_at g gs x = a.value ∙ value_taken (number_of r) (value_at g gs x) e in (
        answer-is r ∙ ap (λ (n : ℕ). answer_of n (answer_value r)) e ∙ ap (answer_of 0) v,
        a.slopes ∙ taken (number_of r) before (splice before 0 (gradient_of g gs x)) e,
      )

  pub agree : (r s : Result Float Refusal) (one two : List Float) → Answers g gs x before r one → Answers g gs x before s two → number_of r ≡ 0 → number_of s ≡ 0
      → (r ≡ s) × (one ≡ two)
  agree r s one two a b e f =
      let p = defined r one a e in
      let q = defined s two b f in
      (p.0 ∙ sym q.0, p.1 ∙ sym q.1)
