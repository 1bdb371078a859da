-- `put_four` meets its contract: one block behind the other.
use mathlib.Core.Path.{◌≡◌, refl, ap, ◌∙◌}
use mathlib.Core.List.{List, ◌++◌}
use Prim.Native.Nat.{ℕ, ◌*◌}
use native.Mathlib.Omega.{arith}
use lib.ListN.{length, length-append}
use Rattle.lists.specs.Splice.{splice}
use Rattle.lent_bytes.specs.Lent.{bytes_of, bytes-then}
use Rattle.arm_bytes.specs.ArmCalls.{reset_blocks}
use Rattle.arm_bytes.proofs.arm_lists.put_four.Goals as goal

pub returns : goal.returns
unfolding reset_blocks
returns c =
    let o = c.args.out.now in
    let x = c.args.x.now in
    let k = 8 * length x in
    let l₂ : length (x ++ x) ≡ 2 * length x = length-append x x ∙ omega arith in
    let l₃ : length ((x ++ x) ++ x) ≡ 3 * length x = length-append (x ++ x) x ∙ omega arith in
    let e₂ = c.put_floats-2.ensures ∙ ap (λ (l : List ℕ). splice l k (bytes_of x)) c.put_floats.ensures ∙ bytes-then o x x k refl (omega (arith, c.requires)) in
    let e₃ = c.put_floats-3.ensures ∙ ap (λ (l : List ℕ). splice l (2 * k) (bytes_of x)) e₂ ∙ bytes-then o (x ++ x) x (2 * k) (omega arith) (omega (arith, c.requires)) in
    c.put_floats-4.ensures ∙ ap (λ (l : List ℕ). splice l (3 * k) (bytes_of x)) e₃ ∙ bytes-then o ((x ++ x) ++ x) x (3 * k) (omega arith) (omega (arith, c.requires))
