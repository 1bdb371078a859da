-- A chain under six joints has manipulability 0 whatever its poses, so where every chain is such nothing needs to be walked.
use Rattle.std.specs.Prelude.{◌≡◌, Bool, true, false, not, List, ltb, Float, length}
use Rattle.std.proofs.Math.Path.{refl, ap}
use Rattle.std.proofs.Common.{◌∙◌}
use Prim.Native.Nat.{ℕ, zero, suc}
use Rattle.std.proofs.Math.Numerals.{add-one}
use Rattle.std.specs.Float.Ieee.{add, of_bits, of_int}
use Rattle.std.proofs.lemmas.Bool.{not-false}
use Rattle.standins.specs.Num.{◌⊕◌, nought}
use Rattle.geometry.specs.declared.pose.Pose.{Pose}
use Rattle.sheet.specs.Chain.{chain_start, chain_length}
use Rattle.manipulability.specs.Jacobian.{manipulability_in, manipulability_to, manipulability_of}
use Rattle.lists.specs.Tests.{and-true}
use Rattle.refusals.specs.Range.{every}

-- chain c has fewer than six joints
unfoldable pub under_six : List ℕ → List ℕ → ℕ → Bool
under_six ns cs c = ltb (chain_length ns cs c) 6

-- some chain has six joints or more
unfoldable pub any_six : List ℕ → List ℕ → Bool
any_six ns cs = not (every (under_six ns cs) (length ns))

-- ---- laws
zeros : (nought ⊕ nought) ≡ nought
unfolding add of_bits of_int
zeros = refl

module _ (P : ℕ → Pose) (ns cs : List ℕ) where
  under-six : (c : ℕ) → under_six ns cs c ≡ true → manipulability_in P cs (chain_start ns c) (chain_start ns (suc c)) ≡ nought
  unfolding under_six chain_length manipulability_in
  under-six c e = rw (rw add-one at e)

  none-to : (c : ℕ) → every (under_six ns cs) c ≡ true → manipulability_to P ns cs c ≡ nought
  unfolding every manipulability_to
  none-to zero e = refl
  none-to (suc c) e =
      let a = and-true (every (under_six ns cs) c) (under_six ns cs c) e in
      ap (λ (s : Float). s ⊕ manipulability_in P cs (chain_start ns c) (chain_start ns (suc c))) (none-to c a.0)
      ∙ ap (λ (v : Float). nought ⊕ v) (under-six c a.1) ∙ zeros

  -- then the sum over the chains is 0
  pub none-six : any_six ns cs ≡ false → manipulability_of P ns cs ≡ nought
  unfolding any_six manipulability_of
  none-six e = none-to (length ns) (not-false _ e)
