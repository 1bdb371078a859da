-- What an accepted sheet has, for the calls on it.
use Rattle.std.specs.Prelude.{◌≡◌, cond, List, ℕ, ◌*◌, ◌≤◌, ◌<◌, eqb, Float, length}
use Rattle.std.proofs.Common.{ap, ◌∙◌, arith, eq-eqb, ne_eqb}
use Rattle.lists.specs.Splice.{splice}
use Rattle.sheet.specs.Chain.{total, joints}
use Rattle.spacetime.specs.Walk.{Sheet, pose_of, list_pose, frames_of, frames-pose}
use Rattle.spacetime.specs.Frames.{Chains}
use Rattle.refusals.specs.Refusal.{links_of, shape_refusal, block_refusal}
use Rattle.refusals.specs.Passed.{Shape, shape-passed, block-passed}

-- ns are the links per chain, cs the codes, gs seven floats a link
pub record Accepted (ns cs : List ℕ) (gs : List Float) : Type 0 where
  pub chains : Chains ns
  pub whole : total ns ≡ length cs
  pub links : length cs ≤ 64
  pub floats : length gs ≡ 7 * length cs
  pub few : joints cs ≤ 16

-- a list that a call writes: as it was where the call is refused
unfoldable pub if_taken : {A : Type 0} → ℕ → List A → List A → List A
if_taken r old new = cond (eqb r 0) new old

-- ---- laws
pub arms-passed : (sizes cs : List ℕ) (gs : List Float) → shape_refusal sizes cs (length gs) ≡ 0 → Accepted (links_of sizes) cs gs
arms-passed sizes cs gs e =
    let s : Shape sizes cs (length gs) = shape-passed sizes cs (length gs) e in
    record {
      chains = record { few = omega (arith, s.sized.long, s.sized.few); some = λ c h. (s.sized.links c (omega (arith, s.sized.long))).0 };
      whole = s.whole;
      links = s.most;
      floats = s.wide;
      few = s.moving;
    }

pub sheet-of : (ns cs : List ℕ) (gs x : List Float) → Accepted ns cs gs → block_refusal cs x ≡ 0 → Sheet ns cs gs x
sheet-of ns cs gs x a e = record { whole = a.whole; chains = a.chains.few; links = a.links; floats = a.floats; block = block-passed cs x e }

-- the poses of the walk, in a list that has room for those of 64 links
pub walked : (ns cs : List ℕ) (gs x rest r : List Float) → Accepted ns cs gs → length rest ≡ 448 → r ≡ splice rest 0 (frames_of ns cs gs x)
    → (l : ℕ) → l < total ns → list_pose r l ≡ pose_of ns cs gs x l
walked ns cs gs x rest r a room e l h =
    ap (λ (z : List Float). list_pose z l) e ∙ frames-pose ns cs gs x rest l (omega (arith, a.links)) (omega (arith, a.whole))

pub taken : {A : Type 0} (r : ℕ) (old new : List A) → r ≡ 0 → if_taken r old new ≡ new
unfolding if_taken
taken r old new e = rw (eq-eqb r 0 e)

pub refused : {A : Type 0} (r : ℕ) (old new : List A) → (r ≡ 0 → ⊥) → if_taken r old new ≡ old
unfolding if_taken
refused r old new h = rw (ne_eqb r 0 h)
