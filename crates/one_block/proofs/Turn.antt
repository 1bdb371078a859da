-- A joint's turn: what the answers of `one_joint` read of the raised block, and of the record once its links are walked again.
use mathlib.Core.Path.{◌≡◌, sym, ap, ◌∙◌}
use mathlib.Core.List.{List}
use Prim.Native.Nat.{ℕ, ◌+◌, ◌-◌, ◌*◌, ◌≤◌, ◌<◌}
use native.Mathlib.Omega.{arith}
use lib.Ieee.{Float}
use lib.ListN.{length, get_or, take, drop, length-drop}
use lib.Seq.{take_all}
use Rattle.lists.specs.Splice.{splice, take-splice-before}
use Rattle.lists.specs.Runs.{runs}
use Rattle.sheet.specs.Chain.{end_in, joint_of}
use Rattle.spacetime.specs.Walk.{poses, frames_of}
use Rattle.gradient.specs.Slopes.{step}
use Rattle.gradient.specs.Gradient.{raised_by}
use Rattle.gradient.specs.Ready.{Ready}
use Rattle.one_block.specs.Record.{copy_of, entries_of, Room, AtTurn}
use Rattle.one_block.specs.Laws.{copy-joint, joint-small, joint-in-block, Fits, fits}
use Rattle.one_block.specs.declared.grad.Turn.{Turn}

-- the record from an entry on, as a slice names it
pub rest : (fs : List Float) (at : ℕ) → take (length fs - at) (drop at fs) ≡ drop at fs
rest fs at = take_all (length fs - at) (drop at fs) (omega (arith, length-drop at fs))

-- the record, where the links of the joint's copy stand from the turn's entry on, and the first walk in front
pub record Again (ns cs : List ℕ) (gs x : List Float) (t : Turn) (frames₀ frames : List Float) : Type 0 where
  pub walked : frames ≡ splice frames₀ (7 * t.here.at) (runs (poses ns cs gs (copy_of x (joint_of cs t.link))) t.link (end_in ns t.link - t.link))
  pub first : take (7 * length cs) frames ≡ frames_of ns cs gs x
  pub room : 7 * t.here.at + 7 * (end_in ns t.link - t.link) ≤ length frames₀

module _ (ns cs : List ℕ) (task gs x : List Float) (ready : Ready ns cs task gs x) (t : Turn) (frames₀ : List Float) (at : AtTurn ns cs gs x t frames₀) (turns : get_or cs t.link 0 ≡ 0 → ⊥) where
  pub turn-within : t.here.joint < length x
  turn-within = omega (arith, at.meets.number, joint-in-block ns cs gs x ready.sheet t.link at.inside turns)

  pub turn-fits : Fits ns cs t.link t.here.at
  turn-fits = fits ns cs t.link t.here.at turns at.inside ready.sheet.whole at.next

  pub turn-starts : (joints links : List ℕ) → Room joints links frames₀ (entries_of ns cs) → 7 * t.here.at ≤ length frames₀
  turn-starts joints links room = omega (arith, turn-fits.room, room)

  pub turn-copied : (block : List Float) → block ≡ raised_by step x t.here.joint → block ≡ copy_of x (joint_of cs t.link)
  turn-copied block e =
      e ∙ ap (raised_by step x) at.meets.number
      ∙ sym (copy-joint x (joint_of cs t.link) (omega (arith, joint-small ns cs gs x ready.sheet t.link (omega (arith, at.inside)))))

  pub turn-again : (joints links : List ℕ) → Room joints links frames₀ (entries_of ns cs) → (block frames : List Float) (to : ℕ) → block ≡ raised_by step x t.here.joint → to ≡ end_in ns t.link
      → frames ≡ splice frames₀ (7 * t.here.at) (runs (poses ns cs gs block) t.link (to - t.link)) → Again ns cs gs x t frames₀ frames
  turn-again joints links room block frames to e ends made =
      let y : List Float = copy_of x (joint_of cs t.link) in
      let walked : frames ≡ splice frames₀ (7 * t.here.at) (runs (poses ns cs gs y) t.link (end_in ns t.link - t.link)) = rw (← turn-copied block e, ← ends) made in
      record {
        walked = walked;
        first =
            ap (take (7 * length cs)) walked
            ∙ take-splice-before frames₀ (7 * t.here.at) (7 * length cs) (runs (poses ns cs gs y) t.link (end_in ns t.link - t.link)) (omega (arith, at.next)) (omega (arith, turn-fits.room, room))
            ∙ at.walked;
        room = omega (arith, turn-fits.room, room);
      }
