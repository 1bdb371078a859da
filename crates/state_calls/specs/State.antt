-- What is kept between calls.
use Rattle.std.specs.Prelude.{◌≡◌, refl, Bool, true, false, cond, List, ℕ, ◌+◌, ◌*◌, ◌≤◌, eqb, ltb, Float, length, replicate, take, drop, get_or}
use Rattle.std.proofs.lemmas.Bool.{false≢true}
use Rattle.std.proofs.Common.{ltb-false, eqb-true}
use Rattle.standins.specs.Num.{nought}
use Rattle.sheet.specs.Chain.{total, joints}
use Rattle.refusals.specs.Refusal.{shape_refusal}
use Rattle.state_calls.specs.declared.state.Arms.{Arms}
use Rattle.state_calls.specs.declared.state.Weights.{Weights}
use Rattle.state_calls.specs.declared.state.Party.{Party}
use Rattle.state_calls.specs.declared.state.State.{State}
use Rattle.state_calls.specs.declared.state.InUse.{InUse}

-- floats behind a list's own, up to n in all
abbrev pub zeros : ℕ → List Float
zeros n = replicate n nought

unfoldable pub empty_party : Party
empty_party = record {
  has_goals = false;
  goals = zeros 52;
  started = false;
  history = record { joints = 0; xopt = zeros 16; prev_state = zeros 16; prev_state2 = zeros 16; prev_state3 = zeros 16 };
  start_poses = zeros 28;
}

unfoldable pub empty_arms : Arms
empty_arms = record { sizes = replicate 5 0; codes = replicate 64 0; floats = zeros 448; limits = zeros 32; tools = zeros 32 }

-- no list of weights
unfoldable pub no_weights : Weights
no_weights = record { loaded = false; list = zeros 8 }

unfoldable pub empty_state : State
empty_state = record { arms = empty_arms; weights = no_weights; party = empty_party }

-- ---- the sheet in the state: the chain count says how much of each list is in use
unfoldable pub sizes_used : List ℕ → List ℕ
sizes_used ss = take (get_or ss 0 0 + 1) ss

-- the links per chain
unfoldable pub links_used : List ℕ → List ℕ
links_used ss = take (get_or ss 0 0) (drop 1 ss)

unfoldable pub codes_used : List ℕ → List ℕ → List ℕ
codes_used ss cs = take (total (links_used ss)) cs

unfoldable pub floats_used : List ℕ → List Float → List Float
floats_used ss gs = take (7 * total (links_used ss)) gs

-- two limits a joint
unfoldable pub limits_used : List ℕ → List ℕ → List Float → List Float
limits_used ss cs ls = take (2 * joints (codes_used ss cs)) ls

-- eight floats a chain
unfoldable pub tools_used : List ℕ → List Float → List Float
tools_used ss tools = take (8 * length (links_used ss)) tools

-- thirteen floats a chain
unfoldable pub goals_used : List ℕ → List Float → List Float
goals_used ss goals = take (13 * length (links_used ss)) goals

-- a block of the history: a float a joint
unfoldable pub block_used : List ℕ → List ℕ → List Float → List Float
block_used ss cs x = take (joints (codes_used ss cs)) x

-- arms are there: at most four chains and 64 links, of lengths and codes that loading takes
unfoldable pub have_sheet : List ℕ → List ℕ → Bool
have_sheet ss cs =
    cond (ltb 4 (get_or ss 0 0)) false
    (cond (ltb 64 (total (links_used ss))) false
    (eqb (shape_refusal (sizes_used ss) (codes_used ss cs) (7 * total (links_used ss))) 0))

-- 20 where they are not
abbrev pub arms_number : List ℕ → List ℕ → ℕ
arms_number ss cs = cond (have_sheet ss cs) 0 20

-- what is in use of a stored sheet
pub record IsInUse (a : Arms) (u : InUse) : Type 0 where
  pub have : have_sheet a.sizes a.codes ≡ true
  pub chains : length u.counts.now ≡ get_or a.sizes 0 0
  pub counts : u.counts.now ≡ links_used a.sizes
  pub codes : u.codes.now ≡ codes_used a.sizes a.codes
  pub floats : u.floats.now ≡ floats_used a.sizes a.floats

-- ---- laws
-- what a stored sheet has
pub record Stored (ss cs : List ℕ) : Type 0 where
  pub few : get_or ss 0 0 ≤ 4
  pub links : total (links_used ss) ≤ 64
  pub shape : shape_refusal (sizes_used ss) (codes_used ss cs) (7 * total (links_used ss)) ≡ 0

both_left : (a b t : Bool) → cond a false (cond b false t) ≡ true → (a ≡ false) × (b ≡ false) × (t ≡ true)
both_left true b t e = absurd (false≢true e)
both_left false true t e = absurd (false≢true e)
both_left false false t e = (refl, refl, e)

pub stored : (ss cs : List ℕ) → have_sheet ss cs ≡ true → Stored ss cs
unfolding have_sheet
stored ss cs e =
    let p = both_left _ _ _ e in
    record { few = ltb-false 4 _ p.0; links = ltb-false 64 _ p.1; shape = eqb-true _ 0 p.2 }
