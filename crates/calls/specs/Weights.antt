-- The built-in weights: they are weights that may be loaded, and with them the objectives look at what they looked at before there were others.
use Rattle.std.specs.Prelude.{◌≡◌, refl}
use Rattle.std.specs.Float.Ieee.{le, of_bits}
use Rattle.task.specs.Task.{Given}
use Rattle.refusals.specs.Range.{every}
use Rattle.refusals.specs.Refusal.{weight_fits, weight_fits_at, bad_weights, weights_refusal}
use Rattle.objective_master.specs.Weights.{weight_priors}

-- all as it is, with the built-in weights
unfoldable pub built_in : Given → Given
built_in g =
    record {
      counts = g.counts;
      codes = g.codes;
      weights = weight_priors;
      limits = g.limits;
      goals = g.goals;
      xopt = g.xopt;
      prev_state = g.prev_state;
      prev_state2 = g.prev_state2;
      tools = g.tools;
      picks = g.picks;
    }

-- ---- laws
pub priors-pass : weights_refusal weight_priors ≡ 0
unfolding weights_refusal bad_weights every weight_fits_at weight_fits weight_priors le of_bits
priors-pass = refl

pub built-in-same : (g : Given) → g.weights ≡ weight_priors → g ≡ built_in g
unfolding built_in
built-in-same g e = rw (← e) refl
