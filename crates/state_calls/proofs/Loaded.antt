-- What a load leaves: after an accepted load the very sheet and limits that were lent.
use Rattle.std.specs.Prelude.{◌≡◌, refl, ℕ, Float}
use mathlib.Core.List.{List}
use Rattle.refusals.specs.Refusal.{load_refusal}
use Rattle.calls.specs.Tools.{zeros-none}
use Rattle.state_calls.specs.declared.state.State.{State}
use Rattle.state_calls.specs.State.{empty_party}
use Rattle.state_calls.specs.Load.{arms_of, load_of, outcome_of}
use Rattle.state_calls.specs.Loaded.{Loaded, chains-kept, links-kept, codes-kept, floats-kept, limits-kept, sheet-kept}
use Rattle.state_calls.specs.Planned.{Holds}

pub loaded : (s : State) (sizes codes : List ℕ) (floats limits : List Float) → load_refusal sizes codes floats limits ≡ 0
    → Loaded sizes codes floats limits (load_of s sizes codes floats limits).state
unfolding load_of outcome_of arms_of empty_party
loaded s sizes codes floats limits e =
    rw e (record {
      have = sheet-kept sizes codes floats limits e;
      chains = chains-kept sizes codes floats limits e;
      links = links-kept sizes codes floats limits e;
      same_codes = codes-kept sizes codes floats limits e;
      same-floats = floats-kept sizes codes floats limits e;
      same-limits = limits-kept sizes codes floats limits e;
      no-goals = refl;
      no_start = refl;
      empty = refl;
      no-tool = zeros-none 32;
    })

-- the arms in the state are those of the sheet
pub holds-loaded : (s : State) (sizes codes : List ℕ) (floats limits : List Float) → (load_of s sizes codes floats limits).number ≡ 0
    → Holds sizes codes (load_of s sizes codes floats limits).state.arms
unfolding load_of outcome_of
holds-loaded s sizes codes floats limits e =
    let l : Loaded sizes codes floats limits (load_of s sizes codes floats limits).state = loaded s sizes codes floats limits e in
    record { have = l.have; links = l.links; same_codes = l.same_codes }
