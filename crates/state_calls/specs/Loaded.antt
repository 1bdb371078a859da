-- What a load leaves: nothing at the start, and after an accepted load the very sheet and limits that were lent, with no goals, no start and no history.
use Rattle.std.specs.Prelude.{◌≡◌, refl, true, false, ℕ, ◌+◌, ◌*◌, Float, get_or, drop, replicate}
use Rattle.std.proofs.Math.Path.{sym, ap}
use Rattle.std.proofs.Common.{◌∙◌, arith}
use mathlib.Core.List.{List}
use borrow.Author.Tests.{le-ltb}
use Rattle.std.proofs.Math.ListN.{length}
use Rattle.lists.specs.Splice.{splice, get_or-splice-in, part-splice}
use Rattle.sheet.specs.Chain.{total, joints}
use Rattle.refusals.specs.Lowest.{lowest, lowest_from, first-none}
use Rattle.refusals.specs.Refusal.{chains_of, links_of, bad_sizes, shape_refusal, load_refusal}
use Rattle.refusals.specs.Range.{between}
use Rattle.refusals.specs.Passed.{Shape, load-first, load-passed}
use Rattle.calls.specs.Tools.{NoTool}
use Rattle.state_calls.specs.declared.state.State.{State}
use Rattle.state_calls.specs.State.{zeros, sizes_used, links_used, codes_used, floats_used, limits_used, have_sheet, empty_arms, empty_party, empty_state}
use Rattle.state_calls.specs.StoredSheet.{drop-take}

-- at the start there are no arms
pub none-loaded : have_sheet empty_state.arms.sizes empty_state.arms.codes ≡ false
unfolding empty_state empty_arms have_sheet links_used sizes_used codes_used total shape_refusal lowest lowest_from bad_sizes between
none-loaded = refl

module _ (sizes codes : List ℕ) (floats limits : List Float) (e : load_refusal sizes codes floats limits ≡ 0) where
  abbrev ss : List ℕ
  ss = splice (replicate 5 0) 0 sizes

  shape : Shape sizes codes (length floats)
  shape = (load-passed sizes codes floats limits e).0

  pub chains-kept : get_or ss 0 0 ≡ get_or sizes 0 0
  chains-kept = get_or-splice-in (replicate 5 0) 0 sizes 0 0 (omega arith) (omega (arith, shape.sized.counted))

  sizes-kept : sizes_used ss ≡ sizes
  unfolding sizes_used
  sizes-kept = part-splice (replicate 5 0) 0 (get_or ss 0 0 + 1) sizes (omega arith) (shape.sized.counted ∙ ap (λ (k : ℕ). k + 1) (sym chains-kept))

  pub links-kept : links_used ss ≡ links_of sizes
  unfolding links_used sizes_used
  links-kept = sym (drop-take (get_or ss 0 0) ss) ∙ ap (drop 1) sizes-kept

  total_kept : total (links_used ss) ≡ length codes
  total_kept = ap total links-kept ∙ shape.whole

  pub codes-kept : codes_used ss (splice (replicate 64 0) 0 codes) ≡ codes
  unfolding codes_used
  codes-kept = part-splice (replicate 64 0) 0 (total (links_used ss)) codes (omega arith) (sym total_kept)

  pub floats-kept : floats_used ss (splice (zeros 448) 0 floats) ≡ floats
  unfolding floats_used
  floats-kept = part-splice (zeros 448) 0 (7 * total (links_used ss)) floats (omega arith) (shape.wide ∙ ap (λ (k : ℕ). 7 * k) (sym total_kept))

  pub limits-kept : limits_used ss (splice (replicate 64 0) 0 codes) (splice (zeros 32) 0 limits) ≡ limits
  unfolding limits_used
  limits-kept =
      part-splice (zeros 32) 0 (2 * joints (codes_used ss (splice (replicate 64 0) 0 codes))) limits (omega arith)
      ((load-passed sizes codes floats limits e).1 ∙ ap (λ (cs : List ℕ). 2 * joints cs) (sym codes-kept))

  -- arms are there
  pub sheet-kept : have_sheet ss (splice (replicate 64 0) 0 codes) ≡ true
  unfolding have_sheet
  sheet-kept =
      let z : shape_refusal sizes codes (length floats) ≡ 0 = (first-none _ _ (sym (load-first sizes codes floats limits) ∙ e)).0 in
      let w : 7 * total (links_used ss) ≡ length floats = ap (λ (k : ℕ). 7 * k) total_kept ∙ sym shape.wide in
      rw (le-ltb 4 (get_or ss 0 0) (omega (arith, chains-kept, shape.sized.few)), le-ltb 64 (total (links_used ss)) (omega (arith, total_kept, shape.most)), sizes-kept, codes-kept, w, z)

-- an accepted load: the sheet and its limits are in the state, and no goals, no start, no history and no tool (weights are as they were: Weights.antt)
pub record Loaded (sizes codes : List ℕ) (floats limits : List Float) (s : State) : Type 0 where
  pub have : have_sheet s.arms.sizes s.arms.codes ≡ true
  pub chains : get_or s.arms.sizes 0 0 ≡ chains_of sizes
  pub links : links_used s.arms.sizes ≡ links_of sizes
  pub same_codes : codes_used s.arms.sizes s.arms.codes ≡ codes
  pub same-floats : floats_used s.arms.sizes s.arms.floats ≡ floats
  pub same-limits : limits_used s.arms.sizes s.arms.codes s.arms.limits ≡ limits
  pub no-goals : s.party.has_goals ≡ false
  pub no_start : s.party.started ≡ false
  pub empty : s.party ≡ empty_party
  pub no-tool : NoTool s.arms.tools
