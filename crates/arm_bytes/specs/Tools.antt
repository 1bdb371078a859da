-- The tools that a call is lent are refused as set_tool refuses them: 11 for each list with a byte that is for a chain not loaded, not of seven floats or out of range.
use Rattle.std.proofs.Math.Path.{◌≡◌, refl, ap}
use Rattle.std.proofs.Common.{sym, ◌∙◌, true≢false, ⊎_elim, add-zero, length-append}
use Rattle.std.specs.Prelude.{Bool, cond, ◌&&◌, ◌||◌, ℕ, zero, suc, ◌+◌, ◌*◌, ◌/◌, ◌%◌, ◌≤◌, ◌<◌, eqb, ltb, Float, replicate}
use Rattle.std.proofs.Math.Bool.{true, false, not}
use mathlib.Core.List.{List, ◌++◌}
use native.Mathlib.Omega.{arith}
use Rattle.std.specs.Float.Ieee.{nan, eq, le, neg, of_bits}
use Rattle.std.proofs.Math.ListN.{length, get_or, get_or-append, get_or-eq_default}
use Rattle.std.proofs.Math.Seq.{get_or-append-add}
use borrow.Author.Tests.{eq-eqb, ne_eqb, eqb-true, le-ltb}
use Rattle.standins.specs.Num.{one}
use Rattle.sheet.specs.Tool.{has_tool}
use Rattle.refusals.specs.Lowest.{first_of, first-zero, first-last}
use Rattle.refusals.specs.Range.{every, within, within_at, unit_at}
use Rattle.refusals.specs.Refusal.{chains_of, links_of, seven_fit, bad_tool, tool_fits, bad_tools, tool_refusal, tools_refusal, room_refusal}
use Rattle.refusals.specs.Lengths.{history_length}
use Rattle.calls.specs.Frames.{pose_refusal}
use Rattle.calls.specs.Tools.{NoTool, lasts_of, ends_last}
use Rattle.lent_bytes.specs.Lent.{Misfit, no_floats}
use Rattle.lent_bytes.specs.SheetLists.{SheetLists}
use Rattle.lent_bytes.specs.ToolLists.{tool_floats_from, seven_from, tool_from, tools_from, eight-long, tools-long, eight-left-out, eight-lent}
use Rattle.arm_bytes.specs.ArmCalls.{load_number, tools_number, set_tool_number, pose_number, reset_number, poses_on, end_poses}

-- a list with a byte that set_tool refuses
unfoldable pub bad_lent : ℕ → ℕ → List ℕ → Bool
bad_lent chains c b = not (eqb (length b) 0) && bad_tool chains c (tool_floats_from b)

-- ---- laws: seven floats wherever they stand
module _ (xs ys : List Float) (at : ℕ) (same : (i : ℕ) → i < 7 → get_or xs (at + i) nan ≡ get_or ys i nan) where
  seven-moved : seven_fit xs at ≡ seven_fit ys 0
  unfolding seven_fit every within_at unit_at
  seven-moved =
      let h0 : get_or xs (at + 0) nan ≡ get_or ys 0 nan = same 0 (omega arith) in
      let h1 = same 1 (omega arith) in
      let h2 = same 2 (omega arith) in
      let h3 = same 3 (omega arith) in
      let e4 : at + 3 + 1 ≡ at + 4 = omega arith in
      let e5 : at + 3 + 2 ≡ at + 5 = omega arith in
      let e6 : at + 3 + 3 ≡ at + 6 = omega arith in
      rw (h0, h1, h2, h3, e4, e5, e6, same 4 (omega arith), same 5 (omega arith), same 6 (omega arith))

-- NaNs fit no link
nans-misfit : seven_fit (replicate 7 nan) 0 ≡ false
unfolding seven_fit every within_at within le neg of_bits
nans-misfit = refl

-- past a list's end there is no tool
past-none : (tools : List Float) (c : ℕ) → length tools ≤ 8 * c → has_tool tools c ≡ false
unfolding has_tool eq of_bits
past-none tools c h = ap (λ (f : Float). eq f one) (get_or-eq_default tools nan h)

-- ---- laws: one chain's eight floats in a list of tools
module _ (chains c : ℕ) (b : List ℕ) (tools : List Float) (held : (i : ℕ) → i < 8 → get_or tools (8 * c + i) nan ≡ get_or (tool_from b) i nan) where
  mark : get_or tools (8 * c) nan ≡ get_or (tool_from b) 0 nan
  mark = ap (λ (k : ℕ). get_or tools k nan) (sym (add-zero (8 * c))) ∙ held 0 (omega arith)

  pub none-held : length b ≡ 0 → has_tool tools c ≡ false
  unfolding has_tool eq of_bits
  none-held e = ap (λ (f : Float). eq f one) (mark ∙ ap (λ (l : List Float). get_or l 0 nan) (eight-left-out b e))

  some-held : (length b ≡ 0 → ⊥) → has_tool tools c ≡ true
  unfolding has_tool eq of_bits
  some-held h = ap (λ (f : Float). eq f one) (mark ∙ ap (λ (l : List Float). get_or l 0 nan) (eight-lent b h))

  seven-held : (length b ≡ 0 → ⊥) → seven_fit tools (8 * c + 1) ≡ seven_fit (seven_from b) 0
  seven-held h =
      seven-moved tools (seven_from b) (8 * c + 1)
      (λ i l.
      let e : 8 * c + 1 + i ≡ 8 * c + suc i = omega arith in
      ap (λ (k : ℕ). get_or tools k nan) e ∙ held (suc i) (omega arith) ∙ ap (λ (t : List Float). get_or t (suc i) nan) (eight-lent b h))

  -- a chain's tool fits where set_tool would take it, or nothing is lent for it
  fits-lent : tool_fits chains tools c ≡ not (bad_lent chains c b)
  unfolding tool_fits bad_lent bad_tool seven_from
  fits-lent = pick (eqb (length b) 0) refl
    where
      both : (l s : Bool) → (l && s) ≡ not (not l || false || not s)
      both true true = refl
      both true false = refl
      both false s = refl

      never : (l s : Bool) → (l && false) ≡ not (not l || true || s)
      never true s = refl
      never false s = refl

      counted : (u : Bool) → eqb (length (tool_floats_from b)) 7 ≡ u
          → (ltb c chains && seven_fit (seven_from b) 0) ≡ not (not (ltb c chains) || not (eqb (length (tool_floats_from b)) 7) || not (seven_fit (tool_floats_from b) 0))
      counted true e = rw e (both (ltb c chains) (seven_fit (tool_floats_from b) 0))
      counted false e = rw (e, nans-misfit) (never (ltb c chains) (not (seven_fit (tool_floats_from b) 0)))

      pick : (t : Bool) → eqb (length b) 0 ≡ t → tool_fits chains tools c ≡ not (bad_lent chains c b)
      pick true e = rw (none-held (eqb-true (length b) 0 e), e)
      pick false e =
          let h : length b ≡ 0 → ⊥ = λ z. true≢false (sym (eq-eqb (length b) 0 z) ∙ e) in
          rw (some-held h, e, seven-held h) (counted (eqb (length (tool_floats_from b)) 7) refl)

-- ---- laws: four chains' tools
module _ (b₀ b₁ b₂ b₃ : List ℕ) where
  abbrev tools : List Float
  tools = tools_from b₀ b₁ b₂ b₃

  two-long : length (tool_from b₀ ++ tool_from b₁) ≡ 16
  two-long = length-append (tool_from b₀) (tool_from b₁) ∙ omega (arith, eight-long b₀, eight-long b₁)

  three-long : length ((tool_from b₀ ++ tool_from b₁) ++ tool_from b₂) ≡ 24
  three-long = length-append (tool_from b₀ ++ tool_from b₁) (tool_from b₂) ∙ omega (arith, two-long, eight-long b₂)

  held₀ : (i : ℕ) → i < 8 → get_or tools (8 * 0 + i) nan ≡ get_or (tool_from b₀) i nan
  unfolding tools_from
  held₀ i h =
      let z : 8 * 0 + i ≡ i = omega arith in
      ap (λ (k : ℕ). get_or tools k nan) z
      ∙ get_or-append ((tool_from b₀ ++ tool_from b₁) ++ tool_from b₂) (tool_from b₃) nan i (omega (arith, three-long))
      ∙ get_or-append (tool_from b₀ ++ tool_from b₁) (tool_from b₂) nan i (omega (arith, two-long))
      ∙ get_or-append (tool_from b₀) (tool_from b₁) nan i (omega (arith, eight-long b₀))

  held₁ : (i : ℕ) → i < 8 → get_or tools (8 * 1 + i) nan ≡ get_or (tool_from b₁) i nan
  unfolding tools_from
  held₁ i h =
      let z : 8 * 1 + i ≡ length (tool_from b₀) + i = omega (arith, eight-long b₀) in
      get_or-append ((tool_from b₀ ++ tool_from b₁) ++ tool_from b₂) (tool_from b₃) nan (8 * 1 + i) (omega (arith, three-long))
      ∙ get_or-append (tool_from b₀ ++ tool_from b₁) (tool_from b₂) nan (8 * 1 + i) (omega (arith, two-long))
      ∙ ap (λ (k : ℕ). get_or (tool_from b₀ ++ tool_from b₁) k nan) z ∙ get_or-append-add (tool_from b₀) (tool_from b₁) i nan

  held₂ : (i : ℕ) → i < 8 → get_or tools (8 * 2 + i) nan ≡ get_or (tool_from b₂) i nan
  unfolding tools_from
  held₂ i h =
      let z : 8 * 2 + i ≡ length (tool_from b₀ ++ tool_from b₁) + i = omega (arith, two-long) in
      get_or-append ((tool_from b₀ ++ tool_from b₁) ++ tool_from b₂) (tool_from b₃) nan (8 * 2 + i) (omega (arith, three-long))
      ∙ ap (λ (k : ℕ). get_or ((tool_from b₀ ++ tool_from b₁) ++ tool_from b₂) k nan) z ∙ get_or-append-add (tool_from b₀ ++ tool_from b₁) (tool_from b₂) i nan

  held₃ : (i : ℕ) → i < 8 → get_or tools (8 * 3 + i) nan ≡ get_or (tool_from b₃) i nan
  unfolding tools_from
  held₃ i h =
      let z : 8 * 3 + i ≡ length ((tool_from b₀ ++ tool_from b₁) ++ tool_from b₂) + i = omega (arith, three-long) in
      ap (λ (k : ℕ). get_or tools k nan) z ∙ get_or-append-add ((tool_from b₀ ++ tool_from b₁) ++ tool_from b₂) (tool_from b₃) i nan

  -- 11 is refused for one of the four lists, each as set_tool would refuse it
  pub tools-lent : (chains : ℕ) → bad_tools chains tools ≡ (bad_lent chains 0 b₀ || bad_lent chains 1 b₁ || bad_lent chains 2 b₂ || bad_lent chains 3 b₃)
  unfolding bad_tools every
  tools-lent chains =
      rw (fits-lent chains 0 b₀ tools held₀, fits-lent chains 1 b₁ tools held₁, fits-lent chains 2 b₂ tools held₂, fits-lent chains 3 b₃ tools held₃)
      (any (bad_lent chains 0 b₀) (bad_lent chains 1 b₁) (bad_lent chains 2 b₂) (bad_lent chains 3 b₃))
    where
      any : (a b c d : Bool) → not ((((true && not a) && not b) && not c) && not d) ≡ (a || b || c || d)
      any true b c d = refl
      any false true c d = refl
      any false false true d = refl
      any false false false true = refl
      any false false false false = refl

  -- no byte in any: no tool
  pub no-tool-lent : length b₀ ≡ 0 → length b₁ ≡ 0 → length b₂ ≡ 0 → length b₃ ≡ 0 → NoTool tools
  no-tool-lent e₀ e₁ e₂ e₃ zero = none-held 0 0 b₀ tools held₀ e₀
  no-tool-lent e₀ e₁ e₂ e₃ (suc zero) = none-held 0 1 b₁ tools held₁ e₁
  no-tool-lent e₀ e₁ e₂ e₃ (suc (suc zero)) = none-held 0 2 b₂ tools held₂ e₂
  no-tool-lent e₀ e₁ e₂ e₃ (suc (suc (suc zero))) = none-held 0 3 b₃ tools held₃ e₃
  no-tool-lent e₀ e₁ e₂ e₃ (suc (suc (suc (suc c)))) = past-none tools (suc (suc (suc (suc c)))) (omega (arith, tools-long b₀ b₁ b₂ b₃))

-- ---- laws: lists that are refused
module _ (chains c : ℕ) (b : List ℕ) where
  -- for a chain that is not loaded, whatever it holds
  pub unloaded-bad : (length b ≡ 0 → ⊥) → chains ≤ c → bad_lent chains c b ≡ true
  unfolding bad_lent bad_tool
  unloaded-bad h l = rw (ne_eqb (length b) 0 h, le-ltb c chains l)

  -- not of seven floats
  pub not-seven-bad : (length b ≡ 0 → ⊥) → (length (tool_floats_from b) ≡ 7 → ⊥) → bad_lent chains c b ≡ true
  unfolding bad_lent bad_tool
  not-seven-bad h m = rw (ne_eqb (length b) 0 h, ne_eqb (length (tool_floats_from b)) 7 m) (middle (not (ltb c chains)))
    where
      middle : (a : Bool) → (a || true || not (seven_fit (tool_floats_from b) 0)) ≡ true
      middle true = refl
      middle false = refl

  -- ragged or overlong: not none
  pub ragged-bad : Misfit 8 7 (length b) → bad_lent chains c b ≡ true
  ragged-bad m =
      not-seven-bad (λ z. ⊎_elim (λ (h : length b % 8 ≡ 0 → ⊥). h (ap (λ (n : ℕ). n % 8) z)) (λ (l : 7 < length b / 8). omega arith) m)
      (λ e. omega (arith, ap length (no_floats 7 b m)))

-- ---- laws: the calls' numbers and answers
module _ (s : SheetLists) where
  pub refused-tool : (tool : List Float) (c : ℕ) → load_number s ≡ 0 → set_tool_number s tool c ≡ tool_refusal (chains_of s.sizes) c tool
  unfolding set_tool_number
  refused-tool tool c e = first-zero _ _ e

  -- a tool that is ragged, overlong or empty
  pub set-not-seven : (tool : List Float) (c : ℕ) → load_number s ≡ 0 → (length tool ≡ 7 → ⊥) → set_tool_number s tool c ≡ 11
  unfolding tool_refusal bad_tool
  set-not-seven tool c e m = refused-tool tool c e ∙ rw (ne_eqb (length tool) 7 m) (middle (not (ltb c (chains_of s.sizes))))
    where
      middle : (a : Bool) → ◌≡◌ {A = ℕ} (cond (a || true || not (seven_fit tool 0)) 11 0) 11
      middle true = refl
      middle false = refl

  module _ (tools : List Float) where
    -- where nothing else is refused, the tools' number
    pub pose-refused-tools : (x : List Float) (n : ℕ) → load_number s ≡ 0 → pose_refusal (links_of s.sizes) s.codes x n ≡ 0 → pose_number s tools x n ≡ tools_number s tools
    unfolding pose_number
    pose-refused-tools x n e q = first-zero _ _ e ∙ first-zero _ _ q

    pub reset-refused-tools : (x : List Float) (h n : ℕ) → load_number s ≡ 0 → pose_refusal (links_of s.sizes) s.codes x n ≡ 0
        → room_refusal (history_length s.codes) h ≡ 0 → reset_number s tools x h n ≡ tools_number s tools
    unfolding reset_number
    reset-refused-tools x h n e q r = first-zero _ _ e ∙ first-zero _ _ (first-zero _ _ q ∙ r)

    -- without a tool: numbers and end poses of before
    module _ (none : NoTool tools) where
      pub no-eleven : tools_number s tools ≡ 0
      unfolding tools_refusal bad_tools every tool_fits
      no-eleven = rw (none 0, none 1, none 2, none 3)

      pub pose-number-no-tool : (x : List Float) (n : ℕ) → pose_number s tools x n ≡ first_of (load_number s) (pose_refusal (links_of s.sizes) s.codes x n)
      unfolding pose_number
      pose-number-no-tool x n = ap (first_of (load_number s)) (first-last _ _ no-eleven)

      pub reset-number-no-tool : (x : List Float) (h n : ℕ)
          → reset_number s tools x h n ≡ first_of (load_number s) (first_of (pose_refusal (links_of s.sizes) s.codes x n) (room_refusal (history_length s.codes) h))
      unfolding reset_number
      reset-number-no-tool x h n = ap (first_of (load_number s)) (first-last _ _ no-eleven)

      pub end-poses-no-tool : (x : List Float) → end_poses s tools x ≡ lasts_of (links_of s.sizes) (poses_on s x)
      unfolding end_poses
      end-poses-no-tool x = ends_last (links_of s.sizes) tools (poses_on s x) none
