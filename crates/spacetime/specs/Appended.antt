-- The tool as a link: the sheet with the tool as a fixed link at its chain's end. In that sheet's walk the chain's last frame is the end pose with the tool.
use Rattle.std.specs.Prelude.{◌≡◌, Bool, Float, take, set}
use Rattle.std.proofs.Math.Path.{refl, sym, ap}
use Rattle.std.proofs.Common.{◌∙◌, add_assoc, length-append, length-drop, get_or-set_other, length-take-le, eqb-true}
use Rattle.std.proofs.Math.Bool.{true, false}
use mathlib.Core.List.{List, [], ◌∷◌, ◌++◌}
use Prim.Native.Nat.{ℕ, zero, suc, ◌+◌, ◌-◌, ◌*◌, ◌≤◌, ◌<◌}
use Rattle.std.proofs.Math.Nat.{add-zero}
use native.Mathlib.Omega.{arith}
use Rattle.std.specs.Float.Ieee.{nan}
use Rattle.std.proofs.Math.ListN.{length, get_or, drop, length-take, length-set, get_or-append}
use Rattle.std.proofs.Math.Seq.{get_or-take, get_or-drop, get_or-append-add, get_or-set_same, take_at}
use Rattle.std.proofs.Math.Dec.{eqb}
use Rattle.std.proofs.lemmas.Bool.{eqb-false}
use Rattle.standins.specs.Num.{nought}
use Rattle.geometry.specs.declared.pose.Pose.{Pose}
use Rattle.sheet.specs.declared.code.Kind.TheVariants.{Fixed}
use Rattle.sheet.specs.Code.{kind_of, has_joint}
use Rattle.sheet.specs.Chain.{first_in, chain_start, joint_of, joints_of, joints, joint-part, joint-more, joints-fixed, first-within, chain-start-set, first-set, total-set}
use Rattle.sheet.specs.Read.{kind_at}
use Rattle.sheet.specs.Tool.{has_tool}
use Rattle.spacetime.specs.Link.{link_of}
use Rattle.spacetime.specs.Floats.{vec_at, quat_at, pose_at}
use Rattle.spacetime.specs.Walk.{Sheet, value_of, after_link, start_of, before_of, pose_of, before_more}
use Rattle.spacetime.specs.Tool.{tip_of}
use Rattle.spacetime.specs.Frames.{Chains, last_of, end_of, chain-within}

-- xs with ys put in at a place
unfoldable pub inserted : {A : Type 0} → List A → ℕ → List A → List A
inserted xs at ys = take at xs ++ (ys ++ drop at xs)

-- the number of a link that is appended to chain c
abbrev pub place_of : List ℕ → ℕ → ℕ
place_of ns c = chain_start ns c + get_or ns c 0

-- the counts with it: chain c has one link more
unfoldable pub counts_with : List ℕ → ℕ → List ℕ
counts_with ns c = set ns c (get_or ns c 0 + 1)

-- the codes with it: 0, a fixed link's
unfoldable pub codes_with : List ℕ → List ℕ → ℕ → List ℕ
codes_with ns cs c = inserted cs (place_of ns c) (0 ∷ [])

-- chain c's tool: seven floats, as a link has them
abbrev pub tool_floats : List Float → ℕ → List Float
tool_floats tools c = take 7 (drop (8 * c + 1) tools)

-- the floats with it: the tool's
unfoldable pub floats_with : List ℕ → List Float → List Float → ℕ → List Float
floats_with ns gs tools c = inserted gs (7 * place_of ns c) (tool_floats tools c)

-- ---- laws of lists
module _ {A : Type 0} (xs : List A) (at : ℕ) (ys : List A) (h : at ≤ length xs) where
  inserted-length : length (inserted xs at ys) ≡ length xs + length ys
  unfolding inserted
  inserted-length = simp (length-append, length-take, length-drop) (omega arith)

  inserted-take : take at (inserted xs at ys) ≡ take at xs
  unfolding inserted
  inserted-take = take_at (take at xs) (ys ++ drop at xs) at (length-take-le at xs h)

  inserted-before : (i : ℕ) (d : A) → i < at → get_or (inserted xs at ys) i d ≡ get_or xs i d
  inserted-before i d l = sym (get_or-take at (inserted xs at ys) i d l) ∙ ap (λ (z : List A). get_or z i d) inserted-take ∙ get_or-take at xs i d l

  inserted-from : (i : ℕ) (d : A) → get_or (inserted xs at ys) (at + i) d ≡ get_or (ys ++ drop at xs) i d
  unfolding inserted
  inserted-from i d =
      ap (λ (n : ℕ). get_or (take at xs ++ (ys ++ drop at xs)) (n + i) d) (sym (length-take-le at xs h))
      ∙ get_or-append-add (take at xs) (ys ++ drop at xs) i d

-- the same seven floats are the same displacement and offset
seven-same : (gs hs : List Float) (i j : ℕ) → ((k : ℕ) → k < 7 → get_or gs (i + k) nan ≡ get_or hs (j + k) nan) → pose_at gs i ≡ pose_at hs j
unfolding pose_at vec_at quat_at
seven-same gs hs i j same =
    let s0 : get_or gs i nan ≡ get_or hs j nan = simp add-zero at (same 0 (omega arith)) in
    simp add_assoc (rw (s0, same 1 (omega arith), same 2 (omega arith), same 3 (omega arith), same 4 (omega arith), same 5 (omega arith), same 6 (omega arith)))

-- ---- laws of the longer sheet
module _ (ns cs : List ℕ) (gs x tools : List Float) (c : ℕ) (sheet : Sheet ns cs gs x) (h : c < length ns) where
  abbrev e : ℕ
  e = place_of ns c

  abbrev ns' : List ℕ
  ns' = counts_with ns c

  abbrev cs' : List ℕ
  cs' = codes_with ns cs c

  abbrev gs' : List Float
  gs' = floats_with ns gs tools c

  fits : e ≤ length cs
  fits = omega (arith, chain-within ns c h)

  -- the links before e read what they read
  joint-kept : (l : ℕ) → l ≤ e → joint_of cs' l ≡ joint_of cs l
  unfolding codes_with
  joint-kept l k = sym (joint-part cs' e l k) ∙ ap (λ (z : List ℕ). joint_of z l) (inserted-take cs e (0 ∷ []) fits) ∙ joint-part cs e l k

  link-kept : (p : Pose) (l j : ℕ) → l < e → after_link cs' gs' x p l j ≡ after_link cs gs x p l j
  unfolding after_link kind_at value_of pose_at codes_with floats_with
  link-kept p l j k =
      let code : get_or cs' l 0 ≡ get_or cs l 0 = inserted-before cs e (0 ∷ []) fits l 0 k in
      let seven : pose_at gs' (7 * l) ≡ pose_at gs (7 * l) =
      seven-same gs' gs (7 * l) (7 * l) (λ i b. inserted-before gs (7 * e) (tool_floats tools c) (omega (arith, fits)) (7 * l + i) nan (omega arith)) in
      rw code (ap (λ (q : Pose). link_of (kind_of (get_or cs l 0)) q.position q.rotation (value_of cs x l j) p) seven)

  before-kept : (l : ℕ) → l < e → before_of ns' cs' gs' x l ≡ before_of ns cs gs x l
  unfolding before_of start_of counts_with
  before-kept zero k = refl
  before-kept (suc l) k =
      let f : first_in ns' (suc l) ≡ first_in ns (suc l) = first-set ns c (get_or ns c 0 + 1) (suc l) (omega arith) k in
      rw (f, before-kept l (omega arith), joint-kept l (omega arith), link-kept (before_of ns cs gs x l) l (joint_of cs l) (omega arith))

  -- so they keep their poses
  pub pose-before : (l : ℕ) → l < place_of ns c → pose_of (counts_with ns c) (codes_with ns cs c) (floats_with ns gs tools c) x l ≡ pose_of ns cs gs x l
  unfolding pose_of
  pose-before l k = rw (before-kept l k, joint-kept l (omega arith), link-kept (before_of ns cs gs x l) l (joint_of cs l) k)

  -- chain c starts where it did and has one link more, so link e is its last
  start-kept : chain_start ns' c ≡ chain_start ns c
  unfolding counts_with
  start-kept = chain-start-set ns c (get_or ns c 0 + 1) c (omega arith)

  count-more : get_or ns' c 0 ≡ get_or ns c 0 + 1
  unfolding counts_with
  count-more = get_or-set_same ns c (get_or ns c 0 + 1) 0 h

  counts-length : length ns' ≡ length ns
  unfolding counts_with
  counts-length = length-set ns c (get_or ns c 0 + 1)

  last-place : chain_start ns' c + get_or ns' c 0 - 1 ≡ e
  last-place = omega (arith, start-kept, count-more)

  -- and not its first, so it is met with the pose after the link before
  before_last : Chains ns → before_of ns' cs' gs' x e ≡ last_of ns (pose_of ns cs gs x) c
  unfolding start_of
  before_last chains =
      let some : 0 < get_or ns c 0 = chains.some c h in
      let m : e - 1 + 1 ≡ e = omega arith in
      let s = start-kept in
      let n = count-more in
      let f : first_in ns' (e - 1 + 1) ≡ false = first-within ns' c (e - 1 + 1) (omega (arith, counts-length)) (omega arith) (omega arith) in
      ap (before_of ns' cs' gs' x) (sym m) ∙ sym (before_more ns' cs' gs' x (e - 1)) ∙ rw f (pose-before (e - 1) (omega arith))

  code_fixed : get_or cs' e 0 ≡ 0
  unfolding codes_with
  code_fixed = rw add-zero at (inserted-from cs e (0 ∷ []) fits 0 0)

  tool-length : 8 * c + 8 ≤ length tools → length (tool_floats tools c) ≡ 7
  tool-length room = simp (length-take, length-drop) (omega arith)

  -- it makes of a pose what the tool makes of it
  link-tool : (p : Pose) (j : ℕ) → 8 * c + 8 ≤ length tools → has_tool tools c ≡ true → after_link cs' gs' x p e j ≡ tip_of tools c p
  unfolding after_link kind_at value_of kind_of has_joint pose_at floats_with tip_of
  link-tool p j room has =
      let n : length (tool_floats tools c) ≡ 7 = tool-length room in
      let seven : pose_at gs' (7 * e) ≡ pose_at tools (8 * c + 1) =
      seven-same gs' tools (7 * e) (8 * c + 1)
      (λ k b.
      inserted-from gs (7 * e) (tool_floats tools c) (omega (arith, fits)) k nan
      ∙ get_or-append (tool_floats tools c) (drop (7 * e) gs) nan k (omega arith)
      ∙ get_or-take 7 (drop (8 * c + 1) tools) k nan b ∙ get_or-drop (8 * c + 1) tools k nan) in
      let four : 8 * c + 4 ≡ 8 * c + 1 + 3 = omega arith in
      rw (code_fixed, has, four) (ap (λ (q : Pose). link_of Fixed q.position q.rotation nought p) seven)

  -- a fixed link has no joint: the links after e keep theirs
  joint-after : (k : ℕ) → joint_of cs' (e + 1 + k) ≡ joint_of cs (e + k)
  unfolding codes_with
  joint-after zero = rw (add-zero, add-zero) (omega (arith, joint-more cs' e, joints-fixed (get_or cs' e 0) code_fixed, joint-kept e (omega arith)))
  joint-after (suc k) =
      let code : get_or cs' (e + 1 + k) 0 ≡ get_or cs (e + k) 0 = ap (λ (i : ℕ). get_or cs' i 0) (omega arith) ∙ inserted-from cs e (0 ∷ []) fits (suc k) 0 ∙ get_or-drop e cs k 0 in
      let i : e + 1 + suc k ≡ e + 1 + k + 1 = omega arith in
      let j : e + suc k ≡ e + k + 1 = omega arith in
      rw (i, j) (omega (arith, joint-after k, joint-more cs' (e + 1 + k), joint-more cs (e + k), ap joints_of code))

  -- the longer sheet is one, where there is room for a link more
  pub sheet-appended : length cs < 64 → 8 * c + 8 ≤ length tools → Sheet (counts_with ns c) (codes_with ns cs c) (floats_with ns gs tools c) x
  unfolding counts_with codes_with floats_with joints
  sheet-appended more room =
      let n : length cs' ≡ length cs + 1 = inserted-length cs e (0 ∷ []) fits in
      let k : length cs' ≡ e + 1 + (length cs - e) = omega (arith, fits) in
      let i : e + (length cs - e) ≡ length cs = omega (arith, fits) in
      record {
        whole = omega (arith, total-set ns c (get_or ns c 0 + 1) h);
        chains = omega (arith, counts-length);
        links = omega arith;
        floats = omega (arith, inserted-length gs (7 * e) (tool_floats tools c) (omega (arith, fits)), tool-length room);
        block = omega (arith, ap (joint_of cs') k, joint-after (length cs - e), ap (joint_of cs) i);
      }

  pub chains-appended : Chains ns → Chains (counts_with ns c)
  unfolding counts_with
  chains-appended chains = record { few = omega (arith, counts-length); some = λ d b. some d b (eqb d c) refl }
    where
      some : (d : ℕ) → d < length ns' → (t : Bool) → eqb d c ≡ t → 0 < get_or ns' d 0
      some d b true q = rw (eqb-true d c q) (omega (arith, count-more))
      some d b false q = rw (get_or-set_other ns c d (get_or ns c 0 + 1) 0 (eqb-false d c q)) (chains.some d (omega (arith, counts-length)))

-- the end pose with a tool is the last frame of the walk in which the tool is a fixed link, bit for bit
pub tool-appended : (ns cs : List ℕ) (gs x tools : List Float) (c : ℕ) → Sheet ns cs gs x → Chains ns → c < length ns → 8 * c + 8 ≤ length tools → has_tool tools c ≡ true
    → end_of ns tools (pose_of ns cs gs x) c ≡ last_of (counts_with ns c) (pose_of (counts_with ns c) (codes_with ns cs c) (floats_with ns gs tools c) x) c
unfolding pose_of
tool-appended ns cs gs x tools c sheet chains h room has =
    rw (last-place ns cs gs x tools c sheet h, before_last ns cs gs x tools c sheet h chains)
    (sym (link-tool ns cs gs x tools c sheet h (last_of ns (pose_of ns cs gs x) c) (joint_of (codes_with ns cs c) (place_of ns c)) room has))
