-- The pairs of links that `relaxed_ik` adds, and their losses. P gives the pose after each link, numbered across chains.
use Rattle.std.specs.Prelude.{◌≡◌, Bool, Float, length, get_or, set}
use Rattle.std.proofs.Math.Path.{refl, sym, ap}
use Rattle.std.proofs.Common.{◌∙◌, ⊎_elim, add-zero}
use mathlib.Core.List.{List, [], ◌∷◌, ◌++◌, map, map-append}
use Prim.Native.Nat.{ℕ, zero, suc, ◌+◌, ◌-◌, ◌≤◌, ◌<◌}
use native.Mathlib.Omega.{arith}
use Rattle.std.specs.Float.{nan, binary64}
use Rattle.std.specs.Float.Ieee.{of_bits}
use Rattle.std.proofs.Math.ListN.{length-append}
use Rattle.std.proofs.lemmas.List.{set-get_or}
use Rattle.lists.specs.Splice.{splice, splice-one, length-splice, get_or-splice-after}
use Rattle.lists.specs.Runs.{runs, runs-more, runs-ext, runs-fits, length_runs, get_or-piece}
use Rattle.lists.specs.Listed.{listed, length-listed, get_or-listed}
use Rattle.standins.specs.Num.{◌⊖◌}
use Rattle.geometry.specs.declared.vector.Vec3.{Vec3}
use Rattle.geometry.specs.declared.pose.Pose.{Pose}
use Rattle.geometry.specs.Vector.{zero_of}
use Rattle.geometry.specs.Segment.{distance_of}
use Rattle.sheet.specs.Chain.{chain_start, chain-start-next, joint-le, below_or, chain_length}
use Rattle.groove.specs.Loss.{self_collision}
use Rattle.manipulability.specs.View.{View}
use Rattle.manipulability.specs.Jacobian.{Counted, chain-part}

-- ---- which links are paired, and a list of what is made of each two
module _ {A : Type 0} (made : ℕ → ℕ → A) where
  -- of links j and k alone
  abbrev pub pair_at : ℕ → ℕ → List A
  pair_at j k = made j k ∷ []

  -- of link j with those from j + 2 on, below n
  unfoldable pub pairs_from : ℕ → ℕ → List A
  pairs_from n j = runs (pair_at j) (j + 2) (n - (j + 2))

  -- of all that a chain of n joints adds
  unfoldable pub pairs_of : ℕ → List A
  pairs_of n = runs (pairs_from n) 0 (n - 2)

-- ---- the pairs

-- an arm, and two of its links
pub record Pair : Type 0 where
  pub arm : ℕ
  pub first : ℕ
  pub second : ℕ

abbrev pub pair : ℕ → ℕ → ℕ → Pair
pair arm j k = record { arm = arm; first = j; second = k }

-- those that chain c adds: lens has the joints of each chain, arms the arm that its pairs look at
unfoldable pub chain_pairs : (ℕ → ℕ) → List ℕ → ℕ → List Pair
chain_pairs arms lens c = pairs_of (pair (arms c)) (get_or lens c 0)

unfoldable pub all_pairs : (ℕ → ℕ) → List ℕ → List Pair
all_pairs arms lens = runs (chain_pairs arms lens) 0 (length lens)

-- the source's rule: every pair looks at arm 0, also those that later chains add
unfoldable pub first_arm : ℕ → ℕ
first_arm c = 0

-- the joints of each chain
unfoldable pub chain_lengths : List ℕ → List ℕ → List ℕ
chain_lengths ns cs = listed (chain_length ns cs) (length ns)

-- ---- their losses

-- position i of the arm that starts at link f: the origin, then that after each link
unfoldable pub point_on : (ℕ → Pose) → ℕ → ℕ → Vec3
point_on P f zero = zero_of
point_on P f (suc i) = (P (f + i)).position

-- the distance of its segments j and k, less 0.05
unfoldable pub link_distance : (ℕ → Pose) → ℕ → ℕ → ℕ → Float
link_distance P f j k =
    distance_of (point_on P f j) (point_on P f (j + 1)) (point_on P f k) (point_on P f (k + 1)) ⊖ of_bits binary64 0x3fa9_9999_9999_999a

-- what segments j and k cost; b: some joint is a NaN
unfoldable pub loss_from : (ℕ → Pose) → ℕ → Bool → ℕ → ℕ → Float
loss_from P f b j k = self_collision (link_distance P f j k) b

-- the last link that their loss reads, numbered across chains
abbrev pub last_from : ℕ → ℕ → ℕ → ℕ
last_from f j k = f + k

-- the two of a pair, on its own arm
unfoldable pub pair_loss : List ℕ → (ℕ → Pose) → Bool → Pair → Float
pair_loss ns P b p = loss_from P (chain_start ns p.arm) b p.first p.second

unfoldable pub pair_last : List ℕ → Pair → ℕ
pair_last ns p = last_from (chain_start ns p.arm) p.first p.second

-- and of all pairs, in their order
unfoldable pub pair_losses : List ℕ → (ℕ → Pose) → (ℕ → ℕ) → List ℕ → Bool → List Float
pair_losses ns P arms lens b = map (pair_loss ns P b) (all_pairs arms lens)

unfoldable pub pair_lasts : List ℕ → (ℕ → ℕ) → List ℕ → List ℕ
pair_lasts ns arms lens = map (pair_last ns) (all_pairs arms lens)

-- ---- what the functions ask

-- an accepted sheet: a chain's pairs look at an arm that has these links
pub record Paired (ns cs : List ℕ) : Type 0 where
  pub counted : Counted ns cs
  pub fits : (c : ℕ) → c < length ns → chain_length ns cs c ≤ get_or ns (first_arm c) 0

-- The losses of some pairs have room in the list from at on. A pair whose last link is below from reads no link that was walked again: its loss stands there.
pub record CachedPairs (lasts : List ℕ) (losses : List Float) (from at : ℕ) (out : List Float) : Type 0 where
  pub room : at + length losses ≤ length out
  pub cached : (i : ℕ) → i < length losses → get_or lasts i 0 < from → get_or out (at + i) nan ≡ get_or losses i nan

-- 1 + 2 + .. + m: a chain of n joints adds triangle (n - 2) pairs
unfoldable pub triangle : ℕ → ℕ
triangle zero = 0
triangle (suc m) = triangle m + suc m

-- ---- laws: how many pairs
pub triangle-less : (m i : ℕ) → i < m → triangle (m - i) ≡ triangle (m - (i + 1)) + (m - i)
unfolding triangle
triangle-less m i h =
    let e : m - i ≡ suc (m - (i + 1)) = omega arith in
    rw e

module _ {A : Type 0} (made : ℕ → ℕ → A) where
  pub row-length : (n j : ℕ) → length (pairs_from made n j) ≡ n - (j + 2)
  unfolding pairs_from
  row-length n j = length_runs (pair_at made j) 1 (λ k. refl) (j + 2) (n - (j + 2)) ∙ omega arith

  rows-length : (n i : ℕ) → i ≤ n - 2 → length (runs (pairs_from made n) 0 i) + triangle (n - 2 - i) ≡ triangle (n - 2)
  unfolding runs
  rows-length n zero h = let e : n - 2 - 0 ≡ n - 2 = omega arith in rw e (omega arith)
  rows-length n (suc i) h =
      let e : n - 2 - suc i ≡ n - 2 - (i + 1) = omega arith in
      omega (arith, length-append (runs (pairs_from made n) 0 i) (pairs_from made n (0 + i)), row-length n (0 + i), rows-length n i (omega arith), triangle-less (n - 2) i (omega arith), ap triangle e)

  pub pair-count : (n : ℕ) → length (pairs_of made n) ≡ triangle (n - 2)
  unfolding pairs_of triangle
  pair-count n =
      let z : n - 2 - (n - 2) ≡ 0 = omega arith in
      omega (arith, rows-length n (n - 2) (omega arith), ap triangle z)

-- ---- a function g of each element
module _ {A B : Type 0} (g : A → B) where
  pub map_runs : (f : ℕ → List A) (from n : ℕ) → map g (runs f from n) ≡ runs (λ i. map g (f i)) from n
  unfolding runs
  map_runs f from zero = refl
  map_runs f from (suc n) = map-append g (runs f from n) (f (from + n)) ∙ ap (λ (l : List B). l ++ map g (f (from + n))) (map_runs f from n)

  map_row : (made : ℕ → ℕ → A) (n j : ℕ) → map g (pairs_from made n j) ≡ pairs_from (λ j k. g (made j k)) n j
  unfolding pairs_from
  map_row made n j = map_runs (pair_at made j) (j + 2) (n - (j + 2))

  map-pairs : (made : ℕ → ℕ → A) (n : ℕ) → map g (pairs_of made n) ≡ pairs_of (λ j k. g (made j k)) n
  unfolding pairs_of
  map-pairs made n = map_runs (pairs_from made n) 0 (n - 2) ∙ runs-ext _ (pairs_from (λ j k. g (made j k)) n) 0 (n - 2) (λ j h. map_row made n (0 + j))

-- ---- where the loops are
pub lengths-count : (ns cs : List ℕ) → length (chain_lengths ns cs) ≡ length ns
unfolding chain_lengths
lengths-count ns cs = length-listed (chain_length ns cs) (length ns)

pub lengths-at : (ns cs : List ℕ) (c : ℕ) → c < length ns → get_or (chain_lengths ns cs) c 0 ≡ chain_length ns cs c
unfolding chain_lengths
lengths-at ns cs c h = get_or-listed (chain_length ns cs) (length ns) c 0 h

pub count-more : {A : Type 0} (f : ℕ → List A) (i : ℕ) → length (runs f 0 (i + 1)) ≡ length (runs f 0 i) + length (f i)
count-more {A} f i =
    let z : 0 + i ≡ i = omega arith in
    ap length (runs-more f 0 i) ∙ length-append (runs f 0 i) (f (0 + i)) ∙ ap (λ (k : ℕ). length (runs f 0 i) + length (f k)) z

-- pieces of the same lengths make lists of the same length
runs-alike : {A B : Type 0} (g : ℕ → List A) (f : ℕ → List B) → ((i : ℕ) → length (g i) ≡ length (f i)) → (from n : ℕ) → length (runs g from n) ≡ length (runs f from n)
unfolding runs
runs-alike g f alike from zero = refl
runs-alike g f alike from (suc n) =
    omega (arith, length-append (runs g from n) (g (from + n)), length-append (runs f from n) (f (from + n)), runs-alike g f alike from n, alike (from + n))

-- a turn's pairs stand behind those written so far
pub cached-turn : (g : ℕ → List ℕ) (f : ℕ → List Float) → ((i : ℕ) → length (g i) ≡ length (f i)) → (from : ℕ) (xs cur : List Float) (at k start n i l : ℕ) → l ≡ start + i → i < n
    → cur ≡ splice xs at (runs f start i) → k ≡ at + length (runs f start i)
    → CachedPairs (runs g start n) (runs f start n) from at xs → CachedPairs (g l) (f l) from k cur
cached-turn g f alike from xs cur at k start n i l el h ecur ek s =
    let ys : List Float = runs f start i in
    let m : ℕ = length ys in
    let fits : m + length (f (start + i)) ≤ length (runs f start n) = runs-fits f start n i h in
    let room : at + length (runs f start n) ≤ length xs = s.room in
    let same : length cur ≡ length xs = ap length ecur ∙ length-splice xs at ys (omega arith) in
    let here : CachedPairs (g (start + i)) (f (start + i)) from k cur = record {
      room = omega arith;
      cached = λ r b q.
          let e : get_or (runs g start n) (m + r) 0 ≡ get_or (g (start + i)) r 0 =
          ap (λ (z : ℕ). get_or (runs g start n) (z + r) 0) (sym (runs-alike g f alike start i)) ∙ get_or-piece g start n i r 0 h (omega (arith, alike (start + i))) in
          let q' : get_or (runs g start n) (m + r) 0 < from = rw e q in
          let z : k + r ≡ at + length ys + r = omega arith in
          let z' : at + length ys + r ≡ at + (m + r) = omega arith in
          ap (λ (o : List Float). get_or o (k + r) nan) ecur
          ∙ ap (λ (p : ℕ). get_or (splice xs at ys) p nan) z
          ∙ get_or-splice-after xs at ys r nan (omega arith)
          ∙ ap (λ (p : ℕ). get_or xs p nan) z'
          ∙ s.cached (m + r) (omega arith) q'
          ∙ get_or-piece f start n i r nan h b;
    } in
    rw el here

-- one pair, that costs v: its loss stands already, or is stored
module _ (last : ℕ) (v : Float) (from at : ℕ) (out : List Float) (s : CachedPairs (last ∷ []) (v ∷ []) from at out) where
  pub cached-kept : last < from → out ≡ splice out at (v ∷ [])
  cached-kept h =
      let g : get_or out at nan ≡ v = ap (λ (k : ℕ). get_or out k nan) (sym (add-zero at)) ∙ s.cached 0 (omega arith) h in
      sym (set-get_or out at nan) ∙ ap (set out at) g ∙ sym (splice-one out at v (omega (arith, s.room)))

  pub cached-stored : (w : Float) → w ≡ v → set out at w ≡ splice out at (v ∷ [])
  cached-stored w e = ap (set out at) e ∙ sym (splice-one out at v (omega (arith, s.room)))

-- fewer links of a view
pub view-part : (base tail : List Float) (from to n m : ℕ) → View base tail from to n → m ≤ n → View base tail from to m
view-part base tail from to n m v h = record { first = omega (arith, v.first); again = v.again }

-- ---- points
pub point-zero : (P : ℕ → Pose) (f i : ℕ) → i ≡ 0 → point_on P f i ≡ zero_of
unfolding point_on
point-zero P f i e = rw e

pub point-link : (P : ℕ → Pose) (f i : ℕ) → (i ≡ 0 → ⊥) → point_on P f i ≡ (P (f + i - 1)).position
unfolding point_on
point-link P f zero h = absurd (h refl)
point-link P f (suc i) h =
    let e : f + suc i - 1 ≡ f + i = omega arith in
    rw e

-- arm 0 starts at link 0
pub first-start : (ns : List ℕ) (c : ℕ) → 0 ≡ chain_start ns (first_arm c)
unfolding first_arm chain_start
first-start ns c = refl

-- ---- a turn of the loop over chains: chain c has n joints, its pairs look at the arm that starts at link f
module _ (ns cs : List ℕ) (c : ℕ) (h : c < length ns) where
  pub arm-fits : Paired ns cs → chain_start ns (first_arm c) + chain_length ns cs c ≤ length cs
  unfolding first_arm
  arm-fits s = omega (arith, s.fits c h, (chain-part ns cs (first_arm c) (chain_start ns (first_arm c)) s.counted (omega arith) refl).within)

  module _ (arms : ℕ → ℕ) (n : ℕ) (e : n ≡ chain_length ns cs c) where
    chain-pairs : chain_pairs arms (chain_lengths ns cs) c ≡ pairs_of (pair (arms c)) n
    unfolding chain_pairs
    chain-pairs = ap (pairs_of (pair (arms c))) (lengths-at ns cs c h ∙ sym e)

    pub chain-count : length (chain_pairs arms (chain_lengths ns cs) c) ≡ triangle (n - 2)
    chain-count = ap length chain-pairs ∙ pair-count (pair (arms c)) n

    module _ (f : ℕ) (start : f ≡ chain_start ns (arms c)) where
      pub losses-chain : (P : ℕ → Pose) (b : Bool) → map (pair_loss ns P b) (chain_pairs arms (chain_lengths ns cs) c) ≡ pairs_of (loss_from P f b) n
      unfolding pair_loss
      losses-chain P b = ap (map (pair_loss ns P b)) chain-pairs ∙ map-pairs (pair_loss ns P b) (pair (arms c)) n ∙ ap (λ (l : ℕ). pairs_of (loss_from P l b) n) (sym start)

      pub lasts-chain : map (pair_last ns) (chain_pairs arms (chain_lengths ns cs) c) ≡ pairs_of (last_from f) n
      unfolding pair_last
      lasts-chain = ap (map (pair_last ns)) chain-pairs ∙ map-pairs (pair_last ns) (pair (arms c)) n ∙ ap (λ (l : ℕ). pairs_of (last_from l) n) (sym start)

-- ---- the sheet: arm 0 has a link for each of its joints
pub paired_is : (ns cs : List ℕ) → Counted ns cs → ((c : ℕ) → 0 < c → c < length ns → chain_length ns cs c ≤ get_or ns 0 0) → Paired ns cs
unfolding first_arm chain_length chain_start
paired_is ns cs s later = record {
  counted = s;
  fits = λ c h.
      ⊎_elim
      (λ (b : 0 < c). later c b h)
      (λ (b : c ≤ 0). let e : c ≡ 0 = omega arith in rw e (omega (arith, joint-le cs (chain_start ns (0 + 1)), chain-start-next ns 0)))
      (below_or 0 c);
}
