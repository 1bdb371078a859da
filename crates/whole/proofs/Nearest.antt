-- `whole_of` is what `IsNearestWhole` says, and no other value is.
use Rattle.std.specs.Prelude.{◌⊎◌, ◌≡◌, refl, ℕ, zero, suc, ◌+◌, ◌-◌, ◌*◌, ◌%◌, ◌^◌, ◌≤◌, ◌<◌, Bool, ◌&&◌, ℤ, pos, negsuc, T, ltb, Float}
use Rattle.std.proofs.Common.{sym, ap, ◌∙◌, subst, inl, inr, le_antisymm, add-mul, suc-mul, le_trans, le_of_eq, lt_of_lt_of_le, lt_of_le_of_lt, zero-lt-suc, mul-one, mul_assoc, mul-le-mul_left, mul-le-mul_right, mul-lt-mul_of_pos_right, arith, lit≤, pow-add, pow_pos, pow_mono}
use Rattle.std.specs.Float.{nan, inf, fin, binary64}
use Rattle.std.specs.Float.Ieee.{up, down, round, of_int, fits}
use Rattle.std.specs.Float.Ieee.Fits.{down_pos, of_int-fits}
use Rattle.std.specs.Float.Ieee.Exact.{HasValue, round_exact}
use Rattle.std.specs.Float.Ieee.Back.{round_whole, whole_unique}
use Rattle.std.specs.Float.Ieee.Nearest.{closest, closest_same}
use Rattle.whole.specs.Whole.{apart, NearestTo, Whole, IsNearestWhole, signed, whole_of, signed_is}
use Rattle.whole.specs.Halves.{Halves, sorted, closest-halves, closest-one, closest-le}
use Rattle.whole.specs.Fits.{fits-says}

-- ---- no whole number is nearer
-- the next whole number is d further on
gap : (i j d : ℕ) → i < j → i * d + d ≤ j * d
gap i j d h = subst (λ (x : ℕ). x ≤ j * d) (suc-mul i d) (mul-le-mul_right d h)

pub nearest-to : (n d k : ℕ) → 0 < d → Halves n d k → NearestTo n d k
nearest-to n d k D h = record { least = λ j. least j (sorted j k); even = λ j. even j (sorted j k) }
  where
    least : (j : ℕ) → (j ≡ k) ⊎ ((j < k) ⊎ (k < j)) → apart n (k * d) ≤ apart n (j * d)
    least j (inl e) = le_of_eq (ap (λ (i : ℕ). apart n (i * d)) (sym e))
    least j (inr (inl l)) = below n (k * d) (j * d) d h.over (gap j k d l)
      where
        below : (n K J d : ℕ) → 2 * K ≤ 2 * n + d → J + d ≤ K → n - K + (K - n) ≤ n - J + (J - n)
        below n K J d a b = omega arith
    least j (inr (inr l)) = above n (k * d) (j * d) d h.under (gap k j d l)
      where
        above : (n K J d : ℕ) → 2 * n ≤ 2 * K + d → K + d ≤ J → n - K + (K - n) ≤ n - J + (J - n)
        above n K J d a b = omega arith

    even : (j : ℕ) → (j ≡ k) ⊎ ((j < k) ⊎ (k < j)) → (j ≡ k → ⊥) → apart n (k * d) ≡ apart n (j * d) → k % 2 ≡ 0
    even j (inl e) f t = absurd (f e)
    even j (inr (inl l)) f t = h.even-over (below n (k * d) (j * d) d D h.over (gap j k d l) t)
      where
        below : (n K J d : ℕ) → 0 < d → 2 * K ≤ 2 * n + d → J + d ≤ K → n - K + (K - n) ≡ n - J + (J - n) → 2 * K ≡ 2 * n + d
        below n K J d D a b t = omega arith
    even j (inr (inr l)) f t = h.even-under (above n (k * d) (j * d) d D h.under (gap k j d l) t)
      where
        above : (n K J d : ℕ) → 0 < d → 2 * n ≤ 2 * K + d → K + d ≤ J → n - K + (K - n) ≡ n - J + (J - n) → 2 * n ≡ 2 * K + d
        above n K J d D a b t = omega arith

-- ---- the whole number nearest to a value is held
pub closest-zero : (e : ℤ) → closest (0 * up e) (down e) ≡ 0
closest-zero e = closest_same (0 * up e) (down e) 0 1 (down_pos e) (zero-lt-suc 0) (none (up e) (down e))
  where
    none : (u d : ℕ) → 0 * u * 1 ≡ 0 * d
    none u d = omega arith

-- below 2 ^ 53, with a fraction
pub halved : (m j : ℕ) → m < 2 ^ 53 → m * 1 < 4503599627370496 * 2 ^ suc j
halved m j h = lt_of_lt_of_le (subst (λ (z : ℕ). z < 2 ^ 53) (sym (mul-one m)) h) (mul-le-mul_left 4503599627370496 (pow_mono {i = 1} {j = suc j} (one j)))
  where
    one : (j : ℕ) → 1 ≤ suc j
    one j = omega arith

held : (s t : Bool) (m : ℕ) (e : ℤ) → T (fits binary64 (fin s m e)) → HasValue (round binary64 t (closest (m * up e) (down e)) 1) t (closest (m * up e) (down e)) 1
held s t zero e f = subst (λ (k : ℕ). HasValue (round binary64 t k 1) t k 1) (sym (closest-zero e)) (round_whole binary64 t 0 (lit≤ tt))
held s t (suc m) (pos j) f =
    subst (λ (k : ℕ). HasValue (round binary64 t k 1) t k 1) (sym (closest-one (suc m * 2 ^ j)))
    (round_exact binary64 t (suc m * 2 ^ j) 1 (suc m) (j + 1074) (zero-lt-suc 0) (fits-says binary64 s (suc m) (pos j) f).0
    (lt_of_le_of_lt (le_of_eq (sym moved)) (lt_of_lt_of_le (mul-lt-mul_of_pos_right (fits-says binary64 s (suc m) (pos j) f).2 (pow_pos 1074)) (lit≤ tt)))
    (moved ∙ sym (mul-one (suc m * 2 ^ (j + 1074)))))
  where
    moved : suc m * 2 ^ j * 2 ^ 1074 ≡ suc m * 2 ^ (j + 1074)
    moved = mul_assoc (suc m) (2 ^ j) (2 ^ 1074) ∙ ap (λ (z : ℕ). suc m * z) (sym (pow-add 2 j 1074))
held s t (suc m) (negsuc j) f = round_whole binary64 t (closest (suc m * 1) (2 ^ suc j)) (le_trans (closest-le (suc m * 1) (2 ^ suc j) 4503599627370496 (pow_pos (suc j)) (halved (suc m) j (fits-says binary64 s (suc m) (negsuc j) f).0)) (lit≤ tt))

pub nearest-held : (s : Bool) (m : ℕ) (e : ℤ) → T (fits binary64 (fin s m e)) → Whole s (closest (m * up e) (down e)) (of_int binary64 (signed s (closest (m * up e) (down e))))
nearest-held s m e f =
    let k = closest (m * up e) (down e) in
    record {
      held = of_int-fits binary64 (signed s k);
      value = subst (λ (r : Float). HasValue r (s && ltb 0 k) k 1) (signed_is s k) (held s (s && ltb 0 k) m e f);
    }

pub is-nearest : (x : Float) → T (fits binary64 x) → IsNearestWhole x (whole_of x)
unfolding whole_of
is-nearest nan f = refl
is-nearest (inf s) f = refl
is-nearest (fin s m e) f = (closest (m * up e) (down e), nearest-to (m * up e) (down e) (closest (m * up e) (down e)) (down_pos e) (closest-halves (m * up e) (down e) (down_pos e)), nearest-held s m e f)

-- ---- only one value is that
alone : (n d j k : ℕ) → 0 < d → NearestTo n d j → NearestTo n d k → j < k → ⊥
alone n d j k D a b l =
    let e : apart n (j * d) ≡ apart n (k * d) = le_antisymm (a.least k) (b.least j) in
    let g = subst (λ (x : ℕ). x ≤ k * d) (add-mul j 2 d) (mul-le-mul_right d (two j k (a.even k (λ (q : k ≡ j). differ j k l q) e) (b.even j (λ (q : j ≡ k). differ j k l (sym q)) (sym e)) l)) in
    middle n (j * d) (k * d) d D e g (subst (λ (x : ℕ). apart n (j * d) ≤ apart n x) (suc-mul j d) (a.least (suc j)))
  where
    differ : (j k : ℕ) → j < k → k ≡ j → ⊥
    differ j k l e = omega arith

    two : (j k : ℕ) → j % 2 ≡ 0 → k % 2 ≡ 0 → j < k → j + 2 ≤ k
    two j k a b l = omega arith

    middle : (n J K d : ℕ) → 0 < d → n - J + (J - n) ≡ n - K + (K - n) → J + 2 * d ≤ K → n - J + (J - n) ≤ n - (J + d) + (J + d - n) → ⊥
    middle n J K d D e g h = omega arith

one_number : (n d j k : ℕ) → 0 < d → NearestTo n d j → NearestTo n d k → j ≡ k
one_number n d j k D a b = elim (sorted j k) [ inl e ↦ e | inr l ↦ elim l [ inl i ↦ absurd (alone n d j k D a b i) | inr i ↦ absurd (alone n d k j D b a i) ] ]

pub unique : (x r t : Float) → IsNearestWhole x r → IsNearestWhole x t → r ≡ t
unique nan r t a b = a ∙ sym b
unique (inf s) r t a b = a ∙ sym b
unique (fin s m e) r t a b =
    let k = b.0 in
    let v = subst (λ (j : ℕ). HasValue r (s && ltb 0 j) j 1) (one_number (m * up e) (down e) a.0 k (down_pos e) a.1 b.1) a.2.value in
    whole_unique binary64 r t (s && ltb 0 k) k a.2.held b.2.held v b.2.value
