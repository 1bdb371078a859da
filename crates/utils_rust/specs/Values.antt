-- The inverse cosine at 1, 0 and -1, and where the logarithm is i, j, k as they stand.
use Rattle.std.specs.Prelude.{◌≡◌, refl, false, Float}
use Rattle.std.specs.Float.{nan, binary64}
use Rattle.std.specs.Float.Ieee.{add, sub, mul, div, neg, lt, le, eq, of_int, of_bits}
use Rattle.root.specs.Root.{root_of}
use Rattle.standins.specs.Num.{nought, one, abs_of}
use Rattle.standins.specs.Reduction.{reduced_of}
use Rattle.standins.specs.Series.{down_from, sine_divisor, term_of, series_of, sine_series_of, sine_of, halved_of, arc_term_of, arc_series_of, small_angle_of, quarter_turn, atan2_of}
use Rattle.geometry.specs.declared.quaternion.Quat.{Quat}
use Rattle.geometry.specs.Vector.{vec}
use Rattle.geometry.specs.Quaternion.{quat, axis_of}
use Rattle.utils_rust.specs.Acos.{half_turn, opposite_of, acute_of, acos_of}
use Rattle.utils_rust.specs.Transformations.{quaternion_log}

pub acos-one : acos_of one ≡ nought
unfolding acos_of acute_of opposite_of root_of sub mul lt eq of_bits
acos-one = refl

pub acos-nought : acos_of nought ≡ quarter_turn
unfolding acos_of acute_of opposite_of root_of abs_of atan2_of small_angle_of halved_of arc_series_of arc_term_of down_from add sub mul div lt eq of_int of_bits
acos-nought = refl

pub acos-minus-one : acos_of (neg one) ≡ half_turn
unfolding acos_of acute_of opposite_of root_of sub mul neg lt eq of_bits
acos-minus-one = refl

-- |w| not under 1
pub log-unscaled : (q : Quat) → lt (abs_of q.w) one ≡ false → quaternion_log q ≡ axis_of q
unfolding quaternion_log
log-unscaled q e = rw e

-- w a NaN
pub log-nan : (i j k : Float) → quaternion_log (quat nan i j k) ≡ vec i j k
unfolding quaternion_log axis_of abs_of lt
log-nan i j k = refl

-- w = -0.99999: acos(w) is nearly π, and its sine under 0.005
pub log-near-minus-one : (i j k : Float) → quaternion_log (quat (of_bits binary64 0xbfef_ffeb_074a_771d) i j k) ≡ vec i j k
unfolding quaternion_log axis_of acos_of acute_of opposite_of root_of abs_of atan2_of small_angle_of halved_of arc_series_of arc_term_of sine_of reduced_of sine_series_of series_of sine_divisor term_of down_from add sub mul div lt le eq of_int of_bits
log-near-minus-one i j k = refl
