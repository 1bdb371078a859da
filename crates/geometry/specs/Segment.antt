-- The distance of two segments.
use Rattle.std.specs.Prelude.{cond, Float}
use Rattle.std.specs.Float.Ieee.{neg, lt, eq}
use Rattle.standins.specs.Num.{◌⊕◌, ◌⊖◌, ◌⊗◌, ◌⊘◌, nought, one}
use Rattle.standins.specs.Cut.{cut_of}
use Rattle.geometry.specs.declared.vector.Vec3.{Vec3}
use Rattle.geometry.specs.declared.segment.Parameters.{Parameters}
use Rattle.geometry.specs.Vector.{add_of, sub_of, scale_of, dot_of, norm_of}

-- D = A-as-E - B-as-B; s = cut((B-as-F - C-as-E)/D), or 0 if D = 0
unfoldable pub inner_of : Float → Float → Float → Float → Float → Float
inner_of a b c e f = let d = a ⊗ e ⊖ b ⊗ b in cond (eq d nought) nought (cut_of ((b ⊗ f ⊖ c ⊗ e) ⊘ d))

-- t < 0: t = 0, s = cut(-C/A); t > 1: t = 1, s = cut((B - C)/A)
unfoldable pub ended_of : Float → Float → Float → Float → Float → Parameters
ended_of a b c s t =
    cond (lt t nought) (record { s = cut_of (neg c ⊘ a); t = nought })
    (cond (lt one t) (record { s = cut_of ((b ⊖ c) ⊘ a); t = one })
    (record { s = s; t = t }))

-- A = E = 0: s = t = 0. Only A = 0: s = 0, t = cut(F/E). Only E = 0: t = 0, s = cut(-C/A). Else s as above, t = (B·s + F)/E
unfoldable pub closest_of : Float → Float → Float → Float → Float → Parameters
closest_of a b c e f =
    cond (eq a nought)
    (cond (eq e nought) (record { s = nought; t = nought }) (record { s = nought; t = cut_of (f ⊘ e) }))
    (cond (eq e nought) (record { s = cut_of (neg c ⊘ a); t = nought })
    (let s = inner_of a b c e f in ended_of a b c s ((b ⊗ s ⊕ f) ⊘ e)))

-- start + d·s
unfoldable pub point_of : Vec3 → Vec3 → Float → Vec3
point_of start d s = add_of start (scale_of d s)

-- d1, d2 are end minus start, r = start 1 - start 2, A = d1·d1, E = d2·d2, F = d2·r, C = d1·r, B = d1·d2;
-- then the norm of (start 1 + d1·s) - (start 2 + d2·t)
unfoldable pub distance_of : Vec3 → Vec3 → Vec3 → Vec3 → Float
distance_of start1 end1 start2 end2 =
    let d1 = sub_of end1 start1 in
    let d2 = sub_of end2 start2 in
    let r = sub_of start1 start2 in
    let at = closest_of (dot_of d1 d1) (dot_of d1 d2) (dot_of d1 r) (dot_of d2 d2) (dot_of d2 r) in
    norm_of (sub_of (point_of start1 d1 at.s) (point_of start2 d2 at.t))
