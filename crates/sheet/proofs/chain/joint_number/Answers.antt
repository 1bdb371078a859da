-- `joint_number` meets its contract: the part before the link has its joints.
use mathlib.Core.Path.{◌≡◌, ap, ◌∙◌}
use native.Mathlib.Omega.{arith}
use lib.ListN.{length, take}
use lib.Seq.{length-take-le}
use Rattle.sheet.specs.Chain.{joint_of, joint-part}
use Rattle.sheet.proofs.chain.joint_number.Goals as goal

pub returns : goal.returns
returns c =
    let many : length (take c.args.link c.args.codes.now) ≡ c.args.link = length-take-le c.args.link c.args.codes.now c.requires in
    let cs = c.args.codes.now in
    let l = c.args.link in
    c.joints_to.ensures ∙ joint-part cs l (length (take l cs)) (omega (arith, many)) ∙ ap (joint_of cs) (many)
