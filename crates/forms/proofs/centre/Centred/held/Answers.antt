use Rattle.std.proofs.Common.{true, false, refl, w64}
use Rattle.std.proofs.lemmas.Int.{to_z-of_z}
use Rattle.forms.proofs.Centring.{holds, below, above, radius_taken}
use Rattle.forms.proofs.centre.Centred.held.Goals.{then-centre-radius-via-then-centre-radius, then-centre-radius-via-else-centre-radius+then-centre-radius-2}
use Rattle.forms.proofs.centre.Centred.held.Goals as goal

pub returns-then-centre-radius : goal.returns-then-centre-radius
returns-then-centre-radius g c =
    let h = holds c.requires.sizes c.requires.ceiling in
    elim c.then-centre-radius.branch [
      | then-centre-radius-via-then-centre-radius w ↦ rw (below _ _ _ h true w.if-centre-radius.true) refl
      | then-centre-radius-via-else-centre-radius+then-centre-radius-2 w ↦ rw (below _ _ _ h false w.if-centre-radius.false, above _ _ _ h true w.if-centre-radius-2.true) refl
    ]

pub returns : goal.returns
returns g c =
    let h = holds c.requires.sizes c.requires.ceiling in
    rw (to_z-of_z w64 c.args.centre c.ranges.centre, to_z-of_z w64 c.args.radius c.ranges.radius, radius_taken _ _ _ h, below _ _ _ h false c.if-centre-radius.false, above _ _ _ h false c.if-centre-radius-2.false)
    refl
