use Rattle.std.proofs.Common.{◌≡◌, pos, ◌<ℤ◌, sym, ap, ◌∙◌, arith, w64, to_z, of_z, rules}
use Rattle.std.proofs.lemmas.Result.{err_from_is_err_and}
use Rattle.std.proofs.lemmas.Int.{ints, to_z-of_z}
use Rattle.book.specs.declared.faults.Place.{Place}
use Rattle.book.specs.Grounds.{placed}
use Rattle.book.specs.Stored.{book_of}
use Rattle.sources.proofs.Layering.{own_refused, own_mixed}
use Rattle.sources.proofs.weighing.Weighing.with_row.Goals as goal

pub returns-in_err-own : goal.returns-in_err-own
returns-in_err-own g c =
    let q = c.args.question.now in
    let exposure = c.in_ok-exposure.exposure in
    let back : to_z w64 (of_z w64 exposure) ≡ exposure = to_z-of_z w64 exposure (search rules) in
    let above : pos 0 <ℤ exposure = grind (arith, ints, c.in_ok-exposure.ensures.not_negative) in
    let p = err_from_is_err_and c.from_residual-in_err-own.result c.from_residual-in_err-own.ensures.1 in
    let next : to_z w64 (of_z w64 c.following.result) ≡ c.following.result = to_z-of_z w64 c.following.result (search rules) in
    λ before s h.
    rw (p.1, p.2)
    (own_refused g.F.ProjectingForm.form q.property q.column (book_of q.book.now) c.args.row c.args.self.weight before s (g.F.ProjectingForm.fends c.args.below) h
    exposure c.in_ok-exposure.ensures.value above g.F.ProjectingForm.fends c.ratio.result _ _ (next ∙ c.following.ensures.value) back c.ratio.ensures c.in_err-own.field-0.0
    (sym c.in_err-own.was ∙ c.at.ensures ∙ ap (λ (x : Place). placed x c.ratio.result) c.place-place.ensures))

pub returns : goal.returns
returns g c =
    let q = c.args.question.now in
    let exposure = c.in_ok-exposure.exposure in
    let back : to_z w64 (of_z w64 exposure) ≡ exposure = to_z-of_z w64 exposure (search rules) in
    let above : pos 0 <ℤ exposure = grind (arith, ints, c.in_ok-exposure.ensures.not_negative) in
    let next : to_z w64 (of_z w64 c.following.result) ≡ c.following.result = to_z-of_z w64 c.following.result (search rules) in
    λ before s h.
    rw (c.at-2.ensures, c.place-place.ensures)
    (own_mixed g.F.ProjectingForm.form q.property q.column (book_of q.book.now) c.args.row c.args.self.weight before s (g.F.ProjectingForm.fends c.args.below) h
    exposure c.in_ok-exposure.ensures.value above g.F.ProjectingForm.fends c.ratio.result _ _ (next ∙ c.following.ensures.value) back c.ratio.ensures c.in_ok-own.own
    (sym c.in_ok-own.was ∙ c.at.ensures ∙ ap (λ (x : Place). placed x c.ratio.result) c.place-place.ensures) c.mix.result c.mix.ensures)
