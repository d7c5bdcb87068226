use Rattle.std.proofs.Common.{sym}
use Rattle.std.proofs.lemmas.Result.{err_from_is_err_and}
use Rattle.book.specs.Stored.{book_of}
use Rattle.paper.specs.Layers.{passed_up}
use Rattle.sources.specs.Weighings.{weighing_at}
use Rattle.sources.proofs.Layering.{passed_answer, refused_below}
use Rattle.sources.proofs.credibility.CredibilityFactorSource.factor.Goals as goal

pub returns-in_err-below : goal.returns-in_err-below
returns-in_err-below g c =
    let s = c.args.self.now in
    let b = book_of c.args.book.now in
    let m = c.args.property in
    let k = c.args.column in
    let F = g.F.ProjectingForm.form in
    let M = g.S.FactorSource.means s.below b m k in
    let w = weighing_at s.columns k in
    let p = err_from_is_err_and c.from_residual.result c.from_residual.ensures.1 in
    let up = passed_answer F m k g.F.ProjectingForm.fends M c.factor.result c.factor.ensures c.above.result c.above.ensures in
    rw (p.1, p.2) (sym (refused_below F m k b w.lag w.weight (passed_up M) c.in_err-below.field-0.0 (sym (rw c.in_err-below.was at up))))

pub returns : goal.returns
returns g c =
    let s = c.args.self.now in
    let b = book_of c.args.book.now in
    let m = c.args.property in
    let k = c.args.column in
    let M = g.S.FactorSource.means s.below b m k in
    let up = passed_answer g.F.ProjectingForm.form m k g.F.ProjectingForm.fends M c.factor.result c.factor.ensures c.above.result c.above.ensures in
    c.weigh.ensures (passed_up M) (sym (rw c.in_ok-below.was at up))
