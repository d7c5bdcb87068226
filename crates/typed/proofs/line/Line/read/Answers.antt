use Rattle.std.proofs.Common.{◌≡◌, false, refl, sym, ◌∙◌, rules}
use Rattle.std.specs.Fn.{FnOnceReturnsAtMut}
use Rattle.typed.specs.Reading.{is_skipped}
use Rattle.typed.specs.Words.{words_of}
use Rattle.typed.proofs.line.Line.read.Given.{Over}
use Rattle.typed.proofs.line.Line.read.Goals.{After-parse}
use Rattle.typed.proofs.line.Line.read.Goals as goal

-- the line is not skipped
live : (g : Over) (c : After-parse g) → is_skipped (words_of c.args.self.now.0.now) ≡ false
live g c = sym c.is_skipped.ensures ∙ c.if-is_skipped.false

-- what was read are the words of the line
was_read : (g : Over) (c : After-parse g) → FnOnceReturnsAtMut g.F.FnOnce c.args.parse (words_of c.args.self.now.0.now) c.parse.result c.parse.new.arg2
was_read g c = record { shown = _; shows = c.words-words.ensures; left = _; met = c.parse.ensures; leaves = refl }

pub returns-in_err-value : goal.returns-in_err-value
returns-in_err-value g c =
    let after = (goal.at.returns-in_err-value g c).After-parse in
    rw (live g after) (c.parse.result, c.parse.new.arg2, was_read g after, search rules)

pub returns-in-None : goal.returns-in-None
returns-in-None g c =
    let after = (goal.at.returns-in-None g c).After-parse in
    rw (live g after) (c.parse.result, c.parse.new.arg2, was_read g after, rw (c.in_ok-value.was, c.in-None.ensures.steps.0) refl)

pub returns-in-Some : goal.returns-in-Some
returns-in-Some g c =
    let after = (goal.at.returns-in-Some g c).After-parse in
    rw (live g after) (c.parse.result, c.parse.new.arg2, was_read g after, rw (c.in_ok-value.was, c.in-Some.ensures.steps) refl)
