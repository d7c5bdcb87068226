-- The paper's book that a draft or a closed book holds.
use Rattle.std.specs.Prelude.{ℤ}
use Rattle.algebra.specs.Interval.{Ends}
use Rattle.paper.specs.Numbers.{both}
use Rattle.paper.specs.Books.{Book}
use Rattle.book.specs.Stored.{book_of}
use Rattle.engine.specs.declared.states.Draft.{Draft}
use Rattle.engine.specs.declared.states.Closed.{Closed}

abbrev pub of_draft : Draft → Book
of_draft d = book_of d.book

abbrev pub of_closed : Closed → Book
of_closed c = book_of c.book

-- an answered pair: the lower and the upper end
abbrev pub pair_ends : ℤ × ℤ → Ends
pair_ends p = both p.0 p.1
