use Rattle.std.proofs.Common.{◌≡◌, ℕ, List, ◌++◌}
use Rattle.std.specs.Fmt.{HasWritten, IsPlainFormatter}
use Rattle.std.specs.List.{join_with_byte}
use Rattle.typed.specs.Words.{words_of}
use Rattle.typed.proofs.Spaced.{spaced}
use Rattle.typed.proofs.line.LineDisplay.fmt.Given as goal

abbrev pub invariant-loop-word : goal.invariant-loop-word
invariant-loop-word g l =
    IsPlainFormatter l.fn.f → (text : List ℕ) × HasWritten g.W.Write.write_str_gives l.fn.f text l.f
    × (text ++ spaced l.word-iterator ≡ join_with_byte 32 (words_of l.fn.self.0.now))
