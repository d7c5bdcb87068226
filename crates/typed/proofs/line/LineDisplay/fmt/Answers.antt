use Rattle.std.proofs.Common.{◌≡◌, ◌∷◌, ◌++◌, List, ℕ, sym, ap, ◌∙◌, append_assoc, rules}
use Rattle.std.proofs.Output.{has_written_append}
use Rattle.std.specs.List.{join_with_byte}
use Rattle.typed.specs.Words.{words_of}
use Rattle.typed.proofs.Spaced.{spaced, join_with_byte-cons}
use Rattle.typed.proofs.line.LineDisplay.fmt.Goals as goal

pub loop-word-init : goal.loop-word-init
loop-word-init g c = λ plain.
    let words : ◌≡◌ {A = List (List ℕ)} (words_of c.args.self.now.0.now) (c.in-Some.first.now ∷ c.into_iter-word-iterator.result) = search rules in
    (c.in-Some.first.now, search rules, sym (ap (join_with_byte 32) words ∙ join_with_byte-cons _ _))

pub loop-word-preserved : goal.loop-word-preserved
loop-word-preserved g c = λ plain.
    let (text, wrote, rest) = c.loop-word.invariant plain in
    let left : ◌≡◌ {A = List (List ℕ)} c.loop-word.word-iterator (c.in-Some-word.word.now ∷ c.next-in-loop-word.new.self) = search rules in
    (text ++ (32 ∷ c.in-Some-word.word.now), has_written_append _ _ _ _ _ _ wrote (search rules), append_assoc text (32 ∷ c.in-Some-word.word.now) (spaced c.next-in-loop-word.new.self) ∙ ap (λ words. text ++ spaced words) (sym left) ∙ rest)
