-- The words of a text: the runs of its characters that are no white space.
use Rattle.std.specs.Prelude.{ℕ, Bool, cond, List, [], ◌∷◌, ◌++◌, map}
use Rattle.std.specs.Char.{is_whitespace}
use Rattle.std.specs.Str.{chars, encode_utf8_all}

-- a run that ends here, unless nothing of it has come
abbrev pub ended : List ℕ → List (List ℕ)
ended [] = []
ended (c ∷ run) = (c ∷ run) ∷ []

-- the runs between the characters that part them, where `run` has come of the first one
abbrev pub runs_after : (ℕ → Bool) → List ℕ → List ℕ → List (List ℕ)
runs_after parts run [] = ended run
runs_after parts run (c ∷ cs) = cond (parts c) (ended run ++ runs_after parts [] cs) (runs_after parts (run ++ c ∷ []) cs)

-- the words of a text, each by its bytes
unfoldable pub words_of : List ℕ → List (List ℕ)
words_of text = map encode_utf8_all (runs_after is_whitespace [] (chars text))
