-- A word cut off the front of a text.
use Rattle.std.specs.Prelude.{⊤}
use Rattle.std.proofs.Common.{◌≡◌, ℕ, ◌<◌, Bool, true, not, List, [], ◌∷◌, ◌++◌, length, map, refl, sym, ap, ◌∙◌, subst, append_assoc, append-nil, arith, rules, Option, Some, None, Bor}
use Rattle.std.proofs.lemmas.Str.{chars-nil, chars_past_char, IsUtf8-past_char}
use Rattle.std.specs.Char.{is_whitespace, is_not_whitespace, encode_utf8}
use Rattle.std.specs.Str.{chars, encode_utf8_all, IsUtf8, NonePass, NoCharPasses, EmptyOrStartsWithPassing}
use Rattle.std.specs.Str.Iter.{split_whitespace_rest, split_whitespace_steps}
use Rattle.std.specs.declared.str.SplitWhitespace.{SplitWhitespace}
use Rattle.std.specs.Iterator.{YieldsFirstRef, MakesProgress, item_count}
use Rattle.typed.specs.Words.{runs_after, words_of}

-- the characters cs, and then those of the text that is left
chars_along : (cs text rest : List ℕ) → IsUtf8 text → text ≡ encode_utf8_all cs ++ rest → (chars text ≡ cs ++ chars rest) × IsUtf8 rest
chars_along [] text rest utf8 laid = (ap chars laid, subst IsUtf8 laid utf8)
chars_along (c ∷ cs) text rest utf8 laid =
    let first : text ≡ encode_utf8 c ++ (encode_utf8_all cs ++ rest) = laid ∙ append_assoc (encode_utf8 c) (encode_utf8_all cs) rest in
    let after = chars_along cs (encode_utf8_all cs ++ rest) rest (IsUtf8-past_char text _ c utf8 first) refl in
    (chars_past_char text _ c utf8 first ∙ ap (λ ds. c ∷ ds) after.0, after.1)

module _ (parts : ℕ → Bool) where
  -- characters that part runs, where no run has begun
  runs-gap : (gap cs : List ℕ) → NonePass (λ c. not (parts c)) gap → runs_after parts [] (gap ++ cs) ≡ runs_after parts [] cs
  runs-gap [] cs none = refl
  runs-gap (c ∷ gap) cs none =
      let e : parts c ≡ true = search rules in
      rw e (runs-gap gap cs none.1)

  -- characters of a run
  runs-run : (run more cs : List ℕ) → NonePass parts more → runs_after parts run (more ++ cs) ≡ runs_after parts (run ++ more) cs
  runs-run run [] cs none = ap (λ r. runs_after parts r cs) (sym (append-nil run))
  runs-run run (c ∷ more) cs none =
      rw none.0 (runs-run (run ++ c ∷ []) more cs none.1 ∙ ap (λ r. runs_after parts r cs) (append_assoc run (c ∷ []) more))

  -- a run that ends
  runs-end : (c : ℕ) (run cs : List ℕ) → parts c ≡ true → 0 < length run → runs_after parts run (c ∷ cs) ≡ run ∷ runs_after parts [] (c ∷ cs)
  runs-end c [] cs e some = absurd (omega arith)
  runs-end c (d ∷ run) cs e some = rw e refl

  runs-last : (run : List ℕ) → 0 < length run → runs_after parts run [] ≡ run ∷ []
  runs-last [] some = absurd (omega arith)
  runs-last (d ∷ run) some = refl

-- where every character is white space there is no word
no_words : (text : List ℕ) → IsUtf8 text → NoCharPasses is_not_whitespace text → words_of text ≡ []
unfolding words_of
no_words text utf8 blank =
    let laid : text ≡ encode_utf8_all blank.0 ++ [] = sym blank.1 ∙ sym (append-nil (encode_utf8_all blank.0)) in
    ap (λ cs. map encode_utf8_all (runs_after is_whitespace [] cs)) ((chars_along blank.0 text [] utf8 laid).0 ∙ ap (λ cs. blank.0 ++ cs) chars-nil)
    ∙ ap (map encode_utf8_all) (runs-gap is_whitespace blank.0 [] blank.2)

-- a word ends where white space or nothing follows
runs-word : (run rest more : List ℕ) → IsUtf8 rest → 0 < length run → EmptyOrStartsWithPassing is_whitespace rest more
    → runs_after is_whitespace run (chars rest) ≡ run ∷ runs_after is_whitespace [] (chars rest)
runs-word run [] more utf8 some stops = rw chars-nil (runs-last is_whitespace run some)
runs-word run (b ∷ bs) more utf8 some stops =
    let at = stops (omega arith) in
    rw (chars_past_char (b ∷ bs) more at.0 utf8 at.2) (runs-end is_whitespace at.0 run (chars more) at.1 some)

some_chars : (cs : List ℕ) → 0 < length (encode_utf8_all cs) → 0 < length cs
some_chars [] some = some
some_chars (c ∷ cs) some = omega arith

-- the first word, and the words of the text that is left
words_cut : (text gap word rest more : List ℕ) → IsUtf8 text → text ≡ gap ++ (word ++ rest) → 0 < length word
    → NoCharPasses is_not_whitespace gap → NoCharPasses is_whitespace word → EmptyOrStartsWithPassing is_whitespace rest more
    → (words_of text ≡ word ∷ words_of rest) × IsUtf8 rest
unfolding words_of
words_cut text gap word rest more utf8 laid some blank solid stops =
    let after_gap = chars_along blank.0 text (word ++ rest) utf8 (laid ∙ ap (λ g. g ++ (word ++ rest)) (sym blank.1)) in
    let after_word = chars_along solid.0 (word ++ rest) rest after_gap.1 (ap (λ w. w ++ rest) (sym solid.1)) in
    let runs : runs_after is_whitespace [] (chars text) ≡ solid.0 ∷ runs_after is_whitespace [] (chars rest) =
    ap (runs_after is_whitespace []) after_gap.0 ∙ runs-gap is_whitespace blank.0 (chars (word ++ rest)) blank.2
    ∙ ap (runs_after is_whitespace []) after_word.0 ∙ runs-run is_whitespace [] solid.0 (chars rest) solid.2
    ∙ runs-word solid.0 rest more after_word.1 (some_chars solid.0 (subst (λ w. 0 < length w) (sym solid.1) some)) stops
    in (ap (map encode_utf8_all) runs ∙ ap (λ w. w ∷ words_of rest) solid.1, after_word.1)

-- what `next` gives is the first word, and the words that are left follow it
pub first_word : (s : SplitWhitespace) (r : Option (Bor (List ℕ))) (t : SplitWhitespace) → IsUtf8 (split_whitespace_rest s) → split_whitespace_steps s r t
    → YieldsFirstRef (λ w. words_of (split_whitespace_rest w)) s r t × IsUtf8 (split_whitespace_rest t)
first_word s None t utf8 steps =
    let none = no_words (split_whitespace_rest s) utf8 steps.1 in
    ((none, ap (λ w. words_of (split_whitespace_rest w)) steps.0 ∙ none), subst (λ w. IsUtf8 (split_whitespace_rest w)) (sym steps.0) utf8)
first_word s (Some x) t utf8 (gap, laid, some, blank, solid, (more, stops)) = words_cut (split_whitespace_rest s) gap x.now (split_whitespace_rest t) more utf8 laid some blank solid stops

-- each word that comes leaves one word fewer
pub one_fewer : (s : List (List ℕ)) (r : Option (Bor (List ℕ))) (t : List (List ℕ)) → YieldsFirstRef (λ words. words) s r t → MakesProgress (λ _. ⊤) (item_count (λ words. words)) s r t
one_fewer s None t steps = search rules
one_fewer s (Some x) t steps = let e = ap length steps in search rules
