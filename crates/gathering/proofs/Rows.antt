-- The rows of a sheet, as calculations read them.
use Rattle.std.proofs.Common.{◌≡◌, ℕ, zero, suc, ◌+◌, ◌<◌, ◌≤◌, List, [], ◌∷◌, ◌++◌, map, length, get_or, take, drop, pos, Ok, Err, Result, sym, refl, ap, ◌∙◌, ap₂, zero-add, add-one, arith}
use mathlib.Core.Path.{fun_ext}
use Rattle.std.proofs.lemmas.Bool.Decides.{nat_tests}
use Rattle.std.proofs.lemmas.List.{take_more, get_or-map, get_or-drop, get_or-take, length-drop, length-map, length-take, take-map, drop-map}
use Rattle.algebra.specs.Interval.{Ends}
use Rattle.paper.specs.Numbers.{point}
use Rattle.paper.specs.Sums.{Sum, nothing, sum_of_ends}
use Rattle.paper.specs.Books as paper
use Rattle.paper.specs.Books.{Cell, cell_at, total_of, reading, with_term, with_terms}
use Rattle.forms.specs.Told.{next, ceiled, evaluated}
use Rattle.book.specs.declared.kinds.Sizes.{Sizes}
use Rattle.book.specs.Stored.{cells, place_of}
use Rattle.book.proofs.Places.{row_in}
use Rattle.gathering.specs.Sheet.{folded, summed, row_of, on_sheet, plus_term}

next_itself : {V E : Type 0} (r : Result V E) → next r (λ v. Ok v) ≡ r
next_itself (Ok v) = refl
next_itself (Err e) = refl

next_next : {U V W E : Type 0} (r : Result U E) (f : U → Result V E) (h : V → Result W E) → next (next r f) h ≡ next r (λ u. next (f u) h)
next_next (Ok u) f h = refl
next_next (Err e) f h = refl

folded_push : {V X E : Type 0} (step : V → X → Result V E) (v : V) (xs : List X) (x : X) → folded step v (xs ++ x ∷ []) ≡ next (folded step v xs) (λ w. step w x)
folded_push step v [] x = next_itself (step v x)
folded_push step v (y ∷ ys) x = ap (next (step v y)) (fun_ext (λ w. folded_push step w ys x)) ∙ sym (next_next (step v y) (λ w. folded step w ys) (λ w. step w x))

-- a column of a row, as the sheet has it
row_column : {X : Type 0} (s : Sizes) (xs : List X) (m i k : ℕ) (d : X) → k < s.columns → get_or (row_of s m i xs) k d ≡ get_or xs (place_of s (cell_at m i k)) d
row_column s xs m i k d h =
    let at = place_of s (cell_at m i 0) in
    get_or-take s.columns (drop at xs) k d h ∙ get_or-drop at xs k d ∙ ap (λ j. get_or xs j d) (omega arith)

row_total : (s : Sizes) (es : List Ends) (m i n : ℕ) → place_of s (cell_at m i 0) + s.columns ≤ length es → n ≤ s.columns →
    summed (take n (row_of s m i es)) ≡ evaluated (on_sheet s es) (total_of m i 0 n)
row_total s es m i zero room h = refl
row_total s es m i (suc n) room h =
    let row = row_of s m i es in
    let z = point (pos 0) in
    let here : n < length row = simp (length-take, length-drop) (omega arith) in
    ap (λ j. summed (take j row)) (sym (add-one n))
    ∙ ap summed (take_more row n z here)
    ∙ folded_push (λ a x. ceiled (sum_of_ends a x)) z (take n row) (get_or row n z)
    ∙ ap₂ (λ r x. next r (λ a. ceiled (sum_of_ends a x))) (row_total s es m i n room (omega arith)) (row_column s es m i n z (omega arith) ∙ ap (λ j. on_sheet s es (cell_at m i j)) (sym (zero-add n)))

module _ {V : Type 0} (ends : V → Ends) (s : Sizes) (xs : List V) (m i : ℕ) (all : cells s ≤ length xs) (own : m < s.properties) (row : i < s.rows) where
  pub row_read : (k : ℕ) (x : V) → k < s.columns → ends (get_or (row_of s m i xs) k x) ≡ on_sheet s (map ends xs) (cell_at m i k)
  row_read k x h =
      let here : place_of s (cell_at m i k) < length xs = omega (arith, row_in s.properties s.rows s.columns m i own row) in
      ap ends (row_column s xs m i k x h) ∙ sym (get_or-map ends xs (place_of s (cell_at m i k)) x (point (pos 0)) here)

  pub row_summed : (n : ℕ) → n ≤ s.columns → summed (map ends (take n (row_of s m i xs))) ≡ evaluated (on_sheet s (map ends xs)) (total_of m i 0 n)
  row_summed n h =
      let at = place_of s (cell_at m i 0) in
      let room : at + s.columns ≤ length (map ends xs) = simp length-map (omega (arith, row_in s.properties s.rows s.columns m i own row)) in
      simp (← take-map, ← drop-map) (row_total s (map ends xs) m i n room h)

-- the terms one after the other
module _ (cell : Cell → Ends) (i k : ℕ) where
  with_one : (so_far : Sum Cell) (t : paper.Term) → evaluated cell (with_term i k so_far t) ≡ next (evaluated cell so_far) (λ a. plus_term cell i k a t)
  with_one so_far t = grind (arith, nat_tests, next_itself)

  with_each : (so_far : Sum Cell) (ts : List paper.Term) → evaluated cell (with_terms i k so_far ts) ≡ next (evaluated cell so_far) (λ a. folded (plus_term cell i k) a ts)
  with_each so_far [] = sym (next_itself (evaluated cell so_far))
  with_each so_far (t ∷ ts) = with_each (with_term i k so_far t) ts ∙ ap (λ r. next r (λ a. folded (plus_term cell i k) a ts)) (with_one so_far t) ∙ next_next (evaluated cell so_far) (λ a. plus_term cell i k a t) (λ a. folded (plus_term cell i k) a ts)

  pub terms_folded : (ts : List paper.Term) → folded (plus_term cell i k) (point (pos 0)) ts ≡ evaluated cell (with_terms i k nothing ts)
  terms_folded ts = sym (with_each nothing ts)
