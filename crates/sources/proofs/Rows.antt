-- A row of an estimate, from what the calls of its function answered.
use Rattle.std.proofs.Common.{◌≡◌, ℕ, zero, suc, ◌+◌, ◌-◌, ◌*◌, ◌<◌, ◌≤◌, Bool, true, false, cond, ◌⊎◌, inl, inr, List, [], ◌∷◌, map, length, get_or, ℤ, pos, ◌+ℤ◌, nat_abs, ◌≤ℤ◌, ◌<ℤ◌, Some, None, Ok, Err, Option, Result, sym, refl, ap, ◌∙◌, add-one, arith}
use Rattle.std.specs.Prelude.{All}
use Rattle.std.proofs.lemmas.Int.{ints}
use Rattle.std.proofs.lemmas.List.{get_or_past}
use Rattle.std.proofs.lemmas.Bool.{cases_lt}
use Rattle.algebra.specs.Interval.{Ends}
use Rattle.paper.specs.Numbers.{Amount, point, inside}
use Rattle.paper.specs.Sums.{nothing, sum_of_ends}
use Rattle.paper.specs.Books as paper
use Rattle.paper.specs.Books.{Cell, cell_at, with_terms}
use Rattle.paper.specs.Sources.{Cause, or_else, rising, amount_cause, gathering_past, exact_exposure, next_amount, exposures_through, next_amounts_through, row_cause}
use Rattle.forms.specs.declared.FormFault.{FormFault}
use Rattle.forms.specs.Told.{told, ceiled, evaluated}
use Rattle.forms.specs.Held.{whole_ends}
use Rattle.book.specs.declared.faults.Fault.{Fault}
use Rattle.book.specs.declared.kinds.Book.{Book}
use Rattle.book.specs.Grounds.{at_place, placed}
use Rattle.book.specs.Limits.{rule_at, IsEntry}
use Rattle.book.specs.Stored.{book_of, cells, terms_of, in_sizes, place_of}
use Rattle.gathering.specs.Sheet.{on_sheet}
use Rattle.sources.specs.Estimates.{unless_cause, totals_through}
use Rattle.sources.specs.declared.estimated.Totals.{Totals}
use Rattle.sources.proofs.Exactly.{stop, capped, step_capped, gathered_exact}

entry_inside : (x : ℤ) → IsEntry x → inside (point x) ≡ true
entry_inside x e = let l = e.low in let h = e.high in grind (arith, ints)

-- an exposure gathered from a book's own amounts
pub book_exact : (b : Book) (m i k : ℕ) → m < length b.rules.records → i < b.sizes.rows → k < b.sizes.columns → cells b.sizes ≤ length b.amounts →
    evaluated (on_sheet b.sizes (map whole_ends b.amounts)) (with_terms i k nothing (terms_of (rule_at b.rules.records m)))
    ≡ capped (gathering_past (book_of b) m i k) (exact_exposure (book_of b) m k i)
book_exact b m i k property row column room =
    gathered_exact b.sizes i k row column b.amounts room (λ j d here. entry_inside _ (b.entries j d here)) (rule_at b.rules.records m) (b.own m [] property)

-- what a reading answers: the number, or its cause
pub read_exact : (m i k : ℕ) (r : Result ℤ Fault) (o : Option ℤ) (v : ℤ) → told point r ≡ placed (at_place m i k) (capped o v) → r ≡ unless_cause m k (amount_cause i o) v
read_exact m i k (Ok w) None v e = let p : point w ≡ point v = cc in ap Ok (ap (λ (d : Ends). d.lo) p)
read_exact m i k (Ok w) (Some a) v e = cc
read_exact m i k (Err f) None v e = cc
read_exact m i k (Err f) (Some a) v e = cc

pub ok_is : {V : Type 0} (m k : ℕ) (o : Option Cause) (v w : V) → Ok w ≡ unless_cause m k o v → (o ≡ None) × (w ≡ v)
ok_is m k (Some c) v w e = absurd cc
ok_is m k None v w e = (refl, cc)

told_unless : {V W : Type 0} (m k : ℕ) (o : Option Cause) (v : V) (f : V → W) → told f (unless_cause m k o v) ≡ unless_cause m k o (f v)
told_unless m k (Some c) v f = refl
told_unless m k None v f = refl

abbrev pub with_exposures : ℤ → ℤ → Totals
with_exposures a x = record { amounts = a; exposures = x }

pub whole_is : (x : ℤ) → Amount (point x) → whole_ends x ≡ point x
whole_is x a = grind (arith, ints)

-- ---- a row whose exposure is above 0
module _ (b : paper.Book) (m k i : ℕ) (own : ℤ) (given : Ok own ≡ unless_cause m k (amount_cause i (gathering_past b m i k)) (exact_exposure b m k i))
    (above : pos 0 <ℤ own) where
  own_is : own ≡ exact_exposure b m k i
  own_is = (ok_is m k _ _ own given).1

  exposures_more : exposures_through b m k (i + 1) ≡ exposures_through b m k i +ℤ own
  exposures_more = let e = own_is in rw add-one (grind (arith, ints))

  amounts_more : next_amounts_through b m k (i + 1) ≡ next_amounts_through b m k i +ℤ next_amount b m k i
  amounts_more = let e = own_is in rw add-one (grind (arith, ints))

  -- its cause, if any, is that the sum of the exposures passes the ceiling
  row_is : row_cause b m k i ≡ amount_cause i (stop (exposures_through b m k (i + 1)))
  row_is = let none = (ok_is m k _ _ own given).0 in let e = own_is in grind (arith, ints)

  module _ (t : Totals) (t-is : t ≡ totals_through b m k i) (kept : Amount (point t.exposures)) (amount : Amount (point own)) (sum : Result ℤ FormFault)
      (sum-is : told whole_ends sum ≡ ceiled (sum_of_ends (whole_ends t.exposures) (whole_ends own))) (r : Result ℤ Fault)
      (r-is : told point r ≡ placed (at_place m i k) (told whole_ends sum)) where
    -- the sum of the exposures as it is read
    exposures_read : r ≡ unless_cause m k (amount_cause i (stop (exposures_through b m k (i + 1)))) (exposures_through b m k (i + 1))
    exposures_read =
        let next = exposures_through b m k (i + 1) in
        let total : t.exposures +ℤ own ≡ next = ap (λ (u : Totals). u.exposures +ℤ own) t-is ∙ sym exposures_more in
        let capped_sum : told whole_ends sum ≡ capped (stop next) next = sum-is ∙ rw (whole_is t.exposures kept, whole_is own amount, ← total) (step_capped (t.exposures +ℤ own)) in
        read_exact m i k r (stop next) next (r-is ∙ ap (placed (at_place m i k)) capped_sum)

    -- the totals with the row, unless it has a cause
    pub row_read : told (with_exposures (t.amounts +ℤ next_amount b m k i)) r ≡ unless_cause m k (row_cause b m k i) (totals_through b m k (i + 1))
    row_read =
        let more : t.amounts +ℤ next_amount b m k i ≡ next_amounts_through b m k (i + 1) = ap (λ (u : Totals). u.amounts +ℤ next_amount b m k i) t-is ∙ sym amounts_more in
        rw (exposures_read, row_is, more) (told_unless m k (amount_cause i (stop (exposures_through b m k (i + 1)))) (exposures_through b m k (i + 1)) (with_exposures (next_amounts_through b m k (i + 1))))

-- ---- bounds
amount_small : (b : Book) (c : Cell) → nat_abs ((book_of b).amount c) ≤ 1000000000
amount_small b c = go (in_sizes b.sizes c) b.amounts (place_of b.sizes c) (cases_lt (place_of b.sizes c) (length b.amounts)) b.entries
  where
    go : (t : Bool) (xs : List ℤ) (j : ℕ) → (j < length xs) ⊎ (length xs ≤ j) → All IsEntry xs → nat_abs (cond t (get_or xs j (pos 0)) (pos 0)) ≤ 1000000000
    go true xs j (inl here) all = let e = all j (pos 0) here in omega (arith, ints)
    go true xs j (inr past) all = rw get_or_past (omega arith)
    go false xs j o all = omega arith

pub amounts_small : (b : Book) (m k n : ℕ) → nat_abs (next_amounts_through (book_of b) m k n) ≤ 1000000000 * n
amounts_small b m k zero = omega arith
amounts_small b m k (suc n) = grind (arith, ints, amounts_small b m k n, amount_small b (cell_at m n (k + 1)))

-- exposures that count are above 0, so their sum is not below it
pub exposures_positive : (b : paper.Book) (m k n : ℕ) → pos 0 ≤ℤ exposures_through b m k n
exposures_positive b m k zero = omega (arith, ints)
exposures_positive b m k (suc n) = grind (arith, ints, exposures_positive b m k n)

-- what is known of the totals of n rows
pub totals_known : (b : Book) (m k n : ℕ) (t : Totals) → t ≡ totals_through (book_of b) m k n → n ≤ 16 → Amount (point t.amounts) × (pos 0 ≤ℤ t.exposures)
totals_known b m k n t t-is few =
    let small = amounts_small b m k n in
    rw t-is (record { low = omega (arith, ints); order = omega (arith, ints); high = omega (arith, ints) }, exposures_positive (book_of b) m k n)

-- ---- the rows one after the other
pub rising_more : (i n : ℕ) → i < n → rising i (n - i) ≡ i ∷ rising (i + 1) (n - (i + 1))
rising_more i n h = let e : n - i ≡ suc (n - (i + 1)) = omega arith in ap (rising i) e

pub or_cause : {V W : Type 0} (m k : ℕ) (o other : Option Cause) (f : Fault) (v : V) (w : W) → Err f ≡ unless_cause m k o v → Err f ≡ unless_cause m k (or_else o other) w
or_cause m k (Some c) other f v w e = cc
or_cause m k None other f v w e = cc
