-- Exposures of observed cells gathered in whole numbers: exactly the paper's amount, or the first step past the ceiling.
use Rattle.std.proofs.Common.{◌≡◌, ℕ, zero, suc, ◌+◌, ◌-◌, ◌<◌, ◌≤◌, true, false, cond, ltb, List, [], ◌∷◌, ◌++◌, map, length, ℤ, pos, negsuc, ◌+ℤ◌, ◌*ℤ◌, Some, None, Ok, Err, Option, Result, refl, ap, ◌∙◌, arith}
use Rattle.std.proofs.lemmas.Int.{ints}
use Rattle.std.specs.Prelude.{All}
use Rattle.std.proofs.Math.ListN.{get_or-map}
use Rattle.std.proofs.lemmas.List.Elements.{All-tail}
use Rattle.algebra.specs.Interval.{Ends}
use Rattle.paper.specs.Numbers.{point, inside}
use Rattle.paper.specs.Sums.{Sum, nothing, read, join, multiple, sum_of_ends, multiple_of_ends, exact_of, steps_of, AllRead}
use Rattle.paper.specs.Books as paper
use Rattle.paper.specs.Books.{Cell, Reach, cumulative, first, latest, cell_at, total_of, reading, with_term, with_terms}
use Rattle.paper.specs.Sources.{first_of, or_else, past, step_past}
use Rattle.forms.specs.declared.FormFault.{FormFault}
use Rattle.forms.specs.declared.FormFault.TheVariants.{AmountCeiling}
use Rattle.forms.specs.Told.{next, ceiled, evaluated}
use Rattle.forms.specs.Held.{whole_ends}
use Rattle.book.specs.declared.kinds.Sizes.{Sizes}
use Rattle.book.specs.declared.rules.Term.{Term}
use Rattle.book.specs.declared.rules.Rule.{Rule}
use Rattle.book.specs.Limits.{ReadsWithin}
use Rattle.book.specs.Stored.{place_of, cells, term_of, terms_of, amounts_of}
use Rattle.book.proofs.Keyed.{Within, within_true}
use Rattle.book.proofs.Places.{place_in}
use Rattle.gathering.specs.Sheet.{on_sheet}

-- ---- a calculation over exact amounts
-- the amount, if it passes the ceiling
abbrev pub stop : ℤ → Option ℤ
stop v = cond (past v) (Some v) None

abbrev pub capped : Option ℤ → ℤ → Result Ends FormFault
capped (Some a) v = Err AmountCeiling
capped None v = Ok (point v)

-- one step more
pub step_capped : (v : ℤ) → ceiled (point v) ≡ capped (stop v) v
step_capped v = grind (arith, ints)

or_none : {E : Type 0} (o : Option E) → or_else o None ≡ o
or_none (Some e) = refl
or_none None = refl

or_assoc : {E : Type 0} (a b c : Option E) → or_else (or_else a b) c ≡ or_else a (or_else b c)
or_assoc (Some e) b c = refl
or_assoc None b c = refl

first_append : {A E : Type 0} (f : A → Option E) (xs ys : List A) → first_of f (xs ++ ys) ≡ or_else (first_of f xs) (first_of f ys)
first_append f [] ys = refl
first_append f (x ∷ xs) ys = rw (first_append f xs ys, or_assoc) refl

multiple_capped : (c : ℤ) (o : Option ℤ) (v : ℤ) → next (capped o v) (λ a. ceiled (multiple_of_ends c a)) ≡ capped (or_else o (stop (c *ℤ v))) (c *ℤ v)
multiple_capped c (Some a) v = refl
multiple_capped (pos n) None v = step_capped (pos n *ℤ v)
multiple_capped (negsuc n) None v = step_capped (negsuc n *ℤ v)

join_capped : (o p : Option ℤ) (v w : ℤ) →
    next (capped o v) (λ a. next (capped p w) (λ b. ceiled (sum_of_ends a b))) ≡ capped (or_else o (or_else p (stop (v +ℤ w)))) (v +ℤ w)
join_capped (Some a) p v w = refl
join_capped None (Some a) v w = refl
join_capped None None v w = step_capped (v +ℤ w)

module _ (P : Cell → Type 0) (cell : Cell → Ends) (amount : Cell → ℤ) (exact : (c : Cell) → P c → cell c ≡ point (amount c)) where
  abbrev stopped : Sum Cell → Option ℤ
  stopped s = first_of (step_past amount) (steps_of s)

  pub evaluated_exact : (s : Sum Cell) → AllRead P s → evaluated cell s ≡ capped (stopped s) (exact_of amount s)
  evaluated_exact nothing r = refl
  evaluated_exact (read c) r = ap Ok (exact c r)
  evaluated_exact (join x y) r =
      rw (evaluated_exact x r.0, evaluated_exact y r.1, first_append, first_append, or_none) (join_capped (stopped x) (stopped y) (exact_of amount x) (exact_of amount y))
  evaluated_exact (multiple c x) r = rw (evaluated_exact x r, first_append, or_none) (multiple_capped c (stopped x) (exact_of amount x))

-- ---- what an exposure reads
module _ (s : Sizes) (i k : ℕ) (row : i < s.rows) (column : k < s.columns) where
  reads_total : (m h n : ℕ) → m < s.properties → h < s.rows → n ≤ s.columns → AllRead (Within s) (total_of m h 0 n)
  reads_total m h zero p q l = tt
  reads_total m h (suc n) p q l = (reads_total m h n p q (omega arith), record { property = p; row = q; column = omega arith })

  reads_reading : (r : Reach) (m h : ℕ) → m < s.properties → h < s.rows → AllRead (Within s) (reading r m h k)
  reads_reading cumulative m h p q = reads_total m h (k + 1) p q (omega arith)
  reads_reading first m h p q = record { property = p; row = q; column = omega arith }
  reads_reading latest m h p q = record { property = p; row = q; column = column }

  reads_term : (so_far : Sum Cell) (t : paper.Term) → AllRead (Within s) so_far → t.property < s.properties → AllRead (Within s) (with_term i k so_far t)
  reads_term so_far t r p =
      elim (ltb i t.shift) as (λ b. AllRead (Within s) (cond b so_far (join so_far (multiple t.coefficient (reading t.reach t.property (i - t.shift) k))))) [
        | true ↦ r
        | false ↦ (r, reads_reading t.reach t.property (i - t.shift) p (omega arith))
      ]

  pub reads_terms : (so_far : Sum Cell) (ts : List Term) → AllRead (Within s) so_far → ReadsWithin s.properties ts → AllRead (Within s) (with_terms i k so_far (map term_of ts))
  reads_terms so_far [] r own = r
  reads_terms so_far (t ∷ ts) r own =
      reads_terms (with_term i k so_far (term_of t)) ts (reads_term so_far (term_of t) r (own 0 t (omega arith))) (All-tail (λ u. u.property < s.properties) t ts own)

  module _ (amounts : List ℤ) (room : cells s ≤ length amounts) (small : All (λ a. inside (point a) ≡ true) amounts) where
    amount_exact : (c : Cell) → Within s c → on_sheet s (map whole_ends amounts) c ≡ point (amounts_of s amounts c)
    amount_exact c w =
        let here : place_of s c < length amounts = omega (arith, place_in s.properties s.rows s.columns c.property c.row c.column w.property w.row w.column) in
        get_or-map whole_ends amounts _ (pos 0) ∙ rw (small (place_of s c) (pos 0) here, within_true s c w) refl

    -- an exposure gathered from a book's own amounts
    pub gathered_exact : (rule : Rule) → ReadsWithin s.properties rule →
        evaluated (on_sheet s (map whole_ends amounts)) (with_terms i k nothing (terms_of rule))
        ≡ capped (first_of (step_past (amounts_of s amounts)) (steps_of (with_terms i k nothing (terms_of rule)))) (exact_of (amounts_of s amounts) (with_terms i k nothing (terms_of rule)))
    gathered_exact rule own =
        evaluated_exact (Within s) (on_sheet s (map whole_ends amounts)) (amounts_of s amounts) amount_exact (with_terms i k nothing (terms_of rule)) (reads_terms nothing rule tt own)
