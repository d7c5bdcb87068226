-- A stored book that is opened, entered into or given a term stands for the paper's book so changed.
use Rattle.std.proofs.Common.{◌≡◌, ℕ, zero, suc, ◌<◌, true, false, cond, eqb, List, [], ◌∷◌, ◌++◌, length, get_or, set, replicate, ℤ, pos, refl, ap, arith}
use mathlib.Core.Path.{fun_ext}
use Rattle.std.proofs.lemmas.List.{map-append}
use Rattle.std.proofs.lemmas.Nat.{same_from_place}
use Rattle.std.proofs.lemmas.Bool.Decides.{nat_tests}
use Rattle.std.proofs.lemmas.Grind.{common_steps}
use Rattle.paper.specs.Books as paper
use Rattle.paper.specs.Books.{Cell, same_cell, opened, with_entry, with_last_term}
use Rattle.book.specs.declared.rules.Rule.{Rule}
use Rattle.book.specs.declared.rules.Term.{Term}
use Rattle.book.specs.declared.kinds.Sizes.{Sizes}
use Rattle.book.specs.Limits.{rule_at}
use Rattle.book.specs.Stored.{place_of, in_sizes, term_of, terms_of, amounts_of, book_from}

-- a cell within the sizes
pub record Within (s : Sizes) (c : Cell) : Type 0 where
  pub property : c.property < s.properties
  pub row : c.row < s.rows
  pub column : c.column < s.columns

pub within_true : (s : Sizes) (c : Cell) → Within s c → in_sizes s c ≡ true
within_true s c w = grind (arith, nat_tests)

true_within : (s : Sizes) (c : Cell) → in_sizes s c ≡ true → Within s c
true_within s c t = record { property = grind (arith, nat_tests); row = grind (arith, nat_tests); column = grind (arith, nat_tests) }

-- one place for one cell
place_same : (s : Sizes) (c d : Cell) → Within s c → Within s d → place_of s c ≡ place_of s d → same_cell c d ≡ true
place_same s c d v w e =
    let outer = same_from_place _ _ _ _ s.columns v.column w.column e in
    let inner = same_from_place _ _ _ _ s.rows v.row w.row outer.0 in
    grind (arith, nat_tests)

same_place : (s : Sizes) (c d : Cell) → same_cell c d ≡ true → (in_sizes s d ≡ in_sizes s c) × (place_of s d ≡ place_of s c)
same_place s c d t = grind (arith, nat_tests)

-- books of the same amounts and rules
same_book : (s : Sizes) (a b : Cell → ℤ) (q r : ℕ → List paper.Term) → ((c : Cell) → a c ≡ b c) → ((m : ℕ) → q m ≡ r m) →
    ◌≡◌ {A = paper.Book} (record { properties = s.properties; rows = s.rows; columns = s.columns; amount = a; rule = q })
    (record { properties = s.properties; rows = s.rows; columns = s.columns; amount = b; rule = r })
same_book s a b q r amounts rules =
    let f = fun_ext amounts in
    let g = fun_ext rules in
    cc

module _ (s : Sizes) (amounts : List ℤ) (c : Cell) (a : ℤ) (w : Within s c) (room : place_of s c < length amounts) where
  entered_at : (d : Cell) → amounts_of s (set amounts (place_of s c) a) d ≡ cond (same_cell c d) a (amounts_of s amounts d)
  entered_at d = grind (arith, common_steps, within_true s c w, true_within s d, place_same s c d w, same_place s c d)

  pub entered_is : (rules : List Rule) → book_from s (set amounts (place_of s c) a) rules ≡ with_entry (book_from s amounts rules) c a
  entered_is rules = same_book s _ _ _ _ entered_at (λ m. refl)

module _ (s : Sizes) (amounts : List ℤ) (rules : List Rule) (m : ℕ) (t : Term) (here : m < length rules) where
  added_at : (l : ℕ) → terms_of (rule_at (set rules m (rule_at rules m ++ t ∷ [])) l) ≡ cond (eqb m l) (terms_of (rule_at rules l) ++ (term_of t ∷ [])) (terms_of (rule_at rules l))
  added_at l = grind (arith, common_steps, map-append)

  pub added_is : book_from s amounts (set rules m (rule_at rules m ++ t ∷ [])) ≡ with_last_term (book_from s amounts rules) m (term_of t)
  added_is = same_book s _ _ _ _ (λ c. refl) added_at

same_replicated : {X : Type 0} (n i : ℕ) (x : X) → get_or (replicate n x) i x ≡ x
same_replicated zero i x = refl
same_replicated (suc n) zero x = refl
same_replicated (suc n) (suc i) x = same_replicated n i x

pub opened_is : (s : Sizes) → book_from s (replicate 768 (pos 0)) (replicate 4 []) ≡ opened s.properties s.rows s.columns
opened_is s = same_book s _ _ _ _ none (λ m. ap terms_of (same_replicated 4 m []))
  where
    none : (c : Cell) → amounts_of s (replicate 768 (pos 0)) c ≡ pos 0
    none c = rw same_replicated (elim (in_sizes s c) as (λ b. cond b (pos 0) (pos 0) ≡ pos 0) [ true ↦ refl | false ↦ refl ])
