-- What it says of ends that they cover a fraction: their order, their size, and where they pass a ceiling.
use Rattle.std.proofs.Common.{◌≡◌, ℕ, zero, suc, ◌+◌, ◌*◌, ◌<◌, ◌≤◌, max, false, ◌⊎◌, [], ◌∷◌, ℤ, pos, ◌+ℤ◌, ◌-ℤ◌, ◌*ℤ◌, neg_ℤ, nat_abs, ◌≤ℤ◌, inl, inr, arith}
use native.Mathlib.Nat as N
use borrow.Author.Differences.{ints}
use Rattle.std.proofs.lemmas.Int.{by_lt_z}
use Rattle.algebra.proofs.Ints.{nn, 0≤*, ≤abs, -abs≤, ≤ℤ_trans}
use Rattle.algebra.proofs.Cert.{cancel}
use Rattle.algebra.proofs.Quote.{quotes, cert, 0≤gap, 0≤+}
use Rattle.algebra.specs.Interval.{Ends, Frac, Between, size}
use Rattle.paper.specs.Numbers.{Covers, Passes, factor_inside, factor_ceiling}

pub shorter : (d : ℕ) → 0 < d → {a b : ℤ} → (pos d *ℤ a) ≤ℤ (pos d *ℤ b) → a ≤ℤ b
shorter zero h k = absurd (N.lt_irrefl 0 h)
shorter (suc d) h {a} {b} k = cancel d a b k

-- ---- ends, from the value, its allowance and a bound on both
module _ (n d l h a C c : ℤ) (d≥ : pos 0 ≤ℤ d) (b₁ : (d *ℤ l) ≤ℤ n) (b₂ : n ≤ℤ (d *ℤ h)) (w : (h -ℤ l) ≤ℤ a) (a≥ : pos 0 ≤ℤ a)
    (C₁ : n ≤ℤ C) (C₂ : neg_ℤ C ≤ℤ n) (k : (C +ℤ a *ℤ d) ≤ℤ (c *ℤ d)) where
  within_up : (d *ℤ h) ≤ℤ (d *ℤ c)
  within_up =
      cert (n ∷ d ∷ l ∷ h ∷ a ∷ C ∷ c ∷ []) (0≤+ (0≤+ (0≤gap b₁) (0≤* d≥ (0≤gap w))) (0≤+ (0≤gap C₁) (0≤gap k)))
      (search quotes depth 20) (search quotes depth 20) (search quotes depth 20) tt

  within_down : (d *ℤ neg_ℤ c) ≤ℤ (d *ℤ l)
  within_down =
      cert (n ∷ d ∷ l ∷ h ∷ a ∷ C ∷ c ∷ []) (0≤+ (0≤+ (0≤gap b₂) (0≤* d≥ (0≤gap w))) (0≤+ (0≤gap C₂) (0≤gap k)))
      (search quotes depth 20) (search quotes depth 20) (search quotes depth 20) tt

pub ordered : {x : Frac} {e : Ends} → Between e x → e.lo ≤ℤ e.hi
ordered {x} b = shorter x.den x.some (≤ℤ_trans b.above b.below)

sized : (l h : ℤ) (c : ℕ) → l ≤ℤ h → h ≤ℤ pos c → neg_ℤ (pos c) ≤ℤ l → max (nat_abs l) (nat_abs h) ≤ c
sized l h c o p q = omega (arith, ints)

pub size_within : {x : Frac} {a : ℕ} {e : Ends} (c : ℕ) → Covers x a e → nat_abs x.num + a * x.den ≤ c * x.den → size e ≤ c
size_within {x} {a} {e} c o k =
    sized e.lo e.hi c (ordered o.encloses)
    (shorter x.den x.some (within_up x.num (pos x.den) e.lo e.hi (pos a) (pos (nat_abs x.num)) (pos c) (nn x.den) o.encloses.above o.encloses.below o.narrow (nn a) (≤abs x.num) (-abs≤ x.num) bound))
    (shorter x.den x.some (within_down x.num (pos x.den) e.lo e.hi (pos a) (pos (nat_abs x.num)) (pos c) (nn x.den) o.encloses.above o.encloses.below o.narrow (nn a) (≤abs x.num) (-abs≤ x.num) bound))
  where
    bound : (pos (nat_abs x.num) +ℤ pos a *ℤ pos x.den) ≤ℤ (pos c *ℤ pos x.den)
    bound = omega (arith, ints)

either : (m n : ℕ) → (m < n) ⊎ (n ≤ m)
either m n = by_lt_z (pos m) (pos n) (λ h. inl (omega (arith, ints))) (λ h. inr (omega (arith, ints)))

pub passing : (x : Frac) (a c : ℕ) (e : Ends) → Covers x a e → c < size e → Passes x a c
passing x a c e o k =
    elim (either (c * x.den) (nat_abs x.num + a * x.den)) [ inl h ↦ h | inr h ↦ absurd (N.lt_irrefl c (N.lt_of_lt_of_le k (size_within c o h))) ]

-- the ends of a factor that are not inside pass the ceiling
pub factor_past : (e : Ends) → factor_inside e ≡ false → factor_ceiling < size e
factor_past e h = grind (arith, ints)
