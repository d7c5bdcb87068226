-- Division rounded down and up.
use Rattle.std.proofs.Common.{◌≡◌, ℕ, ◌+◌, ◌*◌, ◌/◌, ◌<◌, ◌≤◌, ℤ, pos, negsuc, ◌+ℤ◌, ◌*ℤ◌, neg_ℤ, nat_abs, ◌≤ℤ◌, ◌<ℤ◌, ap, ◌∙◌, subst, suc-le-suc, arith}
use native.Mathlib.Nat as N
use borrow.Author.Differences.{ints}
use Rattle.std.proofs.lemmas.Int.{by_lt_z}
use Rattle.algebra.proofs.Ints.{*ℤ-neg_ℤ, *ℤ-+ℤ, *ℤ_mono, nn}
use Rattle.algebra.specs.Interval.{floor_div, ceil_div}

pub floor_le : (z : ℤ) (m : ℕ) → 0 < m → (pos m *ℤ floor_div z m) ≤ℤ z
floor_le (pos a) m h = omega (arith, ints)
floor_le (negsuc a) m h = omega (arith, ints)

pub floor_lt : (z : ℤ) (m : ℕ) → 0 < m → z <ℤ (pos m *ℤ floor_div z m +ℤ pos m)
floor_lt (pos a) m h = omega (arith, ints)
floor_lt (negsuc a) m h = omega (arith, ints)

pub ceil_ge : (z : ℤ) (m : ℕ) → 0 < m → z ≤ℤ (pos m *ℤ ceil_div z m)
ceil_ge z m h =
    rw *ℤ-neg_ℤ (let e : (pos m *ℤ floor_div (neg_ℤ z) m) ≤ℤ neg_ℤ z = floor_le (neg_ℤ z) m h in below z (pos m *ℤ floor_div (neg_ℤ z) m) e)
  where
    below : (z t : ℤ) → t ≤ℤ neg_ℤ z → z ≤ℤ neg_ℤ t
    below z t e = omega (arith, ints)

pub ceil_lt : (z : ℤ) (m : ℕ) → 0 < m → (pos m *ℤ ceil_div z m) <ℤ (z +ℤ pos m)
ceil_lt z m h = rw *ℤ-neg_ℤ (above z (pos m *ℤ floor_div (neg_ℤ z) m) (pos m) (floor_lt (neg_ℤ z) m h))
  where
    above : (z t m : ℤ) → neg_ℤ z <ℤ (t +ℤ m) → neg_ℤ t <ℤ (z +ℤ m)
    above z t m e = omega (arith, ints)

-- a positive factor goes
pub cancel_lt : (m : ℕ) (a b : ℤ) → (pos m *ℤ a) <ℤ (pos m *ℤ b +ℤ pos m) → a ≤ℤ b
cancel_lt m a b h = by_lt_z b a (λ l. absurd (no l)) (λ e. e)
  where
    step : b <ℤ a → (b +ℤ pos 1) ≤ℤ a
    step l = omega (arith, ints)

    no : b <ℤ a → ⊥
    no l = clash (pos m *ℤ a) (pos m *ℤ b) (pos m) h (subst (λ (z : ℤ). z ≤ℤ (pos m *ℤ a)) (*ℤ-+ℤ (pos m) b (pos 1) ∙ ap (λ z. pos m *ℤ b +ℤ z) (one (pos m))) (*ℤ_mono (pos m) (nn m) (step l)))
      where
        one : (z : ℤ) → z *ℤ pos 1 ≡ z
        one z = omega (arith, ints)

        clash : (s t m : ℤ) → s <ℤ (t +ℤ m) → (t +ℤ m) ≤ℤ s → ⊥
        clash s t m h q = omega (arith, ints)

-- the quotient rounded down is the greatest below
pub floor_greatest : (z c : ℤ) (m : ℕ) → 0 < m → (pos m *ℤ c) ≤ℤ z → c ≤ℤ floor_div z m
floor_greatest z c m p h = cancel_lt m c (floor_div z m) (chain (pos m *ℤ c) z (pos m *ℤ floor_div z m) (pos m) h (floor_lt z m p))
  where
    chain : (a b c d : ℤ) → a ≤ℤ b → b <ℤ (c +ℤ d) → a <ℤ (c +ℤ d)
    chain a b c d h q = omega (arith, ints)

pub floor_mono : {a b : ℤ} (m : ℕ) → 0 < m → a ≤ℤ b → floor_div a m ≤ℤ floor_div b m
floor_mono {a} {b} m p h = floor_greatest b (floor_div a m) m p (chain (pos m *ℤ floor_div a m) a b (floor_le a m p) h)
  where
    chain : (x y z : ℤ) → x ≤ℤ y → y ≤ℤ z → x ≤ℤ z
    chain x y z h q = omega (arith, ints)

-- a quotient is no larger than what is divided
pub floor_small : (z : ℤ) (m : ℕ) → nat_abs (floor_div z m) ≤ nat_abs z
floor_small (pos a) m = N.div-le_self a m
floor_small (negsuc a) m = suc-le-suc (N.div-le_self a m)

-- a quotient by a thousand and more is small
thousandth : (a n : ℕ) → 1000 ≤ n → 1000 * (a / n) ≤ a
thousandth a n h = N.le_trans (N.mul-le-mul_right (a / n) h) (N.mul-div-le a n)

pub floor_thousandth : (z : ℤ) (n : ℕ) → 1000 ≤ n → 1000 * nat_abs (floor_div z n) ≤ nat_abs z + 1000
floor_thousandth (pos a) n h = omega (arith, thousandth a n h)
floor_thousandth (negsuc a) n h = omega (arith, thousandth a n h)

pub ceil_thousandth : (z : ℤ) (n : ℕ) → 1000 ≤ n → 1000 * nat_abs (ceil_div z n) ≤ nat_abs z + 1000
ceil_thousandth z n h = turned (floor_div (neg_ℤ z) n) (floor_thousandth (neg_ℤ z) n h)
  where
    turned : (q : ℤ) → 1000 * nat_abs q ≤ nat_abs (neg_ℤ z) + 1000 → 1000 * nat_abs (neg_ℤ q) ≤ nat_abs z + 1000
    turned q k = omega (arith, ints)

-- what is not below 0 is not rounded below it
pub ceil_some : (x : ℤ) (n : ℕ) → 0 < n → pos 0 ≤ℤ x → pos 0 ≤ℤ ceil_div x n
ceil_some x n some h = cancel_lt n (pos 0) (ceil_div x n) (below (pos n *ℤ pos 0) x (pos n *ℤ ceil_div x n) n h (ceil_ge x n some) (nought n) some)
  where
    nought : (n : ℕ) → pos n *ℤ pos 0 ≡ pos 0
    nought n = omega (arith, ints)

    below : (o x t : ℤ) (n : ℕ) → pos 0 ≤ℤ x → x ≤ℤ t → o ≡ pos 0 → 0 < n → o <ℤ (t +ℤ pos n)
    below o x t n g k e l = omega (arith, ints)
