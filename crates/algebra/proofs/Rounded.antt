-- The quotient toward zero, and the remainder that says on which side of the fraction it lies.
use Rattle.std.proofs.Common.{◌≡◌, ℕ, zero, suc, ◌+◌, ◌-◌, ◌*◌, ◌/◌, ◌%◌, ◌<◌, ◌≤◌, true, false, ℤ, pos, negsuc, ◌+ℤ◌, ◌-ℤ◌, neg_ℤ, nat_abs, ◌<ℤ◌, sym, refl, ap, ◌∙◌, true≢false, mod-lt, div-add-mod', div-le_self, arith, w64, SFits, to_z, of_z, ltb-false, ltb-true}
use native.Mathlib.Nat.{zero-div, zero-mod}
use borrow.Author.Differences.{ints}
use lib.Arith.{digits_div}
use lib.Signed.{mag, mag_rem, quot_z, rem_z, lt_z}
use Rattle.std.proofs.lemmas.Int.{to_z-of_z}
use Rattle.algebra.proofs.Division.{floor_small}
use Rattle.algebra.specs.Interval.{floor_div, ceil_div}

-- one less has the same quotient, unless m divides
next_div : (a m : ℕ) → 0 < m → 0 < suc a % m → suc a / m ≡ a / m
next_div a m some h =
    let d : suc a / m * m + suc a % m ≡ suc a = div-add-mod' (suc a) m in
    let l : suc a % m < m = mod-lt (suc a) some in
    let e : a ≡ suc a / m * m + (suc a % m - 1) = omega arith in
    sym (ap (λ (x : ℕ). x / m) e ∙ digits_div (suc a / m) (omega arith))

whole_div : (a m : ℕ) → 0 < m → suc a % m ≡ 0 → suc a / m ≡ suc (a / m)
whole_div a m some h = go (suc a / m) (div-add-mod' (suc a) m)
  where
    go : (q : ℕ) → q * m + suc a % m ≡ suc a → q ≡ suc (a / m)
    go zero e = absurd (omega arith)
    go (suc p) e =
        let f : a ≡ p * m + (m - 1) = omega arith in
        ap suc (sym (ap (λ (x : ℕ). x / m) f ∙ digits_div p (omega arith)))

below : (r : ℕ) → lt_z (neg_ℤ (pos r)) (pos 0) ≡ true → 0 < r
below zero t = absurd (true≢false (sym t))
below (suc r) t = omega arith

not_below : (r : ℕ) → lt_z (neg_ℤ (pos r)) (pos 0) ≡ false → r ≡ 0
not_below zero t = refl
not_below (suc r) t = absurd (true≢false t)

never_above : (r : ℕ) → lt_z (pos 0) (neg_ℤ (pos r)) ≡ true → ⊥
never_above zero t = true≢false (sym t)
never_above (suc r) t = true≢false (sym t)

one_less : (n : ℕ) → neg_ℤ (pos n) -ℤ pos 1 ≡ negsuc n
one_less n = omega (arith, ints)

-- rounded down: one less exactly if the remainder is below 0
pub down_less : (z d : ℤ) → pos 0 <ℤ d → lt_z (rem_z z d) (pos 0) ≡ true → quot_z z d -ℤ pos 1 ≡ floor_div z (nat_abs d)
down_less z (negsuc b) some t = absurd some.lt
down_less (pos a) (pos m) some t = absurd (omega (arith, ltb-true (a % m) 0 t))
down_less (negsuc a) (pos m) some t = one_less (suc a / m) ∙ ap negsuc (next_div a m (omega (arith, ints)) (below (suc a % m) t))

pub down_same : (z d : ℤ) → pos 0 <ℤ d → lt_z (rem_z z d) (pos 0) ≡ false → quot_z z d ≡ floor_div z (nat_abs d)
down_same z (negsuc b) some t = absurd some.lt
down_same (pos a) (pos m) some t = refl
down_same (negsuc a) (pos m) some t = ap (λ (n : ℕ). neg_ℤ (pos n)) (whole_div a m (omega (arith, ints)) (not_below (suc a % m) t))

-- rounded up: one more exactly if the remainder is above 0
pub up_more : (z d : ℤ) → pos 0 <ℤ d → lt_z (pos 0) (rem_z z d) ≡ true → quot_z z d +ℤ pos 1 ≡ ceil_div z (nat_abs d)
up_more z (negsuc b) some t = absurd some.lt
up_more (pos zero) (pos m) some t = absurd (omega (arith, ltb-true 0 (0 % m) t, zero-mod m))
up_more (pos (suc a)) (pos m) some t = let e : suc a / m ≡ a / m = next_div a m (omega (arith, ints)) (ltb-true 0 (suc a % m) t) in omega (arith, ints)
up_more (negsuc a) (pos m) some t = absurd (never_above (suc a % m) t)

pub up_same : (z d : ℤ) → pos 0 <ℤ d → lt_z (pos 0) (rem_z z d) ≡ false → quot_z z d ≡ ceil_div z (nat_abs d)
up_same z (negsuc b) some t = absurd some.lt
up_same (pos zero) (pos m) some t = let e : 0 / m ≡ 0 = zero-div m in omega (arith, ints)
up_same (pos (suc a)) (pos m) some t = ap pos (whole_div a m (omega (arith, ints)) (omega (arith, ltb-false 0 (suc a % m) t)))
up_same (negsuc a) (pos m) some t = refl

-- ---- as the code reads its numbers
negated : (n : ℕ) → mag (neg_ℤ (pos n)) ≡ n - 1
negated zero = refl
negated (suc n) = omega arith

quot_fits : (z d : ℤ) → pos 0 <ℤ d → SFits w64 z → SFits w64 (quot_z z d)
quot_fits z (negsuc b) some f = absurd some.lt
quot_fits (pos a) (pos m) some f = record { sfits = omega (arith, f.sfits, div-le_self a m) }
quot_fits (negsuc a) (pos m) some f = record { sfits = omega (arith, f.sfits, div-le_self (suc a) m, negated (suc a / m)) }

rem_fits : (z d : ℤ) → SFits w64 z → SFits w64 (rem_z z d)
rem_fits z d f = record { sfits = omega (arith, f.sfits, mag_rem z d) }

floor_fits : (z : ℤ) (m : ℕ) → SFits w64 z → SFits w64 (floor_div z m)
floor_fits (pos a) m f = record { sfits = omega (arith, f.sfits, div-le_self a m) }
floor_fits (negsuc a) m f = record { sfits = omega (arith, f.sfits, div-le_self a m) }

ceil_fits : (z : ℤ) (m : ℕ) → nat_abs z ≤ 8000000000000000000 → SFits w64 (ceil_div z m)
ceil_fits z m h = small (floor_div (neg_ℤ z) m) (omega (arith, ints, floor_small (neg_ℤ z) m))
  where
    small : (x : ℤ) → nat_abs x ≤ 8000000000000000000 → SFits w64 (neg_ℤ x)
    small x k = omega (arith, ints)

module _ (z d : ℤ) (z-fits : SFits w64 z) (d-fits : SFits w64 d) (some : pos 0 <ℤ d) where
  abbrev z-read : ℤ
  z-read = to_z w64 (of_z w64 z)

  abbrev d-read : ℤ
  d-read = to_z w64 (of_z w64 d)

  abbrev q-read : ℤ
  q-read = to_z w64 (of_z w64 (quot_z z-read d-read))

  abbrev r-read : ℤ
  r-read = to_z w64 (of_z w64 (rem_z z-read d-read))

  q_is : q-read ≡ quot_z z d
  q_is = ap (λ x. to_z w64 (of_z w64 (quot_z x d-read))) (to_z-of_z w64 z z-fits) ∙ ap (λ x. to_z w64 (of_z w64 (quot_z z x))) (to_z-of_z w64 d d-fits) ∙ to_z-of_z w64 (quot_z z d) (quot_fits z d some z-fits)

  r_is : r-read ≡ rem_z z d
  r_is = ap (λ x. to_z w64 (of_z w64 (rem_z x d-read))) (to_z-of_z w64 z z-fits) ∙ ap (λ x. to_z w64 (of_z w64 (rem_z z x))) (to_z-of_z w64 d d-fits) ∙ to_z-of_z w64 (rem_z z d) (rem_fits z d z-fits)

  pub reads_less : lt_z r-read (pos 0) ≡ true → to_z w64 (of_z w64 (q-read -ℤ pos 1)) ≡ floor_div z (nat_abs d)
  reads_less t =
      ap (λ x. to_z w64 (of_z w64 x)) (ap (λ x. x -ℤ pos 1) q_is ∙ down_less z d some (ap (λ x. lt_z x (pos 0)) (sym r_is) ∙ t))
      ∙ to_z-of_z w64 (floor_div z (nat_abs d)) (floor_fits z (nat_abs d) z-fits)

  pub reads_down : lt_z r-read (pos 0) ≡ false → q-read ≡ floor_div z (nat_abs d)
  reads_down t = q_is ∙ down_same z d some (ap (λ x. lt_z x (pos 0)) (sym r_is) ∙ t)

  pub reads_more : nat_abs z ≤ 8000000000000000000 → lt_z (pos 0) r-read ≡ true → to_z w64 (of_z w64 (q-read +ℤ pos 1)) ≡ ceil_div z (nat_abs d)
  reads_more size t =
      ap (λ x. to_z w64 (of_z w64 x)) (ap (λ x. x +ℤ pos 1) q_is ∙ up_more z d some (ap (λ x. lt_z (pos 0) x) (sym r_is) ∙ t))
      ∙ to_z-of_z w64 (ceil_div z (nat_abs d)) (ceil_fits z (nat_abs d) size)

  pub reads_up : lt_z (pos 0) r-read ≡ false → q-read ≡ ceil_div z (nat_abs d)
  reads_up t = q_is ∙ up_same z d some (ap (λ x. lt_z (pos 0) x) (sym r_is) ∙ t)
