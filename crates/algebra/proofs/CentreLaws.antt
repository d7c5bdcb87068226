-- The centre form's application encloses, and is narrow.
use Rattle.std.proofs.Common.{◌≡◌, ℕ, ◌*◌, ◌<◌, max, Bool, true, false, cond, [], ◌∷◌, ℤ, pos, ◌+ℤ◌, ◌-ℤ◌, ◌*ℤ◌, neg_ℤ, nat_abs, ◌≤ℤ◌, ◌<ℤ◌, refl, subst, arith, lit<}
use borrow.Author.Differences.{ints}
use lib.Signed.{≤ℤ_refl, le_z}
use Rattle.algebra.proofs.Ints.{nn, 0≤*, ≤abs, -abs≤, ≤ℤ_trans}
use Rattle.algebra.proofs.Cert.{within}
use Rattle.algebra.proofs.Quote.{quotes, q*, cert, 0≤gap, 0≤+}
use Rattle.algebra.proofs.Division.{floor_le, floor_lt, ceil_ge, ceil_lt, floor_greatest}
use Rattle.algebra.specs.Interval.{floor_div, ceil_div, scale, size, width}
use Rattle.algebra.specs.Centre.{Centre, ends_of_centre, exact_radius, rest, apply_c, EnclosesC, NarrowC}

weak : {a b : ℤ} → a <ℤ b → a ≤ℤ b
weak {a} {b} h = omega (arith, ints)

-- ---- rounding
pub rest_ok : (z : ℤ) (s : ℕ) → 0 < s → z ≤ℤ (pos s *ℤ (floor_div z s +ℤ rest z s))
rest_ok z s h = go (le_z z (pos s *ℤ floor_div z s)) refl
  where
    go : (t : Bool) → le_z z (pos s *ℤ floor_div z s) ≡ t → z ≤ℤ (pos s *ℤ (floor_div z s +ℤ cond t (pos 0) (pos 1)))
    go true e =
        let h₀ : z ≤ℤ (pos s *ℤ floor_div z s) = omega (arith, ints) in
        cert (z ∷ pos s ∷ floor_div z s ∷ []) (0≤gap h₀) (search quotes depth 20) (search quotes depth 20) (search quotes depth 20) tt
    go false e =
        cert (z ∷ pos s ∷ floor_div z s ∷ []) (0≤gap (weak (floor_lt z s h))) (search quotes depth 20) (search quotes depth 20) (search quotes depth 20) tt

pub rest_0 : (z : ℤ) (s : ℕ) → pos 0 ≤ℤ rest z s
rest_0 z s = go (le_z z (pos s *ℤ floor_div z s))
  where
    go : (t : Bool) → pos 0 ≤ℤ cond t (pos 0) (pos 1)
    go true = nn 0
    go false = nn 1

pub rest_1 : (z : ℤ) (s : ℕ) → rest z s ≤ℤ pos 1
rest_1 z s = go (le_z z (pos s *ℤ floor_div z s))
  where
    go : (t : Bool) → cond t (pos 0) (pos 1) ≤ℤ pos 1
    go true = nn 1
    go false = ≤ℤ_refl (pos 1)

-- ---- the exact product
module _ (n d c r : ℤ) (d≥ : pos 0 ≤ℤ d) (f₁ : (d *ℤ (c -ℤ r)) ≤ℤ n) (f₂ : n ≤ℤ (d *ℤ (c +ℤ r)))
    (n' d' c' r' : ℤ) (d'≥ : pos 0 ≤ℤ d') (a₁ : (d' *ℤ (c' -ℤ r')) ≤ℤ n') (a₂ : n' ≤ℤ (d' *ℤ (c' +ℤ r'))) where
  abbrev C : ℤ
  C = pos (nat_abs c)

  abbrev C' : ℤ
  C' = pos (nat_abs c')

  u_up : (n -ℤ d *ℤ c) ≤ℤ (d *ℤ r)
  u_up = cert (n ∷ d ∷ c ∷ r ∷ []) (0≤gap f₂) (search quotes depth 20) (search quotes depth 20) (search quotes depth 20) tt

  u_down : neg_ℤ (d *ℤ r) ≤ℤ (n -ℤ d *ℤ c)
  u_down = cert (n ∷ d ∷ c ∷ r ∷ []) (0≤gap f₁) (search quotes depth 20) (search quotes depth 20) (search quotes depth 20) tt

  w_up : (n' -ℤ d' *ℤ c') ≤ℤ (d' *ℤ r')
  w_up = cert (n' ∷ d' ∷ c' ∷ r' ∷ []) (0≤gap a₂) (search quotes depth 20) (search quotes depth 20) (search quotes depth 20) tt

  w_down : neg_ℤ (d' *ℤ r') ≤ℤ (n' -ℤ d' *ℤ c')
  w_down = cert (n' ∷ d' ∷ c' ∷ r' ∷ []) (0≤gap a₁) (search quotes depth 20) (search quotes depth 20) (search quotes depth 20) tt

flip : (a b : ℤ) → neg_ℤ a ≤ℤ b → neg_ℤ b ≤ℤ a
flip a b h = omega (arith, ints)

-- |z y| ≤ f w, from below
within_neg : (z y f w : ℤ) → z ≤ℤ f → neg_ℤ f ≤ℤ z → y ≤ℤ w → neg_ℤ w ≤ℤ y → neg_ℤ (f *ℤ w) ≤ℤ (z *ℤ y)
within_neg z y f w h₁ h₂ h₃ h₄ =
    cert (z ∷ y ∷ f ∷ w ∷ []) (0≤gap (within (neg_ℤ z) y f w (flip f z h₂) (neg_le z f h₁) h₃ h₄))
    (search quotes depth 20) (search quotes depth 20) (search quotes depth 20) tt
  where
    neg_le : (z f : ℤ) → z ≤ℤ f → neg_ℤ f ≤ℤ neg_ℤ z
    neg_le z f h = omega (arith, ints)

module _ (n d c r : ℤ) (d≥ : pos 0 ≤ℤ d) (f₁ : (d *ℤ (c -ℤ r)) ≤ℤ n) (f₂ : n ≤ℤ (d *ℤ (c +ℤ r)))
    (n' d' c' r' : ℤ) (d'≥ : pos 0 ≤ℤ d') (a₁ : (d' *ℤ (c' -ℤ r')) ≤ℤ n') (a₂ : n' ≤ℤ (d' *ℤ (c' +ℤ r')))
    (C C' : ℤ) (C₁ : c ≤ℤ C) (C₂ : neg_ℤ C ≤ℤ c) (C₃ : c' ≤ℤ C') (C₄ : neg_ℤ C' ≤ℤ c') where
  abbrev ρ : ℤ
  ρ = C *ℤ r' +ℤ C' *ℤ r +ℤ r *ℤ r'

  exact_up : (n *ℤ n') ≤ℤ (d *ℤ d' *ℤ (c *ℤ c' +ℤ ρ))
  exact_up =
      let u₁ = u_up n d c r d≥ f₁ f₂ n' d' c' r' d'≥ a₁ a₂ in
      let u₂ = u_down n d c r d≥ f₁ f₂ n' d' c' r' d'≥ a₁ a₂ in
      let w₁ = w_up n d c r d≥ f₁ f₂ n' d' c' r' d'≥ a₁ a₂ in
      let w₂ = w_down n d c r d≥ f₁ f₂ n' d' c' r' d'≥ a₁ a₂ in
      cert (n ∷ d ∷ c ∷ r ∷ n' ∷ d' ∷ c' ∷ r' ∷ C ∷ C' ∷ [])
      (0≤+ (0≤+ (0≤* d≥ (0≤gap (within c (n' -ℤ d' *ℤ c') C (d' *ℤ r') C₁ C₂ w₁ w₂)))
      (0≤* d'≥ (0≤gap (within c' (n -ℤ d *ℤ c) C' (d *ℤ r) C₃ C₄ u₁ u₂))))
      (0≤gap (within (n -ℤ d *ℤ c) (n' -ℤ d' *ℤ c') (d *ℤ r) (d' *ℤ r') u₁ u₂ w₁ w₂)))
      (search quotes depth 20) (search quotes depth 20) (search quotes depth 20) tt

  exact_down : (d *ℤ d' *ℤ (c *ℤ c' -ℤ ρ)) ≤ℤ (n *ℤ n')
  exact_down =
      let u₁ = u_up n d c r d≥ f₁ f₂ n' d' c' r' d'≥ a₁ a₂ in
      let u₂ = u_down n d c r d≥ f₁ f₂ n' d' c' r' d'≥ a₁ a₂ in
      let w₁ = w_up n d c r d≥ f₁ f₂ n' d' c' r' d'≥ a₁ a₂ in
      let w₂ = w_down n d c r d≥ f₁ f₂ n' d' c' r' d'≥ a₁ a₂ in
      cert (n ∷ d ∷ c ∷ r ∷ n' ∷ d' ∷ c' ∷ r' ∷ C ∷ C' ∷ [])
      (0≤+ (0≤+ (0≤* d≥ (0≤gap (within_neg c (n' -ℤ d' *ℤ c') C (d' *ℤ r') C₁ C₂ w₁ w₂)))
      (0≤* d'≥ (0≤gap (within_neg c' (n -ℤ d *ℤ c) C' (d *ℤ r) C₃ C₄ u₁ u₂))))
      (0≤gap (within_neg (n -ℤ d *ℤ c) (n' -ℤ d' *ℤ c') (d *ℤ r) (d' *ℤ r') u₁ u₂ w₁ w₂)))
      (search quotes depth 20) (search quotes depth 20) (search quotes depth 20) tt

-- ---- rounded, under the denominators
module _ (d d' s : ℕ) (h : 0 < s) (z ρ : ℤ) where
  pub round_up : (pos (d * d') *ℤ (z +ℤ ρ)) ≤ℤ (pos (d * d' * s) *ℤ (floor_div z s +ℤ (ceil_div ρ s +ℤ rest z s)))
  round_up =
      cert (pos (d * d') ∷ pos s ∷ floor_div z s ∷ ceil_div ρ s ∷ rest z s ∷ z ∷ ρ ∷ [])
      (0≤* (nn (d * d')) (0≤+ (0≤gap (rest_ok z s h)) (0≤gap (ceil_ge ρ s h))))
      (search quotes depth 20)
      (q* (pos (d * d' * s)) (floor_div z s +ℤ (ceil_div ρ s +ℤ rest z s)) (q* (pos (d * d')) (pos s) (search quotes) (search quotes)) (search quotes depth 20))
      (search quotes depth 20)
      tt

  pub round_down : (pos (d * d' * s) *ℤ (floor_div z s -ℤ (ceil_div ρ s +ℤ rest z s))) ≤ℤ (pos (d * d') *ℤ (z -ℤ ρ))
  round_down =
      cert (pos (d * d') ∷ pos s ∷ floor_div z s ∷ ceil_div ρ s ∷ rest z s ∷ z ∷ ρ ∷ [])
      (0≤* (nn (d * d')) (0≤+ (0≤+ (0≤gap (floor_le z s h)) (0≤gap (ceil_ge ρ s h))) (0≤* (nn s) (rest_0 z s))))
      (q* (pos (d * d' * s)) (floor_div z s -ℤ (ceil_div ρ s +ℤ rest z s)) (q* (pos (d * d')) (pos s) (search quotes) (search quotes)) (search quotes depth 20))
      (search quotes depth 20)
      (search quotes depth 20)
      tt

pub encloses_c : EnclosesC
unfolding apply_c
encloses_c f a p q hf ha b c r e₁ e₂ =
    record {
      above = rw (e₁, e₂) (≤ℤ_trans (round_down p.den q.den scale (lit< tt) (f.mid *ℤ a.mid) (exact_radius f a))
          (exact_down p.num (pos p.den) f.mid f.rad (nn p.den) b.above b.below
          q.num (pos q.den) a.mid a.rad (nn q.den) c.above c.below
          (pos (nat_abs f.mid)) (pos (nat_abs a.mid)) (≤abs f.mid) (-abs≤ f.mid) (≤abs a.mid) (-abs≤ a.mid)));
      below = rw (e₁, e₂) (≤ℤ_trans
          (exact_up p.num (pos p.den) f.mid f.rad (nn p.den) b.above b.below
          q.num (pos q.den) a.mid a.rad (nn q.den) c.above c.below
          (pos (nat_abs f.mid)) (pos (nat_abs a.mid)) (≤abs f.mid) (-abs≤ f.mid) (≤abs a.mid) (-abs≤ a.mid))
          (round_up p.den q.den scale (lit< tt) (f.mid *ℤ a.mid) (exact_radius f a)));
    }

-- ---- the width
size_ge : (c r : ℤ) → pos 0 ≤ℤ r → (pos (nat_abs c) +ℤ r) ≤ℤ pos (max (nat_abs (c -ℤ r)) (nat_abs (c +ℤ r)))
size_ge c r h = omega (arith, ints)

module _ (s : ℕ) (h : 0 < s) (C r C' r' F A z : ℤ) (r≥ : pos 0 ≤ℤ r) (r'≥ : pos 0 ≤ℤ r') (F≥ : (C +ℤ r) ≤ℤ F) (A≥ : (C' +ℤ r') ≤ℤ A) where
  radius : (ρ : ℤ) → ρ ≡ C *ℤ r' +ℤ C' *ℤ r +ℤ r *ℤ r' → (g t m : ℤ) → t ≤ℤ pos 1 → (pos s *ℤ g) <ℤ (ρ +ℤ pos s) →
      (pos s *ℤ ((m +ℤ (g +ℤ t)) -ℤ (m -ℤ (g +ℤ t)) -ℤ pos 4)) ≤ℤ (F *ℤ (r' +ℤ r') +ℤ A *ℤ (r +ℤ r))
  radius ρ e g t m t≤ lt =
      let lt' : (pos s *ℤ g) ≤ℤ (C *ℤ r' +ℤ C' *ℤ r +ℤ r *ℤ r' +ℤ pos s) = subst (λ (z : ℤ). (pos s *ℤ g) ≤ℤ (z +ℤ pos s)) e (weak lt) in
      cert (pos s ∷ g ∷ t ∷ m ∷ C ∷ r ∷ C' ∷ r' ∷ F ∷ A ∷ [])
      (0≤* (nn 2) (0≤+ (0≤+ (0≤+ (0≤gap lt') (0≤* (nn s) (0≤gap t≤))) (0≤+ (0≤* r'≥ (0≤gap F≥)) (0≤* r≥ (0≤gap A≥)))) (0≤* r≥ r'≥)))
      (search quotes depth 20 fits 4000) (search quotes depth 20) (search quotes depth 20 fits 4000) tt

twice : (c r : ℤ) → (c +ℤ r) -ℤ (c -ℤ r) ≡ r +ℤ r
twice c r = omega (arith, ints)

less_four : (a b : ℤ) → (a -ℤ pos 4) ≤ℤ b → a ≤ℤ (b +ℤ pos 4)
less_four a b h = omega (arith, ints)

-- the law with the widths written as twice the radii
narrow_twice : (f a : Centre) → pos 0 ≤ℤ f.rad → pos 0 ≤ℤ a.rad →
    width (ends_of_centre (apply_c f a)) ≤ℤ (floor_div (pos (size (ends_of_centre f)) *ℤ (a.rad +ℤ a.rad) +ℤ pos (size (ends_of_centre a)) *ℤ (f.rad +ℤ f.rad)) scale +ℤ pos 4)
unfolding apply_c
narrow_twice f a hf ha =
    less_four _ _ (floor_greatest _ _ scale (lit< tt)
    (radius scale (lit< tt) (pos (nat_abs f.mid)) f.rad (pos (nat_abs a.mid)) a.rad (pos (size (ends_of_centre f))) (pos (size (ends_of_centre a))) (pos 0)
    hf ha (size_ge f.mid f.rad hf) (size_ge a.mid a.rad ha)
    (exact_radius f a) refl (ceil_div (exact_radius f a) scale) (rest (f.mid *ℤ a.mid) scale) (floor_div (f.mid *ℤ a.mid) scale)
    (rest_1 (f.mid *ℤ a.mid) scale) (ceil_lt (exact_radius f a) scale (lit< tt))))

pub narrow_c : NarrowC
narrow_c f a hf ha = rw (twice a.mid a.rad, twice f.mid f.rad) (narrow_twice f a hf ha)
