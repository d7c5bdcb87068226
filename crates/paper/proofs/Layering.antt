-- Selected factors and credibility layers: their steps are answered in every form, and their causes are right.
use Rattle.std.proofs.Common.{◌≡◌, ℕ, ◌+◌, ◌-◌, ◌*◌, ◌≤◌, Bool, true, false, cond, List, [], ◌∷◌, ◌++◌, map, ℤ, pos, ◌+ℤ◌, ◌-ℤ◌, ◌*ℤ◌, ◌≤ℤ◌, Some, None, Option, sym, ap, subst, arith, ltb, lit<}
use borrow.Author.Differences.{ints}
use lib.Signed.{≤ℤ_refl, lt_z}
use Rattle.algebra.proofs.Ints.{nn, 0≤*}
use Rattle.algebra.proofs.Quote.{quotes, ring!, cert, 0≤gap, 0≤+}
use Rattle.algebra.specs.Interval.{Ends, Frac, Between, width}
use Rattle.paper.specs.Numbers.{over, mixed, point, factor_scale, in_ten_millionths}
use Rattle.paper.specs.Forms.{Form, Lawful}
use Rattle.paper.specs.Books.{Book}
use Rattle.paper.specs.Sources.{Cause, no_property, no_column, negative_exposure, amount_past, Step, Meaning, factor, cause, amount_cause, gathering_past, exact_exposure, next_amount, seen}
use Rattle.paper.specs.Layers.{selected, under, passed_up, own_cause, own_step, mixed_step, unless_own, weighed, weighed_with, layer_on, layered}
use Rattle.paper.specs.Laws.{Answered, Each, RightCause, Sound}
use Rattle.paper.proofs.Covering.{shorter}
use Rattle.paper.proofs.Estimating.{loosen, quotient_answered, Holds, or_holds, if_holds, gathering_caused, within_sound}

-- ---- selected factors
pub selected_answered : (F : Form) → Lawful F → (n : ℤ) → Answered F 1 (over n factor_scale (lit< tt)) (point n)
selected_answered F lawful n =
    record {
      can = lawful.can_point n;
      covers = record {
        encloses = record { above = ≤ℤ_refl (pos factor_scale *ℤ n); below = ≤ℤ_refl (pos factor_scale *ℤ n) };
        narrow = none n (1 * F.slack);
      };
    }
  where
    none : (n : ℤ) (a : ℕ) → (n -ℤ n) ≤ℤ pos a
    none n a = omega (arith, ints)

pub selected_sound : (chosen : ℕ → ℕ → ℤ) (b : Book) (m k : ℕ) → Sound 1 b m k (selected chosen b m k)
selected_sound chosen b m k =
    within_sound 1 b m k _ (λ asked. record { grounds = asked; steps = λ F lawful. (selected_answered F lawful (chosen m k), tt) })

-- ---- the mix
-- ten-millionths may be counted before or after the mix
counted : (s v w n d n' d' : ℤ) → v *ℤ (s *ℤ n) *ℤ d' +ℤ w *ℤ (s *ℤ n') *ℤ d ≡ s *ℤ (v *ℤ n *ℤ d' +ℤ w *ℤ n' *ℤ d)
counted s v w n d n' d' = ring! (s ∷ v ∷ w ∷ n ∷ d ∷ n' ∷ d' ∷ []) (search quotes depth 20) (search quotes depth 20) tt

-- the width of the mix, of widths W within D slacks and V within one: v + w is the whole weight, and D at least 1
module _ (v w D L W V m : ℤ) (v≥ : pos 0 ≤ℤ v) (w≥ : pos 0 ≤ℤ w) (L≥ : pos 0 ≤ℤ L) (D≥ : pos 1 ≤ℤ D)
    (W≤ : W ≤ℤ (D *ℤ L)) (V≤ : V ≤ℤ L) (h : ((v +ℤ w) *ℤ m) ≤ℤ (v *ℤ W +ℤ w *ℤ V +ℤ (v +ℤ w) *ℤ L)) where
  mix_width : ((v +ℤ w) *ℤ m) ≤ℤ ((v +ℤ w) *ℤ ((D +ℤ pos 1) *ℤ L))
  mix_width =
      cert (v ∷ w ∷ D ∷ L ∷ W ∷ V ∷ m ∷ [])
      (0≤+ (0≤gap h) (0≤+ (0≤* v≥ (0≤gap W≤)) (0≤+ (0≤* w≥ (0≤gap V≤)) (0≤* (0≤* w≥ L≥) (0≤gap D≥)))))
      (search quotes depth 20 fits 4000) (search quotes depth 20 fits 4000) (search quotes depth 20 fits 4000) tt

module _ (F : Form) (lawful : Lawful F) where
  -- what is answered within fewer slacks is answered within more
  looser : {x : Frac} {f : Ends} (c d : ℕ) → c * F.slack ≤ d * F.slack → Answered F c x f → Answered F d x f
  looser {x} {f} c d h a =
      record { can = a.can; covers = record { encloses = a.covers.encloses; narrow = loosen (width f) (c * F.slack) (d * F.slack) h a.covers.narrow } }

  mix_answered : (d w : ℕ) (x y : Frac) (f g : Ends) → 1 ≤ d → w ≤ 1000 → Answered F d x f → Answered F 1 y g → Answered F (d + 1) (mixed w x y) (F.mix w f g)
  mix_answered d w x y f g deep w≤ o p =
      record {
        can = lawful.can_mix w f g w≤ o.can p.can;
        covers = record {
          encloses = record {
            above = subst (λ (z : ℤ). (pos (x.den * y.den * 1000) *ℤ (F.mix w f g).lo) ≤ℤ z) same between.above;
            below = subst (λ (z : ℤ). z ≤ℤ (pos (x.den * y.den * 1000) *ℤ (F.mix w f g).hi)) same between.below;
          };
          narrow = shorter 1000 (lit< tt) (subst (λ (z : ℤ). (z *ℤ width (F.mix w f g)) ≤ℤ (z *ℤ pos ((d + 1) * F.slack))) parts
              (mix_width (pos (1000 - w)) (pos w) (pos d) (pos F.slack) (width f) (width g) (width (F.mix w f g))
              (nn (1000 - w)) (nn w) (nn F.slack) (at_least d deep) o.covers.narrow (loosen (width g) (1 * F.slack) F.slack (omega arith) p.covers.narrow) wide));
        };
      }
    where
      same : pos (1000 - w) *ℤ (pos factor_scale *ℤ x.num) *ℤ pos y.den +ℤ pos w *ℤ (pos factor_scale *ℤ y.num) *ℤ pos x.den
          ≡ pos factor_scale *ℤ (pos (1000 - w) *ℤ x.num *ℤ pos y.den +ℤ pos w *ℤ y.num *ℤ pos x.den)
      same = counted (pos factor_scale) (pos (1000 - w)) (pos w) x.num (pos x.den) y.num (pos y.den)

      between : Between (F.mix w f g) (mixed w (in_ten_millionths x) (in_ten_millionths y))
      between = lawful.mix_encloses w f g (in_ten_millionths x) (in_ten_millionths y) w≤ o.can p.can o.covers.encloses p.covers.encloses

      parts : pos (1000 - w) +ℤ pos w ≡ pos 1000
      parts = ap pos (let e : (1000 - w) + w ≡ 1000 = omega arith in e)

      at_least : (d : ℕ) → 1 ≤ d → pos 1 ≤ℤ pos d
      at_least d h = omega (arith, ints)

      wide : ((pos (1000 - w) +ℤ pos w) *ℤ width (F.mix w f g)) ≤ℤ (pos (1000 - w) *ℤ width f +ℤ pos w *ℤ width g +ℤ (pos (1000 - w) +ℤ pos w) *ℤ pos F.slack)
      wide =
          subst (λ (z : ℤ). (z *ℤ width (F.mix w f g)) ≤ℤ (pos (1000 - w) *ℤ width f +ℤ pos w *ℤ width g +ℤ z *ℤ pos F.slack)) (sym parts)
          (lawful.mix_narrow w f g w≤ o.can p.can)

-- ---- each of several steps
each_append : {A : Type 0} (P : A → Type 0) (xs ys : List A) → Each P xs → Each P ys → Each P (xs ++ ys)
each_append P [] ys h k = k
each_append P (x ∷ xs) ys h k = (h.0, each_append P xs ys h.1 k)

each_first : {A : Type 0} (P : A → Type 0) (xs ys : List A) → Each P (xs ++ ys) → Each P xs
each_first P [] ys h = tt
each_first P (x ∷ xs) ys h = (h.0, each_first P xs ys h.1)

each_last : {A : Type 0} (P : A → Type 0) (xs : List A) (y : A) → Each P (xs ++ (y ∷ [])) → P y
each_last P [] y h = h.0
each_last P (x ∷ xs) y h = each_last P xs y h.1

each_map : {A B : Type 0} (P : A → Type 0) (Q : B → Type 0) (f : A → B) → ((a : A) → P a → Q (f a)) → (xs : List A) → Each P xs → Each Q (map f xs)
each_map P Q f g [] h = tt
each_map P Q f g (x ∷ xs) h = (g x h.0, each_map P Q f g xs h.1)

-- ---- a layer
abbrev StepAnswered : Form → ℕ → Step → Type 0
StepAnswered F d s = Answered F d s.value (s.ends F)

module _ (b : Book) (m k : ℕ) where
  cause_passes : (before : List Step) (c : Cause) → RightCause b m k before c → RightCause b m k (map under before) c
  cause_passes before no_property h = (h.0, ap (map under) h.1)
  cause_passes before no_column h = (h.0, h.1, ap (map under) h.2)
  cause_passes before (negative_exposure i) h = h
  cause_passes before (amount_past i a) h = h

  module _ (d : ℕ) where
    passed_each : (F : Form) → Lawful F → (ss : List Step) → Each (StepAnswered F d) ss → Each (StepAnswered F (d + 1)) (map under ss)
    passed_each F lawful ss h =
        each_map (StepAnswered F d) (StepAnswered F (d + 1)) under (λ s a. looser F lawful d (d + 1) (omega arith) a) ss h

    passed_sound : (M : Meaning) → Sound d b m k M → Sound (d + 1) b m k (passed_up M)
    passed_sound (factor before s) h =
        record {
          grounds = h.grounds;
          steps = λ F lawful.
              let all = h.steps F lawful in
              each_append (StepAnswered F (d + 1)) (map under before) (under s ∷ []) (passed_each F lawful before (each_first (StepAnswered F d) before (s ∷ []) all))
              (looser F lawful d (d + 1) (omega arith) (each_last (StepAnswered F d) before s all), tt);
        }
    passed_sound (cause before n c) h =
        record { grounds = cause_passes before c h.grounds; steps = λ F lawful. passed_each F lawful before (h.steps F lawful) }

    -- a factor below with the row's own
    module _ (w : ℕ) (deep : 1 ≤ d) (w≤ : w ≤ 1000) (before : List Step) (below : Step) (h : Sound d b m k (factor before below)) where
      weighed_sound : (i : ℕ) → Sound (d + 1) b m k (weighed w (map under before) (under below) (own_step b m k i))
      weighed_sound i =
          record {
            grounds = h.grounds;
            steps = λ F lawful.
                let p = next_amount b m k i in
                let q = exact_exposure b m k i in
                let all = h.steps F lawful in
                let last = each_last (StepAnswered F d) before below all in
                each_append (StepAnswered F (d + 1)) (map under before ++ (under below ∷ own_step b m k i ∷ [])) (mixed_step w (under below) (own_step b m k i) ∷ [])
                (each_append (StepAnswered F (d + 1)) (map under before) (under below ∷ own_step b m k i ∷ [])
                (passed_each F lawful before (each_first (StepAnswered F d) before (below ∷ []) all))
                (looser F lawful d (d + 1) (omega arith) last, (looser F lawful 1 (d + 1) (omega arith) (quotient_answered F lawful p q), tt)))
                (mix_answered F lawful d w below.value (own_step b m k i).value (below.ends F) ((own_step b m k i).ends F) deep w≤ last (quotient_answered F lawful p q), tt);
          }

      unless_sound : (o : Option Cause) (M : Meaning) → Holds (RightCause b m k (map under before ++ (under below ∷ []))) o → Sound (d + 1) b m k M →
          Sound (d + 1) b m k (unless_own o (map under before ++ (under below ∷ [])) M)
      unless_sound (Some c) M r s = record { grounds = r; steps = (passed_sound (factor before below) h).steps }
      unless_sound None M r s = s

      either_sound : (t : Bool) (M M' : Meaning) → Sound (d + 1) b m k M → Sound (d + 1) b m k M' → Sound (d + 1) b m k (cond t M M')
      either_sound true M M' r s = r
      either_sound false M M' r s = s

      own_caused : (ss : List Step) (i : ℕ) → Holds (RightCause b m k ss) (own_cause b m k i)
      own_caused ss i =
          or_holds (RightCause b m k ss) (amount_cause i (gathering_past b m i k)) _ (gathering_caused b m k h.grounds ss i)
          (if_holds (RightCause b m k ss) (lt_z (exact_exposure b m k i) (pos 0)) (Some (negative_exposure i)) None (λ _. h.grounds) tt)

      row_sound : (i : ℕ) → Sound (d + 1) b m k (weighed_with b m k i w (map under before) (under below))
      row_sound i =
          unless_sound (own_cause b m k i) _ (own_caused (map under before ++ (under below ∷ [])) i)
          (either_sound (lt_z (pos 0) (exact_exposure b m k i)) _ _ (weighed_sound i) (passed_sound (factor before below) h))

      factor_sound : (lag : ℕ) → Sound (d + 1) b m k (layer_on b m k lag w (passed_up (factor before below)))
      factor_sound lag = either_sound (ltb lag (seen b k)) _ _ (row_sound (seen b k - (lag + 1))) (passed_sound (factor before below) h)

    layer_sound : (lag w : ℕ) → 1 ≤ d → w ≤ 1000 → (M : Meaning) → Sound d b m k M → Sound (d + 1) b m k (layer_on b m k lag w (passed_up M))
    layer_sound lag w deep w≤ (factor before below) h = factor_sound w deep w≤ before below h lag
    layer_sound lag w deep w≤ (cause before n c) h = passed_sound (cause before n c) h

pub layered_sound : (lag weight : ℕ → ℕ) (below : Book → ℕ → ℕ → Meaning) (depth : ℕ) (b : Book) (m k : ℕ) → 1 ≤ depth → weight k ≤ 1000 →
    Sound depth b m k (below b m k) → Sound (depth + 1) b m k (layered lag weight below b m k)
layered_sound lag weight below depth b m k deep w≤ h = layer_sound b m k depth (lag k) (weight k) deep w≤ (below b m k) h

pub one_deeper : (d : ℕ) → 1 ≤ d + 1
one_deeper d = omega arith
