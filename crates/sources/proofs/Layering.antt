-- What a layer answers, by what the source below it answered.
use Rattle.std.proofs.Common.{◌≡◌, ℕ, zero, suc, ◌+◌, ◌-◌, min, Bool, true, false, cond, ltb, List, [], ◌∷◌, ◌++◌, map, ℤ, pos, negsuc, nat_abs, ◌<ℤ◌, Some, None, Ok, Err, Option, Result, sym, refl, ap, ◌∙◌, append_assoc, arith}
use Rattle.std.proofs.lemmas.Int.{ints}
use Rattle.std.proofs.lemmas.List.{map-append}
use lib.Signed.{lt_z}
use Rattle.algebra.specs.Interval.{Ends}
use Rattle.paper.specs.Numbers.{factor_inside}
use Rattle.paper.specs.Forms.{Form}
use Rattle.paper.specs.Books.{Book}
use Rattle.paper.specs.Sources.{Cause, no_property, no_column, negative_exposure, amount_past, Step, Meaning, factor, cause, steps_in, or_else, exact_exposure, next_amount, seen, quotient_step}
use Rattle.paper.specs.Layers.{under, passed_up, own_cause, own_step, mixed_step, unless_own, weighed, weighed_with, layer_on}
use Rattle.forms.specs.declared.FormFault.{FormFault}
use Rattle.forms.specs.declared.FormFault.TheVariants as form
use Rattle.forms.specs.Told.{told, factor_ceiled}
use Rattle.book.specs.declared.faults.Fault.{Fault}
use Rattle.book.specs.declared.faults.Origin.TheVariants.{OfForm, OfSource}
use Rattle.book.specs.declared.faults.Ground.TheVariants.{NoProperty, NoColumn, NegativeExposure, AmountCeiling, FactorCeiling}
use Rattle.book.specs.Grounds.{at_place, fault_at, placed, under_layer, from_below}
use Rattle.sources.specs.Asked.{counted, cause_fault, first_past, answer_then, unless_past, answer_in}
use Rattle.sources.specs.Estimates.{unless_cause}
use Rattle.sources.proofs.Rows.{ok_is}

-- ---- one layer more
abbrev more : Option ℕ → Option ℕ
more (Some n) = Some (n + 1)
more None = None

counted_more : (n : ℕ) → counted (n + 1) ≡ min (counted n + 1) 255
counted_more n = omega arith

counted_0 : counted 0 ≡ 0
counted_0 = omega arith

told_up : {V : Type 0} (means : V → Ends) (r : Result V Fault) → told means (from_below r) ≡ from_below (told means r)
told_up means (Ok v) = refl
told_up means (Err f) = refl

module _ (F : Form) (m k : ℕ) where
  first_under : (ss : List Step) → first_past F (map under ss) ≡ more (first_past F ss)
  first_under [] = refl
  first_under (s ∷ ss) = go (factor_inside (s.ends F)) (first_under ss)
    where
      go : (t : Bool) → first_past F (map under ss) ≡ more (first_past F ss) →
          cond t (first_past F (map under ss)) (Some (s.above + 1)) ≡ more (cond t (first_past F ss) (Some s.above))
      go true e = e
      go false e = refl

  past_up : (o : Option ℕ) (r r' : Result Ends Fault) → r' ≡ from_below r → unless_past m k (more o) r' ≡ from_below (unless_past m k o r)
  past_up (Some n) r r' e = ap (λ l. Err (fault_at OfForm (at_place m 0 k) l FactorCeiling)) (counted_more n)
  past_up None r r' e = e

  cause_up : (n : ℕ) (c : Cause) → cause_fault m k (n + 1) c ≡ under_layer (cause_fault m k n c)
  cause_up n no_property = ap (λ l. fault_at OfSource (at_place m 0 k) l NoProperty) (counted_more n)
  cause_up n no_column = ap (λ l. fault_at OfSource (at_place m 0 k) l NoColumn) (counted_more n)
  cause_up n (negative_exposure i) = ap (λ l. fault_at OfSource (at_place m i k) l NegativeExposure) (counted_more n)
  cause_up n (amount_past i a) = ap (λ l. fault_at OfForm (at_place m i k) l AmountCeiling) (counted_more n)

  -- the answer from below, with the layer counted
  answer_up : (M : Meaning) → answer_in F m k (passed_up M) ≡ from_below (answer_in F m k M)
  answer_up (factor before s) =
      rw (sym (map-append under before (s ∷ [])), first_under (before ++ (s ∷ []))) (past_up (first_past F (before ++ (s ∷ []))) (Ok (s.ends F)) (Ok (s.ends F)) refl)
  answer_up (cause before n c) =
      rw (first_under before) (past_up (first_past F before) (Err (cause_fault m k n c)) (Err (cause_fault m k (n + 1) c)) (ap Err (cause_up n c)))

  -- a result from below, passed up
  pub passed_answer : {A : Type 0} (means : A → Ends) (M : Meaning) (r : Result A Fault) → told means r ≡ answer_in F m k M →
      (up : Result A Fault) → up ≡ from_below r → told means up ≡ answer_in F m k (passed_up M)
  passed_answer means M r r-is up up-is = rw up-is (told_up means r ∙ ap from_below r-is ∙ sym (answer_up M))

  -- ---- what an answer says of its meaning
  first_append : (xs ys : List Step) → first_past F (xs ++ ys) ≡ or_else (first_past F xs) (first_past F ys)
  first_append [] ys = refl
  first_append (x ∷ xs) ys = go (factor_inside (x.ends F)) (first_append xs ys)
    where
      go : (t : Bool) → first_past F (xs ++ ys) ≡ or_else (first_past F xs) (first_past F ys) →
          cond t (first_past F (xs ++ ys)) (Some x.above) ≡ or_else (cond t (first_past F xs) (Some x.above)) (first_past F ys)
      go true e = e
      go false e = refl

  answered : (o : Option ℕ) (r : Result Ends Fault) (e : Ends) → unless_past m k o r ≡ Ok e → (o ≡ None) × (r ≡ Ok e)
  answered (Some n) r e h = absurd cc
  answered None r e h = (refl, h)

  refused_stays : (o p : Option ℕ) (e : Ends) (r : Result Ends Fault) (f : Fault) → unless_past m k o (Ok e) ≡ Err f → unless_past m k (or_else o p) r ≡ Err f
  refused_stays (Some n) p e r f h = h
  refused_stays None p e r f h = absurd cc

  -- the steps of a mix begin with those of the factor below
  weighed_steps : (before : List Step) (s own mix : Step) → (before ++ (s ∷ own ∷ [])) ++ (mix ∷ []) ≡ (before ++ (s ∷ [])) ++ (own ∷ mix ∷ [])
  weighed_steps before s own mix = append_assoc before (s ∷ own ∷ []) (mix ∷ []) ∙ sym (append_assoc before (s ∷ []) (own ∷ mix ∷ []))

  module _ (b : Book) where
    -- ---- a refusal from below
    module _ (before : List Step) (s : Step) (f : Fault) (h : answer_in F m k (factor before s) ≡ Err f) where
      stays : (M : Meaning) (rest : List Step) → steps_in M ≡ (before ++ (s ∷ [])) ++ rest → answer_in F m k M ≡ Err f
      stays M rest e =
          rw (e, first_append (before ++ (s ∷ [])) rest) (refused_stays (first_past F (before ++ (s ∷ []))) (first_past F rest) (s.ends F) (answer_then F m k M) f h)

      either : (t : Bool) (M M' : Meaning) → answer_in F m k M ≡ Err f → answer_in F m k M' ≡ Err f → answer_in F m k (cond t M M') ≡ Err f
      either true M M' r r' = r
      either false M M' r r' = r'

      append_none : {A : Type 0} (xs : List A) → xs ≡ xs ++ []
      append_none [] = refl
      append_none (x ∷ xs) = ap (λ ys. x ∷ ys) (append_none xs)

      unless_stays : (o : Option Cause) (M : Meaning) → answer_in F m k M ≡ Err f → answer_in F m k (unless_own o (before ++ (s ∷ [])) M) ≡ Err f
      unless_stays (Some c) M r = stays (cause (before ++ (s ∷ [])) 0 c) [] (append_none (before ++ (s ∷ [])))
      unless_stays None M r = r

      row_stays : (i w : ℕ) → answer_in F m k (weighed_with b m k i w before s) ≡ Err f
      row_stays i w =
          unless_stays (own_cause b m k i) _
          (either (lt_z (pos 0) (exact_exposure b m k i)) (weighed w before s (own_step b m k i)) (factor before s)
          (stays (weighed w before s (own_step b m k i)) (own_step b m k i ∷ mixed_step w s (own_step b m k i) ∷ [])
          (weighed_steps before s (own_step b m k i) (mixed_step w s (own_step b m k i))))
          h)

    pub refused_below : (lag w : ℕ) (M : Meaning) (f : Fault) → answer_in F m k M ≡ Err f → answer_in F m k (layer_on b m k lag w M) ≡ Err f
    refused_below lag w (factor before s) f h = either before s f h (ltb lag (seen b k)) _ (factor before s) (row_stays before s f h (seen b k - (lag + 1)) w) h
    refused_below lag w (cause before n c) f h = h

    -- ---- the row
    told_placed : {V : Type 0} (means : V → Ends) (r : Result V FormFault) → told means (placed (at_place m 0 k) r) ≡ placed (at_place m 0 k) (told means r)
    told_placed means (Ok v) = refl
    told_placed means (Err f) = refl

    module _ (i w : ℕ) (before : List Step) (s : Step) (e : Ends) (h : answer_in F m k (factor before s) ≡ Ok e) where
      none_past : first_past F (before ++ (s ∷ [])) ≡ None
      none_past = (answered (first_past F (before ++ (s ∷ []))) (Ok (s.ends F)) e h).0

      ends_are : s.ends F ≡ e
      ends_are = let r = (answered (first_past F (before ++ (s ∷ []))) (Ok (s.ends F)) e h).1 in cc

      -- the answer with the row's own factor, by its ends
      abbrev mixed_answer : Ends → Result Ends Fault
      mixed_answer own = unless_past m k (cond (factor_inside own) (cond (factor_inside (F.mix w e own)) None (Some 0)) (Some 0)) (Ok (F.mix w e own))

      weighed_answer : (p : ℤ) (q : ℕ) → answer_in F m k (weighed w before s (quotient_step p (pos (suc q)))) ≡ mixed_answer (F.ratio p (suc q))
      weighed_answer p q =
          let own = quotient_step p (pos (suc q)) in
          rw (weighed_steps before s own (mixed_step w s own), first_append (before ++ (s ∷ [])) (own ∷ mixed_step w s own ∷ []), none_past, ends_are) refl

      refused : {A : Type 0} (own : Ends) (means : A → Ends) (r : Result A FormFault) → told means r ≡ factor_ceiled own → (f : Fault) → Err f ≡ placed (at_place m 0 k) r → Err f ≡ mixed_answer own
      refused {A} own means r r-is f f-is = go (factor_inside own) r r-is f-is
        where
          go : (t : Bool) (r : Result A FormFault) → told means r ≡ cond t (Ok own) (Err form.FactorCeiling) → Err f ≡ placed (at_place m 0 k) r →
              Err f ≡ unless_past m k (cond t (cond (factor_inside (F.mix w e own)) None (Some 0)) (Some 0)) (Ok (F.mix w e own))
          go t (Ok v) a c = absurd cc
          go true (Err g) a c = absurd cc
          go false (Err form.FactorCeiling) a c = let same : f ≡ fault_at OfForm (at_place m 0 k) 0 FactorCeiling = cc in rw (same, counted_0) refl
          go false (Err form.AmountCeiling) a c = absurd cc

      mixes : {A : Type 0} (own : Ends) (means : A → Ends) (r : Result A FormFault) → told means r ≡ factor_ceiled own → (v : A) → Ok v ≡ placed (at_place m 0 k) r →
          (mix : Result A FormFault) → told means mix ≡ factor_ceiled (F.mix w e (means v)) → told means (placed (at_place m 0 k) mix) ≡ mixed_answer own
      mixes {A} own means r r-is v v-is mix mix-is =
          told_placed means mix ∙ ap (placed (at_place m 0 k)) mix-is ∙ go (factor_inside own) r r-is v-is
        where
          last : (t : Bool) (x : Ends) → placed (at_place m 0 k) (cond t (Ok x) (Err form.FactorCeiling)) ≡ unless_past m k (cond t None (Some 0)) (Ok x)
          last true x = refl
          last false x = rw counted_0 refl

          go : (t : Bool) (r : Result A FormFault) → told means r ≡ cond t (Ok own) (Err form.FactorCeiling) → Ok v ≡ placed (at_place m 0 k) r →
              placed (at_place m 0 k) (factor_ceiled (F.mix w e (means v))) ≡ unless_past m k (cond t (cond (factor_inside (F.mix w e own)) None (Some 0)) (Some 0)) (Ok (F.mix w e own))
          go t (Err g) a c = absurd cc
          go true (Ok u) a c = let same : means v ≡ own = cc in rw same (last (factor_inside (F.mix w e own)) (F.mix w e own))
          go false (Ok u) a c = absurd cc

      module _ (own : ℤ) (given : Ok own ≡ unless_cause m k (own_cause b m k i) (exact_exposure b m k i)) (above : pos 0 <ℤ own) where
        row_is : answer_in F m k (weighed_with b m k i w before s) ≡ mixed_answer (F.ratio (next_amount b m k i) (nat_abs own))
        row_is =
            let known = ok_is m k (own_cause b m k i) (exact_exposure b m k i) own given in
            rw (known.0, ← known.1) (go own above)
          where
            go : (x : ℤ) → pos 0 <ℤ x →
                answer_in F m k (cond (lt_z (pos 0) x) (weighed w before s (quotient_step (next_amount b m k i) x)) (factor before s))
                ≡ mixed_answer (F.ratio (next_amount b m k i) (nat_abs x))
            go (pos zero) l = absurd (omega (arith, ints))
            go (pos (suc q)) l = let t : lt_z (pos 0) (pos (suc q)) ≡ true = grind (arith, ints) in rw t (weighed_answer (next_amount b m k i) q)
            go (negsuc q) l = absurd (omega (arith, ints))

        -- the row's own factor, as it is asked of a form
        module _ {V : Type 0} (means : V → Ends) (r : Result V FormFault) (n x : ℤ) (n-is : n ≡ next_amount b m k i) (x-is : x ≡ own)
            (r-is : told means r ≡ factor_ceiled (F.ratio n (nat_abs x))) where
          ratio_is : told means r ≡ factor_ceiled (F.ratio (next_amount b m k i) (nat_abs own))
          ratio_is = rw (← n-is, ← x-is) r-is

          -- it passes the ceiling
          pub own_refused : (f : Fault) → Err f ≡ placed (at_place m 0 k) r → Err f ≡ answer_in F m k (weighed_with b m k i w before s)
          own_refused f e = rw row_is (refused (F.ratio (next_amount b m k i) (nat_abs own)) means r ratio_is f e)

          -- it is mixed with the factor below
          pub own_mixed : (v : V) → Ok v ≡ placed (at_place m 0 k) r → (mix : Result V FormFault) → told means mix ≡ factor_ceiled (F.mix w e (means v)) →
              told means (placed (at_place m 0 k) mix) ≡ answer_in F m k (weighed_with b m k i w before s)
          own_mixed v v-is mix mix-is = rw row_is (mixes (F.ratio (next_amount b m k i) (nat_abs own)) means r ratio_is v v-is mix mix-is)
