-- A line that has run as far as its first calls, and one call more.
use Rattle.std.proofs.Common.{◌≡◌, ℕ, ◌+◌, ◌<◌, List, [], ◌∷◌, ◌++◌, length, get_or, take, drop, set, refl, arith}
use Rattle.std.proofs.lemmas.List.{take_more, take_more_set, drop-drop, drop-set-lt}
use Rattle.lines.specs.Line.{Paper, Reading, Stands, LineStands, paper_after, paper_next, accepted}
use Rattle.lines.specs.declared.calls.Call.{Call}
use Rattle.lines.specs.declared.calls.Outcome.{Outcome}

-- the first n calls were run: now is the paper after them, each outcome stands, and the room past them is as it was
pub record RanSoFar (R : Reading) (start now : Paper) (calls : List Call) (before after : List Outcome) (n : ℕ) : Type 0 where
  pub paper : now ≡ paper_after start (take n calls) (take n after)
  pub line : LineStands R start (take n calls) (take n after)
  pub rest : drop n after ≡ drop n before

stand_push : (R : Reading) (s : Paper) (cs : List Call) (os : List Outcome) (x : Call) (o : Outcome) →
    LineStands R s cs os → Stands R (paper_after s cs os) x o → LineStands R s (cs ++ x ∷ []) (os ++ o ∷ [])
stand_push R s [] [] x o all new = (new, tt)
stand_push R s [] (p ∷ os) x o all new = absurd all
stand_push R s (call ∷ cs) [] x o all new = absurd all
stand_push R s (call ∷ cs) (p ∷ os) x o all new = (all.0, stand_push R (paper_next s call (accepted p)) cs os x o all.1 new)

after_push : (R : Reading) (s : Paper) (cs : List Call) (os : List Outcome) (x : Call) (o : Outcome) →
    LineStands R s cs os → paper_after s (cs ++ x ∷ []) (os ++ o ∷ []) ≡ paper_next (paper_after s cs os) x (accepted o)
after_push R s [] [] x o all = refl
after_push R s [] (p ∷ os) x o all = absurd all
after_push R s (call ∷ cs) [] x o all = absurd all
after_push R s (call ∷ cs) (p ∷ os) x o all = after_push R (paper_next s call (accepted p)) cs os x o all.1

pub one_more : (R : Reading) (start now next : Paper) (calls : List Call) (before after : List Outcome) (n : ℕ) (d : Call) (o : Outcome) →
    RanSoFar R start now calls before after n → n < length calls → n < length after → next ≡ paper_next now (get_or calls n d) (accepted o) →
    Stands R now (get_or calls n d) o → RanSoFar R start next calls before (set after n o) (n + 1)
one_more R start now next calls before after n d o ran here room moves stands =
    let x : Call = get_or calls n d in
    let cs = take n calls in
    let os = take n after in
    let lt : n < n + 1 = omega arith in
    let next_calls : take (n + 1) calls ≡ cs ++ x ∷ [] = take_more calls n d here in
    let next_outcomes : take (n + 1) (set after n o) ≡ os ++ o ∷ [] = take_more_set after n o room in
    record {
      paper = rw (next_calls, next_outcomes, after_push R start cs os x o ran.line, ← ran.paper) moves;
      line = rw (next_calls, next_outcomes) (stand_push R start cs os x o ran.line (rw ran.paper at stands));
      rest = rw (drop-set-lt (n + 1) after n o lt, ← drop-drop 1 n after, ran.rest, drop-drop 1 n before);
    }
