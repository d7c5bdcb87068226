use Rattle.typed.proofs.Cut.{first_word, one_fewer}
use Rattle.typed.proofs.words.WordsIterator.next.Goals as goal

pub invariant_of-self : goal.invariant_of-self
invariant_of-self c = (first_word _ _ _ c.self.invariant c.next.ensures.steps).1

pub returns-clause-steps : goal.returns-clause-steps
returns-clause-steps c = rw (← c.self.view_is) (first_word _ _ _ c.self.invariant c.next.ensures.steps).0

pub returns-clause-goes : goal.returns-clause-goes
returns-clause-goes c = one_fewer _ _ _ (returns-clause-steps c)
