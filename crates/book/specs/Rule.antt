-- A rule's terms and the fields that hold them.
use Rattle.std.specs.Prelude.{◌≡◌, ◌-◌, ◌≤◌, List, ◌++◌, All, length, replicate, take, pos}
use Rattle.book.specs.declared.rules.Term.{Term}
use Rattle.book.specs.declared.rules.Rule.TheInside.{Inside}
use Rattle.book.specs.Limits.{IsRuleTerm}

abbrev pub blank : Term
blank = record { property = 0; shift = 0; reach = 0; coefficient = pos 0 }

abbrev pub first_terms : Inside → List Term
first_terms r = take r.len r.terms

-- the terms, and blank ones up to six
abbrev pub padded : List Term → Inside
padded ts = record { len = length ts; terms = ts ++ replicate (6 - length ts) blank }

pub record IsHeld (r : Inside) : Type 0 where
  pub few : r.len ≤ 6
  pub filled : padded (first_terms r) ≡ r
  pub each : All IsRuleTerm (first_terms r)
