use Rattle.std.proofs.Common.{sym, ap, ◌∙◌}
use Rattle.paper.specs.Sums.{multiple_of_ends}
use Rattle.forms.specs.Told.{ceiled}
use Rattle.forms.proofs.Reading.{asked, kept_order, exchanged_order, kept_ends, exchanged_ends}
use Rattle.forms.proofs.two_ends.TwoEndsSummingForm.times.Goals as goal

pub held-requires : goal.held-requires
held-requires c =
    asked (kept_order _ _ _ _ _ c.ranges.coefficient c.read-a.ensures.within (record { sfits = c.product-at_low.type_inv }) (record { sfits = c.product-at_high.type_inv })
    c.product-at_low.ensures.value c.product-at_high.ensures.value c.if-coefficient-ge0.true) 40000000000

pub held-requires-else-coefficient-ge0 : goal.held-requires-else-coefficient-ge0
held-requires-else-coefficient-ge0 c =
    asked (exchanged_order _ _ _ _ _ c.ranges.coefficient c.read-a.ensures.within (record { sfits = c.product-at_low.type_inv }) (record { sfits = c.product-at_high.type_inv })
    c.product-at_low.ensures.value c.product-at_high.ensures.value c.if-coefficient-ge0.false) 40000000000

pub returns-then-coefficient-ge0 : goal.returns-then-coefficient-ge0
returns-then-coefficient-ge0 c =
    c.held.ensures ∙ ap ceiled
    (kept_ends _ _ _ _ _ c.ranges.coefficient c.read-a.ensures.within (record { sfits = c.product-at_low.type_inv }) (record { sfits = c.product-at_high.type_inv })
    c.product-at_low.ensures.value c.product-at_high.ensures.value c.if-coefficient-ge0.true
    ∙ ap (multiple_of_ends c.args.coefficient) (sym c.read-a.ensures.ends))

pub returns-else-coefficient-ge0 : goal.returns-else-coefficient-ge0
returns-else-coefficient-ge0 c =
    c.held-else-coefficient-ge0.ensures ∙ ap ceiled
    (exchanged_ends _ _ _ _ _ c.ranges.coefficient c.read-a.ensures.within (record { sfits = c.product-at_low.type_inv }) (record { sfits = c.product-at_high.type_inv })
    c.product-at_low.ensures.value c.product-at_high.ensures.value c.if-coefficient-ge0.false
    ∙ ap (multiple_of_ends c.args.coefficient) (sym c.read-a.ensures.ends))
