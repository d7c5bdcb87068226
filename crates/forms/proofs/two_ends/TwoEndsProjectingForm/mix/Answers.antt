use Rattle.std.proofs.Common.{ap, ◌∙◌}
use Rattle.forms.specs.Told.{factor_ceiled}
use Rattle.forms.proofs.Reading.{factor_sizes, asked, mix_ends, mix_order}
use Rattle.forms.proofs.two_ends.TwoEndsProjectingForm.mix.Goals as goal

pub weighted-greatest-requires : goal.weighted-greatest-requires
weighted-greatest-requires c = (c.requires, ((factor_sizes _ _ c.read-a.ensures.within).1, (factor_sizes _ _ c.read-c.ensures.within).1))

pub held-requires : goal.held-requires
held-requires c =
    asked (mix_order c.args.w c.requires _ _ _ _ c.weighted-least.result c.weighted-greatest.result c.rounded_down.result c.rounded_up.result c.read-a.ensures.within c.read-c.ensures.within
    (record { sfits = c.weighted-least.type_inv }) (record { sfits = c.weighted-greatest.type_inv }) (record { sfits = c.rounded_down.type_inv }) (record { sfits = c.rounded_up.type_inv })
    c.weighted-least.ensures.value c.weighted-greatest.ensures.value c.rounded_down.ensures c.rounded_up.ensures) 200000000

pub returns : goal.returns
returns c =
    rw (c.read-a.ensures.ends, c.read-c.ensures.ends)
    (c.held.ensures ∙ ap factor_ceiled
    (mix_ends c.args.w c.requires _ _ _ _ c.weighted-least.result c.weighted-greatest.result c.rounded_down.result c.rounded_up.result c.read-a.ensures.within c.read-c.ensures.within
    (record { sfits = c.weighted-least.type_inv }) (record { sfits = c.weighted-greatest.type_inv }) (record { sfits = c.rounded_down.type_inv }) (record { sfits = c.rounded_up.type_inv })
    c.weighted-least.ensures.value c.weighted-greatest.ensures.value c.rounded_down.ensures c.rounded_up.ensures))
