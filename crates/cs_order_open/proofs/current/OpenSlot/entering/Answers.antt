use Rattle.std.proofs.Common.{ap, ◌∙◌, arith}
use Rattle.cs_order_open.specs.Shows.{KeptOpenSlot}
use Rattle.cs_order_open.specs.Look.{look_of, entering_by}
use Rattle.cs_order_open.proofs.Greatest.{entered, stays, none_reached}
use Rattle.cs_order_open.proofs.current.OpenSlot.entering.Goals as goal

pub returns-in-Some : goal.returns-in-Some
returns-in-Some c =
    let k : KeptOpenSlot = record { slot = c.self.inside.slot; changes = c.self.inside.changes; echoed = c.self.inside.echoed.items } in
    entered k c.in-Some.view c.in-Some.ensures (let a = c.view.ensures in let b = c.if-view.true in omega arith)
    ∙ ap (λ (k : KeptOpenSlot). entering_by (look_of k)) c.self.view_is

pub returns-in_default : goal.returns-in_default
returns-in_default c =
    let k : KeptOpenSlot = record { slot = c.self.inside.slot; changes = c.self.inside.changes; echoed = c.self.inside.echoed.items } in
    stays k c.in-Some.view c.in-Some.ensures (let a = c.view.ensures in let b = c.if-view.false in omega arith)
    ∙ ap (λ (k : KeptOpenSlot). entering_by (look_of k)) c.self.view_is

pub returns-in_default-2 : goal.returns-in_default-2
returns-in_default-2 c =
    let k : KeptOpenSlot = record { slot = c.self.inside.slot; changes = c.self.inside.changes; echoed = c.self.inside.echoed.items } in
    none_reached k c.in_default.ensures
    ∙ ap (λ (k : KeptOpenSlot). entering_by (look_of k)) c.self.view_is
