use Rattle.std.proofs.Common.{Bool, ◌&&◌, ◌∙◌, sym, ap}
use Rattle.cs_ledger.specs.Table.{has_seat}
use Rattle.cs_table.proofs.Objects.{active_held, shared_held}
use Rattle.cs_table.proofs.table.is_readable.Goals as goal

pub returns-in-Active : goal.returns-in-Active
returns-in-Active c = active_held c.args.state.now c.in-Active.held c.args.object.now c.same.result c.in-Active.is c.requires.object c.requires.state c.same.ensures

pub returns-then-same : goal.returns-then-same
returns-then-same c =
    c.has_seat.ensures
    ∙ ap (λ (same : Bool). same && has_seat c.in-Shared.readers) (sym c.if-same.true)
    ∙ shared_held c.args.state.now c.in-Shared.held c.args.object.now c.in-Shared.readers c.same-in-Shared.result c.in-Shared.is c.requires.object c.requires.state c.same-in-Shared.ensures

-- where the object is another one, the seats are not looked at
pub returns-else-same : goal.returns-else-same
returns-else-same c =
    c.if-same.false
    ∙ ap (λ (same : Bool). same && has_seat c.in-Shared.readers) (sym c.if-same.false)
    ∙ shared_held c.args.state.now c.in-Shared.held c.args.object.now c.in-Shared.readers c.same-in-Shared.result c.in-Shared.is c.requires.object c.requires.state c.same-in-Shared.ensures
