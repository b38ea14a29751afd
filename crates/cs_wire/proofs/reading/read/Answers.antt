use Rattle.std.proofs.Common.{arith, ◌≡◌, ℕ, List, Ok, Err, ap, subst, ◌∙◌, length, ◌-◌, take}
use Rattle.cs_base.specs.declared.node_id.NodeId.{NodeId}
use Rattle.cs_base.proofs.Forms.{IsBytes-drop, IsBytes-take}
use Rattle.cs_wire_message.specs.declared.message.Message.{Message}
use Rattle.cs_wire.specs.declared.keys.Keys.{Keys}
use Rattle.cs_wire.specs.declared.opening.OpenError.{OpenError}
use Rattle.cs_wire.specs.declared.view.MessageView.{MessageView}
use Rattle.cs_wire.specs.Opens.{Opens, ShowsMessage}
use Rattle.cs_wire.specs.Opened.{Opened, opened}
use Rattle.cs_wire.proofs.Masters.{opened_ok, opened_err}
use Rattle.cs_wire.proofs.reading.read.Goals as goal

abbrev IsSaid : Opened → Type 0
IsSaid (Ok said) = Unit {0}
IsSaid (Err error) = ⊥

-- what is opened fails no test
no_fault : (keys : Keys) (bytes : List ℕ) (found : NodeId × MessageView) (m : Message) (error : OpenError) → Opens keys bytes (Ok found) → ShowsMessage found.1 m → opened keys bytes ≡ Err error → ⊥
no_fault keys bytes found m error o shown is = subst IsSaid (opened_ok keys bytes found m o shown ∙ is) tt

pub returns-in_ok-message-in-Ok-clause-said : goal.returns-in_ok-message-in-Ok-clause-said
returns-in_ok-message-in-Ok-clause-said c = opened_ok c.args.keys.now c.args.bytes.now (c.in-Ok.from, c.in-Ok.view) c.in_ok-message-in-Ok.message c.in-Ok.ensures c.in_ok-message-in-Ok.ensures

pub returns-in-Err-clause-said : goal.returns-in-Err-clause-said
returns-in-Err-clause-said c =
    let bytes = c.args.bytes.now in
    opened_err c.args.keys.now bytes c.in-Err.error (IsBytes-drop 17 (take (length bytes - 32) bytes) (IsBytes-take (length bytes - 32) bytes (λ i. omega (arith, c.type_inv.bytes i)))) c.in-Err.ensures

pub returns-in_err-message-in-Ok-clause-refused : goal.returns-in_err-message-in-Ok-clause-refused
returns-in_err-message-in-Ok-clause-refused c = λ error is.
    absurd (no_fault c.args.keys.now c.args.bytes.now (c.in-Ok.from, c.in-Ok.view) c.in-Ok.ensures.0 error c.in-Ok.ensures c.in-Ok.ensures.2 is)

pub returns-in_ok-message-in-Ok-clause-refused : goal.returns-in_ok-message-in-Ok-clause-refused
returns-in_ok-message-in-Ok-clause-refused c = λ error is.
    absurd (no_fault c.args.keys.now c.args.bytes.now (c.in-Ok.from, c.in-Ok.view) c.in_ok-message-in-Ok.message error c.in-Ok.ensures c.in_ok-message-in-Ok.ensures is)

pub returns-in-Err-clause-refused : goal.returns-in-Err-clause-refused
returns-in-Err-clause-refused c = λ error is. ap Ok (returns-in-Err-clause-said c ∙ is)
