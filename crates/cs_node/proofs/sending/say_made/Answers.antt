use Rattle.std.proofs.Common.{◌≡◌, ◌∷◌, [], List, Option, sym, subst, ◌∙◌}
use Rattle.std.proofs.lemmas.Result.{on_ok_weaker}
use Rattle.cs_base.specs.declared.node_id.NodeId.{NodeId}
use Rattle.cs_ledger.specs.Ledger.{Bytes}
use Rattle.cs_tx_types.specs.declared.checkpoint.Checkpoint.{Checkpoint}
use Rattle.cs_wire_message.specs.declared.message.Message.TheVariants as message
use Rattle.cs_node_rules.specs.Members.{others}
use Rattle.cs_node_rules.specs.Signs.{Headed, sends, headed_signs}
use Rattle.cs_node_pool.specs.Deployed.{deployed_setup}
use Rattle.cs_node.specs.Drafts.{Draft}
use Rattle.cs_node.specs.Notes.{TellsSigns}
use Rattle.cs_node.proofs.Sums.{tells-more}
use Rattle.cs_node.proofs.sending.say_made.Goals as goal

pub returns : goal.returns
returns c = λ genesis approves.
    let held = c.args.sbac.now in
    let setup = deployed_setup held.config genesis approves in
    let checkpoint = c.in-Some.checkpoint in
    let old : Draft = c.args.draft.now in
    let mid : Draft = c.note_head.new.self in
    let new : Draft = c.say_to.new.self in
    let names_are : c.in_ok-names.names ≡ others held.config.f held.me (held.me.shard ∷ []) =
    c.in_ok-names.ensures ∙ (λ i. others (c.config.ensures i).f (c.me-me.ensures i) ((c.me-me.ensures i).shard ∷ [])) in
    let Notes : Bytes → Type 0 = λ head. TellsSigns (Headed checkpoint.number head ∷ []) old mid in
    let noted = subst Notes c.checkpoint_head.ensures c.in_ok-note_head.ensures in
    let Says : List NodeId → Type 0 = λ names. TellsSigns (sends names (message.Head checkpoint)) mid new in
    let All : Option Checkpoint → Type 0 = λ made. TellsSigns (headed_signs setup held.me made) old new in
    on_ok_weaker _
    (λ said. subst All (sym c.in-Some.is) (tells-more _ _ old mid new noted (subst Says names_are said)))
    c.say_to.ensures
