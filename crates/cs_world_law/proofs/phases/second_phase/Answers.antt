-- The marks of an honest node keep the rules of its order, and no rule applies: so what may be done has been done.
use Rattle.std.proofs.Common.{◌≡◌, ℕ, true, List, Some, refl, sym, subst}
use Rattle.cs_base.specs.declared.node_id.NodeId.{NodeId}
use Rattle.cs_order.specs.declared.proposed.Proposed.{Proposed}
use Rattle.cs_order.specs.declared.answers.Outgoing.{Outgoing}
use Rattle.cs_base.specs.Lists.{IsIn}
use Rattle.cs_order.specs.Deeds.{Deed, Member, sent_by}
use Rattle.cs_order.specs.Runs.{held_in}
use Rattle.cs_order_rules.specs.declared.message.OrderMessage.{OrderMessage}
use Rattle.cs_order_rules.specs.declared.message.OrderMessage.TheVariants as message
use Rattle.cs_order_rules.specs.Facts.{open_slot, echo_said, confirm_said}
use Rattle.cs_order_rules.specs.Rules.{own}
use Rattle.cs_order_rules.specs.SlotMachine.{slot_machine, sight}
use Rattle.cs_order_law.specs.laws.Sound.{Sound}
use Rattle.cs_order_law.specs.laws.Sights.{sound as sound_member}
use Rattle.cs_node_rules.specs.Carrying.{IsEntry}
use Rattle.cs_node_rules.specs.World.{trail_of, view_of}
use Rattle.cs_node_rules.specs.Trail.{admits_proposed}
use Rattle.cs_node_law.proofs.Inputs.{event-level}
use Rattle.cs_world_law.specs.Worlds.{is_honest, signs_at}
use Rattle.cs_world_law.specs.Orders.{IsSentToAll, IsSaid}
use Rattle.cs_world_law.specs.Agreement.{Agrees}
use Rattle.cs_world_law.proofs.Deeds.{deeds_in, member-is}
use Rattle.cs_world_law.proofs.Local.{deeds-kept, local}
use Rattle.cs_world_law.proofs.Whole.{IsPlace, place, At, Here, by-node, sound, made, level, within}
use Rattle.cs_world_law.proofs.OneEcho.{OneEcho, one_echo}
use Rattle.cs_world_law.proofs.Resting.{agrees}
use Rattle.cs_world_law.proofs.Chosen.{executed-log}
use Rattle.cs_world_law.proofs.Handing.{world-handled}
use Rattle.cs_world_law.proofs.Saying.{to_each, said-so, IsHandedOut, echo-told, confirm-told}
use Rattle.cs_world_law.proofs.phases.second_phase.Goals as goal

-- what the order of an honest node handed out is said
said-here : (p : IsPlace slot_machine) (i : NodeId) → is_honest (At slot_machine p) i ≡ true → (deed : Deed OrderMessage) → IsIn deed (deeds_in (trail_of i p.world))
    → (out : Outgoing OrderMessage) → IsIn out (sent_by deed) → IsSaid (At slot_machine p) i (signs_at i p.world) out
said-here p i honest deed there out handed =
    let site = At slot_machine p in
    let some = by-node slot_machine p i honest in
    let t = trail_of i p.world in
    let known = local site (sound slot_machine p some) (Here slot_machine p) i t (made slot_machine p some i) (within slot_machine p some i) in
    let entries = λ (e : Proposed) (j : IsIn e (held_in site.machine (deeds_in t))). let k = known.held e j in let is : IsEntry site.setup.version e = record { entry = k.entry; fits = k.fits; is = k.is } in is in
    let deeds = deeds-kept site (sound slot_machine p some) (Here slot_machine p) i t (made slot_machine p some i) in
    said-so site (sound slot_machine p some) refl i t deeds entries (world-handled site p.world p.is_world.life i) deed there out handed

pub returns-clause-said : goal.returns-clause-said
returns-clause-said c carrier carries config net genesis approves world few small is_net is_world i honest deed there out handed =
    let p = place slot_machine c.rules_are_lawful.ensures.law c.rules_are_lawful.ensures.holds event-level carrier carries config net genesis approves world few small is_net is_world in
    let site = At slot_machine p in
    said-here p i honest deed (subst (λ (h : Member OrderMessage). IsIn deed h.deeds) (member-is site i (trail_of i world)) there) out handed

pub returns-clause-done : goal.returns-clause-done
returns-clause-done c carrier carries config net genesis approves world few small is_net is_world quiet i honest =
    let p = place slot_machine c.rules_are_lawful.ensures.law c.rules_are_lawful.ensures.holds event-level carrier carries config net genesis approves world few small is_net is_world in
    let site = At slot_machine p in
    let some = by-node slot_machine p i honest in
    let t = trail_of i world in
    let v = view_of site world i in
    let deeds = deeds_in t in
    let kept = deeds-kept site (sound slot_machine p some) (Here slot_machine p) i t (made slot_machine p some i) in
    let is = sym (member-is site i t) in
    let IsTold : OrderMessage → Type 0 = λ m. IsSentToAll site i (signs_at i world) m in
    let told = λ (m : OrderMessage) (h : IsHandedOut deeds m). (said-here p i honest h.0 h.1 (to_each m) h.2).sent in
    let h0 : Member OrderMessage = record { f = config.f; me = i.index; deeds = deeds } in
    let s = sight v.member in
    let log = executed-log site (sound slot_machine p some) (Here slot_machine p) i t (level slot_machine p some i) (within slot_machine p some i) in
    let echo = subst (λ (h : Member OrderMessage). (d : List ℕ) → own echo_said (sight h) ≡ Some d → IsTold (message.Echo (open_slot (sight h)) (sight h).view d)) is
    (λ d e. told (message.Echo (open_slot (sight h0)) (sight h0).view d) (echo-told config.f i.index deeds kept d e)) in
    let confirm = subst (λ (h : Member OrderMessage). (d : List ℕ) → own confirm_said (sight h) ≡ Some d → IsTold (message.Confirm (open_slot (sight h)) (sight h).view d)) is
    (λ d e. told (message.Confirm (open_slot (sight h0)) (sight h0).view d) (confirm-told config.f i.index deeds kept d e)) in
    subst (λ (l : List Proposed). Agrees (admits_proposed site v) IsTold (record s { log = l })) (sym log)
    (agrees site v refl (quiet i honest) IsTold echo confirm
    (subst (λ (h : Member OrderMessage). Sound (sight h)) is (sound_member config.f i.index deeds kept))
    (subst (λ (h : Member OrderMessage). OneEcho (sight h)) is (one_echo config.f i.index deeds kept)))
