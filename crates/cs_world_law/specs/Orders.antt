-- What an honest node does of what its order chose and handed out.
use Rattle.std.specs.Prelude.{◌≡◌, ℕ, suc, ◌==◌, true, if◌then◌else◌, List, [], ◌∷◌, ◌++◌, map, Option, Some, None}
use Rattle.cs_base.specs.declared.node_id.NodeId.{NodeId}
use Rattle.cs_tx_types.specs.declared.action.Action.{Action}
use Rattle.cs_tx_types.specs.declared.entry.Entry.{Entry}
use Rattle.cs_tx_types.specs.Entry.{entry_of}
use Rattle.cs_order.specs.declared.proposed.Proposed.{Proposed}
use Rattle.cs_order.specs.declared.answers.Outgoing.{Outgoing}
use Rattle.cs_order.specs.Deeds.{Deed, sent_by, chosen_in}
use Rattle.cs_base.specs.Lists.{IsIn}
use Rattle.cs_node_rules.specs.Members.{others}
use Rattle.cs_node_rules.specs.Signs.{Sign, Sent}
use Rattle.cs_node_rules.specs.Site.{Site}
use Rattle.cs_node_rules.specs.World.{Happening, Execution, view_of}
use Rattle.cs_world_law.specs.Worlds.{is_honest, signs_at}
use Rattle.cs_world_law.specs.Steps.{Run}
use Rattle.cs_world_law.specs.Shown.{executed_by}

-- one action more, of the newest slot or of a new one; slots are newest first, and actions of a slot oldest first
abbrev pub with_run : ℕ → Action → List (ℕ × List Action) → List (ℕ × List Action)
with_run slot action [] = (slot, action ∷ []) ∷ []
with_run slot action (s ∷ earlier) =
    if s.0 == slot then (s.0, s.1 ++ action ∷ []) ∷ earlier else (slot, action ∷ []) ∷ s ∷ earlier

-- the slots with what was executed of each, the newest first
abbrev pub slots_done : List Execution → List (ℕ × List Action)
slots_done [] = []
slots_done (e ∷ earlier) = with_run e.slot e.entry (slots_done earlier)

-- the entries of such slots, as they are proposed, the oldest first
abbrev pub proposed_in : {M : Type 0} → Site M → List (ℕ × List Action) → List Proposed
proposed_in {M} site [] = []
proposed_in {M} site (s ∷ earlier) = proposed_in site earlier ++ site.proposed_of (entry_of s.1) ∷ []

-- their actions in their places, the oldest first
abbrev pub runs_done : List Execution → List Run
runs_done [] = []
runs_done (e ∷ earlier) = runs_done earlier ++ record { slot = e.slot; place = e.place; action = e.entry } ∷ []

-- actions in their places of a slot, from a place on
abbrev pub runs_from : ℕ → ℕ → List Action → List Run
runs_from slot place [] = []
runs_from slot place (action ∷ more) =
    record { slot = slot; place = place; action = action } ∷ runs_from slot (suc place) more

-- the actions of entries in their places, from a slot on
abbrev pub runs_of : ℕ → List Entry → List Run
runs_of slot [] = []
runs_of slot (entry ∷ more) = runs_from slot 0 entry.actions ++ runs_of (suc slot) more

-- Each honest node has executed what its order chose: slot by slot, from slot 0 on, each action in its place, and
-- nothing else.
abbrev pub ExecutesChosen : {M : Type 0} → Site M → List (Happening M) → Type 0
ExecutesChosen {M} site world =
    (i : NodeId) → is_honest site i ≡ true →
    runs_done (executed_by i world) ≡ runs_of 0 (map site.entry_in (chosen_in (view_of site world i).member.deeds))

-- the message has been sent to each other member of the shard
abbrev pub IsSentToAll : {M : Type 0} → Site M → NodeId → List Sign → M → Type 0
IsSentToAll {M} site me signs m =
    (to : NodeId) → IsIn to (others site.setup.f me (me.shard ∷ [])) → IsIn (Sent to (site.carrier.written m)) signs

-- for whom a message is that an order handed out: each other member, or the one that it names
abbrev pub recipients : ℕ → NodeId → Option ℕ → List NodeId
recipients f me None = others f me (me.shard ∷ [])
recipients f me (Some index) = record { shard = me.shard; index = index } ∷ []

-- the message is proper, reads as it was, and has been sent to whom it is for
pub record IsSaid {M : Type 0} (site : Site M) (me : NodeId) (signs : List Sign) (out : Outgoing M) : Type 0 where
  pub proper : site.machine.proper out.message ≡ true
  pub back : site.carrier.read (site.carrier.written out.message) ≡ Some out.message
  pub sent : (to : NodeId) → IsIn to (recipients site.setup.f me out.to) →
      IsIn (Sent to (site.carrier.written out.message)) signs

-- So is all that the order of an honest node handed out.
abbrev pub SaysHanded : {M : Type 0} → Site M → List (Happening M) → Type 0
SaysHanded {M} site world =
    (i : NodeId) → is_honest site i ≡ true → (deed : Deed M) → IsIn deed (view_of site world i).member.deeds →
    (out : Outgoing M) → IsIn out (sent_by deed) → IsSaid site i (signs_at i world) out
