-- Second phase of a session: what the order of a node has done once the messages for it were taken and no rule applies.
use Rattle.std.specs.Prelude.{◌≡◌, ℕ, ◌+◌, ◌*◌, ◌<◌, ◌≤◌, ◌⊎◌, Bool, true, not, List, length, Some, bytes_eq}
use Rattle.std.specs.List.{filter}
use Rattle.cs_base.specs.declared.limits.TheConstants.{MOST_ECHOED}
use Rattle.cs_base.specs.declared.node_id.NodeId.{NodeId}
use Rattle.cs_order.specs.Limits.{last_slot}
use Rattle.cs_order.specs.declared.proposed.Proposed.{Proposed}
use Rattle.cs_order_rules.specs.declared.message.OrderMessage.{OrderMessage}
use Rattle.cs_order_rules.specs.declared.message.OrderMessage.TheVariants as message
use Rattle.cs_order_rules.specs.Facts.{Sight, open_slot, member_count, echo_said, confirm_said, done_said, first_of}
use Rattle.cs_order_rules.specs.Rules.{proposal, change_of, own, seen_now, echoed_in}
use Rattle.cs_order_rules.specs.Safe.{SafeAt}
use Rattle.cs_order_rules.specs.Slot.{votes}
use Rattle.cs_order_rules.specs.SlotMachine.{sight}
use Rattle.cs_node_rules.specs.Site.{Site}
use Rattle.cs_node_rules.specs.Trail.{admits_proposed}
use Rattle.cs_node_rules.specs.World.{Happening, view_of}
use Rattle.cs_world_law.specs.Worlds.{is_honest, signs_at}
use Rattle.cs_world_law.specs.Shown.{executed_by}
use Rattle.cs_world_law.specs.Orders.{slots_done, proposed_in, IsSentToAll}

-- how many other digests the member echoed in the open slot
abbrev pub others_echoed : Sight → List ℕ → ℕ
others_echoed s digest =
    length (filter (λ (line : List ℕ × ℕ). not (bytes_eq line.0 digest)) (echoed_in s.me (open_slot s) s.taken))

-- The leader's proposal of the entry in the member's view was taken, the node admits it, the view is 0 or it is safe in
-- it, no other digest was echoed in the view, and fewer than 16 others in the slot.
pub record MayBeEchoed (admits : Proposed → Bool) (s : Sight) (entry : Proposed) : Type 0 where
  pub proposed : proposal s s.view ≡ Some entry
  pub admitted : admits entry ≡ true
  pub safe : (s.view ≡ 0) ⊎ SafeAt s.f (change_of s s.view) s.view entry.digest
  pub alone : (digest : List ℕ) → own echo_said s ≡ Some digest → digest ≡ entry.digest
  pub few : others_echoed s entry.digest < MOST_ECHOED

-- an entry of the digest stands in a proposal of the open slot that was taken, or in a Done
abbrev pub IsProposed : Sight → List ℕ → Type 0
IsProposed s digest =
    (view : ℕ) × (view < s.views) × ((entry : Proposed) × (proposal s view ≡ Some entry) × (entry.digest ≡ digest))

abbrev pub EntryIsDone : Sight → List ℕ → Type 0
EntryIsDone s digest =
    (member : ℕ) × (member < member_count s) × ((entry : Proposed)
    × (first_of (done_said (open_slot s)) s.taken member ≡ Some entry) × (entry.digest ≡ digest))

pub record Agrees (admits : Proposed → Bool) (IsTold : OrderMessage → Type 0) (s : Sight) : Type 0 where
  -- an entry that may be echoed has been, and the echo was told
  pub echoed : (entry : Proposed) → MayBeEchoed admits s entry →
      (own echo_said s ≡ Some entry.digest) × IsTold (message.Echo (open_slot s) s.view entry.digest)
  -- a digest that 2f+1 members echoed in the view was confirmed, and that was told
  pub confirmed : (digest : List ℕ) → 2 * s.f + 1 ≤ votes s.f ((seen_now s).echo s.view) digest →
      (own confirm_said s ≡ Some digest) × IsTold (message.Confirm (open_slot s) s.view digest)
  -- below the last slot, a slot isn't open in which 2f+1 members confirmed a digest of which an entry is known
  pub chosen : open_slot s < last_slot → (view : ℕ) (digest : List ℕ) → view < s.views
      → 2 * s.f + 1 ≤ votes s.f ((seen_now s).confirm view) digest → IsProposed s digest ⊎ EntryIsDone s digest → ⊥

-- what the order of a node sees, the log being what the node has executed: so the open slot is the next to execute
abbrev pub sight_at : Site OrderMessage → List (Happening OrderMessage) → NodeId → Sight
sight_at site world i =
    let seen = sight (view_of site world i).member in
    record seen { log = proposed_in site (slots_done (executed_by i world)) }

-- So it is of the order of each honest node, and what is told was sent to each other member.
abbrev pub AllAgree : Site OrderMessage → List (Happening OrderMessage) → Type 0
AllAgree site world =
    (i : NodeId) → is_honest site i ≡ true →
    Agrees (admits_proposed site (view_of site world i)) (IsSentToAll site i (signs_at i world)) (sight_at site world i)
