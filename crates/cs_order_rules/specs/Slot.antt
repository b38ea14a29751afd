-- One slot, as one member sees it, and the rules that look at it alone.
use Rattle.std.specs.Prelude.{ℕ, ◌+◌, ◌*◌, nat_le, nat_lt, Bool, false, not, ◌&&◌, List, Option, Some, None, is_some, bytes_eq}
use Rattle.cs_order.specs.declared.proposed.Proposed.{Proposed}
use Rattle.cs_order.specs.Counts.{count_below, first_below, last_found, when}
use Rattle.cs_base.specs.Options.{or_else}
use Rattle.cs_order.specs.Limits.{last_slot}

-- What was taken in the slot: by view, and by view or member and then member.
pub record Seen : Type 0 where
  pub f : ℕ
  pub n : ℕ
  pub me : ℕ
  pub view : ℕ
  pub views : ℕ  -- no view is this or above
  pub proposal : ℕ → Option Proposed
  pub echo : ℕ → ℕ → Option (List ℕ)
  pub confirm : ℕ → ℕ → Option (List ℕ)
  pub done : ℕ → Option Proposed

-- how many members said the digest
abbrev pub is_digest : List ℕ → Option (List ℕ) → Bool
is_digest digest None = false
is_digest digest (Some said) = bytes_eq said digest

abbrev pub votes : ℕ → (ℕ → Option (List ℕ)) → List ℕ → ℕ
votes f said digest = count_below (3 * f + 1) (λ member. is_digest digest (said member))

-- the digest that 2f+1 members said
abbrev pub if_enough : ℕ → (ℕ → Option (List ℕ)) → Option (List ℕ) → Option (List ℕ)
if_enough f said None = None
if_enough f said (Some digest) = when (nat_le (2 * f + 1) (votes f said digest)) (Some digest)

abbrev pub quorum : ℕ → (ℕ → Option (List ℕ)) → Option (List ℕ)
quorum f said = first_below (3 * f + 1) (λ member. if_enough f said (said member))

abbrev pub with_digest : List ℕ → Option Proposed → Option Proposed
with_digest digest None = None
with_digest digest (Some e) = when (bytes_eq e.digest digest) (Some e)

-- the taken proposal of the digest of least view
abbrev pub proposal_of : Seen → List ℕ → Option Proposed
proposal_of s digest = first_below s.views (λ view. with_digest digest (s.proposal view))

-- the entry of the Done of the least member that is done with the digest
abbrev pub done_with : Seen → List ℕ → Option Proposed
done_with s digest = first_below (3 * s.f + 1) (λ member. with_digest digest (s.done member))

-- Choose: the least view in which 2f+1 confirms agree on a digest of which an entry is known.
-- Its entry is that of the proposal of least view, or else that of the Done of the least member.
abbrev pub chosen_entry : Seen → Option (List ℕ) → Option Proposed
chosen_entry s None = None
chosen_entry s (Some digest) = or_else (proposal_of s digest) (done_with s digest)

abbrev pub confirmed_entry : Seen → ℕ → Option Proposed
confirmed_entry s view = chosen_entry s (quorum s.f (s.confirm view))

abbrev pub by_confirm : Seen → Option Proposed
by_confirm s = first_below s.views (confirmed_entry s)

-- or else the entry with which f+1 members are done
abbrev pub same_entry : Proposed → Proposed → Bool
same_entry a b = bytes_eq a.digest b.digest && bytes_eq a.bytes b.bytes

abbrev pub is_entry : Proposed → Option Proposed → Bool
is_entry e None = false
is_entry e (Some said) = same_entry said e

abbrev pub dones : Seen → Proposed → ℕ
dones s e = count_below (3 * s.f + 1) (λ member. is_entry e (s.done member))

abbrev pub if_done : Seen → Option Proposed → Option Proposed
if_done s None = None
if_done s (Some e) = when (nat_le (s.f + 1) (dones s e)) (Some e)

abbrev pub done_by : Seen → ℕ → Option Proposed
done_by s member = if_done s (s.done member)

abbrev pub by_done : Seen → Option Proposed
by_done s = first_below (3 * s.f + 1) (done_by s)

-- the last slot is never chosen
abbrev pub chosen : Seen → Option Proposed
chosen s = when (nat_lt s.n last_slot) (or_else (by_confirm s) (by_done s))

-- Confirm: the digest on which 2f+1 echoes of the view agree, unless the member has confirmed in it.
abbrev pub to_confirm : Seen → Option (List ℕ)
to_confirm s = when (not (is_some (s.confirm s.view s.me))) (quorum s.f (s.echo s.view))

-- the member's prepared pair of greatest view: what it confirmed last
abbrev pub in_view : ℕ → Option (List ℕ) → Option (ℕ × List ℕ)
in_view view None = None
in_view view (Some digest) = Some (view, digest)

abbrev pub prepared : Seen → Option (ℕ × List ℕ)
prepared s = last_found s.views (λ view. in_view view (s.confirm view s.me))
