-- What is kept of the datagrams that were sent.
use Rattle.std.specs.Prelude.{◌≡◌, ℕ, zero, suc, ◌-◌, ◌≤◌, nat_le, Bool, true, ◌&&◌, if◌then◌else◌, List, [], ◌∷◌, length, drop, replicate, Option, Some, None, is_some, slice_set, bytes_eq}
use Rattle.std.specs.Map.{lookup}
use Rattle.cs_base.specs.declared.node_id.NodeId.{NodeId}
use Rattle.cs_base.specs.NodeId.{same_name}
use Rattle.cs_node_rules.specs.Lines.{Parcel}
use Rattle.cs_replay_rules.specs.Play.{arrived, size_of, most_sent}

-- the datagram of this number, if there is one, came to its addressee
abbrev pub parcels_with_arrived : ℕ → Option Parcel → List Parcel → List Parcel
parcels_with_arrived number None parcels = parcels
parcels_with_arrived number (Some parcel) parcels = slice_set parcels number (arrived parcel)

-- exactly this datagram
abbrev pub is_parcel : NodeId → NodeId → List ℕ → Parcel → Bool
is_parcel from to bytes parcel = same_name parcel.from from && (same_name parcel.to to && bytes_eq parcel.bytes bytes)

-- the last 32 bytes of a datagram, where its tag stands; zeros, where there are fewer
abbrev pub tail_of : List ℕ → List ℕ
tail_of bytes = if nat_le 32 (length bytes) then drop (length bytes - 32) bytes else replicate 32 0

-- a number is noted under the tail
abbrev pub IsNoted : List (List ℕ × ℕ) → List ℕ → Type 0
IsNoted numbers tail = is_some (lookup (bytes_eq tail) numbers) ≡ true

abbrev pub AllNoted : List (List ℕ × ℕ) → List Parcel → Type 0
AllNoted numbers [] = Unit {0}
AllNoted numbers (parcel ∷ parcels) = IsNoted numbers (tail_of parcel.bytes) × AllNoted numbers parcels

-- so many of the first came to their addressees
abbrev pub HaveArrived : ℕ → List Parcel → Type 0
HaveArrived zero parcels = Unit {0}
HaveArrived (suc count) [] = ⊥
HaveArrived (suc count) (parcel ∷ parcels) = (parcel.arrived ≡ true) × HaveArrived count parcels

-- the bytes of all of them, which are not too many; how many of the first came to their addressees; and, for each tail,
-- a number
pub record IsKeptPost (parcels : List Parcel) (size delivered : ℕ) (numbers : List (List ℕ × ℕ)) : Type 0 where
  pub counted : size ≡ size_of parcels
  pub within : size ≤ most_sent
  pub front : HaveArrived delivered parcels
  pub noted : AllNoted numbers parcels
