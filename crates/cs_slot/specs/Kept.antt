-- What a slot keeps, and what that shows.
use Rattle.std.specs.Prelude.{◌≡◌, ℕ, ◌==◌, ◌≤◌, ◌<◌, nat_lt, ◌&&◌, Bool, true, false, List, Option, Some, None, IsSome, slice_index_or}
use Rattle.std.specs.Map.{lookup}
use Rattle.std.specs.BTreeMap.{is_at}
use Rattle.std.specs.Ordering.{nat_cmp}
use Rattle.std.specs.Cmp.Lexicographic.{slice_cmp}
use Rattle.cs_order.specs.declared.proposed.Proposed.{Proposed}
use Rattle.cs_order.specs.Counts.{when}
use Rattle.cs_base.specs.Options.{or_else}
use Rattle.cs_order.specs.Limits.{view_bound}
use Rattle.cs_order_rules.specs.Slot.{Seen, quorum, with_digest}

-- what each member said in a view
abbrev pub Row : Type 0
Row = List (Option (List ℕ))

-- rows by view
abbrev pub Rows : Type 0
Rows = List (ℕ × Row)

pub record KeptSlot : Type 0 where
  pub f : ℕ
  pub n : ℕ
  pub me : ℕ
  pub view : ℕ
  pub proposals : List (ℕ × Proposed)  -- by view
  pub echoes : Rows
  pub confirms : Rows
  pub dones : List (ℕ × Proposed)  -- by member

-- what a member said
abbrev pub said_in : Row → ℕ → Option (List ℕ)
said_in row member = slice_index_or row member None

abbrev pub said_if : Option Row → ℕ → Option (List ℕ)
said_if None member = None
said_if (Some row) member = said_in row member

-- what a member said in a view
abbrev pub said_in_view : Rows → ℕ → ℕ → Option (List ℕ)
said_in_view rows view member = said_if (lookup (is_at (nat_cmp view)) rows) member

-- the entry of a view, or of a member
abbrev pub entry_kept : List (ℕ × Proposed) → ℕ → Option Proposed
entry_kept entries key = lookup (is_at (nat_cmp key)) entries

abbrev pub seen_in : KeptSlot → Seen
seen_in k = record {
  f = k.f;
  n = k.n;
  me = k.me;
  view = k.view;
  views = view_bound;
  proposal = entry_kept k.proposals;
  echo = said_in_view k.echoes;
  confirm = said_in_view k.confirms;
  done = entry_kept k.dones;
}

-- Nothing was taken.
abbrev pub none_seen : ℕ → ℕ → ℕ → Seen
none_seen f n me = record {
  f = f;
  n = n;
  me = me;
  view = 0;
  views = view_bound;
  proposal = λ view. None;
  echo = λ view member. None;
  confirm = λ view member. None;
  done = λ member. None;
}

-- the lookup with one more vote, where it is the first
abbrev pub lookup_with_vote : Bool → (ℕ → ℕ → Option (List ℕ)) → ℕ → ℕ → List ℕ → ℕ → ℕ → Option (List ℕ)
lookup_with_vote true said view member digest v m = or_else (said v m) (when ((view == v) && (member == m)) (Some digest))
lookup_with_vote false said view member digest v m = said v m

abbrev pub with_entry : Bool → (ℕ → Option Proposed) → ℕ → Proposed → ℕ → Option Proposed
with_entry true said key entry k = or_else (said k) (when (key == k) (Some entry))
with_entry false said key entry k = said k

-- Seen with one more message, where it is the first.
abbrev pub with_proposal : Bool → Seen → ℕ → Proposed → Seen
with_proposal fresh s view entry = record s { proposal = with_entry fresh s.proposal view entry }

abbrev pub with_echo : Bool → Seen → ℕ → ℕ → List ℕ → Seen
with_echo fresh s view member digest = record s { echo = lookup_with_vote fresh s.echo view member digest }

abbrev pub with_confirm : Bool → Seen → ℕ → ℕ → List ℕ → Seen
with_confirm fresh s view member digest = record s { confirm = lookup_with_vote fresh s.confirm view member digest }

abbrev pub with_done : Bool → Seen → ℕ → Proposed → Seen
with_done fresh s member entry = record s { done = with_entry fresh s.done member entry }

-- a later view
abbrev pub in_later : ℕ → Seen → Seen
in_later view s = record s { view = view }

-- from this view on the member itself confirmed nothing, and no 2f+1 members agree
abbrev pub NothingFrom : ℕ → ℕ → ℕ → Rows → Type 0
NothingFrom view f me confirms =
    (v : ℕ) → view ≤ v → v < view_bound
    → (said_in_view confirms v me ≡ None) × (quorum f (said_in_view confirms v) ≡ None)

-- The views in which digests were proposed first.
abbrev pub Firsts : Type 0
Firsts = List (List ℕ × ℕ)

abbrev pub first_in : Firsts → List ℕ → Option ℕ
first_in firsts digest = lookup (is_at (slice_cmp nat_cmp digest)) firsts

-- it is the least view in which the digest was proposed
abbrev pub IsFirst : List ℕ → List (ℕ × Proposed) → Option ℕ → Type 0
IsFirst digest proposals None =
    (v : ℕ) → v < view_bound → with_digest digest (entry_kept proposals v) ≡ None
IsFirst digest proposals (Some first) =
    (first < view_bound) × (IsSome (with_digest digest (entry_kept proposals first)))
    × ((v : ℕ) → v < first → with_digest digest (entry_kept proposals v) ≡ None)

abbrev pub AreFirsts : Firsts → List (ℕ × Proposed) → Type 0
AreFirsts firsts proposals = (digest : List ℕ) → IsFirst digest proposals (first_in firsts digest)

-- a view is before that of the digest, if there is one, and is one of those that there are
abbrev pub comes_first : ℕ → Option ℕ → Bool
comes_first view None = nat_lt view view_bound
comes_first view (Some first) = nat_lt view first
