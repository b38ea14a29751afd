-- What a member keeps of its shard's order, and when that mirrors what it sees.
use Rattle.std.specs.Prelude.{◌≡◌, ℕ, ◌+◌, ◌*◌, ◌≤◌, ◌<◌, min, Bool, true, false, if◌then◌else◌, List, [], ◌∷◌, ◌++◌, length, Option, Some, None}
use Rattle.cs_log.specs.declared.replica.TheConstants.{LONGEST_WAIT}
use Rattle.cs_order.specs.Limits.{last_slot, view_bound, rest_at}
use Rattle.cs_base.specs.Lists.{IsIn}
use Rattle.cs_order.specs.Kept.{KeepsFrom}
use Rattle.cs_order.specs.declared.proposed.Proposed.{Proposed}
use Rattle.cs_order.specs.declared.answers.Outgoing.{Outgoing}
use Rattle.cs_order.specs.declared.answers.Took.{Took}
use Rattle.cs_order.specs.declared.answers.Took.TheVariants.{Taken, Old, Far, Leader, Repeat}
use Rattle.cs_order_rules.specs.declared.message.OrderMessage.{OrderMessage}
use Rattle.cs_order_rules.specs.declared.message.OrderMessage.TheVariants as message
use Rattle.cs_order_rules.specs.Facts.{Sight, open_slot}
use Rattle.cs_order_rules.specs.Rules.{change_told, is_slot_over, wait_grows}
use Rattle.cs_order_law.specs.Terms.{IsWithinReach}
use Rattle.cs_order_open.specs.Shows.{KeptOpenSlot, ShowsSlot, with_fact}
use Rattle.cs_order_open.specs.Look.{look_of, left_by}
use Rattle.cs_log.specs.Later.{ShowLater}
use Rattle.cs_log.specs.declared.replica.Replica.{Replica}

-- a log that is kept from a slot on
pub record KeptEntries : Type 0 where
  pub first : ℕ
  pub entries : List Proposed

-- the first slot that isn't chosen
abbrev pub next_slot : KeptEntries → ℕ
next_slot log = log.first + length log.entries

pub record KeptReplica : Type 0 where
  pub f : ℕ
  pub me : ℕ
  pub log : KeptEntries  -- the entries chosen
  pub view : ℕ
  pub wait : ℕ
  pub current : KeptOpenSlot  -- the open slot
  pub later : List KeptOpenSlot  -- the slots above it, as far as something of them was taken

abbrev pub kept : Replica → KeptReplica
kept replica = record {
  f = replica.f;
  me = replica.me;
  log = record { first = replica.log.first; entries = replica.log.entries.items };
  view = replica.view;
  wait = replica.wait;
  current = replica.current;
  later = replica.later.items;
}

-- a wait counts no further: no view waits for more ticks
abbrev pub longest_wait : ℕ
longest_wait = LONGEST_WAIT

-- What is kept is what the rules look at, the log from a slot on.
pub record Mirrors (k : KeptReplica) (s : Sight) : Type 0 where
  pub f : k.f ≡ s.f
  pub me : k.me ≡ s.me
  pub log : KeepsFrom k.log.first k.log.entries s.log
  pub view : k.view ≡ s.view
  pub wait : k.wait ≡ min s.wait longest_wait
  pub views : s.views ≡ view_bound
  pub few : s.f ≤ 5
  pub member : s.me ≤ 3 * s.f
  pub short : open_slot s ≤ last_slot
  pub small : s.view < view_bound
  pub shows : ShowsSlot k.current s (open_slot s) s.view
  pub later : ShowLater k.later s (open_slot s + 1)
  pub within : (m : OrderMessage) → IsIn (s.me, m) s.taken → IsWithinReach s m

-- at first nothing was done
abbrev pub at_first : ℕ → ℕ → Sight
at_first f me = record { f = f; me = me; taken = []; log = []; view = 0; wait = 0; views = view_bound }

-- it mirrors what some deeds came to
abbrev pub IsSeen : KeptReplica → Type 0
IsSeen k = (s : Sight) × Mirrors k s

-- What the member sees after a call.
abbrev pub after_taking : Took → Sight → ℕ → OrderMessage → Sight
after_taking Taken s from m = with_fact s from m
after_taking Old s from m = s
after_taking Far s from m = s
after_taking Leader s from m = s
after_taking Repeat s from m = s

abbrev pub if_fresh : Bool → Sight → ℕ → OrderMessage → Sight
if_fresh true s from m = with_fact s from m
if_fresh false s from m = s

abbrev pub said : Sight → OrderMessage → Sight
said s m = with_fact s s.me m

abbrev pub sight_with_view : Sight → ℕ → Sight
sight_with_view s view = record {
  f = s.f;
  me = s.me;
  taken = (s.me, message.Change (open_slot s) view (change_told s)) ∷ s.taken;
  log = s.log;
  view = view;
  wait = 0;
  views = s.views;
}

abbrev pub chose : Sight → Proposed → Sight
chose s e = record { f = s.f; me = s.me; taken = s.taken; log = s.log ++ e ∷ []; view = 0; wait = 0; views = s.views }

abbrev pub after_step : Sight → Option Proposed → Option ℕ → Option (List ℕ) → Sight
after_step s (Some e) enter confirm = chose s e
after_step s None (Some view) confirm = sight_with_view s view
after_step s None None (Some digest) = said s (message.Confirm (open_slot s) s.view digest)
after_step s None None None = s

abbrev pub after_echo : Sight → Option Proposed → Sight
after_echo s None = s
after_echo s (Some e) = said s (message.Echo (open_slot s) s.view e.digest)

abbrev pub waited : Sight → Sight
waited s = record s { wait = s.wait + 1 }

abbrev pub after_tick : Sight → Bool → Sight
after_tick s due = if is_slot_over s due then sight_with_view s (s.view + 1) else (if wait_grows s due then waited s else s)

-- how many more of a caller's turns there may be
abbrev pub kept_rest : KeptReplica → ℕ
kept_rest k = rest_at (next_slot k.log) k.view (left_by (look_of k.current))

-- what a member answers, and hands out with that
abbrev pub RepliedWith : Option (Outgoing OrderMessage) → Bool
    → List (Outgoing OrderMessage) → List (Outgoing OrderMessage) → Type 0
RepliedWith None answer old new = (answer ≡ false) × (new ≡ old)
RepliedWith (Some out) answer old new = (answer ≡ true) × (new ≡ old ++ out ∷ [])
