-- What is injected, where it is forged and where it isn't.
use Rattle.std.proofs.Common.{◌≡◌, ℕ, ◌<◌, ◌≤◌, nat_lt, Bool, true, false, not, ◌||◌, cond, List, length, Some, None, Ok, Err, refl, ap, sym, ◌∙◌, arith}
use Rattle.cs_base.specs.declared.node_id.NodeId.{NodeId}
use Rattle.cs_ledger.specs.Ledger.{Bytes}
use Rattle.cs_wire.specs.Opened.{Opened}
use Rattle.cs_node_rules.specs.Net.{Net}
use Rattle.cs_node_rules.specs.Site.{Datagram, Site}
use Rattle.cs_node_rules.specs.World.{is_genuine, is_backed, was_sent}
use Rattle.cs_node_rules.specs.Lines.{Parcel}
use Rattle.cs_replay_rules.specs.Play.{Played, Course, Stops, Forges, most_events, plays, within, occurs, injects}
use Rattle.cs_node.specs.Speaking.{sender_of}
use Rattle.cs_replay_play.specs.Forging.{is_backed_by}

-- ---- who sent it

some-backed : (net : Net) (to : NodeId) (bytes : Bytes) (parcels : List Parcel) (opened : Opened) (from : NodeId) → Some from ≡ sender_of opened → is_backed_by net to bytes parcels from ≡ is_backed net to bytes parcels opened
some-backed net to bytes parcels (Ok said) from is =
    let same : from ≡ said.0 = let q : Some from ≡ Some said.0 = is in cc in
    ap (is_backed_by net to bytes parcels) same
some-backed net to bytes parcels (Err error) from is = let q : Some from ≡ None = is in absurd (cc)

none-backed : (net : Net) (to : NodeId) (bytes : Bytes) (parcels : List Parcel) (opened : Opened) → None ≡ sender_of opened → true ≡ is_backed net to bytes parcels opened
none-backed net to bytes parcels (Ok said) is = let q : None ≡ Some said.0 = is in absurd (cc)
none-backed net to bytes parcels (Err error) is = refl

module _ (net : Net) (to : NodeId) (bytes : Bytes) (parcels : List Parcel) where
  pub some-genuine : (from : NodeId) → Some from ≡ sender_of (net.opened to bytes) → is_backed_by net to bytes parcels from ≡ is_genuine net to bytes parcels
  some-genuine from is = some-backed net to bytes parcels (net.opened to bytes) from is

  pub none-genuine : None ≡ sender_of (net.opened to bytes) → true ≡ is_genuine net to bytes parcels
  none-genuine is = none-backed net to bytes parcels (net.opened to bytes) is

  -- what another than an honest node says needn't have been sent
  pub others-backed : (from : NodeId) → net.is_honest from ≡ false → true ≡ is_backed_by net to bytes parcels from
  others-backed from other = sym (ap (λ b. not b || was_sent from to bytes parcels) other)

  pub honest-backed : (from : NodeId) → net.is_honest from ≡ true → was_sent from to bytes parcels ≡ is_backed_by net to bytes parcels from
  honest-backed from honest = sym (ap (λ b. not b || was_sent from to bytes parcels) honest)

-- ---- the event

lt-true : (a b : ℕ) → a < b → nat_lt a b ≡ true
lt-true a b h = grind arith

lt-false : (a b : ℕ) → b ≤ a → nat_lt a b ≡ false
lt-false a b h = grind arith

module _ {M : Type 0} (site : Site M) (traced : Bool) (line : ℕ) (to : NodeId) (bytes : Bytes) (p : Played M) where
  abbrev given : Course M
  given = within line p (plays site traced line to (Datagram bytes) p)

  pub no-more : most_events ≤ length p.world → injects site traced line to bytes p ≡ Stops p line
  no-more h = ap (λ b. cond b (cond (is_genuine site.net to bytes p.parcels) given (Forges p line)) (Stops p line)) (lt-false (length p.world) most_events h)

  is-judged : (genuine : Bool) → length p.world < most_events → genuine ≡ is_genuine site.net to bytes p.parcels → injects site traced line to bytes p ≡ cond genuine given (Forges p line)
  is-judged genuine few is =
      ap (λ b. cond b (cond (is_genuine site.net to bytes p.parcels) given (Forges p line)) (Stops p line)) (lt-true (length p.world) most_events few)
      ∙ ap (λ b. cond b given (Forges p line)) (sym is)

  pub is-forged : (genuine : Bool) → length p.world < most_events → genuine ≡ is_genuine site.net to bytes p.parcels → genuine ≡ false → injects site traced line to bytes p ≡ Forges p line
  is-forged genuine few is lies = is-judged genuine few is ∙ ap (λ b. cond b given (Forges p line)) lies

  -- what is genuine is given as any datagram
  pub is-given : (genuine : Bool) → length p.world < most_events → genuine ≡ is_genuine site.net to bytes p.parcels → genuine ≡ true → occurs site traced line to (Datagram bytes) p ≡ injects site traced line to bytes p
  is-given genuine few is holds =
      ap (λ b. cond b given (Stops p line)) (lt-true (length p.world) most_events few)
      ∙ sym (is-judged genuine few is ∙ ap (λ b. cond b given (Forges p line)) holds)
