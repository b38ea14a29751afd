-- An event that a replay takes in is one that is played.
use Rattle.std.proofs.Common.{◌≡◌, ℕ, zero, suc, ◌+◌, ◌<◌, ◌≤◌, nat_lt, nat_le, Bool, true, false, cond, List, [], ◌∷◌, ◌++◌, length, drop, slice_get, slice_set, Some, refl, ap, sym, subst, ◌∙◌, append_assoc, arith}
use Rattle.cs_base.specs.declared.config.Config.{Config}
use Rattle.cs_base.specs.declared.node_id.NodeId.{NodeId}
use Rattle.cs_tx_types.specs.declared.transaction.Tx.{Tx}
use Rattle.cs_order.specs.Deeds.{Member, Machine}
use Rattle.cs_node_rules.specs.Site.{Input, Datagram, Carriers, Site, signs_of}
use Rattle.cs_node_rules.specs.Signs.{Sign}
use Rattle.cs_node_rules.specs.Trail.{event_marks}
use Rattle.cs_replay_rules.specs.Aborts.{aborted_by}
use Rattle.cs_node_rules.specs.World.{Execution, view_of, happens, firsts_of}
use Rattle.cs_node_rules.specs.Ready.{AllQuiet}
use Rattle.cs_node_rules.specs.Lines.{Parcel, parcels_of, sign_lines, if_traced}
use Rattle.cs_replay_rules.specs.Lines.{at_line, sent_lines}
use Rattle.cs_replay_rules.specs.Play.{Played, Goes, Stops, size_of, most_events, most_sent, plays, within, occurs, arrived, with_arrived, comes}
use Rattle.cs_node.specs.declared.outs.Made.{Made}
use Rattle.cs_node.specs.Notes.{notes_of}
use Rattle.cs_node.specs.declared.node_core.Core.{Core}
use Rattle.cs_replay_play.specs.declared.play.Replay.{Replay}
use Rattle.cs_replay_play.specs.Kept.{KeptHistory, KeepsHistory}
use Rattle.cs_replay_play.specs.Logged.{AllLogged}
use Rattle.cs_replay_play.specs.Told.{noted_firsts, noted_aborted, told_text, IsTold}
use Rattle.cs_replay_play.specs.Voicing.{Voicing}
use Rattle.cs_replay_play.specs.Standing.{Setting, site_in, AllStand, HasNode, Delivered, Rests, Stands}
use Rattle.cs_replay_play.specs.Ends.{parcels_from}
use Rattle.cs_wire.specs.declared.input.Out.{Out}
use Rattle.cs_replay_play.proofs.Courses.{drop-front}
use Rattle.cs_replay_play.proofs.Views.{core-quiet, view-me}
use Rattle.cs_replay_play.proofs.Notes.{text-noted, firsts-noted, aborted-noted, parcels-noted}

lt-true : (a b : ℕ) → a < b → nat_lt a b ≡ true
lt-true a b h = grind arith

lt-false : (a b : ℕ) → b ≤ a → nat_lt a b ≡ false
lt-false a b h = grind arith

le-true : (a b : ℕ) → a ≤ b → nat_le a b ≡ true
le-true a b h = grind arith

le-false : (a b : ℕ) → b < a → nat_le a b ≡ false
le-false a b h = grind arith

module _ {M : Type 0} (site : Site M) (traced : Bool) (line : ℕ) (to : NodeId) (input : Input) (p : Played M) where
  abbrev next : Played M
  next = plays site traced line to input p

  abbrev signs : List Sign
  signs = signs_of (event_marks site (view_of site p.world to) input)

  pub too-many : most_events ≤ length p.world → occurs site traced line to input p ≡ Stops p line
  too-many h = ap (λ b. cond b (within line p next) (Stops p line)) (lt-false (length p.world) most_events h)

  goes : length p.world < most_events → size_of next.parcels ≤ most_sent → occurs site traced line to input p ≡ Goes next
  goes few small =
      ap (λ b. cond b (within line p next) (Stops p line)) (lt-true (length p.world) most_events few)
      ∙ ap (λ b. cond b (Goes next) (Stops p line)) (le-true (size_of next.parcels) most_sent small)

  pub too-much : length p.world < most_events → most_sent < size_of (p.parcels ++ parcels_of site.net to signs) → occurs site traced line to input p ≡ Stops p line
  too-much few large =
      ap (λ b. cond b (within line p next) (Stops p line)) (lt-true (length p.world) most_events few)
      ∙ ap (λ b. cond b (Goes next) (Stops p line)) (le-false (size_of next.parcels) most_sent large)

-- what stays the same is true of what is equal
rests-same : (s : Setting) (a b : Config) (v w : Voicing) → Rests s a.shards v → b ≡ a → w ≡ v → Rests s b.shards w
rests-same s a b v w rests config voices =
    subst (λ (c : Config). Rests s c.shards w) (sym config) (subst (λ (x : Voicing). Rests s a.shards x) (sym voices) rests)

module _ {O J M : Type 0} (stands : O → Member M → Type 0) (approves : J → Tx → Bool) (rules : Machine M) (carrier : Carriers M) (s : Setting) (r : Replay O J M) (p : Played M) (line : ℕ) (to : NodeId) (input : Input)
    (st : Stands stands approves rules carrier s r p) (has : HasNode s.names s.count to) where
  abbrev here : Site M
  here = site_in rules carrier s

  below : to.shard < r.history.config.shards
  below = subst (λ (name : NodeId). name.shard < r.history.config.shards) has.2 (st.rests.shards has.0 has.1)

  -- what was sent, by what was made
  pub sent-is : (made : Made) (cores' : List (Core O J M)) → Delivered stands approves here s.names cores' p.world to input made
      → r.post ++ parcels_from to made.outs ≡ p.parcels ++ parcels_of here.net to (signs here s.traced line to input p)
  sent-is made cores' d =
      ap (λ parcels. parcels ++ parcels_from to made.outs) st.parcels
      ∙ ap (λ parcels. p.parcels ++ parcels) (ap (parcels_from to) d.outs ∙ parcels-noted here.net to (signs here s.traced line to input p))

  -- what was printed
  text-is : (made : Made) (cores' : List (Core O J M)) → Delivered stands approves here s.names cores' p.world to input made → (text : List ℕ)
      → text ≡ told_text r.traced r.events line to made.notes (length r.post) (parcels_from to made.outs)
      → p.text ++ text ≡ (plays here s.traced line to input p).text
  text-is made cores' d text is =
      ap (λ t. p.text ++ t)
      (is
      ∙ ap (λ traced. told_text traced r.events line to made.notes (length r.post) (parcels_from to made.outs)) st.traced
      ∙ ap (λ n. told_text s.traced n line to made.notes (length r.post) (parcels_from to made.outs)) st.events
      ∙ ap (λ notes. told_text s.traced (length p.world) line to notes (length r.post) (parcels_from to made.outs)) d.notes
      ∙ ap (λ (parcels : List Parcel). told_text s.traced (length p.world) line to (notes_of (signs here s.traced line to input p)) (length parcels) (parcels_from to made.outs)) st.parcels
      ∙ ap (λ sent. told_text s.traced (length p.world) line to (notes_of (signs here s.traced line to input p)) (length p.parcels) sent) (ap (parcels_from to) d.outs ∙ parcels-noted here.net to (signs here s.traced line to input p))
      ∙ ap (λ lines. (if_traced s.traced (at_line (length p.world) line) ++ lines) ++ if_traced s.traced (sent_lines (length p.parcels) (parcels_of here.net to (signs here s.traced line to input p))))
      (text-noted r.history.config s.setup st.kept.deploys s.traced to (signs here s.traced line to input p))
      ∙ append_assoc (if_traced s.traced (at_line (length p.world) line)) (sign_lines s.setup s.traced to (signs here s.traced line to input p)) (if_traced s.traced (sent_lines (length p.parcels) (parcels_of here.net to (signs here s.traced line to input p)))))

  -- the event was taken in
  pub taken : (r' : Replay O J M) (made : Made) (text : List ℕ) → Delivered stands approves here s.names r'.cores.items p.world to input made
      → length r'.cores.items ≡ length r.cores.items
      → AllLogged here s.names s.count r'.logs.items (happens here to input p.world)
      → r'.post ≡ r.post ++ parcels_from to made.outs → size_of r'.post ≤ most_sent
      → IsTold to made.notes r.history r'.history
      → r'.voices ≡ r.voices → r'.traced ≡ r.traced → r'.events ≡ r.events + 1
      → text ≡ told_text r.traced r.events line to made.notes (length r.post) (parcels_from to made.outs)
      → r.events < most_events
      → (q : Played M) × (occurs here s.traced line to input p ≡ Goes q) × Stands stands approves rules carrier s r' q × (q.text ≡ p.text ++ text)
  taken r' made text d count logged posted small told voices traced events is few =
      let sent : r'.post ≡ (plays here s.traced line to input p).parcels = posted ∙ sent-is made r'.cores.items d in
      let size : size_of (plays here s.traced line to input p).parcels ≤ most_sent = subst (λ (parcels : List Parcel). size_of parcels ≤ most_sent) sent small in
      let fewer : length p.world < most_events = subst (λ n. n < most_events) st.events few in (
        plays here s.traced line to input p,
        goes here s.traced line to input p fewer size,
        record {
          rests = rests-same s r.history.config r'.history.config r.voices r'.voices st.rests told.config voices;
          traced = traced ∙ st.traced;
          count = count ∙ st.count;
          all = d.all;
          logs = logged;
          kept =
              subst (λ (firsts : List Execution). KeepsHistory s.setup firsts r'.history)
              (ap (λ ns. noted_firsts to.shard ns (firsts_of p.world)) d.notes ∙ firsts-noted to.shard (firsts_of p.world) (signs here s.traced line to input p))
              (told.kept s.setup (firsts_of p.world) below st.kept);
          aborted =
              told.aborted
              ∙ ap (λ ns. noted_aborted ns r.history.aborted) d.notes
              ∙ aborted-noted r.history.config s.setup st.kept.deploys r.history.aborted (signs here s.traced line to input p)
              ∙ ap (aborted_by s.setup (signs here s.traced line to input p)) st.aborted;
          parcels = sent;
          within = size;
          events = let same : length p.world + 1 ≡ length (plays here s.traced line to input p).world = omega arith in events ∙ ap (λ n. n + 1) st.events ∙ same;
        },
        sym (text-is made r'.cores.items d text is),
      )

  -- the same, of what is at hand: what was told was printed, and then taken in by the log of the node
  pub taken-by : (told after : Replay O J M) (cores' : _) (logs : _) (post' : List Parcel) (made : Made) (text : List ℕ) (number : ℕ) (outs : List Out)
      → told ≡ record { cores = cores'; logs = logs; history = told.history; post = post'; voices = r.voices; events = r.events; traced = r.traced }
      → after ≡ record { cores = told.cores; logs = after.logs; history = told.history; post = told.post; voices = told.voices; events = told.events + 1; traced = told.traced }
      → Delivered stands approves here s.names cores'.items p.world to input made → length cores'.items ≡ length r.cores.items
      → AllLogged here s.names s.count after.logs.items (happens here to input p.world) → outs ≡ made.outs
      → (post' ≡ r.post ++ parcels_from to outs) × (size_of r.post ≤ most_sent → size_of post' ≤ most_sent)
      → IsTold to made.notes r.history told.history → number ≡ length r.post
      → text ≡ told_text r.traced r.events line to made.notes number (drop number post') → r.events < most_events
      → (q : Played M) × (occurs here s.traced line to input p ≡ Goes q) × Stands stands approves rules carrier s after q × (q.text ≡ p.text ++ text)
  taken-by told after cores' logs post' made text number outs rest end d count logged are sent kept at is few =
      let posted : post' ≡ r.post ++ parcels_from to made.outs = sent.0 ∙ ap (λ os. r.post ++ parcels_from to os) are in
      let small : size_of post' ≤ most_sent = sent.1 (subst (λ (parcels : List Parcel). size_of parcels ≤ most_sent) (sym st.parcels) st.within) in
      let behind : drop number post' ≡ parcels_from to made.outs = ap (λ n. drop n post') at ∙ ap (λ parcels. drop (length r.post) parcels) posted ∙ drop-front r.post (parcels_from to made.outs) in
      let cores = ap (λ (x : Replay O J M). x.cores) end ∙ ap (λ (x : Replay O J M). x.cores) rest in
      let post = ap (λ (x : Replay O J M). x.post) end ∙ ap (λ (x : Replay O J M). x.post) rest in
      taken after made text
      (subst (λ cs. Delivered stands approves here s.names cs.items p.world to input made) (sym cores) d)
      (ap (λ cs. length cs.items) cores ∙ count)
      logged
      (post ∙ posted)
      (subst (λ (parcels : List Parcel). size_of parcels ≤ most_sent) (sym post) small)
      (subst (λ (h : KeptHistory). IsTold to made.notes r.history h) (sym (ap (λ (x : Replay O J M). x.history) end)) kept)
      (ap (λ (x : Replay O J M). x.voices) end ∙ ap (λ (x : Replay O J M). x.voices) rest)
      (ap (λ (x : Replay O J M). x.traced) end ∙ ap (λ (x : Replay O J M). x.traced) rest)
      (ap (λ (x : Replay O J M). x.events) end ∙ ap (λ (x : Replay O J M). x.events + 1) rest)
      (is ∙ ap (λ n. told_text r.traced r.events line to made.notes n (drop number post')) at ∙ ap (λ parcels. told_text r.traced r.events line to made.notes (length r.post) parcels) behind)
      few

-- ---- a delivery

-- a replay in which a datagram has arrived
module _ {O J M : Type 0} (stands : O → Member M → Type 0) (approves : J → Tx → Bool) (rules : Machine M) (carrier : Carriers M) (s : Setting) (r r' : Replay O J M) (p : Played M) (number : ℕ) (parcel : Parcel) where
  pub arrived-stands : Stands stands approves rules carrier s r p → size_of (with_arrived number parcel p).parcels ≡ size_of p.parcels
      → r'.cores ≡ r.cores → r'.logs ≡ r.logs → r'.history ≡ r.history → r'.voices ≡ r.voices → r'.traced ≡ r.traced → r'.events ≡ r.events
      → r'.post ≡ (with_arrived number parcel p).parcels → Stands stands approves rules carrier s r' (with_arrived number parcel p)
  arrived-stands st size cores logs history voices traced events post = record {
    rests = rests-same s r.history.config r'.history.config r.voices r'.voices st.rests (ap (λ (h : KeptHistory). h.config) history) voices;
    traced = traced ∙ st.traced;
    count = ap (λ cs. length cs.items) cores ∙ st.count;
    all = subst (λ cs. AllStand stands approves (site_in rules carrier s) s.names cs.items p.world) (sym cores) st.all;
    logs = subst (λ ls. AllLogged (site_in rules carrier s) s.names s.count ls.items p.world) (sym logs) st.logs;
    kept = subst (λ (h : KeptHistory). KeepsHistory s.setup (firsts_of p.world) h) (sym history) st.kept;
    aborted = ap (λ (h : KeptHistory). h.aborted) history ∙ st.aborted;
    parcels = post;
    within = subst (λ n. n ≤ most_sent) (sym size) st.within;
    events = events ∙ st.events;
  }

-- ---- addressees

module _ {M : Type 0} (site : Site M) (traced : Bool) (line number : ℕ) (parcel : Parcel) (p : Played M) where
  -- what comes to another than an honest node is no event
  pub unread : site.net.is_honest parcel.to ≡ false → comes site traced line parcel p ≡ Goes p
  unread other = ap (λ b. cond b (occurs site traced line parcel.to (Datagram parcel.bytes) p) (Goes p)) other

  pub read : site.net.is_honest parcel.to ≡ true → comes site traced line parcel p ≡ occurs site traced line parcel.to (Datagram parcel.bytes) p
  read is = ap (λ b. cond b (occurs site traced line parcel.to (Datagram parcel.bytes) p) (Goes p)) is

-- who has no core is not honest, and who has one is
pub no-node : {O J M : Type 0} (stands : O → Member M → Type 0) (approves : J → Tx → Bool) (rules : Machine M) (carrier : Carriers M) (s : Setting) (r : Replay O J M) (p : Played M) (name : NodeId) → Stands stands approves rules carrier s r p
    → ((i : ℕ) → i < length r.cores.items → (view_of (site_in rules carrier s) p.world (s.names i)).me ≡ name → ⊥) → s.net.is_honest name ≡ false
no-node stands approves rules carrier s r p name st none = by (s.net.is_honest name) refl
  where
    by : (b : Bool) → s.net.is_honest name ≡ b → s.net.is_honest name ≡ false
    by true is =
        let has = (st.rests.honest name).0 is in
        absurd (none has.0 (subst (λ n. has.0 < n) (sym st.count) has.1) (view-me (site_in rules carrier s) p.world (s.names has.0) ∙ has.2))
    by false is = is

pub a-node : {O J M : Type 0} (stands : O → Member M → Type 0) (approves : J → Tx → Bool) (rules : Machine M) (carrier : Carriers M) (s : Setting) (r : Replay O J M) (p : Played M) (name : NodeId) (place : ℕ) → Stands stands approves rules carrier s r p
    → place < length r.cores.items → (view_of (site_in rules carrier s) p.world (s.names place)).me ≡ name → HasNode s.names s.count name
a-node stands approves rules carrier s r p name place st within is =
    (place, subst (λ n. place < n) st.count within, sym (view-me (site_in rules carrier s) p.world (s.names place)) ∙ is)

-- the places of a post after an arrival
pub size-arrived : (parcels : List Parcel) (k : ℕ) (parcel : Parcel) → slice_get parcels k ≡ Some parcel → size_of (slice_set parcels k (arrived parcel)) ≡ size_of parcels
size-arrived [] k parcel is = refl
size-arrived (first ∷ parcels) zero parcel is =
    let same : first ≡ parcel = let q : Some first ≡ Some parcel = is in cc in
    ap (λ p. length p.bytes + size_of parcels) (sym same)
size-arrived (first ∷ parcels) (suc k) parcel is = ap (λ n. length first.bytes + n) (size-arrived parcels k parcel is)

-- no rule applies at an honest node
pub all-quiet : {O J M : Type 0} (stands : O → Member M → Type 0) (approves : J → Tx → Bool) (rules : Machine M) (carrier : Carriers M) (s : Setting) (r : Replay O J M) (p : Played M) → Stands stands approves rules carrier s r p
    → AllQuiet (site_in rules carrier s) p.world
all-quiet stands approves rules carrier s r p st = λ name honest.
    core-quiet stands approves (site_in rules carrier s) s.names r.cores.items p.world name st.all
    (subst (λ n. HasNode s.names n name) (sym st.count) ((st.rests.honest name).0 honest))
