-- What the calls of a node make: marks, what these tell and say, and the view for which the node stands then.
use Rattle.std.specs.Prelude.{◌≡◌, ℕ, ◌-◌, ◌%◌, ◌<◌, ◌^◌, ◌==◌, Bool, true, false, if◌then◌else◌, List, [], ◌∷◌, ◌++◌, Option, Some, None}
use Rattle.cs_base.specs.declared.node_id.NodeId.{NodeId}
use Rattle.cs_order.specs.Deeds.{Cut, Member, did}
use Rattle.cs_tx_types.specs.declared.limits.TheConstants.{COVERED}
use Rattle.cs_check_rules.specs.Chain.{kept_slots}
use Rattle.cs_node_state.specs.Setup.{Setup}
use Rattle.cs_node_state.specs.Bench.{Bench}
use Rattle.cs_node_rules.specs.declared.cause.Cause.{Cause}
use Rattle.cs_node_rules.specs.Signs.{Sign, bench_after}
use Rattle.cs_node_rules.specs.Site.{Input, Mark, In, Site, View, view_after, signs_of}
use Rattle.cs_node_rules.specs.Trail.{turn_marks, settled, drops, event_marks}
use Rattle.cs_node.specs.declared.draft.Note.TheVariants as note
use Rattle.cs_node.specs.Drafts.{Draft}
use Rattle.cs_node.specs.declared.outs.Made.{Made}
use Rattle.cs_node.specs.Notes.{nothing_said, notes_of, outs_of, TellsSigns}

abbrev pub node_view : {M : Type 0} → NodeId → Bench → Member M → View M
node_view {M} me bench h = record { me = me; bench = bench; member = h }

-- these signs were made: of table and pool, and of what is told and said
pub record Makes (setup : Setup) (me : NodeId) (signs : List Sign)
    (old new : Bench) (draft draft' : Draft) : Type 0 where
  pub tells : TellsSigns signs draft draft'
  pub bench_is : new ≡ bench_after setup me.shard signs old

-- these marks were made, and told what they say
pub record MakesMarks {M : Type 0} (site : Site M) (marks : List (Mark M)) (v : View M)
    (old new : Draft) (After : View M → Type 0) : Type 0 where
  pub tells : TellsSigns (signs_of marks) old new
  pub after : After (view_after site marks v)

-- a member that has chosen so many slots: after every 16th it gives up those before the last 1,024
abbrev pub log_cut_at : {M : Type 0} → ℕ → Member M → Member M
log_cut_at {M} slots h = if slots % COVERED == 0 then did (Cut (slots - kept_slots)) h else h

-- one turn: the marks of the rule that applies, or nothing
abbrev pub TurnDone : {M : Type 0} → Site M → Option (List (Mark M)) → View M → Bool
    → Draft → Draft → (View M → Type 0) → Type 0
TurnDone {M} site None v went old new After = (went ≡ false) × (new ≡ old) × After v
TurnDone {M} site (Some fresh) v went old new After = (went ≡ true) × MakesMarks site fresh v old new After

-- the rules were applied until none applied
pub record Settles {M : Type 0} (site : Site M) (v : View M) (old new : Draft) (After : View M → Type 0) : Type 0 where
  pub marks : MakesMarks site (settled site (2 ^ 80) v) v old new After
  pub quiet : turn_marks site (view_after site (settled site (2 ^ 80) v) v) ≡ None

-- the same on the way: these marks were made, and so many turns are left
pub record Settling {M : Type 0} (site : Site M) (v : View M)
    (old now : Draft) (After : View M → Type 0) (rest : ℕ) : Type 0 where
  pub done : List (Mark M)
  pub left : ℕ
  pub goes_on : settled site (2 ^ 80) v ≡ settled site left (view_after site done v) ++ done
  pub marks : MakesMarks site done v old now After
  pub enough : rest < left

-- the marks of one event were made, and no rule applies then
pub record Drafts {M : Type 0} (site : Site M) (v : View M) (input : Input)
    (draft : Draft) (After : View M → Type 0) : Type 0 where
  pub marks : MakesMarks site (event_marks site v input) v nothing_said draft After
  pub quiet : turn_marks site (view_after site (event_marks site v input) v) ≡ None

-- one event: what it told and sent, where it led, and that no rule applies then
pub record Event {M : Type 0} (site : Site M) (v : View M) (input : Input)
    (made : Made) (After : View M → Type 0) : Type 0 where
  pub notes : made.notes ≡ notes_of (signs_of (event_marks site v input))
  pub outs : made.outs ≡ outs_of site.net v.me (signs_of (event_marks site v input))
  pub after : After (view_after site (event_marks site v input) v)
  pub quiet : turn_marks site (view_after site (event_marks site v input) v) ≡ None

-- an input was dropped, and left no other trace: it is told why, nothing goes out, and the view is as it was
pub record IsDropped {M : Type 0} (site : Site M) (v : View M) (input : Input) (cause : Cause)
    (made : Made) (After : View M → Type 0) : Type 0 where
  pub marks : event_marks site v input ≡ drops cause ++ In input ∷ []
  pub notes : made.notes ≡ note.Dropped cause ∷ []
  pub outs : made.outs ≡ []
  pub after : After v
