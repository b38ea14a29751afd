-- What contracts see of a phase as a client keeps it.
use Rattle.std.specs.Prelude.{◌≡◌, ℕ, Bool, true, false, bytes_eq, List, Option, Some, None, Result, Ok, Err, ◌++◌}
use Rattle.std.specs.List.{list_all, list_any}
use Rattle.cs_base.specs.declared.config.Config.{Config}
use Rattle.cs_tx_types.specs.Session.{SessionFits}
use Rattle.cs_tx_types.specs.Transaction.{TxFits}
use Rattle.cs_tx_types.specs.declared.transaction.Tx.{Tx}
use Rattle.cs_tx.specs.Digest.{digest_of_session}
use Rattle.cs_tx.specs.Uses.{concerned_shards}
use Rattle.cs_wire.specs.declared.input.Out.{Out}
use Rattle.cs_approve.specs.Books.{Contracts}
use Rattle.cs_proc.specs.declared.call.Call.{Call}
use Rattle.cs_proc.specs.declared.error.ProcError.{ProcError}
use Rattle.cs_proc.specs.declared.error.ProcError.TheVariants as refusal
use Rattle.cs_proc.specs.Calling.{CallRan}
use Rattle.cs_proc.specs.Answering.{AnswersCall, IsMadeTransaction}
use Rattle.cs_base.specs.declared.node_id.NodeId.{NodeId}
use Rattle.cs_client.specs.declared.counting.Voices.{Voices}
use Rattle.cs_client.specs.declared.errand.Errand.{Errand}
use Rattle.cs_client.specs.declared.error.ClientError.{ClientError}
use Rattle.cs_client.specs.declared.error.ClientError.TheVariants as error
use Rattle.cs_client.specs.declared.known.Known.{Known}
use Rattle.cs_client.specs.declared.known.Known.TheVariants as known
use Rattle.cs_client.specs.declared.phases.Phase.{Phase as Kept}
use Rattle.cs_client.specs.declared.phases.Phase.TheVariants as kept
use Rattle.cs_client.specs.declared.phases.Wanted.{Wanted}
use Rattle.cs_client.specs.declared.phases.Submission.{Submission}
use Rattle.cs_client.specs.Nodes.{nodes_of_shards}
use Rattle.cs_client.specs.Calls.{call_with, given_tx, ran_with}
use Rattle.cs_client.specs.Sessions.{has_input, bare_shards}
use Rattle.cs_client.specs.Phases.{Phase, Asking, Wanting, Submitting, Idle, moved}
use Rattle.cs_client.specs.Knowing.{outcome}
use Rattle.cs_client.specs.Sayings.{on_entering, outs_of_sayings}
use Rattle.cs_client.specs.Kept.{WordsTold, ToldFits, ToldMarked, objects_believed, dummy_kept}
use Rattle.cs_client.specs.Voices.{is_enough, AreUnheard, EachFits, EachHeard}

abbrev pub phase_seen : Kept → Phase
phase_seen kept.Asking = Asking
phase_seen (kept.Wanting wanted) = Wanting wanted.session
phase_seen (kept.Submitting submission) = Submitting submission.session
phase_seen kept.Idle = Idle

-- ---- its form

-- a session with an input, beside the shards that need a dummy
pub record WantedFits (config : Config) (wanted : Wanted) : Type 0 where
  pub fits : SessionFits wanted.session
  pub some : has_input wanted.session.tx ≡ true
  pub shards_are : wanted.shards ≡ bare_shards config wanted.session

-- a session, beside what is known of it once for all, and a tally of all nodes of each concerned shard
pub record SubmissionFits (config : Config) (s : Submission) : Type 0 where
  pub fits : SessionFits s.session
  pub digest_is : s.digest ≡ digest_of_session s.session
  pub nodes_are : s.nodes ≡ nodes_of_shards config.f (concerned_shards config s.session)
  pub voices : EachFits config.f s.voices.items

abbrev pub PhaseFits : Config → Kept → Type 0
PhaseFits config kept.Asking = Unit {0}
PhaseFits config (kept.Wanting wanted) = WantedFits config wanted
PhaseFits config (kept.Submitting submission) = SubmissionFits config submission
PhaseFits config kept.Idle = Unit {0}

-- ---- clients

pub record Client : Type 0 where
  pub errand : Errand
  pub beliefs : WordsTold
  pub phase : Kept

-- what is kept has its form
pub record IsSoundClient (e : Errand) (told : WordsTold) (phase : Kept) : Type 0 where
  pub told_fits : ToldFits e.config told
  pub told_marked : ToldMarked e.config.f told
  pub phase_fits : PhaseFits e.config phase

-- ---- what is known

abbrev pub known_of : ℕ → Submission → Known
known_of f s =
    outcome s.digest (list_all (λ one. is_enough f one.accepted) s.voices.items)
    (list_any (λ one. is_enough f one.aborted) s.voices.items)

abbrev pub known_kept : ℕ → Kept → Known
known_kept f kept.Asking = known.Open
known_kept f (kept.Wanting wanted) = known.Open
known_kept f (kept.Submitting submission) = known_of f submission
known_kept f kept.Idle = known.Open

-- ---- one voice more

-- those that say it of this session are marked
abbrev pub VoicesAfter : Bool → NodeId → Bool → List Voices → List Voices → Type 0
VoicesAfter true from accepted old new = EachHeard from accepted old new
VoicesAfter false from accepted old new = new ≡ old

pub record CountsIn (from : NodeId) (digest : List ℕ) (accepted : Bool) (old new : Submission) : Type 0 where
  pub session_is : new.session ≡ old.session
  pub digest_is : new.digest ≡ old.digest
  pub nodes_are : new.nodes ≡ old.nodes
  pub voices : VoicesAfter (bytes_eq old.digest digest) from accepted old.voices.items new.voices.items

-- a node says what has become of the session of this digest
abbrev pub Counts : NodeId → List ℕ → Bool → Kept → Kept → Type 0
Counts from digest accepted kept.Asking new = new ≡ kept.Asking
Counts from digest accepted (kept.Wanting wanted) new = new ≡ kept.Wanting wanted
Counts from digest accepted (kept.Submitting old) (kept.Submitting new) = CountsIn from digest accepted old new
Counts from digest accepted (kept.Submitting old) new = ⊥
Counts from digest accepted kept.Idle new = new ≡ kept.Idle

-- ---- how one follows on another

abbrev pub dummies_kept : Errand → WordsTold → ℕ → Option ℕ
dummies_kept e told = dummy_kept e.config.f told.serials

-- the call on the objects that are believed
abbrev pub ready_kept : Errand → WordsTold → Option Call
ready_kept e told = call_with e.call (objects_believed e.config.f told.inputs) (objects_believed e.config.f told.reads)

abbrev pub next_kept : Errand → WordsTold → Phase → Phase
next_kept e told old = moved e (dummies_kept e told) (ready_kept e told) old

-- of a session that is newly submitted nothing has been heard
abbrev pub IsFresh : Config → Kept → Type 0
IsFresh config kept.Asking = Unit {0}
IsFresh config (kept.Wanting wanted) = Unit {0}
IsFresh config (kept.Submitting s) = AreUnheard config.f (concerned_shards config s.session) s.voices.items
IsFresh config kept.Idle = Unit {0}

-- a session that is submitted stays as it is
abbrev pub StaysOrFresh : Config → Kept → Kept → Type 0
StaysOrFresh config kept.Asking new = IsFresh config new
StaysOrFresh config (kept.Wanting wanted) new = IsFresh config new
StaysOrFresh config (kept.Submitting s) new = new ≡ kept.Submitting s
StaysOrFresh config kept.Idle new = IsFresh config new

-- from one phase to this one, and this was said
pub record Enters (e : Errand) (old new : Phase) (next : Kept) (before after : List Out) : Type 0 where
  pub seen : phase_seen next ≡ new
  pub fits : PhaseFits e.config next
  pub said : after ≡ before ++ outs_of_sayings e.keys (on_entering e old new)

-- a transaction that was given is taken as it is; else the method gives one that the book approves
abbrev pub IsTaken : Option Tx → Contracts → Tx → CallRan → Type 0
IsTaken (Some given) contracts tx run = (run ≡ Ok tx.traces) × TxFits tx
IsTaken None contracts tx run = IsMadeTransaction contracts tx run

abbrev pub IsApproved : Errand → CallRan → Type 0
IsApproved e run = (tx : Tx) × IsTaken (given_tx e.call) e.book tx run

-- what was answered: a transaction that is taken, or the run's refusal
abbrev pub TakesTransaction : Errand → CallRan → Result Tx ProcError → Type 0
TakesTransaction e run (Ok tx) = IsTaken (given_tx e.call) e.book tx run
TakesTransaction e run (Err cause) = AnswersCall e.book run (Err cause)

-- the phase moved on; where the first one ended, the method was run
pub record HasMoved (e : Errand) (told : WordsTold) (old next : Kept) (before after : List Out) : Type 0 where
  pub enters : Enters e (phase_seen old) (next_kept e told (phase_seen old)) next before after
  pub voices : StaysOrFresh e.config old next
  pub made : (call : Call) → phase_seen old ≡ Asking → ready_kept e told ≡ Some call
      → IsApproved e (ran_with e call)

-- the first phase ends, and the method is refused
pub record IsRefusedNow (e : Errand) (told : WordsTold) (old : Kept) (cause : ProcError) : Type 0 where
  pub asking : phase_seen old ≡ Asking
  pub call : Call
  pub ready_is : ready_kept e told ≡ Some call
  pub refused : AnswersCall e.book (ran_with e call) (Err cause)
  pub cause_is : cause ≡ refusal.Memory → ⊥

-- what moving on comes to; memory may run out
abbrev pub ClientMoves : Errand → WordsTold → Kept → Result Kept ClientError → List Out → List Out → Type 0
ClientMoves e told old (Ok next) before after = HasMoved e told old next before after
ClientMoves e told old (Err (error.Refused cause)) before after = IsRefusedNow e told old cause
ClientMoves e told old (Err error.Memory) before after = Unit {0}
