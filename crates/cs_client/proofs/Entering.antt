-- What is said as a phase is entered, and what a step comes to.
use Rattle.std.proofs.Common.{◌≡◌, ℕ, zero, suc, true, List, [], ◌∷◌, ◌++◌, Option, Some, None, Result, Ok, Err, refl, sym, ap, subst, ◌∙◌, if◌then◌else◌}
use Rattle.std.specs.Prelude.{filter, option_map, option_and_then, IfOk}
use Rattle.std.proofs.lemmas.List.{append_assoc, append-nil}
use Rattle.std.proofs.lemmas.List.Concat.{flat_map-append}
use Rattle.cs_base.specs.declared.config.Config.{Config}
use Rattle.cs_io.specs.declared.link.MemInput.TheVariants as came
use Rattle.cs_tx_types.specs.Transaction.{Keyed, TxFits}
use Rattle.cs_tx_types.specs.declared.transaction.Tx.{Tx}
use Rattle.cs_tx_types.specs.declared.session.Session.{Session}
use Rattle.cs_tx.specs.Uses.{concerns, concerned_below}
use Rattle.cs_wire.specs.declared.input.Out.{Out}
use Rattle.cs_proc.specs.declared.call.Call.{Call}
use Rattle.cs_proc.specs.declared.error.ProcError.{ProcError}
use Rattle.cs_proc.specs.declared.error.ProcError.TheVariants as refusal
use Rattle.cs_approve.specs.Books.{Contracts}
use Rattle.cs_proc.specs.Calling.{CallRan}
use Rattle.cs_proc.specs.Answering.{AnswersCall}
use Rattle.cs_client.specs.declared.beliefs.Objects.{Objects}
use Rattle.cs_client.specs.declared.errand.Errand.{Errand}
use Rattle.cs_client.specs.declared.error.ClientError.{ClientError}
use Rattle.cs_client.specs.declared.error.ClientError.TheVariants as error
use Rattle.cs_client.specs.declared.phases.Phase.{Phase as Kept}
use Rattle.cs_client.specs.declared.phases.Phase.TheVariants as kept
use Rattle.cs_client.specs.declared.phases.Wanted.{Wanted}
use Rattle.cs_client.specs.declared.phases.Submission.{Submission}
use Rattle.cs_client.specs.Inputs.{ClientInput}
use Rattle.cs_client.specs.Dummies.{dummies_for}
use Rattle.cs_client.specs.Calls.{call_on, call_with, given_tx, ran_with}
use Rattle.cs_client.specs.Endings.{ending_of}
use Rattle.cs_client.specs.Sessions.{has_input, session_without_dummies, with_dummies, is_bare, bare_shards}
use Rattle.cs_client.specs.Phases.{Phase, Asking, Wanting, Submitting, Idle, provided, wanting, after_method, after_call, phase}
use Rattle.cs_client.specs.Knowing.{knows}
use Rattle.cs_client.specs.Sayings.{wants_in, wants, submits, again, on_entering, out_of, outs_of_sayings}
use Rattle.cs_client.specs.Kept.{WordsTold, objects_believed, objects_kept}
use Rattle.cs_client.specs.Seen.{Client, phase_seen, PhaseFits, IsSoundClient, known_kept, dummies_kept, ready_kept, next_kept, IsFresh, Enters, IsTaken, HasMoved, IsRefusedNow, ClientMoves}
use Rattle.cs_client.specs.Hearing.{Keeps, Hears, ClientTakesIn}
use Rattle.cs_client.specs.Standing.{ClientStandsFor, HasStepped, Steps}
use Rattle.cs_client.proofs.Knows.{known-so}
use Rattle.cs_client.proofs.Taking.{unheard-taken}
use Rattle.cs_client.proofs.Moving.{moved-keeps, moved-says, moved-made, moved-refused}

pub if-ok : {A E : Type 0} (r : Result A E) (P Q : A → Type 0) → ((x : A) → P x → Q x) → IfOk r P → IfOk r Q
if-ok (Ok x) P Q follows h = follows x h
if-ok (Err e) P Q follows h = tt

-- ---- dummies change no shard

concerned-same : (config : Config) (x : Session) (dummies : List (ℕ × ℕ)) (n : ℕ) → concerned_below config (with_dummies x dummies) n ≡ concerned_below config x n
concerned-same config x dummies zero = refl
concerned-same config x dummies (suc n) = ap (λ xs. xs ++ (if concerns config x n then n ∷ [] else [])) (concerned-same config x dummies n)

wants-same : (e : Errand) (x : Session) (dummies : List (ℕ × ℕ)) → wants e (with_dummies x dummies) ≡ wants e x
wants-same e x dummies =
    ap (λ shards. wants_in e.config e.dummy (filter (is_bare e.config x) shards)) (concerned-same e.config x dummies e.config.shards)

entered-asking : (e : Errand) (x : Session) (o : Option (List (ℕ × ℕ))) → on_entering e Asking (provided x o) ≡ wants e x ++ on_entering e (Wanting x) (provided x o)
entered-asking e x None = sym (append-nil (wants e x))
entered-asking e x (Some dummies) = ap (λ w. w ++ submits e (with_dummies x dummies)) (wants-same e x dummies)

-- ---- which phases aren't the first

abbrev IsLater : Phase → Type 0
IsLater Asking = ⊥
IsLater (Wanting x) = Unit {0}
IsLater (Submitting x) = Unit {0}
IsLater Idle = Unit {0}

not-asking : {A : Type 0} (p : Phase) → p ≡ Asking → IsLater p → A
not-asking p asking later = absurd (subst IsLater asking later)

-- ---- from the first phase to those after it

entered-bare : (e : Errand) (dummy : ℕ → Option ℕ) (tx : Tx) (next : Kept) (before mid after : List Out) → has_input tx ≡ true
    → mid ≡ before ++ outs_of_sayings e.keys (wants e (session_without_dummies tx e.call.number))
    → Enters e (Wanting (session_without_dummies tx e.call.number)) (wanting e.config dummy (session_without_dummies tx e.call.number)) next mid after
    → Enters e Asking (after_method e dummy (Ok tx.traces)) next before after
entered-bare e dummy tx next before mid after some said enters =
    let x = session_without_dummies tx e.call.number in
    let new = wanting e.config dummy x in
    let is : after_method e dummy (Ok tx.traces) ≡ new = ap (λ t. if t then new else Idle) some in
    subst (λ p. Enters e Asking p next before after) (sym is) (record {
      seen = enters.seen;
      fits = enters.fits;
      said =
          enters.said
          ∙ (ap (λ outs. outs ++ outs_of_sayings e.keys (on_entering e (Wanting x) new)) said
          ∙ (append_assoc before (outs_of_sayings e.keys (wants e x)) (outs_of_sayings e.keys (on_entering e (Wanting x) new))
          ∙ ap (λ outs. before ++ outs)
          (sym (flat_map-append (out_of e.keys) (wants e x) (on_entering e (Wanting x) new))
          ∙ ap (outs_of_sayings e.keys) (sym (entered-asking e x (dummies_for dummy (bare_shards e.config x)))))));
    })

pub entered : (e : Errand) (dummy : ℕ → Option ℕ) (tx : Tx) (x : Session) (next : Kept) (before mid after : List Out) → has_input tx ≡ true → x ≡ session_without_dummies tx e.call.number
    → mid ≡ before ++ outs_of_sayings e.keys (wants e x) → Enters e (Wanting x) (wanting e.config dummy x) next mid after
    → Enters e Asking (after_method e dummy (Ok tx.traces)) next before after
entered e dummy tx x next before mid after some is said enters =
    entered-bare e dummy tx next before mid after some
    (subst (λ y. mid ≡ before ++ outs_of_sayings e.keys (wants e y)) is said)
    (subst (λ y. Enters e (Wanting y) (wanting e.config dummy y) next mid after) is enters)

-- ---- the call of the objects that are believed

abbrev both : List Keyed → List Keyed → Objects
both i r = record { inputs = i; reads = r }

ready-from : (e : Errand) (told : WordsTold) (o : Objects) → objects_kept e.config.f told ≡ Some o → ready_kept e told ≡ Some (call_on e.call o.inputs o.reads)
ready-from e told o is = by (objects_believed e.config.f told.inputs) (objects_believed e.config.f told.reads) is where
  by : (inputs reads : Option (List Keyed)) → option_and_then (λ i. option_map (both i) reads) inputs ≡ Some o → call_with e.call inputs reads ≡ Some (call_on e.call o.inputs o.reads)
  by None reads is = absurd cc
  by (Some i) None is = absurd cc
  by (Some i) (Some r) is = let same : both i r ≡ o = cc in ap (λ (objects : Objects). Some (call_on e.call objects.inputs objects.reads)) same

same-call : (a b : Call) → Some a ≡ Some b → a ≡ b
same-call a b is = cc

-- what is taken is what the run comes to, within its limits
taken-ran : (given : Option Tx) (book : Contracts) (tx : Tx) (run : CallRan) → IsTaken given book tx run → run ≡ Ok tx.traces
taken-ran (Some other) book tx run taken = taken.0
taken-ran None book tx run made = made.ran

pub taken-fits : (given : Option Tx) (book : Contracts) (tx : Tx) (run : CallRan) → IsTaken given book tx run → TxFits tx
taken-fits (Some other) book tx run taken = taken.1
taken-fits None book tx run made = made.fits

pub called-moves : (e : Errand) (told : WordsTold) (o : Objects) (tx : Tx) (next : Kept) (before after : List Out) → objects_kept e.config.f told ≡ Some o
    → IsTaken (given_tx e.call) e.book tx (ran_with e (call_on e.call o.inputs o.reads)) → Enters e Asking (after_method e (dummies_kept e told) (Ok tx.traces)) next before after → IsFresh e.config next
    → HasMoved e told kept.Asking next before after
called-moves e told o tx next before after is made enters fresh =
    let call = call_on e.call o.inputs o.reads in
    let ready = ready-from e told o is in
    let new : next_kept e told Asking ≡ after_method e (dummies_kept e told) (Ok tx.traces) =
    ap (after_call e (dummies_kept e told)) ready ∙ ap (after_method e (dummies_kept e told)) (taken-ran (given_tx e.call) e.book tx (ran_with e call) made) in
    record {
      enters = subst (λ p. Enters e Asking p next before after) (sym new) enters;
      voices = fresh;
      made = λ other asking has. (tx, subst (λ c. IsTaken (given_tx e.call) e.book tx (ran_with e c)) (same-call call other (sym ready ∙ has)) made);
    }

called-refused : (e : Errand) (told : WordsTold) (o : Objects) (cause : ProcError) → objects_kept e.config.f told ≡ Some o
    → AnswersCall e.book (ran_with e (call_on e.call o.inputs o.reads)) (Err cause) → (cause ≡ refusal.Memory → ⊥) → IsRefusedNow e told kept.Asking cause
called-refused e told o cause is refused other = record {
  asking = refl;
  call = call_on e.call o.inputs o.reads;
  ready_is = ready-from e told o is;
  refused = refused;
  cause_is = other;
}

-- however the run of the method ended without a transaction
pub called-ended : (e : Errand) (told : WordsTold) (o : Objects) (cause : ProcError) (before after : List Out) → objects_kept e.config.f told ≡ Some o
    → AnswersCall e.book (ran_with e (call_on e.call o.inputs o.reads)) (Err cause) → ClientMoves e told kept.Asking (Err (ending_of cause)) before after
called-ended e told o refusal.Memory before after is refused = tt
called-ended e told o refusal.NoMethod before after is refused = called-refused e told o refusal.NoMethod is refused (λ q. cc)
called-ended e told o refusal.BadArgs before after is refused = called-refused e told o refusal.BadArgs is refused (λ q. cc)
called-ended e told o (refusal.Trap place) before after is refused = called-refused e told o (refusal.Trap place) is refused (λ q. cc)
called-ended e told o refusal.TooLarge before after is refused = called-refused e told o refusal.TooLarge is refused (λ q. cc)
called-ended e told o (refusal.CheckerNo place) before after is refused = called-refused e told o (refusal.CheckerNo place) is refused (λ q. cc)

-- ---- other phases

pub wanting-moves : (e : Errand) (told : WordsTold) (wanted : Wanted) (next : Kept) (before after : List Out)
    → Enters e (Wanting wanted.session) (wanting e.config (dummies_kept e told) wanted.session) next before after → IsFresh e.config next
    → HasMoved e told (kept.Wanting wanted) next before after
wanting-moves e told wanted next before after enters fresh = record {
  enters = enters;
  voices = fresh;
  made = λ call asking ready. not-asking (Wanting wanted.session) asking tt;
}

pub submitting-stays : (e : Errand) (told : WordsTold) (s : Submission) (outs : List Out) → PhaseFits e.config (kept.Submitting s)
    → HasMoved e told (kept.Submitting s) (kept.Submitting s) outs outs
submitting-stays e told s outs fits = record {
  enters = record { seen = refl; fits = fits; said = sym (append-nil outs) };
  voices = refl;
  made = λ call asking ready. not-asking (Submitting s.session) asking tt;
}

pub idle-stays : (e : Errand) (told : WordsTold) (outs : List Out) → HasMoved e told kept.Idle kept.Idle outs outs
idle-stays e told outs = record {
  enters = record { seen = refl; fits = tt; said = sym (append-nil outs) };
  voices = tt;
  made = λ call asking ready. not-asking Idle asking tt;
}

-- ---- inputs

pub takes-datagram : (e : Errand) (past : List ClientInput) (bytes : List ℕ) (told : WordsTold) (now : Kept) (told' : WordsTold) (now' : Kept) (outs : List Out)
    → Hears e past (came.Datagram bytes) told now told' now' → outs ≡ [] → ClientTakesIn e past (came.Datagram bytes) told now told' now' outs
takes-datagram e past bytes told now told' now' outs hears none = record { hears = hears; says = λ keeps. none }

pub takes-tick : (e : Errand) (past : List ClientInput) (told : WordsTold) (now : Kept) (outs : List Out) → IsSoundClient e told now
    → outs ≡ outs_of_sayings e.keys (again e (known_kept e.config.f now) (phase_seen now)) → ClientTakesIn e past came.Tick told now told now outs
takes-tick e past told now outs sound said = record {
  hears = unheard-taken e past came.Tick told now sound refl;
  says = λ keeps.
      said
      ∙ (ap (λ n. outs_of_sayings e.keys (again e n (phase_seen now))) (known-so e past now sound.phase_fits keeps.phase_is keeps.heard)
      ∙ ap (λ p. outs_of_sayings e.keys (again e (knows e past) p)) keeps.phase_is);
}

-- ---- a step

module _ (e : Errand) (past : List ClientInput) (input : ClientInput) (told : WordsTold) (now : Kept) (told' : WordsTold) (now' : Kept) (first after : List Out)
    (keeps : Keeps e past (phase e past) told now) (takes : ClientTakesIn e past input told now told' now' first) where
  stepped : (next : Kept) → HasMoved e told' now' next first after → HasStepped e past input (record { errand = e; beliefs = told'; phase = next }) after
  stepped next goes =
      let after-it = takes.hears.keeps keeps in
      record {
        stands = record { errand_is = refl; keeps = moved-keeps e past input told' now' after-it next first after goes };
        says = moved-says e past input told' now' after-it next first after goes (takes.says keeps);
        made = moved-made e past input told' now' after-it next first after goes;
      }

  failed : (err : ClientError) → ClientMoves e told' now' (Err err) first after → Steps e past input (Err err)
  failed error.Memory moves = tt
  failed (error.Refused cause) moves = moved-refused e past input told' now' (takes.hears.keeps keeps) cause moves

-- a client that stands for inputs, by its parts
pub has-stepped : (e held : Errand) (past : List ClientInput) (input : ClientInput) (client : Client) (told : WordsTold) (now : Kept) (told' : WordsTold) (now' next : Kept) (first after : List Out)
    → record { errand = held; beliefs = told; phase = now } ≡ client → ClientStandsFor e past client → ClientTakesIn held past input told now told' now' first
    → HasMoved held told' now' next first after → HasStepped e past input (record { errand = held; beliefs = told'; phase = next }) after
has-stepped e held past input client told now told' now' next first after is stands takes goes = by held (ap (λ (c : Client). c.errand) is ∙ stands.errand_is) takes goes where
  keeps : Keeps e past (phase e past) told now
  keeps = subst (λ (c : Client). Keeps e past (phase e past) c.beliefs c.phase) (sym is) stands.keeps

  by : (held : Errand) → held ≡ e → ClientTakesIn held past input told now told' now' first → HasMoved held told' now' next first after → HasStepped e past input (record { errand = held; beliefs = told'; phase = next }) after
  by held own takes goes =
      subst (λ h. HasStepped e past input (record { errand = h; beliefs = told'; phase = next }) after) (sym own)
      (stepped e past input told now told' now' first after keeps
      (subst (λ h. ClientTakesIn h past input told now told' now' first) own takes) next
      (subst (λ h. HasMoved h told' now' next first after) own goes))

pub has-failed : (e held : Errand) (past : List ClientInput) (input : ClientInput) (client : Client) (told : WordsTold) (now : Kept) (told' : WordsTold) (now' : Kept) (first after : List Out) (err : ClientError)
    → record { errand = held; beliefs = told; phase = now } ≡ client → ClientStandsFor e past client → ClientTakesIn held past input told now told' now' first
    → ClientMoves held told' now' (Err err) first after → Steps e past input (Err err)
has-failed e held past input client told now told' now' first after err is stands takes moves =
    let own = ap (λ (c : Client). c.errand) is ∙ stands.errand_is in
    failed e past input told now told' now' first after
    (subst (λ (c : Client). Keeps e past (phase e past) c.beliefs c.phase) (sym is) stands.keeps)
    (subst (λ h. ClientTakesIn h past input told now told' now' first) own takes) err
    (subst (λ h. ClientMoves h told' now' (Err err) first after) own moves)
