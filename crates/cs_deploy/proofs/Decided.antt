-- What decides where no fault came about, and which statuses there are.
use Rattle.std.specs.Prelude.{◌≡◌, ◌≢◌, ℕ, List, Option, Some, None, Ok}
use Rattle.std.proofs.Common.{refl, sym, inl, inr, ◌∙◌}
use Rattle.cs_io.specs.Store.{Files}
use Rattle.cs_io.specs.Outside.{LinkTold, Beside}
use Rattle.cs_io.specs.declared.until.Until.{Until}
use Rattle.cs_config.specs.declared.call.CallFile.{CallFile}
use Rattle.cs_serve.specs.declared.ending.End.{End}
use Rattle.cs_serve.specs.declared.ending.End.TheVariants as end
use Rattle.cs_serve.specs.declared.client_ending.Ending.{Ending}
use Rattle.cs_serve.specs.declared.client_ending.Ending.TheVariants as ending
use Rattle.cs_client.specs.declared.known.Known.{Known}
use Rattle.cs_client.specs.declared.known.Known.TheVariants as known
use Rattle.cs_deploy.specs.declared.setups.Setup.{Setup}
use Rattle.cs_config.specs.declared.hosts.Hosts.{Hosts}
use Rattle.cs_deploy.specs.Taking.{Taken, TakesFiles}
use Rattle.cs_deploy.specs.Hosts.{NodeFilesCome, ClientFilesCome}
use Rattle.cs_deploy.specs.Untaken.{IsDecided}
use Rattle.cs_deploy.proofs.Answered.{answers-other}
use Rattle.cs_deploy.proofs.DecidedKeys.{untaken-decided, untaken-other}
use Rattle.cs_deploy.specs.Binding.{Runs, link_answer}
use Rattle.cs_deploy.specs.Node.{TellsEnd, NodeGoes, NodeRuns}
use Rattle.cs_deploy.specs.Client.{known_status, known_answer, refused_answer, TellsEnding, ClientGoes, ClientRuns, IsToldOf}

-- ---- files first

module _ {A : Type 0} (Come : Files → Taken A → Type 0) (Goes : A → Beside LinkTold → Beside LinkTold → ℕ → Type 0) (Failed : Type 0) (files : Option Files) (old new : Beside LinkTold) (status : ℕ) where
  pub runs-decided : (Done : ℕ → Type 0) → Runs Come Goes Failed files old new status → (Failed → ⊥) → status ≢ 6 → ((taken : A) → Goes taken old new status → status ≢ 8 → Done status) → IsDecided Come Done files status
  runs-decided Done (inl is) stores writes each = untaken-decided Come Done Failed files old.written new.written status is.untaken stores writes
  runs-decided Done (inr (taken, takes, goes)) stores writes each = by files takes
    where
      by : (files : Option Files) → TakesFiles Come files (Ok taken) → IsDecided Come Done files status
      by None takes = λ other. tt
      by (Some told) takes = λ other. (Ok taken, takes, each taken goes other)

  pub runs-other : (n : ℕ) → Runs Come Goes Failed files old new status → 12 ≢ n → 6 ≢ n → 8 ≢ n → ((taken : A) → Goes taken old new status → status ≢ n) → status ≢ n
  runs-other n (inl is) own six eight each = untaken-other Come Failed files old.written new.written status n is.untaken own six eight
  runs-other n (inr (taken, takes, goes)) own six eight each = each taken goes

-- ---- `node`

module _ (setup : Setup) (hosts : Option Hosts) (until : Until) (Failed : Type 0) (old new : Beside LinkTold) (status : ℕ) where
  pub node-done : NodeGoes setup hosts until Failed old new status → (Failed → ⊥) → status ≢ 6 → status ≢ 8 → status ≡ 0
  node-done (inl is) links writes other = absurd (other is.silent.0)
  node-done (inr (inl is)) links writes other = absurd (links is.failed)
  node-done (inr (inr is)) links writes other = by is.end is.failed is.told
    where
      by : (e : End) → (e ≡ end.LinkFault → Failed) → TellsEnd e is.written new.written status → status ≡ 0
      by end.Done failed tells = tells.0
      by end.Ended failed tells = tells.0
      by end.LinkFault failed tells = absurd (links (failed refl))
      by end.WriteFault failed tells = absurd (writes tells.0)
      by end.Memory failed tells = absurd (other tells.0)

  pub node-other : (n : ℕ) → NodeGoes setup hosts until Failed old new status → 0 ≢ n → 7 ≢ n → 6 ≢ n → 8 ≢ n → status ≢ n
  node-other n (inl is) zero seven six eight = λ p. eight (sym is.silent.0 ∙ p)
  node-other n (inr (inl is)) zero seven six eight = answers-other link_answer old.written new.written status n is.told seven six eight
  node-other n (inr (inr is)) zero seven six eight = by is.end is.told
    where
      by : (e : End) → TellsEnd e is.written new.written status → status ≢ n
      by end.Done tells = λ p. zero (sym tells.0 ∙ p)
      by end.Ended tells = λ p. zero (sym tells.0 ∙ p)
      by end.LinkFault tells = answers-other link_answer is.written new.written status n tells seven six eight
      by end.WriteFault tells = λ p. six (sym tells.0 ∙ p)
      by end.Memory tells = λ p. eight (sym tells.0 ∙ p)

-- ---- `client`

pub told-of : (so : Known) (status : ℕ) → status ≡ known_status so → IsToldOf status
told-of known.Open status is = inr (inl is)
told-of (known.Accepted digest) status is = inl is
told-of (known.Aborted digest) status is = inl is

pub known-other : (so : Known) (n : ℕ) → 0 ≢ n → 10 ≢ n → known_status so ≢ n
known-other known.Open n zero ten = ten
known-other (known.Accepted digest) n zero ten = zero
known-other (known.Aborted digest) n zero ten = zero

module _ (setup : Setup) (call : CallFile) (hosts : Option Hosts) (until : Until) (Failed : Type 0) (old new : Beside LinkTold) (status : ℕ) where
  client-done : ClientGoes setup call hosts until Failed old new status → (Failed → ⊥) → status ≢ 6 → status ≢ 8 → IsToldOf status
  client-done (inl is) links writes other = absurd (other is.silent.0)
  client-done (inr (inl is)) links writes other = absurd (links is.failed)
  client-done (inr (inr is)) links writes other = by is.ending is.failed is.told
    where
      by : (e : Ending) → (e ≡ ending.LinkFault → Failed) → TellsEnding e old.written new.written status → IsToldOf status
      by (ending.Knows so) failed tells = told-of so status (tells.verdict writes other).0
      by (ending.Refused cause) failed tells = inr (inr (tells.verdict writes other).0)
      by ending.LinkFault failed tells = absurd (links (failed refl))
      by ending.Memory failed tells = absurd (other tells.0)

  client-other : (n : ℕ) → ClientGoes setup call hosts until Failed old new status → 0 ≢ n → 10 ≢ n → 3 ≢ n → 7 ≢ n → 6 ≢ n → 8 ≢ n → status ≢ n
  client-other n (inl is) zero ten three seven six eight = λ p. eight (sym is.silent.0 ∙ p)
  client-other n (inr (inl is)) zero ten three seven six eight = answers-other link_answer old.written new.written status n is.told seven six eight
  client-other n (inr (inr is)) zero ten three seven six eight = by is.ending is.told
    where
      by : (e : Ending) → TellsEnding e old.written new.written status → status ≢ n
      by (ending.Knows so) tells = answers-other (known_answer so) old.written new.written status n tells (known-other so n zero ten) six eight
      by (ending.Refused cause) tells = answers-other (refused_answer cause) old.written new.written status n tells three six eight
      by ending.LinkFault tells = answers-other link_answer old.written new.written status n tells seven six eight
      by ending.Memory tells = λ p. eight (sym tells.0 ∙ p)

-- ---- both commands

module _ (site keys : List ℕ) (hosts : Option (List ℕ)) (until : Until) (Failed Linked : Type 0) (files : Option Files) (old new : Beside LinkTold) (status : ℕ) where
  pub node-runs-decided : NodeRuns site keys hosts until Failed Linked files old new status → (Failed → ⊥) → (Linked → ⊥) → status ≢ 6 → IsDecided (NodeFilesCome site keys hosts) (λ s. s ≡ 0) files status
  node-runs-decided runs stores links writes =
      runs-decided (NodeFilesCome site keys hosts) (λ taken. NodeGoes taken.0 taken.1 until Linked) Failed files old new status (λ s. s ≡ 0) runs stores writes
      (λ taken goes other. node-done taken.0 taken.1 until Linked old new status goes links writes other)

  pub node-runs-other : (n : ℕ) → NodeRuns site keys hosts until Failed Linked files old new status → 0 ≢ n → 7 ≢ n → 12 ≢ n → 6 ≢ n → 8 ≢ n → status ≢ n
  node-runs-other n runs zero seven twelve six eight =
      runs-other (NodeFilesCome site keys hosts) (λ taken. NodeGoes taken.0 taken.1 until Linked) Failed files old new status n runs twelve six eight
      (λ taken goes. node-other taken.0 taken.1 until Linked old new status n goes zero seven six eight)

module _ (site keys call : List ℕ) (hosts : Option (List ℕ)) (until : Until) (Failed Linked : Type 0) (files : Option Files) (old new : Beside LinkTold) (status : ℕ) where
  pub client-runs-decided : ClientRuns site keys call hosts until Failed Linked files old new status → (Failed → ⊥) → (Linked → ⊥) → status ≢ 6 → IsDecided (ClientFilesCome site keys call hosts) IsToldOf files status
  client-runs-decided runs stores links writes =
      runs-decided (ClientFilesCome site keys call hosts) (λ taken. ClientGoes taken.0.0 taken.0.1 taken.1 until Linked) Failed files old new status IsToldOf runs stores writes
      (λ taken goes other. client-done taken.0.0 taken.0.1 taken.1 until Linked old new status goes links writes other)

  pub client-runs-other : (n : ℕ) → ClientRuns site keys call hosts until Failed Linked files old new status → 0 ≢ n → 10 ≢ n → 3 ≢ n → 7 ≢ n → 12 ≢ n → 6 ≢ n → 8 ≢ n → status ≢ n
  client-runs-other n runs zero ten three seven twelve six eight =
      runs-other (ClientFilesCome site keys call hosts) (λ taken. ClientGoes taken.0.0 taken.0.1 taken.1 until Linked) Failed files old new status n runs twelve six eight
      (λ taken goes. client-other taken.0.0 taken.0.1 taken.1 until Linked old new status n goes zero ten three seven six eight)
