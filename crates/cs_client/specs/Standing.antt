-- For which inputs a client stands, and what a step makes.
use Rattle.std.specs.Prelude.{◌≡◌, ℕ, ◌+◌, List, ◌∷◌, Option, Some, None, Result, Ok, Err}
use Rattle.cs_config.specs.declared.site.Site.{Site}
use Rattle.cs_config.specs.declared.call.CallFile.{CallFile}
use Rattle.cs_tx_types.specs.declared.session.Session.{Session}
use Rattle.cs_wire.specs.declared.input.Out.{Out}
use Rattle.cs_wire.specs.declared.keys.Keys.{Keys}
use Rattle.cs_approve.specs.Books.{Contracts}
use Rattle.cs_proc.specs.declared.call.Call.{Call}
use Rattle.cs_proc.specs.declared.error.ProcError.{ProcError}
use Rattle.cs_proc.specs.declared.error.ProcError.TheVariants as refusal
use Rattle.cs_proc.specs.Answering.{AnswersCall}
use Rattle.cs_client.specs.declared.errand.Errand.{Errand}
use Rattle.cs_client.specs.declared.error.ClientError.{ClientError}
use Rattle.cs_client.specs.declared.error.ClientError.TheVariants as error
use Rattle.cs_client.specs.Inputs.{ClientInput}
use Rattle.cs_client.specs.Calls.{ready, ran_with}
use Rattle.cs_client.specs.Phases.{Asking, phase}
use Rattle.cs_client.specs.Sayings.{says_at, outs_of_sayings}
use Rattle.cs_client.specs.Seen.{Client, IsApproved}
use Rattle.cs_client.specs.Hearing.{Keeps}

-- what a client is to do that makes this call at a site, or submits the session of it that was made before; it asks for
-- dummies from this serial on, or for any
abbrev pub errand_with : Site → Keys → Contracts → CallFile → Option Session → Option ℕ → Errand
errand_with site keys book call session dummy = record {
  config = site.config;
  keys = keys;
  book = book;
  call = call;
  session = session;
  dummy = dummy;
}

abbrev pub errand_for : Site → Keys → Contracts → CallFile → Errand
errand_for site keys book call = errand_with site keys book call None None

-- the same call, under the next number
abbrev pub errand_again : Errand → Errand
errand_again e = record e { call = record e.call { number = e.call.number + 1 }; session = None }

-- The client stands for these inputs: what it keeps is the function of them.
pub record ClientStandsFor (e : Errand) (inputs : List ClientInput) (client : Client) : Type 0 where
  pub errand_is : client.errand ≡ e
  pub keeps : Keeps e inputs (phase e inputs) client.beliefs client.phase

-- The client stands for one input more, and this is what it says. Where the first phase ends, its method was run.
pub record HasStepped (e : Errand) (past : List ClientInput) (input : ClientInput)
    (client : Client) (outs : List Out) : Type 0 where
  pub stands : ClientStandsFor e (input ∷ past) client
  pub says : outs ≡ outs_of_sayings e.keys (says_at e input past)
  pub made : (call : Call) → phase e past ≡ Asking → ready e (input ∷ past) ≡ Some call
      → IsApproved e (ran_with e call)

-- the first phase ends at this input, and its method is refused
pub record MethodIsRefused (e : Errand) (past : List ClientInput) (input : ClientInput) (cause : ProcError)
    : Type 0 where
  pub asking : phase e past ≡ Asking
  pub call : Call
  pub ready_is : ready e (input ∷ past) ≡ Some call
  pub refused : AnswersCall e.book (ran_with e call) (Err cause)
  pub cause_is : cause ≡ refusal.Memory → ⊥

-- what a step comes to; memory may run out
abbrev pub Steps : Errand → List ClientInput → ClientInput → Result (Client × List Out) ClientError → Type 0
Steps e past input (Ok stepped) = HasStepped e past input stepped.0 stepped.1
Steps e past input (Err (error.Refused cause)) = MethodIsRefused e past input cause
Steps e past input (Err error.Memory) = Unit {0}
