-- For which inputs a client stands that may keep notes, and what a step makes.
use Rattle.std.specs.Prelude.{◌≡◌, ℕ, Bool, List, ◌∷◌, Option, Some, None, Result, Ok, Err, if◌then◌else◌}
use Rattle.cs_wire.specs.declared.input.Out.{Out}
use Rattle.cs_client.specs.declared.errand.Errand.{Errand}
use Rattle.cs_client.specs.declared.error.ClientError.{ClientError}
use Rattle.cs_client.specs.Inputs.{ClientInput}
use Rattle.cs_client.specs.Standing.{ClientStandsFor, HasStepped, Steps}
use Rattle.cs_waits.specs.declared.noted.NotedClient.{NotedClient}
use Rattle.cs_waits.specs.Notes.{Noted, notes_of}
use Rattle.cs_waits.specs.Lines.{open_lines}

-- with details it keeps notes
abbrev pub notes_if : Bool → Errand → List ClientInput → Option Noted
notes_if details e inputs = if details then Some (notes_of e inputs) else None

-- and these are its lines
abbrev pub lines_if : Bool → Errand → List ClientInput → Option (List ℕ)
lines_if details e inputs = if details then Some (open_lines e inputs) else None

-- what it keeps is the function of these inputs
pub record NotedStandsFor (e : Errand) (details : Bool) (inputs : List ClientInput) (noted : NotedClient) : Type 0 where
  pub client : ClientStandsFor e inputs noted.client
  pub notes : noted.notes ≡ notes_if details e inputs

-- the client has stepped, and its notes are those of one input more
pub record HasSteppedNoted (e : Errand) (details : Bool) (past : List ClientInput) (input : ClientInput)
    (noted : NotedClient) (outs : List Out) : Type 0 where
  pub steps : HasStepped e past input noted.client outs
  pub notes : noted.notes ≡ notes_if details e (input ∷ past)

abbrev pub NotedSteps : Errand → Bool → List ClientInput → ClientInput → Result (NotedClient × List Out) ClientError → Type 0
NotedSteps e details past input (Ok stepped) = HasSteppedNoted e details past input stepped.0 stepped.1
NotedSteps e details past input (Err error) = Steps e past input (Err error)
