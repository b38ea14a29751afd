-- What a client takes: its setup, and then its call.
use Rattle.std.specs.Prelude.{◌≡◌, ◌≢◌, ℕ, List, Ok, Err}
use Rattle.cs_io.specs.Store.{Files}
use Rattle.cs_config.specs.declared.call.CallFile.{CallFile}
use Rattle.cs_config.specs.declared.error.ConfigError.{ConfigError}
use Rattle.cs_config.specs.declared.error.ConfigError.TheVariants as config
use Rattle.cs_config.specs.Call.{GivesCall}
use Rattle.cs_deploy.specs.declared.keys.Role.TheVariants.{Client}
use Rattle.cs_deploy.specs.declared.setups.Setup.{Setup}
use Rattle.cs_deploy.specs.Taking.{Taken, bytes_taken, cause_of_config}
use Rattle.cs_deploy.specs.Files.{setup_taken}

-- What the bytes of a call file of this name come to. That arguments fit is told by a relation; want of memory is no
-- refusal of a file.
abbrev pub CallOf : List ℕ → Taken (List ℕ) → Taken CallFile → Type 0
CallOf name (Err refusal) outcome = Err refusal ≡ outcome
CallOf name (Ok bytes) (Ok call) = GivesCall (Ok call) bytes
CallOf name (Ok bytes) (Err refusal) =
    (error : ConfigError) × (error ≢ config.Memory) × (refusal ≡ (name, cause_of_config error))
    × GivesCall (Err error) bytes

abbrev pub CallComes : List ℕ → Files → Taken CallFile → Type 0
CallComes name files outcome = CallOf name (bytes_taken name files) outcome

-- what a setup comes to, and then a call
abbrev pub ThenCall : Taken Setup → (Taken CallFile → Type 0) → Taken (Setup × CallFile) → Type 0
ThenCall (Err refusal) Call outcome = Err refusal ≡ outcome
ThenCall (Ok setup) Call (Ok both) = (both.0 ≡ setup) × Call (Ok both.1)
ThenCall (Ok setup) Call (Err refusal) = Call (Err refusal)

abbrev pub ClientComes : List ℕ → List ℕ → List ℕ → Files → Taken (Setup × CallFile) → Type 0
ClientComes site_name keys_name call_name files outcome =
    ThenCall (setup_taken Client site_name keys_name files) (CallComes call_name files) outcome
