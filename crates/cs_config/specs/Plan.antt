-- A plan file: the site, the master key, the turns of each node and client, the calls.
use Rattle.std.specs.Prelude.{ℕ, List, Result, Ok}
use Rattle.toml.specs.Data.{Members, as_integer, as_str}
use Rattle.cs_config.specs.Reading.{◌>>=◌, toml_table_of, one_of, each_of, number_between, few_of}
use Rattle.cs_config.specs.Items.{hex_digest}
use Rattle.cs_config.specs.declared.limits.TheConstants.{MOST_TURNS, MOST_CALLS}
use Rattle.cs_config.specs.declared.error.FileField.TheVariants as field
use Rattle.cs_config.specs.declared.error.ConfigError.{ConfigError}
use Rattle.cs_config.specs.declared.plan.Plan.{Plan}
use Rattle.cs_config.specs.declared.plan.PlanDraft.{PlanDraft}

-- the fields as they stand there
abbrev pub plan_draft_of : Members → Result PlanDraft ConfigError
plan_draft_of members = do
  site ← one_of as_str field.Site members
  master ← one_of hex_digest field.Master members
  turns ← one_of as_integer field.Turns members
  calls ← each_of as_str field.Calls members
  Ok (record { site = site; master = master; turns = turns; calls = calls })

-- the fields, each in its range
abbrev pub plan_within : PlanDraft → Result Plan ConfigError
plan_within draft = do
  turns ← number_between field.Turns 1 MOST_TURNS draft.turns
  calls ← few_of field.Calls MOST_CALLS draft.calls
  Ok (record { site = draft.site; master = draft.master; turns = turns; calls = calls })

-- what a plan file says, or why it is refused
abbrev pub plan_of : List ℕ → Result Plan ConfigError
plan_of bytes = do
  members ← toml_table_of bytes
  draft ← plan_draft_of members
  plan_within draft
