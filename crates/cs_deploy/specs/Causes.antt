-- The line of a file that isn't taken.
use Rattle.std.specs.Prelude.{ℕ, codes, List, ◌++◌}
use Rattle.cs_config.specs.Names.{field_name}
use Rattle.cs_deploy.specs.declared.cause.Cause.{Cause}
use Rattle.cs_deploy.specs.declared.cause.Cause.TheVariants as cause

abbrev pub cause_text : Cause → List ℕ
cause_text cause.Fault = codes "fault"
cause_text cause.Absent = codes "absent"
cause_text cause.TooLong = codes "long"
cause_text cause.Toml = codes "toml"
cause_text (cause.Field f) = codes "field " ++ field_name f
cause_text (cause.Limit f) = codes "limit " ++ field_name f
cause_text cause.Contract = codes "contract"
cause_text cause.Key = codes "key"
cause_text cause.Journal = codes "journal"

abbrev pub refusal_line : List ℕ → Cause → List ℕ
refusal_line name c = codes "store " ++ (name ++ (codes " " ++ (cause_text c ++ codes "\n")))
