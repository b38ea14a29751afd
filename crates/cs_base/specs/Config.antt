-- A configuration of its numbers, or the first of them that is out of its range.
use Rattle.std.specs.Prelude.{ℕ, ◌<◌, ◌≤◌, nat_lt, ◌||◌, ◌==◌, min, max, Option, Some, None, Result, Ok, Err, if◌then◌else◌}
use Rattle.std.proofs.Common.{arith}
use Rattle.cs_base.specs.declared.limits.TheConstants.{MOST_SHARDS, MOST_LIARS, MOST_DUMMIES, LAST_VERSION}
use Rattle.cs_base.specs.declared.config.Config.{Config}
use Rattle.cs_base.specs.declared.config.OutOfRange.{OutOfRange}
use Rattle.cs_base.specs.declared.config.ConfigField.{ConfigField}
use Rattle.cs_base.specs.declared.config.ConfigField.TheVariants.{Shards, F, Dummies, Version}

-- the number of a version, unless there is none
abbrev pub version_out : ℕ → Option ConfigField
version_out version = if version == 0 || nat_lt LAST_VERSION version then Some Version else None

-- the first number that is out of its range
abbrev pub first_out_in : ℕ → ℕ → ℕ → ℕ → Option ConfigField
first_out_in shards f dummies version =
    if shards == 0 || nat_lt MOST_SHARDS shards then Some Shards
    else if nat_lt MOST_LIARS f then Some F
    else if nat_lt MOST_DUMMIES dummies then Some Dummies
    else version_out version

abbrev pub first_out : ℕ → ℕ → ℕ → Option ConfigField
first_out shards f dummies = first_out_in shards f dummies 1

pub shards_some : (shards : ℕ) → 0 < max 1 (min shards MOST_SHARDS)
shards_some shards = omega arith

pub shards_few : (shards : ℕ) → max 1 (min shards MOST_SHARDS) ≤ MOST_SHARDS
shards_few shards = omega arith

pub at_most : (n most : ℕ) → min n most ≤ most
at_most n most = omega arith

pub version_some : (version : ℕ) → 1 ≤ max 1 (min version LAST_VERSION)
version_some version = omega arith

pub version_few : (version : ℕ) → max 1 (min version LAST_VERSION) ≤ LAST_VERSION
version_few version = omega arith

-- the configuration of these numbers, each brought into its range
abbrev pub config_in : ℕ → ℕ → ℕ → ℕ → Config
config_in shards f dummies version = record {
  shards = max 1 (min shards MOST_SHARDS);
  f = min f MOST_LIARS;
  dummies = min dummies MOST_DUMMIES;
  version = max 1 (min version LAST_VERSION);
  some_shard = shards_some shards;
  few_shards = shards_few shards;
  few_liars = at_most f MOST_LIARS;
  few_dummies = at_most dummies MOST_DUMMIES;
  some_version = version_some version;
  few_versions = version_few version;
}

-- of version 1
abbrev pub config_of : ℕ → ℕ → ℕ → Config
config_of shards f dummies = config_in shards f dummies 1

-- a configuration, unless a number is out of its range
abbrev pub unless_out : Config → Option ConfigField → Result Config OutOfRange
unless_out config None = Ok config
unless_out config (Some field) = Err (record { 0 = field })

-- the configuration of these numbers, or the first of them that is out of its range
abbrev pub configured_in : ℕ → ℕ → ℕ → ℕ → Result Config OutOfRange
configured_in shards f dummies version =
    unless_out (config_in shards f dummies version) (first_out_in shards f dummies version)

abbrev pub configured : ℕ → ℕ → ℕ → Result Config OutOfRange
configured shards f dummies = configured_in shards f dummies 1
