-- A configuration is known by its numbers.
use Rattle.std.specs.Prelude.{◌≡◌, ◌<◌, ◌≤◌, None, Ok}
use Rattle.std.proofs.Common.{arith, sym, ap, ◌∙◌}
use Rattle.std.proofs.lemmas.Bool.Decides.{nat_tests}
use mathlib.Core.HLevel.{is_prop→PathP}
use native.Mathlib.Bridge.{le_prop}
use Rattle.cs_base.specs.declared.config.Config.{Config}
use Rattle.cs_base.specs.declared.limits.TheConstants.{MOST_SHARDS, MOST_LIARS, MOST_DUMMIES, LAST_VERSION}
use Rattle.cs_base.specs.Config.{first_out_in, config_in, config_of, unless_out, configured_in, configured}

pub config_same : (a b : Config) → a.shards ≡ b.shards → a.f ≡ b.f → a.dummies ≡ b.dummies → a.version ≡ b.version → a ≡ b
config_same a b shards f dummies version = λ i. record {
  shards = shards i;
  f = f i;
  dummies = dummies i;
  version = version i;
  some_shard = is_prop→PathP (λ i. 0 < shards i) (λ i p q. le_prop p q) a.some_shard b.some_shard i;
  few_shards = is_prop→PathP (λ i. shards i ≤ MOST_SHARDS) (λ i p q. le_prop p q) a.few_shards b.few_shards i;
  few_liars = is_prop→PathP (λ i. f i ≤ MOST_LIARS) (λ i p q. le_prop p q) a.few_liars b.few_liars i;
  few_dummies = is_prop→PathP (λ i. dummies i ≤ MOST_DUMMIES) (λ i p q. le_prop p q) a.few_dummies b.few_dummies i;
  some_version = is_prop→PathP (λ i. 1 ≤ version i) (λ i p q. le_prop p q) a.some_version b.some_version i;
  few_versions = is_prop→PathP (λ i. version i ≤ LAST_VERSION) (λ i p q. le_prop p q) a.few_versions b.few_versions i;
}

-- no number of a configuration is out of its range
pub first_out-config : (config : Config) → first_out_in config.shards config.f config.dummies config.version ≡ None
first_out-config config =
    let some = config.some_shard in
    let shards = config.few_shards in
    let liars = config.few_liars in
    let dummies = config.few_dummies in
    let version = config.some_version in
    let versions = config.few_versions in
    grind (arith, nat_tests)

pub config_in-config : (config : Config) → config_in config.shards config.f config.dummies config.version ≡ config
config_in-config config =
    let some = config.some_shard in
    let shards = config.few_shards in
    let liars = config.few_liars in
    let dummies = config.few_dummies in
    let version = config.some_version in
    let versions = config.few_versions in
    config_same _ _ (omega arith) (omega arith) (omega arith) (omega arith)

-- a configuration is the one of its numbers
pub configured_in-config : (config : Config) → configured_in config.shards config.f config.dummies config.version ≡ Ok config
configured_in-config config =
    ap (λ out. unless_out (config_in config.shards config.f config.dummies config.version) out) (first_out-config config) ∙ ap Ok (config_in-config config)

-- and so it is where the version is left out
pub configured-config : (config : Config) → config.version ≡ 1 → configured config.shards config.f config.dummies ≡ Ok config
configured-config config one =
    ap (λ version. configured_in config.shards config.f config.dummies version) (sym one) ∙ configured_in-config config
