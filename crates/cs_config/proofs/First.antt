-- The keys of a key file are of version 1, and so is the configuration of a site file.
use Rattle.std.specs.Prelude.{◌≡◌, ℕ, ℤ, Bool, true, false, ◌&&◌, is_none, cond, List, [], map, Result, Ok, Err}
use Rattle.std.proofs.Common.{refl, subst}
use Rattle.cs_base.specs.declared.config.Config.{Config}
use Rattle.cs_base.specs.declared.node_id.NodeId.{NodeId}
use Rattle.cs_base.specs.Config.{config_of}
use Rattle.cs_base.specs.declared.limits.TheConstants.{MOST_SHARDS, MOST_LIARS, MOST_DUMMIES, MOST_GENESIS}
use Rattle.cs_base.specs.declared.version.Version.TheVariants.{One}
use Rattle.cs_wire.specs.declared.keys.Keys.{Keys}
use Rattle.cs_wire.specs.Keys.{Listed, row_listed, peer_twice}
use Rattle.cs_config.specs.declared.error.ConfigError.{ConfigError}
use Rattle.cs_config.specs.declared.error.FileField.TheVariants as field
use Rattle.cs_config.specs.declared.error.ConfigError.TheVariants.{Field}
use Rattle.cs_config.specs.Reading.{◌>>=◌, toml_table_of, number_between, few_of}
use Rattle.cs_config.specs.declared.limits.TheConstants.{LEAST_BASE_PORT, MOST_BASE_PORT, MOST_CONTRACTS}
use Rattle.cs_config.specs.Complete.{is_complete}
use Rattle.cs_config.specs.File.{me_in, peers_in, listed_keys, keys_of}
use Rattle.cs_config.specs.declared.site.Site.{Site}
use Rattle.cs_config.specs.declared.site.SiteDraft.{SiteDraft}
use Rattle.cs_config.specs.Site.{site_of_file, site_draft_of, site_within, config_within}

past : {A B : Type 0} (r : Result A ConfigError) (f : A → Result B ConfigError) (y : B) → (r >>= f) ≡ Ok y → (x : A) × (f x ≡ Ok y)
past {A} {B} (Ok x) f y is = (x, is)
past {A} {B} (Err e) f y is = absurd (let q : Err e ≡ Ok y = is in cc)

-- and what came
passed : {A B : Type 0} (r : Result A ConfigError) (f : A → Result B ConfigError) (y : B) → (r >>= f) ≡ Ok y → (x : A) × ((r ≡ Ok x) × (f x ≡ Ok y))
passed {A} {B} (Ok x) f y is = (x, (refl, is))
passed {A} {B} (Err e) f y is = absurd (let q : Err e ≡ Ok y = is in cc)

listed_first : (config : Config) (me : NodeId) (list : List Listed) (keys : Keys) → listed_keys config me list ≡ Ok keys → keys.version ≡ One
listed_first config me list keys is = by (is_complete config me list && is_none (peer_twice me [] 0 list)) is
  where
    by : (whole : Bool) → cond whole (Ok (record { me = me; rows = map row_listed list; version = One })) (Err (Field field.Peers)) ≡ Ok keys → keys.version ≡ One
    by true is =
        let made : Keys = record { me = me; rows = map row_listed list; version = One } in
        let same : made ≡ keys = cc in
        subst (λ (k : Keys). k.version ≡ One) same refl
    by false is = absurd (cc)

pub file_first : (config : Config) (text : List ℕ) (keys : Keys) → keys_of config text ≡ Ok keys → keys.version ≡ One
file_first config text keys is =
    let members = past (toml_table_of text) _ keys is in
    let me = past (me_in config members.0) _ keys members.1 in
    let list = past (peers_in members.0) _ keys me.1 in
    listed_first config me.0 list.0 keys list.1

config_first : (shards faulty dummies : ℤ) (config : Config) → config_within shards faulty dummies ≡ Ok config → config.version ≡ 1
config_first shards faulty dummies config is =
    let some = past (number_between field.Shards 1 MOST_SHARDS shards) (λ s. number_between field.Faulty 0 MOST_LIARS faulty >>= (λ q. number_between field.Dummies 0 MOST_DUMMIES dummies >>= (λ d. Ok (config_of s q d)))) config is in
    let few = past (number_between field.Faulty 0 MOST_LIARS faulty) (λ q. number_between field.Dummies 0 MOST_DUMMIES dummies >>= (λ d. Ok (config_of some.0 q d))) config some.1 in
    let rest = past (number_between field.Dummies 0 MOST_DUMMIES dummies) (λ d. Ok (config_of some.0 few.0 d)) config few.1 in
    let made : Config = config_of some.0 few.0 rest.0 in
    let whole : ◌≡◌ {A = Result Config ConfigError} (Ok made) (Ok config) = rest.1 in
    let same : made ≡ config = cc in
    subst (λ (c : Config). c.version ≡ 1) same refl

site_within_first : (draft : SiteDraft) (site : Site) → site_within draft ≡ Ok site → site.config.version ≡ 1
site_within_first draft site is =
    let config = passed (config_within draft.shards draft.faulty draft.dummies) _ site is in
    let port = past (number_between field.BasePort LEAST_BASE_PORT MOST_BASE_PORT draft.base_port) _ site config.1.1 in
    let contracts = past (few_of field.Contracts MOST_CONTRACTS draft.contracts) _ site port.1 in
    let genesis = past (few_of field.Genesis MOST_GENESIS draft.genesis) _ site contracts.1 in
    let made : Site = record { config = config.0; base_port = port.0; contracts = contracts.0; genesis = genesis.0 } in
    let whole : ◌≡◌ {A = Result Site ConfigError} (Ok made) (Ok site) = genesis.1 in
    let same : made ≡ site = cc in
    subst (λ (s : Site). s.config.version ≡ 1) same (config_first draft.shards draft.faulty draft.dummies config.0 config.1.0)

pub site_first : (text : List ℕ) (site : Site) → site_of_file text ≡ Ok site → site.config.version ≡ 1
site_first text site is =
    let members = past (toml_table_of text) _ site is in
    let draft = past (site_draft_of members.0) _ site members.1 in
    site_within_first draft.0 site draft.1
