-- What is printed of keys is read again.
use Rattle.std.proofs.Common.{◌≡◌, ℕ, ◌^◌, ◌<◌, ◌≤◌, true, List, [], ◌∷◌, map, Some, Ok, refl, sym, ap, ◌∙◌, arith}
use Rattle.std.specs.Prelude.{IsOkAnd}
use Rattle.std.specs.Str.{IsUtf8}
use Rattle.std.proofs.lemmas.Bool.Decides.{nat_tests}
use Rattle.hex.specs.Hex.{encode_lower}
use Rattle.hex.proofs.HexLemmas.{decode_of-encode_lower}
use Rattle.toml.specs.Data.{string, table, items_depth, members_depth, items_have_valid_dates, members_have_valid_dates}
use Rattle.toml.specs.Parse.{parse_document}
use Rattle.cs_base.specs.Version.{version_of}
use Rattle.cs_base.specs.declared.version.Version.TheVariants.{One}
use Rattle.cs_base.specs.declared.config.Config.{Config}
use Rattle.cs_base.specs.declared.node_id.NodeId.{NodeId}
use Rattle.cs_base.specs.NodeId.{is_named, node_text}
use Rattle.cs_base.proofs.NodeTexts.{node_of-node_text}
use Rattle.cs_wire.specs.Keys.{Listed, row_listed, IsOfMaster}
use Rattle.cs_wire.specs.AllNames.{names_of}
use Rattle.cs_config.specs.Reading.{each_item}
use Rattle.cs_config.specs.Items.{hex_digest}
use Rattle.cs_config.proofs.Tables.{table_of-text}
use Rattle.cs_config.specs.declared.peer.Peer.{Peer}
use Rattle.cs_config.specs.Named.{node_in}
use Rattle.cs_config.specs.Peer.{peer_in}
use Rattle.cs_config.specs.File.{me_in, peers_in, listed_keys, keys_of}
use Rattle.cs_config.specs.Printed.{IsDigest, ListedFits, AllListedFit, list_with, peer_data, peers_data, keys_data}
use Rattle.cs_config.proofs.Listed.{complete, once, rows_named}

-- ---- single values

digest_back : (digest : List ℕ) → IsDigest digest → hex_digest (string (encode_lower digest)) ≡ Some digest
digest_back digest fits = rw (decode_of-encode_lower digest fits.bytes, fits.size) refl

name_back : (name : NodeId) → name.shard < 2 ^ 16 → name.index < 2 ^ 16 → node_in (string (node_text name)) ≡ Some name
name_back name shard index = node_of-node_text name shard index

peer_back : (x : Listed) → ListedFits x → peer_in (table (peer_data x)) ≡ Some (record { 0 = x })
peer_back x fits = rw (name_back x.0 fits.shard fits.index, digest_back x.1 fits.to, digest_back x.2 fits.from) refl

-- ---- the file

wrapped : List Listed → List Peer
wrapped list = map (λ x. record { 0 = x }) list

each_back : (list : List Listed) → AllListedFit list → each_item peer_in (peers_data list) ≡ Some (map (λ x. record { 0 = x }) list)
each_back [] fits = refl
each_back (x ∷ list) fits = rw (peer_back x fits.0, each_back list fits.1) refl

unwrapped : (list : List Listed) → map (λ (p : Peer). p.0) (map (λ x. record { 0 = x }) list) ≡ list
unwrapped [] = refl
unwrapped (x ∷ list) = ap (λ l. x ∷ l) (unwrapped list)

peers_back : (me : NodeId) (list : List Listed) → AllListedFit list → peers_in (keys_data me list) ≡ Ok list
peers_back me list fits = rw (each_back list fits) (ap Ok (unwrapped list))

-- names have 16 bits
small_name : (config : Config) (name : NodeId) → is_named config name ≡ true → (name.shard < 2 ^ 16) × (name.index < 2 ^ 16)
small_name config name named =
    let few = config.few_shards in
    let liars = config.few_liars in
    (grind (arith, nat_tests), grind (arith, nat_tests))

me_back : (config : Config) (me : NodeId) (list : List Listed) → is_named config me ≡ true → me_in config (keys_data me list) ≡ Ok me
me_back config me list named =
    let small = small_name config me named in
    rw (name_back me small.0 small.1, named) refl

-- ---- what the printer asks

flat_peers : (list : List Listed) → items_depth (peers_data list) ≤ 1
flat_peers [] = omega arith
flat_peers (x ∷ list) = let rest = flat_peers list in omega arith

pub flat : (me : NodeId) (list : List Listed) → members_depth (keys_data me list) ≤ 3
flat me list = let peers = flat_peers list in omega arith

undated_peers : (list : List Listed) → items_have_valid_dates (peers_data list) ≡ true
undated_peers [] = refl
undated_peers (x ∷ list) = undated_peers list

pub undated : (me : NodeId) (list : List Listed) → members_have_valid_dates (keys_data me list) ≡ true
undated me list = rw (undated_peers list) refl

-- ---- keys

keys_back : (config : Config) (master : List ℕ) (me : NodeId) → listed_keys config me (list_with master me (names_of config)) ≡ Ok (record { me = me; rows = map row_listed (list_with master me (names_of config)); version = One })
keys_back config master me = rw (complete master me config, once master me config) refl

pub file_back : (config : Config) (master : List ℕ) (me : NodeId) (list : List Listed) (text : List ℕ) → is_named config me ≡ true → list ≡ list_with master me (names_of config) → AllListedFit list → IsUtf8 text → parse_document text ≡ Some (keys_data me list)
    → config.version ≡ 1 → IsOkAnd (keys_of config text) (IsOfMaster config master me)
file_back config master me list text named is fits utf8 parsed first =
    let whole : keys_of config text ≡ Ok (record { me = me; rows = map row_listed (list_with master me (names_of config)); version = One }) =
    rw (table_of-text text (Some (keys_data me list)) utf8 parsed, me_back config me list named, peers_back me list fits) (ap (listed_keys config me) is ∙ keys_back config master me) in
    rw whole (record { me = refl; version = sym (ap version_of first); rows = rows_named master me config })
