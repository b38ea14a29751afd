-- The keys under which the fields of files stand.
use Rattle.std.specs.Prelude.{ℕ, List, codes}
use Rattle.cs_config.specs.declared.error.FileField.{FileField}
use Rattle.cs_config.specs.declared.error.FileField.TheVariants as field

abbrev pub field_name : FileField → List ℕ
field_name field.Shards = codes "shards"
field_name field.Faulty = codes "faulty"
field_name field.Dummies = codes "dummies"
field_name field.BasePort = codes "base_port"
field_name field.Contracts = codes "contracts"
field_name field.Genesis = codes "genesis"
field_name field.Me = codes "me"
field_name field.Peers = codes "peers"
field_name field.Contract = codes "contract"
field_name field.Method = codes "method"
field_name field.Inputs = codes "inputs"
field_name field.Reads = codes "reads"
field_name field.Args = codes "args"
field_name field.Number = codes "number"
field_name field.Site = codes "site"
field_name field.Master = codes "master"
field_name field.Turns = codes "turns"
field_name field.Calls = codes "calls"
field_name field.Hosts = codes "hosts"
field_name field.Tick = codes "tick"
field_name field.Transaction = codes "transaction"
