use Rattle.cs_table.specs.Genesis.{twice}
use Rattle.cs_tx.specs.GenesisNames.{genesis_names}
use Rattle.cs_sbac.proofs.Fit.{keyed-fit}
use Rattle.cs_sbac.proofs.Apart.{none-twice}
use Rattle.cs_node_run.proofs.Apart.{names-same, never-refused}
use Rattle.cs_node_run.proofs.starting.start.Goals as goal

pub start-requires-clause-objects : goal.start-requires-clause-objects
start-requires-clause-objects g c =
    let (objects, is) = c.requires.genesis in
    keyed-fit objects c.args.genesis.now is.keyed is.fits

pub unreachable-requires : goal.unreachable-requires
unreachable-requires g c =
    let (objects, is) = c.requires.genesis in
    let shards = c.args.config.shards in
    let shard = c.args.keys.me.shard in
    let none = none-twice shards shard objects c.args.genesis.now (genesis_names 0 objects) is.keyed (names-same 0 objects) is.differ in
    never-refused (twice shards shard c.args.genesis.now) c.start.result c.in-Err-Duplicate.field-0 c.in-Err-Duplicate.field-0-0 none c.in-Err-Duplicate.is c.in-Err-Duplicate.field-0-is c.start.ensures.starts

pub returns-in-Ok : goal.returns-in-Ok
returns-in-Ok g c = λ objects is net speaks. c.in-Ok.ensures.stands objects is net speaks
