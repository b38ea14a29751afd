use Rattle.std.proofs.Common.{ℕ, List, Option, refl}
use Rattle.cs_io.specs.Outside.{Object}
use Rattle.cs_cli.specs.declared.words.Command.TheVariants.{Replay, Contract, Try, Verify, Audit, Simulate, Help, Version, Wallet, Transaction, ReadKeys, Deploy}
use Rattle.cs_cli.proofs.Sources.{kept}
use Rattle.cs_cli.proofs.Doing.{does-so, wallet-does, read-keys-does, try-does}
use Rattle.cs_cli.proofs.Leaving.{leaves-so}
use Rattle.cs_cli.proofs.program.answer.Goals as goal

pub returns-in-Replay-clause-does : goal.returns-in-Replay-clause-does
returns-in-Replay-clause-does g c =
    does-so _ _ _ _ (Replay c.in-Replay.mode) c.args.command c.in-Replay.is (record { replays = c.replay_source.ensures.replay; complete = c.replay_source.ensures.complete })

pub returns-in-Contract-clause-does : goal.returns-in-Contract-clause-does
returns-in-Contract-clause-does g c =
    does-so _ _ _ _ (Contract c.in-Contract.mode) c.args.command c.in-Contract.is (record { tells = c.tell_source.ensures.tells; whole = c.tell_source.ensures.whole })

pub returns-in-Verify-clause-does : goal.returns-in-Verify-clause-does
returns-in-Verify-clause-does g c = does-so _ _ _ _ Verify c.args.command c.in-Verify.is (record { gives = c.examine_source.ensures.gives; whole = c.examine_source.ensures.whole })

pub returns-in-Audit-clause-does : goal.returns-in-Audit-clause-does
returns-in-Audit-clause-does g c = does-so _ _ _ _ Audit c.args.command c.in-Audit.is (record { gives = c.examine_source-in-Audit.ensures.gives; whole = c.examine_source-in-Audit.ensures.whole })

pub simulate-requires : goal.simulate-requires
simulate-requires g c = c.requires c.in-Simulate.number c.in-Simulate.size c.in-Simulate.is

pub returns-in-Simulate-clause-does : goal.returns-in-Simulate-clause-does
returns-in-Simulate-clause-does g c =
    does-so _ _ _ _ (Simulate c.in-Simulate.number c.in-Simulate.size) c.args.command c.in-Simulate.is
    (record { answers = c.simulate.ensures.answers; whole = c.simulate.ensures.whole; unread = kept (g.S.Source.left c.args.input.now) })

pub returns-in-Help-clause-does : goal.returns-in-Help-clause-does
returns-in-Help-clause-does g c =
    does-so _ _ _ _ (Help c.in-Help.topic) c.args.command c.in-Help.is
    (record { answers = c.tell_help.ensures.answers; whole = c.tell_help.ensures.whole; unread = kept (g.S.Source.left c.args.input.now) })

pub returns-in-Version-clause-does : goal.returns-in-Version-clause-does
returns-in-Version-clause-does g c =
    does-so _ _ _ _ Version c.args.command c.in-Version.is
    (record { answers = c.tell_version.ensures.answers; whole = c.tell_version.ensures.whole; unread = kept (g.S.Source.left c.args.input.now) })

pub returns-in-Try-clause-does : goal.returns-in-Try-clause-does
returns-in-Try-clause-does g c =
    try-does _ _ _ _ c.in-Try.file _ c.args.command c.in-Try.is c.word_at.ensures (record { runs = c.run_try.ensures.runs; kept = c.run_try.ensures.kept; whole = c.run_try.ensures.whole })

pub returns-in-Wallet-clause-does : goal.returns-in-Wallet-clause-does
returns-in-Wallet-clause-does g c =
    wallet-does _ _ _ _ c.in-Wallet.call _ c.args.command c.in-Wallet.is c.word_at-in-Wallet.ensures (record { runs = c.run_wallet.ensures.runs; whole = c.run_wallet.ensures.whole })

pub returns-in-Transaction-clause-does : goal.returns-in-Transaction-clause-does
returns-in-Transaction-clause-does g c =
    does-so _ _ _ _ (Transaction c.in-Transaction.number) c.args.command c.in-Transaction.is (record { runs = c.run_transaction.ensures.runs; whole = c.run_transaction.ensures.whole })

pub returns-in-ReadKeys-clause-does : goal.returns-in-ReadKeys-clause-does
returns-in-ReadKeys-clause-does g c =
    read-keys-does _ _ _ _ c.in-ReadKeys.site _ c.args.command c.in-ReadKeys.is c.word_at-in-ReadKeys.ensures (record { runs = c.run_keys_read.ensures.runs; whole = c.run_keys_read.ensures.whole })

pub returns-in-Deploy-clause-does : goal.returns-in-Deploy-clause-does
returns-in-Deploy-clause-does g c =
    let source : Object (Option (List ℕ)) = record { told = g.S.Source.left c.args.input.now; faults = g.S.Source.faults c.args.input.now } in
    does-so _ _ _ _ (Deploy c.in-Deploy.deployment) c.args.command c.in-Deploy.is (c.deploy.ensures.deploys source source)

pub returns-in-Replay-clause-alone : goal.returns-in-Replay-clause-alone
returns-in-Replay-clause-alone g c = leaves-so _ _ (Replay c.in-Replay.mode) c.args.command c.in-Replay.is (refl, (refl, refl))

pub returns-in-Contract-clause-alone : goal.returns-in-Contract-clause-alone
returns-in-Contract-clause-alone g c = leaves-so _ _ (Contract c.in-Contract.mode) c.args.command c.in-Contract.is (refl, (refl, refl))

pub returns-in-Verify-clause-alone : goal.returns-in-Verify-clause-alone
returns-in-Verify-clause-alone g c = leaves-so _ _ Verify c.args.command c.in-Verify.is (refl, (refl, refl))

pub returns-in-Audit-clause-alone : goal.returns-in-Audit-clause-alone
returns-in-Audit-clause-alone g c = leaves-so _ _ Audit c.args.command c.in-Audit.is (refl, (refl, refl))

pub returns-in-Simulate-clause-alone : goal.returns-in-Simulate-clause-alone
returns-in-Simulate-clause-alone g c = leaves-so _ _ (Simulate c.in-Simulate.number c.in-Simulate.size) c.args.command c.in-Simulate.is (refl, (refl, (refl, refl)))

pub returns-in-Help-clause-alone : goal.returns-in-Help-clause-alone
returns-in-Help-clause-alone g c = leaves-so _ _ (Help c.in-Help.topic) c.args.command c.in-Help.is (refl, (refl, (refl, refl)))

pub returns-in-Version-clause-alone : goal.returns-in-Version-clause-alone
returns-in-Version-clause-alone g c = leaves-so _ _ Version c.args.command c.in-Version.is (refl, (refl, (refl, refl)))

pub returns-in-Try-clause-alone : goal.returns-in-Try-clause-alone
returns-in-Try-clause-alone g c = leaves-so _ _ (Try c.in-Try.file) c.args.command c.in-Try.is (refl, refl)

pub returns-in-Wallet-clause-alone : goal.returns-in-Wallet-clause-alone
returns-in-Wallet-clause-alone g c = leaves-so _ _ (Wallet c.in-Wallet.call) c.args.command c.in-Wallet.is (refl, (refl, refl))

pub returns-in-Transaction-clause-alone : goal.returns-in-Transaction-clause-alone
returns-in-Transaction-clause-alone g c = leaves-so _ _ (Transaction c.in-Transaction.number) c.args.command c.in-Transaction.is (refl, (refl, refl))

pub returns-in-ReadKeys-clause-alone : goal.returns-in-ReadKeys-clause-alone
returns-in-ReadKeys-clause-alone g c = leaves-so _ _ (ReadKeys c.in-ReadKeys.site) c.args.command c.in-ReadKeys.is (refl, refl)

pub returns-in-Deploy-clause-alone : goal.returns-in-Deploy-clause-alone
returns-in-Deploy-clause-alone g c =
    let source : Object (Option (List ℕ)) = record { told = g.S.Source.left c.args.input.now; faults = g.S.Source.faults c.args.input.now } in
    leaves-so _ _ (Deploy c.in-Deploy.deployment) c.args.command c.in-Deploy.is (c.deploy.ensures.alone source)
