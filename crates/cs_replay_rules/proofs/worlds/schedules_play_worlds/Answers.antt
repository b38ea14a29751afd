-- Each event adds what its node does on bytes that are not forged.
use Rattle.cs_replay_rules.proofs.Played.{plays-worlds}
use Rattle.cs_replay_rules.proofs.worlds.schedules_play_worlds.Goals as goal

pub returns : goal.returns
returns g c = plays-worlds g.O.Order.rules g.met.O.Order.holds
