use Rattle.cs_table.specs.Effects.{effect_of}
use Rattle.cs_replay_play.specs.Kept.{with_abort}
use Rattle.cs_replay_play.proofs.Histories.{keeps-on_ok}
use Rattle.cs_replay_play.proofs.history.History.execute.Goals as goal

pub returns-clause-kept : goal.returns-clause-kept
returns-clause-kept c = λ setup firsts within k.
    let effect = effect_of c.args.effect in
    keeps-on_ok setup c.args.self.now c.enter.new.self c.note_abort.new.self (with_abort c.args.entry.now effect c.enter.new.self.aborted) firsts c.args.shard c.args.slot c.args.place c.args.entry.now effect
    c.note_abort.result k within c.in_ok-enter.ensures.kept c.note_abort.ensures
