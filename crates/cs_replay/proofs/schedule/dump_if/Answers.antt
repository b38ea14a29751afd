use Rattle.std.proofs.Common.{◌≡◌, Bool, cond, [], IfOk, ap, sym, subst, ◌∙◌, string_bytes}
use Rattle.cs_replay_rules.specs.Dumps.{dump_text}
use Rattle.cs_replay_play.specs.Standing.{site_in}
use Rattle.cs_replay.proofs.schedule.dump_if.Goals as goal

pub returns-then-dumps : goal.returns-then-dumps
returns-then-dumps g c = λ s p st setup.
    let site = site_in g.O.Order.rules g.O.Carried.carrier s in
    subst (λ (b : Bool). IfOk c.dump_text.result (λ text. string_bytes text ≡ cond b (dump_text site c.args.schedule.now.contracts p.world) [])) (sym c.if-dumps.true) (c.dump_text.ensures s p st setup)

pub returns-else-dumps : goal.returns-else-dumps
returns-else-dumps g c = λ s p st setup.
    let site = site_in g.O.Order.rules g.O.Carried.carrier s in
    c.new.ensures.bytes ∙ sym (ap (λ b. cond b (dump_text site c.args.schedule.now.contracts p.world) []) c.if-dumps.false)
