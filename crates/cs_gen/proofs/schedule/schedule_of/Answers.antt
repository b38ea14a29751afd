use Rattle.std.proofs.Common.{◌≡◌, ◌<◌, ◌^◌, ◌+◌, ℕ, List, length, map, ap, sym, subst, ◌∙◌, arith}
use Rattle.std.specs.List.{All}
use Rattle.cs_gen.specs.Coins.{coin}
use Rattle.cs_gen.specs.Rounds.{events_below}
use Rattle.cs_gen.proofs.Worths.{worths-fit, length-worths}
use Rattle.cs_gen.proofs.Whole.{whole}
use Rattle.cs_gen.proofs.schedule.schedule_of.Goals as goal

pub coins-requires-clause-worths : goal.coins-requires-clause-worths
coins-requires-clause-worths c =
    subst (λ (worths : List ℕ). All (λ worth. worth < 2 ^ 63) worths) (sym (c.deref.ensures.value ∙ c.in_ok-worths.ensures.worths)) (worths-fit c.draw_master.new.draws.state c.args.size)

pub draw_events-requires-clause-few : goal.draw_events-requires-clause-few
draw_events-requires-clause-few c =
    let count : length c.deref-2.result.now ≡ c.args.size = ap length (c.deref-2.ensures.value ∙ c.in_ok-worths.ensures.worths) ∙ length-worths c.draw_master.new.draws.state c.args.size in
    omega (arith, count, c.requires)

pub draw_events-requires-clause-worths : goal.draw_events-requires-clause-worths
draw_events-requires-clause-worths c =
    subst (λ (worths : List ℕ). All (λ worth. worth < 2 ^ 63) worths) (sym (c.deref-2.ensures.value ∙ c.in_ok-worths.ensures.worths)) (worths-fit c.draw_master.new.draws.state c.args.size)

pub returns : goal.returns
returns c = whole c.args.number c.args.size c.layout.result c.in_ok-master.master c.new.result c.new-2.result _ c.in_ok-numbered.field-0 (record {
  start = c.new-draws.result.state;
  first = c.draw_master.new.draws.state;
  last = c.draw_worths.new.draws.state;
  line = 6 + c.from.result;
  worths = c.in_ok-worths.worths.items;
  plain = c.in_ok-events.events.items;
  begins = c.new-draws.ensures;
  of_config = c.layout.ensures;
  of_master = c.in_ok-master.ensures.master;
  of_first = c.in_ok-master.ensures.state;
  of_worths = c.in_ok-worths.ensures.worths;
  of_last = c.in_ok-worths.ensures.state;
  of_liars = c.new.ensures;
  of_contracts = c.new-2.ensures;
  of_genesis = c.genesis.view_is ∙ c.in_ok-genesis.ensures ∙ ap (map coin) c.deref.ensures.value;
  of_plain = c.in_ok-events.ensures ∙ ap (λ (worths : List ℕ). events_below c.draw_worths.new.draws.state worths (length worths)) c.deref-2.ensures.value;
  of_line = ap (λ (n : ℕ). 6 + n) c.from.ensures;
  of_events = c.in_ok-numbered.ensures;
})
