use Rattle.std.proofs.Common.{sym, ◌∙◌, below_more, arith}
use Rattle.cs_replay_play.proofs.Views.{get-read, name-same, name-equal}
use Rattle.cs_replay_play.proofs.cores.place_of.Goals as goal

pub returns-then-eq-clause-named : goal.returns-then-eq-clause-named
returns-then-eq-clause-named g c = λ site views each.
    sym (c.me.ensures site (views c.loop-place.place) (each c.loop-place.place c.index-cores-place.result (get-read c.args.cores.now c.loop-place.place c.index-cores-place.result c.loop-place-test.true c.index-cores-place.is)))
    ∙ name-same c.me.result c.args.name (sym c.eq.ensures ∙ c.if-eq.true)

pub loop-place-preserved : goal.loop-place-preserved
loop-place-preserved g c = λ site views each.
    below_more _ _ (c.loop-place.invariant site views each) (λ named.
    let at = c.me.ensures site (views c.loop-place.place) (each c.loop-place.place c.index-cores-place.result (get-read c.args.cores.now c.loop-place.place c.index-cores-place.result c.loop-place-test.true c.index-cores-place.is)) in
    let yes = sym (name-equal c.me.result c.args.name (at ∙ named)) ∙ sym c.eq.ensures ∙ c.if-eq.false in
    cc)

pub returns-clause-none : goal.returns-clause-none
returns-clause-none g c = λ site views each i within. c.loop-place.invariant site views each i (omega arith)
