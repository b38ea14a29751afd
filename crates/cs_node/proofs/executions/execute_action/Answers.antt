use Rattle.std.proofs.Common.{◌≡◌, ◌++◌, ◌∷◌, [], List, is_some, ap, sym, subst, ◌∙◌}
use Rattle.cs_check.specs.Archives.{Archived}
use Rattle.cs_check_rules.specs.Chain.{Log, KeptLog, empty_log}
use Rattle.cs_node_state.specs.Setup.{is_fit}
use Rattle.cs_node_state.specs.Bench.{Bench, with_leaf}
use Rattle.cs_node_rules.specs.Signs.{Sign, vote_signs}
use Rattle.cs_node_pool.specs.Deployed.{deployed_setup}
use Rattle.cs_sbac.specs.Held.{Held, bench_of}
use Rattle.cs_node.specs.declared.draft.Note.TheVariants.{Executed}
use Rattle.cs_node.specs.Notes.{TellsSigns}
use Rattle.cs_node.proofs.Executing.{bench_closed, ran-makes, voted-fit}
use Rattle.cs_node.proofs.Noting.{effect-again}
use Rattle.cs_node.proofs.executions.execute_action.Goals as goal

pub returns-clause-runs : goal.returns-clause-runs
returns-clause-runs c = λ approves genesis log kept_is.
    let held = c.args.sbac.now in
    let setup = deployed_setup held.config genesis approves in
    let me = held.me in
    let old : Bench = bench_of log held in
    let action = c.args.action in
    let ran = c.in_ok-outcome.ensures genesis approves log in
    let left = ap (λ (a : Archived). a.kept) ran.archived_stays ∙ kept_is in
    let closing = c.in_ok-made.ensures.bench log left in
    let slot_is = c.slots.ensures ∙ ap (λ (k : KeptLog). k.slots) left in
    let result_is = effect-again _ _ ran.effect_is in
    let after : Log = (with_leaf (record { slot = c.slots.result; place = 0; action = action; result = c.in_ok-outcome.outcome.effect }) (bench_of log c.execute.new.self)).log in
    let new : Bench = bench_of after c.forget_touched.new.self in
    let closed : new ≡ bench_closed setup me old action =
    ap (λ (h : Held). bench_of after h) c.forget_touched.ensures ∙ closing.bench_is ∙ (λ i. with_leaf (record { slot = slot_is i; place = 0; action = action; result = result_is i }) (ran.bench_is i)) in
    let config_is = ap (λ (h : Held). h.config) c.forget_touched.ensures ∙ c.in_ok-made.ensures.config ∙ ran.config_stays in
    let me_is = ap (λ (h : Held). h.me) c.forget_touched.ensures ∙ c.in_ok-made.ensures.me ∙ ran.me_stays in
    let S : List Sign → Type 0 = λ signs. TellsSigns signs c.args.draft.now c.say_vote.new.draft in
    let said = subst S (λ i. vote_signs (deployed_setup (ran.config_stays i) genesis approves) (ran.me_stays i) (c.session.ensures.is i) (ran.voted_is i)) (c.in_ok-say_vote.ensures genesis approves) in
    let noted = c.in_ok-note_execution.ensures.notes ∙ ap (λ effect. c.say_vote.new.draft.notes ++ Executed c.args.slot c.args.place action effect ∷ []) result_is in
    record {
      leaves = record {
        log = after;
        kept_is = ap (λ (h : Held). h.archived.kept) c.forget_touched.ensures ∙ closing.kept_is;
        config_is = config_is;
        me_is = me_is;
        makes = ran-makes setup me old new c.args.slot c.args.place action c.args.draft.now c.say_vote.new.draft c.note_execution.new.self closed said noted c.in_ok-note_execution.ensures.said;
      };
      made_is = c.in_ok-made.ensures.made log left;
    }

pub say_vote-requires-clause-fit : goal.say_vote-requires-clause-fit
say_vote-requires-clause-fit c = λ some genesis approves.
    let setup = deployed_setup c.args.sbac.now.config genesis approves in
    let me = c.args.sbac.now.me in
    let ran = c.in_ok-outcome.ensures genesis approves (empty_log 0) in
    let told = sym (ap is_some ran.voted_is) ∙ some in
    let fit = voted-fit setup me.shard (bench_of (empty_log 0) c.args.sbac.now) c.args.action told in
    (λ i. is_fit (deployed_setup (ran.config_stays i) genesis approves) (ran.me_stays i).shard (c.session.ensures.is i)) ∙ fit
