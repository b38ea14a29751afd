use Rattle.std.proofs.Common.{◌≡◌, ◌<◌, List, length, Option, refl, ap, sym, subst, ◌∙◌, arith, rules}
use Rattle.std.proofs.lemmas.Result.{on_ok_weaker}
use Rattle.std.proofs.lemmas.List.{map-id, length_push}
use Rattle.std.proofs.lemmas.Iterator.Adapters.{YieldsList-from_vec}
use Rattle.std.proofs.lemmas.Iterator.Consumers.{YieldsList-turn, YieldsList-end}
use Rattle.cs_base.specs.declared.version.Version.{Version}
use Rattle.cs_tx_types.specs.declared.action.Action.{Action}
use Rattle.cs_tx_types.specs.declared.entry.Entry.{Entry}
use Rattle.cs_node_rules.specs.Deployment.{entry_in}
use Rattle.cs_node_rules.specs.Signs.{execution_signs}
use Rattle.cs_node_rules.proofs.Entries.{some-action, few-actions, actions-fit}
use Rattle.cs_node_pool.specs.Deployed.{deployed_setup}
use Rattle.cs_sbac.specs.Held.{bench_of}
use Rattle.cs_node.specs.Executions.{RanSome}
use Rattle.cs_node.specs.Signing.{Leaves}
use Rattle.cs_node.proofs.Executing.{ran-none, ran-more, ran-all, fit-at}
use Rattle.cs_node.proofs.executions.execute.Goals as goal

pub loop-action-init : goal.loop-action-init
loop-action-init c = record {
  place_is = refl;
  covers = tt;
  runs = λ genesis approves log kept_is. ran-none genesis approves c.args.sbac.now log c.args.slot c.args.draft.now _ kept_is;
}

pub execute_action-requires : goal.execute_action-requires
execute_action-requires c =
    let all : List Action = c.in_ok-entry.entry.actions in
    let road = YieldsList-from_vec {s = c.into_iter-action-iterator.result} all (search rules) (search rules) in
    let t = YieldsList-turn road c.loop-action.yielded c.loop-action.action-iterator c.loop-action.yielded_by c.next.result c.next.new.self c.in-Some.action c.in-Some.is c.next.ensures.steps in
    fit-at all (length c.loop-action.yielded) c.in-Some.action t.0 t.1 (actions-fit c.version.result c.in_ok-entry.entry c.in_ok-entry.ensures.fits)

pub overflow_add-place : goal.overflow_add-place
overflow_add-place c =
    let all : List Action = c.in_ok-entry.entry.actions in
    let road = YieldsList-from_vec {s = c.into_iter-action-iterator.result} all (search rules) (search rules) in
    let t = YieldsList-turn road c.loop-action.yielded c.loop-action.action-iterator c.loop-action.yielded_by c.next.result c.next.new.self c.in-Some.action c.in-Some.is c.next.ensures.steps in
    omega (arith, t.0, c.loop-action.invariant.place_is, few-actions c.version.result c.in_ok-entry.entry c.in_ok-entry.ensures.fits)

pub loop-action-preserved : goal.loop-action-preserved
loop-action-preserved c = record {
  place_is = omega (arith, c.loop-action.invariant.place_is, length_push c.loop-action.yielded c.in-Some.action);
  covers = c.in_ok-made.ensures.covers;
  runs = λ genesis approves log kept_is.
      let before = c.loop-action.invariant.runs genesis approves log kept_is in
      ran-more genesis approves c.args.sbac.now log c.args.slot c.args.draft.now c.loop-action.draft c.execute_action.new.draft c.loop-action.sbac c.execute_action.new.sbac c.loop-action.yielded c.in-Some.action c.loop-action.made c.in_ok-made.made
      before c.loop-action.place c.loop-action.invariant.place_is (c.in_ok-made.ensures.runs approves genesis before.leaves.log before.leaves.kept_is);
}

pub returns : goal.returns
returns c = λ approves genesis log kept_is.
    let held = c.args.sbac.now in
    let entry : Entry = c.in_ok-entry.entry in
    let all : List Action = entry.actions in
    let road = YieldsList-from_vec {s = c.into_iter-action-iterator.result} all (search rules) (search rules) in
    let t = YieldsList-end road c.loop-action.yielded c.loop-action.action-iterator c.loop-action.yielded_by c.next.result c.next.new.self c.in-None.is c.next.ensures.steps in
    let whole : c.loop-action.yielded ≡ all = sym (map-id c.loop-action.yielded) ∙ t.0 in
    let setup = deployed_setup held.config genesis approves in
    let ran = subst (λ (actions : List Action). RanSome setup held (bench_of log held) c.loop-action.sbac c.args.draft.now c.loop-action.draft c.args.slot actions c.loop-action.made) whole (c.loop-action.invariant.runs genesis approves log kept_is) in
    let some = some-action c.version.result entry c.in_ok-entry.ensures.fits in
    let is : entry ≡ entry_in setup.version c.args.proposed.now = c.in_ok-entry.ensures.entry ∙ ap (λ (version : Version). entry_in version c.args.proposed.now) c.version.ensures in
    let P : Entry → Type 0 = λ e. Leaves setup held (execution_signs setup held.me (bench_of log held) c.args.slot e) (bench_of log held) c.loop-action.sbac c.args.draft.now c.say_made.new.draft in
    on_ok_weaker _
    (λ told. subst P is (ran-all genesis approves held log c.args.slot entry c.args.draft.now c.loop-action.draft c.say_made.new.draft c.loop-action.sbac c.loop-action.made some ran told))
    (c.say_made.ensures genesis approves)
