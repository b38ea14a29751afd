use Rattle.std.proofs.Common.{rules, true, Some, List, length, ap, sym, subst, ◌∙◌}
use Rattle.std.proofs.lemmas.List.{map-id}
use Rattle.std.proofs.lemmas.Iterator.Adapters.{YieldsList-from_vec}
use Rattle.std.proofs.lemmas.Iterator.Consumers.{YieldsList-turn, YieldsList-end}
use Rattle.cs_tx_types.specs.declared.vote.Vote.TheVariants.{Commit}
use Rattle.cs_node_rules.specs.Signs.{Sign, vote_signs}
use Rattle.cs_node_pool.specs.Deployed.{deployed_setup}
use Rattle.cs_node.specs.Notes.{TellsSigns}
use Rattle.cs_node.proofs.Sums.{tells-more}
use Rattle.cs_node.proofs.Ticked.{asked_of, asked-push, asked-locked, fits-at}
use Rattle.cs_node.proofs.sending.ask_again.Goals as goal

pub ask_votes-requires : goal.ask_votes-requires
ask_votes-requires c =
    let all = c.in_ok-sessions.sessions.items in
    let road = YieldsList-from_vec {s = c.into_iter-session-iterator.result} all (search rules) (search rules) in
    let t = YieldsList-turn road c.loop-session.yielded c.loop-session.session-iterator c.loop-session.yielded_by c.next.result c.next.new.self c.in-Some.session c.in-Some.is c.next.ensures.steps in
    fits-at all (length c.loop-session.yielded) c.in-Some.session t.0 t.1 c.in_ok-sessions.ensures.fits

pub loop-session-preserved : goal.loop-session-preserved
loop-session-preserved c = λ genesis approves.
    let setup = deployed_setup c.args.sbac.now.config genesis approves in
    let me = c.args.sbac.now.me in
    let x = c.in-Some.session in
    let P : List Sign → Type 0 = λ signs. TellsSigns signs c.args.draft.now c.ask_votes.new.draft in
    subst P (sym (asked-push setup me c.loop-session.yielded x))
    (tells-more (asked_of setup me c.loop-session.yielded) (vote_signs setup me x (Some (Commit, true))) c.args.draft.now c.loop-session.draft c.ask_votes.new.draft (c.loop-session.invariant genesis approves) (c.in_ok-ask_votes.ensures genesis approves))

pub returns : goal.returns
returns c = λ genesis approves.
    let all = c.in_ok-sessions.sessions.items in
    let road = YieldsList-from_vec {s = c.into_iter-session-iterator.result} all (search rules) (search rules) in
    let t = YieldsList-end road c.loop-session.yielded c.loop-session.session-iterator c.loop-session.yielded_by c.next.result c.next.new.self c.in-None.is c.next.ensures.steps in
    let setup = deployed_setup c.args.sbac.now.config genesis approves in
    let me = c.args.sbac.now.me in
    let is = sym (map-id c.loop-session.yielded) ∙ t.0 ∙ c.in_ok-sessions.ensures.sessions in
    let P : List Sign → Type 0 = λ signs. TellsSigns signs c.args.draft.now c.loop-session.draft in
    subst P (ap (asked_of setup me) is ∙ asked-locked setup me c.args.sbac.now.pool) (c.loop-session.invariant genesis approves)
