use Rattle.std.proofs.Common.{List, sym, subst}
use Rattle.cs_node_rules.specs.Signs.{Sign}
use Rattle.cs_node_rules.specs.Trail.{handed, out_signs}
use Rattle.cs_node.specs.Cores.{site_at}
use Rattle.cs_node.specs.Notes.{TellsSigns}
use Rattle.cs_node.proofs.Sums.{tells-more}
use Rattle.cs_node.proofs.Turns.{handed-push}
use Rattle.cs_node.proofs.handing.hand_out.Goals as goal

pub loop-out-preserved : goal.loop-out-preserved
loop-out-preserved g c = λ net genesis approves first.
    let site = site_at g.O.Order.rules g.O.Carried.carrier net c.args.sbac.now genesis approves in
    let me = c.args.sbac.now.me in
    let out = c.in-Some.out in
    let P : List Sign → Type 0 = λ signs. TellsSigns signs c.args.draft.now c.say_out.new.draft in
    subst P (sym (handed-push site me c.loop-out.yielded out))
    (tells-more (handed site me c.loop-out.yielded) (out_signs site me out.to out.message) c.args.draft.now c.loop-out.draft c.say_out.new.draft (c.loop-out.invariant net genesis approves first) (c.in_ok-say_out.ensures net genesis approves first))
