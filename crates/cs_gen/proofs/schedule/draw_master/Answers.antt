use Rattle.std.proofs.Common.{refl, sym, ◌∙◌}
use Rattle.cs_gen.proofs.States as states
use Rattle.cs_gen.proofs.Masters.{four, numbers-length, of_states}
use Rattle.cs_gen.proofs.schedule.draw_master.Goals as goal

pub copy_from_slice-requires : goal.copy_from_slice-requires
copy_from_slice-requires c =
    let all = four c.advance.result c.advance-2.result c.advance-3.result c.advance-4.result _ _ _ _ _ c.new-out.ensures c.in_ok-u64.ensures.ok c.in_ok-u64-2.ensures.ok c.in_ok-u64-3.ensures.ok c.in_ok-u64-4.ensures.ok in
    numbers-length c.advance.result c.advance-2.result c.advance-3.result c.advance-4.result c.deref.result.now (c.deref.ensures.value ∙ c.into_bytes.ensures ∙ all)

pub returns-clause-master : goal.returns-clause-master
returns-clause-master c =
    let state = c.args.draws.now.state in
    let a = states.one state c.advance.new.self.state c.advance.ensures.state in
    let b = states.next state 1 2 _ c.advance-2.new.self.state a c.advance-2.ensures.state refl in
    let d = states.next state 2 3 _ c.advance-3.new.self.state b c.advance-3.ensures.state refl in
    let e = states.next state 3 4 _ c.advance-4.new.self.state d c.advance-4.ensures.state refl in
    let all = four c.advance.result c.advance-2.result c.advance-3.result c.advance-4.result _ _ _ _ _ c.new-out.ensures c.in_ok-u64.ensures.ok c.in_ok-u64-2.ensures.ok c.in_ok-u64-3.ensures.ok c.in_ok-u64-4.ensures.ok in
    c.copy_from_slice.ensures.after ∙ c.deref.ensures.value ∙ c.into_bytes.ensures ∙ all
    ∙ of_states state c.advance.result c.advance-2.result c.advance-3.result c.advance-4.result
    (c.advance.ensures.given ∙ sym c.advance.ensures.state ∙ a) (c.advance-2.ensures.given ∙ sym c.advance-2.ensures.state ∙ b)
    (c.advance-3.ensures.given ∙ sym c.advance-3.ensures.state ∙ d) (c.advance-4.ensures.given ∙ sym c.advance-4.ensures.state ∙ e)

pub returns-clause-state : goal.returns-clause-state
returns-clause-state c =
    let state = c.args.draws.now.state in
    let a = states.one state c.advance.new.self.state c.advance.ensures.state in
    let b = states.next state 1 2 _ c.advance-2.new.self.state a c.advance-2.ensures.state refl in
    let d = states.next state 2 3 _ c.advance-3.new.self.state b c.advance-3.ensures.state refl in
    states.next state 3 4 _ c.advance-4.new.self.state d c.advance-4.ensures.state refl
