use Rattle.std.proofs.lemmas.Result.{on_ok_weaker, on_err_weaker}
use Rattle.cs_sched.proofs.Texts.{later, front_text, front_done, schedule_done}
use Rattle.cs_sched.proofs.printing.print.Goals as goal

pub returns-clause-ok : goal.returns-clause-ok
returns-clause-ok c =
    let liars = rw c.as_slice.ensures at c.in_ok-print_liars.ensures.ok in
    let contracts = rw c.as_slice-2.ensures at c.in_ok-print_contracts.ensures.ok in
    let genesis = rw c.as_slice-3.ensures at c.in_ok-print_genesis.ensures.ok in
    let events = rw c.as_slice-4.ensures at c.in_ok-print_events.ensures.ok in
    on_ok_weaker c.print_end.result (λ ended. schedule_done c.args.schedule.now c.args.out.now c.print_events.new.out c.print_end.new.out
    (front_done c.args.schedule.now c.args.out.now c.print_head.new.out c.print_liars.new.out c.print_contracts.new.out c.print_genesis.new.out c.print_run.new.out c.print_events.new.out
    c.in_ok-print_head.ensures.ok liars contracts genesis c.in_ok-print_run.ensures.ok events)
    ended) c.print_end.ensures.ok

pub returns-clause-err : goal.returns-clause-err
returns-clause-err c =
    let liars = rw c.as_slice.ensures at c.in_ok-print_liars.ensures.ok in
    let contracts = rw c.as_slice-2.ensures at c.in_ok-print_contracts.ensures.ok in
    let genesis = rw c.as_slice-3.ensures at c.in_ok-print_genesis.ensures.ok in
    let events = rw c.as_slice-4.ensures at c.in_ok-print_events.ensures.ok in
    on_err_weaker c.print_end.result (λ began. later c.print_end.new.out c.print_events.new.out c.args.out.now (front_text c.args.schedule.now) began
    (front_done c.args.schedule.now c.args.out.now c.print_head.new.out c.print_liars.new.out c.print_contracts.new.out c.print_genesis.new.out c.print_run.new.out c.print_events.new.out
    c.in_ok-print_head.ensures.ok liars contracts genesis c.in_ok-print_run.ensures.ok events))
    c.print_end.ensures.err
