use Rattle.std.proofs.Common.{◌++◌, ap, refl}
use Rattle.cs_tx.specs.Sessions.{ledger_session}
use Rattle.cs_replay.specs.Site.{site_of_schedule}
use Rattle.cs_replay.specs.Answers.{dump_behind}
use Rattle.cs_replay.specs.Played.{course_of}
use Rattle.cs_replay.specs.Settings.{setting_of}
use Rattle.cs_replay.proofs.Deployed.{are-for, are-short}
use Rattle.cs_replay.proofs.Whole.{lines-are, closes-ends, closes-number, closes-answers}
use Rattle.cs_replay.proofs.schedule.replay.Goals as goal

pub play_schedule-requires-clause-short : goal.play_schedule-requires-clause-short
play_schedule-requires-clause-short g c = are-short c.args.schedule.now c.requires

pub returns-in-Ok-clause-answers : goal.returns-in-Ok-clause-answers
returns-in-Ok-clause-answers g c =
    let before = g.K.Sink.written c.args.output.now in
    let schedule = c.args.schedule.now in
    let approves = g.J.Judge.is_approved c.args.judge.now in
    let traced = c.args.mode.traced in
    let dumps = c.args.mode.dumps in
    let site = site_of_schedule approves schedule in
    closes-answers before _ site dumps schedule.contracts (course_of approves traced schedule) _ c.play_schedule.result
    (ap (λ text. text ++ dump_behind dumps site schedule.contracts (course_of approves traced schedule)) (lines-are site traced schedule.events))
    (c.play_schedule.ensures.closes (setting_of approves traced schedule before) refl (c.in-Ok.ensures before) (ledger_session approves, refl) (are-for schedule c.requires approves traced before))

pub returns-in-Ok-clause-ends : goal.returns-in-Ok-clause-ends
returns-in-Ok-clause-ends g c =
    let before = g.K.Sink.written c.args.output.now in
    let schedule = c.args.schedule.now in
    let approves = g.J.Judge.is_approved c.args.judge.now in
    let traced = c.args.mode.traced in
    let dumps = c.args.mode.dumps in
    let site = site_of_schedule approves schedule in
    closes-ends before _ site dumps schedule.contracts (course_of approves traced schedule) c.play_schedule.result
    (c.play_schedule.ensures.closes (setting_of approves traced schedule before) refl (c.in-Ok.ensures before) (ledger_session approves, refl) (are-for schedule c.requires approves traced before))

pub returns-in-Ok-clause-accepted : goal.returns-in-Ok-clause-accepted
returns-in-Ok-clause-accepted g c =
    let before = g.K.Sink.written c.args.output.now in
    let schedule = c.args.schedule.now in
    let approves = g.J.Judge.is_approved c.args.judge.now in
    let traced = c.args.mode.traced in
    let dumps = c.args.mode.dumps in
    let site = site_of_schedule approves schedule in
    closes-number before _ site dumps schedule.contracts (course_of approves traced schedule) (λ summary. summary.accepted) c.play_schedule.result
    (c.play_schedule.ensures.closes (setting_of approves traced schedule before) refl (c.in-Ok.ensures before) (ledger_session approves, refl) (are-for schedule c.requires approves traced before))

pub returns-in-Ok-clause-aborted : goal.returns-in-Ok-clause-aborted
returns-in-Ok-clause-aborted g c =
    let before = g.K.Sink.written c.args.output.now in
    let schedule = c.args.schedule.now in
    let approves = g.J.Judge.is_approved c.args.judge.now in
    let traced = c.args.mode.traced in
    let dumps = c.args.mode.dumps in
    let site = site_of_schedule approves schedule in
    closes-number before _ site dumps schedule.contracts (course_of approves traced schedule) (λ summary. summary.aborted) c.play_schedule.result
    (c.play_schedule.ensures.closes (setting_of approves traced schedule before) refl (c.in-Ok.ensures before) (ledger_session approves, refl) (are-for schedule c.requires approves traced before))

pub returns-in-Ok-clause-events : goal.returns-in-Ok-clause-events
returns-in-Ok-clause-events g c =
    let before = g.K.Sink.written c.args.output.now in
    let schedule = c.args.schedule.now in
    let approves = g.J.Judge.is_approved c.args.judge.now in
    let traced = c.args.mode.traced in
    let dumps = c.args.mode.dumps in
    let site = site_of_schedule approves schedule in
    closes-number before _ site dumps schedule.contracts (course_of approves traced schedule) (λ summary. summary.events) c.play_schedule.result
    (c.play_schedule.ensures.closes (setting_of approves traced schedule before) refl (c.in-Ok.ensures before) (ledger_session approves, refl) (are-for schedule c.requires approves traced before))

pub returns-in-Ok-clause-sent : goal.returns-in-Ok-clause-sent
returns-in-Ok-clause-sent g c =
    let before = g.K.Sink.written c.args.output.now in
    let schedule = c.args.schedule.now in
    let approves = g.J.Judge.is_approved c.args.judge.now in
    let traced = c.args.mode.traced in
    let dumps = c.args.mode.dumps in
    let site = site_of_schedule approves schedule in
    closes-number before _ site dumps schedule.contracts (course_of approves traced schedule) (λ summary. summary.sent) c.play_schedule.result
    (c.play_schedule.ensures.closes (setting_of approves traced schedule before) refl (c.in-Ok.ensures before) (ledger_session approves, refl) (are-for schedule c.requires approves traced before))
