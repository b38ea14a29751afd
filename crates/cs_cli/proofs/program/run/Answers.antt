use Rattle.std.proofs.Common.{Ok, refl, sym, ◌∙◌, ap, Some, None, arith}
use Rattle.cs_base.specs.declared.limits.TheConstants.{MOST_SCHEDULE}
use Rattle.cs_native.specs.Approval.{is_approved_by}
use Rattle.cs_sched.proofs.Played.{given_playable}
use Rattle.cs_audit_dump.specs.declared.limits.TheConstants.{MOST_DUMP}
use Rattle.cs_cli.proofs.Dumps.{answers_yes}
use Rattle.cs_cli.proofs.Ended.{simulate-ends}
use Rattle.cs_cli.specs.Words.{texts_of}
use Rattle.cs_cli.proofs.Doing.{does-as}
use Rattle.cs_cli.proofs.Leaving.{leaves-as}
use Rattle.cs_cli.proofs.LimitNumbers.{deployment-limits, text-limits, ledger-limits, order-limits}
use Rattle.cs_cli.proofs.Simulations.{command-small}
use Rattle.cs_cli.proofs.program.run.Goals as goal

pub returns-in-Some-clause-does : goal.returns-in-Some-clause-does
returns-in-Some-clause-does g c = λ command is. does-as _ _ _ _ c.in-Some.command command _ c.in-Some.ensures is c.answer.ensures.does

pub returns-in-Some-clause-alone : goal.returns-in-Some-clause-alone
returns-in-Some-clause-alone g c = leaves-as _ _ (Some c.in-Some.command) _ c.in-Some.ensures c.answer.ensures.alone

pub returns-in-None-clause-alone : goal.returns-in-None-clause-alone
returns-in-None-clause-alone g c = leaves-as _ _ None _ c.in-None.ensures (refl, (refl, (refl, refl)))

pub returns-in-Some-clause-sound : goal.returns-in-Some-clause-sound
returns-in-Some-clause-sound g c = λ text schedule is. c.schedules_are_sound.ensures (is_approved_by schedule.contracts) schedule (given_playable (Ok schedule) MOST_SCHEDULE text is)

pub returns-in-None-clause-sound : goal.returns-in-None-clause-sound
returns-in-None-clause-sound g c = λ text schedule is. c.schedules_are_sound.ensures (is_approved_by schedule.contracts) schedule (given_playable (Ok schedule) MOST_SCHEDULE text is)

pub answer-requires : goal.answer-requires
answer-requires g c = λ number size is. command-small (texts_of c.args.words.now) number size (sym c.in-Some.ensures ∙ ap Some is)

pub returns-in-Some-clause-simulate_ends : goal.returns-in-Some-clause-simulate_ends
returns-in-Some-clause-simulate_ends g c = simulate-ends

pub returns-in-None-clause-simulate_ends : goal.returns-in-None-clause-simulate_ends
returns-in-None-clause-simulate_ends g c = simulate-ends

pub returns-in-Some-clause-keys_speak : goal.returns-in-Some-clause-keys_speak
returns-in-Some-clause-keys_speak g c = c.keys_of_files_speak.ensures

pub returns-in-None-clause-keys_speak : goal.returns-in-None-clause-keys_speak
returns-in-None-clause-keys_speak g c = c.keys_of_files_speak.ensures

pub returns-in-Some-clause-keys_alone : goal.returns-in-Some-clause-keys_alone
returns-in-Some-clause-keys_alone g c = c.key_files_tell_keys_alone.ensures

pub returns-in-None-clause-keys_alone : goal.returns-in-None-clause-keys_alone
returns-in-None-clause-keys_alone g c = c.key_files_tell_keys_alone.ensures

pub returns-in-Some-clause-dumps_pass : goal.returns-in-Some-clause-dumps_pass
returns-in-Some-clause-dumps_pass g c = λ text schedule is.
    answers_yes schedule (c.dumps_are_answered_yes.ensures MOST_DUMP (omega arith) (is_approved_by schedule.contracts) schedule (given_playable (Ok schedule) MOST_SCHEDULE text is))

pub returns-in-None-clause-dumps_pass : goal.returns-in-None-clause-dumps_pass
returns-in-None-clause-dumps_pass g c = λ text schedule is.
    answers_yes schedule (c.dumps_are_answered_yes.ensures MOST_DUMP (omega arith) (is_approved_by schedule.contracts) schedule (given_playable (Ok schedule) MOST_SCHEDULE text is))

pub returns-in-Some-clause-datagrams : goal.returns-in-Some-clause-datagrams
returns-in-Some-clause-datagrams g c = c.what_is_read_was_written.ensures.datagrams

pub returns-in-None-clause-datagrams : goal.returns-in-None-clause-datagrams
returns-in-None-clause-datagrams g c = c.what_is_read_was_written.ensures.datagrams

pub returns-in-Some-clause-entries : goal.returns-in-Some-clause-entries
returns-in-Some-clause-entries g c = c.what_is_read_was_written.ensures.entries

pub returns-in-None-clause-entries : goal.returns-in-None-clause-entries
returns-in-None-clause-entries g c = c.what_is_read_was_written.ensures.entries

pub returns-in-Some-clause-objects : goal.returns-in-Some-clause-objects
returns-in-Some-clause-objects g c = c.what_is_read_was_written.ensures.objects

pub returns-in-None-clause-objects : goal.returns-in-None-clause-objects
returns-in-None-clause-objects g c = c.what_is_read_was_written.ensures.objects

pub returns-in-Some-clause-contracts : goal.returns-in-Some-clause-contracts
returns-in-Some-clause-contracts g c = c.what_is_read_was_written.ensures.contracts

pub returns-in-None-clause-contracts : goal.returns-in-None-clause-contracts
returns-in-None-clause-contracts g c = c.what_is_read_was_written.ensures.contracts

pub returns-in-Some-clause-wanted : goal.returns-in-Some-clause-wanted
returns-in-Some-clause-wanted g c = c.wanted_tokens_can_stand.ensures.wanted

pub returns-in-Some-clause-fronts : goal.returns-in-Some-clause-fronts
returns-in-Some-clause-fronts g c = c.wanted_tokens_can_stand.ensures.fronts

pub returns-in-None-clause-wanted : goal.returns-in-None-clause-wanted
returns-in-None-clause-wanted g c = c.wanted_tokens_can_stand.ensures.wanted

pub returns-in-None-clause-fronts : goal.returns-in-None-clause-fronts
returns-in-None-clause-fronts g c = c.wanted_tokens_can_stand.ensures.fronts

pub returns-in-Some-clause-addresses : goal.returns-in-Some-clause-addresses
returns-in-Some-clause-addresses g c = c.what_is_read_was_written.ensures.addresses

pub returns-in-None-clause-addresses : goal.returns-in-None-clause-addresses
returns-in-None-clause-addresses g c = c.what_is_read_was_written.ensures.addresses

pub returns-in-Some-clause-trails : goal.returns-in-Some-clause-trails
returns-in-Some-clause-trails g c = c.nodes_serve_their_trails.ensures

pub returns-in-None-clause-trails : goal.returns-in-None-clause-trails
returns-in-None-clause-trails g c = c.nodes_serve_their_trails.ensures

pub returns-in-Some-clause-running : goal.returns-in-Some-clause-running
returns-in-Some-clause-running g c = c.running_nodes_are_sound.ensures

pub returns-in-None-clause-running : goal.returns-in-None-clause-running
returns-in-None-clause-running g c = c.running_nodes_are_sound.ensures

pub returns-in-Some-clause-deployment_limits : goal.returns-in-Some-clause-deployment_limits
returns-in-Some-clause-deployment_limits g c = deployment-limits

pub returns-in-Some-clause-text_limits : goal.returns-in-Some-clause-text_limits
returns-in-Some-clause-text_limits g c = text-limits

pub returns-in-Some-clause-ledger_limits : goal.returns-in-Some-clause-ledger_limits
returns-in-Some-clause-ledger_limits g c = ledger-limits

pub returns-in-Some-clause-order_limits : goal.returns-in-Some-clause-order_limits
returns-in-Some-clause-order_limits g c = order-limits

pub returns-in-None-clause-deployment_limits : goal.returns-in-None-clause-deployment_limits
returns-in-None-clause-deployment_limits g c = deployment-limits

pub returns-in-None-clause-text_limits : goal.returns-in-None-clause-text_limits
returns-in-None-clause-text_limits g c = text-limits

pub returns-in-None-clause-ledger_limits : goal.returns-in-None-clause-ledger_limits
returns-in-None-clause-ledger_limits g c = ledger-limits

pub returns-in-None-clause-order_limits : goal.returns-in-None-clause-order_limits
returns-in-None-clause-order_limits g c = order-limits

pub returns-in-Some-clause-signatures : goal.returns-in-Some-clause-signatures
returns-in-Some-clause-signatures g c = c.signatures_verify.ensures

pub returns-in-None-clause-signatures : goal.returns-in-None-clause-signatures
returns-in-None-clause-signatures g c = c.signatures_verify.ensures

pub returns-in-Some-clause-one_message : goal.returns-in-Some-clause-one_message
returns-in-Some-clause-one_message g c = c.no_number_signs_two_messages.ensures

pub returns-in-None-clause-one_message : goal.returns-in-None-clause-one_message
returns-in-None-clause-one_message g c = c.no_number_signs_two_messages.ensures
