-- The dump of a replay is read again, and breaks no rule.
use Rattle.std.proofs.Common.{◌≡◌, ℕ, ◌<◌, ◌≤◌, ◌^◌, Bool, List, length, refl, sym, ap, subst, ◌∙◌}
use Rattle.cs_tx_types.specs.declared.session.Session.{Session}
use Rattle.cs_tx_types.specs.declared.transaction.Tx.{Tx}
use Rattle.cs_tx_value.specs.Object.{DigestFits}
use Rattle.cs_order_rules.specs.declared.message.OrderMessage.{OrderMessage}
use Rattle.cs_replay_rules.specs.Dumps.{dump_text}
use Rattle.cs_node_rules.specs.Site.{Site}
use Rattle.cs_node_rules.specs.World.{Happening, firsts_of, recorded_history}
use Rattle.cs_world_law.specs.Worlds.{ExecutesFit}
use Rattle.cs_sched.specs.declared.schedule.Schedule.{Schedule}
use Rattle.cs_sched.specs.Playable.{IsPlayable}
use Rattle.cs_replay.specs.Site.{site_of_schedule}
use Rattle.cs_audit_dump.specs.declared.dump.Dump.{Dump}
use Rattle.cs_audit_dump.specs.Again.{DumpIsReadAgain}
use Rattle.cs_audit_dump.specs.Printed.{printed_dump}
use Rattle.cs_audit_dump.specs.Text.{dump_of}
use Rattle.cs_audit_rules.specs.Verdicts.{verdict_by}
use Rattle.cs_audit_law.specs.Passing.{PassesAudit, DumpsFirsts, LeavesFit}
use Rattle.cs_audit_law.proofs.Fitting.{leaves_there}
use Rattle.cs_audit_law.proofs.Texts.{dump_same}
use Rattle.cs_audit_law.specs.Answered.{digests, IsYes}
use Rattle.cs_audit_law.proofs.Bytes.{hashed}
use Rattle.cs_audit_law.proofs.Formed.{schedule_dump, formed, encoded}

module _ (limit : ℕ) (low : limit < 2 ^ 64) (again : DumpIsReadAgain limit) (approves : Tx → Bool) (schedule : Schedule) (playable : IsPlayable schedule) (world : List (Happening OrderMessage)) where
  abbrev site : Site OrderMessage
  site = site_of_schedule approves schedule

  abbrev dump : Dump
  dump = schedule_dump schedule site.setup (firsts_of world)

  abbrev text : List ℕ
  text = dump_text site schedule.contracts world

  named : (x : Session) → DigestFits (site.setup.session_of x).transaction.digest
  named x = hashed _

  printed : DumpsFirsts site world → printed_dump dump ≡ text
  printed longest = dump_same site world longest (leaves_there site.setup (firsts_of world)) schedule.config schedule.contracts schedule.genesis refl refl refl refl

  pub answered : DumpsFirsts site world → PassesAudit site world → LeavesFit site world → ExecutesFit site world → length text ≤ limit
      → IsYes limit approves schedule.contracts (digests (recorded_history site world)) text
  answered longest passes fit executed small =
      let same = printed longest in
      let short : length (printed_dump dump) ≤ limit = subst (λ (t : List ℕ). length t ≤ limit) (sym same) small in
      let leaves = fit executed in
      let is_formed = formed schedule playable site.setup refl (firsts_of world) limit low short leaves in
      let is_encoded = encoded schedule playable site.setup refl (firsts_of world) limit low short leaves named in
      record {
        dump = dump;
        read = ap (dump_of limit) (sym same) ∙ again dump is_formed is_encoded short;
        contracts_are = refl;
        verdict = ap (verdict_by dump.history) (passes dump refl refl);
      }
