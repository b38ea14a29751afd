use Rattle.std.proofs.Common.{◌≡◌, drop}
use Rattle.std.specs.Prelude.{◌&&◌, bytes_eq}
use Rattle.std.specs.List.{list_all}
use Rattle.cs_tx.specs.Token.{token_id, is_transfer, is_token_approved}
use Rattle.cs_tx.proofs.token.TokenJudgeJudge.approves.Given as goal

abbrev pub invariant-loop-trace : goal.invariant-loop-trace
invariant-loop-trace l = list_all (λ trace. bytes_eq trace.contract token_id && is_transfer trace) (drop l.trace-index l.tx.traces) ≡ is_token_approved l.tx
