-- The limits have their numbers.
use Rattle.std.proofs.Common.{refl}
use Rattle.cs_cli.specs.Limits.{DeploymentLimitsAre, TextLimitsAre, LedgerLimitsAre, OrderLimitsAre}

pub deployment-limits : DeploymentLimitsAre
deployment-limits = record {
  shards = refl;
  liars = refl;
  dummies = refl;
  readers = refl;
  clients = refl;
  datagram = refl;
  least_tick = refl;
  most_tick = refl;
  missed = refl;
  file = refl;
  master = refl;
  wallet = refl;
  used = refl;
  number = refl;
  tries = refl;
  asked = refl;
}

pub text-limits : TextLimitsAre
text-limits = record {
  contract = refl;
  cost = refl;
  contracts = refl;
  genesis = refl;
  schedule = refl;
  events = refl;
  sent = refl;
  dump = refl;
  size = refl;
}

pub ledger-limits : LedgerLimitsAre
ledger-limits = record {
  object = refl;
  transaction = refl;
  session = refl;
  entry = refl;
  traces = refl;
  objects = refl;
  values = refl;
  deps = refl;
  book = refl;
  waiting = refl;
}

pub order-limits : OrderLimitsAre
order-limits = record {
  least = refl;
  view = refl;
  slot = refl;
  ahead = refl;
  echoed = refl;
  covered = refl;
  kept = refl;
}
