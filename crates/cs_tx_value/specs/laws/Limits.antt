-- The limit of the types that have none: no slice is longer.
use Rattle.std.proofs.Common.{ℕ, ◌^◌, ◌<◌, ◌≤◌, arith}

pub unlimited : (n : ℕ) → n < 2 ^ 64 → n ≤ 18446744073709551615
unlimited n lt = omega arith
