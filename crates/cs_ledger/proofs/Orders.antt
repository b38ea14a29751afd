-- A log newest first and the same log oldest first give one table.
use Rattle.std.proofs.Common.{◌≡◌, ℕ, List, [], ◌∷◌, refl}
use Rattle.cs_ledger.specs.Session.{Rules, Key}
use Rattle.cs_ledger.specs.Table.{Entry, Table, table_of, table_after, turned}

pub table_turned : (rules : Rules) (shard : ℕ) (entries done : List Entry) → table_of rules shard (turned entries done) ≡ table_after rules shard (table_of rules shard done) entries
table_turned rules shard [] done = refl
table_turned rules shard (entry ∷ later) done = table_turned rules shard later (entry ∷ done)

-- tables that agree at each key are one
pub same_table : (a b : Table) → ((key : Key) → a.at key ≡ b.at key) → a.next ≡ b.next → a ≡ b
same_table a b at next = λ i. record { at = λ key. at key i; next = next i }
