use Rattle.std.proofs.Common.{◌≡◌, drop, map}
use Rattle.cs_ledger.specs.Table.{vote_in}
use Rattle.cs_table.specs.Seen.{seen_place}
use Rattle.cs_table.proofs.several.vote_in_book.Given as goal

abbrev pub invariant-loop-place : goal.invariant-loop-place
invariant-loop-place l = vote_in (map seen_place (drop l.place-index l.book)) l.session ≡ vote_in (map seen_place l.book) l.session
