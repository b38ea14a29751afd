-- What one table does: a consumed coin, an early session, a full book, references. All by computation.
use Rattle.std.proofs.Common.{◌≡◌, ℕ, zero, suc, List, [], ◌∷◌, length, true, refl}
use Rattle.std.specs.Prelude.{if◌then◌else◌}
use Rattle.cs_ledger.specs.Ledger.{Bytes, Item, Transaction}
use Rattle.cs_ledger.specs.Session.{Session, Rules, Object, key_eq}
use Rattle.cs_ledger.specs.Table.{Commit, Abort, Book, State, Table, Active, Unknown, Shared, Entry, Prepare, Decide, Voted, Accepted, Skipped, Outcome, exec, table_of}
use Rattle.cs_ledger.specs.Standing.{stands_aborted}

abbrev one_shard : Rules
one_shard = record {
  shard_of = λ name. 0;
  genesis = record { name = 1 ∷ []; object = 5 ∷ [] } ∷ [];
  dummies = 0;
  dummy_object = [];
}

-- a transaction that moves the coin of one name to another
abbrev moving : Bytes → Bytes → Bytes → List Item → Transaction
moving digest old new references = record {
  digest = digest;
  inputs = record { name = old; object = 5 ∷ [] } ∷ [];
  references = references;
  outputs = record { name = new; object = 5 ∷ [] } ∷ [];
  sound = true;
  approved = true;
}

abbrev first : Transaction
first = moving (100 ∷ []) (1 ∷ []) (2 ∷ []) []

abbrev second : Transaction
second = moving (101 ∷ []) (2 ∷ []) (3 ∷ []) []

abbrev session : Bytes → Transaction → Session
session digest tx = record { digest = digest; transaction = tx; dummies = [] }

abbrev x1 : Session
x1 = session (201 ∷ []) first

-- the same transaction under another number
abbrev x2 : Session
x2 = session (202 ∷ []) first

abbrev y1 : Session
y1 = session (203 ∷ []) second

abbrev y2 : Session
y2 = session (204 ∷ []) second

abbrev after : List Entry → Entry → Outcome
after log entry = exec one_shard 0 (table_of one_shard 0 log) entry

abbrev moved : List Entry
moved = Decide x1 Commit ∷ Prepare x1 ∷ []

prepared_once : (after [] (Prepare x1)).effect ≡ Voted Commit
prepared_once = refl

accepted_then : (after (Prepare x1 ∷ []) (Decide x1 Commit)).effect ≡ Accepted
accepted_then = refl

decided_without_lock : (after [] (Decide x1 Commit)).effect ≡ Skipped
decided_without_lock = refl

-- a second number of a transaction that was accepted is voted abort
second_number : (after moved (Prepare x2)).effect ≡ Voted Abort
second_number = refl

-- a session that came too early is voted abort again once its coin is there; another number of it is not
too_early : (after [] (Prepare y1)).effect ≡ Voted Abort
too_early = refl

abbrev later : List Entry
later = Decide x1 Commit ∷ Prepare x1 ∷ Prepare y1 ∷ []

new_coin_keeps_its_book : (after later (Prepare y1)).effect ≡ Voted Abort
new_coin_keeps_its_book = refl

stands_so : stands_aborted ((table_of one_shard 0 later).at (Object (2 ∷ []))) y1.digest ≡ true
stands_so = refl

other_number : (after later (Prepare y2)).effect ≡ Voted Commit
other_number = refl

-- a coin that another session locks; an abort gives it back, and the vote stays on record
taken : (after (Prepare x1 ∷ []) (Prepare x2)).effect ≡ Voted Abort
taken = refl

given_back : (after (Decide x1 Abort ∷ Prepare x1 ∷ []) (Prepare x2)).effect ≡ Voted Commit
given_back = refl

voted_as_before : (after (Decide x1 Abort ∷ Prepare x1 ∷ []) (Prepare x1)).effect ≡ Voted Commit
voted_as_before = refl

-- a coin of another value than the one that is carried
abbrev forged : Session
forged = session (205 ∷ []) (record {
  digest = 102 ∷ [];
  inputs = record { name = 1 ∷ []; object = 6 ∷ [] } ∷ [];
  references = [];
  outputs = record { name = 4 ∷ []; object = 6 ∷ [] } ∷ [];
  sound = true;
  approved = true;
})

other_value : (after [] (Prepare forged)).effect ≡ Voted Abort
other_value = refl

-- a table of two coins, the first with a book of that many votes on other sessions
abbrev filled : ℕ → Book
filled zero = []
filled (suc n) = (9 ∷ [], Abort) ∷ filled n

abbrev worn : ℕ → Table
worn n = record {
  at = λ key. if key_eq key (Object (1 ∷ []))
      then record { state = Active (5 ∷ []); book = filled n }
      else if key_eq key (Object (2 ∷ [])) then record { state = Active (5 ∷ []); book = [] } else record { state = Unknown; book = [] };
  next = 0;
}

abbrev on : Table → Entry → Outcome
on t entry = exec one_shard 0 t entry

-- the last place but one: free keys commit, the abort takes a place, and the next session finds the record worn
abbrev held : Table
held = (on (worn 1023) (Prepare x1)).table

abbrev let_go : Table
let_go = (on held (Decide x1 Abort)).table

commits_at_1023 : (on (worn 1023) (Prepare x1)).effect ≡ Voted Commit
commits_at_1023 = refl

grows_to_1024 : length (let_go.at (Object (1 ∷ []))).book ≡ 1024
grows_to_1024 = refl

next_aborts : (on let_go (Prepare x2)).effect ≡ Voted Abort
next_aborts = refl

stays_1024 : length ((on let_go (Prepare x2)).table.at (Object (1 ∷ []))).book ≡ 1024
stays_1024 = refl

aborts_at_1024 : (on (worn 1024) (Prepare x1)).effect ≡ Voted Abort
aborts_at_1024 = refl

-- ---- sessions that read the first coin

-- of the first coin, which these sessions read, and of a coin for each of three sessions
abbrev read_by_all : List Bytes → Table
read_by_all readers = record {
  at = λ key. if key_eq key (Object (1 ∷ []))
      then record { state = Shared (5 ∷ []) readers; book = [] }
      else record { state = Active (5 ∷ []); book = [] };
  next = 0;
}

abbrev the_coin : Item
the_coin = record { name = 1 ∷ []; object = 5 ∷ [] }

-- a session that moves a coin of its own, and names the first one as a reference twice
abbrev reading : ℕ → Session
reading n = session (n ∷ []) (moving (n ∷ []) (n ∷ []) (n ∷ n ∷ []) (the_coin ∷ the_coin ∷ []))

abbrev at_coin : Table → State
at_coin t = (t.at (Object (1 ∷ []))).state

abbrev one_reads : Table
one_reads = (on (worn 0) (Prepare (session (2 ∷ []) (moving (2 ∷ []) (2 ∷ []) (5 ∷ []) (the_coin ∷ the_coin ∷ []))))).table

abbrev two_read : Table
two_read = (on (read_by_all ((6 ∷ []) ∷ [])) (Prepare (reading 7))).table

a_reference_counts_once : at_coin one_reads ≡ Shared (5 ∷ []) ((2 ∷ []) ∷ [])
a_reference_counts_once = refl

a_second_reads_behind_the_first : at_coin two_read ≡ Shared (5 ∷ []) ((6 ∷ []) ∷ (7 ∷ []) ∷ [])
a_second_reads_behind_the_first = refl

nobody_uses_up_what_is_read : (on two_read (Prepare x1)).effect ≡ Voted Abort
nobody_uses_up_what_is_read = refl

a_reader_that_is_accepted_leaves : at_coin (on two_read (Decide (reading 7) Commit)).table ≡ Shared (5 ∷ []) ((6 ∷ []) ∷ [])
a_reader_that_is_accepted_leaves = refl

a_reader_that_is_aborted_leaves : at_coin (on two_read (Decide (reading 7) Abort)).table ≡ Shared (5 ∷ []) ((6 ∷ []) ∷ [])
a_reader_that_is_aborted_leaves = refl

the_last_one_leaves_it_active : at_coin (on (on (read_by_all []) (Prepare (reading 7))).table (Decide (reading 7) Commit)).table ≡ Active (5 ∷ [])
the_last_one_leaves_it_active = refl

abbrev so_many : ℕ → List Bytes
so_many zero = []
so_many (suc n) = (100 ∷ n ∷ []) ∷ so_many n

a_64th_may_read : (on (read_by_all (so_many 63)) (Prepare (reading 7))).effect ≡ Voted Commit
a_64th_may_read = refl

a_65th_may_not : (on (read_by_all (so_many 64)) (Prepare (reading 7))).effect ≡ Voted Abort
a_65th_may_not = refl
