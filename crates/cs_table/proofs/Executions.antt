-- How the calls that execute come to what the definitions give.
use Rattle.std.proofs.Common.{◌≡◌, ℕ, Bool, true, false, if◌then◌else◌, List, Option, Some, None, refl, sym, ap, ◌∙◌, subst}
use Rattle.cs_ledger.specs.Ledger.{Bytes}
use Rattle.cs_ledger.specs.Session.{Key, Piece}
use Rattle.cs_ledger.specs.Table as ledger
use Rattle.cs_ledger.specs.Table.{Record, Table}
use Rattle.cs_table.specs.declared.change.Change.TheVariants.{Lock, Release, UseUp, Join, Leave}
use Rattle.cs_table.specs.Seen.{Stored, seen}
use Rattle.cs_table.specs.Changes.{Becomes, changed, changed_record, noted_record, changed_each, changed_but, appeared_each}
use Rattle.cs_table.specs.Effects.{settled_vote, or_lost, ComesTo, accepted}
use Rattle.cs_table.proofs.Each.{locks, aborts_noted, aborts_full, accepts, books_kept, books_kept_but}
use Rattle.cs_table.proofs.Weights.{AllGain, all_after, one_gains, each_gains, but_gains, made_gain, voting, deciding, locks_gain, joins_gain, leaves_gain, releases_gain, uses_gain, appears_gain, notes_gain}
use Rattle.cs_table.proofs.Marked.{marks_self, marks_after}

pub becomes_self : (a : Stored) → Becomes a a (seen a)
becomes_self a = record { shows = refl; shards = refl; shard = refl; marks = marks_self a }

-- each record stays by a change, or weighs more
abbrev Lifts : (Record → ℕ) → (Table → Table) → Type 0
Lifts weight change = (t : Table) → AllGain weight t (change t)

-- one change after another
module _ (weight : Record → ℕ) where
  lifted : (a b : Stored) (change : Table → Table) → Lifts weight change → Becomes a b (change (seen a)) → AllGain weight (seen a) (seen b)
  lifted a b change lifts did = subst (λ (t : Table). AllGain weight (seen a) t) (sym did.shows) (lifts (seen a))

  after : (a b c : Stored) (first second : Table → Table) → Lifts weight first → Lifts weight second
      → Becomes a b (first (seen a)) → Becomes b c (second (seen b)) → Becomes a c (second (first (seen a)))
  after a b c first second lifts then_lifts one two = record {
    shows = two.shows ∙ ap second one.shows;
    shards = two.shards ∙ one.shards;
    shard = two.shard ∙ one.shard;
    marks = marks_after weight a b c (lifted a b first lifts one) (lifted b c second then_lifts two) one.marks two.marks;
  }

  both_lift : (first second : Table → Table) → Lifts weight first → Lifts weight second → Lifts weight (λ t. second (first t))
  both_lift first second lifts then_lifts t = all_after weight t (first t) (second (first t)) (lifts t) (then_lifts (first t))

pub becomes_same : (a b : Stored) (t u : Table) → t ≡ u → Becomes a b t → Becomes a b u
becomes_same a b t u e h = record { shows = h.shows ∙ e; shards = h.shards; shard = h.shard; marks = h.marks }

lock_lifts : (d : Bytes) (ps : List Piece) → Lifts voting (changed_each (changed_record (Lock d)) ps)
lock_lifts d ps t = each_gains voting (changed_record (Lock d)) (locks_gain d) ps t

abbrev joined_all : Bytes → List Piece → List Piece → Table → Table
joined_all d used ps t = changed_but used (changed_record (Join d)) ps t

join_lifts : (d : Bytes) (used ps : List Piece) → Lifts voting (joined_all d used ps)
join_lifts d used ps t = but_gains voting (changed_record (Join d)) (joins_gain d) used ps t

pub locked : (a b c : Stored) (d : Bytes) (used read : List Piece) → Becomes a b (changed_each (changed_record (Lock d)) used (seen a)) → Becomes b c (joined_all d used read (seen b)) → Becomes a c (ledger.with_locks (seen a) d used read)
locked a b c d used read one two = becomes_same a c _ _ (locks d used read (seen a))
    (after voting a b c (changed_each (changed_record (Lock d)) used) (joined_all d used read) (lock_lifts d used) (join_lifts d used read) one two)

abbrev released_all : List Piece → Table → Table
released_all ps t = changed_each (changed_record Release) ps t

release_lifts : (d : Bytes) (ps : List Piece) → Lifts (deciding d) (released_all ps)
release_lifts d ps t = each_gains (deciding d) (changed_record Release) (releases_gain d) ps t

abbrev left_all : Bytes → List Piece → List Piece → Table → Table
left_all d used ps t = changed_but used (changed_record (Leave d)) ps t

leave_lifts : (d : Bytes) (used ps : List Piece) → Lifts (deciding d) (left_all d used ps)
leave_lifts d used ps t = but_gains (deciding d) (changed_record (Leave d)) (leaves_gain d) used ps t

use_lifts : (d : Bytes) (ps : List Piece) → Lifts (deciding d) (changed_each (changed_record (UseUp d)) ps)
use_lifts d ps t = each_gains (deciding d) (changed_record (UseUp d)) (uses_gain d) ps t

make_lifts : (d : Bytes) (read made : List Piece) → Lifts (deciding d) (appeared_each read made)
make_lifts d read made t = made_gain (deciding d) (appears_gain d) read made t

note_lifts : (d session : Bytes) (vote : ledger.Vote) (anchor : Key) → Lifts (deciding d) (changed (noted_record session vote) anchor)
note_lifts d session vote anchor t = one_gains (deciding d) (noted_record session vote) (notes_gain d session vote) anchor t

-- a book has a place as before
pub still_place : (a b c : Stored) (d : Bytes) (used read : List Piece) (k : Key) → Becomes a b (released_all used (seen a)) → Becomes b c (left_all d used read (seen b)) → ledger.has_place ((seen a).at k).book ≡ true → ledger.has_place ((seen c).at k).book ≡ true
still_place a b c d used read k one two room =
    ap (λ (t : Table). ledger.has_place (t.at k).book) two.shows ∙ ap ledger.has_place (books_kept_but used (Leave d) read (seen b) k)
    ∙ ap (λ (t : Table). ledger.has_place (t.at k).book) one.shows ∙ ap ledger.has_place (books_kept Release used (seen a) k)
    ∙ room

pub aborted_full : (a b c : Stored) (d : Bytes) (anchor : Key) (used read : List Piece) → ledger.has_place ((seen a).at anchor).book ≡ false → Becomes a b (released_all used (seen a)) → Becomes b c (left_all d used read (seen b)) → Becomes a c (ledger.with_aborted (seen a) d anchor used read)
aborted_full a b c d anchor used read full one two = becomes_same a c _ _ (aborts_full d anchor used read (seen a) full)
    (after (deciding d) a b c (released_all used) (left_all d used read) (release_lifts d used) (leave_lifts d used read) one two)

pub aborted_noted : (a b c e : Stored) (d : Bytes) (anchor : Key) (used read : List Piece) → ledger.has_place ((seen a).at anchor).book ≡ true → Becomes a b (released_all used (seen a)) → Becomes b c (left_all d used read (seen b)) → Becomes c e (changed (noted_record d ledger.Commit) anchor (seen c)) → Becomes a e (ledger.with_aborted (seen a) d anchor used read)
aborted_noted a b c e d anchor used read room one two three =
    becomes_same a e _ _ (aborts_noted d anchor used read (seen a) room)
    (after (deciding d) a c e (λ t. left_all d used read (released_all used t)) (changed (noted_record d ledger.Commit) anchor)
    (both_lift (deciding d) (released_all used) (left_all d used read) (release_lifts d used) (leave_lifts d used read))
    (note_lifts d d ledger.Commit anchor)
    (after (deciding d) a b c (released_all used) (left_all d used read) (release_lifts d used) (leave_lifts d used read) one two) three)

pub carried : (a b c e : Stored) (d : Bytes) (used read made : List Piece) → Becomes a b (left_all d used read (seen a)) → Becomes b c (changed_each (changed_record (UseUp d)) used (seen b)) → Becomes c e (appeared_each read made (seen c)) → Becomes a e (accepted d used read made (seen a).next (seen a))
carried a b c e d used read made one two three =
    becomes_same a e _ _ (accepts d used read made (seen a))
    (after (deciding d) a c e (λ t. changed_each (changed_record (UseUp d)) used (left_all d used read t)) (appeared_each read made)
    (both_lift (deciding d) (left_all d used read) (changed_each (changed_record (UseUp d)) used) (leave_lifts d used read) (use_lifts d used))
    (make_lifts d read made)
    (after (deciding d) a b c (left_all d used read) (changed_each (changed_record (UseUp d)) used) (leave_lifts d used read) (use_lifts d used) one two) three)

-- ---- the vote on a session, by its cases

abbrev choose : Option ledger.Vote → Table → ledger.Outcome → ledger.Outcome
choose (Some vote) t open_case = ledger.voted t vote
choose None t open_case = open_case

module _ (t : Table) (d : Bytes) (anchor : Key) (used read : List Piece) where
  abbrev opened : ledger.Outcome
  opened = ledger.prepare_open t d anchor used read

  lost_case : (lost : Bool) → (if lost then ledger.voted t ledger.Abort else opened) ≡ choose (or_lost lost None) t opened
  lost_case true = refl
  lost_case false = refl

  unless_case : (found : Option ledger.Vote) → ledger.prepare_unless t d anchor used read found ≡ choose (or_lost (ledger.is_inactive (t.at anchor).state) found) t opened
  unless_case (Some vote) = refl
  unless_case None = lost_case (ledger.is_inactive (t.at anchor).state)

  held_case : (held : Bool) (other : ledger.Outcome) (found : Option ledger.Vote) → other ≡ choose found t opened → (if held then ledger.voted t ledger.Commit else other) ≡ choose (if held then Some ledger.Commit else found) t opened
  held_case true other found h = refl
  held_case false other found h = h

  by_vote : ledger.prepare t d anchor used read ≡ choose (settled_vote (t.at anchor) d) t opened
  by_vote = held_case (ledger.is_held_by d (t.at anchor).state) _ _ (unless_case (ledger.vote_in (t.at anchor).book d))

  pub prepare_settled : (vote : ledger.Vote) → settled_vote (t.at anchor) d ≡ Some vote → ledger.prepare t d anchor used read ≡ ledger.voted t vote
  prepare_settled vote is = by_vote ∙ ap (λ o. choose o t opened) is

  unsettled : settled_vote (t.at anchor) d ≡ None → ledger.prepare t d anchor used read ≡ opened
  unsettled is = by_vote ∙ ap (λ o. choose o t opened) is

  pub prepare_worn : settled_vote (t.at anchor) d ≡ None → ledger.has_room (t.at anchor).book ≡ false → ledger.prepare t d anchor used read ≡ ledger.voted t ledger.Abort
  prepare_worn none worn = unsettled none ∙ rw worn refl

  pub prepare_ready : settled_vote (t.at anchor) d ≡ None → ledger.has_room (t.at anchor).book ≡ true → ledger.is_ready t used read ≡ true → ledger.prepare t d anchor used read ≡ ledger.voted (ledger.with_locks t d used read) ledger.Commit
  prepare_ready none room ready = unsettled none ∙ rw (room, ready) refl

  pub prepare_not : settled_vote (t.at anchor) d ≡ None → ledger.has_room (t.at anchor).book ≡ true → ledger.is_ready t used read ≡ false → ledger.prepare t d anchor used read ≡ ledger.voted (ledger.with_vote t anchor d ledger.Abort) ledger.Abort
  prepare_not none room ready = unsettled none ∙ rw (room, ready) refl

pub voted_so : (a b : Stored) (outcome : ledger.Outcome) (t : Table) (vote : ledger.Vote) → outcome ≡ ledger.voted t vote → Becomes a b t → ComesTo outcome a b (ledger.Voted vote)
voted_so a b outcome t vote is did = record { effect_is = ap (λ o. o.effect) (sym is); table_is = becomes_same a b t outcome.table (ap (λ o. o.table) (sym is)) did }
