-- What the changes of several keys, one after the other, come to.
use Rattle.std.proofs.Common.{◌≡◌, Bool, true, false, ◌||◌, if◌then◌else◌, List, [], ◌∷◌, ◌++◌, Option, Some, None, ◌&&◌, refl, sym, ap, ◌∙◌, subst}
use Rattle.cs_ledger.specs.Ledger.{Bytes}
use Rattle.cs_ledger.specs.Session.{Key, Piece, key_eq, has_key, object_under}
use Rattle.cs_ledger.specs.Table as ledger
use Rattle.cs_ledger.specs.Table.{Record, Table, State, Vote, Unknown, Active, Locked, Inactive, Shared}
use Rattle.cs_ledger.proofs.Basics as basics
use Rattle.cs_table.specs.declared.change.Change.{Change}
use Rattle.cs_table.specs.declared.change.Change.TheVariants.{Lock, Release, UseUp, Join, Leave}
use Rattle.cs_table.specs.Changes.{with_state, changed, changed_record, appeared_record, noted_record, changed_each, changed_but, appeared_each}
use Rattle.cs_table.specs.Effects.{accepted}
use Rattle.cs_table.proofs.ReaderLists.{joined_active, joined_twice, vacated_twice}
use Rattle.cs_table.proofs.Rows.{same_table}

-- ---- one change of several keys

abbrev all_changed : (Record → Record) → List Piece → Table → Table
all_changed change ps t = record { at = λ name. if has_key name ps then change (t.at name) else t.at name; next = t.next }

if_either : (change : Record → Record) → ((r : Record) → change (change r) ≡ change r) → (a b : Bool) (r : Record) → (if b then change (if a then change r else r) else (if a then change r else r)) ≡ (if a || b then change r else r)
if_either change twice true true r = twice r
if_either change twice true false r = refl
if_either change twice false true r = refl
if_either change twice false false r = refl

each_is : (change : Record → Record) → ((r : Record) → change (change r) ≡ change r) → (ps : List Piece) (t : Table) → changed_each change ps t ≡ all_changed change ps t
each_is change twice [] t = refl
each_is change twice (p ∷ ps) t =
    each_is change twice ps (changed change p.key t)
    ∙ same_table _ _ t.next (λ name. if_either change twice (key_eq name p.key) (has_key name ps) (t.at name))

locked_twice : (d : Bytes) (s : State) → ledger.locked d (ledger.locked d s) ≡ ledger.locked d s
locked_twice d Unknown = refl
locked_twice d (Active o) = refl
locked_twice d (Locked o by) = refl
locked_twice d (Inactive by) = refl
locked_twice d (Shared o readers) = refl

released_twice : (s : State) → ledger.released (ledger.released s) ≡ ledger.released s
released_twice Unknown = refl
released_twice (Active o) = refl
released_twice (Locked o by) = refl
released_twice (Inactive by) = refl
released_twice (Shared o readers) = refl

join_state_twice : (d : Bytes) (s : State) → ledger.joined_by d (ledger.joined_by d s) ≡ ledger.joined_by d s
join_state_twice d Unknown = refl
join_state_twice d (Active o) = joined_active d o
join_state_twice d (Locked o by) = refl
join_state_twice d (Inactive by) = refl
join_state_twice d (Shared o readers) = joined_twice d o readers

leave_state_twice : (d : Bytes) (s : State) → ledger.vacated_by d (ledger.vacated_by d s) ≡ ledger.vacated_by d s
leave_state_twice d Unknown = refl
leave_state_twice d (Active o) = refl
leave_state_twice d (Locked o by) = refl
leave_state_twice d (Inactive by) = refl
leave_state_twice d (Shared o readers) = vacated_twice d o readers

in_state : (f g : State → State) → ((s : State) → f s ≡ g s) → (r : Record) → with_state (f r.state) r ≡ with_state (g r.state) r
in_state f g h r = ap (λ s. with_state s r) (h r.state)

lock_twice : (d : Bytes) (r : Record) → changed_record (Lock d) (changed_record (Lock d) r) ≡ changed_record (Lock d) r
lock_twice d r = in_state _ _ (locked_twice d) r

release_twice : (r : Record) → changed_record Release (changed_record Release r) ≡ changed_record Release r
release_twice r = in_state _ _ released_twice r

join_twice : (d : Bytes) (r : Record) → changed_record (Join d) (changed_record (Join d) r) ≡ changed_record (Join d) r
join_twice d r = in_state _ _ (join_state_twice d) r

leave_twice : (d : Bytes) (r : Record) → changed_record (Leave d) (changed_record (Leave d) r) ≡ changed_record (Leave d) r
leave_twice d r = in_state _ _ (leave_state_twice d) r

-- changes of states keep the books
if_book : (b : Bool) (change : Change) (r : Record) → (if b then changed_record change r else r).book ≡ r.book
if_book true change r = refl
if_book false change r = refl

pub books_kept : (change : Change) (ps : List Piece) (t : Table) (k : Key) → ((changed_each (changed_record change) ps t).at k).book ≡ (t.at k).book
books_kept change [] t k = refl
books_kept change (p ∷ ps) t k =
    books_kept change ps (changed (changed_record change) p.key t) k ∙ if_book (key_eq k p.key) change (t.at k)

either_book : (b : Bool) (x y : Table) (k : Key) (book : ledger.Book) → (x.at k).book ≡ book → (y.at k).book ≡ book → ((if b then x else y).at k).book ≡ book
either_book true x y k book passed changes = passed
either_book false x y k book passed changes = changes

pub books_kept_but : (used : List Piece) (change : Change) (ps : List Piece) (t : Table) (k : Key) → ((changed_but used (changed_record change) ps t).at k).book ≡ (t.at k).book
books_kept_but used change [] t k = refl
books_kept_but used change (p ∷ ps) t k =
    let step = changed_record change in
    either_book (has_key p.key used) (changed_but used step ps t) (changed_but used step ps (changed step p.key t)) k (t.at k).book
    (books_kept_but used change ps t k)
    (books_kept_but used change ps (changed step p.key t) k ∙ if_book (key_eq k p.key) change (t.at k))

-- ---- one change of the keys that are read, but of those that are used up too

abbrev all_changed_but : List Piece → (Record → Record) → List Piece → Table → Table
all_changed_but used change ps t = record {
  at = λ name. if has_key name used then t.at name else if has_key name ps then change (t.at name) else t.at name;
  next = t.next;
}

module _ (used : List Piece) (change : Record → Record) (twice : (r : Record) → change (change r) ≡ change r) where
  none_at : (hidden : Bool) (r : Record) → r ≡ (if hidden then r else r)
  none_at true r = refl
  none_at false r = refl

  passed_at : (same hidden others : Bool) (r : Record) → (same ≡ true → hidden ≡ true) → (if hidden then r else if others then change r else r) ≡ (if hidden then r else if same || others then change r else r)
  passed_at same true others r h = refl
  passed_at true false others r h = absurd (let no_way = h refl in cc)
  passed_at false false others r h = refl

  changed_at : (same hidden others : Bool) (r : Record) → (same ≡ true → hidden ≡ false) → (if hidden then (if same then change r else r) else if others then change (if same then change r else r) else (if same then change r else r)) ≡ (if hidden then r else if same || others then change r else r)
  changed_at true true others r h = absurd (let no_way = h refl in cc)
  changed_at false true others r h = refl
  changed_at same false others r h = if_either change twice same others r

  used_like : (k name : Key) (b : Bool) → has_key k used ≡ b → key_eq name k ≡ true → has_key name used ≡ b
  used_like k name b is same = subst (λ z. has_key z used ≡ b) (sym (basics.same_key name k same)) is

  by_used : (p : Piece) (ps : List Piece) (t : Table) (b : Bool) → has_key p.key used ≡ b → ((s : Table) → changed_but used change ps s ≡ all_changed_but used change ps s) → (if b then changed_but used change ps t else changed_but used change ps (changed change p.key t)) ≡ all_changed_but used change (p ∷ ps) t
  by_used p ps t true is rest = rest t ∙ same_table _ _ t.next (λ name. passed_at (key_eq name p.key) (has_key name used) (has_key name ps) (t.at name) (used_like p.key name true is))
  by_used p ps t false is rest = rest (changed change p.key t) ∙ same_table _ _ t.next (λ name. changed_at (key_eq name p.key) (has_key name used) (has_key name ps) (t.at name) (used_like p.key name false is))

  but_is : (ps : List Piece) (t : Table) → changed_but used change ps t ≡ all_changed_but used change ps t
  but_is [] t = same_table _ _ t.next (λ name. none_at (has_key name used) (t.at name))
  but_is (p ∷ ps) t = by_used p ps t (has_key p.key used) refl (but_is ps)

-- ---- a session that is voted on, and one that is aborted

locks_at : (d : Bytes) (used read : Bool) (r : Record) → (if used then (if used then changed_record (Lock d) r else r) else if read then changed_record (Join d) (if used then changed_record (Lock d) r else r) else (if used then changed_record (Lock d) r else r)) ≡ with_state (ledger.lock_state used read d r.state) r
locks_at d true read r = refl
locks_at d false true r = refl
locks_at d false false r = refl

pub locks : (d : Bytes) (used read : List Piece) (t : Table) → changed_but used (changed_record (Join d)) read (changed_each (changed_record (Lock d)) used t) ≡ ledger.with_locks t d used read
locks d used read t =
    but_is used _ (join_twice d) read _
    ∙ ap (all_changed_but used (changed_record (Join d)) read) (each_is _ (lock_twice d) used t)
    ∙ same_table _ _ t.next (λ name. locks_at d (has_key name used) (has_key name read) (t.at name))

undo_at : (d : Bytes) (used read : Bool) (r : Record) → (if used then (if used then changed_record Release r else r) else if read then changed_record (Leave d) (if used then changed_record Release r else r) else (if used then changed_record Release r else r)) ≡ with_state (ledger.undo_state used read d r.state) r
undo_at d true read r = refl
undo_at d false true r = refl
undo_at d false false r = refl

-- the states after a session was aborted
abbrev undone : Bytes → List Piece → List Piece → Table → Table
undone d used read t = record { at = λ name. with_state (ledger.undo_state (has_key name used) (has_key name read) d (t.at name).state) (t.at name); next = t.next }

abbrev let_go : Bytes → List Piece → List Piece → Table → Table
let_go d used read t = changed_but used (changed_record (Leave d)) read (changed_each (changed_record Release) used t)

undoes : (d : Bytes) (used read : List Piece) (t : Table) → let_go d used read t ≡ undone d used read t
undoes d used read t =
    but_is used _ (leave_twice d) read _
    ∙ ap (all_changed_but used (changed_record (Leave d)) read) (each_is _ release_twice used t)
    ∙ same_table _ _ t.next (λ name. undo_at d (has_key name used) (has_key name read) (t.at name))

-- ---- a vote in the book of one key

note_at : (b : Bool) (d : Bytes) (vote : Vote) (r : Record) → (if b then noted_record d vote r else r) ≡ record { state = r.state; book = if b then r.book ++ (d, vote) ∷ [] else r.book }
note_at true d vote r = refl
note_at false d vote r = refl

pub notes : (anchor : Key) (d : Bytes) (vote : Vote) (t : Table) → changed (noted_record d vote) anchor t ≡ ledger.with_vote t anchor d vote
notes anchor d vote t = same_table _ _ t.next (λ name. note_at (key_eq name anchor) d vote (t.at name))

-- the anchor's book has room, or not
abort_at : (b room : Bool) (d : Bytes) (s : State) (r : Record) → (b ≡ true → ledger.has_place r.book ≡ room) → record { state = s; book = if b && ledger.has_place r.book then r.book ++ (d, ledger.Commit) ∷ [] else r.book } ≡ (if b && room then noted_record d ledger.Commit (with_state s r) else with_state s r)
abort_at true true d s r h = rw (h refl) refl
abort_at true false d s r h = rw (h refl) refl
abort_at false room d s r h = refl

if_and : (b : Bool) (r s : Record) → (if b && true then r else s) ≡ (if b then r else s)
if_and true r s = refl
if_and false r s = refl

if_none : (b : Bool) (r s : Record) → (if b && false then r else s) ≡ s
if_none true r s = refl
if_none false r s = refl

module _ (d : Bytes) (anchor : Key) (used read : List Piece) (t : Table) where
  aborted_is : (room : Bool) → ledger.has_place (t.at anchor).book ≡ room → (name : Key) → (ledger.with_aborted t d anchor used read).at name ≡ (if key_eq name anchor && room then noted_record d ledger.Commit ((undone d used read t).at name) else (undone d used read t).at name)
  aborted_is room is name = abort_at (key_eq name anchor) room d (ledger.undo_state (has_key name used) (has_key name read) d (t.at name).state) (t.at name) (λ same. subst (λ k. ledger.has_place (t.at k).book ≡ room) (sym (basics.same_key name anchor same)) is)

  pub aborts_noted : ledger.has_place (t.at anchor).book ≡ true → changed (noted_record d ledger.Commit) anchor (let_go d used read t) ≡ ledger.with_aborted t d anchor used read
  aborts_noted is = ap (changed (noted_record d ledger.Commit) anchor) (undoes d used read t) ∙ same_table _ _ t.next (λ name. sym (if_and (key_eq name anchor) _ _) ∙ sym (aborted_is true is name))

  pub aborts_full : ledger.has_place (t.at anchor).book ≡ false → let_go d used read t ≡ ledger.with_aborted t d anchor used read
  aborts_full is = undoes d used read t ∙ same_table _ _ t.next (λ name. sym (if_none (key_eq name anchor) _ _) ∙ sym (aborted_is false is name))

-- ---- what comes into being

abbrev pub made_record : Option Bytes → Record → Record
made_record object r = with_state (ledger.made object r.state) r

abbrev pub all_appeared : List Piece → List Piece → Table → Table
all_appeared read ps t = record { at = λ name. if has_key name read then t.at name else made_record (object_under ps name) (t.at name); next = t.next }

if_self : (b : Bool) (r : Record) → r ≡ (if b then r else r)
if_self true r = refl
if_self false r = refl

appeared_stays : (o : Bytes) (other : Option Bytes) (s : State) → ledger.made other (ledger.appeared o s) ≡ ledger.appeared o s
appeared_stays o None s = refl
appeared_stays o (Some x) Unknown = refl
appeared_stays o (Some x) (Active y) = refl
appeared_stays o (Some x) (Locked y by) = refl
appeared_stays o (Some x) (Inactive by) = refl
appeared_stays o (Some x) (Shared y readers) = refl

-- under a key that is read, nothing comes into being
read_at : (same hidden : Bool) (o : Bytes) (other : Option Bytes) (r : Record) → (same ≡ true → hidden ≡ true) → (if hidden then r else made_record other r) ≡ (if hidden then r else made_record (if same then Some o else other) r)
read_at same true o other r h = refl
read_at true false o other r h = absurd (let no_way = h refl in cc)
read_at false false o other r h = refl

made_at : (same hidden : Bool) (o : Bytes) (other : Option Bytes) (r : Record) → (same ≡ true → hidden ≡ false) → (if hidden then (if same then appeared_record o r else r) else made_record other (if same then appeared_record o r else r)) ≡ (if hidden then r else made_record (if same then Some o else other) r)
made_at true true o other r h = absurd (let no_way = h refl in cc)
made_at false true o other r h = refl
made_at true false o other r h = ap (λ s. with_state s r) (appeared_stays o other r.state)
made_at false false o other r h = refl

module _ (read : List Piece) where
  hidden_like : (k name : Key) (b : Bool) → has_key k read ≡ b → key_eq name k ≡ true → has_key name read ≡ b
  hidden_like k name b is same = subst (λ z. has_key z read ≡ b) (sym (basics.same_key name k same)) is

  by_hidden : (p : Piece) (ps : List Piece) (t : Table) (b : Bool) → has_key p.key read ≡ b → ((s : Table) → appeared_each read ps s ≡ all_appeared read ps s) → (if b then appeared_each read ps t else appeared_each read ps (changed (appeared_record p.object) p.key t)) ≡ all_appeared read (p ∷ ps) t
  by_hidden p ps t true is rest = rest t ∙ same_table _ _ t.next (λ name. read_at (key_eq name p.key) (has_key name read) p.object (object_under ps name) (t.at name) (hidden_like p.key name true is))
  by_hidden p ps t false is rest = rest (changed (appeared_record p.object) p.key t) ∙ same_table _ _ t.next (λ name. made_at (key_eq name p.key) (has_key name read) p.object (object_under ps name) (t.at name) (hidden_like p.key name false is))

  pub appears : (ps : List Piece) (t : Table) → appeared_each read ps t ≡ all_appeared read ps t
  appears [] t = same_table _ _ t.next (λ name. if_self (has_key name read) (t.at name))
  appears (p ∷ ps) t = by_hidden p ps t (has_key p.key read) refl (appears ps)

-- ---- an accepted session

used_twice : (d : Bytes) (r : Record) → changed_record (UseUp d) (changed_record (UseUp d) r) ≡ changed_record (UseUp d) r
used_twice d r = refl

made_none : (d : Bytes) (new : Option Bytes) → ledger.made new (Inactive d) ≡ Inactive d
made_none d None = refl
made_none d (Some o) = refl

abbrev left_at : Bool → Bool → Bytes → Record → Record
left_at used read d r = if used then r else if read then changed_record (Leave d) r else r

accept_at : (used read : Bool) (d : Bytes) (new : Option Bytes) (r : Record) →
    (if read
    then (if used then changed_record (UseUp d) (left_at used read d r) else left_at used read d r)
    else made_record new (if used then changed_record (UseUp d) (left_at used read d r) else left_at used read d r))
    ≡ with_state (ledger.accept_state used read d new r.state) r
accept_at true true d new r = refl
accept_at true false d new r = ap (λ s. with_state s r) (made_none d new)
accept_at false true d new r = refl
accept_at false false d new r = refl

pub accepts : (d : Bytes) (used read made : List Piece) (t : Table) → appeared_each read made (changed_each (changed_record (UseUp d)) used (changed_but used (changed_record (Leave d)) read t)) ≡ accepted d used read made t.next t
accepts d used read made t =
    appears read made _
    ∙ ap (all_appeared read made) (each_is _ (used_twice d) used _ ∙ ap (all_changed (changed_record (UseUp d)) used) (but_is used _ (leave_twice d) read t))
    ∙ same_table _ _ t.next (λ name. accept_at (has_key name used) (has_key name read) d (object_under made name) (t.at name))
