-- What a record says of a session once its shard has voted.
use Rattle.std.proofs.Common.{◌≡◌, ◌≤◌, List, [], ◌∷◌, ◌++◌, length, Bool, true, false, Option, Some, None, refl, sym, ap, ◌∙◌, arith, length-append}
use Rattle.std.specs.Prelude.{bytes_eq, if◌then◌else◌}
use Rattle.std.proofs.lemmas.Bool.{ltb-false, le-ltb}
use Rattle.cs_ledger.specs.Ledger.{Bytes}
use Rattle.cs_base.specs.Options.{or_else}
use Rattle.cs_ledger.specs.Table.{Vote, Commit, Abort, Book, State, Unknown, Active, Locked, Inactive, Shared, is_held_by, is_inactive, vote_in, has_room, locked, joined_by, vacated_by, read_by, without_reader, made}
use Rattle.cs_ledger.proofs.Basics.{bytes_refl, bytes_differ}

abbrev pub settle : Bool → Option Vote → Bool → Bool → Option Vote
settle held noted gone room =
    if held then Some Commit else or_else noted (if gone then Some Abort else if room then None else Some Abort)

-- the vote that a record fixes for a session of which it is the anchor
abbrev pub settled : State → Book → Bytes → Option Vote
settled state book d = settle (is_held_by d state) (vote_in book d) (is_inactive state) (has_room book)

settle_open : (held : Bool) (noted : Option Vote) (gone room : Bool) → settle held noted gone room ≡ None → (held ≡ false) × (noted ≡ None) × (gone ≡ false) × (room ≡ true)
settle_open true noted gone room e = cc
settle_open false (Some v) gone room e = cc
settle_open false None true room e = cc
settle_open false None false true e = (refl, refl, refl, refl)
settle_open false None false false e = cc

-- nothing is fixed yet
pub open_parts : (state : State) (book : Book) (d : Bytes) → settled state book d ≡ None → (is_held_by d state ≡ false) × (vote_in book d ≡ None) × (is_inactive state ≡ false) × (has_room book ≡ true)
open_parts state book d e = settle_open (is_held_by d state) (vote_in book d) (is_inactive state) (has_room book) e

pub held_settles : (state : State) (book : Book) (d : Bytes) → is_held_by d state ≡ true → settled state book d ≡ Some Commit
held_settles state book d e = ap (λ b. settle b (vote_in book d) (is_inactive state) (has_room book)) e

settle_gone : (held : Bool) (noted : Option Vote) (room : Bool) (vote : Vote) → settle held noted false room ≡ Some vote → settle held noted true room ≡ Some vote
settle_gone true noted room vote e = e
settle_gone false (Some v) room vote e = e
settle_gone false None true vote e = cc
settle_gone false None false vote e = e

-- what another session locked is used up by it
pub settled_used : (object by d : Bytes) (book : Book) (vote : Vote) → settled (Locked object by) book d ≡ Some vote → settled (Inactive by) book d ≡ Some vote
settled_used object by d book vote e = settle_gone (bytes_eq d by) (vote_in book d) (has_room book) vote e

pub settled_released : (object by d : Bytes) (book : Book) (vote : Vote) → (d ≡ by → ⊥) → settled (Locked object by) book d ≡ Some vote → settled (Active object) book d ≡ Some vote
settled_released object by d book vote ne e =
    ap (λ b. settle b (vote_in book d) false (has_room book)) (sym (bytes_differ d by ne)) ∙ e

pub settled_locked : (state : State) (by d : Bytes) (book : Book) (vote : Vote) → (d ≡ by → ⊥) → settled state book d ≡ Some vote → settled (locked by state) book d ≡ Some vote
settled_locked Unknown by d book vote ne e = e
settled_locked (Active object) by d book vote ne e =
    ap (λ b. settle b (vote_in book d) false (has_room book)) (bytes_differ d by ne) ∙ e
settled_locked (Locked object other) by d book vote ne e = e
settled_locked (Inactive other) by d book vote ne e = e
settled_locked (Shared object readers) by d book vote ne e = e

pub settled_joined : (by : Bytes) (state : State) (book : Book) (d : Bytes) (vote : Vote) → settled state book d ≡ Some vote → settled (joined_by by state) book d ≡ Some vote
settled_joined by Unknown book d vote e = e
settled_joined by (Active object) book d vote e = e
settled_joined by (Locked object other) book d vote e = e
settled_joined by (Inactive other) book d vote e = e
settled_joined by (Shared object readers) book d vote e = e

settled_shared : (object : Bytes) (readers more : List Bytes) (book : Book) (d : Bytes) (vote : Vote) → settled (Shared object readers) book d ≡ Some vote → settled (read_by object more) book d ≡ Some vote
settled_shared object readers [] book d vote e = e
settled_shared object readers (r ∷ more) book d vote e = e

pub settled_left : (by : Bytes) (state : State) (book : Book) (d : Bytes) (vote : Vote) → settled state book d ≡ Some vote → settled (vacated_by by state) book d ≡ Some vote
settled_left by Unknown book d vote e = e
settled_left by (Active object) book d vote e = e
settled_left by (Locked object other) book d vote e = e
settled_left by (Inactive other) book d vote e = e
settled_left by (Shared object readers) book d vote e = settled_shared object readers (without_reader by readers) book d vote e

pub settled_made : (new : Option Bytes) (state : State) (book : Book) (d : Bytes) (vote : Vote) → settled state book d ≡ Some vote → settled (made new state) book d ≡ Some vote
settled_made None state book d vote e = e
settled_made (Some object) Unknown book d vote e = e
settled_made (Some object) (Active other) book d vote e = e
settled_made (Some object) (Locked other by) book d vote e = e
settled_made (Some object) (Inactive by) book d vote e = e
settled_made (Some object) (Shared other readers) book d vote e = e

pub vote_in-append : (book : Book) (note : Bytes × Vote) (d : Bytes) → vote_in (book ++ note ∷ []) d ≡ or_else (vote_in book d) (if bytes_eq d note.0 then Some note.1 else None)
vote_in-append [] note d = refl
vote_in-append (other ∷ book) note d =
    elim (bytes_eq d other.0) as (λ t. (if t then Some other.1 else vote_in (book ++ note ∷ []) d) ≡ or_else (if t then Some other.1 else vote_in book d) (if bytes_eq d note.0 then Some note.1 else None)) [
      | true ↦ refl
      | false ↦ vote_in-append book note d
    ]

or_none : (noted : Option Vote) → or_else noted None ≡ noted
or_none (Some v) = refl
or_none None = refl

pub vote_in-other : (book : Book) (note : Bytes × Vote) (d : Bytes) → (d ≡ note.0 → ⊥) → vote_in (book ++ note ∷ []) d ≡ vote_in book d
vote_in-other book note d ne =
    vote_in-append book note d
    ∙ ap (λ (b : Bool). or_else (vote_in book d) (if b then Some note.1 else None)) (bytes_differ d note.0 ne)
    ∙ or_none (vote_in book d)

settle_full : (held : Bool) (noted : Option Vote) (gone room less : Bool) (vote : Vote) → (room ≡ false → less ≡ false) → settle held noted gone room ≡ Some vote → settle held noted gone less ≡ Some vote
settle_full true noted gone room less vote h e = e
settle_full false (Some v) gone room less vote h e = e
settle_full false None true room less vote h e = e
settle_full false None false true less vote h e = cc
settle_full false None false false less vote h e = ap (λ b. settle false None false b) (h refl) ∙ e

pub stays_full : (book : Book) (note : Bytes × Vote) → has_room book ≡ false → has_room (book ++ note ∷ []) ≡ false
stays_full book note e =
    let h : 1024 ≤ length book = ltb-false _ _ e in
    le-ltb _ _ (omega (arith, length-append book (note ∷ [])))

-- a note on another session
pub settled_noted : (state : State) (book : Book) (note : Bytes × Vote) (d : Bytes) (vote : Vote) → (d ≡ note.0 → ⊥) → settled state book d ≡ Some vote → settled state (book ++ note ∷ []) d ≡ Some vote
settled_noted state book note d vote ne e =
    settle_full (is_held_by d state) (vote_in (book ++ note ∷ []) d) (is_inactive state) (has_room book) (has_room (book ++ note ∷ [])) vote (stays_full book note)
    (ap (λ o. settle (is_held_by d state) o (is_inactive state) (has_room book)) (vote_in-other book note d ne) ∙ e)

-- the session's own note
pub settled_own : (state : State) (book : Book) (d : Bytes) (vote : Vote) → is_held_by d state ≡ false → vote_in book d ≡ None → settled state (book ++ (d, vote) ∷ []) d ≡ Some vote
settled_own state book d vote free none =
    let note : Bytes × Vote = (d, vote) in
    let noted : vote_in (book ++ note ∷ []) d ≡ Some vote =
    vote_in-append book note d
    ∙ ap (λ o. or_else o (if bytes_eq d d then Some vote else None)) none
    ∙ ap (λ (b : Bool). if b then Some vote else None) (bytes_refl d) in
    ap (λ b. settle b (vote_in (book ++ note ∷ []) d) (is_inactive state) (has_room (book ++ note ∷ []))) free
    ∙ ap (λ o. settle false o (is_inactive state) (has_room (book ++ note ∷ []))) noted
