-- Loops over pieces: what is left to change, from a table that became one of the same shard.
use Rattle.std.proofs.Common.{◌≡◌, ℕ, suc, ◌+◌, ◌<◌, Bool, true, false, if◌then◌else◌, List, [], ◌∷◌, length, get_or, drop, map, add-one, drop-cons, refl, sym, ap, ◌∙◌, subst}
use Rattle.cs_ledger.specs.Ledger.{Bytes}
use Rattle.cs_ledger.specs.Session.{Piece as Carried, has_key}
use Rattle.cs_ledger.specs.Table.{Record, Table}
use Rattle.cs_table.specs.declared.piece.Piece.{Piece}
use Rattle.cs_tx.specs.Sessions.{key_seen}
use Rattle.cs_table.specs.Seen.{Stored, seen, seen_piece}
use Rattle.cs_table.specs.Changes.{MarksTouched, Becomes, changed, changed_but, appeared_record, appeared_each}
use Rattle.cs_table.proofs.Weights.{AllGain, all_stay, all_after}
use Rattle.cs_table.proofs.Marked.{marks_self, marks_after}

pub record Left (weight : Record → ℕ) (change : List Carried → Table → Table) (rest all : List Piece) (old now : Stored) : Type 0 where
  pub shows : change (map seen_piece rest) (seen now) ≡ change (map seen_piece all) (seen old)
  pub shards : now.shards ≡ old.shards
  pub shard : now.shard ≡ old.shard
  pub marks : MarksTouched old now
  pub gains : AllGain weight (seen old) (seen now)

next : {X : Type 0} (xs : List X) (i : ℕ) (x : X) → i < length xs → x ≡ get_or xs i x → drop i xs ≡ x ∷ drop (i + 1) xs
next xs i x lt is = rw add-one (drop-cons xs i x lt ∙ ap (λ y. y ∷ drop (suc i) xs) (sym is))

pub left_begins : (weight : Record → ℕ) (change : List Carried → Table → Table) (all : List Piece) (old : Stored) → Left weight change all all old old
left_begins weight change all old = record { shows = refl; shards = refl; shard = refl; marks = marks_self old; gains = all_stay weight (seen old) }

-- one piece less
module _ (weight : Record → ℕ) (change : List Carried → Table → Table) (all : List Piece) (i : ℕ) (p : Piece) (old now : Stored) (lt : i < length all) (is : p ≡ get_or all i p)
    (so_far : Left weight change (drop i all) all old now) where
  rest : change (seen_piece p ∷ map seen_piece (drop (i + 1) all)) (seen now) ≡ change (map seen_piece all) (seen old)
  rest = subst (λ (ps : List Piece). change (map seen_piece ps) (seen now) ≡ change (map seen_piece all) (seen old)) (next all i p lt is) so_far.shows

  more : (later : Stored) (step : Table → Table) → ((t : Table) → AllGain weight t (step t)) → Becomes now later (step (seen now)) → AllGain weight (seen now) (seen later)
  more later step gains did = subst (λ (t : Table). AllGain weight (seen now) t) (sym did.shows) (gains (seen now))

  pub left_more : (later : Stored) (step : Table → Table) → ((ps : List Carried) (t : Table) → change (seen_piece p ∷ ps) t ≡ change ps (step t))
      → ((t : Table) → AllGain weight t (step t))
      → Becomes now later (step (seen now)) → Left weight change (drop (i + 1) all) all old later
  left_more later step unfolds gains did = record {
    shows = ap (change (map seen_piece (drop (i + 1) all))) did.shows ∙ sym (unfolds (map seen_piece (drop (i + 1) all)) (seen now)) ∙ rest;
    shards = did.shards ∙ so_far.shards;
    shard = did.shard ∙ so_far.shard;
    marks = marks_after weight old now later so_far.gains (more later step gains did) so_far.marks did.marks;
    gains = all_after weight (seen old) (seen now) (seen later) so_far.gains (more later step gains did);
  }

  pub left_same : ((ps : List Carried) (t : Table) → change (seen_piece p ∷ ps) t ≡ change ps t) → Left weight change (drop (i + 1) all) all old now
  left_same unfolds = record {
    shows = sym (unfolds (map seen_piece (drop (i + 1) all)) (seen now)) ∙ rest;
    shards = so_far.shards;
    shard = so_far.shard;
    marks = so_far.marks;
    gains = so_far.gains;
  }

pub left_none : (weight : Record → ℕ) (change : List Carried → Table → Table) (left_over all : List Piece) (old now : Stored) → ((t : Table) → change [] t ≡ t) → left_over ≡ [] → Left weight change left_over all old now → Becomes old now (change (map seen_piece all) (seen old))
left_none weight change left_over all old now ends none left = record {
  shows = sym (ends (seen now)) ∙ ap (λ (ps : List Piece). change (map seen_piece ps) (seen now)) (sym none) ∙ left.shows;
  shards = left.shards;
  shard = left.shard;
  marks = left.marks;
}

-- whether a made piece is hidden by one that is read
hides : (read : List Carried) (p : Piece) (b : Bool) → has_key (key_seen p.key) read ≡ b → (ps : List Carried) (t : Table)
    → appeared_each read (seen_piece p ∷ ps) t ≡ (if b then appeared_each read ps t else appeared_each read ps (changed (appeared_record (seen_piece p).object) (key_seen p.key) t))
hides read p b is ps t = ap (λ (hidden : Bool). if hidden then appeared_each read ps t else appeared_each read ps (changed (appeared_record (seen_piece p).object) (key_seen p.key) t)) is

pub hidden : (read : List Carried) (p : Piece) → has_key (key_seen p.key) read ≡ true → (ps : List Carried) (t : Table) → appeared_each read (seen_piece p ∷ ps) t ≡ appeared_each read ps t
hidden read p is ps t = hides read p true is ps t

pub shown : (read : List Carried) (p : Piece) (o : Bytes) → o ≡ (seen_piece p).object → has_key (key_seen p.key) read ≡ false → (ps : List Carried) (t : Table)
    → appeared_each read (seen_piece p ∷ ps) t ≡ appeared_each read ps (changed (appeared_record o) (key_seen p.key) t)
shown read p o same is ps t = hides read p false is ps t ∙ ap (λ (x : Bytes). appeared_each read ps (changed (appeared_record x) (key_seen p.key) t)) (sym same)

-- whether a key that is read is used up too
passes : (used : List Carried) (step : Record → Record) (p : Piece) (b : Bool) → has_key (key_seen p.key) used ≡ b → (ps : List Carried) (t : Table)
    → changed_but used step (seen_piece p ∷ ps) t ≡ (if b then changed_but used step ps t else changed_but used step ps (changed step (key_seen p.key) t))
passes used step p b is ps t = ap (λ (passed : Bool). if passed then changed_but used step ps t else changed_but used step ps (changed step (key_seen p.key) t)) is

pub passed : (used : List Carried) (step : Record → Record) (p : Piece) → has_key (key_seen p.key) used ≡ true → (ps : List Carried) (t : Table)
    → changed_but used step (seen_piece p ∷ ps) t ≡ changed_but used step ps t
passed used step p is ps t = passes used step p true is ps t

pub not_passed : (used : List Carried) (step : Record → Record) (p : Piece) → has_key (key_seen p.key) used ≡ false → (ps : List Carried) (t : Table)
    → changed_but used step (seen_piece p ∷ ps) t ≡ changed_but used step ps (changed step (key_seen p.key) t)
not_passed used step p is ps t = passes used step p false is ps t
