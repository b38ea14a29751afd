-- How a table is filled at the start.
use Rattle.std.proofs.Common.{◌≡◌, ℕ, suc, ◌+◌, ◌<◌, ◌==◌, nat_lt, Bool, true, false, not, ◌&&◌, ◌||◌, if◌then◌else◌, List, [], ◌∷◌, ◌++◌, length, get_or, take, drop, map, Some, None, refl, sym, ap, ◌∙◌, subst, add-one, drop-cons, arith}
use Rattle.cs_ledger.specs.Session as ledger
use Rattle.cs_ledger.specs.Table as table
use Rattle.cs_ledger.specs.Table.{State, Unknown, Active, Locked, Inactive, Shared, Record, Table, is_unknown}
use Rattle.cs_table.specs.declared.piece.Piece.{Piece}
use Rattle.cs_table.specs.Seen.{Stored, seen, seen_piece}
use Rattle.cs_tx.specs.Sessions.{key_seen}
use Rattle.cs_table.specs.Changes.{Becomes, changed, appeared_record, appeared_each}
use Rattle.cs_table.specs.Genesis.{second_of, is_dummy_below, with_dummy_objects, empty}
use Rattle.std.proofs.Math.Seq.{take-suc}
use Rattle.cs_tx_value.specs.declared.object.Object.{Object}
use Rattle.cs_tx_value.specs.Object.{object_encoding}
use Rattle.cs_table.proofs.Rows.{same_table}
use Rattle.cs_table.proofs.Loops.{Left}
use Rattle.cs_table.proofs.Weights.{AllGain, all_stay, all_after, one_gains, if_gains, deciding, appears_gain}
use Rattle.cs_table.proofs.Marked.{marks_self, marks_after}

-- a piece is loaded after those before the index
pub record Loading (ps : List Piece) (i : ℕ) (old now : Stored) : Type 0 where
  pub left : Left (deciding []) (appeared_each []) (drop i ps) ps old now
  pub shown : (name : ledger.Key) → is_unknown ((seen now).at name).state ≡ not (ledger.has_key name (map seen_piece (take i ps)))
  pub second : second_of (map seen_piece (take i ps)) (drop i ps) ≡ second_of [] ps

next : {X : Type 0} (xs : List X) (i : ℕ) (x : X) → i < length xs → x ≡ get_or xs i x → drop i xs ≡ x ∷ drop (i + 1) xs
next xs i x lt is = rw add-one (drop-cons xs i x lt ∙ ap (λ y. y ∷ drop (suc i) xs) (sym is))

taken : {X : Type 0} (xs : List X) (i : ℕ) (x : X) → i < length xs → x ≡ get_or xs i x → take (i + 1) xs ≡ take i xs ++ x ∷ []
taken xs i x lt is = rw add-one (take-suc xs i x lt ∙ ap (λ y. take i xs ++ y ∷ []) (sym is))

map-last : (ps : List Piece) (p : Piece) → map seen_piece (ps ++ p ∷ []) ≡ map seen_piece ps ++ seen_piece p ∷ []
map-last [] p = refl
map-last (q ∷ ps) p = ap (λ zs. seen_piece q ∷ zs) (map-last ps p)

or_last : (a b c : Bool) → (a || (b || c)) ≡ ((a || b) || c)
or_last true b c = refl
or_last false b c = refl

or_none : (b : Bool) → (b || false) ≡ (false || b)
or_none true = refl
or_none false = refl

has_last : (name : ledger.Key) (ps : List ledger.Piece) (p : ledger.Piece) → ledger.has_key name (ps ++ p ∷ []) ≡ (ledger.has_key name ps || ledger.key_eq name p.key)
has_last name [] p = or_none (ledger.key_eq name p.key)
has_last name (q ∷ ps) p = ap (λ b. ledger.key_eq name q.key || b) (has_last name ps p) ∙ or_last (ledger.key_eq name q.key) (ledger.has_key name ps) (ledger.key_eq name p.key)

appeared_known : (o : List ℕ) (s : State) → is_unknown (table.appeared o s) ≡ false
appeared_known o Unknown = refl
appeared_known o (Active x) = refl
appeared_known o (Locked x by) = refl
appeared_known o (Inactive by) = refl
appeared_known o (Shared x readers) = refl

shown_more : (same had : Bool) (o : List ℕ) (r : Record) → is_unknown r.state ≡ not had → is_unknown (if same then appeared_record o r else r).state ≡ not (had || same)
shown_more true true o r h = appeared_known o r.state
shown_more true false o r h = appeared_known o r.state
shown_more false true o r h = h
shown_more false false o r h = h

-- where an object comes into being, no record weighs less
appearing : (now later : Stored) (o : List ℕ) (key : ledger.Key) → Becomes now later (changed (appeared_record o) key (seen now)) → AllGain (deciding []) (seen now) (seen later)
appearing now later o key did =
    subst (λ (t : Table). AllGain (deciding []) (seen now) t) (sym did.shows) (one_gains (deciding []) (appeared_record o) (appears_gain [] o) key (seen now))

not_true : (b : Bool) → true ≡ not b → b ≡ false
not_true true h = absurd (let no_way = h in cc)
not_true false h = refl

not_false : (b : Bool) → false ≡ not b → b ≡ true
not_false true h = refl
not_false false h = absurd (let no_way = h in cc)

module _ (ps : List Piece) (i : ℕ) (p : Piece) (old now : Stored) (lt : i < length ps) (is : p ≡ get_or ps i p) (so_far : Loading ps i old now) where
  abbrev before : List ledger.Piece
  before = map seen_piece (take i ps)

  abbrev had : Bool
  had = ledger.has_key (key_seen p.key) before

  step : (if had then Some p.key else second_of (before ++ seen_piece p ∷ []) (drop (i + 1) ps)) ≡ second_of [] ps
  step = subst (λ rest. second_of before rest ≡ second_of [] ps) (next ps i p lt is) so_far.second

  pub is_twice : is_unknown ((seen now).at (key_seen p.key)).state ≡ false → second_of [] ps ≡ Some p.key
  is_twice known = sym (rw (not_false had (sym known ∙ so_far.shown (key_seen p.key))) at step)

  before_more : map seen_piece (take (i + 1) ps) ≡ before ++ seen_piece p ∷ []
  before_more = ap (map seen_piece) (taken ps i p lt is) ∙ map-last (take i ps) p

  pub loaded : (later : Stored) (object : Object) → object ≡ p.object → is_unknown ((seen now).at (key_seen p.key)).state ≡ true → Becomes now later (changed (appeared_record (object_encoding object)) (key_seen p.key) (seen now)) → Loading ps (i + 1) old later
  loaded later object same new did = record {
    left = record {
      shows = ap (appeared_each [] (map seen_piece (drop (i + 1) ps))) (did.shows ∙ ap (λ o. changed (appeared_record (object_encoding o)) (key_seen p.key) (seen now)) same)
          ∙ subst (λ rest. appeared_each [] (map seen_piece rest) (seen now) ≡ appeared_each [] (map seen_piece ps) (seen old)) (next ps i p lt is) so_far.left.shows;
      shards = did.shards ∙ so_far.left.shards;
      shard = did.shard ∙ so_far.left.shard;
      marks = marks_after (deciding []) old now later so_far.left.gains (appearing now later (object_encoding object) (key_seen p.key) did) so_far.left.marks did.marks;
      gains = all_after (deciding []) (seen old) (seen now) (seen later) so_far.left.gains (appearing now later (object_encoding object) (key_seen p.key) did);
    };
    shown = λ name.
        ap (λ t. is_unknown (t.at name).state) did.shows
        ∙ shown_more (ledger.key_eq name (key_seen p.key)) (ledger.has_key name before) (object_encoding object) ((seen now).at name) (so_far.shown name)
        ∙ ap not (sym (ap (ledger.has_key name) before_more ∙ has_last name before (seen_piece p)));
    second = ap (λ bs. second_of bs (drop (i + 1) ps)) before_more ∙ rw (not_true had (sym new ∙ so_far.shown (key_seen p.key))) at step;
  }

pub begins : (ps : List Piece) (old : Stored) → seen old ≡ empty old.next → Loading ps 0 old old
begins ps old is = record {
  left = record { shows = refl; shards = refl; shard = refl; marks = marks_self old; gains = all_stay (deciding []) (seen old) };
  shown = λ name. ap (λ t. is_unknown (t.at name).state) is;
  second = refl;
}

pub none_twice : (ps : List Piece) (i : ℕ) (old now : Stored) → drop i ps ≡ [] → Loading ps i old now → second_of [] ps ≡ None
none_twice ps i old now none loading = sym (subst (λ rest. second_of (map seen_piece (take i ps)) rest ≡ second_of [] ps) none loading.second)

-- ---- dummies

below_more : (k n : ℕ) → nat_lt k (n + 1) ≡ (nat_lt k n || (k == n))
below_more k n = grind arith

dummy_more : (name : ledger.Key) (shard n : ℕ) → is_dummy_below shard (n + 1) name ≡ (is_dummy_below shard n name || ledger.key_eq name (ledger.Dummy shard n))
dummy_more (ledger.Object d) shard n = refl
dummy_more (ledger.Dummy s k) shard n = by_shard (s == shard)
  where
    by_shard : (b : Bool) → (b && nat_lt k (n + 1)) ≡ ((b && nat_lt k n) || (b && (k == n)))
    by_shard true = below_more k n
    by_shard false = refl

appeared_again : (o : List ℕ) (s : State) → table.appeared o (table.appeared o s) ≡ table.appeared o s
appeared_again o Unknown = refl
appeared_again o (Active x) = refl
appeared_again o (Locked x by) = refl
appeared_again o (Inactive by) = refl
appeared_again o (Shared x readers) = refl

one_dummy : (new had : Bool) (o : List ℕ) (r : Record) → (if new then appeared_record o (if had then appeared_record o r else r) else (if had then appeared_record o r else r)) ≡ (if had || new then appeared_record o r else r)
one_dummy true true o r = ap (λ s. record { state = s; book = r.book }) (appeared_again o r.state)
one_dummy true false o r = refl
one_dummy false true o r = refl
one_dummy false false o r = refl

dummies_next : (shard n : ℕ) (o : List ℕ) (t : Table) → changed (appeared_record o) (ledger.Dummy shard n) (with_dummy_objects shard n o t) ≡ with_dummy_objects shard (n + 1) o t
dummies_next shard n o t = same_table _ _ t.next (λ name.
    one_dummy (ledger.key_eq name (ledger.Dummy shard n)) (is_dummy_below shard n name) o (t.at name)
    ∙ ap (λ b. if b then appeared_record o (t.at name) else t.at name) (sym (dummy_more name shard n)))

dummies_appear : (old now : Stored) (shard n : ℕ) (o : List ℕ) → Becomes old now (with_dummy_objects shard n o (seen old)) → AllGain (deciding []) (seen old) (seen now)
dummies_appear old now shard n o did =
    subst (λ (t : Table). AllGain (deciding []) (seen old) t) (sym did.shows)
    (record { each = λ name. if_gains (deciding []) (is_dummy_below shard n name) ((seen old).at name) (appeared_record o ((seen old).at name)) (appears_gain [] o ((seen old).at name)) })

pub dummies_more : (old now later : Stored) (shard n s k : ℕ) (o o' : List ℕ) → s ≡ shard → k ≡ n → o' ≡ o → Becomes old now (with_dummy_objects shard n o (seen old)) → Becomes now later (changed (appeared_record o') (ledger.Dummy s k) (seen now)) → Becomes old later (with_dummy_objects shard (n + 1) o (seen old))
dummies_more old now later shard n s k o o' is_shard is_n same so_far did = record {
  shows = did.shows
      ∙ ap (λ x. changed (appeared_record x) (ledger.Dummy s k) (seen now)) same
      ∙ ap (λ x. changed (appeared_record o) (ledger.Dummy x k) (seen now)) is_shard
      ∙ ap (λ x. changed (appeared_record o) (ledger.Dummy shard x) (seen now)) is_n
      ∙ ap (changed (appeared_record o) (ledger.Dummy shard n)) so_far.shows ∙ dummies_next shard n o (seen old);
  shards = did.shards ∙ so_far.shards;
  shard = did.shard ∙ so_far.shard;
  marks = marks_after (deciding []) old now later (dummies_appear old now shard n o so_far) (appearing now later o' (ledger.Dummy s k) did) so_far.marks did.marks;
}

none_less : (j : ℕ) → nat_lt j 0 ≡ false
none_less j = grind arith

none_below : (shard : ℕ) (name : ledger.Key) → is_dummy_below shard 0 name ≡ false
none_below shard (ledger.Object d) = refl
none_below shard (ledger.Dummy s k) = by_shard (s == shard)
  where
    by_shard : (b : Bool) → (b && nat_lt k 0) ≡ false
    by_shard true = none_less k
    by_shard false = refl

pub no_dummies : (old : Stored) (shard : ℕ) (o : List ℕ) → Becomes old old (with_dummy_objects shard 0 o (seen old))
no_dummies old shard o = record { shows = same_table _ _ old.next (λ name. ap (λ b. if b then appeared_record o ((seen old).at name) else (seen old).at name) (sym (none_below shard name))); shards = refl; shard = refl; marks = marks_self old }
