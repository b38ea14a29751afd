-- A session with all its commit votes that holds its lock is accepted, and then its outputs are there.
use Rattle.std.proofs.Common.{◌≡◌, ◌⊎◌, inl, inr, ℕ, true, false, not, ◌&&◌, List, [], ◌∷◌, ◌++◌, Some, refl, sym, ap, ◌∙◌, subst, if◌then◌else◌}
use Rattle.std.specs.Prelude.{◌==◌}
use Rattle.std.proofs.lemmas.Bool.{cond_both, both_ways, and_parts, and_from, or_cases, not-true, eq-eqb}
use Rattle.cs_base.specs.Lists.{IsIn, is_empty}
use Rattle.cs_ledger.specs.Ledger.{Bytes, Item, Transaction, names, has, all_differ}
use Rattle.cs_ledger.specs.Session.{Session, Rules, Key, Object, Piece, key_eq, has_key, objects_in, dummies_in, object_under, first_key, used_up, read_only, anchor, all_items, concerns, well_formed}
use Rattle.cs_ledger.specs.Table.{Vote, Commit, State, Unknown, Active, Locked, Inactive, Shared, Table, Prepare, Decide, Accepted, Skipped, Void, Outcome, is_held_by, is_locked_by, is_inactive, has_room, vote_in, made, accept_state, new_dummy, new_pieces, with_accepted, session_of, act, exec, table_of}
use Rattle.cs_ledger.specs.ShardWorld.{Step, log, shard_votes, votes_in, is_vote, is_prepare_of, all_commit, IsAllowed, AllAllowed, sessions, AreNamedApart}
use Rattle.cs_ledger.proofs.Basics.{same_bytes, bytes_from, in_left, piece_has}
use Rattle.cs_ledger.proofs.Kept.{own}
use Rattle.cs_ledger.proofs.Names.{piece_of, object_piece, in_objects, item_has}
use Rattle.cs_ledger.proofs.Serial.{settle_commit}
use Rattle.cs_ledger.proofs.Votes.{log_at, prepares_is, all_at, no_both, commits_in, aborts_in, Facts, facts_of}
use Rattle.cs_world_law.proofs.Origins.{IsMaker, free, origins-of}

held-once : (a b : Bytes) (s : State) → is_held_by a s ≡ true → is_held_by b s ≡ true → a ≡ b
held-once a b Unknown e f = cc
held-once a b (Active object) e f = cc
held-once a b (Locked object by) e f = same_bytes a by e ∙ sym (same_bytes b by f)
held-once a b (Inactive by) e f = same_bytes a by e ∙ sym (same_bytes b by f)
held-once a b (Shared object readers) e f = cc

-- where there is an input, it is the anchor, whatever the dummies are
first-of : (objects a b : List Piece) (piece : Piece) → IsIn piece objects → first_key (objects ++ a) ≡ first_key (objects ++ b)
first-of [] a b piece i = absurd i
first-of (o ∷ objects) a b piece i = refl

-- an object stands under its name among objects of which no two have one name
under-own : (rules : Rules) (shard : ℕ) (items : List Item) (more : List Piece) (item : Item) → all_differ (names items) ≡ true → IsIn item items → rules.shard_of item.name ≡ shard
    → object_under (objects_in rules shard items ++ more) (Object item.name) ≡ Some item.object
under-own rules shard [] more item differ i home = absurd i
under-own rules shard (other ∷ items) more item differ i home =
    let d = and_parts _ _ differ in
    cond_both (rules.shard_of other.name == shard) (piece_of other ∷ objects_in rules shard items) (objects_in rules shard items) (λ l. object_under (l ++ more) (Object item.name) ≡ Some item.object)
    (λ e. cond_both (key_eq (Object item.name) (Object other.name)) _ _ (λ o. o ≡ Some item.object)
    (λ same. ap (λ (z : Item). Some z.object) (sym (one d.0 i (same_bytes item.name other.name same))))
    (λ differs. under-own rules shard items more item d.1 (later i (λ is. both_ways _ differs (bytes_from item.name other.name (ap (λ (z : Item). z.name) is)))) home))
    (λ e. under-own rules shard items more item d.1 (later i (λ is. both_ways _ e (eq-eqb _ _ (ap (λ (z : Item). rules.shard_of z.name) (sym is) ∙ home)))) home)
  where
    later : (item ≡ other) ⊎ IsIn item items → (item ≡ other → ⊥) → IsIn item items
    later (inl is) f = absurd (f is)
    later (inr j) f = j

    one : not (has other.name (names items)) ≡ true → (item ≡ other) ⊎ IsIn item items → item.name ≡ other.name → item ≡ other
    one alone (inl is) same = is
    one alone (inr j) same = absurd (both_ways _ (not-true _ alone) (ap (λ n. has n (names items)) (sym same) ∙ item_has item items j))

module _ (rules : Rules) (known : List Session) (apart : AreNamedApart rules.genesis known) (past : List Step) (allowed : AllAllowed rules past) (within : (x : Session) → IsIn x (sessions past) → IsIn x known) where
  facts : Facts rules known past
  facts = facts_of rules known apart.session past allowed within

  -- a session with all its commit votes holds its anchor in each of its shards
  holds-anchor : (x : Session) → IsIn x known → all_commit rules past x ≡ true → (item : Item) → IsIn item x.transaction.inputs
      → (key : Key) × (anchor rules x (rules.shard_of item.name) ≡ Some key) × (is_held_by x.digest ((table_of rules (rules.shard_of item.name) (log (rules.shard_of item.name) past)).at key).state ≡ true)
  holds-anchor x knows all item i =
      let shard = rules.shard_of item.name in
      let vote = all_at rules past x Commit (all_items x.transaction) all item (in_left item x.transaction.inputs _ i) in
      let f = facts.fixed x knows shard Commit vote in
      let r = (table_of rules shard (log shard past)).at f.key in
      elim (settle_commit (is_held_by x.digest r.state) (vote_in r.book x.digest) (is_inactive r.state) (has_room r.book) f.fixed) [
        | inl held ↦ (f.key, f.is, held)
        | inr noted ↦
            let by = (facts.kept shard).noted f.key x.digest noted in
            let one = subst (aborts_in rules past) (apart.session by.x x by.knows knows by.digest) by.holds in
            absurd (no_both rules known apart.session past facts x knows all one)
      ]

  -- of two sessions of one transaction only one gets all its commit votes
  one-session : (x y : Session) → IsIn x known → IsIn y known → all_commit rules past x ≡ true → all_commit rules past y ≡ true → x.transaction ≡ y.transaction → (item : Item) → IsIn item x.transaction.inputs → x ≡ y
  one-session x y kx ky all_x all_y same item i =
      let shard = rules.shard_of item.name in
      let a = holds-anchor x kx all_x item i in
      let b = holds-anchor y ky all_y item (subst (λ (t : Transaction). IsIn item t.inputs) same i) in
      let objects = in_objects rules shard x.transaction.inputs item i refl in
      let anchors : anchor rules x shard ≡ anchor rules y shard =
      first-of (objects_in rules shard x.transaction.inputs) (dummies_in rules shard x.dummies) (dummies_in rules shard y.dummies) (piece_of item) objects
      ∙ ap (λ (t : Transaction). first_key (objects_in rules shard t.inputs ++ dummies_in rules shard y.dummies)) same in
      let key : Some a.0 ≡ Some b.0 = sym a.1 ∙ anchors ∙ b.1 in
      let at : a.0 ≡ b.0 = cc in
      let held = subst (λ k. is_held_by x.digest ((table_of rules shard (log shard past)).at k).state ≡ true) at a.2 in
      apart.session x y kx ky (held-once x.digest y.digest _ held b.2)

  -- what was voted on was well formed
  pub voted-well : (x : Session) → IsIn x known → (vote : Vote) (shard : ℕ) → (steps : List Step) → AllAllowed rules steps → ((z : Session) → IsIn z (sessions steps) → IsIn z known) → shard_votes rules steps shard x vote ≡ true → well_formed rules x ≡ true
  voted-well x knows vote shard [] ok in_known h = absurd (both_ways false refl h)
  voted-well x knows vote shard (step ∷ steps) ok in_known h =
      log_at (λ l. votes_in rules shard x.digest vote l ≡ true → well_formed rules x ≡ true) shard step steps
      (λ at e. elim (or_cases (is_prepare_of x.digest step.entry && is_vote vote (exec rules shard (table_of rules shard (log shard steps)) step.entry).effect) _ e) [
        | inl now ↦
            let y = prepares_is x.digest step.entry (and_parts (is_prepare_of x.digest step.entry) _ now).0 in
            let same : x ≡ y.x = apart.session x y.x knows (subst (λ e. IsIn (session_of e) known) y.entry_is (in_known (session_of step.entry) (inl refl))) y.digest in
            let fine : IsAllowed rules steps step.shard (Prepare y.x) = subst (λ e. IsAllowed rules steps step.shard e) y.entry_is ok.0 in
            ap (λ (z : Session). well_formed rules z) same ∙ fine.0
        | inr before ↦ voted-well x knows vote shard steps ok.1 (λ z i. in_known z (inr i)) before
      ])
      (λ e. voted-well x knows vote shard steps ok.1 (λ z i. in_known z (inr i)) e)
      h

  module _ (x : Session) (knows : IsIn x known) (shard : ℕ) (key : Key) (is : anchor rules x shard ≡ Some key) (well : well_formed rules x ≡ true) (among : concerns rules x shard ≡ true) (all : commits_in rules past x)
      (held : is_locked_by x.digest ((table_of rules shard (log shard past)).at key).state ≡ true) where
    abbrev Before : Table
    Before = table_of rules shard (log shard past)

    pub decides-so : exec rules shard Before (Decide x Commit) ≡ record { table = with_accepted rules shard Before x; effect = Accepted }
    decides-so =
        let void : Outcome = record { table = Before; effect = Void } in
        let accepted : Outcome = record { table = with_accepted rules shard Before x; effect = Accepted } in
        let skipped : Outcome = record { table = Before; effect = Skipped } in
        ap (λ b. if b then act rules shard Before (Decide x Commit) (anchor rules x shard) else void) (and_from _ _ well among)
        ∙ ap (λ o. act rules shard Before (Decide x Commit) o) is
        ∙ ap (λ b. if b then accepted else skipped) held

    pub used-gone : (piece : Piece) → IsIn piece (used_up rules x shard) → ((with_accepted rules shard Before x).at piece.key).state ≡ Inactive x.digest
    used-gone piece i =
        ap (λ b. accept_state b (has_key piece.key (read_only rules x shard)) x.digest (object_under (new_pieces rules shard Before x) piece.key) (Before.at piece.key).state) (piece_has piece (used_up rules x shard) i)

    -- an output of it wasn't there before
    unknown-before : (item : Item) → IsIn item x.transaction.outputs → (Before.at (Object item.name)).state ≡ Unknown
    unknown-before item i =
        elim (origins-of rules known apart.session past allowed within shard item.name) [
          | inl none ↦ none
          | inr from ↦ elim from [
            | inl first ↦ absurd (apart.genesis_names x item knows i first)
            | inr m ↦ absurd (twice m)
          ]
        ]
      where
        some-input : (items : List Item) → is_empty items ≡ false → (other : Item) × (IsIn other items)
        some-input [] e = cc
        some-input (other ∷ items) e = (other, inl refl)

        twice : IsMaker rules known (commits_in rules past) shard (table_of rules shard (log shard past)) item.name → ⊥
        twice m =
            let tx = apart.transaction x m.y knows m.knows (apart.outputs x m.y item m.item knows m.knows i m.output (sym m.named)) in
            let input = some-input x.transaction.inputs (not-true _ (and_parts _ _ (and_parts _ _ well).0).0) in
            let same = one-session x m.y knows m.knows all.0 m.all.0 tx input.0 input.1 in
            let k : Some key ≡ Some m.key = sym is ∙ ap (λ (z : Session). anchor rules z shard) same ∙ m.is in
            let at : key ≡ m.key = cc in
            let gone : ((table_of rules shard (log shard past)).at key).state ≡ Inactive m.y.digest = ap (λ z. ((table_of rules shard (log shard past)).at z).state) at ∙ m.gone in
            let locked : is_locked_by x.digest (Inactive m.y.digest) ≡ true = ap (λ s. is_locked_by x.digest s) (sym gone) ∙ held in
            cc

    pub made-active : (piece : Piece) → IsIn piece (objects_in rules shard x.transaction.outputs) → ((with_accepted rules shard Before x).at piece.key).state ≡ Active piece.object
    made-active piece i =
        let p = object_piece rules shard x.transaction.outputs piece i in
        let k = Object p.item.name in
        let unknown = unknown-before p.item p.within in
        let holding = own rules known apart.session shard Before (commits_in rules past) (aborts_in rules past) (facts.kept shard) x knows key is held in
        let f = free rules known apart.session (commits_in rules past) (aborts_in rules past) shard Before (facts.kept shard) x k Unknown holding unknown (λ object q. cc) (λ object readers q. cc) in
        let new = under-own rules shard x.transaction.outputs (new_dummy rules shard Before (dummies_in rules shard x.dummies)) p.item (apart.places x knows) p.within p.home in
        let state : ((with_accepted rules shard Before x).at k).state ≡ Active p.item.object =
        ap (λ b. accept_state b (has_key k (read_only rules x shard)) x.digest (object_under (new_pieces rules shard Before x) k) (Before.at k).state) f.0
        ∙ ap (λ b. accept_state false b x.digest (object_under (new_pieces rules shard Before x) k) (Before.at k).state) f.1
        ∙ ap (λ o. made o (Before.at k).state) new
        ∙ ap (λ s. made (Some p.item.object) s) unknown in
        subst (λ (z : Piece). ((with_accepted rules shard Before x).at z.key).state ≡ Active z.object) (sym p.is) state
