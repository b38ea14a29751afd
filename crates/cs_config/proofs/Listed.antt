-- The list of what a master key gives is complete, names no peer twice, and is that of its rows.
use Rattle.std.proofs.Common.{◌≡◌, ℕ, ◌+◌, Bool, true, false, cond, List, [], ◌∷◌, ◌++◌, map, length, take, get_or, ◌<◌, Some, None, refl, sym, ap, ◌∙◌, add-one, append-nil}
use Rattle.std.specs.Prelude.{◌&&◌, ◌||◌, not, ◌*◌}
use Rattle.std.specs.List.{list_all}
use Rattle.std.proofs.Math.Seq.{take-suc}
use Rattle.std.proofs.lemmas.List.Folds.{list_any-append}
use Rattle.cs_base.specs.declared.config.Config.{Config}
use Rattle.cs_base.specs.declared.node_id.NodeId.{NodeId}
use Rattle.cs_base.specs.NodeId.{is_named, same_name}
use Rattle.cs_wire.specs.declared.keys.Row.{Row}
use Rattle.cs_wire.specs.Keys.{Listed, stands, peer_twice, row_of_peer, row_listed, row_between, row_expected}
use Rattle.cs_wire.specs.AllNames.{nodes_below, names_of, has_name}
use Rattle.cs_wire.proofs.Parts.{are_same}
use Rattle.cs_wire.proofs.Rows.{row_skipped}
use Rattle.cs_config.specs.Complete.{is_held, is_complete}
use Rattle.cs_config.specs.Printed.{listed_between, list_with, ListedFits, AllListedFit}
use Rattle.cs_wire.proofs.Named.{has_named, has_node}
use Rattle.cs_config.proofs.Names.{Apart, or_true, neither, unlike, refuted, same_self, all_having, apart_named}

pub list_with-append : (master : List ℕ) (me : NodeId) (xs ys : List NodeId) → list_with master me (xs ++ ys) ≡ list_with master me xs ++ list_with master me ys
list_with-append master me [] ys = refl
list_with-append master me (x ∷ xs) ys = by_same (list_with-append master me xs ys) (same_name x me)
  where
    by_same : list_with master me (xs ++ ys) ≡ list_with master me xs ++ list_with master me ys → (same : Bool)
        → cond same (list_with master me (xs ++ ys)) (listed_between master me x ∷ list_with master me (xs ++ ys)) ≡ cond same (list_with master me xs) (listed_between master me x ∷ list_with master me xs) ++ list_with master me ys
    by_same later true = later
    by_same later false = ap (λ zs. listed_between master me x ∷ zs) later

module _ (master : List ℕ) (me : NodeId) where
  -- ---- names

  -- what holds of each name holds of each peer
  peers_all : (P : NodeId → Bool) (names : List NodeId) → list_all P names ≡ true → list_all (λ peer. P peer.0) (list_with master me names) ≡ true
  peers_all P [] all = refl
  peers_all P (x ∷ names) all = by (peers_all P names) (P x) refl (same_name x me)
    where
      by : (list_all P names ≡ true → list_all (λ peer. P peer.0) (list_with master me names) ≡ true) → (here : Bool) → P x ≡ here → (same : Bool)
          → list_all (λ peer. P peer.0) (cond same (list_with master me names) (listed_between master me x ∷ list_with master me names)) ≡ true
      by rest true here true = rest (sym (ap (λ b. b && list_all P names) here) ∙ all)
      by rest true here false = ap (λ b. b && list_all (λ peer. P peer.0) (list_with master me names)) here ∙ rest (sym (ap (λ b. b && list_all P names) here) ∙ all)
      by rest false here same = absurd (let e : false ≡ true = sym (ap (λ b. b && list_all P names) here) ∙ all in cc)

  -- a name that stands among them, and isn't mine, is a peer
  pub peer_stands : (name : NodeId) (names : List NodeId) → has_name name names ≡ true → same_name name me ≡ false → stands name (list_with master me names) ≡ true
  peer_stands name [] there other = there
  peer_stands name (x ∷ names) there other = by (λ later. peer_stands name names later other) (same_name x name) refl (same_name x me) refl
    where
      by : (has_name name names ≡ true → stands name (list_with master me names) ≡ true) → (here : Bool) → same_name x name ≡ here → (mine : Bool) → same_name x me ≡ mine
          → stands name (cond mine (list_with master me names) (listed_between master me x ∷ list_with master me names)) ≡ true
      by rest true here true own = unlike (same_name name me) (ap (λ (n : NodeId). same_name n me) (sym (are_same x name here)) ∙ own) other
      by rest true here false own = ap (λ b. b || stands name (list_with master me names)) here
      by rest false here true own = rest (sym (ap (λ b. b || has_name name names) here) ∙ there)
      by rest false here false own = ap (λ b. b || stands name (list_with master me names)) here ∙ rest (sym (ap (λ b. b || has_name name names) here) ∙ there)

  -- each name is held
  held_among : (name : NodeId) (names : List NodeId) → has_name name names ≡ true → is_held me (list_with master me names) name ≡ true
  held_among name names there = by (same_name name me) refl
    where
      by : (mine : Bool) → same_name name me ≡ mine → (same_name name me || stands name (list_with master me names)) ≡ true
      by true own = ap (λ b. b || stands name (list_with master me names)) own
      by false own = ap (λ b. b || stands name (list_with master me names)) own ∙ peer_stands name names there own

  pub complete : (config : Config) → is_complete config me (list_with master me (names_of config)) ≡ true
  complete config =
      let names = names_of config in
      let named : list_all (is_named config) names ≡ true = all_having (is_named config) names (λ name there. sym (has_named config name) ∙ there) in
      let held : list_all (is_held me (list_with master me names)) (nodes_below (3 * config.f + 1) config.shards) ≡ true =
      all_having (is_held me (list_with master me names)) (nodes_below (3 * config.f + 1) config.shards) (λ name there. held_among name names (has_node config name there)) in
      ap (λ b. b && list_all (is_held me (list_with master me names)) (nodes_below (3 * config.f + 1) config.shards)) (peers_all (is_named config) names named) ∙ held

  -- ---- no peer stands twice

  -- none of these names stands in the list
  abbrev Clear : List Listed → List NodeId → Type 0
  Clear earlier names = (name : NodeId) → has_name name names ≡ true → stands name earlier ≡ false

  stands-push : (name x : NodeId) (earlier : List Listed) → stands name (earlier ++ listed_between master me x ∷ []) ≡ (stands name earlier || (same_name x name || false))
  stands-push name x earlier = list_any-append (λ peer. same_name peer.0 name) earlier (listed_between master me x ∷ [])

  clear-later : (earlier : List Listed) (x : NodeId) (names : List NodeId) → Clear earlier (x ∷ names) → Clear earlier names
  clear-later earlier x names clear = λ name there. clear name (ap (λ b. same_name x name || b) there ∙ or_true (same_name x name))

  clear-push : (earlier : List Listed) (x : NodeId) (names : List NodeId) → has_name x names ≡ false → Clear earlier (x ∷ names) → Clear (earlier ++ listed_between master me x ∷ []) names
  clear-push earlier x names apart clear = λ name there.
      stands-push name x earlier
      ∙ neither (stands name earlier) (same_name x name || false) (clear-later earlier x names clear name there)
      (ap (λ b. b || false) (refuted (same_name x name) (λ same. unlike (has_name x names) (ap (λ (n : NodeId). has_name n names) (are_same x name same) ∙ there) apart)))

  none_twice : (earlier : List Listed) (place : ℕ) (names : List NodeId) → Apart names → Clear earlier names → peer_twice me earlier place (list_with master me names) ≡ None
  none_twice earlier place [] apart clear = refl
  none_twice earlier place (x ∷ names) apart clear = by (λ before k. none_twice before k names apart.1) (same_name x me) refl
    where
      by : ((before : List Listed) (k : ℕ) → Clear before names → peer_twice me before k (list_with master me names) ≡ None) → (mine : Bool) → same_name x me ≡ mine
          → peer_twice me earlier place (cond mine (list_with master me names) (listed_between master me x ∷ list_with master me names)) ≡ None
      by rest true own = rest earlier place (clear-later earlier x names clear)
      by rest false own =
          let here : stands x earlier ≡ false = clear x (ap (λ b. b || has_name x names) (same_self x)) in
          rw (own, here) (rest (earlier ++ listed_between master me x ∷ []) (place + 1) (clear-push earlier x names apart.0 clear))

  pub once : (config : Config) → peer_twice me [] 0 (list_with master me (names_of config)) ≡ None
  once config = none_twice [] 0 (names_of config) (apart_named config) (λ name there. refl)

  -- ---- rows

  or_comm : (a b : Bool) → (a || b) ≡ (b || a)
  or_comm true true = refl
  or_comm true false = refl
  or_comm false true = refl
  or_comm false false = refl

  row_seen : (peer x : NodeId) (rows : List Row) (one : Bool) → same_name x me ≡ false → row_of_peer peer rows ≡ row_expected master me one peer
      → (same : Bool) → same_name x peer ≡ same → cond same (Some (row_between master me x)) (row_of_peer peer rows) ≡ row_expected master me (same || one) peer
  row_seen peer x rows one other later true same =
      let is : x ≡ peer = are_same x peer same in
      let apart : same_name peer me ≡ false = ap (λ (n : NodeId). same_name n me) (sym is) ∙ other in
      ap (λ (n : NodeId). Some (row_between master me n)) is ∙ sym (ap (λ b. cond (not b) (Some (row_between master me peer)) None) apart)
  row_seen peer x rows one other later false same = later

  row_among : (peer : NodeId) (names : List NodeId) → row_of_peer peer (map row_listed (list_with master me names)) ≡ row_expected master me (has_name peer names) peer
  row_among peer [] = refl
  row_among peer (x ∷ names) = by (row_among peer names) (same_name x me) refl
    where
      by : row_of_peer peer (map row_listed (list_with master me names)) ≡ row_expected master me (has_name peer names) peer → (mine : Bool) → same_name x me ≡ mine
          → row_of_peer peer (map row_listed (cond mine (list_with master me names) (listed_between master me x ∷ list_with master me names))) ≡ row_expected master me (same_name x peer || has_name peer names) peer
      by later true own =
          row_skipped master me peer x (map row_listed (list_with master me names)) (has_name peer names) own later
          ∙ ap (λ b. row_expected master me b peer) (or_comm (has_name peer names) (same_name x peer))
      by later false own = row_seen peer x (map row_listed (list_with master me names)) (has_name peer names) own later (same_name x peer) refl

  pub rows_named : (config : Config) (peer : NodeId) → row_of_peer peer (map row_listed (list_with master me (names_of config))) ≡ row_expected master me (is_named config peer) peer
  rows_named config peer = row_among peer (names_of config) ∙ ap (λ b. row_expected master me b peer) (has_named config peer)

-- ---- one more

pub fits_push : (list : List Listed) (x : Listed) → AllListedFit list → ListedFits x → AllListedFit (list ++ x ∷ [])
fits_push [] x all here = (here, tt)
fits_push (y ∷ list) x all here = (all.0, fits_push list x all.1 here)

-- one name more is listed, or is me
pub listed_next : (master : List ℕ) (me : NodeId) (names : List NodeId) (i : ℕ) (d : NodeId) (old new : List Listed) → i < length names
    → old ≡ list_with master me (take i names) → new ≡ old ++ list_with master me (get_or names i d ∷ []) → new ≡ list_with master me (take (i + 1) names)
listed_next master me names i d old new within so_far grown =
    let taken : take (i + 1) names ≡ take i names ++ get_or names i d ∷ [] = rw add-one (take-suc names i d within) in
    grown ∙ ap (λ l. l ++ list_with master me (get_or names i d ∷ [])) so_far
    ∙ sym (list_with-append master me (take i names) (get_or names i d ∷ []))
    ∙ ap (list_with master me) (sym taken)

-- a name that isn't mine is listed, and mine isn't
pub listed_other : (master : List ℕ) (me name : NodeId) (old new : List Listed) (listed : Listed) → same_name name me ≡ false → listed ≡ listed_between master me name
    → new ≡ old ++ listed ∷ [] → new ≡ old ++ list_with master me (name ∷ [])
listed_other master me name old new listed other is grown =
    grown ∙ ap (λ y. old ++ y ∷ []) is ∙ ap (λ b. old ++ cond b [] (listed_between master me name ∷ [])) (sym other)

pub listed_mine : (master : List ℕ) (me name : NodeId) (list : List Listed) → same_name name me ≡ true → list ≡ list ++ list_with master me (name ∷ [])
listed_mine master me name list same =
    sym (append-nil list) ∙ ap (λ b. list ++ cond b [] (listed_between master me name ∷ [])) (sym same)
