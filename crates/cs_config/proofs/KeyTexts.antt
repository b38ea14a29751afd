-- What is printed of keys is exactly their text, and the keys alone make it.
use Rattle.std.proofs.Common.{◌≡◌, ℕ, Bool, true, false, List, [], ◌∷◌, ◌++◌, Some, refl, sym, ap, subst, ◌∙◌, append_assoc}
use Rattle.std.specs.Prelude.{codes, not, ◌&&◌, None, if◌then◌else◌}
use Rattle.std.specs.List.{AllByRecursion}
use Rattle.hex.specs.Hex.{encode_lower}
use Rattle.toml.specs.Data.{string}
use Rattle.toml.specs.Tables.{Expression, key_value, array_table}
use Rattle.toml.specs.Text.{IsLinesText, IsDocumentText, expressions, are_tables, elements}
use Rattle.toml_writer.specs.Text.{key_text}
use Rattle.cs_base.specs.declared.config.Config.{Config}
use Rattle.cs_base.specs.declared.node_id.NodeId.{NodeId}
use Rattle.cs_base.specs.NodeId.{is_named, node_text, same_name}
use Rattle.cs_wire.specs.AllNames.{names_of}
use Rattle.cs_wire.specs.Keys.{Listed, row_between}
use Rattle.cs_wire.specs.declared.keys.Row.{Row}
use Rattle.cs_config.specs.Printed.{listed_between, list_with, peers_data, keys_data}
use Rattle.cs_config.specs.KeyText.{text_line, peer_texts, peers_text, GiveSameKeys, KeysAloneTell}
use Rattle.cs_config.proofs.Named.{IsNamed, all_named}

-- ---- the lines

abbrev peer-lines : List Listed → List Expression
peer-lines [] = []
peer-lines (x ∷ list) =
    (([], codes "peers"), array_table)
    ∷ (([], codes "from"), key_value (string (encode_lower x.2)))
    ∷ (([], codes "name"), key_value (string (node_text x.0)))
    ∷ (([], codes "to"), key_value (string (encode_lower x.1)))
    ∷ peer-lines list

all-tables : (list : List Listed) → are_tables (peers_data list) ≡ true
all-tables [] = refl
all-tables (x ∷ list) = all-tables list

peer-elements : (list : List Listed) → elements ([], codes "peers") (peers_data list) ≡ peer-lines list
peer-elements [] = refl
peer-elements (x ∷ list) = ap (λ (l : List Expression).
    (([], codes "peers"), array_table)
    ∷ (([], codes "from"), key_value (string (encode_lower x.2)))
    ∷ (([], codes "name"), key_value (string (node_text x.0)))
    ∷ (([], codes "to"), key_value (string (encode_lower x.1)))
    ∷ l) (peer-elements list)

append-none : (xs : List Expression) → xs ++ [] ≡ xs
append-none [] = refl
append-none (x ∷ xs) = ap (λ (l : List Expression). x ∷ l) (append-none xs)

-- ---- their text

-- the lines of the peers
lines-text : (list : List Listed) (text : List ℕ) → IsLinesText false true (peer-lines list) text → text ≡ peer_texts list
unfolding key_text
lines-text [] text is = is
lines-text (x ∷ list) text (head, rest, all, heads, (from, rest1, all1, (said1, from_is, said1_is), (name, rest2, all2, (said2, name_is, said2_is), (to, rest3, all3, (said3, to_is, said3_is), later)))) =
    let H = codes "\n[[peers]]\n" in
    let A = text_line (codes "from") (encode_lower x.2) in
    let B = text_line (codes "name") (node_text x.0) in
    let C = text_line (codes "to") (encode_lower x.1) in
    let P = peer_texts list in
    let line : List ℕ → List ℕ → List ℕ = λ field said. field ++ (codes " = " ++ (said ++ codes "\n")) in
    let a : from ≡ A = from_is ∙ ap (line (codes "from")) said1_is in
    let b : name ≡ B = name_is ∙ ap (line (codes "name")) said2_is in
    let c : to ≡ C = to_is ∙ ap (line (codes "to")) said3_is in
    let last : rest3 ≡ P = lines-text list rest3 later in
    let three : rest2 ≡ C ++ P = all3 ∙ ap (λ (t : List ℕ). t ++ rest3) c ∙ ap (λ (r : List ℕ). C ++ r) last in
    let two : rest1 ≡ B ++ (C ++ P) = all2 ∙ ap (λ (t : List ℕ). t ++ rest2) b ∙ ap (λ (r : List ℕ). B ++ r) three in
    let one : rest ≡ A ++ (B ++ (C ++ P)) = all1 ∙ ap (λ (t : List ℕ). t ++ rest1) a ∙ ap (λ (r : List ℕ). A ++ r) two in
    all ∙ ap (λ (t : List ℕ). t ++ rest) heads ∙ ap (λ (r : List ℕ). H ++ r) one
    ∙ sym (append_assoc H (A ++ (B ++ C)) P ∙ ap (λ (r : List ℕ). H ++ r) (append_assoc A (B ++ C) P ∙ ap (λ (r : List ℕ). A ++ r) (append_assoc B C P)))

abbrev me-line : NodeId → Expression
me-line me = (([], codes "me"), key_value (string (node_text me)))

all-lines : (me : NodeId) (x : Listed) (list : List Listed) → expressions (keys_data me (x ∷ list)) ≡ me-line me ∷ peer-lines (x ∷ list)
all-lines me x list = rw (all-tables list) (ap (λ (l : List Expression). me-line me ∷ l) (append-none _ ∙ peer-elements (x ∷ list)))

pub listed-text : (me : NodeId) (list : List Listed) (text : List ℕ) → IsDocumentText false (keys_data me list) text → text ≡ text_line (codes "me") (node_text me) ++ peers_text list
unfolding key_text
listed-text me [] text (this, rest, all, (said, this_is, said_is), (peers, rest1, all1, (said1, peers_is, (inner, said1_is, inner_is)), none)) =
    let line : List ℕ → List ℕ → List ℕ = λ field said. field ++ (codes " = " ++ (said ++ codes "\n")) in
    let first : this ≡ text_line (codes "me") (node_text me) = this_is ∙ ap (line (codes "me")) said_is in
    let array : said1 ≡ codes "[]" = said1_is ∙ ap (λ (t : List ℕ). codes "[" ++ t) inner_is in
    let second : peers ≡ codes "peers = []\n" = peers_is ∙ ap (line (codes "peers")) array in
    let later : rest ≡ codes "peers = []\n" = all1 ∙ ap (λ (t : List ℕ). t ++ rest1) second ∙ ap (λ (r : List ℕ). codes "peers = []\n" ++ r) none in
    all ∙ ap (λ (t : List ℕ). t ++ rest) first ∙ ap (λ (r : List ℕ). text_line (codes "me") (node_text me) ++ r) later
listed-text me (x ∷ list) text is = by (subst (λ (es : List Expression). IsLinesText false false es text) (all-lines me x list) is)
  where
    by : IsLinesText false false (me-line me ∷ peer-lines (x ∷ list)) text → text ≡ text_line (codes "me") (node_text me) ++ peer_texts (x ∷ list)
    by (this, rest, all, (said, this_is, said_is), later) =
        let line : List ℕ → List ℕ → List ℕ = λ field said. field ++ (codes " = " ++ (said ++ codes "\n")) in
        let first : this ≡ text_line (codes "me") (node_text me) = this_is ∙ ap (line (codes "me")) said_is in
        all ∙ ap (λ (t : List ℕ). t ++ rest) first ∙ ap (λ (r : List ℕ). text_line (codes "me") (node_text me) ++ r) (lines-text (x ∷ list) rest later)

-- the whole text, by its list
abbrev pub listed_text : NodeId → List Listed → List ℕ
listed_text me list = text_line (codes "me") (node_text me) ++ peers_text list

-- ---- the keys alone

row-of : (one mine : Bool) (x y : Row) → one ≡ true → mine ≡ false → (if one && not mine then Some x else None) ≡ (if one && not mine then Some y else None) → x ≡ y
row-of true true x y is other same = absurd cc
row-of true false x y is other same = cc
row-of false mine x y is other same = absurd cc

module _ (config : Config) (me : NodeId) (master other : List ℕ) (same : GiveSameKeys config me master other) where
  same-list : (names : List NodeId) → AllByRecursion (IsNamed config) names → list_with master me names ≡ list_with other me names
  same-list [] named = refl
  same-list (peer ∷ names) named = by (same_name peer me) refl (same-list names named.1)
    where
      by : (mine : Bool) → same_name peer me ≡ mine → list_with master me names ≡ list_with other me names
          → (if mine then list_with master me names else listed_between master me peer ∷ list_with master me names) ≡ (if mine then list_with other me names else listed_between other me peer ∷ list_with other me names)
      by true is later = later
      by false is later =
          let row = row-of (is_named config peer) (same_name peer me) (row_between master me peer) (row_between other me peer) named.0 is (same peer) in
          let listed : listed_between master me peer ≡ listed_between other me peer = ap (λ (r : Row). (r.peer, r.to, r.from)) row in
          ap (λ (x : Listed). x ∷ list_with master me names) listed ∙ ap (λ (list : List Listed). listed_between other me peer ∷ list) later

pub keys-alone : KeysAloneTell
keys-alone config me master other same =
    ap (λ (list : List Listed). text_line (codes "me") (node_text me) ++ peers_text list) (same-list config me master other same (names_of config) (all_named config))
