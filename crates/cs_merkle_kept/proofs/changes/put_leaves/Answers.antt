use Rattle.std.proofs.Common.{◌≡◌, ℕ, ◌<◌, get_or, [], ◌-◌, length, take, drop, sym, ap, ◌∙◌, subst, arith}
use Rattle.std.specs.Prelude.{Contains}
use Rattle.std.specs.Map.{keys_of}
use Rattle.std.proofs.lemmas.List.{length-map, drop-map, take_rest, with_items_is}
use Rattle.cs_merkle.specs.Tree.{leaves_of_vectors}
use Rattle.cs_merkle_kept.specs.Leaves.{AreRising, IsAt, leaf_entry, leaf_entries}
use Rattle.cs_merkle_kept.specs.Puts.{IsPutFront, IsPutRest}
use Rattle.cs_merkle_kept.proofs.Whole.{all_put_is}
use Rattle.cs_merkle_kept.proofs.changes.put_leaves.Goals as goal

pub returns : goal.returns
returns c =
    let keys = leaves_of_vectors c.args.keys.now.items in
    let hashes = c.args.hashes.now.items in
    let entries = leaf_entries c.args.leaves.now in
    let new = c.put_front.new.hashes in
    let places = c.in_ok-places.places.items in
    let first = c.in_ok-first.first in
    let keys' = leaves_of_vectors c.put_rest.new.keys.items in
    let hashes' = c.put_rest.new.hashes.items in
    let front : IsPutFront keys entries hashes new places =
    subst (λ ks. IsPutFront (leaves_of_vectors ks) entries hashes new places) c.as_slice.ensures.value
    (subst (λ hs. IsPutFront (leaves_of_vectors c.as_slice.result.now) entries hs new places)
    c.as_mut_slice.ensures.value c.in_ok-places.ensures.front) in
    let count : c.len.result ≡ length places = omega (arith, c.len.ensures, c.in_ok-places.places.ok.0) in
    let part = take (length c.args.leaves.now - c.len.result) (drop c.len.result c.args.leaves.now) in
    let split : leaf_entries part ≡ drop (length places) entries =
    ap leaf_entries (take_rest c.args.leaves.now c.len.result)
    ∙ sym (drop-map leaf_entry c.len.result c.args.leaves.now)
    ∙ ap (λ (n : ℕ). drop n entries) count in
    let long : length new ≡ c.args.hashes.now.len =
    omega (arith, front.long, c.args.hashes.now.ok.0) in
    let rest : IsPutRest keys new (drop (length places) entries) keys' hashes' first =
    subst (λ es. IsPutRest keys new es keys' hashes' first) split
    (subst (λ hs. IsPutRest keys hs (leaf_entries part) keys' hashes' first)
    (with_items_is c.args.hashes.now new long) c.in_ok-first.ensures.rest) in
    let key = get_or (keys_of entries) (length places) [] in
    let ended = λ (less : length places < length entries) (there : Contains keys key).
    c.in_ok-places.ensures.ended (omega (arith, less, length-map c.args.leaves.now leaf_entry))
    (subst (λ ks. Contains (leaves_of_vectors ks) key) (sym c.as_slice.ensures.value) there) in
    let later = drop (length places) entries in
    let there = λ (rising : AreRising (keys_of later)) (some : 0 < length later).
    subst (λ es. IsAt keys' (get_or (keys_of es) 0 []) first) split
    (c.in_ok-first.ensures.place (subst (λ es. AreRising (keys_of es)) (sym split) rising)
    (omega (arith, some, ap length split, length-map part leaf_entry))) in
    all_put_is keys hashes entries new places keys' hashes' first front rest ended c.requires.rising there
