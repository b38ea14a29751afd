use Rattle.std.proofs.Common.{◌≡◌, ℕ, ◌+◌, ◌<◌, List, [], ◌∷◌, ◌++◌, length, sym, ap, subst, ◌∙◌, arith}
use Rattle.std.specs.Prelude.{All}
use Rattle.std.proofs.lemmas.List.{map_push, length-map, length_push}
use Rattle.std.proofs.lemmas.List.Elements.{All-push}
use Rattle.cs_merkle.specs.Tree.{leaves_of_vectors}
use Rattle.cs_check_rules.specs.Chain.{kept_of, IsLeaf}
use Rattle.cs_check.specs.Kept.{kept_by, chain_with_leaf, next_behind, with_checkpoint}
use Rattle.cs_check.specs.Leaves.{Chained}
use Rattle.cs_check.proofs.Keeping.{goes_on, none_made, covers, last_made}
use Rattle.cs_check.specs.Root.{table_root}
use Rattle.cs_check.proofs.chain.Chain.push.Goals as goal

pub invariant_of-self-then-len : goal.invariant_of-self-then-len
invariant_of-self-then-len c =
    let old = leaves_of_vectors c.self.inside.uncovered.items in
    let leaf = c.args.leaf.items in
    let leaves_is : leaves_of_vectors c.push.new.self.items ≡ old ++ leaf ∷ [] =
    ap leaves_of_vectors c.in_ok-push.ensures.items ∙ map_push (λ v. v.items) c.self.inside.uncovered.items c.args.leaf in
    let long : length (leaves_of_vectors c.push.new.self.items) ≡ length old + 1 = ap length leaves_is ∙ length_push old leaf in
    record {
      enough = omega (arith, c.self.invariant.enough, long);
      few = omega (arith, long, length-map c.self.inside.uncovered.items (λ v. v.items), c.self.inside.uncovered.ok.0);
      leaves = subst (λ (leaves : List (List ℕ)). All IsLeaf leaves) (sym leaves_is) (All-push IsLeaf old leaf c.self.invariant.leaves c.requires.leaf);
      cut = c.self.invariant.cut;
    }

pub returns-then-len-clause-log : goal.returns-then-len-clause-log
returns-then-len-clause-log c = λ log is.
    let kept = kept_by c.self.inside.shard c.self.inside.slots c.self.inside.covered.items (leaves_of_vectors c.self.inside.uncovered.items) c.self.inside.heads.items in
    let here : kept ≡ kept_of log = ap (λ (x : Chained). x.kept) c.self.view_is ∙ is in
    let old = leaves_of_vectors c.self.inside.uncovered.items in
    let leaf = c.args.leaf.items in
    let leaves_is : leaves_of_vectors c.push.new.self.items ≡ old ++ leaf ∷ [] =
    ap leaves_of_vectors c.in_ok-push.ensures.items ∙ map_push (λ v. v.items) c.self.inside.uncovered.items c.args.leaf in
    let few : length old + 1 < 16 =
    omega (arith, length-map c.self.inside.uncovered.items (λ v. v.items), c.self.inside.uncovered.ok.0) in
    let slots_is : c.in-Some.slots ≡ c.self.inside.slots + 1 = omega arith in
    (λ i. kept_by c.self.inside.shard (slots_is i) c.self.inside.covered.items (leaves_is i) c.self.inside.heads.items)
    ∙ goes_on log kept here c.self.invariant leaf (table_root c.args.table.now.rows) few

pub returns-then-len-clause-made : goal.returns-then-len-clause-made
returns-then-len-clause-made c = λ log is.
    let kept = kept_by c.self.inside.shard c.self.inside.slots c.self.inside.covered.items (leaves_of_vectors c.self.inside.uncovered.items) c.self.inside.heads.items in
    let here : kept ≡ kept_of log = ap (λ (x : Chained). x.kept) c.self.view_is ∙ is in
    let old = leaves_of_vectors c.self.inside.uncovered.items in
    let few : length old + 1 < 16 =
    omega (arith, length-map c.self.inside.uncovered.items (λ v. v.items), c.self.inside.uncovered.ok.0) in
    none_made log kept here c.self.invariant c.args.leaf.items (table_root c.args.table.now.rows) few

pub returns-clause-log : goal.returns-clause-log
returns-clause-log c = λ log is.
    let kept = kept_by c.self.inside.shard c.self.inside.slots c.self.inside.covered.items (leaves_of_vectors c.self.inside.uncovered.items) c.self.inside.heads.items in
    let here : kept ≡ kept_of log = ap (λ (x : Chained). x.kept) c.self.view_is ∙ is in
    let old = leaves_of_vectors c.self.inside.uncovered.items in
    let leaf = c.args.leaf.items in
    let last : length old + 1 ≡ 16 =
    omega (arith, c.self.invariant.few, length-map c.self.inside.uncovered.items (λ v. v.items), c.self.inside.uncovered.ok.0) in
    let slots_is : c.in-Some.slots ≡ c.self.inside.slots + 1 = omega arith in
    let made = c.in_ok-checkpoint.checkpoint in
    let made_is = c.in_ok-checkpoint.ensures.checkpoint
    ∙ ap (next_behind c.self.inside.shard c.self.inside.heads.items (old ++ leaf ∷ [])) c.in_ok-table_root.ensures.root in
    c.in_ok-checkpoint.ensures.kept
    ∙ ap (λ (n : ℕ). with_checkpoint made (chain_with_leaf leaf (kept_by c.self.inside.shard n c.self.inside.covered.items old c.self.inside.heads.items))) slots_is
    ∙ covers log kept here c.self.invariant leaf (table_root c.args.table.now.rows) last made made_is

pub returns-clause-made : goal.returns-clause-made
returns-clause-made c = λ log is.
    let kept = kept_by c.self.inside.shard c.self.inside.slots c.self.inside.covered.items (leaves_of_vectors c.self.inside.uncovered.items) c.self.inside.heads.items in
    let here : kept ≡ kept_of log = ap (λ (x : Chained). x.kept) c.self.view_is ∙ is in
    let old = leaves_of_vectors c.self.inside.uncovered.items in
    let leaf = c.args.leaf.items in
    let last : length old + 1 ≡ 16 =
    omega (arith, c.self.invariant.few, length-map c.self.inside.uncovered.items (λ v. v.items), c.self.inside.uncovered.ok.0) in
    let made_is = c.in_ok-checkpoint.ensures.checkpoint
    ∙ ap (next_behind c.self.inside.shard c.self.inside.heads.items (old ++ leaf ∷ [])) c.in_ok-table_root.ensures.root in
    last_made log kept here c.self.invariant leaf (table_root c.args.table.now.rows) last c.in_ok-checkpoint.checkpoint made_is
