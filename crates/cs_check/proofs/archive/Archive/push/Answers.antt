use Rattle.std.specs.Prelude.{IfSome}
use Rattle.std.proofs.Common.{rules, ◌≡◌, ℕ, true, List, Option, [], ◌∷◌, ◌++◌, length, sym, ap, subst, ◌∙◌}
use Rattle.cs_tx_types.specs.declared.checkpoint.Checkpoint.{Checkpoint}
use Rattle.cs_tx_types.specs.declared.limits.TheConstants.{COVERED}
use Rattle.cs_check_rules.specs.Chain.{KeptLog, with_slot}
use Rattle.cs_check.specs.Root.{table_root}
use Rattle.cs_check.specs.Archives.{Archived, AreInPlace}
use Rattle.cs_check.proofs.Placed.{one_more}
use Rattle.cs_check.proofs.Keeping.{last-covers}
use Rattle.cs_check.proofs.archive.Archive.push.Goals as goal

pub invariant_of-self-2 : goal.invariant_of-self-2
invariant_of-self-2 c = λ again.
    let whole : c.self.inside.whole ≡ true = search rules in
    let of = c.self.invariant whole in
    let leaf = c.args.leaf.now in
    let next : leaf.slot ≡ length of.log.leaves =
    c.requires.next ∙ ap (λ (a : Archived). a.kept.slots) (sym c.self.view_is) ∙ ap (λ (k : KeptLog). k.slots) of.kept_is in
    record {
      log = with_slot c.in_ok-bytes.bytes.items (table_root c.args.table.now.rows) of.log;
      kept_is = c.in_ok-made.ensures.log of.log of.kept_is;
      in_place = subst (λ (bytes : List ℕ). AreInPlace (of.log.leaves ++ bytes ∷ [])) (sym c.in_ok-bytes.ensures.encoded)
          (one_more of.log.leaves leaf c.requires.fits next of.in_place);
    }

pub returns-clause-covers : goal.returns-clause-covers
returns-clause-covers c =
    let whole : c.self.inside.whole ≡ true = search rules in
    let of = c.self.invariant whole in
    let Covers : Option Checkpoint → Type 0 = λ made. IfSome made (λ checkpoint. checkpoint.leaves ≡ COVERED) in
    subst Covers (sym (c.in_ok-made.ensures.made of.log of.kept_is))
    (last-covers (with_slot c.in_ok-bytes.bytes.items (table_root c.args.table.now.rows) of.log))
