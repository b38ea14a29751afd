use Rattle.std.proofs.Common.{◌∙◌, refl, ap, sym, length}
use Rattle.std.specs.Prelude.{bytes_eq}
use Rattle.std.proofs.lemmas.Option.{slice_get_read, slice_get_past}
use Rattle.cs_check_rules.specs.Chain.{head_of}
use Rattle.cs_audit_rules.specs.Slots.{is_just, is_head}
use Rattle.cs_audit.proofs.stand.is_head.Goals as goal

pub returns-in-Some-get : goal.returns-in-Some-get
returns-in-Some-get c =
    let heads = c.args.heads.now in
    let look = c.in-Some-get.ensures.lookup in
    c.eq.ensures
    ∙ ap (λ d. bytes_eq d c.in-Some-get.head.now) c.checkpoint_head.ensures
    ∙ sym (ap (is_just (head_of c.in-Some.checkpoint)) (slice_get_read heads (length heads) c.in-Some.checkpoint.number c.in-Some-get.head.now refl look.3.0 look.1))
    ∙ ap (is_head heads) (sym c.in-Some.is)

pub returns-in-None-get : goal.returns-in-None-get
returns-in-None-get c =
    let heads = c.args.heads.now in
    sym (ap (is_just (head_of c.in-Some.checkpoint)) (slice_get_past heads c.in-Some.checkpoint.number c.in-None-get.ensures.lookup.3))
    ∙ ap (is_head heads) (sym c.in-Some.is)
