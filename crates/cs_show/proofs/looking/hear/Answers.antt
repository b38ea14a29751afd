use Rattle.std.proofs.Common.{◌∷◌, sym, ap, ◌∙◌}
use Rattle.std.specs.Option.{option_copied}
use Rattle.cs_io.specs.declared.link.MemInput.TheVariants as came
use Rattle.cs_show.proofs.Runs.{told-so}
use Rattle.cs_show.proofs.looking.hear.Goals as goal

pub returns-in-Some-clause-hears : goal.returns-in-Some-clause-hears
returns-in-Some-clause-hears c = λ k past stands.
    told-so k (came.Datagram c.args.bytes.now ∷ past) c.in-Some.line.now c.told.result
    (sym (c.seen.ensures k (came.Datagram c.args.bytes.now ∷ past) (c.in-Ok.ensures k past stands)) ∙ ap option_copied c.in-Some.is) c.told.ensures.told

pub returns-in-None-clause-hears : goal.returns-in-None-clause-hears
returns-in-None-clause-hears c = λ k past stands. (
  c.in-Ok.ensures k past stands,
  sym (c.seen.ensures k (came.Datagram c.args.bytes.now ∷ past) (c.in-Ok.ensures k past stands)) ∙ ap option_copied c.in-None.is,
)
