use Rattle.std.proofs.Common.{sym, ap, ◌∙◌}
use Rattle.cs_io.specs.declared.link.MemInput.TheVariants as came
use Rattle.cs_client.specs.Inputs.{said_by_opened}
use Rattle.cs_show.proofs.Told.{unheard}
use Rattle.cs_show.proofs.looker.hear.Goals as goal

pub returns-in-Ok : goal.returns-in-Ok
returns-in-Ok c = λ past is.
    c.take.ensures past (came.Datagram c.args.bytes.now) (ap said_by_opened (sym c.in_ok-from.ensures.said ∙ c.in-Ok.is)) is

pub returns-in-Err : goal.returns-in-Err
returns-in-Err c = λ past is.
    is ∙ sym (unheard c.args.lookup.now (came.Datagram c.args.bytes.now) past (ap said_by_opened (sym c.in_ok-from.ensures.said ∙ c.in-Err.is)))
