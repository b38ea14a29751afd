use Rattle.std.proofs.Common.{is_none, ap, sym}
use Rattle.cs_sbac.proofs.setting.is_well_formed.Goals as goal

pub returns-then-known : goal.returns-then-known
returns-then-known c = sym (ap is_none (c.requires.known c.if-known.true))
