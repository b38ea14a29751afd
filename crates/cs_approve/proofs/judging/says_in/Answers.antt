use Rattle.std.proofs.Common.{sym, subst}
use Rattle.std.specs.Str.{IsUtf8}
use Rattle.cs_approve.proofs.Names.{name_text}
use Rattle.cs_approve.proofs.judging.says_in.Goals as goal

pub unreachable-requires : goal.unreachable-requires
unreachable-requires g c = c.in-Err.ensures.cases.0 (subst IsUtf8 (sym c.as_slice.ensures) (name_text c.args.trace.now.method c.requires.fits.method))
