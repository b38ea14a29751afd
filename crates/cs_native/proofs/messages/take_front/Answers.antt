use Rattle.cs_native.proofs.messages.take_front.Goals as goal

pub take_name-requires : goal.take_name-requires
take_name-requires c = rw c.method.ensures c.fits.ensures.method.0.0

pub take_keyed-requires : goal.take_keyed-requires
take_keyed-requires c = rw c.inputs.ensures.lent c.fits.ensures.inputs

pub take_keyed-requires-2 : goal.take_keyed-requires-2
take_keyed-requires-2 c = rw c.references.ensures.lent c.fits.ensures.references
